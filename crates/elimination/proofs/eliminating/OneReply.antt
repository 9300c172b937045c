-- 01, 'What the proofs have to settle': any two replies that the promise of a public call allows are equal, and so are all bytes of both buffers.
-- Assumes nothing.
use mathlib.Core.Path.{◌≡◌, refl, sym, ◌∙◌, ap, ap₂}
use mathlib.Core.Bool.{cond}
use native.Mathlib.Omega.{arith}
use lib.Dec.{eqb}
use mathlib.Core.List.{List}
use Prim.Native.Nat.{ℕ}
use Rattle.rules.specs.Eliminate.{Result, eliminate, eliminate_in}
use Rattle.std.specs.Prelude.{Ok, Err}
use Rattle.reading.proofs.Unique.{one-refusal}
use Rattle.elimination.specs.Verdicts.{verdict_no, number_of, verdict_of, place_of, length_of}
use Rattle.elimination.specs.Eliminating.{Reply, Gives}
use Rattle.elimination.specs.declared.Verdict.{Verdict}
use Rattle.elimination.specs.declared.Verdict.TheVariants.{No, Yes, Open}

-- what is delivered is known by its verdict and its length
verdict_by : ℕ → Verdict
verdict_by n = cond (eqb n 0) No (cond (eqb n 1) Yes Open)

verdict-back : (v : Verdict) → verdict_by (verdict_no v) ≡ v
unfolding verdict_by
verdict-back No = refl
verdict-back Yes = refl
verdict-back Open = refl

given : (v : Verdict) → verdict_no v ≡ 3 → ⊥
given No e = omega arith
given Yes e = omega arith
given Open e = omega arith

told : (r s : Reply) → number_of r ≡ number_of s → verdict_of r ≡ verdict_of s → place_of r ≡ place_of s → length_of r ≡ length_of s → r ≡ s
told (Ok d) (Ok e) n v p l = ap Ok (ap₂ (λ (w : Verdict) (k : ℕ). record { verdict = w; length = k }) (sym (verdict-back d.verdict) ∙ ap verdict_by v ∙ verdict-back e.verdict) l)
told (Ok d) (Err s) n v p l = absurd (given d.verdict v)
told (Err r) (Ok e) n v p l = absurd (given e.verdict (sym v))
told (Err r) (Err s) n v p l = ap Err (one-refusal r s n p)

pub one-reply : (o : Result) (r s : Reply) (a b v w : List ℕ) → Gives o r a v → Gives o s b w → (r ≡ s) × (a ≡ b) × (v ≡ w)
one-reply o r s a b v w g h = (
  told r s (g.0 ∙ sym h.0) (g.1 ∙ sym h.1) (g.2 ∙ sym h.2) (g.3 ∙ sym h.3),
  g.4 ∙ sym h.4,
  g.5 ∙ sym h.5,
)

pub one-elimination : (sheet result work : List ℕ) (r s : Reply) (a b v w : List ℕ) → Gives (eliminate sheet result work) r a v → Gives (eliminate sheet result work) s b w
    → (r ≡ s) × (a ≡ b) × (v ≡ w)
one-elimination sheet result work = one-reply (eliminate sheet result work)

-- whatever the room holds
pub one-elimination-in : (n : ℕ) (sheet result work : List ℕ) (r s : Reply) (a b v w : List ℕ) → Gives (eliminate_in n sheet result work) r a v → Gives (eliminate_in n sheet result work) s b w
    → (r ≡ s) × (a ≡ b) × (v ≡ w)
one-elimination-in n sheet result work = one-reply (eliminate_in n sheet result work)
