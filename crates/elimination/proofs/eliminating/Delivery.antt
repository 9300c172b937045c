-- 01, 'Finishing pass': the bytes at an elimination's end. What the pass leaves, what is cleared, the verdict by the result's bytes, and what is
-- delivered. Assumes nothing.
use Prim.Native.Nat.{ℕ, ◌-◌, ◌≤◌, ◌<◌}
use mathlib.Core.Path.{◌≡◌, refl, sym, ◌∙◌, ap, ap₂, subst}
use mathlib.Core.Bool.{Bool, true, false, cond}
use mathlib.Core.List.{List, [], ◌∷◌, ◌++◌}
use native.Mathlib.Omega.{arith}
use lib.Dec.{ltb}
use lib.ListN.{length, take, drop, replicate, length-replicate, length-append}
use borrow.Rule.Slice.PartMut.{mid_of, put_mid, mid_len, same_len_mid, Post-is}
use lib.Seq.{length-take-le, take_at}
use borrow.Author.Tests.{lt-ltb, le-ltb}
use Rattle.reading.specs.Bytes.{zeros}
use Rattle.reading.specs.AnswerNumbers.{long_result}
use Rattle.reading.specs.Limits.{result_bytes, result_levels}
use Rattle.reading.specs.Formula.{Formula, atom, not, list, quant, window, none, more, encode, encodes, record_bytes, field_bytes, Fits}
use Rattle.reading.specs.Reading.{Exactly}
use Rattle.reading.specs.Views.{shape_of}
use Rattle.reading.specs.declared.Shape.{Shape}
use Rattle.reading.proofs.Laws.{ints-long}
use Rattle.reading.proofs.Lengths.{four-long}
use Rattle.rules.specs.Lists.{decided, known}
use Rattle.rules.specs.Eliminate.{Result, verdict_by, cleared, refused, delivered}
use Rattle.elimination.specs.Stepping.{held, Stands}
use Rattle.elimination.specs.Eliminating.{Reply, Gives}
use Rattle.elimination.proofs.running.RunLaws.{held-is, stands-as, held-long}

-- ---- zeros at the start of a buffer

pub cleared-is : (d y : List ℕ) → y ≡ replicate (length (take result_bytes d)) 0 → result_bytes ≤ length d → y ++ drop result_bytes d ≡ cleared d
cleared-is d y e h = ap (λ (z : List ℕ). z ++ drop result_bytes d) (e ∙ ap (λ (n : ℕ). replicate n 0) (length-take-le result_bytes d h))

-- ---- the verdict

-- only the true and the false record have six bytes
verdict-other : (g : Formula) (d : ℕ) → Fits d g → (length (encode g) ≡ 6 → ⊥) → verdict_by (known g) ≡ 2
unfolding encode record_bytes field_bytes
verdict-other (atom c ns) d w h = refl
verdict-other (not f) d w h = refl
verdict-other (list b none) d w h = absurd (h refl)
verdict-other (list b (more f fs)) d w h = refl
verdict-other (quant b v f) d w h = refl
verdict-other (window v lo hi) d w h = refl

verdict-six : (g : Formula) (d : ℕ) → Fits d g → length (encode g) ≡ 6 → (b : Bool) × (g ≡ list b none)
unfolding encode record_bytes field_bytes
verdict-six (atom c ns) d w h = absurd (omega (arith, w.1.0, ints-long ns))
verdict-six (not f) d w h = absurd (omega (arith, four-long f))
verdict-six (list b none) d w h = (b, refl)
verdict-six (list b (more f fs)) d w h = absurd (omega (arith, four-long f, length-append (encode f) (encodes fs)))
verdict-six (quant b v f) d w h = absurd (omega (arith, four-long f))
verdict-six (window v lo hi) d w h = absurd (omega (arith, ints-long (lo ∷ hi ∷ [])))

pub verdict-list : (n : ℕ) (s : List ℕ) → Exactly (take n s) (held n s) → n ≤ length s → n ≡ 6 → (b : Bool) × (held n s ≡ list b none)
verdict-list n s x h e = verdict-six (held n s) result_levels x.fits (sym (ap length x.bytes) ∙ length-take-le n s h ∙ e)

-- by what the record says
pub verdict-said : {f : Formula} {b all : Bool} → f ≡ list b none → Shape.List all ≡ shape_of f → verdict_by (known f) ≡ cond all 1 0
verdict-said {b = b} {all} e h =
    let k : Shape.List all ≡ Shape.List b = h ∙ ap shape_of e in
    let same : all ≡ b = cc in
    ap (λ (f : Formula). verdict_by (known f)) e ∙ sure-verdict b ∙ ap (λ (y : Bool). cond y 1 0) (sym same)
  where
    sure-verdict : (b : Bool) → verdict_by (decided b) ≡ cond b 1 0
    sure-verdict true = refl
    sure-verdict false = refl

pub verdict-long : (n : ℕ) (s : List ℕ) → Exactly (take n s) (held n s) → n ≤ length s → (n ≡ 6 → ⊥) → verdict_by (known (held n s)) ≡ 2
verdict-long n s x h e = verdict-other (held n s) result_levels x.fits (λ l. e (sym (length-take-le n s h) ∙ ap length x.bytes ∙ l))

-- ---- what is delivered: zeros after the n bytes of a formula

module _ {n : ℕ} {a : List ℕ} (s : Stands n a) (y : List ℕ) (z : y ≡ replicate (length (mid_of n (result_bytes - n) a)) 0) where
  abbrev after : List ℕ
  after = put_mid n (result_bytes - n) a y

  zeros-are : y ≡ zeros (result_bytes - length (encode (held n a)))
  zeros-are = z ∙ ap zeros (mid_len n result_bytes a s.long ∙ ap (λ (k : ℕ). result_bytes - k) (sym (held-long n a s)))

  pub result-is : after ≡ encode (held n a) ++ (zeros (result_bytes - length (encode (held n a))) ++ drop result_bytes a)
  result-is = ap₂ (λ (b c : List ℕ). b ++ c) s.exactly.bytes (ap₂ (λ (b c : List ℕ). b ++ c) zeros-are (Post-is n result_bytes a s.few))

  result-take : take n after ≡ encode (held n a)
  result-take = ap (take n) result-is ∙ take_at (encode (held n a)) (zeros (result_bytes - length (encode (held n a))) ++ drop result_bytes a) n (held-long n a s)

  pub result-known : held n after ≡ held n a
  result-known = held-is n after (held n a) s.exactly.fits result-take

  result-long : length after ≡ length a
  result-long = same_len_mid n (result_bytes - n) a y (ap length z ∙ length-replicate (length (mid_of n (result_bytes - n) a)) 0)

  pub result-exactly : Exactly (take n after) (held n after)
  result-exactly = (stands-as n after (held n a) s.exactly.fits result-take s.few (omega (arith, result-long, s.long))).exactly

-- what is given where the finishing pass came to n bytes, for a sheet of m bytes: 12, or the result
abbrev pub outcome : ℕ → ℕ → List ℕ → List ℕ → Result
outcome n m a w = cond (ltb result_bytes n) (refused long_result m (cleared a) (cleared w)) (delivered (held n a) a w)

module _ (n m : ℕ) (a w : List ℕ) (r : Reply) (x y : List ℕ) where
  pub given-long : result_bytes < n → Gives (refused long_result m (cleared a) (cleared w)) r x y → Gives (outcome n m a w) r x y
  given-long h g = subst (λ (b : Bool). Gives (cond b (refused long_result m (cleared a) (cleared w)) (delivered (held n a) a w)) r x y) (sym (lt-ltb result_bytes n h)) g

  pub given-short : n ≤ result_bytes → Gives (delivered (held n a) a w) r x y → Gives (outcome n m a w) r x y
  given-short h g = subst (λ (b : Bool). Gives (cond b (refused long_result m (cleared a) (cleared w)) (delivered (held n a) a w)) r x y) (sym (le-ltb result_bytes n h)) g
