-- What a row of the starred table that is answered 0 says of its formula: the run ends, and what it ends in, finished, is the formula that the row
-- delivers. Assumes nothing.
use Prim.Native.Nat.{ℕ, ◌≤◌}
use mathlib.Core.Path.{◌≡◌, refl, sym, ◌∙◌, ap, subst}
use mathlib.Core.Bool.{Bool, true, false, cond}
use mathlib.Core.List.{List, [], append-nil}
use native.Mathlib.Omega.{arith}
use lib.Dec.{ltb}
use lib.ListN.{length, replicate, length-replicate}
use Rattle.reading.specs.Limits.{sheet_bytes, sheet_levels, result_bytes, result_levels}
use Rattle.reading.specs.Formula.{Formula, encode, Fits}
use Rattle.reading.specs.Reading.{good, formula_in}
use Rattle.reading.specs.Answers.{reading}
use Rattle.reading.specs.Answers.{Reply}
use Rattle.reading.specs.Answers.{Done, Refused}
use Rattle.reading.proofs.Laws.{reads}
use Rattle.reading.proofs.Trees.{encode_one}
use Rattle.reading.proofs.Refusals.{ReplyNumbered, reading-numbered}
use Rattle.rules.specs.Steps.{Run, ran, halted, eliminated}
use Rattle.rules.specs.Eliminate.{finished}
use Rattle.rules.proofs.Starred.{Answer, row, gives, Answered, answer_to, from_reading, from_run, refusing, delivering, eliminate-gives}
use Rattle.rules.proofs.Limits.Levels.{fits-wide, wide_fits}
use Rattle.rules.proofs.Limits.Copies.{finished-fits}
use Rattle.rules.proofs.Stepwise.Run.{eliminated-wide, eliminated-halted}

buffer : (n : ℕ) → (b : List ℕ) × (n ≤ length b)
buffer n = (replicate n 0, omega (arith, length-replicate {A = ℕ} n 0))

-- the run ends, and what it ends in, finished, is the formula that is delivered
abbrev pub EndsIn : Formula → Formula → Type 0
EndsIn f g = (h : Formula) × (eliminated f ≡ ran h) × (finished h ≡ g)

pub ends-in : (f g : Formula) (v n : ℕ) → Fits sheet_levels f → Fits result_levels g → Answered (row f (gives v n g)) → EndsIn f g
unfolding answer_to
ends-in f g v n w x holds = go (reading sheet_bytes sheet_levels (encode f)) refl (ap (from_reading (length (encode f)) (reading sheet_bytes sheet_levels (encode f))) (sym read) ∙ same)
  where
    read : formula_in sheet_levels (encode f) ≡ good f (length (encode f))
    read = rw (append-nil (encode f)) at (reads f sheet_levels [] w)

    same : answer_to (encode f) ≡ gives v n g
    same = let b = buffer result_bytes in sym (eliminate-gives (encode f) b.0 b.0 b.1 b.1) ∙ holds b.0 b.0 b.1 b.1

    number : (a : Answer) → a ≡ gives v n g → a.number ≡ 0
    number a e = ap (λ (a : Answer). a.number) e

    last : (h : Formula) → eliminated f ≡ ran h → (b : Bool) → cond b (refusing 12 (length (encode f))) (delivering (finished h)) ≡ gives v n g → EndsIn f g
    last h q true e = absurd (omega (arith, number _ e))
    last h q false e =
        let k = eliminated-wide result_levels f h (fits-wide f sheet_levels w) q in
        (h, q, encode_one (finished h) g result_levels result_levels (wide_fits (finished h) result_levels (finished-fits result_levels h k.0 k.1)) x (ap (λ (a : Answer). a.bytes) e))

    run_of : (r : Run) → eliminated f ≡ r → from_run (length (encode f)) r ≡ gives v n g → EndsIn f g
    run_of (halted e p) q h = absurd (omega (arith, number _ h, (eliminated-halted f e p q).low))
    run_of (ran h) q e = last h q (ltb result_bytes (length (encode (finished h)))) e

    go : (r : Reply) → reading sheet_bytes sheet_levels (encode f) ≡ r → from_reading (length (encode f)) r (good f (length (encode f))) ≡ gives v n g → EndsIn f g
    go (Refused e p) q h = let k = subst ReplyNumbered q (reading-numbered sheet_bytes sheet_levels (encode f)) in absurd (omega (arith, number _ h, k.0))
    go (Done k) q h = run_of (eliminated f) refl h
