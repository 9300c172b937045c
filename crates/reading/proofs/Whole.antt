-- 01, 'Answers and their order': what is said of a whole sheet, by what reading its formula says, and that its place lies in the sheet.
-- Assumes nothing.
use mathlib.Core.Path.{◌≡◌, ap}
use native.Mathlib.Omega.{arith}
use Rattle.std.specs.Prelude.{Result, Ok, Err}
use mathlib.Core.List.{List}
use lib.ListN.{length}
use Prim.Native.Nat.{ℕ, ◌≤◌, zero-le}
use lib.Dec.{ltb}
use mathlib.Core.Bool.{Bool, true, false, cond}
use Rattle.reading.specs.AnswerNumbers.{long_sheet, bytes_after}
use Rattle.reading.specs.Formula.{Formula}
use Rattle.reading.specs.Reading.{Read, formula_in, good, fault}
use Rattle.reading.specs.Answers.{Reply, Done, Refused, told, reply_of, whole_of, reading, answer_of}
use Rattle.reading.specs.declared.Refused as Code
use Rattle.reading.proofs.Reading.{Inside, formula-within}

-- a formula that is read to the end: 9 where bytes follow
pub whole-done : (n k : ℕ) (o : Read Formula) → reply_of o ≡ Done k → whole_of n o ≡ cond (ltb k n) (Refused bytes_after k) (Done k)
whole-done n k (good f j) h = let e : j ≡ k = cc in rw e
whole-done n k (fault e p) h = cc

-- a refusal of the formula is one of the sheet
pub whole-refused : (n e p : ℕ) (o : Read Formula) → reply_of o ≡ Refused e p → whole_of n o ≡ Refused e p
whole-refused n e p (good f j) h = cc
whole-refused n e p (fault x y) h = cc

-- the bytes that a sheet takes, and the place of its refusal, lie in the sheet
reading-within : (limit d : ℕ) (s : List ℕ) → Inside (length s) (reading limit d s)
unfolding reading
reading-within limit d s = first (ltb limit (length s))
  where
    last : (b : Bool) (k : ℕ) → k ≤ length s → Inside (length s) (cond b (Refused bytes_after k) (Done k))
    last true k h = h
    last false k h = h

    whole : (o : Read Formula) → Inside (length s) (reply_of o) → Inside (length s) (whole_of (length s) o)
    whole (good f k) h = last (ltb k (length s)) k h
    whole (fault e p) h = h

    first : (b : Bool) → Inside (length s) (cond b (Refused long_sheet 0) (whole_of (length s) (formula_in d s)))
    first true = zero-le
    first false = whole (formula_in d s) (formula-within d s)

-- the place of an answer lies in the sheet, or at its end
pub place-within : (limit d : ℕ) (s : List ℕ) → (answer_of (reading limit d s)).place ≤ length s
place-within limit d s = go (reading limit d s) (reading-within limit d s)
  where
    go : (r : Reply) → Inside (length s) r → (answer_of r).place ≤ length s
    go (Done k) h = zero-le
    go (Refused n p) h = h

-- ---- what the code's answer is, by what it tells

pub told-done : (r : Result ℕ Code.Refused) {k : ℕ} → told r ≡ Done k → r ≡ Ok k
told-done (Ok n) e = let f : n ≡ _ = cc in ap Ok f
told-done (Err w) e = let z : ◌≡◌ {A = ℕ} 0 1 = cc in absurd (omega arith)
