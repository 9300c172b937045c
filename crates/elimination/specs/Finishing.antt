-- What the code of the finishing pass asks for and promises.
use Rattle.std.specs.Prelude.{ℕ, ◌≤◌, ◌<◌, ◌≡◌, true, false, List, length, take, drop, Option, Some, None}
use Rattle.reading.specs.Limits.{result_bytes, result_levels}
use Rattle.reading.specs.Formula.{Formula, encode, Fits, Free}
use Rattle.exact.specs.Atoms.{nowhere}
use Rattle.rules.specs.Pushing.{push}
use Rattle.rules.specs.Copies.{fits}
use Rattle.rules.specs.Eliminate.{finished, room_bytes}
use Rattle.elimination.specs.Stepping.{held, Stands}

-- the first n bytes of a buffer are a formula that the finishing pass takes: no quantifier is left, no number comes out too big, and what comes
-- out is within the limits
pub record Unquantified (n : ℕ) (b : List ℕ) : Type 0 where
  pub stands : Stands n b
  pub free : Free (held n b)
  pub numbers : fits nowhere (push false (held n b)) ≡ true
  pub levels : Fits result_levels (finished (held n b))

-- the pass over f in the buffer cur₀ answered the length of the result, and left the result at the start of cur, unless it is too long
pub record FinishesIn (f : Formula) (cur₀ cur : List ℕ) (r : ℕ) : Type 0 where
  pub answer : r ≡ length (encode (finished f))
  pub bytes : length (encode (finished f)) ≤ result_bytes → take (length (encode (finished f))) cur ≡ encode (finished f)
  pub rest : drop result_bytes cur ≡ drop result_bytes cur₀

-- in a work buffer or a room of n bytes; for want of room nothing is done
abbrev pub Finishes : Formula → ℕ → List ℕ → List ℕ → List ℕ → List ℕ → Option ℕ → Type 0
Finishes f n cur₀ cur work₀ work (Some r) = FinishesIn f cur₀ cur r × (drop result_bytes work ≡ drop result_bytes work₀)
Finishes f n cur₀ cur work₀ work None = (cur ≡ cur₀) × (work ≡ work₀) × (n < room_bytes)
