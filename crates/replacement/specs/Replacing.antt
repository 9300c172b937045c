-- What is told of a body before its copies are made, and what its replacement is: the list of the copies closed by the list rule, at the start of the output.
use Rattle.std.specs.Prelude.{ℕ, ◌≤◌, ◌+◌, ◌*◌, ◌<◌, ◌≡◌, Bool, false, true, List, length, take, Result, Ok, Err}
use Rattle.reading.specs.Limits.{result_bytes}
use Rattle.reading.specs.Formula.{Formula, encode, Formulas, list, none}
use Rattle.rules.specs.Pushing.{push}
use Rattle.rules.specs.Points.{terms, points}
use Rattle.rules.specs.Steps.{replacement, numbers_fit}
use Rattle.replacement.specs.declared.Body.{Body}
use Rattle.replacement.specs.declared.Copies.{Copies}
use Rattle.replacement.specs.declared.Unmade.{Unmade}
use Rattle.replacement.specs.declared.Unmade.TheVariants.{Big, Short}
use Rattle.replacement.specs.Listing.{Come, close_of, Space, truth, kept, big, going}
use Rattle.replacement.specs.Marking.{Marked}
use Rattle.replacement.specs.Trying.{Lists, Sure}

-- what is told of the body f for the variable x, of b bytes, and its marks
pub record Told (f : Formula) (x b : ℕ) (ms : List Bool) (y : Body) : Type 0 where
  pub variable : y.x ≡ x
  pub bytes : y.bytes ≡ b
  pub marks : y.way.marked ≡ true → (b < 40 * length ms) × Marked x ms b f
  pub sure : Sure y (points x (terms x f)) (push false f)

-- how a list came out, as a formula: true and false are records too
abbrev pub formula_for : Come → Formula
formula_for (truth b) = list b none
formula_for (kept g) = g
formula_for big = list true none

-- o begins with the bytes of g, and r is how many they are; or both r and they are more than a result may have
pub record Put (g : Formula) (o : List ℕ) (r : ℕ) : Type 0 where
  pub short : length (encode g) ≤ result_bytes → (r ≡ length (encode g)) × (take r o ≡ encode g)
  pub long : result_bytes < length (encode g) → result_bytes < r

-- a list of copies, unless it is decided or over, stands in an output of n bytes, which has room for a record
pub record Closable (c : Copies) (n : ℕ) : Type 0 where
  pub space : c.list.fixed ≡ false → c.over ≡ false → Space c.list n
  pub record_room : 6 ≤ n

-- whatever members the list of copies has, the list rule makes the replacement of them
abbrev pub Replaces : Copies → List ℕ → List ℕ → ℕ → Type 0
Replaces c o o' r = (all x : Bool) (gs : Formulas) (o₀ : List ℕ) → Lists all (going x gs) c o₀ o → Put (formula_for (close_of all x gs)) o' r

-- what the replacement of the quantifier over f came to, where o is the output, of n bytes
abbrev pub MadeOf : Bool → Body → Formula → ℕ → List ℕ → Result ℕ Unmade → Type 0
MadeOf all y f n o (Ok r) = (numbers_fit (points y.x (terms y.x f)) (push false f) ≡ true) × Put (replacement all y.x f) o r
MadeOf all y f n o (Err Big) = numbers_fit (points y.x (terms y.x f)) (push false f) ≡ false
MadeOf all y f n o (Err Short) = n < result_bytes + 6 + 7 * y.bytes
