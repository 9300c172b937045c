-- The list of the copies while the code writes it: the tally of the points tried so far, and what `Copies` then holds. It may end at
-- result_bytes + 6: the six bytes of its own record come on top of a list left with one member.
use Rattle.std.specs.Prelude.{◌≡◌, Bool, true, false, cond, List, [], ◌∷◌, ℕ, ◌+◌, ◌≤◌, ◌<◌, ◌*◌, length, ltb, Result, Ok, Err}
use Rattle.reading.specs.Limits.{result_bytes, variables}
use Rattle.reading.specs.Formula.{Formulas, encodes, Formula, encode, Free}
use Rattle.replacement.specs.declared.Came.{Came}
use Rattle.replacement.specs.declared.Came.TheVariants.{Decided, Kept}
use Rattle.replacement.specs.declared.Copies.{Copies}
use Rattle.replacement.specs.declared.Unmade.{Unmade}
use Rattle.replacement.specs.declared.Unmade.TheVariants.{Big, Short}
use Rattle.replacement.specs.declared.Body.{Body}
use Rattle.reading.specs.Reading.{tree_of, Begins}
use Rattle.exact.specs.Atoms.{Spot}
use Rattle.rules.specs.Points.{spot_fits}
use Rattle.rules.specs.Steps.{numbers_fit}
use Rattle.replacement.specs.Marking.{HasMarks}
use Rattle.replacement.specs.Listing.{Come, Tally, tally, decided_of, kept_of, At, big, over, going}
use Rattle.replacement.specs.Copying.{came}

-- the list after a copy that ends at e: too far or not; and where the list is over already or not
abbrev pub kept_by : Bool → Copies → ℕ → Copies
kept_by true c e = record { list = c.list; over = true }
kept_by false c e = record { list = kept_of c.list e; over = false }

abbrev pub kept_in : Bool → Copies → ℕ → Copies
kept_in true c e = c
kept_in false c e = kept_by (ltb (result_bytes + 6) e) c e

abbrev pub joined_of : Copies → Came → Copies
joined_of c (Decided v) = record { list = decided_of c.list v; over = c.over }
joined_of c (Kept e) = kept_in c.over c e

-- the copies end here: the list is decided and no number can be too big
abbrev pub ends_of : Copies → Bool → Bool
ends_of c calm = cond calm c.list.fixed false

-- c holds the list of the members gs, over o₀: they are there, or they are longer than any result may be
pub record Live (gs : Formulas) (c : Copies) (o₀ o : List ℕ) : Type 0 where
  pub written : c.over ≡ false → At c.list gs 0 o₀ o
  pub large : c.over ≡ true → result_bytes < length (encodes gs)

-- where the list stands; once it is decided its members do not matter
pub record Stays (all x : Bool) (gs : Formulas) (c : Copies) (o₀ o : List ℕ) : Type 0 where
  pub fixed : c.list.fixed ≡ x
  pub same : c.list.all ≡ all
  pub end : c.list.end ≤ result_bytes + 6
  pub few : c.list.kept ≤ c.list.end
  pub live : x ≡ false → Live gs c o₀ o

-- c holds the tally; a number that was too big is answered and never held
abbrev pub Lists : Bool → Tally → Copies → List ℕ → List ℕ → Type 0
Lists all over c o₀ o = ⊥
Lists all (going x gs) c o₀ o = Stays all x gs c o₀ o

-- what is answered for copies of a body of b bytes in an output of n bytes, which have the tally t: the list holds it; a number was too big; or there
-- was no room for one copy more
abbrev pub Tells : Bool → Tally → ℕ → ℕ → List ℕ → List ℕ → Result Copies Unmade → Type 0
Tells all t b n o₀ o (Ok c) = Lists all t c o₀ o
Tells all t b n o₀ o (Err Big) = t ≡ over
Tells all t b n o₀ o (Err Short) = n < result_bytes + 6 + 7 * b

-- copies of a body of b bytes were written over o, and o' is there now: whatever tally c holds, x tells it with how they came out
pub record Tries (b : ℕ) (c : Copies) (cs : List Come) (o o' : List ℕ) (x : Result Copies Unmade) : Type 0 where
  pub tells : (all : Bool) (t : Tally) (o₀ : List ℕ) → Lists all t c o₀ o → Tells all (tally all t cs) b (length o) o₀ o' x

-- ---- the copies at all points

-- how a pushed body comes out at a spot, whose own numbers are judged first; at each of the spots
abbrev pub try_at : Spot → Formula → Come
try_at q p = cond (spot_fits q) (came q p) big

abbrev pub try_all : List Spot → Formula → List Come
try_all [] p = []
try_all (q ∷ qs) p = try_at q p ∷ try_all qs p

-- ---- what is asked for

-- s begins with a body without quantifiers, no longer than a result, x is a variable, and an output of n bytes has room for the record of a list
pub record Copiable (s : List ℕ) (y : Body) (n : ℕ) (ms : List Bool) : Type 0 where
  pub begins : Begins s (tree_of s)
  pub free : Free (tree_of s)
  pub low : y.x < variables
  pub bytes : y.bytes ≡ length (encode (tree_of s))
  pub few : y.bytes ≤ result_bytes
  pub marks : y.way.marked ≡ true → HasMarks y.x s ms
  pub room : 6 ≤ n

-- where it is counted on, no number of the pushed body at these spots is too big
abbrev pub Sure : Body → List Spot → Formula → Type 0
Sure y qs p = y.way.calm ≡ true → numbers_fit qs p ≡ true

-- c holds a tally, over what was there before
pub record Holding (c : Copies) (o : List ℕ) : Type 0 where
  pub all : Bool
  pub so_far : Tally
  pub before : List ℕ
  pub lists : Lists all so_far c before o
