-- How a pushed formula comes out at a spot: 01's 'Copies' and 'Lists' as the code answers them, in one name; and what the code of a copy asks and knows of
-- its source.
use Rattle.std.specs.Prelude.{ℕ, ◌+◌, ◌*◌, ◌≤◌, ◌≡◌, Bool, true, cond, List, length}
use Rattle.reading.specs.Formula.{Formula, encode, Free}
use Rattle.reading.specs.Reading.{tree_of, Begins}
use Rattle.exact.specs.Atoms.{Spot, spot_of, Ready}
use Rattle.exact.specs.declared.Point.{Point}
use Rattle.rules.specs.Pushing.{push}
use Rattle.rules.specs.Copies.{copy, fits}
use Rattle.replacement.specs.declared.Way.{Way}
use Rattle.replacement.specs.Marking.{HasMarks}
use Rattle.replacement.specs.Listing.{Come, big, come_of}

-- true, false or its copy; or a number of a new atom is outside −M..M
unfoldable pub came : Spot → Formula → Come
unfolding fits copy
came q p = cond (fits q p) (come_of (copy q p)) big

-- s begins with a formula without quantifiers, the point is in range, what may be counted on is so, and an output of n bytes has room from `to` on: a
-- copy has at most seven times the bytes
pub record Asks (s : List ℕ) (neg : Bool) (way : Way) (q : Point) (to n : ℕ) (ms : List Bool) : Type 0 where
  pub begins : Begins s (tree_of s)
  pub free : Free (tree_of s)
  pub point : Ready q
  pub calm : way.calm ≡ true → fits (spot_of q) (push neg (tree_of s)) ≡ true
  pub marks : way.marked ≡ true → HasMarks q.x s ms
  pub room : to + 7 * length (encode (tree_of s)) ≤ n
