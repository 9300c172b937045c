-- What is found in the whole formula is what is found in the records so far and then in what is left. A search
-- for the first goes on only while none is found.
use mathlib.Core.Path.{◌≡◌}
use mathlib.Core.Bool.{false}
use Rattle.std.specs.Prelude.{None}
use Prim.Native.Nat.{◌-◌}
use lib.ListN.{length}
use Rattle.reading.specs.Reading.{tree_of}
use Rattle.reading.specs.Quantifiers.{nothing, seek, found_of}
use Rattle.reading.proofs.Scan.{Scanned}
use Rattle.reading.proofs.quantifiers.seek.Given as goal

abbrev pub invariant-loop-at : goal.invariant-loop-at
invariant-loop-at l = Scanned l.last (found_of (seek l.last nothing 0 (tree_of l.s))) l.s l.at l.found × (l.last ≡ false → l.found ≡ None)

abbrev pub decreases-loop-at : goal.decreases-loop-at
decreases-loop-at l = length l.s - l.at
