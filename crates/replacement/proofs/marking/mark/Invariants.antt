-- `mark`: at each record what is left of the formula is still to be marked.
use mathlib.Core.Path.{◌≡◌}
use Prim.Native.Nat.{◌-◌}
use lib.ListN.{length}
use Rattle.replacement.proofs.marking.MarkLaws.{Marking}
use Rattle.replacement.proofs.marking.mark.Given as goal

abbrev pub invariant-loop-at : goal.invariant-loop-at
invariant-loop-at l = (length l.marks ≡ length l.initial.marks) × Marking l.s l.x l.marks l.at

abbrev pub decreases-loop-at : goal.decreases-loop-at
decreases-loop-at l = length l.s - l.at
