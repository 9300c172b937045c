-- `survey`: at each record what is left of the formula is still to be seen.
use Prim.Native.Nat.{◌-◌}
use lib.ListN.{length}
use Rattle.replacement.proofs.surveying.SurveyLaws.{Looking}
use Rattle.replacement.proofs.surveying.survey.Given as goal

abbrev pub invariant-loop-at : goal.invariant-loop-at
invariant-loop-at l = Looking l.s (length l.s) l.x l.v l.at

abbrev pub decreases-loop-at : goal.decreases-loop-at
decreases-loop-at l = length l.s - l.at
