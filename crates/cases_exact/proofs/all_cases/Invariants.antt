-- Each case takes a byte at least, so less is left at each turn.
use Rattle.std.proofs.Common.{length}
use Rattle.cases_exact.proofs.all_cases.Given as goal

abbrev pub decreases-loop-letter : goal.decreases-loop-letter
decreases-loop-letter g l = length l.rest
