-- `natural`: the number stays below 2⁶³, since no digit is taken once ten times the number might pass it.
use Rattle.std.proofs.Common.{◌≤◌}
use Rattle.cases_exact.proofs.natural.Given as goal

abbrev pub invariant-loop-at : goal.invariant-loop-at
invariant-loop-at l = l.value ≤ 9223372036854775807
