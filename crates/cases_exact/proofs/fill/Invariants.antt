-- `fill`: what follows gets no longer, and no number of the row is the least i64.
use Rattle.std.proofs.Common.{◌≤◌, length}
use Rattle.exact.specs.Numbers.{Each}
use Rattle.cases_exact.proofs.fill.Given as goal

abbrev pub invariant-loop-x : goal.invariant-loop-x
invariant-loop-x l = (length l.rest ≤ length l.s) × Each 9223372036854775807 l.out
