-- `map_all` meets its contract: after i turns, the first i numbers are what the step made of them (`Turned`). Assumes nothing.
use Rattle.exact.proofs.Loops.{Turned}
use Rattle.exact.proofs.row.map_all.Given as goal

abbrev pub invariant-loop-x : goal.invariant-loop-x
invariant-loop-x g l = Turned (goal.F-post g l.step) l.initial.s l.s l.x-index
