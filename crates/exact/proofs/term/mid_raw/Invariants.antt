-- `mid_raw` meets its contract: after i turns, the first i of ten numbers are those of the midpoint (`Filled`). Assumes nothing.
use lib.IntN.{pos}
use Rattle.exact.specs.Terms.{mid_at}
use Rattle.reading.proofs.Filling.{Filled}
use Rattle.exact.proofs.term.mid_raw.Given as goal

abbrev pub invariant-loop-i : goal.invariant-loop-i
invariant-loop-i l = Filled (pos 0) (mid_at l.t l.u) 10 l.m l.i
