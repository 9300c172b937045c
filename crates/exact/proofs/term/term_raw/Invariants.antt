-- `term_raw` meets its contract: after i turns, the first i of ten numbers are those of the boundary term (`Filled`). Assumes nothing.
use lib.IntN.{pos}
use Rattle.exact.specs.Terms.{term_at}
use Rattle.reading.proofs.Filling.{Filled}
use Rattle.exact.proofs.term.term_raw.Given as goal

abbrev pub invariant-loop-i : goal.invariant-loop-i
invariant-loop-i l = Filled (pos 0) (term_at l.ns l.x) 10 l.m l.i
