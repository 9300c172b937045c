-- `at_point` meets its contract: after i turns, the first i of nine numbers are a·n + d·t (`Filled`). Assumes nothing.
use lib.IntN.{pos}
use Rattle.exact.specs.Atoms.{point_at}
use Rattle.reading.proofs.Filling.{Filled}
use Rattle.exact.proofs.atom.at_point.Given as goal

abbrev pub invariant-loop-i : goal.invariant-loop-i
invariant-loop-i l = Filled (pos 0) (point_at l.ns l.x l.n) 9 l.m l.i
