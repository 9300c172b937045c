use Rattle.std.proofs.Common.{◌≡◌, drop}
use Rattle.exact.specs.Divisor.{gcds, gcd_from}
use Rattle.exact.proofs.row.gcd_all.Given as goal

abbrev pub invariant-loop-x : goal.invariant-loop-x
invariant-loop-x l = gcd_from l.g (drop l.x-index l.s) ≡ gcds l.s
