-- `gcd` meets its contract: a turn keeps the greatest common divisor of x and y (`gcd-mod`), and y falls. Assumes nothing.
use mathlib.Core.Path.{◌≡◌}
use Rattle.exact.specs.Divisor.{gcd_of}
use Rattle.exact.proofs.number.gcd.Given as goal

abbrev pub invariant-loop-y : goal.invariant-loop-y
invariant-loop-y l = gcd_of l.x l.y ≡ gcd_of l.a l.b

abbrev pub decreases-loop-y : goal.decreases-loop-y
decreases-loop-y l = l.y
