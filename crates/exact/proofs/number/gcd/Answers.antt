-- `gcd` meets its contract: a turn keeps the greatest common divisor of x and y (`gcd-mod`), and y falls. Assumes nothing.
use mathlib.Core.Path.{sym, ◌∙◌, ap}
use Rattle.exact.specs.Divisor.{gcd_of}
use Rattle.exact.proofs.Divisors.{gcd-mod, gcd-zero}
use Rattle.exact.proofs.number.gcd.Goals as goal

pub loop-y-preserved : goal.loop-y-preserved
loop-y-preserved c = gcd-mod c.loop-y.x c.loop-y.y ∙ c.loop-y.invariant

pub returns : goal.returns
returns c = sym (gcd-zero c.loop-y.x) ∙ ap (gcd_of c.loop-y.x) (sym c.loop-y-test.false) ∙ c.loop-y.invariant
