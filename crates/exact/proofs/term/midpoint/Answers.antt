-- `midpoint` meets its contract: the ten numbers of `mid_raw`, which fit, reduced. Assumes nothing.
use mathlib.Core.Path.{sym, ◌∙◌, ap, subst}
use Rattle.exact.specs.Numbers.{Each}
use Rattle.exact.specs.Terms.{midpoint}
use Rattle.exact.specs.Divisor.{reduced}
use Rattle.exact.proofs.Terms.{each-mid}
use Rattle.exact.proofs.term.midpoint.Goals as goal

pub reduce-requires : goal.reduce-requires
reduce-requires c = subst (Each 9223372036854775807) (sym c.mid_raw-m.ensures) (each-mid c.requires.each c.requires.each_2)

pub returns : goal.returns
unfolding midpoint
returns c = c.reduce.ensures ∙ ap reduced c.mid_raw-m.ensures
