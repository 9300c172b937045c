-- `term_of` meets its contract: the ten numbers of `term_raw`, reduced. Assumes nothing.
use native.Mathlib.Omega.{arith}
use mathlib.Core.Path.{sym, ◌∙◌, ap, subst}
use Rattle.exact.specs.Numbers.{Each}
use Rattle.exact.specs.Divisor.{reduced}
use Rattle.exact.specs.Terms.{term_of}
use Rattle.exact.proofs.Rows.{each_more}
use Rattle.exact.proofs.Terms.{each-raw}
use Rattle.exact.proofs.term.term_of.Goals as goal

pub reduce-requires : goal.reduce-requires
reduce-requires c = subst (Each 9223372036854775807) (sym c.term_raw-m.ensures) (each_more (each-raw c.args.x c.requires.each) (omega arith))

pub returns : goal.returns
unfolding term_of
returns c = c.reduce.ensures ∙ ap reduced c.term_raw-m.ensures
