-- The numbers of a term are in range.
use mathlib.Core.Path.{sym, subst}
use Rattle.reading.specs.Limits.{M}
use Rattle.exact.specs.Numbers.{Each}
use Rattle.exact.proofs.Terms.{each-term}
use Rattle.replacement.proofs.gathering.of_atom.Goals as goal

pub add-requires-clause-each : goal.add-requires-clause-each
add-requires-clause-each c = subst (Each M) (sym c.term_of.ensures) (each-term c.args.x c.requires.each)
