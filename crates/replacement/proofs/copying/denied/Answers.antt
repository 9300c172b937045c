-- `denied`: the numbers with each sign turned are in range.
use mathlib.Core.Path.{sym, subst}
use Rattle.reading.specs.Limits.{M}
use Rattle.exact.specs.Numbers.{Each}
use Rattle.exact.proofs.Rows.{each-minus}
use Rattle.replacement.proofs.copying.denied.Goals as goal

pub atom-requires-clause-each : goal.atom-requires-clause-each
atom-requires-clause-each c = subst (Each M) (sym c.negated.ensures) (each-minus c.requires.each)

pub atom-requires-in-AtMost-clause-each : goal.atom-requires-in-AtMost-clause-each
atom-requires-in-AtMost-clause-each c = subst (Each M) (sym c.negated-in-AtMost.ensures) (each-minus c.requires.each)

pub pair-requires-clause-each_2 : goal.pair-requires-clause-each_2
pair-requires-clause-each_2 c = subst (Each M) (sym c.negated-in-Equal.ensures) (each-minus c.requires.each)
