-- `is_quantifier`: the two tests are those of the definition.
use borrow.Author.Tests.{lt-ltb, le-ltb, lt-leb}
use Rattle.reading.specs.Quantifiers.{is_quantifier}
use Rattle.reading.proofs.quantifiers.is_quantifier.Goals as goal

pub returns-then-kind-ge7 : goal.returns-then-kind-ge7
unfolding is_quantifier
returns-then-kind-ge7 c = simp (le-ltb _ _ c.if-kind-ge7.true)

pub returns-else-kind-ge7 : goal.returns-else-kind-ge7
unfolding is_quantifier
returns-else-kind-ge7 c = simp (lt-ltb _ _ c.if-kind-ge7.false, lt-leb _ _ c.if-kind-ge7.false)
