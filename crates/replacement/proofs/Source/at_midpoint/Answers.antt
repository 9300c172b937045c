-- `at_midpoint`: the midpoint's own numbers are judged before the copy.
use mathlib.Core.Path.{sym}
use Rattle.reading.specs.Limits.{M}
use Rattle.exact.proofs.Rows.{all-each}
use Rattle.replacement.proofs.Source.at_midpoint.Goals as goal

pub with_copy-requires-clause-bounded : goal.with_copy-requires-clause-bounded
with_copy-requires-clause-bounded c = all-each M c.midpoint-n.result (sym c.if-not-within_all.ensures)
