-- `case_mid`: the two rows were looked through before.
use Rattle.std.proofs.Common.{◌∙◌, sym}
use Rattle.reading.specs.Limits.{M}
use Rattle.exact.proofs.Rows.{all-each}
use Rattle.cases_exact.proofs.case_mid.Goals as goal

pub midpoint-m-requires-clause-each : goal.midpoint-m-requires-clause-each
midpoint-m-requires-clause-each g c = all-each M _ (sym c.within_all.ensures ∙ c.if-within_all.true)

pub midpoint-m-requires-clause-each_2 : goal.midpoint-m-requires-clause-each_2
midpoint-m-requires-clause-each_2 g c = all-each M _ (sym c.within_all-then-within_all.ensures ∙ c.if-within_all-2.true)
