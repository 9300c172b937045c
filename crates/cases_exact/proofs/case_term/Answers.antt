-- `case_term`: the row was looked through before.
use Rattle.std.proofs.Common.{◌∙◌, sym}
use Rattle.reading.specs.Limits.{M}
use Rattle.exact.proofs.Rows.{all-each}
use Rattle.cases_exact.proofs.case_term.Goals as goal

pub term_of-requires-clause-each : goal.term_of-requires-clause-each
term_of-requires-clause-each g c = all-each M _ (sym c.within_all.ensures ∙ c.if-within_all.true)
