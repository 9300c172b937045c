-- `case_atom`: the two rows were looked through before.
use Rattle.std.proofs.Common.{◌∙◌, sym}
use Rattle.reading.specs.Limits.{M}
use Rattle.exact.proofs.Rows.{all-each}
use Rattle.cases_exact.proofs.case_atom.Goals as goal

pub place_of-requires : goal.place_of-requires
place_of-requires g c = all-each M _ (sym c.within_all-then-within_all.ensures ∙ c.if-within_all-2.true)

pub show_atom-requires-clause-each : goal.show_atom-requires-clause-each
show_atom-requires-clause-each g c = all-each M _ (sym c.within_all.ensures ∙ c.if-within_all.true)
