-- `row_at`: the nine numbers of an atom's record.
use mathlib.Core.Path.{◌∙◌}
use Rattle.reading.specs.Reading.{tree_of}
use Rattle.reading.proofs.Viewing.{row_is}
use Rattle.reading.proofs.views.row_at.Goals as goal

pub nine-requires : goal.nine-requires
nine-requires c = (row_is (tree_of c.args.s.now) c.requires.begins c.requires.atom).1

pub returns : goal.returns
returns c = c.nine.ensures ∙ (row_is (tree_of c.args.s.now) c.requires.begins c.requires.atom).0
