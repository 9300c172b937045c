-- `coefficient_at`: one number of an atom's record.
use mathlib.Core.Path.{◌∙◌}
use mir.Syntax.{w64}
use mir.ValLaws.{to_z-of_z}
use Rattle.reading.specs.Reading.{tree_of}
use Rattle.reading.proofs.Viewing.{coefficient-is}
use Rattle.reading.proofs.views.coefficient_at.Goals as goal

pub int_at-requires : goal.int_at-requires
int_at-requires c = (coefficient-is (tree_of c.args.s.now) c.args.x c.requires.begins c.requires.atom c.requires.x_lt_variables).1

pub returns : goal.returns
returns c = to_z-of_z w64 c.int_at.result (record { sfits = c.int_at.type_inv }) ∙ c.int_at.ensures ∙ (coefficient-is (tree_of c.args.s.now) c.args.x c.requires.begins c.requires.atom c.requires.x_lt_variables).0
