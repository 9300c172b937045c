-- `members_at`: the count in a list's record.
use mathlib.Core.Path.{◌∙◌}
use Rattle.reading.specs.Reading.{tree_of}
use Rattle.reading.proofs.Viewing.{members-is}
use Rattle.reading.proofs.views.members_at.Goals as goal

pub u16_at-requires : goal.u16_at-requires
u16_at-requires c = (members-is (tree_of c.args.s.now) c.requires.begins c.requires.list).1

pub returns : goal.returns
returns c = c.u16_at.ensures ∙ (members-is (tree_of c.args.s.now) c.requires.begins c.requires.list).0
