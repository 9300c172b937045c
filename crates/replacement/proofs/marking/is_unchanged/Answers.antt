-- `is_unchanged`: the numbers of the atom are in the range that `is_plain` asks for.
use mathlib.Core.Path.{sym, subst}
use Rattle.reading.specs.Limits.{M}
use Rattle.reading.specs.Reading.{tree_of}
use Rattle.exact.specs.Numbers.{Each}
use Rattle.exact.proofs.Leaves.{numbers-small}
use Rattle.replacement.proofs.marking.is_unchanged.Goals as goal

pub is_plain-requires : goal.is_plain-requires
is_plain-requires c = subst (Each M) (sym c.row_at.ensures) (numbers-small (tree_of c.args.s.now) c.requires.begins c.requires.atom)
