use mathlib.Core.Path.{refl, ◌∙◌}
use mir.Syntax.{w64}
use mir.ValLaws.{to_z-of_z}
use Rattle.reading.proofs.Filling.{fill_none, fill_more}
use Rattle.reading.proofs.Ints.{nine-done}
use Rattle.reading.proofs.numbers.nine.Goals as goal

pub loop-i-init : goal.loop-i-init
loop-i-init c = fill_none _ _ _ refl

pub loop-i-preserved : goal.loop-i-preserved
loop-i-preserved c = fill_more _ _ _ _ c.loop-i-test.true c.loop-i.invariant (to_z-of_z w64 c.int_at.result (record { sfits = c.int_at.type_inv }) ∙ c.int_at.ensures)

pub returns : goal.returns
returns c = nine-done c.args.s.now c.loop-i-test.false c.loop-i.invariant
