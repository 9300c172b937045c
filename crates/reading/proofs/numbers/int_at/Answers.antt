use mathlib.Core.Path.{◌≡◌, ◌∙◌, ap}
use Prim.Native.Nat.{◌+◌}
use native.Mathlib.Omega.{arith}
use mir.Syntax.{w32, w64}
use mir.Val.{to_z}
use mir.ValLaws.{to_z-of_z}
use Rattle.reading.specs.Bytes.{int4}
use Rattle.reading.proofs.numbers.int_at.Goals as goal

pub returns : goal.returns
unfolding int4
returns c = let i3 : c.args.i + 2 + 1 ≡ c.args.i + 3 = omega arith in to_z-of_z w64 c.from.result (record { sfits = c.from.type_inv }) ∙ c.from.ensures
    ∙ to_z-of_z w32 c.from_le_bytes.result (record { sfits = c.from_le_bytes.type_inv }) ∙ c.from_le_bytes.ensures ∙ ap (to_z w32) (rw i3 (omega arith))
