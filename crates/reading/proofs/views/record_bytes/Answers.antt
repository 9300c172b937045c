-- `record_bytes`: the number that a record begins with.
use mathlib.Core.Path.{◌∙◌}
use native.Mathlib.Omega.{arith}
use Rattle.reading.proofs.Viewing.{begins-four}
use Rattle.reading.proofs.Walking.{size_is}
use Rattle.reading.proofs.views.record_bytes.Goals as goal

pub u16_at-requires : goal.u16_at-requires
u16_at-requires c = omega (arith, begins-four c.requires)

pub returns : goal.returns
returns c = c.u16_at.ensures ∙ size_is c.requires
