-- A formula's record has a kind, so the number that is read names one.
use mathlib.Core.Path.{◌∙◌}
use Rattle.reading.proofs.Viewing.{shape_is, begins-four}
use Rattle.reading.proofs.views.shape_at.Goals as goal

pub u16_at-requires : goal.u16_at-requires
u16_at-requires c = begins-four c.requires

pub returns : goal.returns
returns c = c.unwrap_or.ensures ∙ shape_is c.try_from.result c.requires c.try_from.ensures c.u16_at.ensures
