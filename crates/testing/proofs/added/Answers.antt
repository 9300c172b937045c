-- One product more of a sum: it fits sixty-four bits.
use mathlib.Core.Path.{◌∙◌, ap₂}
use lib.IntN.{◌+ℤ◌, ◌*ℤ◌}
use Rattle.exact.proofs.Sizes.{rd, fits-as, fits, in-*, in-+}
use Rattle.testing.proofs.added.Goals as goal
use Rattle.testing.proofs.added.Goals.{Start}

pub overflow_mul-result : goal.overflow_mul-result
overflow_mul-result c = fits-as (ap₂ ◌*ℤ◌ (rd c.ranges.a) (rd c.ranges.v)) (fits (in-* c.requires.within_2 c.requires.within_3) tt)

pub overflow_add-result : goal.overflow_add-result
overflow_add-result c = fits-as (ap₂ ◌+ℤ◌ (rd c.ranges.t) (rd (overflow_mul-result (goal.at.overflow_add-result c).Start) ∙ ap₂ ◌*ℤ◌ (rd c.ranges.a) (rd c.ranges.v))) (fits (in-+ c.requires.within (in-* c.requires.within_2 c.requires.within_3)) tt)

pub returns : goal.returns
returns c = rd (overflow_add-result (goal.at.returns c).Start) ∙ ap₂ ◌+ℤ◌ (rd c.ranges.t) (rd (overflow_mul-result (goal.at.returns c).Start) ∙ ap₂ ◌*ℤ◌ (rd c.ranges.a) (rd c.ranges.v))
