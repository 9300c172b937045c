-- `mul_add` meets its contract: at numbers of −M..M the sum of two products is at most 2·M·M, which fits an i64. Assumes nothing.
use mathlib.Core.Path.{◌∙◌, ap₂}
use lib.IntN.{◌+ℤ◌, ◌*ℤ◌}
use Rattle.exact.proofs.Sizes.{rd, fits-as, fits, in-*, in-+}
use Rattle.exact.proofs.number.mul_add.Goals as goal
use Rattle.exact.proofs.number.mul_add.Goals.{Start}

pub overflow_mul-result : goal.overflow_mul-result
overflow_mul-result c = fits-as (ap₂ ◌*ℤ◌ (rd c.ranges.a) (rd c.ranges.n)) (fits (in-* c.requires.within c.requires.within_2) tt)

pub overflow_mul-result-2 : goal.overflow_mul-result-2
overflow_mul-result-2 c = fits-as (ap₂ ◌*ℤ◌ (rd c.ranges.d) (rd c.ranges.t)) (fits (in-* c.requires.within_3 c.requires.within_4) tt)

pub overflow_add-result : goal.overflow_add-result
overflow_add-result c = fits-as (ap₂ ◌+ℤ◌ (rd (overflow_mul-result (goal.at.overflow_add-result c).Start) ∙ ap₂ ◌*ℤ◌ (rd c.ranges.a) (rd c.ranges.n)) (rd (overflow_mul-result-2 (goal.at.overflow_add-result c).Start) ∙ ap₂ ◌*ℤ◌ (rd c.ranges.d) (rd c.ranges.t)))
    (fits (in-+ (in-* c.requires.within c.requires.within_2) (in-* c.requires.within_3 c.requires.within_4)) tt)

pub returns : goal.returns
returns c = rd (overflow_add-result (goal.at.returns c).Start) ∙ ap₂ ◌+ℤ◌ (rd (overflow_mul-result (goal.at.returns c).Start) ∙ ap₂ ◌*ℤ◌ (rd c.ranges.a) (rd c.ranges.n)) (rd (overflow_mul-result-2 (goal.at.returns c).Start) ∙ ap₂ ◌*ℤ◌ (rd c.ranges.d) (rd c.ranges.t))
