-- `twice` meets its contract: at numbers of −M..M the product is at most 2·M·M, which fits an i64. Assumes nothing.
use mathlib.Core.Path.{◌∙◌, ap, ap₂}
use lib.IntN.{ℤ, pos, ◌*ℤ◌}
use Rattle.exact.specs.Numbers.{Within}
use Rattle.exact.proofs.Sizes.{rd, fits-as, fits, in-*, in-lit}
use Rattle.exact.proofs.number.twice.Goals as goal
use Rattle.exact.proofs.number.twice.Goals.{Start}

two : Within 2 (pos 2)
two = in-lit tt

pub overflow_mul-result : goal.overflow_mul-result
overflow_mul-result c = fits-as (ap (λ (z : ℤ). pos 2 *ℤ z) (rd c.ranges.d)) (fits (in-* two c.requires.within) tt)

pub overflow_mul-result-2 : goal.overflow_mul-result-2
overflow_mul-result-2 c = fits-as (ap₂ ◌*ℤ◌ (rd (overflow_mul-result (goal.at.overflow_mul-result-2 c).Start) ∙ ap (λ (z : ℤ). pos 2 *ℤ z) (rd c.ranges.d)) (rd c.ranges.e)) (fits (in-* (in-* two c.requires.within) c.requires.within_2) tt)

pub returns : goal.returns
returns c = rd (overflow_mul-result-2 (goal.at.returns c).Start) ∙ ap₂ ◌*ℤ◌ (rd (overflow_mul-result (goal.at.returns c).Start) ∙ ap (λ (z : ℤ). pos 2 *ℤ z) (rd c.ranges.d)) (rd c.ranges.e)
