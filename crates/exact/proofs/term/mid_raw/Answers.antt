-- `mid_raw` meets its contract: after i turns, the first i of ten numbers are those of the midpoint (`Filled`). Assumes nothing.
use mathlib.Core.Path.{◌≡◌, ◌∙◌, ap₂, subst}
use native.Mathlib.Omega.{arith}
use lib.IntN.{ℤ, pos, ◌+ℤ◌, ◌*ℤ◌}
use Rattle.exact.specs.Terms.{mid_at}
use Rattle.exact.proofs.Sizes.{rd, ok}
use Rattle.reading.proofs.Filling.{Filled, fill_more}
use Rattle.exact.proofs.Rows.{rd-at}
use Rattle.exact.proofs.Terms.{mid-low, mid_done}
use Rattle.exact.proofs.term.mid_raw.Goals as goal

pub loop-i-preserved : goal.loop-i-preserved
loop-i-preserved c = let i = c.loop-i.i in
    let h = c.loop-i-test.true in
    fill_more _ _ _ _ (omega arith) c.loop-i.invariant
    (rd (ok c.mul_add.result c.mul_add.type_inv) ∙ c.mul_add.ensures
    ∙ ap₂ ◌+ℤ◌ (ap₂ ◌*ℤ◌ (rd-at c.requires.each tt i) (rd-at c.requires.each_2 tt 9)) (ap₂ ◌*ℤ◌ (rd-at c.requires.each_2 tt i) (rd-at c.requires.each tt 9))
    ∙ mid-low _ _ i h)

pub returns : goal.returns
returns c = let t = c.args.t.now in
    let u = c.args.u.now in
    let e : c.loop-i.i ≡ 9 = omega arith in
    mid_done t u (subst (Filled (pos 0) (mid_at t u) 10 c.loop-i.m) e c.loop-i.invariant)
    (rd (ok c.twice-denominator.result c.twice-denominator.type_inv) ∙ c.twice-denominator.ensures ∙ ap₂ (λ (x y : ℤ). pos 2 *ℤ x *ℤ y) (rd-at c.requires.each tt 9) (rd-at c.requires.each_2 tt 9))
