-- `term_raw` meets its contract: after i turns, the first i of ten numbers are those of the boundary term (`Filled`). Assumes nothing.
use mathlib.Core.Path.{◌≡◌, sym, ◌∙◌, ap, ap₂, subst}
use lib.IntN.{ℤ, pos}
use mathlib.Core.Bool.{not}
use native.Mathlib.Omega.{arith}
use lib.Signed.{lt_z}
use Rattle.reading.specs.Limits.{M}
use Rattle.exact.specs.Numbers.{Within}
use Rattle.exact.specs.Terms.{term_at, turned}
use Rattle.exact.proofs.Sizes.{ok, rd}
use Rattle.reading.proofs.Filling.{Filled, fill_more}
use Rattle.exact.proofs.Rows.{rd-at}
use Rattle.exact.proofs.Terms.{in_left, term-done, term-low}
use Rattle.exact.proofs.term.term_raw.Goals as goal

pub turned-requires : goal.turned-requires
turned-requires c = subst (Within M) (sym (rd (ok c.left.result c.left.type_inv) ∙ c.left.ensures)) (in_left c.args.x c.loop-i.i c.requires.each)

pub loop-i-preserved : goal.loop-i-preserved
loop-i-preserved c = let i = c.loop-i.i in
    let h = c.loop-i-test.true in
    let x = c.args.x in
    fill_more _ _ _ _ (omega arith) c.loop-i.invariant
    (rd (ok c.turned.result c.turned.type_inv) ∙ c.turned.ensures
    ∙ ap₂ (λ (z y : ℤ). turned (not (lt_z z (pos 0))) y) (rd-at c.requires.each tt x) (rd (ok c.left.result c.left.type_inv) ∙ c.left.ensures)
    ∙ term-low _ x i h)

pub returns : goal.returns
returns c = let e : c.loop-i.i ≡ 9 = omega arith in
    let ns = c.args.ns.now in
    let x = c.args.x in
    term-done ns x (subst (Filled (pos 0) (term_at ns x) 10 c.loop-i.m) e c.loop-i.invariant)
    (rd (ok c.turned-2.result c.turned-2.type_inv) ∙ c.turned-2.ensures ∙ ap (λ (z : ℤ). turned (lt_z z (pos 0)) z) (rd-at c.requires.each tt x))
