-- `at_point` meets its contract: after i turns, the first i of nine numbers are a·n + d·t (`Filled`). Assumes nothing.
use mathlib.Core.Path.{◌≡◌, sym, ◌∙◌, ap₂, subst}
use native.Mathlib.Omega.{arith}
use lib.IntN.{◌+ℤ◌, ◌*ℤ◌}
use mir.Syntax.{w64}
use mir.Val.{to_z, of_z}
use Rattle.reading.specs.Limits.{M}
use Rattle.exact.specs.Numbers.{Within}
use Rattle.exact.specs.Terms.{left_at}
use Rattle.exact.proofs.Sizes.{rd, ok}
use Rattle.reading.proofs.Filling.{fill_more}
use Rattle.exact.proofs.Rows.{rd-at, in-at}
use Rattle.exact.proofs.Terms.{in_left}
use Rattle.exact.proofs.Atoms.{point-is, point-done}
use Rattle.exact.proofs.atom.at_point.Goals as goal
use Rattle.exact.proofs.atom.at_point.Goals.{After-left-t}

-- what is left of the atom at i
rest : (c : After-left-t) → to_z w64 (of_z w64 c.left-t.result) ≡ left_at c.args.ns.now c.args.x c.loop-i.i
rest c = rd (ok c.left-t.result c.left-t.type_inv) ∙ c.left-t.ensures

pub mul_add-sum-requires : goal.mul_add-sum-requires
mul_add-sum-requires c = record {
  within = in-at c.requires.each tt c.args.x;
  within_2 = in-at c.requires.each_2 tt c.loop-i.i;
  within_3 = in-at c.requires.each_2 tt 9;
  within_4 = subst (Within M) (sym (rest (goal.at.mul_add-sum-requires c).After-left-t)) (in_left c.args.x c.loop-i.i c.requires.each);
}

pub loop-i-preserved : goal.loop-i-preserved
loop-i-preserved c = let i = c.loop-i.i in
    fill_more _ _ _ _ c.loop-i-test.true c.loop-i.invariant
    (rd (ok c.mul_add-sum.result c.mul_add-sum.type_inv) ∙ c.mul_add-sum.ensures
    ∙ ap₂ ◌+ℤ◌ (ap₂ ◌*ℤ◌ (rd-at c.requires.each tt c.args.x) (rd-at c.requires.each_2 tt i)) (ap₂ ◌*ℤ◌ (rd-at c.requires.each_2 tt 9) (rest (goal.at.loop-i-preserved c).After-left-t))
    ∙ point-is c.args.ns.now c.args.x c.args.n.now i)

pub returns : goal.returns
returns c = point-done c.args.ns.now c.args.x c.args.n.now (omega arith) c.loop-i.invariant
