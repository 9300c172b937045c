-- `map_all` meets its contract: after i turns, the first i numbers are what the step made of them (`Turned`). Assumes nothing.
use Rattle.std.proofs.Common.{◌≡◌, ◌∙◌, ap, sym, subst, ℤ, pos, to_z, of_z, get_or, arith}
use Rattle.std.specs.Int.{w64}
use Rattle.exact.specs.Numbers.{at}
use Rattle.exact.proofs.Sizes.{rd, ok, fits}
use Rattle.exact.proofs.Loops.{turned-none, turned-more, turned-done}
use Rattle.exact.proofs.row.map_all.Given as Given
use Rattle.exact.proofs.row.map_all.Goals as goal
use Rattle.exact.proofs.row.map_all.Goals.{In-loop-x}

-- the element that is read is the one that came in
here : (g : Given.Over) (c : In-loop-x g) → to_z w64 (of_z w64 (get_or c.loop-x.s c.loop-x.x-index (pos 0))) ≡ at c.args.s.now c.loop-x.x-index
here g c = ap (λ (z : ℤ). to_z w64 (of_z w64 z)) (c.loop-x.invariant.rest c.loop-x.x-index (omega arith)) ∙ rd (fits (c.requires.each.at c.loop-x.x-index) tt)

pub loop-x-init : goal.loop-x-init
loop-x-init g c = turned-none _ _

pub step-requires : goal.step-requires
step-requires g c = subst (λ (z : ℤ). g.F.Fn.pre c.args.step (z, tt)) (sym (here g (goal.at.step-requires g c).In-loop-x)) (c.requires.callable c.loop-x.x-index c.loop-x-test.true)

pub loop-x-preserved : goal.loop-x-preserved
loop-x-preserved g c =
    turned-more _ _ _ c.loop-x-test.true c.loop-x.invariant
    (subst (g.F.Fn.post c.args.step (at c.args.s.now c.loop-x.x-index, tt)) (sym (rd (ok c.step.result c.step.type_inv))) (subst (λ (z : ℤ). g.F.Fn.post c.args.step (z, tt) c.step.result) (here g (goal.at.loop-x-preserved g c).In-loop-x) c.step.ensures))

pub returns : goal.returns
returns g c = turned-done _ _ c.loop-x-test.false c.loop-x.invariant
