-- `row_of`: a turn is one midpoint, and each goal is a law of `Way`.
use mathlib.Core.Path.{sym, ◌∙◌, subst}
use native.Mathlib.Omega.{arith}
use mathlib.Core.List.{[], ◌∷◌}
use Rattle.exact.specs.Atoms.{here}
use Rattle.exact.specs.Terms.{midpoint}
use Rattle.rules.specs.Points.{midpoints}
use Rattle.std.specs.Prelude.{◌+◌, slice_index_or}
use lib.ListN.{drop}
use Rattle.replacement.specs.Trying.{Tries}
use Rattle.replacement.proofs.Outcomes.{err-same}
use Rattle.replacement.proofs.trying.PointLaws.{Parts, way-sure, way-more, way_end, way-ends, way-stops, mid-turn, mid-end, row-at}
use Rattle.replacement.proofs.Source.row_of.Goals as goal
use Rattle.replacement.proofs.Source.row_of.Goals.{In-loop-u}

-- a turn
turn : (c : In-loop-u) → let a = c.args in let x = a.self.now.body.x in let u = slice_index_or a.us.now c.loop-u.u-index [] in
    Parts (midpoints x a.t.now (drop c.loop-u.u-index a.us.now)) (here x (midpoint a.t.now u) ∷ []) (midpoints x a.t.now (drop (c.loop-u.u-index + 1) a.us.now))
turn c = mid-turn c.args.self.now.body.x c.args.us.now c.loop-u.u-index c.args.t.now c.loop-u-test.true

pub at_midpoint-requires-clause-rows : goal.at_midpoint-requires-clause-rows
at_midpoint-requires-clause-rows c = (c.requires.row, row-at c.args.us.now c.loop-u.u-index c.loop-u-test.true c.requires.table.rows)

pub at_midpoint-requires-clause-sure : goal.at_midpoint-requires-clause-sure
at_midpoint-requires-clause-sure c = way-sure c.loop-u.invariant (turn (goal.at.at_midpoint-requires-clause-sure c).In-loop-u)

pub returns-in_err-d : goal.returns-in_err-d
returns-in_err-d c = subst (Tries _ _ _ _ _) (sym (err-same c.from_residual.result c.from_residual.ensures)) (way-stops c.loop-u.invariant (turn (goal.at.returns-in_err-d c).In-loop-u) c.in_err-d.ensures)

pub returns-then-ends : goal.returns-then-ends
returns-then-ends c = way-ends c.loop-u.invariant (turn (goal.at.returns-then-ends c).In-loop-u) c.in_ok-d.ensures (sym c.ends.ensures ∙ c.if-ends.true)

pub loop-u-preserved : goal.loop-u-preserved
loop-u-preserved c = way-more c.loop-u.invariant (turn (goal.at.loop-u-preserved c).In-loop-u) c.in_ok-d.ensures (omega arith)

pub returns : goal.returns
returns c = way_end c.loop-u.invariant (mid-end c.args.self.now.body.x c.args.us.now c.loop-u.u-index c.args.t.now c.loop-u-test.false)
