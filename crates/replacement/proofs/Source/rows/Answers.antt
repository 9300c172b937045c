-- `rows`: a turn is the midpoints of one term, and each goal is a law of `Way`.
use mathlib.Core.Path.{sym, ◌∙◌, subst}
use mathlib.Core.List.{[]}
use Prim.Native.Nat.{◌+◌, ◌-◌}
use native.Mathlib.Omega.{arith}
use lib.ListN.{length, take, drop}
use Rattle.std.specs.Prelude.{slice_index_or}
use Rattle.rules.specs.Points.{midpoints, all_midpoints}
use Rattle.replacement.specs.Trying.{Tries}
use Rattle.replacement.proofs.Outcomes.{err-same}
use Rattle.replacement.proofs.trying.PointLaws.{Parts, way-sure, way-more, way_end, way-ends, way-stops, rows-turn, rows_end, row-at, table-from}
use Rattle.replacement.proofs.Source.rows.Goals as goal
use Rattle.replacement.proofs.Source.rows.Goals.{In-loop-i}

-- a turn
turn : (c : In-loop-i) → let x = c.args.self.now.body.x in let ts = c.args.ts.now in let i = c.loop-i.i in
    Parts (all_midpoints x (drop i ts)) (midpoints x (slice_index_or ts i []) (take (length ts - i) (drop i ts))) (all_midpoints x (drop (i + 1) ts))
turn c = rows-turn c.args.self.now.body.x c.args.ts.now c.loop-i.i c.loop-i-test.true

pub row_of-requires-clause-row : goal.row_of-requires-clause-row
row_of-requires-clause-row c = row-at c.args.ts.now c.loop-i.i c.loop-i-test.true c.requires.table.rows

pub row_of-requires-clause-table : goal.row_of-requires-clause-table
row_of-requires-clause-table c = table-from c.loop-i.i c.requires.table

pub row_of-requires-clause-sure : goal.row_of-requires-clause-sure
row_of-requires-clause-sure c = way-sure c.loop-i.invariant (turn (goal.at.row_of-requires-clause-sure c).In-loop-i)

pub returns-in_err-d : goal.returns-in_err-d
returns-in_err-d c = subst (Tries _ _ _ _ _) (sym (err-same c.from_residual.result c.from_residual.ensures)) (way-stops c.loop-i.invariant (turn (goal.at.returns-in_err-d c).In-loop-i) c.in_err-d.ensures)

pub returns-then-ends : goal.returns-then-ends
returns-then-ends c = way-ends c.loop-i.invariant (turn (goal.at.returns-then-ends c).In-loop-i) c.in_ok-d.ensures (sym c.ends.ensures ∙ c.if-ends.true)

pub loop-i-preserved : goal.loop-i-preserved
loop-i-preserved c = way-more c.loop-i.invariant (turn (goal.at.loop-i-preserved c).In-loop-i) c.in_ok-d.ensures (omega arith)

pub returns : goal.returns
returns c = way_end c.loop-i.invariant (rows_end c.args.self.now.body.x c.args.ts.now c.loop-i.i c.loop-i-test.false)
