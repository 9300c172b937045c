-- Each turn takes one record.
use mathlib.Core.Path.{refl, ◌∙◌}
use Prim.Native.Nat.{◌-◌, ◌/◌, ◌<◌}
use native.Mathlib.Omega.{arith}
use lib.ListN.{length, length-set}
use Rattle.reading.specs.Reading.{tree_of}
use Rattle.reading.proofs.Passing.{part_from}
use Rattle.replacement.proofs.surveying.OverRecords.{OverStep, over-step}
use Rattle.replacement.proofs.marking.MarkLaws.{Left, mark-begins, mark-next, mark-ends}
use Rattle.replacement.proofs.marking.mark.Goals as goal
use Rattle.replacement.proofs.marking.mark.Goals.{In-loop-at}

-- a turn
turn : (c : In-loop-at) → let a = c.args in let l = c.loop-at in OverStep a.s.now (length a.s.now) l.at (Left a.s.now a.x l.marks l.at) (tree_of (part_from l.at a.s.now))
turn c = over-step c.loop-at.invariant.1 c.loop-at-test.true

pub loop-at-init : goal.loop-at-init
loop-at-init c = (refl, mark-begins c.args.x c.args.marks.now c.requires.exactly.0)

pub mark_of-requires-clause-begins : goal.mark_of-requires-clause-begins
mark_of-requires-clause-begins c = (turn (goal.at.mark_of-requires-clause-begins c).In-loop-at).begins

pub record_bytes-at-requires : goal.record_bytes-at-requires
record_bytes-at-requires c = (turn (goal.at.record_bytes-at-requires c).In-loop-at).begins

pub loop-at-preserved : goal.loop-at-preserved
loop-at-preserved c = let m = c.mark_of in
    let l = c.loop-at in
    let a = c.args in
    let place : (length a.s.now - l.at) / 40 < length l.marks = omega (arith, c.requires.s_len_bound, l.invariant.0) in (
      length-set l.marks ((length a.s.now - l.at) / 40) m.result ∙ l.invariant.0,
      rw c.record_bytes-at.ensures (mark-next a.x l.marks m.result (turn (goal.at.loop-at-preserved c).In-loop-at) place m.ensures),
    )

pub returns : goal.returns
returns c = let l = c.loop-at in mark-ends c.args.x l.marks l.invariant.1 c.loop-at-test.false
