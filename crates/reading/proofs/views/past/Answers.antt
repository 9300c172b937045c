-- `past`: whichever formulas stand there, what is left of them at p ends where they do.
use Prim.Native.Nat.{◌+◌}
use native.Mathlib.Omega.{arith}
use lib.ListN.{length}
use Rattle.reading.specs.Formula.{encodes}
use Rattle.reading.specs.Reading.{tree_of}
use Rattle.reading.proofs.Passing.{PassStep, part_from, pass-begins, pass_step, pass-ends, pass-few}
use Rattle.reading.proofs.views.past.Goals as goal
use Rattle.reading.proofs.views.past.Goals.{In-loop-k}

-- a turn, for the formulas that are asked for
turn : (c : In-loop-k) → let p = c.loop-k.p in PassStep c.args.s.now (c.args.at + length (encodes c.requires.members)) p c.loop-k.k (tree_of (part_from p c.args.s.now))
turn c = pass_step (c.loop-k.invariant c.requires.members c.requires.rest c.requires.bytes c.requires.many c.requires.fits) (omega (arith, c.loop-k-test.true))

pub loop-k-init : goal.loop-k-init
loop-k-init c = pass-begins

pub overflow_sub-k : goal.overflow_sub-k
overflow_sub-k c = omega (arith, c.loop-k-test.true)

pub slice_bounds-followers-count : goal.slice_bounds-followers-count
slice_bounds-followers-count c = omega (arith, (turn (goal.at.slice_bounds-followers-count c).In-loop-k).room)

pub slice_bounds-followers-start : goal.slice_bounds-followers-start
slice_bounds-followers-start c = omega (arith, (turn (goal.at.slice_bounds-followers-start c).In-loop-k).room)

pub slice_bounds-followers-end : goal.slice_bounds-followers-end
slice_bounds-followers-end c = omega (arith, (turn (goal.at.slice_bounds-followers-end c).In-loop-k).room)

pub followers-requires : goal.followers-requires
followers-requires c = (turn (goal.at.followers-requires c).In-loop-k).begins

pub overflow_add-k : goal.overflow_add-k
overflow_add-k c = let t = turn (goal.at.overflow_add-k c).In-loop-k in omega (arith, c.followers.ensures, pass-few t.next, c.well_formed)

pub slice_bounds-record_bytes-count : goal.slice_bounds-record_bytes-count
slice_bounds-record_bytes-count c = omega (arith, (turn (goal.at.slice_bounds-record_bytes-count c).In-loop-k).room)

pub slice_bounds-record_bytes-start : goal.slice_bounds-record_bytes-start
slice_bounds-record_bytes-start c = omega (arith, (turn (goal.at.slice_bounds-record_bytes-start c).In-loop-k).room)

pub slice_bounds-record_bytes-end : goal.slice_bounds-record_bytes-end
slice_bounds-record_bytes-end c = omega (arith, (turn (goal.at.slice_bounds-record_bytes-end c).In-loop-k).room)

pub record_bytes-p-requires : goal.record_bytes-p-requires
record_bytes-p-requires c = (turn (goal.at.record_bytes-p-requires c).In-loop-k).begins

pub overflow_add-p : goal.overflow_add-p
overflow_add-p c = omega (arith, c.record_bytes-p.ensures, (turn (goal.at.overflow_add-p c).In-loop-k).room, c.well_formed)

pub loop-k-smaller : goal.loop-k-smaller
loop-k-smaller c = let t = turn (goal.at.loop-k-smaller c).In-loop-k in omega (arith, c.record_bytes-p.ensures, t.room, t.long)

pub loop-k-preserved : goal.loop-k-preserved
loop-k-preserved c = λ fs u e n w.
    rw (c.record_bytes-p.ensures, c.followers.ensures) (pass_step (c.loop-k.invariant fs u e n w) (omega (arith, c.loop-k-test.true))).next

pub returns : goal.returns
returns c = λ fs u e n w. pass-ends (c.loop-k.invariant fs u e n w) (omega (arith, c.loop-k-test.false))
