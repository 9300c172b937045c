-- Each turn takes one record.
use lib.ListN.{length}
use Rattle.reading.specs.Reading.{tree_of}
use Rattle.reading.proofs.Passing.{part_from}
use Rattle.replacement.proofs.surveying.OverRecords.{OverStep, over-step}
use Rattle.replacement.proofs.surveying.SurveyLaws.{Seen, look-begins, look-next, look-ends}
use Rattle.replacement.proofs.surveying.survey.Goals as goal
use Rattle.replacement.proofs.surveying.survey.Goals.{In-loop-at}

-- a turn
turn : (c : In-loop-at) → let a = c.args in let l = c.loop-at in OverStep a.s.now (length a.s.now) l.at (Seen a.s.now a.x l.v) (tree_of (part_from l.at a.s.now))
turn c = over-step c.loop-at.invariant.over c.loop-at-test.true

pub loop-at-init : goal.loop-at-init
loop-at-init c = look-begins c.requires.begins.0 c.requires.s_len

pub seen-v-requires-clause-begins : goal.seen-v-requires-clause-begins
seen-v-requires-clause-begins c = (turn (goal.at.seen-v-requires-clause-begins c).In-loop-at).begins

pub record_bytes-at-requires : goal.record_bytes-at-requires
record_bytes-at-requires c = (turn (goal.at.record_bytes-at-requires c).In-loop-at).begins

pub loop-at-preserved : goal.loop-at-preserved
loop-at-preserved c = rw c.record_bytes-at.ensures (look-next (turn (goal.at.loop-at-preserved c).In-loop-at) c.seen-v.ensures.0 c.seen-v.ensures.1)

pub returns : goal.returns
returns c = (c.loop-at.invariant.small, look-ends c.loop-at.invariant c.loop-at-test.false)
