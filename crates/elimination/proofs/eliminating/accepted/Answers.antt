-- `accepted`: where a room is too small, the next goes on from the formula that was reached, and from what was counted.
use native.Mathlib.Omega.{arith}
use lib.ListN.{length}
use Rattle.reading.specs.Reading.{tree_of}
use Rattle.elimination.specs.Stepping.{held}
use Rattle.elimination.specs.Eliminating.{untallied}
use Rattle.elimination.proofs.eliminating.Carrying.{gives-from}
use Rattle.elimination.proofs.eliminating.CountLaws.{few-from, few-sheet}
use Rattle.elimination.proofs.eliminating.accepted.Goals as goal

pub carried_on-requires : goal.carried_on-requires
carried_on-requires c = let s = c.in-Err.ensures.carries in record {
  stands = s.0.stands;
  wide = s.0.wide;
  room = omega arith;
  few = few-from (tree_of c.args.sheet.now) untallied c.in-Err.near.reached c.begun.new.res c.begun.new.tally c.in-Err.ensures.counts (few-sheet c.args.sheet.now c.requires.accepted);
}

pub carried_out-requires : goal.carried_out-requires
carried_out-requires c = let s = c.in-Err-carried_on.ensures.carries in record {
  stands = s.0.stands;
  wide = s.0.wide;
  room = omega arith;
  few = few-from (held c.in-Err.near.reached c.begun.new.res) c.begun.new.tally c.in-Err-carried_on.far.reached c.carried_on.new.res c.carried_on.new.tally c.in-Err-carried_on.ensures.counts
      (few-from (tree_of c.args.sheet.now) untallied c.in-Err.near.reached c.begun.new.res c.begun.new.tally c.in-Err.ensures.counts (few-sheet c.args.sheet.now c.requires.accepted));
}

pub returns-in-Ok-carried_on-clause-gives : goal.returns-in-Ok-carried_on-clause-gives
returns-in-Ok-carried_on-clause-gives c =
    let s = c.in-Err.ensures.carries in
    gives-from (tree_of c.args.sheet.now) c.args.res.now c.begun.new.res c.args.work.now c.begun.new.work s.1 s.2 (length c.args.sheet.now) _ c.in-Ok-carried_on.reply c.carried_on.new.res c.carried_on.new.work s.0.same c.in-Ok-carried_on.ensures.carries

pub returns-in-Err-carried_on-clause-gives : goal.returns-in-Err-carried_on-clause-gives
returns-in-Err-carried_on-clause-gives c =
    let s = c.in-Err.ensures.carries in
    let t = c.in-Err-carried_on.ensures.carries in
    let n = length c.args.sheet.now in
    gives-from (tree_of c.args.sheet.now) c.args.res.now c.begun.new.res c.args.work.now c.begun.new.work s.1 s.2 n _ c.carried_out.result c.carried_out.new.res c.carried_out.new.work s.0.same
    (gives-from (held c.in-Err.near.reached c.begun.new.res) c.begun.new.res c.carried_on.new.res c.begun.new.work c.carried_on.new.work t.1 t.2 n _ c.carried_out.result c.carried_out.new.res c.carried_out.new.work t.0.same c.carried_out.ensures.gives)
