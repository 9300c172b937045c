-- `eliminate_in`: 1 for a buffer or a room that is too short, then what reading refuses, then the elimination of the sheet that was read. Of the room only
-- the first 524,288 bytes are lent.
use mathlib.Core.Path.{sym, ◌∙◌, subst}
use lib.ListN.{length, take}
use Rattle.std.proofs.lemmas.Result.{err_from_is_err_and}
use Rattle.reading.specs.Answers.{refusal_no}
use Rattle.reading.specs.Reading.{tree_of}
use Rattle.reading.specs.declared.Refusal.TheVariants.{SmallBuffer}
use Rattle.rules.specs.Eliminate.{Result, eliminate_in, room_bytes}
use Rattle.rules.proofs.Answers.{in-room}
use Rattle.elimination.specs.Eliminating.{Accepted, Gives}
use Rattle.elimination.proofs.eliminating.Carrying.{reading-accepts, sheet-accepted, sheet-refused, any-small, gives-no, carried-done, carried-ok, lent-long, lent-rest}
use Rattle.elimination.proofs.eliminating.eliminate_in.Goals as goal
use Rattle.elimination.proofs.eliminating.eliminate_in.Goals.{In_ok-read}

pub returns-then-res-lt-RESULT_BYTES-clause-gives : goal.returns-then-res-lt-RESULT_BYTES-clause-gives
returns-then-res-lt-RESULT_BYTES-clause-gives c = let a = c.args in
    gives-no (record { why = SmallBuffer; place = 0 }) a.res.now a.work.now (eliminate_in (length a.room.now) a.sheet.now a.res.now a.work.now) (any-small (length a.room.now) a.sheet.now a.res.now a.work.now c.then-res-lt-RESULT_BYTES.either)

pub returns-in_err-read-clause-gives : goal.returns-in_err-read-clause-gives
returns-in_err-read-clause-gives c =
    let a = c.args in
    let p = err_from_is_err_and c.from_residual.result c.from_residual.ensures.1 in
    let r = c.in_err-read.field-0.0 in
    rw (p.1, p.2) (gives-no r a.res.now a.work.now (eliminate_in (length a.room.now) a.sheet.now a.res.now a.work.now)
    (in-room (length a.room.now) a.sheet.now a.res.now a.work.now c.if-room-lt-ROOM.false
    ∙ sheet-refused a.sheet.now a.res.now a.work.now (refusal_no r.why) r.place (sym c.in_err-read.ensures) c.if-res-lt-RESULT_BYTES.false c.if-work-lt-RESULT_BYTES.false))

allowed : (c : In_ok-read) → Accepted c.args.sheet.now
allowed c = reading-accepts c.args.sheet.now c.in_ok-read.field-0 (λ i. (c.type_inv.sheet i).fits) (sym c.in_ok-read.ensures)

pub begun-requires-clause-accepted : goal.begun-requires-clause-accepted
begun-requires-clause-accepted c = allowed (goal.at.begun-requires-clause-accepted c).In_ok-read

pub unwrap-requires : goal.unwrap-requires
unwrap-requires c = let a = c.args in
    carried-ok (tree_of a.sheet.now) (length a.sheet.now) (length (take room_bytes a.room.now)) a.res.now c.begun.new.res a.work.now c.begun.new.work c.begun.result c.begun.ensures.carries (lent-long room_bytes a.room.now c.if-room-lt-ROOM.false)

pub returns : goal.returns
returns c = let a = c.args in record {
  gives = subst (λ (o : Result). Gives o c.unwrap.result c.begun.new.res c.begun.new.work)
      (sym (in-room (length a.room.now) a.sheet.now a.res.now a.work.now c.if-room-lt-ROOM.false
      ∙ sheet-accepted a.sheet.now a.res.now a.work.now c.in_ok-read.field-0 (sym c.in_ok-read.ensures) (allowed (goal.at.returns c).In_ok-read) c.if-res-lt-RESULT_BYTES.false c.if-work-lt-RESULT_BYTES.false))
      (carried-done (tree_of a.sheet.now) (length a.sheet.now) (length (take room_bytes a.room.now)) a.res.now c.begun.new.res a.work.now c.begun.new.work c.begun.ensures.carries c.unwrap.result c.unwrap.ensures);
  rest = lent-rest room_bytes a.room.now c.begun.new.room c.if-room-lt-ROOM.false c.begun.auto.room;
}
