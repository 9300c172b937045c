-- `eliminate_tallied`: 1 for a buffer that is too short, then what reading refuses, then the elimination of the sheet that was read.
use mathlib.Core.Path.{sym, ◌∙◌, ap, subst}
use Rattle.std.proofs.lemmas.Result.{err_from_is_err_and}
use Rattle.reading.specs.Answers.{refusal_no}
use Rattle.reading.specs.declared.Refusal.TheVariants.{SmallBuffer}
use Rattle.rules.specs.Eliminate.{Result, eliminate}
use Rattle.elimination.specs.Running.{tallied}
use Rattle.elimination.specs.Eliminating.{Accepted, Gives}
use Rattle.elimination.proofs.eliminating.Carrying.{reading-accepts, sheet-accepted, sheet-refused, buffers-small, gives-no}
use Rattle.elimination.proofs.eliminating.CountLaws.{buffers-uncounted, no-reading, counted-run}
use Rattle.elimination.proofs.eliminating.eliminate_tallied.Goals as goal
use Rattle.elimination.proofs.eliminating.eliminate_tallied.Goals.{In_ok-read}

pub returns-then-res-lt-RESULT_BYTES : goal.returns-then-res-lt-RESULT_BYTES
returns-then-res-lt-RESULT_BYTES c = let a = c.args in record {
  gives = gives-no (record { why = SmallBuffer; place = 0 }) a.res.now a.work.now (eliminate a.sheet.now a.res.now a.work.now) (buffers-small a.sheet.now a.res.now a.work.now c.then-res-lt-RESULT_BYTES.either);
  counts = ap tallied c.requires ∙ sym (buffers-uncounted a.sheet.now a.res.now a.work.now c.then-res-lt-RESULT_BYTES.either);
}

pub returns-in_err-read : goal.returns-in_err-read
returns-in_err-read c =
    let a = c.args in
    let p = err_from_is_err_and c.from_residual.result c.from_residual.ensures.1 in
    let r = c.in_err-read.field-0.0 in
    let l = c.if-res-lt-RESULT_BYTES.false in
    let j = c.if-work-lt-RESULT_BYTES.false in record {
      gives = rw (p.1, p.2) (gives-no r a.res.now a.work.now (eliminate a.sheet.now a.res.now a.work.now) (sheet-refused a.sheet.now a.res.now a.work.now (refusal_no r.why) r.place (sym c.in_err-read.ensures) l j));
      counts = ap tallied c.requires ∙ sym (no-reading a.sheet.now a.res.now a.work.now l j (refusal_no r.why) r.place (sym c.in_err-read.ensures));
    }

allowed : (c : In_ok-read) → Accepted c.args.sheet.now
allowed c = reading-accepts c.args.sheet.now c.in_ok-read.field-0 (λ i. (c.type_inv.sheet i).fits) (sym c.in_ok-read.ensures)

pub accepted-requires-clause-accepted : goal.accepted-requires-clause-accepted
accepted-requires-clause-accepted c = allowed (goal.at.accepted-requires-clause-accepted c).In_ok-read

pub returns : goal.returns
returns c =
    let a = c.args in
    let r = sym c.in_ok-read.ensures in
    let x = allowed (goal.at.returns c).In_ok-read in
    let l = c.if-res-lt-RESULT_BYTES.false in
    let j = c.if-work-lt-RESULT_BYTES.false in record {
      gives = subst (λ (o : Result). Gives o c.accepted.result c.accepted.new.res c.accepted.new.work) (sym (sheet-accepted a.sheet.now a.res.now a.work.now c.in_ok-read.field-0 r x l j)) c.accepted.ensures.gives;
      counts = counted-run a.sheet.now a.res.now a.work.now l j c.in_ok-read.field-0 r x c.accepted.new.tally c.accepted.ensures.counts;
    }
