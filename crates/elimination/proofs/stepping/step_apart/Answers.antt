-- A room that may be too small is told first; then the replacement in the room, and `join` brings it and the bytes after it back.
use mathlib.Core.Bool.{true≢false}
use mathlib.Core.Path.{sym, ◌∙◌}
use Prim.Native.Nat.{◌+◌, ◌-◌}
use native.Mathlib.Omega.{arith}
use lib.ListN.{length}
use Rattle.std.specs.Prelude.{Ok}
use Rattle.std.proofs.lemmas.Result.{err_from_is_err_and}
use Rattle.elimination.proofs.stepping.WholeStep.{joined-ends, made_asks, made_told, step-wanting, steps-unmade, step-fine}
use Rattle.elimination.proofs.stepping.Joining.{Tail, tail-of, Begun, begun-front, begun-rest}
use Rattle.elimination.proofs.stepping.step_apart.Goals as goal

pub returns-then-room-step : goal.returns-then-room-step
returns-then-room-step c = step-wanting c.requires.poised (length c.args.room.now) c.args.work.now c.if-room-step.true

pub made-requires : goal.made-requires
made-requires c = let asked = made_asks c.requires.poised _ (omega (arith, c.if-room-step.false)) in record { copiable = asked.0; table = asked.1.0; sure = asked.1.1 }

pub returns-in_err-r : goal.returns-in_err-r
returns-in_err-r c = let p = err_from_is_err_and c.from_residual.result c.from_residual.ensures.1 in
    rw (p.1, p.2) (steps-unmade c.requires.poised (length c.args.room.now) c.made.new.out c.args.work.now c.in_err-r.field-0.0 c.in_err-r.ensures)

pub returns : goal.returns
returns c =
    let t : Tail c.args.step.len (c.args.step.o + 6 + c.args.step.body.bytes) c.args.cur.now c.copy_over.new.d = tail-of c.requires.poised.within (omega (arith, c.requires.poised.stands.few, c.requires.poised.stands.long)) c.copy_over.ensures in
    let b : Begun (c.args.step.len - (c.args.step.o + 6 + c.args.step.body.bytes)) c.args.work.now c.copy_over.new.d = record { few = omega (arith, c.requires.poised.stands.few); room = c.requires.result_bytes_in_bounds; long = t.long } in
    let f = made_told c.requires.poised 0 c.made.new.out (Ok c.in_ok-r.r) c.in_ok-r.ensures in
    record {
      tried = step-fine c.requires.poised f (begun-front b ∙ t.behind) (begun-rest b) c.join.ensures;
      roomy = λ y. absurd (true≢false (sym y ∙ joined-ends c.join.ensures));
    }
