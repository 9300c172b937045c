-- The bytes after the quantifier go to the start of the work buffer, the replacement behind them, and `join` brings both back.
use mathlib.Core.Path.{◌≡◌, ◌∙◌}
use Prim.Native.Nat.{◌+◌, ◌-◌}
use lib.ListN.{length}
use Rattle.reading.specs.Limits.{result_bytes}
use native.Mathlib.Omega.{arith}
use Rattle.std.specs.Prelude.{Ok}
use Rattle.std.proofs.lemmas.Result.{err_from_is_err_and}
use Rattle.elimination.proofs.stepping.WholeStep.{made_asks, made_told, step-unmade, step-fine}
use Rattle.elimination.proofs.stepping.Joining.{Tail, tail-of, Begun, part-long, filled-front, filled-rest, filled_put}
use Rattle.elimination.proofs.stepping.step_beside.Goals as goal
use Rattle.elimination.proofs.stepping.step_beside.Goals.{After-copy_over}

-- the bytes after the quantifier
tail : (c : After-copy_over) → Tail c.args.step.len (c.args.step.o + 6 + c.args.step.body.bytes) c.args.cur.now c.copy_over.new.d
tail c = tail-of c.requires.poised.within (omega (arith, c.requires.poised.stands.few, c.requires.poised.stands.long)) c.copy_over.ensures

begun : (c : After-copy_over) → Begun (c.args.step.len - (c.args.step.o + 6 + c.args.step.body.bytes)) c.args.work.now c.copy_over.new.d
begun c = record { few = omega (arith, c.requires.poised.stands.few); room = c.requires.result_bytes_in_bounds; long = (tail c).long }

pub made-requires : goal.made-requires
made-requires c = let asked = made_asks c.requires.poised _ (omega (arith, part-long (begun (goal.at.made-requires c).After-copy_over), c.requires.poised.within, c.requires.poised.stands.few)) in record { copiable = asked.0; table = asked.1.0; sure = asked.1.1 }

pub returns-in_err-r : goal.returns-in_err-r
returns-in_err-r c = let b = begun (goal.at.returns-in_err-r c).After-copy_over in
    let size : length c.made.new.out ≡ result_bytes - (c.args.step.len - (c.args.step.o + 6 + c.args.step.body.bytes)) = omega (arith, part-long b) in
    let p = err_from_is_err_and c.from_residual.result c.from_residual.ensures.1 in
    rw (p.1, p.2) (step-unmade c.requires.poised _ c.made.new.out c.args.work.now _ c.in_err-r.field-0.0 c.in_err-r.ensures (filled-rest b c.made.new.out size))

pub returns : goal.returns
returns c = let b = begun (goal.at.returns c).After-copy_over in
    let size : length c.made.new.out ≡ result_bytes - (c.args.step.len - (c.args.step.o + 6 + c.args.step.body.bytes)) = omega (arith, part-long b) in
    let f = made_told c.requires.poised 0 c.made.new.out (Ok c.in_ok-r.r) c.in_ok-r.ensures in
    step-fine c.requires.poised (f.0, rw c.split_at.ensures.back (filled_put b c.made.new.out size f.1)) (c.split_at.ensures.front ∙ filled-front b c.made.new.out size ∙ (tail (goal.at.returns c).After-copy_over).behind) (filled-rest b c.made.new.out size) c.join.ensures
