-- `carried`: the run is refused, wants room, or ends without quantifiers and is finished.
use mathlib.Core.Path.{refl, subst}
use Prim.Native.Nat.{ℕ}
use native.Mathlib.Omega.{arith}
use lib.ListN.{length}
use Rattle.std.specs.Prelude.{Ok, Err}
use Rattle.elimination.specs.Stepping.{held}
use Rattle.elimination.specs.Running.{Runs}
use Rattle.elimination.specs.Eliminating.{Carries}
use Rattle.elimination.proofs.running.RunLaws.{held-long}
use Rattle.elimination.proofs.eliminating.Carrying.{gives-from, carries-from, Left, run-left}
use Rattle.elimination.proofs.eliminating.carried.Goals as goal
use Rattle.elimination.proofs.eliminating.carried.Goals.{In-Ok}

-- what the run came to, and what it left
ran : (c : In-Ok) → let a = c.args in Runs (held a.len a.res.now) (length a.room.now) a.res.now c.steps.new.cur a.work.now c.steps.new.work (Ok (Ok c.in-Ok.n))
ran c = rw c.in-Ok.is at c.in_ok-n.ensures.runs

left : (c : In-Ok) → let a = c.args in Left (held a.len a.res.now) c.in-Ok.n c.steps.new.cur
left c =
    let a = c.args in
    run-left (held a.len a.res.now) c.in-Ok.n (length a.room.now) c.steps.new.cur c.requires.wide (omega (arith, held-long a.len a.res.now c.requires.stands, c.requires.stands.few)) (omega (arith, c.requires.stands.long)) (ran c).answer

pub ended-requires-clause-unquantified : goal.ended-requires-clause-unquantified
ended-requires-clause-unquantified c = (left (goal.at.ended-requires-clause-unquantified c).In-Ok).unquantified

pub ended-requires-clause-wide : goal.ended-requires-clause-wide
ended-requires-clause-wide c = (left (goal.at.ended-requires-clause-wide c).In-Ok).reached.wide

pub returns-in-Ok-clause-carries : goal.returns-in-Ok-clause-carries
returns-in-Ok-clause-carries c =
    let a = c.args in
    let u = ran (goal.at.returns-in-Ok-clause-carries c).In-Ok in
    carries-from (held a.len a.res.now) a.res.now c.steps.new.cur a.work.now c.steps.new.work u.cur_rest u.work_rest (held c.in-Ok.n c.steps.new.cur) a.sheet (length a.room.now) c.ended.new.res c.ended.new.work c.ended.result
    (left (goal.at.returns-in-Ok-clause-carries c).In-Ok).reached.same (subst (λ (n : ℕ). Carries (held c.in-Ok.n c.steps.new.cur) a.sheet n c.steps.new.cur c.ended.new.res c.steps.new.work c.ended.new.work c.ended.result) c.steps.auto.room c.ended.ensures.carries)

pub returns-in-Err-clause-carries : goal.returns-in-Err-clause-carries
returns-in-Err-clause-carries c =
    let a = c.args in
    let u : Runs (held a.len a.res.now) (length a.room.now) a.res.now c.steps.new.cur a.work.now c.steps.new.work (Ok (Err c.in-Err.refused)) = rw c.in-Err.is at c.in_ok-n.ensures.runs in
    gives-from (held a.len a.res.now) a.res.now c.steps.new.cur a.work.now c.steps.new.work u.cur_rest u.work_rest a.sheet _ (Err c.in-Err.refused) c.clear.new.d c.clear-in-Err.new.d u.answer (refl, refl, refl, refl, c.clear.ensures, c.clear-in-Err.ensures)
