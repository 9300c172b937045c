-- `steps`: a turn is one step; one that is refused or wants room, or no quantifier left, ends the run.
use mathlib.Core.Path.{◌≡◌, refl, sym, ◌∙◌, ap}
use native.Mathlib.Omega.{arith}
use Rattle.std.specs.Prelude.{Err}
use Rattle.reading.specs.Answers.{refusal_no}
use Rattle.elimination.specs.declared.Stop.{Stop}
use Rattle.elimination.specs.Stepping.{held, stepped, Refused, Short}
use Rattle.elimination.proofs.running.RunLaws.{run-next, run-stopped, run-wants, run-finishes, count_next, count-stopped, count-wants, count-ends}
use Rattle.elimination.proofs.running.steps.Goals as goal

pub returns-in-Err-Refused : goal.returns-in-Err-Refused
returns-in-Err-Refused c = let i = c.loop-found.invariant in
    let s = c.in-Err-Refused.ensures.stepped in
    let e : stepped (Err c.in-Err-Refused.field-0) ≡ Refused (refusal_no c.in-Err-Refused.why) = ap (λ (q : Stop). stepped (Err q)) c.in-Err-Refused.field-0-is in record {
      runs = record { answer = run-stopped i.reached (sym i.found ∙ c.in-Some.is) s (refusal_no c.in-Err-Refused.why) e; cur_rest = s.tried.cur_rest ∙ i.cur_rest; work_rest = s.tried.work_rest ∙ i.work_rest };
      counts = count-stopped i.reached (sym i.found ∙ c.in-Some.is) s c.in-Err-Refused.ensures.counted i.counting (refusal_no c.in-Err-Refused.why) e;
    }

pub returns-in-Err-Short : goal.returns-in-Err-Short
returns-in-Err-Short c = let i = c.loop-found.invariant in
    let s = c.in-Err-Short.ensures.stepped in
    let e : stepped (Err c.in-Err-Short.field-0) ≡ Short = ap (λ (q : Stop). stepped (Err q)) c.in-Err-Short.field-0-is in
    let w = run-wants i.reached (sym i.found ∙ c.in-Some.is) s e in record {
      runs = record { answer = (w.0, omega (arith, w.1)); cur_rest = s.tried.cur_rest ∙ i.cur_rest; work_rest = s.tried.work_rest ∙ i.work_rest };
      counts = count-wants i.reached (sym i.found ∙ c.in-Some.is) s c.in-Err-Short.ensures.counted i.counting e;
    }

pub last_quantifier-found-requires-in-Some : goal.last_quantifier-found-requires-in-Some
last_quantifier-found-requires-in-Some c = let i = c.loop-found.invariant in
    (run-next i.reached (sym i.found ∙ c.in-Some.is) c.in-Ok.ensures.stepped c.in-Ok.m refl c.one_step.auto.cur).reached.stands.exactly

pub loop-found-smaller : goal.loop-found-smaller
loop-found-smaller c = let i = c.loop-found.invariant in
    omega (arith, (run-next i.reached (sym i.found ∙ c.in-Some.is) c.in-Ok.ensures.stepped c.in-Ok.m refl c.one_step.auto.cur).fewer)

pub loop-found-preserved : goal.loop-found-preserved
loop-found-preserved c = let i = c.loop-found.invariant in
    let s = c.in-Ok.ensures.stepped in record {
      found = c.last_quantifier-found-in-Some.ensures;
      reached = (run-next i.reached (sym i.found ∙ c.in-Some.is) s c.in-Ok.m refl c.one_step.auto.cur).reached;
      cur_rest = s.tried.cur_rest ∙ i.cur_rest;
      work_rest = s.tried.work_rest ∙ i.work_rest;
      counting = count_next i.reached (sym i.found ∙ c.in-Some.is) s c.in-Ok.ensures.counted i.counting c.in-Ok.m refl;
    }

pub returns : goal.returns
returns c = let i = c.loop-found.invariant in record {
  runs = record { answer = run-finishes 0 i.reached (sym i.found ∙ c.in_default.is); cur_rest = i.cur_rest; work_rest = i.work_rest };
  counts = count-ends (held c.loop-found.n c.loop-found.cur) (sym i.found ∙ c.in_default.is) i.counting;
}
