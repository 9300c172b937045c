-- `step_with`: where the work buffer was short, the formula is as it was, and the step is made in the room.
use mathlib.Core.Path.{◌≡◌, sym, ◌∙◌, ap, subst}
use mathlib.Core.List.{List}
use Prim.Native.Nat.{ℕ}
use native.Mathlib.Omega.{arith}
use lib.ListN.{length, drop}
use Rattle.reading.specs.Limits.{result_bytes}
use Rattle.std.specs.Prelude.{Result, Err}
use Rattle.elimination.specs.declared.Stop.{Stop}
use Rattle.elimination.specs.Stepping.{held, stepped, is_short, Steps, Poised}
use Rattle.elimination.proofs.stepping.WholeStep.{steps-after}
use Rattle.elimination.proofs.stepping.step_with.Goals as goal
use Rattle.elimination.proofs.stepping.step_with.Goals.{then-fits_beside+in-Err-Short, else-fits_beside, Joined-fits_beside}

untouched : (c : Joined-fits_beside) → (c.if-fits_beside.cur ≡ c.args.cur.now) × (drop result_bytes c.if-fits_beside.work ≡ drop result_bytes c.args.work.now)
untouched c =
    elim c.if-fits_beside.branch [
      | then-fits_beside+in-Err-Short w ↦
          let f = rw w.in-Err-Short.is at w.in-Err-Short.field-0-is in
          let e : w.step_beside-tried.result ≡ Err Stop.Short = w.in-Err-Short.is ∙ ap (λ (s : Stop). Err s) f in
          (w.cur-is ∙ w.step_beside-tried.ensures.again (ap (λ (q : Result ℕ Stop). is_short (stepped q)) e), ap (drop result_bytes) w.work-is ∙ w.step_beside-tried.ensures.work_rest)
      | else-fits_beside w ↦ (w.cur-is, ap (drop result_bytes) w.work-is)
    ]

pub step_apart-requires : goal.step_apart-requires
step_apart-requires c = let u = untouched (goal.at.step_apart-requires c).Joined-fits_beside in record { result_bytes_in_bounds = omega (arith, c.requires.result_bytes_in_bounds); poised = subst (Poised c.args.step) (sym u.0) c.requires.poised }

pub returns : goal.returns
returns c = let u = untouched (goal.at.returns c).Joined-fits_beside in
    steps-after
    (subst (λ (l : List ℕ). Steps (held c.args.step.len l) (length c.args.room.now) l c.step_apart.new.cur c.if-fits_beside.work c.step_apart.new.work (stepped c.step_apart.result)) u.0 c.step_apart.ensures)
    u.1
