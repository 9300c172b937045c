-- 01, 'One step': the run of all steps. One step at a time it is the run of the formula after the step; it ends without quantifiers and within
-- the limits, or is refused with 10, 11 or 12 at a quantifier of the formula it began with. Assumes nothing.
use Prim.Native.Nat.{ℕ, zero, suc, ◌≤◌}
use mathlib.Core.Path.{◌≡◌, refl, ◌∙◌, ap, subst}
use mathlib.Core.Bool.{Bool, true, false, cond}
use native.Mathlib.Omega.{arith}
use lib.Dec.{ltb}
use lib.ListN.{length}
use Rattle.reading.specs.Limits.{most_terms, result_bytes}
use Rattle.reading.specs.Formula.{Formula, encode, Free}
use Rattle.reading.specs.Quantifiers.{Quantifier, nothing, at, last_in, QuantifierAt}
use Rattle.reading.proofs.Places.{nothing-free, found-quantifier}
use Rattle.rules.specs.Pushing.{push}
use Rattle.rules.specs.Points.{terms, points}
use Rattle.rules.specs.Steps.{quantifiers, step, numbers_fit, refusal, Run, ran, halted, onward, after_step, run, eliminated, steps}
use Rattle.rules.specs.Levels.{Wide}
use Rattle.rules.proofs.Stepwise.Around.{free-zero, zero-free}
use Rattle.rules.proofs.Stepwise.OneStep.{step-wide, step_fewer, count-fewer, RecordAt, own-record, steps-stood}

-- ---- one step at a time

run-after : (n : ℕ) (f : Formula) (p : ℕ) (b : Bool) (v : ℕ) (g : Formula) → last_in f ≡ at p b v g → (k : ℕ) → refusal v g (step f) ≡ k → run (suc n) f ≡ onward k p (run n (step f))
unfolding run
run-after n f p b v g e k r = ap (λ (q : Quantifier). after_step q (step f) (run n (step f))) e ∙ ap (λ (m : ℕ). onward m p (run n (step f))) r

-- a step that is not refused
pub run_on : (f : Formula) (p : ℕ) (b : Bool) (v : ℕ) (g : Formula) → last_in f ≡ at p b v g → refusal v g (step f) ≡ 0 → eliminated f ≡ eliminated (step f)
unfolding eliminated
run_on f p b v g e r = ap (λ (n : ℕ). run n f) (step_fewer f p b v g e) ∙ run-after (quantifiers (step f)) f p b v g e 0 r

-- a step that is refused
pub run-stops : (f : Formula) (p : ℕ) (b : Bool) (v : ℕ) (g : Formula) (n : ℕ) → last_in f ≡ at p b v g → refusal v g (step f) ≡ suc n → eliminated f ≡ halted (suc n) p
unfolding eliminated
run-stops f p b v g n e r = ap (λ (n : ℕ). run n f) (step_fewer f p b v g e) ∙ run-after (quantifiers (step f)) f p b v g e (suc n) r

-- no quantifier is left
pub run-done : (f : Formula) → last_in f ≡ nothing → eliminated f ≡ ran f
unfolding eliminated run
run-done f e = ap (λ (n : ℕ). run n f) (free-zero f ((nothing-free true f).0 e))

-- ---- as many steps as there are quantifiers

pub steps-free : (n : ℕ) (f : Formula) → quantifiers f ≡ n → Free (steps n f)
steps-free zero f e = zero-free f e
steps-free (suc n) f e = steps-free n (step f) (count-fewer n f e)

-- the run with its refusals, where nothing is refused, takes just these steps
onward-ran : (n p : ℕ) (r : Run) (g : Formula) → onward n p r ≡ ran g → r ≡ ran g
onward-ran zero p r g e = e
onward-ran (suc n) p r g e = cc

after-ran : (q : Quantifier) (h : Formula) (r : Run) (g : Formula) → after_step q h r ≡ ran g → r ≡ ran g
after-ran nothing h r g e = e
after-ran (at p b x f) h r g e = onward-ran (refusal x f h) p r g e

run_ran : (n : ℕ) (f g : Formula) → run n f ≡ ran g → g ≡ steps n f
unfolding run
run_ran zero f g e = cc
run_ran (suc n) f g e = run_ran n (step f) g (after-ran (last_in f) (step f) (run n (step f)) g e)

pub run_is : (f g : Formula) → eliminated f ≡ ran g → g ≡ steps (quantifiers f) f
unfolding eliminated
run_is f g e = run_ran (quantifiers f) f g e

-- ---- what the run ends in

-- the number of a refusal is 10, 11 or 12
refusal-number : (v : ℕ) (g h : Formula) (n : ℕ) → refusal v g h ≡ suc n → (10 ≤ suc n) × (suc n ≤ 12)
unfolding refusal
refusal-number v g h n e = go (ltb most_terms (length (terms v g))) (numbers_fit (points v (terms v g)) (push false g)) (ltb result_bytes (length (encode h))) e
  where
    go : (a b c : Bool) → cond {A = ℕ} a 10 (cond b (cond c 12 0) 11) ≡ suc n → (10 ≤ suc n) × (suc n ≤ 12)
    go true b c e = omega arith
    go false true true e = omega arith
    go false true false e = absurd (omega arith)
    go false false c e = omega arith

-- what is known of a run that ends: no quantifier is left, and the limits are kept; or the step after k steps was refused, at its quantifier
abbrev Ends : ℕ → Formula → Run → Type 0
Ends d f (ran g) = (Wide d f → Wide d g) × Free g
Ends d f (halted e p) = (k : ℕ) × (b : Bool) × (v : ℕ) × (g : Formula) × (last_in (steps k f) ≡ at p b v g) × (refusal v g (step (steps k f)) ≡ e) × (10 ≤ e) × (e ≤ 12)

-- what is known after a step is known before it
later : (d : ℕ) (f : Formula) (r : Run) → (Wide d f → Wide d (step f)) → Ends d (step f) r → Ends d f r
later d f (ran g) h w = ((λ x. w.0 (h x)), w.1)
later d f (halted e p) h w = (suc w.0, w.1, w.2, w.3, w.4, w.5, w.6, w.7)

run_ends : (d n : ℕ) (f : Formula) → quantifiers f ≡ n → Ends d f (run n f)
unfolding run
run_ends d zero f q = ((λ w. w), zero-free f q)
run_ends d (suc n) f q = go (last_in f) refl (λ h. run_ends d n (step f) h)
  where
    on : (p : ℕ) (b : Bool) (v : ℕ) (g : Formula) → last_in f ≡ at p b v g → (quantifiers (step f) ≡ n → Ends d (step f) (run n (step f))) → (k : ℕ) → refusal v g (step f) ≡ k
        → Ends d f (onward k p (run n (step f)))
    on p b v g e ih zero r = later d f (run n (step f)) (step-wide d f p b v g e r) (ih (omega (arith, step_fewer f p b v g e)))
    on p b v g e ih (suc k) r = let z = refusal-number v g (step f) k r in (0, b, v, g, e, r, z.0, z.1)

    go : (l : Quantifier) → last_in f ≡ l → (quantifiers (step f) ≡ n → Ends d (step f) (run n (step f))) → Ends d f (after_step l (step f) (run n (step f)))
    go nothing e ih = absurd (omega (arith, free-zero f ((nothing-free true f).0 e)))
    go (at p b v g) e ih = on p b v g e ih (refusal v g (step f)) refl

-- a run that is not refused ends without quantifiers, and within the limits
pub eliminated-wide : (d : ℕ) (f g : Formula) → Wide d f → eliminated f ≡ ran g → Wide d g × Free g
unfolding eliminated
eliminated-wide d f g w e = let r : Ends d f (ran g) = subst (Ends d f) e (run_ends d (quantifiers f) f refl) in (r.0 w, r.1)

-- a run that is refused: the number, and the place, which is a quantifier's in the formula before all steps
pub record Halted (f : Formula) (e p : ℕ) : Type 0 where
  pub low : 10 ≤ e
  pub high : e ≤ 12
  pub kind : Bool
  pub variable : ℕ
  pub place : RecordAt (encode f) p kind variable
  pub stands : QuantifierAt p f

pub eliminated-halted : (f : Formula) (e p : ℕ) → eliminated f ≡ halted e p → Halted f e p
unfolding eliminated
eliminated-halted f e p h =
    let r : Ends 0 f (halted e p) = subst (Ends 0 f) h (run_ends 0 (quantifiers f) f refl) in
    record { low = r.6; high = r.7; kind = r.1; variable = r.2; place = own-record r.0 f p r.1 r.2 r.3 r.4; stands = steps-stood r.0 p f (found-quantifier true (steps r.0 f) p r.1 r.2 r.3 r.4) }
