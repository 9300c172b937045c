-- 01, 'One step': while a quantifier is left, the last one in reading order is replaced, body and all. The steps are total and never refuse;
-- the tests 10, 11 and 12 stand beside them, and the first that applies is the answer, at the quantifier's offset.
use Rattle.std.specs.Prelude.{ℕ, zero, suc, ◌+◌, Bool, true, false, ◌&&◌, cond, List, [], ◌∷◌, ltb, length}
use Rattle.reading.specs.Limits.{most_terms, result_bytes}
use Rattle.reading.specs.AnswerNumbers.{done, many_terms, big_number, long_result}
use Rattle.reading.specs.Formula.{Formula, Formulas, atom, not, list, quant, window, none, more, encode}
use Rattle.reading.specs.Quantifiers.{Quantifier, nothing, at, last_in}
use Rattle.exact.specs.Atoms.{Spot}
use Rattle.rules.specs.Pushing.{push}
use Rattle.rules.specs.Lists.{listed}
use Rattle.rules.specs.Copies.{copy, fits}
use Rattle.rules.specs.Points.{terms, points, spot_fits}

-- the copies of a pushed body, in point order
unfoldable pub copies : List Spot → Formula → Formulas
unfolding copy
copies [] f = none
copies (q ∷ qs) f = more (copy q f) (copies qs f)

-- SOME becomes the ANYOF of the copies, EVERY the ALLOF, under the list rule
unfoldable pub replacement : Bool → ℕ → Formula → Formula
unfolding listed copies points terms push
replacement b x f = listed b (copies (points x (terms x f)) (push false f))

-- how many quantifiers there are
unfoldable mutual
  pub quantifiers : Formula → ℕ
  quantifiers (atom c ns) = 0
  quantifiers (not f) = quantifiers f
  quantifiers (list b fs) = all_quantifiers fs
  quantifiers (quant b v f) = suc (quantifiers f)
  quantifiers (window v lo hi) = 0

  pub all_quantifiers : Formulas → ℕ
  all_quantifiers none = 0
  all_quantifiers (more f fs) = quantifiers f + all_quantifiers fs

-- by the number of quantifiers that stand further on
abbrev pub if_none : {A : Type 0} → ℕ → A → A → A
if_none zero here on = here
if_none (suc n) here on = on

-- the last quantifier replaced; all else stays
unfoldable mutual
  pub step : Formula → Formula
  step (atom c ns) = atom c ns
  step (not f) = not (step f)
  step (list b fs) = list b (step_in fs)
  step (quant b v f) = if_none (quantifiers f) (replacement b v f) (quant b v (step f))
  step (window v lo hi) = window v lo hi

  pub step_in : Formulas → Formulas
  step_in none = none
  step_in (more f fs) = if_none (all_quantifiers fs) (more (step f) fs) (more f (step_in fs))

-- n steps, one after the other
abbrev pub steps : ℕ → Formula → Formula
steps zero f = f
steps (suc n) f = steps n (step f)

-- ---- the tests of a step

-- every point's numbers, and every new atom's, lie in −M..M
unfoldable pub numbers_fit : List Spot → Formula → Bool
unfolding fits
numbers_fit [] f = true
numbers_fit (q ∷ qs) f = spot_fits q && fits q f && numbers_fit qs f

-- 10, 11, 12 or none (0), for the quantifier of x over f and the formula g after the step
unfoldable pub refusal : ℕ → Formula → Formula → ℕ
unfolding terms points numbers_fit push
refusal x f g =
    cond (ltb most_terms (length (terms x f))) many_terms
    (cond (numbers_fit (points x (terms x f)) (push false f)) (cond (ltb result_bytes (length (encode g))) long_result done) big_number)

-- ---- the run

-- no quantifier is left; or the number and the place of the refusal
pub data Run : Type 0 where
  ran : Formula → Run
  halted : ℕ → ℕ → Run

abbrev pub onward : ℕ → ℕ → Run → Run
onward zero p r = r
onward (suc n) p r = halted (suc n) p

abbrev pub after_step : Quantifier → Formula → Run → Run
after_step nothing g r = r
after_step (at p b x f) g r = onward (refusal x f g) p r

unfoldable pub run : ℕ → Formula → Run
unfolding refusal step
run zero f = ran f
run (suc n) f = after_step (last_in f) (step f) (run n (step f))

unfoldable pub eliminated : Formula → Run
unfolding run quantifiers
eliminated f = run (quantifiers f) f
