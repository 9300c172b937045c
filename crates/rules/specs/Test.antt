-- The test of a quantifier-free sheet at eight whole numbers over one denominator: 2 to 9, then 13 at the first quantifier, then 14.
use Rattle.std.specs.Prelude.{ℕ, zero, suc, Bool, true, false, ◌&&◌, cond, List, ℤ, pos, ◌+ℤ◌, ◌*ℤ◌}
use Rattle.std.proofs.Math.Bool as Bool
use Rattle.std.specs.Int.Signed.{lt_z, le_z}
use Rattle.reading.specs.Limits.{most_value, result_bytes, result_levels}
use Rattle.reading.specs.AnswerNumbers.{done, quantified, wrong_value}
use Rattle.reading.specs.Formula.{Formula, Formulas, atom, not, list, quant, window, none, more}
use Rattle.reading.specs.Reading.{Read, good, fault, formula_in}
use Rattle.reading.specs.Answers.{reading}
use Rattle.reading.specs.Quantifiers.{Quantifier, nothing, at, first_in}
use Rattle.reading.specs.Answers.{Reply}
use Rattle.reading.specs.Answers.{Done, Refused}
use Rattle.exact.specs.Numbers as Numbers
use Rattle.exact.specs.Numbers.{all_in}
use Rattle.exact.specs.Atoms.{holds}

-- what a test answers: number, verdict and place
pub record Trial : Type 0 where
  pub number : ℕ
  pub verdict : ℕ
  pub place : ℕ

-- f 0 + f 1 + .. of n numbers
unfoldable pub sum_to : ℕ → (ℕ → ℤ) → ℤ
sum_to zero f = pos 0
sum_to (suc n) f = f 0 +ℤ sum_to n (λ i. f (suc i))

-- an atom's sum at p₀/q .. p₇/q, times q: w is p₀ .. p₇, q
abbrev pub sum_at : List ℤ → List ℤ → ℤ
sum_at ns w = sum_to 9 (λ i. Numbers.at ns i *ℤ Numbers.at w i)

-- ALLOF is true unless a member is false, ANYOF false unless one is true
abbrev pub join : Bool → Bool → Bool → Bool
join true true y = y
join true false y = false
join false true y = true
join false false y = y

unfoldable mutual
  pub true_at : List ℤ → Formula → Bool
  true_at w (atom c ns) = holds c (sum_at ns w)
  true_at w (not f) = Bool.not (true_at w f)
  true_at w (list b fs) = all_true_at b w fs
  true_at w (quant b v f) = false
  true_at w (window v lo hi) = le_z (lo *ℤ Numbers.at w 8) (Numbers.at w v) && le_z (Numbers.at w v) (hi *ℤ Numbers.at w 8)

  pub all_true_at : Bool → List ℤ → Formulas → Bool
  all_true_at b w none = b
  all_true_at b w (more f fs) = join b (true_at w f) (all_true_at b w fs)

-- eight values in −1,000,000..1,000,000 and a denominator in 1..1,000,000
abbrev pub allowed : List ℤ → Bool
allowed w = all_in most_value w && lt_z (pos 0) (Numbers.at w 8)

abbrev pub refused_test : ℕ → ℕ → Trial
refused_test n p = record { number = n; verdict = 3; place = p }

abbrev pub by_values : List ℤ → Formula → Trial
by_values w f = cond (allowed w) (record { number = done; verdict = cond (true_at w f) 1 0; place = 0 }) (refused_test wrong_value 0)

abbrev pub by_quantifier : Quantifier → Trial → Trial
by_quantifier nothing t = t
by_quantifier (at p b v f) t = refused_test quantified p

abbrev pub by_test : Reply → Read Formula → List ℤ → Trial
by_test (Refused e p) r w = refused_test e p
by_test (Done k) (good f j) w = by_quantifier (first_in f) (by_values w f)
by_test (Done k) (fault e p) w = refused_test e p

-- under the limits of `limit` bytes and d levels, and under those of the test
abbrev pub tested_within : ℕ → ℕ → List ℕ → List ℤ → Trial
tested_within limit d sheet w = by_test (reading limit d sheet) (formula_in d sheet) w

unfoldable pub tested : List ℕ → List ℤ → Trial
unfolding true_at
tested sheet w = tested_within result_bytes result_levels sheet w
