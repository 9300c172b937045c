-- 01, 'Numbers that bound the work': an elimination, a test and a look under smaller limits of bytes and levels. Of any sheet they answer the same as under the
-- larger ones, every byte of the buffers with them, or 2 at 0, or 8; and the same where reading accepts the sheet. Assumes nothing.
use mathlib.Core.Path.{◌≡◌, refl, ap, ap₂}
use mathlib.Core.Bool.{Bool, true, false, ◌||◌, cond}
use mathlib.Core.List.{List}
use mathlib.Core.Logic.{◌⊎◌, inl, inr}
use Prim.Native.Nat.{ℕ, ◌≤◌}
use lib.Dec.{ltb}
use lib.IntN.{ℤ}
use lib.ListN.{length}
use Rattle.reading.specs.Limits.{result_bytes}
use Rattle.reading.specs.AnswerNumbers.{small_buffer, long_sheet, deep_nesting}
use Rattle.reading.specs.Formula.{Formula}
use Rattle.reading.specs.Reading.{Read, formula_in}
use Rattle.reading.specs.Answers.{reading}
use Rattle.reading.specs.Quantifiers.{part_in, look_within}
use Rattle.reading.specs.Answers.{Reply}
use Rattle.reading.specs.Answers.{Done}
use Rattle.reading.proofs.OtherLimits.{Older, older, stored}
use Rattle.rules.specs.Eliminate.{Result, refused, by_reading, eliminate_within}
use Rattle.rules.specs.Test.{refused_test, by_test, tested_within}

-- at most b bytes and d levels, and at most c and e, which are no fewer
module _ (b c d e : ℕ) (bytes : b ≤ c) (levels : d ≤ e) (sheet : List ℕ) where
  -- ---- where only the limits differ: the same, or 2 at 0, or 8, and then no buffer changes
  module _ (out work : List ℕ) where
    -- by whether a buffer is too short
    abbrev by : Bool → Reply → Read Formula → Result
    by y r f = cond y (refused small_buffer 0 out work) (by_reading (length sheet) r f out work)

    abbrev OlderResult : Result → Result → Type 0
    OlderResult r q = (r ≡ q) ⊎ ((r ≡ refused long_sheet 0 out work) ⊎ ((p : ℕ) × (r ≡ refused deep_nesting p out work)))

    pub older-result : OlderResult (eliminate_within b d sheet out work) (eliminate_within c e sheet out work)
    older-result = start (ltb (length out) result_bytes || ltb (length work) result_bytes) (older b c d e bytes levels sheet)
      where
        start : (y : Bool) → Older b c d e sheet → OlderResult (by y (reading b d sheet) (formula_in d sheet)) (by y (reading c e sheet) (formula_in e sheet))
        start true x = inl refl
        start false (inl x) = inl (ap₂ (by false) x.0 x.1)
        start false (inr (inl x)) = inr (inl (ap (λ (r : Reply). by false r (formula_in d sheet)) x))
        start false (inr (inr x)) = inr (inr (x.0, ap (λ (r : Reply). by false r (formula_in d sheet)) x.1))

  pub older-test : (w : List ℤ) → let r = tested_within b d sheet w in
      (r ≡ tested_within c e sheet w) ⊎ ((r ≡ refused_test long_sheet 0) ⊎ ((p : ℕ) × (r ≡ refused_test deep_nesting p)))
  older-test w = go (older b c d e bytes levels sheet)
    where
      go : Older b c d e sheet → let r = tested_within b d sheet w in (r ≡ tested_within c e sheet w) ⊎ ((r ≡ refused_test long_sheet 0) ⊎ ((p : ℕ) × (r ≡ refused_test deep_nesting p)))
      go (inl x) = inl (ap₂ (λ (r : Reply) (f : Read Formula). by_test r f w) x.0 x.1)
      go (inr (inl x)) = inr (inl (ap (λ (r : Reply). by_test r (formula_in d sheet) w) x))
      go (inr (inr x)) = inr (inr (x.0, ap (λ (r : Reply). by_test r (formula_in d sheet) w) x.1))

  -- ---- a sheet that the smaller limits accept: the same under both
  module _ {k : ℕ} (was : reading b d sheet ≡ Done k) where
    pub stored-result : (out work : List ℕ) → eliminate_within b d sheet out work ≡ eliminate_within c e sheet out work
    stored-result out work =
        let x = stored b c d e bytes levels sheet was in
        ap₂ (λ (r : Reply) (f : Read Formula). cond (ltb (length out) result_bytes || ltb (length work) result_bytes) (refused small_buffer 0 out work) (by_reading (length sheet) r f out work)) x.0 x.1

    pub stored-test : (w : List ℤ) → tested_within b d sheet w ≡ tested_within c e sheet w
    stored-test w = let x = stored b c d e bytes levels sheet was in ap₂ (λ (r : Reply) (f : Read Formula). by_test r f w) x.0 x.1

    pub stored-look : look_within b d sheet ≡ look_within c e sheet
    stored-look = let x = stored b c d e bytes levels sheet was in ap₂ part_in x.0 x.1
