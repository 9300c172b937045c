-- 01, 'Finishing pass' and 'Answers and their order': the one function that fixes everything an elimination answers and leaves behind, from the
-- bytes of the sheet and of the two buffers.
use Rattle.std.specs.Prelude.{ℕ, ◌-◌, ◌≤◌, true, false, ◌||◌, cond, List, ◌++◌, ltb, length, drop}
use Rattle.reading.specs.Limits.{sheet_bytes, sheet_levels, result_bytes}
use Rattle.reading.specs.Bytes.{zeros}
use Rattle.reading.specs.AnswerNumbers.{done, small_buffer, long_result}
use Rattle.reading.specs.Formula.{Formula, encode}
use Rattle.reading.specs.Reading.{Read, good, fault, formula_in}
use Rattle.reading.specs.Answers.{reading}
use Rattle.reading.specs.Answers.{Done, Refused}
use Rattle.reading.specs.Answers.{Reply}
use Rattle.exact.specs.Atoms.{nowhere}
use Rattle.rules.specs.Pushing.{push}
use Rattle.rules.specs.Lists.{Known, decided, unknown, known}
use Rattle.rules.specs.Copies.{copy}
use Rattle.rules.specs.Steps.{quantifiers, steps, Run, ran, halted, eliminated}

-- number, verdict, place and length, and all bytes of the result and the work buffer
pub record Result : Type 0 where
  pub number : ℕ
  pub verdict : ℕ
  pub place : ℕ
  pub length : ℕ
  pub result : List ℕ
  pub work : List ℕ

-- 1 if the result is the true record, 0 if the false record, 2 for any other
abbrev pub verdict_by : Known → ℕ
verdict_by (decided true) = 1
verdict_by (decided false) = 0
verdict_by unknown = 2

-- a buffer that is long enough
abbrev pub Roomy : List ℕ → Type 0
Roomy b = result_bytes ≤ length b

-- only the first 65,536 bytes of a buffer are ever written
abbrev pub cleared : List ℕ → List ℕ
cleared b = zeros result_bytes ++ drop result_bytes b

abbrev pub refused : ℕ → ℕ → List ℕ → List ℕ → Result
refused n p result work = record { number = n; verdict = 3; place = p; length = 0; result = result; work = work }

-- the result and then zeros; the work buffer zeros
abbrev pub delivered : Formula → List ℕ → List ℕ → Result
delivered g result work = record {
  number = done;
  verdict = verdict_by (known g);
  place = 0;
  length = length (encode g);
  result = encode g ++ (zeros (result_bytes - length (encode g)) ++ drop result_bytes result);
  work = cleared work;
}

-- with no quantifier left: NOT pushed inward, each atom decided or divided, list rule, over the whole formula
unfoldable pub finished : Formula → Formula
unfolding copy push
finished f = copy nowhere (push false f)

-- the whole construction: as many steps as there are quantifiers, and then the finishing pass. The tests that refuse only decide whether it is
-- delivered.
unfoldable pub result_of : Formula → Formula
unfolding finished
result_of f = finished (steps (quantifiers f) f)

-- the finishing pass can meet 12 only; its place is the sheet's length
abbrev pub by_run : ℕ → Run → List ℕ → List ℕ → Result
by_run n (halted e p) result work = refused e p (cleared result) (cleared work)
by_run n (ran f) result work =
    cond (ltb result_bytes (length (encode (finished f)))) (refused long_result n (cleared result) (cleared work)) (delivered (finished f) result work)

abbrev pub by_reading : ℕ → Reply → Read Formula → List ℕ → List ℕ → Result
by_reading n (Refused e p) r result work = refused e p result work
by_reading n (Done k) (good f j) result work = by_run n (eliminated f) result work
by_reading n (Done k) (fault e p) result work = refused e p result work

-- 1, then what reading refuses, then the steps: under the limits of `limit` bytes and d levels, which only reading knows of; and under those of a sheet
abbrev pub eliminate_within : ℕ → ℕ → List ℕ → List ℕ → List ℕ → Result
eliminate_within limit d sheet result work =
    cond (ltb (length result) result_bytes || ltb (length work) result_bytes) (refused small_buffer 0 result work)
    (by_reading (length sheet) (reading limit d sheet) (formula_in d sheet) result work)

unfoldable pub eliminate : List ℕ → List ℕ → List ℕ → Result
unfolding finished eliminated
eliminate sheet result work = eliminate_within sheet_bytes sheet_levels sheet result work

-- ---- the same in the caller's room, of n bytes: whatever it holds, the answer and both buffers are those of `eliminate`; a short one is a short buffer

abbrev pub room_bytes : ℕ
room_bytes = 524288

unfoldable pub eliminate_in : ℕ → List ℕ → List ℕ → List ℕ → Result
unfolding eliminate
eliminate_in n sheet result work = cond (ltb n room_bytes) (refused small_buffer 0 result work) (eliminate sheet result work)
