-- 01, 'Answers and their order', for a whole sheet; and what each case of the code's answers stands for.
use Rattle.std.specs.Prelude.{cond, ℕ, List, length, ltb, Result, Ok, Err}
use Rattle.reading.specs.AnswerNumbers.{done, small_buffer, long_sheet, cut_short, wrong_kind, wrong_length, wrong_variable, wrong_number, deep_nesting, bytes_after, many_terms, big_number, long_result, quantified, wrong_value}
use Rattle.reading.specs.Formula.{Formula, size, follow, kind_no}
use Rattle.reading.specs.Records.{Record, bad, opened}
use Rattle.reading.specs.Reading.{Read, good, fault, formula_in}
use Rattle.reading.specs.Views.{shape_no, shape_size}
use Rattle.reading.specs.declared.Refusal.{Refusal}
use Rattle.reading.specs.declared.Refusal.TheVariants.{SmallBuffer, LongSheet, CutShort, WrongKind, WrongLength, WrongVariable, WrongNumber, DeepNesting, BytesAfter, ManyTerms, BigNumber, LongResult, Quantified, WrongValue}
use Rattle.reading.specs.declared.Refused as Code
use Rattle.reading.specs.declared.records.Record as Header

-- ---- the code's refusals, by the numbers of the table

abbrev pub refusal_no : Refusal → ℕ
refusal_no SmallBuffer = small_buffer
refusal_no LongSheet = long_sheet
refusal_no CutShort = cut_short
refusal_no WrongKind = wrong_kind
refusal_no WrongLength = wrong_length
refusal_no WrongVariable = wrong_variable
refusal_no WrongNumber = wrong_number
refusal_no DeepNesting = deep_nesting
refusal_no BytesAfter = bytes_after
refusal_no ManyTerms = many_terms
refusal_no BigNumber = big_number
refusal_no LongResult = long_result
refusal_no Quantified = quantified
refusal_no WrongValue = wrong_value

-- ---- one record: the number of its refusal; or its kind, its length and how many formulas follow it

pub data Head : Type 0 where
  Bad : ℕ → Head
  Open : ℕ → ℕ → ℕ → Head

abbrev pub head_of : Record → Head
head_of (bad n) = Bad n
head_of (opened l) = Open (kind_no l) (size l) (follow l)

-- what the code says of it
abbrev pub head_told : Result Header.Record Refusal → Head
head_told (Ok r) = Open (shape_no r.shape) (shape_size r.shape) r.follow
head_told (Err why) = Bad (refusal_no why)

-- ---- a formula, and a whole sheet: how many bytes it takes; or the number and the place of the refusal

pub data Reply : Type 0 where
  Done : ℕ → Reply
  Refused : ℕ → ℕ → Reply

-- what the code says of it
abbrev pub told : Result ℕ Code.Refused → Reply
told (Ok k) = Done k
told (Err r) = Refused (refusal_no r.why) r.place

abbrev pub reply_of : {A : Type 0} → Read A → Reply
reply_of (good f k) = Done k
reply_of (fault n p) = Refused n p

-- bytes after the formula are refused
abbrev pub whole_of : ℕ → Read Formula → Reply
whole_of n (good f k) = cond (ltb k n) (Refused bytes_after k) (Done k)
whole_of n (fault e p) = Refused e p

-- a whole sheet of at most `limit` bytes and d levels: 2, then the records front to back, then 9
unfoldable pub reading : ℕ → ℕ → List ℕ → Reply
reading limit d s = cond (ltb limit (length s)) (Refused long_sheet 0) (whole_of (length s) (formula_in d s))

-- number and place: 0 and 0 where nothing is refused
pub record Answer : Type 0 where
  pub number : ℕ
  pub place : ℕ

abbrev pub answer_of : Reply → Answer
answer_of (Done k) = record { number = done; place = 0 }
answer_of (Refused n p) = record { number = n; place = p }
