-- 01, 'Sheets with known results': every sheet that is marked there, from its bytes to the numbers that `eliminate` answers and the bytes of
-- the formula that it delivers, as one table under one statement; StarredMeaning adds what each sheet means. The answer is computed without a look
-- at the buffers, so the statement holds for all buffers that are long enough.
use Prim.Native.Nat.{ℕ, ◌≤◌}
use mathlib.Core.Path.{◌≡◌, refl, ◌∙◌, ap, ap₂}
use mathlib.Core.Bool.{Bool, true, false, ◌||◌, true≢false, cond}
use mathlib.Core.List.{List, [], ◌∷◌}
use native.Mathlib.Omega.{arith}
use lib.Dec.{ltb}
use lib.IntN.{ℤ, pos, negsuc}
use lib.ListN.{length, take}
use lib.Seq.{take-append_seam}
use borrow.Author.Tests.{ltb-true}
use Rattle.reading.specs.Limits.{sheet_bytes, sheet_levels, result_bytes}
use Rattle.reading.specs.Formula.{less, atmost, equal, Formula, atom, not, list, quant, window, none, more, encode, field_bytes, record_bytes}
use Rattle.reading.specs.Bytes.{int4, ints, int_bytes}
use Rattle.reading.specs.Records.{kind_of, sized, in_m, all_m, by_kind, head}
use Rattle.reading.specs.Reading.{Read, good, fault, formulas_in, formula_in}
use Rattle.reading.specs.Answers.{reading}
use Rattle.reading.specs.Quantifiers.{seek}
use Rattle.reading.specs.Answers.{Reply}
use Rattle.reading.specs.Answers.{Done, Refused}
use Rattle.exact.specs.Numbers.{all_in, same_row, minus, single}
use Rattle.exact.specs.Divisor.{gcd_of, gcd_from, gcds, quots, reduced}
use Rattle.exact.specs.Terms.{left_at, term_at, term_of, bound_of, mid_at, mid_of, midpoint}
use Rattle.exact.specs.Atoms.{all_zero, settled, point_at, point_of, atom_at}
use Rattle.rules.specs.Pushing.{push, two}
use Rattle.rules.specs.Lists.{listed, known}
use Rattle.rules.specs.Copies.{copy, fits}
use Rattle.rules.specs.Points.{insert, gather, terms, midpoints, all_midpoints, points}
use Rattle.rules.specs.Steps.{copies, replacement, quantifiers, step, numbers_fit, refusal, Run, ran, halted, run, eliminated}
use Rattle.rules.specs.Eliminate.{Result, verdict_by, Roomy, delivered, finished, by_run, by_reading, eliminate}

-- what a sheet is answered: the four numbers, and the bytes of the result
pub record Answer : Type 0 where
  pub number : ℕ
  pub verdict : ℕ
  pub place : ℕ
  pub length : ℕ
  pub bytes : List ℕ

abbrev pub answer_in : Result → Answer
answer_in r = record { number = r.number; verdict = r.verdict; place = r.place; length = r.length; bytes = take r.length r.result }

-- ---- the same without the buffers

abbrev pub refusing : ℕ → ℕ → Answer
refusing n p = record { number = n; verdict = 3; place = p; length = 0; bytes = [] }

abbrev pub delivering : Formula → Answer
delivering g = record { number = 0; verdict = verdict_by (known g); place = 0; length = length (encode g); bytes = encode g }

abbrev pub from_run : ℕ → Run → Answer
from_run n (halted e p) = refusing e p
from_run n (ran f) = cond (ltb result_bytes (length (encode (finished f)))) (refusing 12 n) (delivering (finished f))

abbrev pub from_reading : ℕ → Reply → Read Formula → Answer
from_reading n (Refused e p) r = refusing e p
from_reading n (Done k) (good f j) = from_run n (eliminated f)
from_reading n (Done k) (fault e p) = refusing e p

unfoldable pub answer_to : List ℕ → Answer
answer_to sheet = from_reading (length sheet) (reading sheet_bytes sheet_levels sheet) (formula_in sheet_levels sheet)

delivered-answer : (g : Formula) (result work : List ℕ) → answer_in (delivered g result work) ≡ delivering g
delivered-answer g result work = ap (λ (l : List ℕ). record { number = 0; verdict = verdict_by (known g); place = 0; length = length (encode g); bytes = l }) (take-append_seam (encode g) _)

pick-answer : (b : Bool) (r s : Result) (a c : Answer) → answer_in r ≡ a → answer_in s ≡ c → answer_in (cond b r s) ≡ cond b a c
pick-answer true r s a c h k = h
pick-answer false r s a c h k = k

run-answer : (n : ℕ) (r : Run) (result work : List ℕ) → answer_in (by_run n r result work) ≡ from_run n r
run-answer n (halted e p) result work = refl
run-answer n (ran f) result work = pick-answer (ltb result_bytes (length (encode (finished f)))) _ _ _ _ refl (delivered-answer (finished f) result work)

reading-answer : (n : ℕ) (r : Reply) (d : Read Formula) (result work : List ℕ) → answer_in (by_reading n r d result work) ≡ from_reading n r d
reading-answer n (Refused e p) d result work = refl
reading-answer n (Done k) (good f j) result work = run-answer n (eliminated f) result work
reading-answer n (Done k) (fault e p) result work = refl

short : (n : ℕ) (b : Bool) → ltb n result_bytes ≡ b → result_bytes ≤ n → b ≡ false
short n true e h = absurd (omega (arith, ltb-true n result_bytes e))
short n false e h = refl

else-answer : (b : Bool) (r s : Result) (a : Answer) → b ≡ false → answer_in s ≡ a → answer_in (cond b r s) ≡ a
else-answer true r s a e h = absurd (true≢false e)
else-answer false r s a e h = h

-- with such buffers the answer is the computed one
pub eliminate-gives : (sheet result work : List ℕ) → Roomy result → Roomy work → answer_in (eliminate sheet result work) ≡ answer_to sheet
unfolding eliminate answer_to
eliminate-gives sheet result work h k =
    else-answer (ltb (length result) result_bytes || ltb (length work) result_bytes) _ _ _ (ap₂ ◌||◌ (short (length result) _ refl h) (short (length work) _ refl k))
    (reading-answer (length sheet) (reading sheet_bytes sheet_levels sheet) (formula_in sheet_levels sheet) result work)

-- ---- the table

-- a sheet: the bytes of a formula, or bytes that are given as they are
pub data Sheet : Type 0 where
  of : Formula → Sheet
  raw : List ℕ → Sheet

abbrev pub bytes_in : Sheet → List ℕ
bytes_in (of f) = encode f
bytes_in (raw s) = s

pub record Row : Type 0 where
  pub sheet : Sheet
  pub answer : Answer

abbrev pub row : Formula → Answer → Row
row f a = record { sheet = of f; answer = a }

-- accepted, with the formula that is delivered
abbrev pub gives : ℕ → ℕ → Formula → Answer
gives v n g = record { number = 0; verdict = v; place = 0; length = n; bytes = encode g }

-- a x + b y + c z + k, where x, y, z are variables 0, 1, 2
abbrev pub xyz : ℤ → ℤ → ℤ → ℤ → List ℤ
xyz a b c k = a ∷ b ∷ c ∷ pos 0 ∷ pos 0 ∷ pos 0 ∷ pos 0 ∷ pos 0 ∷ k ∷ []

abbrev true_record : Formula
true_record = list true none

abbrev false_record : Formula
false_record = list false none

-- 3y − 2z < 0
abbrev pub between : Formula
between = atom less (xyz (pos 0) (pos 3) (negsuc 1) (pos 0))

-- y − 1 ≤ 0
abbrev pub atmost_one : Formula
atmost_one = atom atmost (xyz (pos 0) (pos 1) (pos 0) (negsuc 0))

-- −y + 5 < 0
abbrev pub above_five : Formula
above_five = atom less (xyz (pos 0) (negsuc 0) (pos 0) (pos 5))

-- what the fourth and the fifth sheet give
abbrev pub atmost_ones : Formula
atmost_ones = list false (more atmost_one (two (list true (two atmost_one atmost_one)) atmost_one))

abbrev pub above_fives : Formula
above_fives = list true (two above_five above_five)

abbrev x_below_y : Formula
x_below_y = atom less (xyz (pos 1) (negsuc 0) (pos 0) (pos 0))

abbrev pub table : List Row
table =
    -- some x: 3x + 1 < 10 and 7x − 6 > 7
    row (quant false 0 (list true (two (atom less (xyz (pos 3) (pos 0) (pos 0) (negsuc 8))) (atom less (xyz (negsuc 6) (pos 0) (pos 0) (pos 13)))))) (gives 1 6 true_record)
    -- some x: 2x > y and 3x < z
    ∷ row (quant false 0 (list true (two (atom less (xyz (negsuc 1) (pos 1) (pos 0) (pos 0))) (atom less (xyz (pos 3) (pos 0) (negsuc 0) (pos 0)))))) (gives 2 86 (list true (two between between)))
    -- every x: not window(x, 40, 70), or x ≤ 50, or x ≥ 60
    ∷ row (quant true 0 (list false (more (not (window 0 (pos 40) (pos 70))) (two (atom atmost (xyz (pos 1) (pos 0) (pos 0) (negsuc 49))) (atom atmost (xyz (negsuc 0) (pos 0) (pos 0) (pos 60))))))) (gives 0 6 false_record)
    -- some z: −z ≤ 0 and z + y − 1 ≤ 0
    ∷ row (quant false 2 (list true (two (atom atmost (xyz (pos 0) (pos 0) (negsuc 0) (pos 0))) (atom atmost (xyz (pos 0) (pos 1) (pos 1) (negsuc 0)))))) (gives 2 172 atmost_ones)
    -- some x: x > 5 and y > x
    ∷ row (quant false 0 (list true (two (atom less (xyz (negsuc 0) (pos 0) (pos 0) (pos 5))) (atom less (xyz (pos 1) (negsuc 0) (pos 0) (pos 0)))))) (gives 2 86 above_fives)
    -- some x: 2x = y
    ∷ row (quant false 0 (atom equal (xyz (pos 2) (negsuc 0) (pos 0) (pos 0)))) (gives 1 6 true_record)
    -- every x some y: x < y, and some y every x: x < y
    ∷ row (quant true 0 (quant false 1 x_below_y)) (gives 1 6 true_record)
    ∷ row (quant false 1 (quant true 0 x_below_y)) (gives 0 6 false_record)
    -- some x: not (x = 3) and x < 3
    ∷ row (quant false 0 (list true (two (not (atom equal (xyz (pos 1) (pos 0) (pos 0) (negsuc 2)))) (atom less (xyz (pos 1) (pos 0) (pos 0) (negsuc 2)))))) (gives 1 6 true_record)
    -- some x: (x < 0 and some x: x > 0)
    ∷ row (quant false 0 (list true (two (atom less (xyz (pos 1) (pos 0) (pos 0) (pos 0))) (quant false 0 (atom less (xyz (negsuc 0) (pos 0) (pos 0) (pos 0))))))) (gives 1 6 true_record)
    -- the empty sheet, and ALLOF of 0
    ∷ record { sheet = raw []; answer = record { number = 3; verdict = 3; place = 0; length = 0; bytes = [] } }
    ∷ row true_record (gives 1 6 true_record)
    ∷ []

-- a row holds when every call with long enough buffers gives its answer
abbrev pub Answered : Row → Type 0
Answered r = (result work : List ℕ) → Roomy result → Roomy work → answer_in (eliminate (bytes_in r.sheet) result work) ≡ r.answer

abbrev pub AllAnswered : List Row → Type 0
AllAnswered [] = Unit {0}
AllAnswered (r ∷ rs) = Answered r × AllAnswered rs

abbrev computed : List Row → List Answer
computed [] = []
computed (r ∷ rs) = answer_to (bytes_in r.sheet) ∷ computed rs

abbrev expected : List Row → List Answer
expected [] = []
expected (r ∷ rs) = r.answer ∷ expected rs

all-answered : (rs : List Row) → computed rs ≡ expected rs → AllAnswered rs
all-answered [] h = tt
all-answered (r ∷ rs) h = (λ result work a b. eliminate-gives (bytes_in r.sheet) result work a b ∙ cc, all-answered rs (cc))

-- a sheet that midpoints of neighbours only would get wrong, every x: x ≤ 50, or not window(x, 40, 90), or x ≥ 60: false by 55, the midpoint of the
-- first and the last of the terms 50, 40, 90, 60
abbrev apart : Row
apart = row (quant true 0 (list false (more (atom atmost (xyz (pos 1) (pos 0) (pos 0) (negsuc 49))) (two (not (window 0 (pos 40) (pos 90))) (atom atmost (xyz (negsuc 0) (pos 0) (pos 0) (pos 60))))))) (gives 0 6 false_record)

all-computed : AllAnswered (apart ∷ table)
unfolding answer_to reading formula_in formulas_in head by_kind sized kind_of in_m all_m int4 ints eliminated run refusal step quantifiers replacement copies points terms gather insert midpoints all_midpoints numbers_fit fits copy listed push atom_at settled point_of point_at all_zero term_of term_at left_at bound_of mid_of mid_at midpoint reduced quots gcds gcd_from gcd_of all_in same_row minus single finished seek encode record_bytes field_bytes int_bytes
all-computed = all-answered (apart ∷ table) refl

pub starred : AllAnswered table
starred = all-computed.1
