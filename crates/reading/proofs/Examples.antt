-- 01, 'Sheets with known results' and 'Answers and their order': worked sheets, their answers under the limits of a sheet, and what is
-- looked at. Each is computed from the definitions. Assumes nothing.
use mathlib.Core.Path.{◌≡◌, refl}
use mathlib.Core.Bool.{true, false}
use mathlib.Core.List.{List, [], ◌∷◌, ◌++◌, map}
use Prim.Native.Nat.{ℕ, zero, suc, ◌+◌}
use lib.ListN.{take}
use lib.IntN.{ℤ, pos, negsuc}
use Rattle.reading.specs.Limits.{M, sheet_bytes, sheet_levels}
use Rattle.reading.specs.Bytes.{int4, ints, int_bytes}
use Rattle.reading.specs.Formula.{Formula, less, atmost, atom, not, list, quant, window, none, more, field_bytes, record_bytes, encode}
use Rattle.reading.specs.Records.{kind_of, sized, in_m, all_m, by_kind, head}
use Rattle.reading.specs.Reading.{formulas_in, formula_in}
use Rattle.reading.specs.Answers.{reading, answer_of}
use Rattle.reading.specs.Quantifiers.{seek, look_part, look}
use Rattle.reading.specs.Answers.{Answer}

-- a x + c under a comparison
abbrev row : ℤ → ℤ → List ℤ
row a c = a ∷ pos 0 ∷ pos 0 ∷ pos 0 ∷ pos 0 ∷ pos 0 ∷ pos 0 ∷ pos 0 ∷ c ∷ []

abbrev nots : ℕ → Formula → Formula
nots zero f = f
nots (suc n) f = not (nots n f)

abbrev true-record : List ℕ
true-record = encode (list true none)

-- every x: not window(x, 40, 70), or x ≤ 50, or x ≥ 60
abbrev window-body : Formula
window-body = list false (more (not (window 0 (pos 40) (pos 70))) (more (atom atmost (row (pos 1) (negsuc 49))) (more (atom atmost (row (negsuc 0) (pos 60))) none)))

abbrev window-sheet : Formula
window-sheet = quant true 0 window-body

-- some x: (x < 0 and some x: x > 0)
abbrev bound-again : Formula
bound-again = quant false 0 (list true (more (atom less (row (pos 1) (pos 0))) (more (quant false 0 (atom less (row (negsuc 0) (pos 0)))) none)))

abbrev answer : ℕ → ℕ → Answer
answer number place = record { number = number; place = place }

abbrev table : List (List ℕ × Answer)
table =
    ([], answer 3 0)
    ∷ (true-record, answer 0 0)
    ∷ (encode window-sheet, answer 0 0)
    ∷ (encode bound-again, answer 0 0)
    ∷ (encode (nots 23 (atom less (row (pos 1) (pos 0)))), answer 0 0)
    ∷ (encode (nots 24 (atom less (row (pos 1) (pos 0)))), answer 8 96)
    ∷ (encode (atom less (row (pos M) (pos 0))), answer 0 0)
    ∷ (encode (atom less (row (pos (M + 1)) (pos 0))), answer 7 0)
    ∷ (encode (not (window 8 (pos 0) (pos 0))), answer 6 4)
    ∷ (encode (not (quant false 8 (list true none))), answer 6 4)
    ∷ (4 ∷ 0 ∷ 10 ∷ 0 ∷ [], answer 4 0)
    ∷ (take 6 (encode window-sheet), answer 3 6)
    ∷ (take 109 (encode window-sheet), answer 3 70)
    ∷ (5 ∷ 0 ∷ 5 ∷ 0 ∷ [], answer 5 0)
    ∷ (true-record ++ 0 ∷ [], answer 9 6)
    ∷ []

pub answers : map (λ (e : List ℕ × Answer). answer_of (reading sheet_bytes sheet_levels e.0)) table ≡ map (λ (e : List ℕ × Answer). e.1) table
unfolding int4 ints int_bytes field_bytes record_bytes encode kind_of sized in_m all_m by_kind head formulas_in formula_in reading
answers = refl

-- the first bytes on disk, as 01's table of records has them: EVERY x, ANYOF of 3, NOT
on-disk : take 16 (encode window-sheet) ≡ 6 ∷ 0 ∷ 8 ∷ 0 ∷ 0 ∷ 0 ∷ 6 ∷ 0 ∷ 6 ∷ 0 ∷ 3 ∷ 0 ∷ 4 ∷ 0 ∷ 4 ∷ 0 ∷ []
unfolding int_bytes field_bytes record_bytes encode
on-disk = refl

pub looks : map look (encode window-sheet ∷ encode bound-again ∷ true-record ∷ [] ∷ []) ≡ encode window-body ∷ encode (atom less (row (negsuc 0) (pos 0))) ∷ [] ∷ [] ∷ []
unfolding int4 ints int_bytes field_bytes record_bytes encode kind_of sized in_m all_m by_kind head formulas_in formula_in reading seek look_part look
looks = refl
