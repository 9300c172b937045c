-- 01, 'Answers and their order': the numbers that reading refuses with. A record is refused with 3 to 7, a formula with 3 to 8, a sheet with 2 to 9;
-- so a refusal's number is never 0. Assumes nothing.
use mathlib.Core.Path.{◌≡◌, refl}
use mathlib.Core.Logic.{◌⊎◌, inl, inr}
use mathlib.Core.Bool.{Bool, true, false, cond}
use mathlib.Core.List.{List}
use Prim.Native.Nat.{ℕ, zero, suc, ◌≤◌}
use lib.Dec.{ltb, leb, eqb}
use lib.ListN.{length, drop}
use native.Mathlib.Omega.{arith}
use Rattle.reading.specs.Limits.{last_variable}
use Rattle.reading.specs.AnswerNumbers.{done, long_sheet, cut_short, wrong_length, wrong_variable, wrong_number, deep_nesting, bytes_after}
use Rattle.reading.specs.Bytes.{le2}
use Rattle.reading.specs.Formula.{Formula, Formulas, Label, follow, size}
use Rattle.reading.specs.Records.{Record, bad, opened, Kind, atom_k, not_k, list_k, quant_k, window_k, unknown_k, kind_of, sized, all_m, by_kind, head}
use Rattle.reading.specs.Reading.{Read, good, fault, joined, then, formulas_in, headed, too_deep, by_record, formula_in}
use Rattle.reading.specs.Answers.{whole_of, reading, answer_of}
use Rattle.reading.specs.Answers.{Reply}
use Rattle.reading.specs.Answers.{Done, Refused}

-- ---- records

abbrev RecordNumbered : Record → Type 0
RecordNumbered (bad n) = (cut_short ≤ n) × (n ≤ wrong_number)
RecordNumbered (opened l) = Unit {0}

pick-record : (b : Bool) (x y : Record) → RecordNumbered x → RecordNumbered y → RecordNumbered (cond b x y)
pick-record true x y h k = h
pick-record false x y h k = k

sized-numbered : (n l : ℕ) (s : List ℕ) (r : Record) → RecordNumbered r → RecordNumbered (sized n l s r)
unfolding sized
sized-numbered n l s r h = pick-record (eqb l n) (cond (ltb (length s) n) (bad cut_short) r) (bad wrong_length) (pick-record (ltb (length s) n) (bad cut_short) r (omega arith) h) (omega arith)

kind-numbered : (k : Kind) (l : ℕ) (s : List ℕ) → RecordNumbered (by_kind k l s)
unfolding by_kind
kind-numbered (atom_k c) l s = sized-numbered 40 l s _ (pick-record (all_m 9 4 s) _ (bad wrong_number) tt (omega arith))
kind-numbered not_k l s = sized-numbered 4 l s _ tt
kind-numbered (list_k b) l s = sized-numbered 6 l s _ tt
kind-numbered (quant_k b) l s = sized-numbered 6 l s _ (pick-record (leb (le2 s 4) last_variable) _ (bad wrong_variable) tt (omega arith))
kind-numbered window_k l s = sized-numbered 14 l s _ (pick-record (leb (le2 s 4) last_variable) _ (bad wrong_variable) (pick-record (all_m 2 6 s) _ (bad wrong_number) tt (omega arith)) (omega arith))
kind-numbered unknown_k l s = omega arith

head-numbered : (s : List ℕ) → RecordNumbered (head s)
unfolding head
head-numbered s = pick-record (ltb (length s) 4) (bad cut_short) (by_kind (kind_of (le2 s 2)) (le2 s 0) s) (omega arith) (kind-numbered (kind_of (le2 s 2)) (le2 s 0) s)

-- ---- formulas

abbrev ReadNumbered : {A : Type 0} → Read A → Type 0
ReadNumbered (good a k) = Unit {0}
ReadNumbered (fault n p) = (cut_short ≤ n) × (n ≤ deep_nesting)

joined-numbered : (f : Formula) (k : ℕ) (r : Read Formulas) → ReadNumbered r → ReadNumbered (joined f k r)
joined-numbered f k (good fs j) h = tt
joined-numbered f k (fault n p) h = h

then-numbered : (r : Read Formula) (rest : ℕ → Read Formulas) → ReadNumbered r → ((k : ℕ) → ReadNumbered (rest k)) → ReadNumbered (then r rest)
then-numbered (good f k) rest h i = joined-numbered f k (rest k) (i k)
then-numbered (fault n p) rest h i = h

formulas-numbered : (rd : List ℕ → Read Formula) → ((s : List ℕ) → ReadNumbered (rd s)) → (n : ℕ) (s : List ℕ) → ReadNumbered (formulas_in rd n s)
unfolding formulas_in
formulas-numbered rd h zero s = tt
formulas-numbered rd h (suc n) s = then-numbered (rd s) (λ k. formulas_in rd n (drop k s)) (h s) (λ k. formulas-numbered rd h n (drop k s))

headed-numbered : (l : Label) (r : Read Formulas) → ReadNumbered r → ReadNumbered (headed l r)
headed-numbered l (good fs j) h = tt
headed-numbered l (fault n p) h = h

deep-numbered : (r : Record) → RecordNumbered r → ReadNumbered (too_deep r)
deep-numbered (bad n) h = omega arith
deep-numbered (opened l) h = omega arith

by-record-numbered : (rd : List ℕ → Read Formula) → ((s : List ℕ) → ReadNumbered (rd s)) → (s : List ℕ) (r : Record) → RecordNumbered r → ReadNumbered (by_record rd s r)
by-record-numbered rd i s (bad n) h = omega arith
by-record-numbered rd i s (opened l) h = headed-numbered l (formulas_in rd (follow l) (drop (size l) s)) (formulas-numbered rd i (follow l) (drop (size l) s))

formula-numbered : (d : ℕ) (s : List ℕ) → ReadNumbered (formula_in d s)
unfolding formula_in
formula-numbered zero s = deep-numbered (head s) (head-numbered s)
formula-numbered (suc d) s = by-record-numbered (formula_in d) (λ t. formula-numbered d t) s (head s) (head-numbered s)

-- ---- sheets

abbrev pub ReplyNumbered : Reply → Type 0
ReplyNumbered (Done k) = Unit {0}
ReplyNumbered (Refused n p) = (long_sheet ≤ n) × (n ≤ bytes_after)

pick-reply : (b : Bool) (x y : Reply) → ReplyNumbered x → ReplyNumbered y → ReplyNumbered (cond b x y)
pick-reply true x y h k = h
pick-reply false x y h k = k

whole-numbered : (n : ℕ) (r : Read Formula) → ReadNumbered r → ReplyNumbered (whole_of n r)
whole-numbered n (good f k) h = pick-reply (ltb k n) (Refused bytes_after k) (Done k) (omega arith) tt
whole-numbered n (fault e p) h = omega arith

-- a sheet is refused with 2 to 9
pub reading-numbered : (limit d : ℕ) (s : List ℕ) → ReplyNumbered (reading limit d s)
unfolding reading
reading-numbered limit d s = pick-reply (ltb limit (length s)) (Refused long_sheet 0) (whole_of (length s) (formula_in d s)) (omega arith) (whole-numbered (length s) (formula_in d s) (formula-numbered d s))

-- an answer is 0 at 0, or a number from 2 to 9
pub answer-numbered : (limit d : ℕ) (s : List ℕ) → (((answer_of (reading limit d s)).number ≡ done) × ((answer_of (reading limit d s)).place ≡ 0)) ⊎ ((long_sheet ≤ (answer_of (reading limit d s)).number) × ((answer_of (reading limit d s)).number ≤ bytes_after))
answer-numbered limit d s = go (reading limit d s) (reading-numbered limit d s)
  where
    go : (r : Reply) → ReplyNumbered r → (((answer_of r).number ≡ done) × ((answer_of r).place ≡ 0)) ⊎ ((long_sheet ≤ (answer_of r).number) × ((answer_of r).number ≤ bytes_after))
    go (Done k) h = inl (refl, refl)
    go (Refused n p) h = inr h
