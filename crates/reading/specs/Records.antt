-- 01, 'Answers and their order', at one record: fewer than four bytes (3), kind (4), length (5), fields cut (3), variable (6), numbers (7).
-- Nesting (8) is judged last, by the reading of a formula. A place inside a record is the record's own, so it is not said here.
use Rattle.std.specs.Prelude.{ℕ, zero, suc, ◌+◌, List, Bool, true, false, cond, length, ltb, leb, eqb, ℤ, nat_abs}
use Rattle.reading.specs.Limits.{M, last_variable}
use Rattle.reading.specs.AnswerNumbers.{cut_short, wrong_kind, wrong_length, wrong_variable, wrong_number}
use Rattle.reading.specs.Bytes.{le2, int4, ints}
use Rattle.reading.specs.Formula.{Comparison, less, atmost, equal, Label, atom_l, not_l, list_l, quant_l, window_l, atom_size, not_size, list_size, quant_size, window_size}

-- what reading one record finds: the number of its refusal, or what it says
pub data Record : Type 0 where
  bad : ℕ → Record
  opened : Label → Record

-- ---- the kinds, by their numbers

pub data Kind : Type 0 where
  atom_k : Comparison → Kind
  not_k : Kind
  list_k quant_k : Bool → Kind
  window_k : Kind
  unknown_k : Kind

unfoldable pub kind_of : ℕ → Kind
kind_of k =
    cond (eqb k 1) (atom_k less) (cond (eqb k 2) (atom_k atmost) (cond (eqb k 3) (atom_k equal)
    (cond (eqb k 4) not_k (cond (eqb k 5) (list_k true) (cond (eqb k 6) (list_k false)
    (cond (eqb k 7) (quant_k false) (cond (eqb k 8) (quant_k true) (cond (eqb k 9) window_k unknown_k))))))))

-- ---- the tests at one record

-- a record of the length n: 5 where its length field l is another, 3 where its bytes run out
unfoldable pub sized : ℕ → ℕ → List ℕ → Record → Record
sized n l s r = cond (eqb l n) (cond (ltb (length s) n) (bad cut_short) r) (bad wrong_length)

-- whether a number lies in −M..M, and whether the n signed numbers from i on do
unfoldable pub in_m : ℤ → Bool
in_m z = leb (nat_abs z) M

unfoldable pub all_m : ℕ → ℕ → List ℕ → Bool
all_m zero i s = true
all_m (suc n) i s = cond (in_m (int4 s i)) (all_m n (i + 4) s) false

unfoldable pub by_kind : Kind → ℕ → List ℕ → Record
by_kind (atom_k c) l s = sized atom_size l s (cond (all_m 9 4 s) (opened (atom_l c (ints 9 4 s))) (bad wrong_number))
by_kind not_k l s = sized not_size l s (opened not_l)
by_kind (list_k b) l s = sized list_size l s (opened (list_l b (le2 s 4)))
by_kind (quant_k b) l s = sized quant_size l s (cond (leb (le2 s 4) last_variable) (opened (quant_l b (le2 s 4))) (bad wrong_variable))
by_kind window_k l s = sized window_size l s (cond (leb (le2 s 4) last_variable) (cond (all_m 2 6 s) (opened (window_l (le2 s 4) (int4 s 6) (int4 s 10))) (bad wrong_number)) (bad wrong_variable))
by_kind unknown_k l s = bad wrong_kind

-- the record that s begins with
unfoldable pub head : List ℕ → Record
head s = cond (ltb (length s) 4) (bad cut_short) (by_kind (kind_of (le2 s 2)) (le2 s 0) s)
