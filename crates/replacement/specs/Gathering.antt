-- The table in which boundary terms are gathered (01, 'Boundary terms': room for 64 terms of ten numbers), and what the functions of the code
-- over it ask for and promise. The terms themselves are those of `gather`.
use Rattle.std.specs.Prelude.{ℕ, ◌≤◌, ◌<◌, ◌≡◌, Bool, true, false, cond, List, [], ◌∷◌, leb, length, ℤ, Result, Ok, Err}
use Rattle.reading.specs.Limits.{M, most_terms, variables}
use Rattle.reading.specs.AnswerNumbers.{done, many_terms}
use Rattle.reading.specs.Formula.{Free}
use Rattle.reading.specs.Reading.{tree_of, Begins}
use Rattle.exact.specs.Numbers.{Each, same_row}
use Rattle.replacement.specs.declared.TooMany.{TooMany}

-- a term: ten numbers in −M..M
pub record Row (t : List ℤ) : Type 0 where
  pub ten : length t ≡ 10
  pub small : Each M t

abbrev pub Rows : List (List ℤ) → Type 0
Rows [] = Unit {0}
Rows (t ∷ ts) = Row t × Rows ts

-- a table of terms
pub record Table (ts : List (List ℤ)) : Type 0 where
  pub few : length ts ≤ most_terms
  pub rows : Rows ts

-- whether t is among the terms
unfoldable pub among : List ℤ → List (List ℤ) → Bool
among t [] = false
among t (u ∷ us) = cond (same_row u t) true (among t us)

-- ---- the code's answer: what it says of the formula where the terms fit, or that they are more than 64

abbrev pub gathered_of : {A : Type 0} → A → List (List ℤ) → Result A TooMany
gathered_of a us = cond (leb (length us) most_terms) (Ok a) (Err (record {}))

-- 01's number for each case
abbrev pub gathered_no : {A : Type 0} → Result A TooMany → ℕ
gathered_no (Ok a) = done
gathered_no (Err e) = many_terms

-- ---- what a call asks for, and what it leaves: the terms us in the table ts, unless there are too many

pub record Gathers (s : List ℕ) (x : ℕ) (ts : List (List ℤ)) : Type 0 where
  pub begins : Begins s (tree_of s)
  pub free : Free (tree_of s)
  pub low : x < variables
  pub table : Table ts

pub record Collected {A : Type 0} (a : A) (us ts : List (List ℤ)) (r : Result A TooMany) : Type 0 where
  pub answer : r ≡ gathered_of a us
  pub terms : length us ≤ most_terms → ts ≡ us
  pub rows : Rows ts
