-- 01, 'Answers and their order': a name for each number of the table, which the definitions cite.
use Rattle.std.specs.Prelude.{ℕ}

-- nothing is refused
abbrev pub done : ℕ
done = 0

-- result or work buffer under 65,536 bytes
abbrev pub small_buffer : ℕ
small_buffer = 1

-- ---- reading

-- sheet longer than its limit
abbrev pub long_sheet : ℕ
long_sheet = 2

-- bytes run out in a record, or before the formula is complete
abbrev pub cut_short : ℕ
cut_short = 3

-- kind not 1..9
abbrev pub wrong_kind : ℕ
wrong_kind = 4

-- length not the kind's
abbrev pub wrong_length : ℕ
wrong_length = 5

-- variable above 7
abbrev pub wrong_variable : ℕ
wrong_variable = 6

-- coefficient, constant, lo or hi outside −M..M
abbrev pub wrong_number : ℕ
wrong_number = 7

-- nested too deep
abbrev pub deep_nesting : ℕ
deep_nesting = 8

-- bytes after the formula
abbrev pub bytes_after : ℕ
bytes_after = 9

-- ---- a step

-- more than 64 boundary terms
abbrev pub many_terms : ℕ
many_terms = 10

-- a reduced number outside −M..M
abbrev pub big_number : ℕ
big_number = 11

-- formula after a step over 65,536 bytes
abbrev pub long_result : ℕ
long_result = 12

-- ---- the test

-- a quantifier is present
abbrev pub quantified : ℕ
quantified = 13

-- value or denominator out of range
abbrev pub wrong_value : ℕ
wrong_value = 14
