-- 01, 'Numbers that bound the work': each limit has its one home here. Every other file names it.
use Rattle.std.specs.Prelude.{ℕ}
use Rattle.reading.specs.declared.Limit.{Limit}
use Rattle.reading.specs.declared.Limit.TheVariants.{Sheet, Result}

-- M: coefficients, constants, lo and hi lie in −M..M
abbrev pub M : ℕ
M = 1073741823

-- a sheet: at most this many bytes, nested at most this deep
abbrev pub sheet_bytes : ℕ
sheet_bytes = 16384

abbrev pub sheet_levels : ℕ
sheet_levels = 24

-- a result, and what the test at fractions and the look take
abbrev pub result_bytes : ℕ
result_bytes = 65536

abbrev pub result_levels : ℕ
result_levels = 25

-- bytes that are known to be a formula's are read to this depth, whatever limit they were accepted by: no limit is deeper
abbrev pub tree_levels : ℕ
tree_levels = result_levels

-- what each case of the code's limits stands for
abbrev pub bytes_of : Limit → ℕ
bytes_of Sheet = sheet_bytes
bytes_of Result = result_bytes

abbrev pub levels_of : Limit → ℕ
levels_of Sheet = sheet_levels
levels_of Result = result_levels

-- the greatest variable's number, and how many variables there are
abbrev pub last_variable : ℕ
last_variable = 7

abbrev pub variables : ℕ
variables = 8

-- boundary terms in one step
abbrev pub most_terms : ℕ
most_terms = 64

-- the values and the denominator of a test at fractions
abbrev pub most_value : ℕ
most_value = 1000000
