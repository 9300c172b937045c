-- The greatest common divisor of two numbers and of a row, and a row divided by it (01: 'divided by their greatest common divisor'). Only the
-- laws of these names are used above: nothing there knows how a divisor is found.
use Rattle.std.specs.Prelude.{ℕ, zero, suc, ◌%◌, List, [], ◌∷◌, map, ℤ, pos, nat_abs}
use Rattle.std.specs.Int.Signed.{quot_z}

-- Euclid's, with as many turns as the second number allows; that of 0 and 0 is 0
unfoldable pub gcd_by : ℕ → ℕ → ℕ → ℕ
gcd_by zero a b = a
gcd_by (suc f) a zero = a
gcd_by (suc f) a (suc b) = gcd_by f (suc b) (a % suc b)

unfoldable pub gcd_of : ℕ → ℕ → ℕ
unfolding gcd_by
gcd_of a b = gcd_by b a b

-- of g and the numbers of a row, and of a row
unfoldable pub gcd_from : ℕ → List ℤ → ℕ
gcd_from g [] = g
gcd_from g (z ∷ l) = gcd_from (gcd_of g (nat_abs z)) l

unfoldable pub gcds : List ℤ → ℕ
unfolding gcd_from
gcds l = gcd_from 0 l

-- each number divided by g; a row divided by its divisor. Zeros, whose divisor is 0, stay as they are
abbrev pub divided_by : ℕ → ℤ → ℤ
divided_by g z = quot_z z (pos g)

unfoldable pub quots : ℕ → List ℤ → List ℤ
quots g l = map (divided_by g) l

unfoldable pub reduced : List ℤ → List ℤ
unfolding quots gcds
reduced l = quots (gcds l) l
