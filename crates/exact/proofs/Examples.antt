-- The definitions at numbers, computed: the midpoint of 3 and 13/7 that 01's first sheet turns on, numbers at M, zeros, and the points far
-- out. Assumes nothing.
use mathlib.Core.Path.{◌≡◌, refl}
use mathlib.Core.List.{List, [], ◌∷◌}
use mathlib.Core.Bool.{true, false}
use lib.IntN.{ℤ, pos, negsuc}
use Rattle.reading.specs.Limits.{M}
use Rattle.reading.specs.Formula.{less, atmost, equal}
use Rattle.exact.specs.Numbers.{single, all_in}
use Rattle.exact.specs.Divisor.{gcd_of, reduced}
use Rattle.exact.specs.Terms.{term_of, bound_of, midpoint}
use Rattle.exact.specs.Atoms.{atom_at, sure, new, below, above, here, nowhere}

-- eight coefficients 0, a constant and a denominator
abbrev fraction : ℤ → ℤ → List ℤ
fraction c d = pos 0 ∷ pos 0 ∷ pos 0 ∷ pos 0 ∷ pos 0 ∷ pos 0 ∷ pos 0 ∷ pos 0 ∷ c ∷ d ∷ []

zero-and-zero : gcd_of 0 0 ≡ 0
unfolding gcd_of
zero-and-zero = refl

-- neighbours of Fibonacci's row take the most turns
many-turns : gcd_of 12200160415121876738 7540113804746346429 ≡ 1
unfolding gcd_of
many-turns = refl

-- 3x + 1 < 10 and 7x − 6 > 7: the terms are 3 and 13/7, and between them lies 17/7
three : term_of (single 0 (pos 3) (negsuc 8)) 0 ≡ fraction (pos 3) (pos 1)
unfolding term_of reduced single gcd_of
three = refl

thirteen-sevenths : term_of (single 0 (negsuc 6) (pos 13)) 0 ≡ fraction (pos 13) (pos 7)
unfolding term_of reduced single gcd_of
thirteen-sevenths = refl

seventeen-sevenths : midpoint (fraction (pos 3) (pos 1)) (fraction (pos 13) (pos 7)) ≡ fraction (pos 17) (pos 7)
unfolding midpoint reduced gcd_of
seventeen-sevenths = refl

-- at M the size is judged after reducing: M/M is 1/1, and the midpoint of M and M is M
at_most : midpoint (bound_of (pos M)) (bound_of (pos M)) ≡ fraction (pos M) (pos 1)
unfolding midpoint reduced bound_of gcd_of
at_most = refl

past-most : all_in M (midpoint (fraction (pos 1) (pos M)) (fraction (pos 1) (pos 1073741822))) ≡ false
unfolding midpoint reduced gcd_of all_in
past-most = refl

-- Mx − y < 0 at 1/M: −y + 1 < 0, which fits; decided atoms are not judged at all
fits-at : atom_at (here 0 (fraction (pos 1) (pos M))) less (pos M ∷ negsuc 0 ∷ pos 0 ∷ pos 0 ∷ pos 0 ∷ pos 0 ∷ pos 0 ∷ pos 0 ∷ pos 0 ∷ [])
    ≡ new (pos 0 ∷ negsuc 0 ∷ pos 0 ∷ pos 0 ∷ pos 0 ∷ pos 0 ∷ pos 0 ∷ pos 0 ∷ pos 1 ∷ [])
unfolding atom_at reduced gcd_of
fits-at = refl

decided-large : atom_at (here 0 (fraction (pos M) (pos M))) equal (single 0 (pos M) (pos M)) ≡ sure false
unfolding atom_at single
decided-large = refl

-- far out EQUAL is false, and a coefficient below 0 turns the others
equal-below : atom_at (below 0) equal (single 0 (pos 1) (pos 0)) ≡ sure false
unfolding atom_at single
equal-below = refl

less-below : atom_at (below 0) less (single 0 (pos 2) (pos 5)) ≡ sure true
unfolding atom_at single
less-below = refl

less-turned : atom_at (below 0) less (single 0 (negsuc 1) (pos 5)) ≡ sure false
unfolding atom_at single
less-turned = refl

atmost-above : atom_at (above 0) atmost (single 0 (negsuc 1) (pos 5)) ≡ sure true
unfolding atom_at single
atmost-above = refl

-- without x, and in the finishing pass, an atom keeps its sum, and is divided
keeps : atom_at (below 1) equal (single 0 (negsuc 5) (pos 9)) ≡ new (single 0 (negsuc 1) (pos 3))
unfolding atom_at reduced single gcd_of
keeps = refl

finished : atom_at nowhere equal (single 0 (pos 0) (pos 0)) ≡ sure true
unfolding atom_at single
finished = refl
