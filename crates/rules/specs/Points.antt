-- 01, 'Boundary terms' and 'Points': the terms of a body in order of first appearance, none twice, and the points that are tried.
use Rattle.std.specs.Prelude.{ℕ, Bool, true, cond, List, [], ◌∷◌, ◌++◌, eqb, ℤ}
use Rattle.reading.specs.Limits.{M}
use Rattle.reading.specs.Formula.{Formula, Formulas, atom, not, list, quant, window, none, more}
use Rattle.exact.specs.Numbers.{at, is_zero, same_row, all_in}
use Rattle.exact.specs.Terms.{term_of, bound_of, midpoint}
use Rattle.exact.specs.Atoms.{Spot, nowhere, below, above, here}

-- t at the end, unless an equal one is there
unfoldable pub insert : List ℤ → List (List ℤ) → List (List ℤ)
insert t [] = t ∷ []
insert t (u ∷ us) = u ∷ cond (same_row u t) us (insert t us)

-- the terms ts, and those of a formula in x
unfoldable mutual
  pub gather : ℕ → Formula → List (List ℤ) → List (List ℤ)
  gather x (atom c ns) ts = cond (is_zero (at ns x)) ts (insert (term_of ns x) ts)
  gather x (not f) ts = gather x f ts
  gather x (list b fs) ts = gather_all x fs ts
  gather x (quant b v f) ts = ts
  gather x (window v lo hi) ts = cond (eqb v x) (insert (bound_of hi) (insert (bound_of lo) ts)) ts

  pub gather_all : ℕ → Formulas → List (List ℤ) → List (List ℤ)
  gather_all x none ts = ts
  gather_all x (more f fs) ts = gather_all x fs (gather x f ts)

unfoldable pub terms : ℕ → Formula → List (List ℤ)
unfolding gather
terms x f = gather x f []

-- the midpoints of t with each of us; of terms i and j for i = 1.., j = i..
unfoldable pub midpoints : ℕ → List ℤ → List (List ℤ) → List Spot
midpoints x t [] = []
midpoints x t (u ∷ us) = here x (midpoint t u) ∷ midpoints x t us

unfoldable pub all_midpoints : ℕ → List (List ℤ) → List Spot
unfolding midpoints
all_midpoints x [] = []
all_midpoints x (t ∷ ts) = midpoints x t (t ∷ ts) ++ all_midpoints x ts

-- −∞, +∞, then the midpoints; with no term the only point is −∞
unfoldable pub points : ℕ → List (List ℤ) → List Spot
unfolding all_midpoints
points x [] = below x ∷ []
points x (t ∷ ts) = below x ∷ above x ∷ all_midpoints x (t ∷ ts)

-- a midpoint's numbers lie in −M..M
abbrev pub spot_fits : Spot → Bool
spot_fits nowhere = true
spot_fits (below x) = true
spot_fits (above x) = true
spot_fits (here x n) = all_in M n
