-- What the look over a body finds before its copies are made: bounds of its numbers.
use Rattle.std.specs.Prelude.{ℕ, ◌≤◌}
use Rattle.reading.specs.Limits.{M}
use Rattle.reading.specs.Formula.{Formula, Formulas, atom, not, list, quant, window}
use Rattle.rules.specs.Tame.{Bounded, AllBounded}
use Rattle.replacement.specs.declared.Survey.{Survey}

-- what a survey says of a formula, and of formulas
abbrev pub Sees : ℕ → Survey → Formula → Type 0
Sees x v f = Bounded x v.most v.other f

abbrev pub SeesAll : ℕ → Survey → Formulas → Type 0
SeesAll x v fs = AllBounded x v.most v.other fs

-- of an atom or a WINDOW; other records have no numbers
abbrev pub SeesLeaf : ℕ → Survey → Formula → Type 0
SeesLeaf x v (atom c ns) = Sees x v (atom c ns)
SeesLeaf x v (not f) = Unit {0}
SeesLeaf x v (list b fs) = Unit {0}
SeesLeaf x v (quant b y f) = Unit {0}
SeesLeaf x v (window y lo hi) = Sees x v (window y lo hi)

-- its numbers are as small as a sheet's
pub record Small (v : Survey) : Type 0 where
  pub most : v.most ≤ M
  pub other : v.other ≤ M

-- what v says, r says too
pub record Grows (v r : Survey) : Type 0 where
  pub most : v.most ≤ r.most
  pub other : v.other ≤ r.other
  pub small : Small r
