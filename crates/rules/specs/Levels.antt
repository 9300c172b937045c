-- 01, 'Numbers that bound the work': nesting never exceeds 25, because a WINDOW opens into a list. `Wide d` says that every number of a formula
-- is in its range and that it has at most d levels, where a WINDOW counts two; this is what steps keep.
use Rattle.std.specs.Prelude.{ℕ, ◌-◌, ◌≤◌, ◌<◌}
use Rattle.reading.specs.Limits.{last_variable}
use Rattle.reading.specs.Formula.{Formula, Formulas, atom, not, list, quant, window, none, more, count, atom_l, window_l, InRange}

abbrev mutual
  pub Wide : ℕ → Formula → Type 0
  Wide d (atom c ns) = (1 ≤ d) × InRange (atom_l c ns)
  Wide d (not f) = (1 ≤ d) × Wide (d - 1) f
  Wide d (list b fs) = (1 ≤ d) × (count fs < 65536) × AllWide (d - 1) fs
  Wide d (quant b v f) = (1 ≤ d) × (v ≤ last_variable) × Wide (d - 1) f
  Wide d (window v lo hi) = (2 ≤ d) × InRange (window_l v lo hi)

  pub AllWide : ℕ → Formulas → Type 0
  AllWide d none = Unit {0}
  AllWide d (more f fs) = Wide d f × AllWide d fs
