-- 01, 'Copies' and 'Lists' over a pushed formula: each atom at the spot, then the list rule from the inside out; and the test of answer 11,
-- which looks before the list rule, at every new atom with a variable, also in lists that fall away.
use Rattle.std.specs.Prelude.{Bool, true, ◌&&◌}
use Rattle.reading.specs.Formula.{Comparison, Formula, Formulas, atom, not, list, quant, window, none, more}
use Rattle.exact.specs.Atoms.{Came, sure, new, Spot, atom_at, fitting}
use Rattle.rules.specs.Lists.{sure_record, listed}

abbrev pub atom_by : Came → Comparison → Formula
atom_by (sure b) c = sure_record b
atom_by (new ns) c = atom c ns

unfoldable mutual
  pub copy : Spot → Formula → Formula
  copy q (atom c ns) = atom_by (atom_at q c ns) c
  copy q (not f) = not f
  copy q (list b fs) = listed b (copy_all q fs)
  copy q (quant b v f) = quant b v f
  copy q (window v lo hi) = window v lo hi

  pub copy_all : Spot → Formulas → Formulas
  copy_all q none = none
  copy_all q (more f fs) = more (copy q f) (copy_all q fs)

unfoldable mutual
  pub fits : Spot → Formula → Bool
  fits q (atom c ns) = fitting (atom_at q c ns)
  fits q (not f) = true
  fits q (list b fs) = fit_all q fs
  fits q (quant b v f) = true
  fits q (window v lo hi) = true

  pub fit_all : Spot → Formulas → Bool
  fit_all q none = true
  fit_all q (more f fs) = fits q f && fit_all q fs
