-- 01, 'A sheet on disk': reading a formula. A formula inside another is read by the same rule one level further in; the levels that are
-- left fall at each. Places are counted from where the bytes begin.
use Rattle.std.specs.Prelude.{ℕ, zero, suc, ◌+◌, true, false, ◌≡◌, List, ◌++◌, drop}
use Rattle.reading.specs.Limits.{tree_levels}
use Rattle.reading.specs.AnswerNumbers.{deep_nesting}
use Rattle.reading.specs.Formula.{Formula, Formulas, atom, not, list, quant, window, none, more, Label, atom_l, not_l, list_l, quant_l, window_l, size, follow, encode, Fits}
use Rattle.reading.specs.Records.{Record, bad, opened, head}

-- what reading finds: what was read and the number of its bytes, or the number and the place of the refusal
pub data Read (A : Type 0) : Type 0 where
  good : A → ℕ → Read A
  fault : ℕ → ℕ → Read A

-- the first of a list that has one
abbrev pub first : Formulas → Formula
first none = list false none
first (more f fs) = f

-- what a record and the formulas that follow it make
abbrev pub build : Label → Formulas → Formula
build (atom_l c ns) fs = atom c ns
build not_l fs = not (first fs)
build (list_l b n) fs = list b fs
build (quant_l b v) fs = quant b v (first fs)
build (window_l v lo hi) fs = window v lo hi

-- a formula and then formulas
abbrev pub joined : Formula → ℕ → Read Formulas → Read Formulas
joined f k (good fs j) = good (more f fs) (k + j)
joined f k (fault n p) = fault n (k + p)

abbrev pub then : Read Formula → (ℕ → Read Formulas) → Read Formulas
then (good f k) rest = joined f k (rest k)
then (fault n p) rest = fault n p

-- n formulas, one after the other
unfoldable pub formulas_in : (List ℕ → Read Formula) → ℕ → List ℕ → Read Formulas
formulas_in rd zero s = good none 0
formulas_in rd (suc n) s = then (rd s) (λ k. formulas_in rd n (drop k s))

-- a record and then formulas
abbrev pub headed : Label → Read Formulas → Read Formula
headed l (good fs j) = good (build l fs) (size l + j)
headed l (fault n p) = fault n (size l + p)

abbrev pub too_deep : Record → Read Formula
too_deep (bad n) = fault n 0
too_deep (opened l) = fault deep_nesting 0

abbrev pub by_record : (List ℕ → Read Formula) → List ℕ → Record → Read Formula
by_record rd s (bad n) = fault n 0
by_record rd s (opened l) = headed l (formulas_in rd (follow l) (drop (size l) s))

-- the formula that s begins with, of at most d levels
unfoldable pub formula_in : ℕ → List ℕ → Read Formula
formula_in zero s = too_deep (head s)
formula_in (suc d) s = by_record (formula_in d) s (head s)

-- ---- bytes that are known to be a formula's

abbrev pub formula_of : Read Formula → Formula
formula_of (good f k) = f
formula_of (fault n p) = list true none

-- the formula that s begins with, where it begins with one
unfoldable pub tree_of : List ℕ → Formula
tree_of s = formula_of (formula_in tree_levels s)

-- s begins with the bytes of f
pub record Begins (s : List ℕ) (f : Formula) : Type 0 where
  pub rest : List ℕ
  pub bytes : s ≡ encode f ++ rest
  pub fits : Fits tree_levels f

-- s is the bytes of f and nothing else
pub record Exactly (s : List ℕ) (f : Formula) : Type 0 where
  pub bytes : s ≡ encode f
  pub fits : Fits tree_levels f
