-- 01, 'Pushing NOT inward': the first argument says whether the formula stands under NOT.
use Rattle.std.specs.Prelude.{ℕ, Bool, true, false, List, ℤ, pos, negsuc, neg_ℤ}
use Rattle.std.proofs.Math.Bool as Bool
use Rattle.reading.specs.Formula.{Comparison, less, atmost, equal, Formula, Formulas, atom, not, list, quant, window, none, more}
use Rattle.exact.specs.Numbers.{minus, single}

-- b, or its opposite under NOT: a list's kind, or a truth
abbrev pub under : Bool → Bool → Bool
under false b = b
under true b = Bool.not b

abbrev pub two : Formula → Formula → Formulas
two f g = more f (more g none)

-- not (s < 0) is −s ≤ 0; not (s ≤ 0) is −s < 0; not (s = 0) is s < 0 or −s < 0
abbrev pub push_atom : Bool → Comparison → List ℤ → Formula
push_atom false c ns = atom c ns
push_atom true less ns = atom atmost (minus ns)
push_atom true atmost ns = atom less (minus ns)
push_atom true equal ns = list false (two (atom less ns) (atom less (minus ns)))

-- WINDOW is ALLOF(lo − v ≤ 0, v − hi ≤ 0); under NOT, ANYOF(v − lo < 0, hi − v < 0)
abbrev pub push_window : Bool → ℕ → ℤ → ℤ → Formula
push_window false v lo hi = list true (two (atom atmost (single v (negsuc 0) lo)) (atom atmost (single v (pos 1) (neg_ℤ hi))))
push_window true v lo hi = list false (two (atom less (single v (pos 1) (neg_ℤ lo))) (atom less (single v (negsuc 0) hi)))

-- a quantifier is never met: a body has none
abbrev pub denied : Bool → Formula → Formula
denied false f = f
denied true f = not f

unfoldable mutual
  pub push : Bool → Formula → Formula
  push neg (atom c ns) = push_atom neg c ns
  push neg (not f) = push (Bool.not neg) f
  push neg (list b fs) = list (under neg b) (pushs neg fs)
  push neg (quant b v f) = denied neg (quant b v f)
  push neg (window v lo hi) = push_window neg v lo hi

  pub pushs : Bool → Formulas → Formulas
  pushs neg none = none
  pushs neg (more f fs) = more (push neg f) (pushs neg fs)
