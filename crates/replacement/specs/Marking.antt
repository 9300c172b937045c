-- The table of marks of a body: which atoms come out as they are at every point. The atom that begins where n bytes are left has its mark at n / 40: two
-- atoms are at least 40 bytes apart.
use Rattle.std.specs.Prelude.{ℕ, ◌-◌, ◌*◌, ◌/◌, ◌<◌, ◌≡◌, Bool, true, false, cond, List, eqb, length, get_or, ℤ}
use Rattle.reading.specs.Formula.{Formula, Formulas, atom, not, list, quant, window, none, more, not_size, list_size, encode}
use Rattle.reading.specs.Reading.{tree_of}
use Rattle.exact.specs.Numbers.{at, is_zero}
use Rattle.exact.specs.Atoms.{no_variable}
use Rattle.exact.specs.Divisor.{gcds}

-- a variable is left and the numbers are divided: the sum as it stands is that of a new atom
abbrev pub is_plain : List ℤ → Bool
is_plain ns = cond (no_variable ns) false (eqb (gcds ns) 1)

-- an atom without x that comes out as it is
abbrev pub Unchanged : ℕ → Formula → Type 0
Unchanged x (atom c ns) = (is_zero (at ns x) ≡ true) × (is_plain ns ≡ true)
Unchanged x (not f) = ⊥
Unchanged x (list b fs) = ⊥
Unchanged x (quant b v f) = ⊥
Unchanged x (window v lo hi) = ⊥

-- each atom that is marked comes out as it is; the formula begins where n bytes are left
abbrev mutual
  pub Marked : ℕ → List Bool → ℕ → Formula → Type 0
  Marked x ms n (atom c ns) = get_or ms (n / 40) false ≡ true → Unchanged x (atom c ns)
  Marked x ms n (not f) = Marked x ms (n - not_size) f
  Marked x ms n (list b fs) = AllMarked x ms (n - list_size) fs
  Marked x ms n (quant b v f) = Unit {0}
  Marked x ms n (window v lo hi) = Unit {0}

  pub AllMarked : ℕ → List Bool → ℕ → Formulas → Type 0
  AllMarked x ms n none = Unit {0}
  AllMarked x ms n (more f fs) = Marked x ms n f × AllMarked x ms (n - length (encode f)) fs

-- the table has room for the marks of the formula that s begins with, and holds them
pub record HasMarks (x : ℕ) (s : List ℕ) (ms : List Bool) : Type 0 where
  pub room : length s < 40 * length ms
  pub marked : Marked x ms (length s) (tree_of s)
