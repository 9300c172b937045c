-- What the crates above see of the record that a formula begins with: its kind, and the fields of each kind. They read no byte of a record.
use Rattle.std.specs.Prelude.{ℕ, ◌+◌, ◌≡◌, List, [], ◌++◌, false, length, drop, ℤ, pos, Result, Ok, Err}
use Rattle.reading.specs.Limits.{tree_levels}
use Rattle.reading.specs.Formula.{Comparison, less, atmost, equal, Formula, Formulas, atom, not, list, quant, window, none, count, list_no, quant_no, atom_size, not_size, list_size, quant_size, window_size, encodes, AllFit}
use Rattle.reading.specs.Records.{Kind, atom_k, not_k, list_k, quant_k, window_k, unknown_k}
use Rattle.reading.specs.declared.Comparison as Code
use Rattle.reading.specs.declared.Comparison.TheVariants.{Less, AtMost, Equal}
use Rattle.reading.specs.declared.Shape.{Shape}
use Rattle.reading.specs.declared.UnknownKind.{UnknownKind}
use Rattle.reading.specs.declared.Window.{Window}
use Rattle.reading.specs.declared.Binder.{Binder}

-- ---- the kind

-- the code's case for each comparison, the comparison of each case, and 01's number for it
abbrev pub comparison_case : Comparison → Code.Comparison
comparison_case less = Less
comparison_case atmost = AtMost
comparison_case equal = Equal

abbrev pub comparison_in : Code.Comparison → Comparison
comparison_in Less = less
comparison_in AtMost = atmost
comparison_in Equal = equal

abbrev pub comparison_case_no : Code.Comparison → ℕ
comparison_case_no Less = 1
comparison_case_no AtMost = 2
comparison_case_no Equal = 3

-- the kind of a formula's first record, and 01's number for it
abbrev pub shape_of : Formula → Shape
shape_of (atom c ns) = Shape.Atom (comparison_case c)
shape_of (not f) = Shape.Not
shape_of (list b fs) = Shape.List b
shape_of (quant b v f) = Shape.Quantifier b
shape_of (window v lo hi) = Shape.Window

abbrev pub shape_no : Shape → ℕ
shape_no (Shape.Atom c) = comparison_case_no c
shape_no Shape.Not = 4
shape_no (Shape.List b) = list_no b
shape_no (Shape.Quantifier b) = quant_no b
shape_no Shape.Window = 9

-- how many bytes a record of the kind has
abbrev pub shape_size : Shape → ℕ
shape_size (Shape.Atom c) = atom_size
shape_size Shape.Not = not_size
shape_size (Shape.List b) = list_size
shape_size (Shape.Quantifier b) = quant_size
shape_size Shape.Window = window_size

-- the kind that reading finds
abbrev pub shape_kind : Shape → Kind
shape_kind (Shape.Atom c) = atom_k (comparison_in c)
shape_kind Shape.Not = not_k
shape_kind (Shape.List b) = list_k b
shape_kind (Shape.Quantifier b) = quant_k b
shape_kind Shape.Window = window_k

abbrev pub kind_named : Result Shape UnknownKind → Kind
kind_named (Ok shape) = shape_kind shape
kind_named (Err e) = unknown_k

-- ---- the fields: each is asked for where the formula is of its kind

abbrev pub IsAtom : Formula → Type 0
IsAtom (atom c ns) = Unit {0}
IsAtom (not f) = ⊥
IsAtom (list b fs) = ⊥
IsAtom (quant b v f) = ⊥
IsAtom (window v lo hi) = ⊥

abbrev pub IsWindow : Formula → Type 0
IsWindow (atom c ns) = ⊥
IsWindow (not f) = ⊥
IsWindow (list b fs) = ⊥
IsWindow (quant b v f) = ⊥
IsWindow (window v lo hi) = Unit {0}

abbrev pub IsQuantifier : Formula → Type 0
IsQuantifier (atom c ns) = ⊥
IsQuantifier (not f) = ⊥
IsQuantifier (list b fs) = ⊥
IsQuantifier (quant b v f) = Unit {0}
IsQuantifier (window v lo hi) = ⊥

-- an atom's nine numbers
abbrev pub numbers_of : Formula → List ℤ
numbers_of (atom c ns) = ns
numbers_of (not f) = []
numbers_of (list b fs) = []
numbers_of (quant b v f) = []
numbers_of (window v lo hi) = []

-- the members of a list
abbrev pub members_of : Formula → Formulas
members_of (atom c ns) = none
members_of (not f) = none
members_of (list b fs) = fs
members_of (quant b v f) = none
members_of (window v lo hi) = none

-- a WINDOW: variable, lo and hi
abbrev pub no_window : Window
no_window = record { variable = 0; lo = pos 0; hi = pos 0 }

abbrev pub window_of : Formula → Window
window_of (atom c ns) = no_window
window_of (not f) = no_window
window_of (list b fs) = no_window
window_of (quant b v f) = no_window
window_of (window v lo hi) = record { variable = v; lo = lo; hi = hi }

-- a quantifier: EVERY or SOME, and its variable
abbrev pub no_binder : Binder
no_binder = record { every = false; variable = 0 }

abbrev pub binder_of : Formula → Binder
binder_of (atom c ns) = no_binder
binder_of (not f) = no_binder
binder_of (list b fs) = no_binder
binder_of (quant b v f) = record { every = b; variable = v }
binder_of (window v lo hi) = no_binder

-- ---- formulas that are passed over: `left` of them stand in s from `at` on

pub record Follow (s : List ℕ) (at left : ℕ) : Type 0 where
  pub members : Formulas
  pub rest : List ℕ
  pub bytes : drop at s ≡ encodes members ++ rest
  pub many : left ≡ count members
  pub fits : AllFit tree_levels members

-- r is where they end, whichever they are
abbrev pub Passed : List ℕ → ℕ → ℕ → ℕ → Type 0
Passed s at left r = (fs : Formulas) (u : List ℕ) → drop at s ≡ encodes fs ++ u → left ≡ count fs → AllFit tree_levels fs → r ≡ at + length (encodes fs)
