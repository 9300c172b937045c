-- A formula as a tree, its bytes, and which formulas have bytes. 01's nine kinds are five cases here: the three comparisons are one
-- constructor, and so are the two lists and the two quantifiers, whose Bool says which. An atom's numbers stand in the order of the record:
-- the coefficients of variables 0 to 7, then the constant.
use Rattle.std.specs.Prelude.{ℕ, suc, ◌-◌, ◌≤◌, ◌<◌, ◌≡◌, Bool, true, false, List, [], ◌∷◌, ◌++◌, length, ℤ, nat_abs}
use Rattle.reading.specs.Limits.{M, last_variable}
use Rattle.reading.specs.Bytes.{bytes2, int_bytes}

-- sum < 0, sum ≤ 0, sum = 0
pub data Comparison : Type 0 where
  less atmost equal : Comparison

mutual
  -- `list true` is ALLOF, `list false` ANYOF; `quant true` is EVERY, `quant false` SOME
  pub data Formula : Type 0 where
    atom : Comparison → List ℤ → Formula
    not : Formula → Formula
    list : Bool → Formulas → Formula
    quant : Bool → ℕ → Formula → Formula
    window : ℕ → ℤ → ℤ → Formula

  pub data Formulas : Type 0 where
    none : Formulas
    more : Formula → Formulas → Formulas

-- how many formulas there are
abbrev pub count : Formulas → ℕ
count none = 0
count (more f fs) = suc (count fs)

-- ---- records: what one says beside the formulas that follow it

pub data Label : Type 0 where
  atom_l : Comparison → List ℤ → Label
  not_l : Label
  list_l : Bool → ℕ → Label
  quant_l : Bool → ℕ → Label
  window_l : ℕ → ℤ → ℤ → Label

-- the number of its kind
abbrev pub comparison_no : Comparison → ℕ
comparison_no less = 1
comparison_no atmost = 2
comparison_no equal = 3

abbrev pub list_no : Bool → ℕ
list_no true = 5
list_no false = 6

abbrev pub quant_no : Bool → ℕ
quant_no false = 7
quant_no true = 8

abbrev pub kind_no : Label → ℕ
kind_no (atom_l c ns) = comparison_no c
kind_no not_l = 4
kind_no (list_l b n) = list_no b
kind_no (quant_l b v) = quant_no b
kind_no (window_l v lo hi) = 9

-- its length in bytes
abbrev pub atom_size : ℕ
atom_size = 40

abbrev pub not_size : ℕ
not_size = 4

abbrev pub list_size : ℕ
list_size = 6

abbrev pub quant_size : ℕ
quant_size = 6

abbrev pub window_size : ℕ
window_size = 14

abbrev pub size : Label → ℕ
size (atom_l c ns) = atom_size
size not_l = not_size
size (list_l b n) = list_size
size (quant_l b v) = quant_size
size (window_l v lo hi) = window_size

-- how many formulas follow it
abbrev pub follow : Label → ℕ
follow (atom_l c ns) = 0
follow not_l = 1
follow (list_l b n) = n
follow (quant_l b v) = 1
follow (window_l v lo hi) = 0

-- its bytes: length, kind, fields
unfoldable pub field_bytes : Label → List ℕ
field_bytes (atom_l c ns) = int_bytes ns
field_bytes not_l = []
field_bytes (list_l b n) = bytes2 n
field_bytes (quant_l b v) = bytes2 v
field_bytes (window_l v lo hi) = bytes2 v ++ int_bytes (lo ∷ hi ∷ [])

unfoldable pub record_bytes : Label → List ℕ
record_bytes l = bytes2 (size l) ++ bytes2 (kind_no l) ++ field_bytes l

-- ---- a formula in prefix order

unfoldable mutual
  pub encode : Formula → List ℕ
  encode (atom c ns) = record_bytes (atom_l c ns)
  encode (not f) = record_bytes not_l ++ encode f
  encode (list b fs) = record_bytes (list_l b (count fs)) ++ encodes fs
  encode (quant b v f) = record_bytes (quant_l b v) ++ encode f
  encode (window v lo hi) = record_bytes (window_l v lo hi)

  pub encodes : Formulas → List ℕ
  encodes none = []
  encodes (more f fs) = encode f ++ encodes fs

-- the record that a formula begins with
abbrev pub label_of : Formula → Label
label_of (atom c ns) = atom_l c ns
label_of (not f) = not_l
label_of (list b fs) = list_l b (count fs)
label_of (quant b v f) = quant_l b v
label_of (window v lo hi) = window_l v lo hi

-- ---- the ranges: each number of a record, and the nesting (the outermost record is level 1)

abbrev pub AllM : List ℤ → Type 0
AllM [] = Unit {0}
AllM (z ∷ zs) = (nat_abs z ≤ M) × AllM zs

abbrev pub InRange : Label → Type 0
InRange (atom_l c ns) = (length ns ≡ 9) × AllM ns
InRange not_l = Unit {0}
InRange (list_l b n) = n < 65536
InRange (quant_l b v) = v ≤ last_variable
InRange (window_l v lo hi) = (v ≤ last_variable) × AllM (lo ∷ hi ∷ [])

-- every number is in its range, and the formula has at most d levels
abbrev mutual
  pub Fits : ℕ → Formula → Type 0
  Fits d (atom c ns) = (1 ≤ d) × InRange (atom_l c ns)
  Fits d (not f) = (1 ≤ d) × Fits (d - 1) f
  Fits d (list b fs) = (1 ≤ d) × (count fs < 65536) × AllFit (d - 1) fs
  Fits d (quant b v f) = (1 ≤ d) × (v ≤ last_variable) × Fits (d - 1) f
  Fits d (window v lo hi) = (1 ≤ d) × InRange (window_l v lo hi)

  pub AllFit : ℕ → Formulas → Type 0
  AllFit d none = Unit {0}
  AllFit d (more f fs) = Fits d f × AllFit d fs

-- no quantifier
abbrev mutual
  pub Free : Formula → Type 0
  Free (atom c ns) = Unit {0}
  Free (not f) = Free f
  Free (list b fs) = AllFree fs
  Free (quant b v f) = ⊥
  Free (window v lo hi) = Unit {0}

  pub AllFree : Formulas → Type 0
  AllFree none = Unit {0}
  AllFree (more f fs) = Free f × AllFree fs

-- ---- sorts of formulas

-- ALLOF or ANYOF
abbrev pub IsList : Formula → Type 0
IsList (atom c ns) = ⊥
IsList (not f) = ⊥
IsList (list b fs) = Unit {0}
IsList (quant b v f) = ⊥
IsList (window v lo hi) = ⊥
