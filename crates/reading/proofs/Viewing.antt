-- What the record of a formula says, field by field, against the definitions of `Views`. Whoever goes by the kind of a record learns from
-- `shape-atom` and the like what it stands before. Assumes nothing.
use mathlib.Core.Path.{◌≡◌, refl, sym, ◌∙◌, ap, ap₂}
use mathlib.Core.Bool.{Bool, true, false}
use mathlib.Core.List.{List, ◌++◌}
use Prim.Native.Nat.{ℕ, ◌+◌, ◌*◌, ◌≤◌, ◌<◌}
use native.Mathlib.Omega.{arith}
use lib.Dec.{eqb}
use lib.ListN.{length, get_or}
use lib.IntN.{ℤ, pos}
use Rattle.reading.specs.Limits.{last_variable, variables}
use Rattle.reading.specs.Bytes.{le2, int4, ints}
use Rattle.reading.specs.Formula.{Comparison, less, atmost, equal, comparison_no, Formula, atom, not, list, quant, window, count, encode, record_bytes, field_bytes, Free, IsList}
use Rattle.reading.specs.Reading.{Begins}
use Rattle.reading.specs.Records.{Kind, kind_of, atom_k, not_k, list_k, quant_k, window_k, unknown_k}
use Rattle.reading.specs.Views.{comparison_case, comparison_case_no, comparison_in, shape_kind, kind_named, shape_of, shape_no, IsAtom, IsWindow, IsQuantifier, numbers_of, members_of, window_of, binder_of}
use Rattle.reading.specs.declared.Comparison as Code
use Rattle.reading.specs.declared.Comparison.TheVariants.{Less, AtMost, Equal}
use Rattle.reading.specs.declared.Shape.{Shape}
use Rattle.reading.specs.declared.UnknownKind.{UnknownKind}
use Rattle.std.specs.Prelude.{Result, Ok, Err}
use Rattle.std.specs.Result.{result_unwrap_or}
use Rattle.reading.proofs.Laws.{two}
use Rattle.reading.proofs.Ints.{ints_at}
use Rattle.reading.proofs.Lengths.{list-long, four-long, begins-long}
use Rattle.reading.proofs.Walking.{formula_kind, kind-is, atom-is, window-is, list_count}

-- ---- the kind

-- the kind of a formula's record, from what reading finds
abbrev shape_back : Kind → Shape
shape_back (atom_k c) = Shape.Atom (comparison_case c)
shape_back not_k = Shape.Not
shape_back (list_k b) = Shape.List b
shape_back (quant_k b) = Shape.Quantifier b
shape_back window_k = Shape.Window
shape_back unknown_k = Shape.Window

back : (k : Shape) → shape_back (shape_kind k) ≡ k
back (Shape.Atom Less) = refl
back (Shape.Atom AtMost) = refl
back (Shape.Atom Equal) = refl
back Shape.Not = refl
back (Shape.List b) = refl
back (Shape.Quantifier b) = refl
back Shape.Window = refl

back-named : (r : Result Shape UnknownKind) → result_unwrap_or r Shape.Window ≡ shape_back (kind_named r)
back-named (Ok k) = sym (back k)
back-named (Err e) = refl

back-shape : (f : Formula) → shape_back (kind_of (formula_kind f)) ≡ shape_of f
unfolding kind_of
back-shape (atom less ns) = refl
back-shape (atom atmost ns) = refl
back-shape (atom equal ns) = refl
back-shape (not f) = refl
back-shape (list true fs) = refl
back-shape (list false fs) = refl
back-shape (quant false v f) = refl
back-shape (quant true v f) = refl
back-shape (window v lo hi) = refl

pub shape_is : {s : List ℕ} {f : Formula} {n : ℕ} (r : Result Shape UnknownKind) → Begins s f → kind_named r ≡ kind_of n → n ≡ le2 s 2 → result_unwrap_or r Shape.Window ≡ shape_of f
shape_is {s} {f} r b e n = back-named r ∙ ap shape_back (e ∙ ap kind_of (n ∙ kind-is b)) ∙ back-shape f

-- its number is 01's
pub shape-number : (f : Formula) → shape_no (shape_of f) ≡ formula_kind f
shape-number (atom less ns) = refl
shape-number (atom atmost ns) = refl
shape-number (atom equal ns) = refl
shape-number (not f) = refl
shape-number (list b fs) = refl
shape-number (quant b v f) = refl
shape-number (window v lo hi) = refl

pub case-number : (c : Comparison) → comparison_case_no (comparison_case c) ≡ comparison_no c
case-number less = refl
case-number atmost = refl
case-number equal = refl

pub in-number : (c : Code.Comparison) → comparison_case_no c ≡ comparison_no (comparison_in c)
in-number Less = refl
in-number AtMost = refl
in-number Equal = refl

-- ---- the fields

pub begins-four : {s : List ℕ} {f : Formula} → Begins s f → 4 ≤ length s
begins-four {s} {f} b = omega (arith, four-long f, begins-long b)

-- an atom's numbers, and the room that they take
pub row_is : {s : List ℕ} (f : Formula) → Begins s f → IsAtom f → (ints 9 4 s ≡ numbers_of f) × (40 ≤ length s)
row_is f b i = let a = atom-is f b i in (sym (ap numbers_of a.is), a.room)

-- the coefficient of x
pub coefficient-is : {s : List ℕ} (f : Formula) (x : ℕ) → Begins s f → IsAtom f → x < variables → (int4 s (4 + 4 * x) ≡ get_or (numbers_of f) x (pos 0)) × (4 + 4 * x + 4 ≤ length s)
coefficient-is {s} f x b i h = let r = row_is f b i in (sym (ints_at 9 4 x s (omega arith)) ∙ ap (λ (l : List ℤ). get_or l x (pos 0)) r.0, omega (arith, r.1))

-- how many members a list has
pub members-is : {s : List ℕ} (f : Formula) → Begins s f → IsList f → (le2 s 4 ≡ count (members_of f)) × (6 ≤ length s)
members-is (atom c ns) b i = absurd i
members-is (not f) b i = absurd i
members-is (list j fs) b i = (ap (λ (y : List ℕ). le2 y 4) b.bytes ∙ list_count j fs b.rest b.fits.1, omega (arith, list-long j fs, begins-long b))
members-is (quant j v f) b i = absurd i
members-is (window v lo hi) b i = absurd i

-- a WINDOW's three numbers
pub bounds-are : {s : List ℕ} (f : Formula) → Begins s f → IsWindow f → (record { variable = le2 s 4; lo = int4 s 6; hi = int4 s 10 } ≡ window_of f) × (14 ≤ length s)
bounds-are f b i = let w = window-is f b i in (sym (ap window_of w.is), w.room)

-- a quantifier's variable, and whether it is EVERY
quant-variable : (j : Bool) (v : ℕ) (f : Formula) (u : List ℕ) → v ≤ last_variable → le2 (encode (quant j v f) ++ u) 4 ≡ v
unfolding encode record_bytes field_bytes
quant-variable j v f u h = two v (omega arith)

quant-room : (j : Bool) (v : ℕ) (f : Formula) → 6 ≤ length (encode (quant j v f))
unfolding encode record_bytes field_bytes
quant-room j v f = omega arith

every-is : (j : Bool) (v : ℕ) (f : Formula) → eqb (formula_kind (quant j v f)) 8 ≡ j
every-is true v f = refl
every-is false v f = refl

pub binder-is : {s : List ℕ} (f : Formula) → Begins s f → IsQuantifier f → (record { every = eqb (le2 s 2) 8; variable = le2 s 4 } ≡ binder_of f) × (6 ≤ length s)
binder-is (atom c ns) b i = absurd i
binder-is (not f) b i = absurd i
binder-is (list j fs) b i = absurd i
binder-is {s} (quant j v f) b i =
    let e : eqb (le2 s 2) 8 ≡ j = ap (λ (k : ℕ). eqb k 8) (kind-is b) ∙ every-is j v f in
    let g : le2 s 4 ≡ v = ap (λ (y : List ℕ). le2 y 4) b.bytes ∙ quant-variable j v f b.rest b.fits.1 in
    (ap₂ (λ (x : Bool) (n : ℕ). record { every = x; variable = n }) e g, omega (arith, quant-room j v f, begins-long b))
binder-is (window v lo hi) b i = absurd i

-- ---- what a formula of a kind is

pub shape-atom : (f : Formula) {c : Code.Comparison} → shape_of f ≡ Shape.Atom c → IsAtom f
shape-atom (atom c ns) e = tt
shape-atom (not f) e = let z : ◌≡◌ {A = ℕ} 0 1 = cc in absurd (omega arith)
shape-atom (list b fs) e = let z : ◌≡◌ {A = ℕ} 0 1 = cc in absurd (omega arith)
shape-atom (quant b v f) e = let z : ◌≡◌ {A = ℕ} 0 1 = cc in absurd (omega arith)
shape-atom (window v lo hi) e = let z : ◌≡◌ {A = ℕ} 0 1 = cc in absurd (omega arith)

pub shape-list : (f : Formula) {b : Bool} → shape_of f ≡ Shape.List b → IsList f
shape-list (atom c ns) e = let z : ◌≡◌ {A = ℕ} 0 1 = cc in absurd (omega arith)
shape-list (not f) e = let z : ◌≡◌ {A = ℕ} 0 1 = cc in absurd (omega arith)
shape-list (list b fs) e = tt
shape-list (quant b v f) e = let z : ◌≡◌ {A = ℕ} 0 1 = cc in absurd (omega arith)
shape-list (window v lo hi) e = let z : ◌≡◌ {A = ℕ} 0 1 = cc in absurd (omega arith)

pub shape-window : (f : Formula) → shape_of f ≡ Shape.Window → IsWindow f
shape-window (atom c ns) e = let z : ◌≡◌ {A = ℕ} 0 1 = cc in absurd (omega arith)
shape-window (not f) e = let z : ◌≡◌ {A = ℕ} 0 1 = cc in absurd (omega arith)
shape-window (list b fs) e = let z : ◌≡◌ {A = ℕ} 0 1 = cc in absurd (omega arith)
shape-window (quant b v f) e = let z : ◌≡◌ {A = ℕ} 0 1 = cc in absurd (omega arith)
shape-window (window v lo hi) e = tt

pub shape-quantifier : (f : Formula) {b : Bool} → shape_of f ≡ Shape.Quantifier b → IsQuantifier f
shape-quantifier (atom c ns) e = let z : ◌≡◌ {A = ℕ} 0 1 = cc in absurd (omega arith)
shape-quantifier (not f) e = let z : ◌≡◌ {A = ℕ} 0 1 = cc in absurd (omega arith)
shape-quantifier (list b fs) e = let z : ◌≡◌ {A = ℕ} 0 1 = cc in absurd (omega arith)
shape-quantifier (quant b v f) e = tt
shape-quantifier (window v lo hi) e = let z : ◌≡◌ {A = ℕ} 0 1 = cc in absurd (omega arith)

-- a formula without quantifiers is none
pub free-not : (f : Formula) → Free f → IsQuantifier f → ⊥
free-not (atom c ns) w i = i
free-not (not f) w i = i
free-not (list j fs) w i = i
free-not (quant j v f) w i = w
free-not (window v lo hi) w i = i
