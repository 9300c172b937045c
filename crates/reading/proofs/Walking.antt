-- A walk over the bytes of a formula: what its first record says of it, the part under a NOT, and the members of a list one after the other.
-- Whoever goes over a formula from the front walks so. Assumes nothing.
use mathlib.Core.Path.{◌≡◌, refl, sym, ◌∙◌, ap, ap₂}
use mathlib.Core.Bool.{Bool}
use mathlib.Core.List.{List, [], ◌∷◌, ◌++◌, append_assoc}
use Prim.Native.Nat.{ℕ, ◌+◌, ◌-◌, ◌≤◌, ◌<◌}
use native.Mathlib.Omega.{arith}
use lib.ListN.{length, take, drop}
use lib.Seq.{drop_at, drop-drop}
use lib.IntN.{ℤ}
use Rattle.reading.specs.Limits.{last_variable, tree_levels}
use Rattle.reading.specs.Bytes.{le2, int4, ints, bytes2}
use Rattle.reading.specs.Formula.{Comparison, comparison_no, Label, label_of, not_l, list_l, quant_l, size, kind_no, Formula, Formulas, atom, not, list, quant, window, none, more, count, encode, encodes, record_bytes, field_bytes, AllM, AllFit, Free, AllFree, IsList}
use Rattle.reading.specs.Reading.{tree_of, Begins}
use Rattle.reading.specs.Views.{IsAtom, IsWindow, shape_of, members_of}
use Rattle.reading.specs.declared.Shape.TheVariants as Shape
use Rattle.reading.proofs.Laws.{two, kind-small, size_small, ints-read, window-read}
use Rattle.reading.proofs.Reading.{part-drop}
use Rattle.reading.proofs.Lengths.{atom-long, list-long, window-long, none-long, encodes_more, more-long, begins-long}
use Rattle.reading.proofs.Trees.{fits_more, all_fit_more, tree_is}

-- ---- the kind

-- the number of the kind of its record
abbrev pub formula_kind : Formula → ℕ
formula_kind (atom c ns) = comparison_no c
formula_kind (not f) = 4
formula_kind (list j fs) = kind_no (list_l j 0)
formula_kind (quant q v f) = kind_no (quant_l q 0)
formula_kind (window v lo hi) = 9

-- a formula begins with its record
record-first : (f : Formula) (u : List ℕ) → (v : List ℕ) × (encode f ++ u ≡ record_bytes (label_of f) ++ v)
unfolding encode
record-first (atom c ns) u = (u, refl)
record-first (not f) u = (encode f ++ u, append_assoc (record_bytes not_l) (encode f) u)
record-first (list j fs) u = (encodes fs ++ u, append_assoc (record_bytes (list_l j (count fs))) (encodes fs) u)
record-first (quant q v f) u = (encode f ++ u, append_assoc (record_bytes (quant_l q v)) (encode f) u)
record-first (window v lo hi) u = (u, refl)

kind-said : (f : Formula) → kind_no (label_of f) ≡ formula_kind f
kind-said (atom c ns) = refl
kind-said (not f) = refl
kind-said (list j fs) = refl
kind-said (quant q v f) = refl
kind-said (window v lo hi) = refl

header : (l : Label) (u : List ℕ) → (le2 (record_bytes l ++ u) 0 ≡ size l) × (le2 (record_bytes l ++ u) 2 ≡ kind_no l)
unfolding record_bytes
header l u = (two (size l) (size_small l).1, two (kind_no l) (kind-small l))

first-is : {s : List ℕ} {f : Formula} → Begins s f → (le2 s 0 ≡ size (label_of f)) × (le2 s 2 ≡ kind_no (label_of f))
first-is {s} {f} b =
    let r = record-first f b.rest in
    let e = b.bytes ∙ r.1 in
    let h = header (label_of f) r.0 in
    (ap (λ (l : List ℕ). le2 l 0) e ∙ h.0, ap (λ (l : List ℕ). le2 l 2) e ∙ h.1)

-- the length of the record
pub size_is : {s : List ℕ} {f : Formula} → Begins s f → le2 s 0 ≡ size (label_of f)
size_is b = (first-is b).0

pub kind-is : {s : List ℕ} {f : Formula} → Begins s f → le2 s 2 ≡ formula_kind f
kind-is {s} {f} b = (first-is b).1 ∙ kind-said f

-- ---- an atom and a window in bytes

-- s begins with the atom f
pub record AtomBytes (s : List ℕ) (f : Formula) : Type 0 where
  pub comparison : Comparison
  pub is : f ≡ atom comparison (ints 9 4 s)
  pub long : length (encode f) ≡ 40
  pub room : 40 ≤ length s

atom-ints : (c : Comparison) (ns : List ℤ) (u : List ℕ) → length ns ≡ 9 → AllM ns → ints 9 4 (encode (atom c ns) ++ u) ≡ ns
unfolding encode record_bytes field_bytes
atom-ints c ns u n w = rw n at (ints-read ns (bytes2 40 ++ bytes2 (comparison_no c)) u 4 refl w)

pub atom-is : {s : List ℕ} (f : Formula) → Begins s f → IsAtom f → AtomBytes s f
atom-is (not f) b i = absurd i
atom-is (list b fs) e i = absurd i
atom-is (quant b v f) e i = absurd i
atom-is (window v lo hi) b i = absurd i
atom-is {s} (atom c ns) b i =
    let w = b.fits in
    let e : ints 9 4 s ≡ ns = ap (ints 9 4) b.bytes ∙ atom-ints c ns b.rest w.1.0 w.1.1 in
    let l = atom-long c ns w.1.0 in
    record {
      comparison = c;
      is = ap (atom c) (sym e);
      long = l;
      room = omega (arith, l, begins-long b);
    }

-- s begins with the WINDOW f
pub record WindowBytes (s : List ℕ) (f : Formula) : Type 0 where
  pub is : f ≡ window (le2 s 4) (int4 s 6) (int4 s 10)
  pub long : length (encode f) ≡ 14
  pub room : 14 ≤ length s

window_bytes : (v : ℕ) (lo hi : ℤ) (u : List ℕ) → v ≤ last_variable → AllM (lo ∷ hi ∷ []) → let s = encode (window v lo hi) ++ u in (le2 s 4 ≡ v) × (int4 s 6 ≡ lo) × (int4 s 10 ≡ hi)
unfolding encode record_bytes field_bytes
window_bytes v lo hi u h w =
    let s = encode (window v lo hi) ++ u in
    let x = window-read s lo hi (ints-read (lo ∷ hi ∷ []) (bytes2 14 ++ bytes2 9 ++ bytes2 v) u 6 refl w) in
    (two v (omega arith), x.0, x.1)

pub window-is : {s : List ℕ} (f : Formula) → Begins s f → IsWindow f → WindowBytes s f
window-is (atom c ns) b i = absurd i
window-is (not f) b i = absurd i
window-is (list j fs) b i = absurd i
window-is (quant j v f) b i = absurd i
window-is {s} (window v lo hi) b i =
    let w = b.fits in
    let x = window_bytes v lo hi b.rest w.1.0 w.1.1 in
    let e : le2 s 4 ≡ v = ap (λ (l : List ℕ). le2 l 4) b.bytes ∙ x.0 in
    let f : int4 s 6 ≡ lo = ap (λ (l : List ℕ). int4 l 6) b.bytes ∙ x.1 in
    let g : int4 s 10 ≡ hi = ap (λ (l : List ℕ). int4 l 10) b.bytes ∙ x.2 in
    let l = window-long v lo hi in
    record {
      is = sym (ap (λ (y : ℕ). window y (int4 s 6) (int4 s 10)) e ∙ ap₂ (window v) f g);
      long = l;
      room = omega (arith, l, begins-long b);
    }

-- ---- a formula under NOT: the part from the fourth byte on begins with it

pub record Inner (s : List ℕ) : Type 0 where
  pub inner : Formula
  pub is : tree_of s ≡ not inner
  pub begins : Begins (take (length s - 4) (drop 4 s)) inner
  pub free : Free inner
  pub long : length (encode (tree_of s)) ≡ 4 + length (encode inner)
  pub within : length (encode (tree_of s)) ≤ length s

inner-by : {s : List ℕ} (f : Formula) → tree_of s ≡ f → Begins s f → Free f → shape_of f ≡ Shape.Not → Inner s
unfolding encode record_bytes field_bytes
inner-by (atom c ns) e b w h = let z : ◌≡◌ {A = ℕ} 0 1 = cc in absurd (omega arith)
inner-by {s} (not f) e b w h =
    let l = ap (λ (g : Formula). length (encode g)) e in
    record {
      inner = f;
      is = e;
      begins = record { rest = b.rest; bytes = part-drop 4 s ∙ ap (drop 4) b.bytes; fits = fits_more f (tree_levels - 1) tree_levels (omega arith) b.fits.1 };
      free = w;
      long = omega (arith, l);
      within = omega (arith, l, begins-long b);
    }
inner-by (list j fs) e b w h = let z : ◌≡◌ {A = ℕ} 0 1 = cc in absurd (omega arith)
inner-by (quant a v f) e b w h = absurd w
inner-by (window v lo hi) e b w h = let z : ◌≡◌ {A = ℕ} 0 1 = cc in absurd (omega arith)

pub inner_of : {s : List ℕ} → Begins s (tree_of s) → Free (tree_of s) → shape_of (tree_of s) ≡ Shape.Not → Inner s
inner_of {s} b w h = inner-by (tree_of s) refl b w h

-- ---- the members of a list: fs are left, `left` in number, from `at` on

pub record Walk (s : List ℕ) (at left : ℕ) (fs : Formulas) : Type 0 where
  pub rest : List ℕ
  pub bytes : drop at s ≡ encodes fs ++ rest
  pub many : left ≡ count fs
  pub fits : AllFit tree_levels fs
  pub free : AllFree fs
  pub used : length (encode (tree_of s)) ≡ at + length (encodes fs)
  pub within : length (encode (tree_of s)) ≤ length s
  pub past : 6 ≤ at

-- how many members a list has, and where they begin
pub list_count : (b : Bool) (fs : Formulas) (u : List ℕ) → count fs < 65536 → le2 (encode (list b fs) ++ u) 4 ≡ count fs
unfolding encode record_bytes field_bytes
list_count b fs u h = two (count fs) h

pub list-members : (b : Bool) (fs : Formulas) (u : List ℕ) → drop 6 (encode (list b fs) ++ u) ≡ encodes fs ++ u
unfolding encode record_bytes field_bytes
list-members b fs u = refl

-- the list that s begins with
pub record IsMembers (s : List ℕ) : Type 0 where
  pub all : Bool
  pub members : Formulas
  pub is : tree_of s ≡ list all members
  pub room : 6 ≤ length s
  pub many : count (members_of (tree_of s)) ≡ count members
  pub walk : Walk s 6 (count members) members

members-of : {s : List ℕ} (f : Formula) → tree_of s ≡ f → Begins s f → Free f → IsList f → IsMembers s
members-of (atom c ns) e b w i = absurd i
members-of (not f) e b w i = absurd i
members-of (quant a v f) e b w i = absurd i
members-of (window v lo hi) e b w i = absurd i
members-of {s} (list a fs) e b w i =
    let g = list-long a fs in
    let l = ap (λ (y : Formula). length (encode y)) e in
    record {
      all = a;
      members = fs;
      is = e;
      room = omega (arith, g, begins-long b);
      many = ap (λ (y : Formula). count (members_of y)) e;
      walk = record {
        rest = b.rest;
        bytes = ap (drop 6) b.bytes ∙ list-members a fs b.rest;
        many = refl;
        fits = all_fit_more fs (tree_levels - 1) tree_levels (omega arith) b.fits.2;
        free = w;
        used = l ∙ g;
        within = omega (arith, l, begins-long b);
        past = omega arith;
      };
    }

pub walk_start : {s : List ℕ} → Begins s (tree_of s) → Free (tree_of s) → IsList (tree_of s) → IsMembers s
walk_start {s} b w i = members-of (tree_of s) refl b w i

-- the next member: the part from `at` on begins with it
pub walk_begins : {s : List ℕ} {at left : ℕ} {f : Formula} {fs : Formulas} → Walk s at left (more f fs) → Begins (take (length s - at) (drop at s)) f
walk_begins {s} {at} {left} {f} {fs} w = record {
  rest = encodes fs ++ w.rest;
  bytes = part-drop at s ∙ w.bytes ∙ ap (λ (l : List ℕ). l ++ w.rest) (encodes_more f fs) ∙ append_assoc (encode f) (encodes fs) w.rest;
  fits = w.fits.0;
}

pub walk-tree : {s : List ℕ} {at left : ℕ} {f : Formula} {fs : Formulas} → Walk s at left (more f fs) → tree_of (take (length s - at) (drop at s)) ≡ f
walk-tree w = tree_is (walk_begins w)

pub walk-next : {s : List ℕ} {at left : ℕ} {f : Formula} {fs : Formulas} (u : ℕ) → Walk s at left (more f fs) → u ≡ length (encode f) → Walk s (at + u) (left - 1) fs
walk-next {s} {at} {left} {f} {fs} u w e =
    let k = more-long f fs in
    record {
      rest = w.rest;
      bytes = sym (drop-drop u at s) ∙ ap (drop u) (w.bytes ∙ ap (λ (l : List ℕ). l ++ w.rest) (encodes_more f fs) ∙ append_assoc (encode f) (encodes fs) w.rest) ∙ drop_at (encode f) (encodes fs ++ w.rest) u (sym e);
      many = omega (arith, w.many);
      fits = w.fits.1;
      free = w.free.1;
      used = omega (arith, w.used, k);
      within = w.within;
      past = omega (arith, w.past);
    }

pub walk_end : {s : List ℕ} {at left : ℕ} → Walk s at left none → at ≡ length (encode (tree_of s))
walk_end w = omega (arith, w.used, none-long)
