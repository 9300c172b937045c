-- 01, 'A sheet on disk': a formula that is written is read, whatever follows it; and so are its records and its numbers, one by one.
-- Assumes nothing.
use mathlib.Core.Path.{◌≡◌, refl, ◌∙◌, ap, ap₂}
use mathlib.Core.List.{List, [], ◌∷◌, ◌++◌, append_assoc}
use Prim.Native.Nat.{ℕ, zero, suc, ◌+◌, ◌-◌, ◌*◌, ◌/◌, ◌%◌, ◌≤◌, ◌<◌}
use native.Mathlib.Nat.{add_assoc, add-zero}
use native.Mathlib.Numerals.{sub-one}
use native.Mathlib.Omega.{arith}
use lib.ListN.{length, get_or, length-append}
use lib.Seq.{drop-append_seam, get_or-append-add}
use lib.IntN.{ℤ, pos, negsuc, nat_abs}
use mir.Syntax.{w32}
use mir.Val.{of_z, SFits}
use mir.ValLaws.{to_z-of_z}
use borrow.Author.Tests.{le-ltb, le-leb}
use mathlib.Core.Bool.{true, false}
use Rattle.reading.specs.Limits.{M, last_variable}
use Rattle.reading.specs.Bytes.{int4, ints, bytes2, bytes4, int_bytes}
use Rattle.reading.specs.Formula.{Formula, Formulas, count, Label, comparison_no, kind_no, size, follow, field_bytes, record_bytes, encode, encodes, AllM, InRange, Fits, AllFit, less, atmost, equal, atom, not, list, quant, window, none, more, atom_l, not_l, list_l, quant_l, window_l}
use Rattle.reading.specs.Records.{Kind, kind_of, sized, in_m, all_m, by_kind, head, opened, atom_k, not_k, list_k, quant_k, window_k}
use Rattle.reading.specs.Reading.{Read, build, formulas_in, formula_in, good}

-- ---- numbers

-- the two bytes, and the four, of a number make it again
pub two : (n : ℕ) → n < 65536 → n % 256 + 256 * (n / 256) ≡ n
two n h = omega arith

four : (n : ℕ) → n < 4294967296 → (n % 65536) % 256 + 256 * ((n % 65536) / 256) + 65536 * ((n / 65536) % 256 + 256 * (n / 65536 / 256)) ≡ n
four n h = omega arith

small-fits : (z : ℤ) → nat_abs z ≤ M → SFits w32 z
small-fits (pos n) h = record { sfits = omega arith }
small-fits (negsuc n) h = record { sfits = omega arith }

small-bits : (z : ℤ) → nat_abs z ≤ M → of_z w32 z < 4294967296
small-bits (pos n) h = omega arith
small-bits (negsuc n) h = omega arith

-- a signed number that is written after p is read there
int-read : (p : List ℕ) (z : ℤ) (u : List ℕ) (i : ℕ) → length p ≡ i → nat_abs z ≤ M → int4 (p ++ (bytes4 (of_z w32 z) ++ u)) i ≡ z
unfolding int4
int-read p z u i e h =
    let t = bytes4 (of_z w32 z) ++ u in
    let g : (j : ℕ) → get_or (p ++ t) (i + j) 0 ≡ get_or t j 0 = λ j. rw (← e) (get_or-append-add p t j 0) in
    let g0 : get_or (p ++ t) i 0 ≡ get_or t 0 0 = rw (add-zero i) at (g 0) in
    let g3 : get_or (p ++ t) (i + 2 + 1) 0 ≡ get_or t 3 0 = rw (add_assoc i 2 1) (g 3) in
    simp (g0, g 1, g 2, g3, four (of_z w32 z) (small-bits z h)) (to_z-of_z w32 z (small-fits z h))

-- so are several, and they are found in their range
pub ints-read : (zs : List ℤ) (p u : List ℕ) (i : ℕ) → length p ≡ i → AllM zs → ints (length zs) i (p ++ (int_bytes zs ++ u)) ≡ zs
unfolding ints int_bytes
ints-read [] p u i e h = refl
ints-read (z ∷ zs) p u i e h =
    let b = bytes4 (of_z w32 z) in
    let n : length (p ++ b) ≡ i + 4 = length-append p b ∙ ap (λ (j : ℕ). j + 4) e in
    ap₂ ◌∷◌ (int-read p z (int_bytes zs ++ u) i e h.0) (rw (append_assoc p b (int_bytes zs ++ u)) at (ints-read zs (p ++ b) u (i + 4) n h.1))

all_m-read : (zs : List ℤ) (p u : List ℕ) (i : ℕ) → length p ≡ i → AllM zs → all_m (length zs) i (p ++ (int_bytes zs ++ u)) ≡ true
unfolding all_m int_bytes in_m
all_m-read [] p u i e h = refl
all_m-read (z ∷ zs) p u i e h =
    let b = bytes4 (of_z w32 z) in
    let n : length (p ++ b) ≡ i + 4 = length-append p b ∙ ap (λ (j : ℕ). j + 4) e in
    rw (int-read p z (int_bytes zs ++ u) i e h.0, le-leb (nat_abs z) M h.0) (rw (append_assoc p b (int_bytes zs ++ u)) at (all_m-read zs (p ++ b) u (i + 4) n h.1))

-- each number takes four bytes
pub ints-long : (zs : List ℤ) → length (int_bytes zs) ≡ 4 * length zs
unfolding int_bytes
ints-long [] = refl
ints-long (z ∷ zs) = omega (arith, ints-long zs)

-- ---- a record that is written is read

-- a record's bytes are as many as its length says
pub record-long : (l : Label) → InRange l → length (record_bytes l) ≡ size l
unfolding record_bytes field_bytes
record-long (atom_l c ns) r = omega (arith, ints-long ns, r.0)
record-long not_l r = refl
record-long (list_l b n) r = refl
record-long (quant_l b v) r = refl
record-long (window_l v lo hi) r = omega (arith, ints-long (lo ∷ hi ∷ []))

-- kinds and lengths fit in two bytes
pub kind-small : (l : Label) → kind_no l < 65536
kind-small (atom_l less ns) = omega arith
kind-small (atom_l atmost ns) = omega arith
kind-small (atom_l equal ns) = omega arith
kind-small not_l = omega arith
kind-small (list_l true n) = omega arith
kind-small (list_l false n) = omega arith
kind-small (quant_l false v) = omega arith
kind-small (quant_l true v) = omega arith
kind-small (window_l v lo hi) = omega arith

pub size_small : (l : Label) → (4 ≤ size l) × (size l < 65536)
size_small (atom_l c ns) = omega arith
size_small not_l = omega arith
size_small (list_l b n) = omega arith
size_small (quant_l b v) = omega arith
size_small (window_l v lo hi) = omega arith

abbrev kind_k : Label → Kind
kind_k (atom_l c ns) = atom_k c
kind_k not_l = not_k
kind_k (list_l b n) = list_k b
kind_k (quant_l b v) = quant_k b
kind_k (window_l v lo hi) = window_k

kind-back : (l : Label) → kind_of (kind_no l) ≡ kind_k l
unfolding kind_of
kind-back (atom_l less ns) = refl
kind-back (atom_l atmost ns) = refl
kind-back (atom_l equal ns) = refl
kind-back not_l = refl
kind-back (list_l true n) = refl
kind-back (list_l false n) = refl
kind-back (quant_l false v) = refl
kind-back (quant_l true v) = refl
kind-back (window_l v lo hi) = refl

header_read : (l : Label) (u : List ℕ) → InRange l → head (record_bytes l ++ u) ≡ by_kind (kind_k l) (size l) (record_bytes l ++ u)
unfolding head record_bytes
header_read l u r =
    simp (le-ltb (length (record_bytes l ++ u)) 4 (omega (arith, length-append (record_bytes l) u, record-long l r, size_small l)), two (size l) (size_small l).1, two (kind_no l) (kind-small l), kind-back l)

-- the numbers of a window, from both at once
pub window-read : (s : List ℕ) (lo hi : ℤ) → ints 2 6 s ≡ lo ∷ hi ∷ [] → (int4 s 6 ≡ lo) × (int4 s 10 ≡ hi)
unfolding ints
window-read s lo hi e = (cc, cc)

record-read : (l : Label) (u : List ℕ) → InRange l → head (record_bytes l ++ u) ≡ opened l
unfolding by_kind sized record_bytes field_bytes
record-read (atom_l c ns) u r =
    let s = record_bytes (atom_l c ns) ++ u in
    let p = bytes2 40 ++ bytes2 (comparison_no c) in
    header_read (atom_l c ns) u r
    ∙ simp (le-ltb (length s) 40 (omega (arith, length-append (record_bytes (atom_l c ns)) u, record-long (atom_l c ns) r)), rw r.0 at (all_m-read ns p u 4 refl r.1), rw r.0 at (ints-read ns p u 4 refl r.1))
record-read not_l u r = header_read not_l u r ∙ simp (le-ltb (length (record_bytes not_l ++ u)) 4 (omega arith))
record-read (list_l b n) u r = header_read (list_l b n) u r ∙ simp (le-ltb (length (record_bytes (list_l b n) ++ u)) 6 (omega arith), two n r)
record-read (quant_l b v) u r = header_read (quant_l b v) u r ∙ simp (le-ltb (length (record_bytes (quant_l b v) ++ u)) 6 (omega arith), two v (omega arith), le-leb v last_variable r)
record-read (window_l v lo hi) u r =
    let s = record_bytes (window_l v lo hi) ++ u in
    let p = bytes2 14 ++ bytes2 9 ++ bytes2 v in
    let w = window-read s lo hi (ints-read (lo ∷ hi ∷ []) p u 6 refl r.1) in
    header_read (window_l v lo hi) u r
    ∙ simp (le-ltb (length s) 14 (omega (arith, length-append (record_bytes (window_l v lo hi)) u, record-long (window_l v lo hi) r)), two v (omega arith), le-leb v last_variable r.0, all_m-read (lo ∷ hi ∷ []) p u 6 refl r.1, w.0, w.1)

-- a record and then formulas that are read
headed-read : (l : Label) (d : ℕ) (u : List ℕ) (fs : Formulas) (k : ℕ) → 1 ≤ d → InRange l → formulas_in (formula_in (d - 1)) (follow l) u ≡ good fs k
    → formula_in d (record_bytes l ++ u) ≡ good (build l fs) (length (record_bytes l) + k)
unfolding formula_in
headed-read l zero u fs k h r e = absurd (omega arith)
headed-read l (suc d) u fs k h r e =
    rw (record-read l u r, ← record-long l r, drop-append_seam (record_bytes l) u, record-long l r) (rw (← sub-one (suc d), e))

one-read : (rd : List ℕ → Read Formula) (u : List ℕ) (f : Formula) (k : ℕ) → rd u ≡ good f k → formulas_in rd 1 u ≡ good (more f none) k
unfolding formulas_in
one-read rd u f k e = rw e (ap (good (more f none)) (add-zero k))

-- reading the bytes of a formula that fits gives the formula back, and all its bytes, whatever follows them
mutual
  unfolding encode formulas_in

  pub reads : (f : Formula) (d : ℕ) (t : List ℕ) → Fits d f → formula_in d (encode f ++ t) ≡ good f (length (encode f))
  reads (atom c ns) d t w = headed-read (atom_l c ns) d t none 0 w.0 w.1 refl ∙ ap (good (atom c ns)) (add-zero (length (record_bytes (atom_l c ns))))
  reads (not f) d t w =
      rw (append_assoc (record_bytes not_l) (encode f) t, length-append (record_bytes not_l) (encode f))
      (headed-read not_l d (encode f ++ t) (more f none) (length (encode f)) w.0 tt (one-read (formula_in (d - 1)) (encode f ++ t) f (length (encode f)) (reads f (d - 1) t w.1)))
  reads (list b fs) d t w =
      rw (append_assoc (record_bytes (list_l b (count fs))) (encodes fs) t, length-append (record_bytes (list_l b (count fs))) (encodes fs))
      (headed-read (list_l b (count fs)) d (encodes fs ++ t) fs (length (encodes fs)) w.0 w.1 (reads_all fs (d - 1) t w.2))
  reads (quant b v f) d t w =
      rw (append_assoc (record_bytes (quant_l b v)) (encode f) t, length-append (record_bytes (quant_l b v)) (encode f))
      (headed-read (quant_l b v) d (encode f ++ t) (more f none) (length (encode f)) w.0 w.1 (one-read (formula_in (d - 1)) (encode f ++ t) f (length (encode f)) (reads f (d - 1) t w.2)))
  reads (window v lo hi) d t w = headed-read (window_l v lo hi) d t none 0 w.0 w.1 refl ∙ ap (good (window v lo hi)) (add-zero (length (record_bytes (window_l v lo hi))))

  pub reads_all : (fs : Formulas) (d : ℕ) (t : List ℕ) → AllFit d fs → formulas_in (formula_in d) (count fs) (encodes fs ++ t) ≡ good fs (length (encodes fs))
  reads_all none d t w = refl
  reads_all (more f fs) d t w =
      rw (append_assoc (encode f) (encodes fs) t, reads f d (encodes fs ++ t) w.0, drop-append_seam (encode f) (encodes fs ++ t), reads_all fs d t w.1, length-append (encode f) (encodes fs))
