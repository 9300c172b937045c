-- 01, 'A sheet on disk': what is read was written. The bytes that a formula takes are its bytes, and its numbers and levels are in their
-- ranges. Assumes nothing.
use mathlib.Core.Path.{◌≡◌, refl, sym, ◌∙◌, ap}
use mathlib.Core.List.{List, [], ◌∷◌, ◌++◌, append-nil}
use Prim.Native.Nat.{ℕ, zero, suc, ◌+◌, ◌*◌, ◌/◌, ◌%◌, ◌≤◌, ◌<◌}
use native.Mathlib.Nat.{add-zero}
use native.Mathlib.Numerals.{sub-one}
use native.Mathlib.Omega.{arith}
use lib.ListN.{length, take, drop, get_or, length-drop}
use lib.Seq.{take-add, drop-drop, get_or-drop}
use lib.IntN.{nat_abs}
use mir.Syntax.{w32}
use mir.Val.{to_z, of_z}
use mir.ValLaws.{of_z-to_z}
use borrow.Author.Tests.{leb-true}
use mathlib.Core.Bool.{Bool, true, false, cond}
use Rattle.reading.specs.Limits.{M}
use Rattle.reading.specs.Bytes.{le2, le4, int4, ints, bytes2, bytes4, int_bytes, Bytes}
use Rattle.reading.specs.Formula.{Formula, Formulas, count, Label, size, follow, field_bytes, record_bytes, encode, encodes, AllM, InRange, Fits, AllFit, none, more, atom_l, not_l, list_l, quant_l, window_l}
use Rattle.reading.specs.Records.{Record, in_m, all_m, head, bad, opened}
use Rattle.reading.specs.Reading.{Read, build, joined, then, formulas_in, headed, too_deep, by_record, formula_in, good, fault}
use Rattle.reading.proofs.Ints.{ints-count}
use Rattle.reading.proofs.Cases.{head_in}

-- ---- numbers

take-two : (s : List ℕ) → 2 ≤ length s → take 2 s ≡ get_or s 0 0 ∷ get_or s 1 0 ∷ []
take-two [] h = absurd (omega arith)
take-two (a ∷ []) h = absurd (omega arith)
take-two (a ∷ b ∷ s) h = refl

two_back : (a b : ℕ) → a < 256 → b < 256 → a ∷ b ∷ [] ≡ bytes2 (a + 256 * b)
two_back a b ha hb =
    let p : (a + 256 * b) % 256 ≡ a = omega arith in
    let q : (a + 256 * b) / 256 ≡ b = omega arith in
    rw (p, q)

module _ (s : List ℕ) (ok : Bytes s) where
  field2 : (i : ℕ) → i + 2 ≤ length s → take 2 (drop i s) ≡ bytes2 (le2 s i)
  field2 i h = take-two (drop i s) (simp length-drop (omega arith)) ∙ rw (get_or-drop i s 0 0, get_or-drop i s 1 0, add-zero i) (two_back (get_or s i 0) (get_or s (i + 1) 0) (ok i) (ok (i + 1)))

  low2 : (i : ℕ) → le2 s i < 65536
  low2 i = omega (arith, ok i, ok (i + 1))

  low4 : (i : ℕ) → le4 s i < 4294967296
  low4 i = omega (arith, low2 i, low2 (i + 2))

  field4 : (i : ℕ) → i + 4 ≤ length s → take 4 (drop i s) ≡ bytes4 (le4 s i)
  field4 i h =
      let p : le4 s i % 65536 ≡ le2 s i = omega (arith, low2 i, low2 (i + 2)) in
      let q : le4 s i / 65536 ≡ le2 s (i + 2) = omega (arith, low2 i, low2 (i + 2)) in
      take-add 2 2 (drop i s) ∙ rw (p, q, drop-drop 2 i s, field2 i (omega arith), field2 (i + 2) (omega arith))

  four_bytes : 4 ≤ length s → take 4 s ≡ bytes2 (le2 s 0) ++ bytes2 (le2 s 2)
  four_bytes h = take-add 2 2 s ∙ rw (field2 2 (omega arith), field2 0 (omega arith))

  six-bytes : 6 ≤ length s → take 6 s ≡ bytes2 (le2 s 0) ++ bytes2 (le2 s 2) ++ bytes2 (le2 s 4)
  six-bytes h = take-add 4 2 s ∙ rw (field2 4 (omega arith), four_bytes (omega arith))

  -- n signed numbers from i on
  field-ints : (n i : ℕ) → i + 4 * n ≤ length s → take (4 * n) (drop i s) ≡ int_bytes (ints n i s)
  unfolding ints int_bytes int4
  field-ints zero i h = refl
  field-ints (suc n) i h =
      let e : 4 * suc n ≡ 4 + 4 * n = omega arith in
      let q : of_z w32 (to_z w32 (le4 s i)) ≡ le4 s i = of_z-to_z w32 (le4 s i) (record { fits = low4 i }) in
      ap (λ (m : ℕ). take m (drop i s)) e ∙ take-add 4 (4 * n) (drop i s) ∙ rw (drop-drop 4 i s, field4 i (omega arith), field-ints n (i + 4) (omega arith), q)

all_m-true : (n i : ℕ) (s : List ℕ) → all_m n i s ≡ true → AllM (ints n i s)
unfolding all_m ints in_m
all_m-true zero i s h = tt
all_m-true (suc n) i s h = go (in_m (int4 s i)) refl h (all_m-true n (i + 4) s)
  where
    go : (b : Bool) → in_m (int4 s i) ≡ b → cond b (all_m n (i + 4) s) false ≡ true → (all_m n (i + 4) s ≡ true → AllM (ints n (i + 4) s)) → (nat_abs (int4 s i) ≤ M) × AllM (ints n (i + 4) s)
    go true e h rest = (leb-true (nat_abs (int4 s i)) M e, rest h)
    go false e h rest = let z : ◌≡◌ {A = ℕ} 0 1 = cc in absurd (omega arith)

-- ---- a record that is read was written

abbrev Said : List ℕ → Record → Type 0
Said s (bad e) = Unit {0}
Said s (opened l) = (take (size l) s ≡ record_bytes l) × InRange l × (size l ≤ length s)

module _ (s : List ℕ) (ok : Bytes s) where
  head-said : Said s (head s)
  unfolding record_bytes field_bytes ints
  head-said =
      head_in (Said s) s (λ e. tt)
      (λ c l k h m. (take-add 4 36 s ∙ rw (field-ints s ok 9 4 h, four_bytes s ok (omega arith), l, k), (ints-count 9 4 s, all_m-true 9 4 s m), h))
      (λ l k h. (four_bytes s ok h ∙ rw (l, k), tt, h))
      (λ b l k h. (six-bytes s ok h ∙ rw (l, k), low2 s ok 4, h))
      (λ b l k h v. (six-bytes s ok h ∙ rw (l, k), v, h))
      (λ l k h v m. (take-add 6 8 s ∙ rw (field-ints s ok 2 6 h, six-bytes s ok (omega arith), l, k), (v, all_m-true 2 6 s m), h))

-- ---- and so is a formula

abbrev pub Right : ℕ → List ℕ → Read Formula → Type 0
Right d s (good f k) = (take k s ≡ encode f) × Fits d f × (k ≤ length s)
Right d s (fault e p) = Unit {0}

abbrev pub RightAll : ℕ → ℕ → List ℕ → Read Formulas → Type 0
RightAll d n s (good fs k) = (take k s ≡ encodes fs) × AllFit d fs × (k ≤ length s) × (count fs ≡ n)
RightAll d n s (fault e p) = Unit {0}

bytes_drop : (s : List ℕ) (k : ℕ) → Bytes s → Bytes (drop k s)
bytes_drop s k ok i = rw (get_or-drop k s i 0) (ok (k + i))

build-bytes : (l : Label) (fs : Formulas) → count fs ≡ follow l → encode (build l fs) ≡ record_bytes l ++ encodes fs
unfolding encode
build-bytes (atom_l c ns) none e = sym (append-nil (record_bytes (atom_l c ns)))
build-bytes (atom_l c ns) (more f fs) e = absurd (omega arith)
build-bytes not_l none e = absurd (omega arith)
build-bytes not_l (more f none) e = rw (append-nil (encode f))
build-bytes not_l (more f (more g fs)) e = absurd (omega arith)
build-bytes (list_l b n) fs e = rw e
build-bytes (quant_l b v) none e = absurd (omega arith)
build-bytes (quant_l b v) (more f none) e = rw (append-nil (encode f))
build-bytes (quant_l b v) (more f (more g fs)) e = absurd (omega arith)
build-bytes (window_l v lo hi) none e = sym (append-nil (record_bytes (window_l v lo hi)))
build-bytes (window_l v lo hi) (more f fs) e = absurd (omega arith)

build-fits : (d : ℕ) (l : Label) (fs : Formulas) → InRange l → AllFit d fs → count fs ≡ follow l → Fits (suc d) (build l fs)
build-fits d (atom_l c ns) fs r w e = (omega arith, r)
build-fits d not_l none r w e = absurd (omega arith)
build-fits d not_l (more f fs) r w e = (omega arith, rw (sub-one (suc d)) w.0)
build-fits d (list_l b n) fs r w e = (omega arith, omega arith, rw (sub-one (suc d)) w)
build-fits d (quant_l b v) none r w e = absurd (omega arith)
build-fits d (quant_l b v) (more f fs) r w e = (omega arith, r, rw (sub-one (suc d)) w.0)
build-fits d (window_l v lo hi) fs r w e = (omega arith, r)

module _ (d : ℕ) (rd : List ℕ → Read Formula) (right : (s : List ℕ) → Bytes s → Right d s (rd s)) where
  joined-right : (s : List ℕ) (n : ℕ) (f : Formula) (k : ℕ) (o : Read Formulas) → Right d s (good f k) → RightAll d n (drop k s) o → RightAll d (suc n) s (joined f k o)
  unfolding encode
  joined-right s n f k (good fs j) h w =
      (take-add k j s ∙ rw (h.0, w.0), (h.1, w.1), omega (arith, h.2, w.2, length-drop k s), ap suc w.3)
  joined-right s n f k (fault e p) h w = tt

  formulas_in-right : (n : ℕ) (s : List ℕ) → Bytes s → RightAll d n s (formulas_in rd n s)
  unfolding formulas_in encode
  formulas_in-right zero s ok = (refl, tt, omega arith, refl)
  formulas_in-right (suc n) s ok = go (rd s) (right s ok) (λ k. formulas_in-right n (drop k s) (bytes_drop s k ok))
    where
      go : (o : Read Formula) → Right d s o → ((k : ℕ) → RightAll d n (drop k s) (formulas_in rd n (drop k s))) → RightAll d (suc n) s (then o (λ k. formulas_in rd n (drop k s)))
      go (good f k) h rest = joined-right s n f k (formulas_in rd n (drop k s)) h (rest k)
      go (fault e p) h rest = tt

headed-right : (d : ℕ) (s : List ℕ) (l : Label) (o : Read Formulas) → Said s (opened l) → RightAll d (follow l) (drop (size l) s) o → Right (suc d) s (headed l o)
headed-right d s l (good fs k) h w = (
  take-add (size l) k s ∙ rw (h.0, w.0) (sym (build-bytes l fs w.3)),
  build-fits d l fs h.1 w.1 w.3,
  omega (arith, h.2, w.2, length-drop (size l) s),
)
headed-right d s l (fault e p) h w = tt

-- a formula that is read takes its own bytes, and fits
pub formula_in-right : (d : ℕ) (s : List ℕ) → Bytes s → Right d s (formula_in d s)
unfolding formula_in
formula_in-right zero s ok = go (head s)
  where
    go : (r : Record) → Right zero s (too_deep r)
    go (bad e) = tt
    go (opened l) = tt
formula_in-right (suc d) s ok = go (formula_in d) (formula_in-right d) (head s) (head-said s ok)
  where
    go : (rd : List ℕ → Read Formula) → ((t : List ℕ) → Bytes t → Right d t (rd t)) → (r : Record) → Said s r → Right (suc d) s (by_record rd s r)
    go rd right (bad e) h = tt
    go rd right (opened l) h = headed-right d s l (formulas_in rd (follow l) (drop (size l) s)) h (formulas_in-right d rd right (follow l) (drop (size l) s) (bytes_drop s (size l) ok))
