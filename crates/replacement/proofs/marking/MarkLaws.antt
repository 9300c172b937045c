-- The marks of a body, written record by record: where n bytes are left the mark of an atom stands at n / 40, above those of all that comes later. So what is
-- marked stays marked, and at each record what is left is a list of formulas, which gives the whole once it is marked. Assumes nothing.
use mathlib.Core.Path.{◌≡◌, refl, sym, ◌∙◌, ap, subst}
use mathlib.Core.Bool.{Bool, true, false}
use mathlib.Core.List.{List}
use Prim.Native.Nat.{ℕ, ◌+◌, ◌-◌, ◌/◌, ◌≤◌, ◌<◌}
use native.Mathlib.Omega.{arith}
use lib.ListN.{length, get_or, set}
use lib.Seq.{get_or-set_same, get_or-set_other}
use Rattle.reading.specs.Limits.{tree_levels}
use Rattle.reading.specs.Formula.{Formula, Formulas, atom, not, list, quant, window, none, more, label_of, size, encode, encodes, Fits}
use Rattle.reading.specs.Reading.{tree_of, Exactly}
use Rattle.reading.proofs.Scan.{◌and◌, rest_of}
use Rattle.reading.proofs.Lengths.{none-long, atom-long, not-long, list-long, window-long, more-long, quant-long}
use Rattle.reading.proofs.Trees.{begins}
use Rattle.replacement.specs.Marking.{Unchanged, Marked, AllMarked}
use Rattle.replacement.proofs.surveying.OverRecords.{Over, OverStep, over-begins, over-ends}

-- ---- places in the table

-- the tables agree above the place of k
abbrev Above : ℕ → List Bool → List Bool → Type 0
Above k ms us = (i : ℕ) → k / 40 < i → get_or us i false ≡ get_or ms i false

-- a mark put at k leaves what is above
above_more : (j k : ℕ) (m : Bool) (ms us : List Bool) → j ≤ k → Above j (set ms (k / 40) m) us → Above k ms us
above_more j k m ms us h a i l = a i (omega arith) ∙ get_or-set_other ms (k / 40) i m false (λ e. absurd (omega (arith, e)))

-- ---- formulas one after the other

marked-apart : (x : ℕ) (ms : List Bool) (k : ℕ) (fs gs : Formulas) → AllMarked x ms k (fs and gs) → AllMarked x ms k fs × AllMarked x ms (k - length (encodes fs)) gs
marked-apart x ms k none gs h = (tt, subst (λ (j : ℕ). AllMarked x ms j gs) (omega (arith, none-long)) h)
marked-apart x ms k (more f fs) gs h =
    let t = marked-apart x ms (k - length (encode f)) fs gs h.1 in
    ((h.0, t.0), subst (λ (j : ℕ). AllMarked x ms j gs) (omega (arith, more-long f fs)) t.1)

-- the record of f, where the mark m was put at k, and what is left after it give f and the rest
module _ (x k : ℕ) (m : Bool) (ms us : List Bool) (room : k / 40 < length ms) (gs : Formulas) where
  moved : {i j : ℕ} → i ≡ j → AllMarked x us i gs → AllMarked x us j gs
  moved e = subst (λ (j : ℕ). AllMarked x us j gs) e

  put-together : (f : Formula) → Fits tree_levels f → size (label_of f) ≤ k → (m ≡ true → Unchanged x f) → Above (k - size (label_of f)) (set ms (k / 40) m) us
      → AllMarked x us (k - size (label_of f)) (rest_of f gs) → AllMarked x us k (more f gs)
  put-together (atom c ns) w n u a h = (λ e. u (sym (a (k / 40) (omega arith) ∙ get_or-set_same ms (k / 40) m false room) ∙ e), moved (omega (arith, atom-long c ns w.1.0)) h)
  put-together (not f) w n u a h = (h.0, moved (omega (arith, not-long f)) h.1)
  put-together (list b fs) w n u a h = let t = marked-apart x us (k - 6) fs gs h in (t.0, moved (omega (arith, list-long b fs)) t.1)
  put-together (quant b v f) w n u a h = (tt, moved (omega (arith, quant-long b v f)) h.1)
  put-together (window v lo hi) w n u a h = (tt, moved (omega (arith, window-long v lo hi)) h)

-- ---- the way over the records: once those that are left are marked, the whole is

abbrev pub Left : List ℕ → ℕ → List Bool → ℕ → Formulas → Type 0
Left s x ms p fs = (us : List Bool) → Above (length s - p) ms us → AllMarked x us (length s - p) fs → Marked x us (length s) (tree_of s)

abbrev pub Marking : List ℕ → ℕ → List Bool → ℕ → Type 0
Marking s x ms p = Over s (length s) p (Left s x ms p)

pub mark-begins : {s : List ℕ} (x : ℕ) (ms : List Bool) → Exactly s (tree_of s) → Marking s x ms 0
mark-begins {s} x ms w = over-begins (begins w) (ap length w.bytes) (λ us a h. subst (λ (n : ℕ). Marked x us n (tree_of s)) (omega arith) h.0)

pub mark-next : {s : List ℕ} (x : ℕ) (ms : List Bool) {p : ℕ} (m : Bool) {f : Formula} → OverStep s (length s) p (Left s x ms p) f → (length s - p) / 40 < length ms → (m ≡ true → Unchanged x f)
    → Marking s x (set ms ((length s - p) / 40) m) (p + size (label_of f))
mark-next {s} x ms {p} m {f} t r u =
    let k = length s - p in
    let n = size (label_of f) in
    let e : length s - (p + n) ≡ k - n = omega arith in
    t.next (λ gs w us a h.
    let b : Above (k - n) (set ms (k / 40) m) us = subst (λ (j : ℕ). Above j (set ms (k / 40) m) us) e a in
    w us (above_more (k - n) k m ms us (omega arith) b)
    (put-together x k m ms us r gs f t.begins.fits (omega (arith, t.room)) u b (subst (λ (j : ℕ). AllMarked x us j (rest_of f gs)) e h)))

pub mark-ends : {s : List ℕ} (x : ℕ) (ms : List Bool) {p : ℕ} → Marking s x ms p → length s ≤ p → Marked x ms (length s) (tree_of s)
mark-ends x ms w h = over-ends w h ms (λ i l. refl) tt
