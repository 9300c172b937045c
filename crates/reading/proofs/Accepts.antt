-- 01, 'A sheet on disk': which sheets are accepted. They are just those that are the bytes of a formula that fits, one formula and nothing
-- after it; `encode_one` of Trees says that it is the only one. Assumes nothing.
use mathlib.Core.Path.{◌≡◌, refl, sym, ◌∙◌}
use mathlib.Core.List.{List, [], append-nil}
use Prim.Native.Nat.{ℕ, ◌≤◌}
use native.Mathlib.Nat.{le_refl}
use native.Mathlib.Omega.{arith}
use lib.ListN.{length}
use lib.Seq.{take_all}
use lib.Dec.{ltb}
use borrow.Author.Tests.{le-ltb, ltb-false}
use mathlib.Core.Bool.{Bool, true, false, cond}
use Rattle.reading.specs.Bytes.{Bytes}
use Rattle.reading.specs.AnswerNumbers.{long_sheet, bytes_after}
use Rattle.reading.specs.Formula.{Formula, encode, Fits}
use Rattle.reading.specs.Reading.{Read, formula_in, good, fault}
use Rattle.reading.specs.Answers.{whole_of, reading}
use Rattle.reading.specs.Answers.{Done, Refused}
use Rattle.reading.proofs.Laws.{reads}
use Rattle.reading.proofs.Sound.{Right, formula_in-right}

-- an accepted sheet is the bytes of a formula that fits, and no longer than the limit
pub accepted : (limit d : ℕ) (s : List ℕ) (k : ℕ) → Bytes s → reading limit d s ≡ Done k → (f : Formula) × Fits d f × (s ≡ encode f) × (length s ≤ limit)
unfolding reading
accepted limit d s k ok h = first (ltb limit (length s)) refl h
  where
    clash : (e p : ℕ) → Refused e p ≡ Done k → ⊥
    clash e p h = let z : ◌≡◌ {A = ℕ} 0 1 = cc in omega arith

    last : (f : Formula) (j : ℕ) (b : Bool) → ltb j (length s) ≡ b → Right d s (good f j) → cond b (Refused bytes_after j) (Done j) ≡ Done k → (f : Formula) × Fits d f × (s ≡ encode f)
    last f j true e r h = absurd (clash bytes_after j h)
    last f j false e r h = (f, r.1, sym (take_all j s (ltb-false j (length s) e)) ∙ r.0)

    whole : (o : Read Formula) → Right d s o → whole_of (length s) o ≡ Done k → (f : Formula) × Fits d f × (s ≡ encode f)
    whole (good f j) r h = last f j (ltb j (length s)) refl r h
    whole (fault e p) r h = absurd (clash e p h)

    first : (b : Bool) → ltb limit (length s) ≡ b → cond b (Refused long_sheet 0) (whole_of (length s) (formula_in d s)) ≡ Done k → (f : Formula) × Fits d f × (s ≡ encode f) × (length s ≤ limit)
    first true e h = absurd (clash long_sheet 0 h)
    first false e h = let w = whole (formula_in d s) (formula_in-right d s ok) h in (w.0, w.1, w.2, ltb-false limit (length s) e)

-- and each such sheet is accepted
pub accepts : (limit d : ℕ) (f : Formula) → Fits d f → length (encode f) ≤ limit → reading limit d (encode f) ≡ Done (length (encode f))
unfolding reading
accepts limit d f w h =
    let e : formula_in d (encode f) ≡ good f (length (encode f)) = rw (append-nil (encode f)) at (reads f d [] w) in
    simp (le-ltb limit (length (encode f)) h, e, le-ltb (length (encode f)) (length (encode f)) (le_refl (length (encode f))))
