-- A list while it is written, and the tally of its members. Assumes nothing.
use mathlib.Core.Path.{◌≡◌, refl, sym, ◌∙◌, ap, ap₂, subst}
use mathlib.Core.Bool.{Bool, false}
use mathlib.Core.List.{List}
use Prim.Native.Nat.{ℕ, ◌+◌, ◌≤◌}
use native.Mathlib.Omega.{arith}
use Rattle.std.specs.Prelude.{Ok, Err}
use lib.ListN.{length, take}
use lib.IntN.{ℤ}
use Rattle.reading.specs.Formula.{Comparison, Formulas, atom, none, count}
use Rattle.exact.specs.Atoms.{Spot}
use Rattle.replacement.specs.Copying.{came}
use Rattle.replacement.proofs.copying.Sizes.{atom-size}
use Rattle.replacement.specs.Listing.{Come, Tally, over, going, add, close, bytes_of, Wrote, opened_of, taken_of, At, Closes}
use Rattle.replacement.specs.declared.Copied.{Copied}
use Rattle.replacement.specs.declared.TooBig.{TooBig}
use Rattle.replacement.specs.declared.Open.{Open}
use Rattle.writing.proofs.Lay.{keeps}
use Rattle.replacement.proofs.Outcomes.{big-is}
use Rattle.replacement.proofs.listing.Members.{at-opened, at-taken}

-- the list l, written over o₀ from `to` on, has the tally t: at most n members and z bytes
pub record Progress (all : Bool) (t : Tally) (n z : ℕ) (l : Open) (to : ℕ) (o₀ o : List ℕ) : Type 0 where
  pub members : Formulas
  pub is : t ≡ going l.fixed members
  pub written : At l members to o₀ o
  pub same : l.all ≡ all
  pub few : count members ≤ n
  pub end : l.end ≤ to + 6 + z

pub progress-open : (all : Bool) (to : ℕ) (o : List ℕ) {l : Open} → l ≡ opened_of all to → to + 6 ≤ length o → Progress all (going false none) 0 0 l to o o
progress-open all to o {l} e h =
    subst (λ (y : Open). Progress all (going false none) 0 0 y to o o) (sym e) (record { members = none; is = refl; written = at-opened all to o h; same = refl; few = omega arith; end = omega arith })

module _ {all : Bool} {t : Tally} {n z : ℕ} {l : Open} {to : ℕ} {o₀ o : List ℕ} (h : Progress all t n z l to o₀ o) where
  added : (c : Come) → add all t c ≡ add l.all (going l.fixed h.members) c
  added c = ap₂ (λ (b : Bool) (y : Tally). add b y c) (sym h.same) h.is

  pub progress-next : (k : ℕ) (c : Come) (used : ℕ) (o' : List ℕ) (r : Copied) {m : Open} → Wrote c used l.end o o' (Ok r) → length o' ≡ length o → length (bytes_of c) ≤ k → to + 6 + z + k ≤ length o
      → m ≡ taken_of l r.came → Progress all (add all t c) (n + 1) (z + k) m to o₀ o'
  progress-next k c used o' r w s x y e =
      let a = at-taken l h.members to o₀ o o' c used r h.written s (omega (arith, h.end)) w in
      subst (λ (m : Open). Progress all (add all t c) (n + 1) (z + k) m to o₀ o') (sym e)
      (record { members = a.members; is = added c ∙ a.is; written = a.written; same = a.same ∙ h.same; few = omega (arith, a.few, h.few); end = omega (arith, a.end, h.end) })

  -- an atom at a spot has at most 40 bytes
  pub progress-atom : (q : Spot) (k : Comparison) (ns : List ℤ) → length ns ≡ 9 → (used : ℕ) (o' : List ℕ) (r : Copied) {m : Open} → Wrote (came q (atom k ns)) used l.end o o' (Ok r) → length o' ≡ length o → to + 46 + z ≤ length o
      → m ≡ taken_of l r.came → Progress all (add all t (came q (atom k ns))) (n + 1) (z + 40) m to o₀ o'
  progress-atom q k ns nn used o' r w s h e = progress-next 40 (came q (atom k ns)) used o' r w s (atom-size q k ns nn) (omega (arith, h)) e

  pub progress-big : (c : Come) (used : ℕ) (o' : List ℕ) (x : TooBig) → Wrote c used l.end o o' (Err x) → (add all t c ≡ over) × (take to o' ≡ take to o₀)
  progress-big c used o' x w =
      let a = h.written in
      let e = big-is c used l.end o o' x w in
      (added c ∙ ap (add l.all (going l.fixed h.members)) e, keeps l.end (bytes_of c) o o' to w.bytes (omega (arith, a.until)) a.room ∙ a.front)

  pub progress-end : (used : ℕ) (o' : List ℕ) (r : Copied) → Closes l used o o' r → Wrote (close all t) used to o₀ o' (Ok r)
  progress-end used o' r f = subst (λ (c : Come). Wrote c used to o₀ o' (Ok r)) (sym (ap₂ close (sym h.same) h.is)) (f h.members to o₀ h.written)
