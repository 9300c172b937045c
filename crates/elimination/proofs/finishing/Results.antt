-- 01, 'Finishing pass': what the copy at no point leaves at the start of the buffer is the result. Assumes nothing.
use Prim.Native.Nat.{ℕ, ◌≤◌, ◌<◌}
use mathlib.Core.Path.{◌≡◌, refl, sym, ◌∙◌, ap, subst}
use mathlib.Core.Bool.{Bool, true, false, cond}
use mathlib.Core.List.{List, ◌++◌}
use native.Mathlib.Nat.{zero-add}
use native.Mathlib.Omega.{arith}
use lib.ListN.{length, take, drop}
use lib.Seq.{take_at}
use Rattle.std.proofs.lemmas.Slice.{drop-append-drop}
use Rattle.reading.specs.Limits.{result_bytes}
use Rattle.reading.specs.Formula.{Formula, list, none, encode}
use Rattle.exact.specs.Atoms.{Spot, nowhere}
use Rattle.rules.specs.Pushing.{push}
use Rattle.rules.specs.Lists.{Known, decided, unknown, known}
use Rattle.rules.specs.Copies.{copy, fits}
use Rattle.rules.specs.Eliminate.{finished}
use Rattle.writing.specs.Writing.{lay, list_bytes}
use Rattle.replacement.specs.Listing.{Come, big, come_by, come_of, Wrote}
use Rattle.replacement.specs.Copying.{came}
use Rattle.elimination.specs.Finishing.{FinishesIn}
use Rattle.replacement.specs.declared.Copied.{Copied}
use Rattle.replacement.specs.declared.Came.TheVariants.{Decided, Kept}
use Rattle.replacement.specs.declared.TooBig.{TooBig}
use Rattle.std.specs.Prelude.{Result, Ok, Err}
use Rattle.replacement.proofs.Outcomes.{come-back, sure-bytes, decided-is, kept-is}
use Rattle.replacement.proofs.Outcomes.{big-is}
use Rattle.writing.proofs.Lay.{lay-take, lay-drop}

-- ---- bytes at the start of a buffer

pub laid : (b d : List ℕ) → length b ≤ length d → take (length b) (lay 0 b d) ≡ b
laid b d h = sym (ap (λ (n : ℕ). take n (lay 0 b d)) (zero-add (length b))) ∙ lay-take 0 b d (omega arith)

pub past : (b d : List ℕ) (n : ℕ) → length b ≤ n → drop n (lay 0 b d) ≡ drop n d
past b d n h = lay-drop 0 b d n (omega arith)

-- ---- what comes out is the result, or true or false

came-finished : (q : Spot) (f : Formula) → q ≡ nowhere → fits nowhere (push false f) ≡ true → came q (push false f) ≡ come_of (finished f)
unfolding came finished
came-finished q f e h = ap (λ (s : Spot). came s (push false f)) e ∙ ap (λ (b : Bool). cond b (come_of (copy nowhere (push false f))) big) h

pub finish-wrote : (f : Formula) (q : Spot) {used : ℕ} {o₀ o : List ℕ} {r : Result Copied TooBig} → q ≡ nowhere → fits nowhere (push false f) ≡ true → Wrote (came q (push false f)) used 0 o₀ o r
    → Wrote (come_of (finished f)) used 0 o₀ o r
finish-wrote f q {used} {o₀} {o} {r} e h w = subst (λ (c : Come). Wrote c used 0 o₀ o r) (came-finished q f e h) w

come-small : (k : Known) (g : Formula) → come_by k g ≡ big → ⊥
come-small (decided v) g e = let z : ◌≡◌ {A = ℕ} 0 1 = cc in omega arith
come-small unknown g e = let z : ◌≡◌ {A = ℕ} 0 1 = cc in omega arith

module _ (f : Formula) {used : ℕ} {o₀ o : List ℕ} {r : Copied} (w : Wrote (come_of (finished f)) used 0 o₀ o (Ok r)) where
  -- where it is kept
  stands : (m : ℕ) → r.came ≡ Kept m → (m ≡ length (encode (finished f))) × (take m o ≡ encode (finished f))
  stands m h = subst (λ (g : Formula). (m ≡ length (encode g)) × (take m o ≡ encode g)) (come-back (finished f)) (kept-is (come_of (finished f)) m w h)

  -- the true or the false record was put
  pub finish-sure : (v : Bool) (cur cur' : List ℕ) → result_bytes ≤ length cur → r.came ≡ Decided v → cur' ≡ lay 0 (list_bytes v 0) cur → FinishesIn f cur cur' 6
  unfolding list_bytes
  finish-sure v cur cur' long h k =
      let g : finished f ≡ list v none = sym (come-back (finished f)) ∙ decided-is (come_of (finished f)) v w h in
      let b : encode (finished f) ≡ list_bytes v 0 = ap encode g ∙ sym (sure-bytes v) in
      record {
        answer = sym (ap length b);
        bytes = λ m. rw b (ap (take 6) k ∙ laid (list_bytes v 0) cur (omega arith));
        rest = ap (drop result_bytes) k ∙ past (list_bytes v 0) cur result_bytes (omega arith);
      }

  -- the result is longer than the limit
  pub finish-long : (m : ℕ) (cur : List ℕ) → r.came ≡ Kept m → result_bytes < m → FinishesIn f cur cur m
  finish-long m cur h lt =
      let a = stands m h in
      record { answer = a.0; bytes = λ le. absurd (omega (arith, a.0)); rest = refl }

  -- the result was put
  pub finish-put : (m : ℕ) (cur b : List ℕ) → r.came ≡ Kept m → m ≤ result_bytes → b ≡ take m o → FinishesIn f cur (b ++ drop m cur) m
  finish-put m cur b h le k =
      let a = stands m h in
      let y : b ≡ encode (finished f) = k ∙ a.1 in
      record {
        answer = a.0;
        bytes = λ i. take_at b (drop m cur) (length (encode (finished f))) (ap length y) ∙ y;
        rest = drop-append-drop m cur b result_bytes le (ap length y ∙ sym a.0);
      }

-- a number is never too big
pub finish-never : (f : Formula) {used : ℕ} {o₀ o : List ℕ} {e : TooBig} → Wrote (come_of (finished f)) used 0 o₀ o (Err e) → ⊥
finish-never f {used} {o₀} {o} {e} w = come-small (known (finished f)) (finished f) (big-is (come_of (finished f)) used 0 o₀ o e w)
