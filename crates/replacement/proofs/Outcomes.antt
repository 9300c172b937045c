-- What the crates above need: how a formula came out, by the answer, and what gathering found. Assumes nothing.
use mathlib.Core.Path.{◌≡◌, refl, sym, ◌∙◌, ap, subst}
use mathlib.Core.Bool.{Bool, true, false, cond, true≢false}
use mathlib.Core.List.{List, [], ◌++◌, append-nil}
use native.Mathlib.Nat.{add-zero}
use Prim.Native.Nat.{ℕ, ◌+◌, ◌≤◌, ◌<◌}
use native.Mathlib.Omega.{arith}
use Rattle.std.specs.Prelude.{Result, Ok, Err, IsErr, IsErrAnd}
use lib.Dec.{leb}
use lib.IntN.{ℤ}
use lib.ListN.{length, take}
use borrow.Author.Tests.{leb-true, leb-false}
use Rattle.reading.specs.Limits.{most_terms}
use Rattle.reading.specs.Formula.{Formula, atom, not, list, quant, window, none, more, encode, record_bytes, field_bytes}
use Rattle.rules.specs.Points.{gather, terms}
use Rattle.writing.specs.Writing.{list_bytes}
use Rattle.replacement.specs.Listing.{Come, truth, kept, big, come_of, bytes_of, Wrote}
use Rattle.replacement.specs.Gathering.{Table, Collected}
use Rattle.replacement.specs.Replacing.{formula_for}
use Rattle.replacement.specs.declared.Copied.{Copied}
use Rattle.replacement.specs.declared.Came.TheVariants.{Decided, Kept}
use Rattle.replacement.specs.declared.TooBig.{TooBig}
use Rattle.replacement.specs.declared.TooMany.{TooMany}

-- ---- an answer and a refusal

pub ok-is : {A E : Type 0} {a b : A} → ◌≡◌ {A = Result A E} (Ok a) (Ok b) → a ≡ b
ok-is e = cc

pub not-ok : {A E : Type 0} {a : A} {b : E} → ◌≡◌ {A = Result A E} (Ok a) (Err b) → ⊥
not-ok e = let z : ◌≡◌ {A = ℕ} 0 1 = cc in omega arith

-- a refusal that is handed on is the same
pub err-same : {A E : Type 0} (r : Result A E) {e : E} → IsErr r × IsErrAnd r (λ (y : E). y ≡ e) → r ≡ Err e
err-same (Ok a) h = absurd (true≢false (sym h.0))
err-same (Err y) h = ap Err h.1

-- there is one refusal of each of these
pub big-refused : {A : Type 0} (r : Result A TooBig) → IsErr r → r ≡ Err (record {})
big-refused (Ok a) h = absurd (true≢false (sym h))
big-refused (Err e) h = refl

pub many-refused : {A : Type 0} (r : Result A TooMany) → IsErr r → r ≡ Err (record {})
many-refused (Ok a) h = absurd (true≢false (sym h))
many-refused (Err e) h = refl

-- ---- how a formula came out

-- a formula to which the list rule has been applied, there and back
pub come-back : (g : Formula) → formula_for (come_of g) ≡ g
come-back (atom c ns) = refl
come-back (not f) = refl
come-back (list b none) = refl
come-back (list b (more f fs)) = refl
come-back (quant b v f) = refl
come-back (window v lo hi) = refl

pub sure-bytes : (v : Bool) → list_bytes v 0 ≡ encode (list v none)
unfolding list_bytes encode record_bytes field_bytes
sure-bytes true = refl
sure-bytes false = refl

pub big-is : (c : Come) (used to : ℕ) (o₀ o : List ℕ) (e : TooBig) → Wrote c used to o₀ o (Err e) → c ≡ big
big-is (truth v) used to o₀ o e w = absurd (not-ok (sym w.answer))
big-is (kept g) used to o₀ o e w = absurd (not-ok (sym w.answer))
big-is big used to o₀ o e w = refl

-- of one that is too big nothing is written
pub big-front : {c : Come} {used to : ℕ} {o₀ o : List ℕ} {e : TooBig} → Wrote c used to o₀ o (Err e) → take to o ≡ take to o₀
big-front {c} {used} {to} {o₀} {o} {e} w =
    let b : take (to + 0) o ≡ take to o₀ ++ [] = subst (λ (y : Come). take (to + length (bytes_of y)) o ≡ take to o₀ ++ bytes_of y) (big-is c used to o₀ o e w) w.bytes in
    ap (λ (n : ℕ). take n o) (sym (add-zero to)) ∙ b ∙ append-nil (take to o₀)

-- what is said of how a formula came out, by the answer: it is the true or the false record, or its bytes stand at the start
pub decided-is : (c : Come) {used to : ℕ} {o₀ o : List ℕ} {r : Copied} (v : Bool) → Wrote c used to o₀ o (Ok r) → r.came ≡ Decided v → formula_for c ≡ list v none
decided-is (truth b) v w e =
    let a = ok-is w.answer in
    let k : b ≡ v = cc in
    ap (λ (y : Bool). list y none) k
decided-is (kept g) v w e = let a = ok-is w.answer in let z : ◌≡◌ {A = ℕ} 0 1 = cc in absurd (omega arith)
decided-is big v w e = absurd (not-ok w.answer)

pub kept-is : (c : Come) {used : ℕ} {o₀ o : List ℕ} {r : Copied} (e : ℕ) → Wrote c used 0 o₀ o (Ok r) → r.came ≡ Kept e → (e ≡ length (encode (formula_for c))) × (take e o ≡ encode (formula_for c))
kept-is (truth b) e w h = let a = ok-is w.answer in let z : ◌≡◌ {A = ℕ} 0 1 = cc in absurd (omega arith)
kept-is (kept g) {o = o} e w h =
    let a = ok-is w.answer in
    let k : e ≡ 0 + length (encode g) = cc in
    (omega arith, ap (λ (n : ℕ). take n o) k ∙ w.bytes)
kept-is big e w h = absurd (not-ok w.answer)

-- ---- what gathering found

module _ {A : Type 0} {a : A} {us ts : List (List ℤ)} where
  pub fine-is : {b : A} → Collected a us ts (Ok b) → (length us ≤ most_terms) × (b ≡ a)
  fine-is {b} c = go (leb (length us) most_terms) refl c.answer
    where
      go : (y : Bool) → leb (length us) most_terms ≡ y → ◌≡◌ {A = Result A TooMany} (Ok b) (cond y (Ok a) (Err (record {}))) → (length us ≤ most_terms) × (b ≡ a)
      go true h e = (leb-true (length us) most_terms h, ok-is e)
      go false h e = absurd (not-ok e)

  pub full-is : {e : TooMany} → Collected a us ts (Err e) → most_terms < length us
  full-is {e} c = go (leb (length us) most_terms) refl c.answer
    where
      go : (y : Bool) → leb (length us) most_terms ≡ y → ◌≡◌ {A = Result A TooMany} (Err e) (cond y (Ok a) (Err (record {}))) → most_terms < length us
      go true h k = absurd (not-ok (sym k))
      go false h k = leb-false (length us) most_terms h

  -- the terms are all there
  pub fine-table : {b : A} → Collected a us ts (Ok b) → Table ts × (ts ≡ us)
  fine-table c = let e = c.terms (fine-is c).0 in (record { few = omega (arith, ap length e, (fine-is c).0); rows = c.rows }, e)

pub terms-are : (x : ℕ) (f : Formula) → gather x f [] ≡ terms x f
unfolding terms
terms-are x f = refl
