-- What the construction of demand 2 means: a formula's meaning is `Means` of the definitions, at any fractions for its variables, SOME and EVERY ranging
-- over all fractions. Each step keeps it, the finishing pass keeps it, so the whole construction does. The test at fractions says what the sheet means
-- there, equal fractions give the same truth, and the truth of every sheet is decided. `Named f` says that quantifiers and WINDOWs name variables 0
-- to 7, as each accepted sheet does. Assumes nothing.
use mathlib.Core.Path.{◌≡◌, refl, sym}
use mathlib.Core.Logic.{◌↔◌}
use mathlib.Core.Bool.{Bool, true, false, cond}
use mathlib.Core.List.{List}
use Prim.Native.Nat.{ℕ}
use native.Mathlib.Omega.{arith}
use lib.Dec.{T}
use lib.IntN.{ℤ, pos}
use lib.Signed.{◌<ℤ◌}
use Rattle.reading.specs.Formula.{Formula, Free}
use Rattle.exact.specs.Numbers.{at}
use Rattle.rules.specs.Eliminate.{result_of}
use Rattle.rules.specs.Test.{true_at}
use Rattle.meaning.specs.Meaning.{Values, fractions, Equal, Means}
use Rattle.exact.proofs.Order.{sgn-above}
use Rattle.meaning.proofs.Truth.{Named, flat_free, flat-named, truth, truth-decides, iff-sym, iff-trans, T-same}
use Rattle.meaning.proofs.Keeps.Steps.{Kept, result-flat, result-kept}
use Rattle.meaning.proofs.Values.{Represents, means-holds, common, common-represents, equal-represents, true_at-truth}

-- what is kept at vectors is kept at fractions
kept-means : (g f : Formula) → Named g → Named f → Kept g f → (ρ : Values) → Means g ρ ↔ Means f ρ
kept-means g f m n k ρ =
    let r = common-represents ρ in
    iff-trans (means-holds g ρ (common ρ) m r) (iff-trans (k (common ρ) r.base) (iff-sym (means-holds f ρ (common ρ) n r)))

-- ---- the construction

-- all steps and the finishing pass; the run that may refuse takes the same steps
pub result-free : (f : Formula) → Free (result_of f)
result-free f = flat_free (result_of f) (result-flat f)

pub result-means : (f : Formula) → Named f → (ρ : Values) → Means (result_of f) ρ ↔ Means f ρ
result-means f n = kept-means (result_of f) f (flat-named (result_of f) (result-flat f)) n (result-kept f n)

-- ---- equal fractions, and decided truth

pub equal-fractions : (f : Formula) → Named f → (ρ σ : Values) → Equal ρ σ → Means f ρ ↔ Means f σ
equal-fractions f n ρ σ e =
    let r = common-represents ρ in
    iff-trans (means-holds f ρ (common ρ) n r) (iff-sym (means-holds f σ (common ρ) n (equal-represents ρ σ (common ρ) e r)))

pub decided-truth : (f : Formula) → Named f → (ρ : Values) → Dec (Means f ρ)
decided-truth f n ρ = go (truth (result_of f) (common ρ)) refl
  where
    iff : Means f ρ ↔ T (truth (result_of f) (common ρ))
    iff = iff-trans (iff-sym (result-means f n ρ))
        (iff-trans (means-holds (result_of f) ρ (common ρ) (flat-named (result_of f) (result-flat f)) (common-represents ρ)) (truth-decides (result_of f) (common ρ) (result-free f)))

    go : (b : Bool) → truth (result_of f) (common ρ) ≡ b → Dec (Means f ρ)
    go true e = yes (iff.1 (rw e tt))
    go false e = no (λ m. rw e at (iff.0 m))

-- ---- the test

fractions-represents : (w : List ℤ) (h : pos 0 <ℤ at w 8) → Represents (fractions w h) (at w)
fractions-represents w h = record { base = sgn-above (at w 8) h; same = λ v k. refl }

pub test-means : (f : Formula) → Named f → Free f → (w : List ℤ) (h : pos 0 <ℤ at w 8) → Means f (fractions w h) ↔ T (true_at w f)
test-means f n q w h = iff-trans (means-holds f (fractions w h) (at w) n (fractions-represents w h)) (iff-trans (truth-decides f (at w) q) (T-same (sym (true_at-truth w f))))

-- a verdict that is 1 or 0 by a test that says whether P holds
pub verdict-says : (P : Type 0) (b : Bool) (v : ℕ) → v ≡ cond b 1 0 → P ↔ T b → ((v ≡ 1) ↔ P) × ((v ≡ 0) ↔ (¬ P))
verdict-says P true v e h = ((λ _. h.1 tt, λ _. e), (λ z. absurd (omega arith), λ n. absurd (n (h.1 tt))))
verdict-says P false v e h = ((λ z. absurd (omega arith), λ p. absurd (h.0 p)), (λ _ p. h.0 p, λ _. e))
