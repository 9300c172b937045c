-- The result of a closed formula is the true or the false record, so its verdict is never 2; it is 1 exactly when the formula is true, and 0 exactly
-- when it is false. Assumes nothing.
use Prim.Native.Nat.{ℕ, zero, suc, ◌≤◌, ◌<◌}
use mathlib.Core.Path.{◌≡◌, refl, sym, ◌∙◌, ap, ap₂, subst}
use mathlib.Core.Logic.{◌⊎◌, inl, inr, ◌↔◌}
use mathlib.Core.Bool as Bool
use mathlib.Core.Bool.{Bool, true, false, ◌&&◌, cond}
use mathlib.Core.List.{List, [], ◌∷◌}
use native.Mathlib.Omega.{arith}
use lib.Dec.{T}
use lib.IntN.{ℤ}
use lib.ListN.{take}
use Rattle.reading.specs.Limits.{variables, last_variable}
use Rattle.reading.specs.Formula.{Comparison, Formula, Formulas, atom, not, list, quant, window, none, more, Free}
use Rattle.exact.specs.Numbers.{at, is_zero}
use Rattle.exact.specs.Atoms.{Came, holds, all_zero, settled, nowhere, atom_at}
use Rattle.exact.proofs.Atoms.{settled-sure}
use Rattle.rules.specs.Pushing.{push}
use Rattle.rules.specs.Lists.{Known, known, sure_record, decided_by, keep, stay, closed, listed}
use Rattle.rules.specs.Copies.{atom_by, copy, copy_all}
use Rattle.rules.specs.Steps.{quantifiers, steps}
use Rattle.rules.specs.Eliminate.{verdict_by, finished, result_of}
use Rattle.meaning.specs.Meaning.{Values, Means}
use Rattle.rules.specs.Variables.{FreeIn, Closed}
use Rattle.meaning.proofs.Truth.{EachRow, EachRowIn, Named, iff-sym, iff-trans}
use Rattle.rules.proofs.Stepwise.Run.{steps-free}
use Rattle.meaning.proofs.Construction.{result-means, verdict-says}
use Rattle.meaning.proofs.FreeVariables.{Without, Or, Absent, absent-or-free, push-rows, steps-absent}

-- a formula is the true or the false record
abbrev pub Sure : Formula → Type 0
Sure f = (b : Bool) × (f ≡ sure_record b)

abbrev AllSure : Formulas → Type 0
AllSure none = Unit {0}
AllSure (more f fs) = Sure f × AllSure fs

-- ---- atoms

all-zero : (n : ℕ) (ns : List ℤ) → ((v : ℕ) → v < n → Without v ns) → all_zero (take n ns) ≡ true
unfolding all_zero
all-zero zero ns h = refl
all-zero (suc n) [] h = refl
all-zero (suc n) (z ∷ ns) h = ap₂ ◌&&◌ (ap is_zero (h 0 (omega arith))) (all-zero n ns (λ v k. h (suc v) (omega arith)))

atom-sure : (c : Comparison) (ns : List ℤ) → ((v : ℕ) → v ≤ last_variable → Without v ns) → Sure (atom_by (settled c ns) c)
atom-sure c ns h = (holds c (at ns 8), ap (λ (r : Came). atom_by r c) (settled-sure c ns (all-zero variables ns (λ v k. h v (omega arith)))))

-- ---- lists

stay_none : (fs : Formulas) → AllSure fs → stay fs ≡ none
stay_none none h = refl
stay_none (more f fs) h = ap (λ (k : Known). keep k f (stay fs)) (ap known h.0.1) ∙ stay_none fs h.1

listed-sure : (all : Bool) (fs : Formulas) → AllSure fs → Sure (listed all fs)
unfolding listed
listed-sure all fs h = go (decided_by all fs) (stay fs) (stay_none fs h)
  where
    go : (b : Bool) (left : Formulas) → left ≡ none → Sure (cond b (sure_record (Bool.not all)) (closed all left))
    go true left e = (Bool.not all, refl)
    go false left e = (all, ap (closed all) e)

-- ---- the finishing pass over atoms and lists without variables

or-not : (A : Type 0) → ⊥ ⊎ A → A
or-not A (inl e) = absurd e
or-not A (inr a) = a

mutual
  unfolding copy atom_at

  copy-sure : (f : Formula) → ((v : ℕ) → v ≤ last_variable → EachRow (Or ⊥ v) f) → Sure (copy nowhere f)
  copy-sure (atom c ns) h = atom-sure c ns (λ v l. or-not (Without v ns) (h v l))
  copy-sure (not f) h = absurd (h 0 (omega arith))
  copy-sure (list b fs) h = listed-sure b (copy_all nowhere fs) (copy-all-sure fs h)
  copy-sure (quant b u f) h = absurd (h 0 (omega arith))
  copy-sure (window u lo hi) h = absurd (h 0 (omega arith))

  copy-all-sure : (fs : Formulas) → ((v : ℕ) → v ≤ last_variable → EachRowIn (Or ⊥ v) fs) → AllSure (copy_all nowhere fs)
  copy-all-sure none h = tt
  copy-all-sure (more f fs) h = (copy-sure f (λ v l. (h v l).0), copy-all-sure fs (λ v l. (h v l).1))

finished-sure : (f : Formula) → Free f → ((v : ℕ) → v ≤ last_variable → Absent v f) → Sure (finished f)
unfolding finished
finished-sure f q h = copy-sure (push false f) (λ v l. push-rows ⊥ v l false f q (inr (h v l)))

-- ---- a closed sheet

closed-absent : (f : Formula) → Closed f → (v : ℕ) → v ≤ last_variable → Absent v f
closed-absent f h v l = go (absent-or-free v f)
  where
    go : Absent v f ⊎ FreeIn v f → Absent v f
    go (inl a) = a
    go (inr k) = absurd (h v l k)

closed-sure : (f : Formula) → Closed f → Sure (result_of f)
unfolding result_of
closed-sure f h = finished-sure (steps (quantifiers f) f) (steps-free (quantifiers f) f refl) (λ v l. steps-absent (quantifiers f) v f l (closed-absent f h v l))

-- the true record's verdict is 1, the false record's 0
sure-verdict : (b : Bool) → verdict_by (known (sure_record b)) ≡ cond b 1 0
sure-verdict true = refl
sure-verdict false = refl

-- the record that a closed formula comes to, as a verdict: 1 exactly when the formula is true, 0 exactly when it is false
pub closed-says : (f : Formula) → Named f → Closed f → (ρ : Values) → ((verdict_by (known (result_of f)) ≡ 1) ↔ Means f ρ) × ((verdict_by (known (result_of f)) ≡ 0) ↔ (¬ Means f ρ))
closed-says f n shut ρ = go (closed-sure f shut).0 (closed-sure f shut).1
  where
    sure-means : (b : Bool) → Means (sure_record b) ρ ↔ T b
    sure-means true = (λ _. tt, λ _. tt)
    sure-means false = (λ m. m, λ m. m)

    go : (b : Bool) → result_of f ≡ sure_record b → ((verdict_by (known (result_of f)) ≡ 1) ↔ Means f ρ) × ((verdict_by (known (result_of f)) ≡ 0) ↔ (¬ Means f ρ))
    go b i = verdict-says (Means f ρ) b (verdict_by (known (result_of f))) (ap (λ (g : Formula). verdict_by (known g)) i ∙ sure-verdict b)
        (iff-trans (iff-sym (result-means f n ρ)) (subst (λ (g : Formula). Means g ρ ↔ T b) (sym i) (sure-means b)))
