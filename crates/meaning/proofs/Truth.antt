-- Truth at a vector of whole numbers: eight numerators and their common denominator at 8, which is above 0. `Holds` is the meaning there; a
-- quantified variable takes all fractions m / e by putting m for it and multiplying the others by e. Without quantifiers truth is the test
-- `truth`, so what follows speaks of equations of Bools. Assumes nothing.
use mathlib.Core.Path.{◌≡◌, sym, subst}
use mathlib.Core.Logic.{inl, inr, ◌↔◌}
use mathlib.Core.Bool as Bool
use mathlib.Core.Bool.{Bool, true, false}
use mathlib.Core.List.{List}
use Prim.Native.Nat.{ℕ, ◌-◌, ◌≤◌, ◌<◌}
use native.Mathlib.Omega.{arith}
use lib.Dec.{T}
use lib.IntN.{ℤ}
use Rattle.reading.specs.Formula.{Comparison, atmost, Formula, Formulas, atom, not, list, quant, window, none, more, Free, AllFree, Fits, AllFit}
use Rattle.exact.specs.Numbers.{at}
use Rattle.rules.specs.Test.{join}
use Rattle.meaning.specs.Meaning.{Fraction, Both, OfNone, Over}
use Rattle.exact.proofs.Ring.{◌⊗◌, ◌⊝◌}
use Rattle.exact.proofs.Order.{sgn, test}
use Rattle.meaning.proofs.Sums.{dot, upd}

-- ---- which formulas

-- each quantifier and each WINDOW names one of the eight variables
abbrev mutual
  pub Named : Formula → Type 0
  Named (atom c ns) = Unit {0}
  Named (not f) = Named f
  Named (list b fs) = AllNamed fs
  Named (quant b v f) = (v < 8) × Named f
  Named (window v lo hi) = v < 8

  pub AllNamed : Formulas → Type 0
  AllNamed none = Unit {0}
  AllNamed (more f fs) = Named f × AllNamed fs

-- atoms and lists only, and each atom's row has the property; Flat: no more than that
abbrev mutual
  pub EachRow : (List ℤ → Type 0) → Formula → Type 0
  EachRow P (atom c ns) = P ns
  EachRow P (not f) = ⊥
  EachRow P (list b fs) = EachRowIn P fs
  EachRow P (quant b v f) = ⊥
  EachRow P (window v lo hi) = ⊥

  pub EachRowIn : (List ℤ → Type 0) → Formulas → Type 0
  EachRowIn P none = Unit {0}
  EachRowIn P (more f fs) = EachRow P f × EachRowIn P fs

abbrev pub Flat : Formula → Type 0
Flat f = EachRow (λ (ns : List ℤ). Unit {0}) f

abbrev pub AllFlat : Formulas → Type 0
AllFlat fs = EachRowIn (λ (ns : List ℤ). Unit {0}) fs

mutual
  pub rows_more : (P Q : List ℤ → Type 0) → ((ns : List ℤ) → P ns → Q ns) → (f : Formula) → EachRow P f → EachRow Q f
  rows_more P Q h (atom c ns) r = h ns r
  rows_more P Q h (not f) r = absurd r
  rows_more P Q h (list b fs) r = all-rows-more P Q h fs r
  rows_more P Q h (quant b v f) r = absurd r
  rows_more P Q h (window v lo hi) r = absurd r

  all-rows-more : (P Q : List ℤ → Type 0) → ((ns : List ℤ) → P ns → Q ns) → (fs : Formulas) → EachRowIn P fs → EachRowIn Q fs
  all-rows-more P Q h none r = tt
  all-rows-more P Q h (more f fs) r = (rows_more P Q h f r.0, all-rows-more P Q h fs r.1)

below : (v : ℕ) → v ≤ 7 → v < 8
below v h = omega arith

mutual
  pub fits-named : (d : ℕ) (f : Formula) → Fits d f → Named f
  fits-named d (atom c ns) h = tt
  fits-named d (not f) h = fits-named (d - 1) f h.1
  fits-named d (list b fs) h = all-fit-named (d - 1) fs h.2
  fits-named d (quant b v f) h = (below v h.1, fits-named (d - 1) f h.2)
  fits-named d (window v lo hi) h = below v h.1.0

  all-fit-named : (d : ℕ) (fs : Formulas) → AllFit d fs → AllNamed fs
  all-fit-named d none h = tt
  all-fit-named d (more f fs) h = (fits-named d f h.0, all-fit-named d fs h.1)

mutual
  pub rows-free : (P : List ℤ → Type 0) (f : Formula) → EachRow P f → Free f
  rows-free P (atom c ns) h = tt
  rows-free P (not f) h = absurd h
  rows-free P (list b fs) h = all-rows-free P fs h
  rows-free P (quant b v f) h = absurd h
  rows-free P (window v lo hi) h = absurd h

  all-rows-free : (P : List ℤ → Type 0) (fs : Formulas) → EachRowIn P fs → AllFree fs
  all-rows-free P none h = tt
  all-rows-free P (more f fs) h = (rows-free P f h.0, all-rows-free P fs h.1)

mutual
  pub rows_named : (P : List ℤ → Type 0) (f : Formula) → EachRow P f → Named f
  rows_named P (atom c ns) h = tt
  rows_named P (not f) h = absurd h
  rows_named P (list b fs) h = all-rows-named P fs h
  rows_named P (quant b v f) h = absurd h
  rows_named P (window v lo hi) h = absurd h

  all-rows-named : (P : List ℤ → Type 0) (fs : Formulas) → EachRowIn P fs → AllNamed fs
  all-rows-named P none h = tt
  all-rows-named P (more f fs) h = (rows_named P f h.0, all-rows-named P fs h.1)

pub flat_free : (f : Formula) → Flat f → Free f
flat_free f h = rows-free (λ (ns : List ℤ). Unit {0}) f h

pub flat-named : (f : Formula) → Flat f → Named f
flat-named f h = rows_named (λ (ns : List ℤ). Unit {0}) f h

-- ---- meaning and test

-- the two sides of a WINDOW, as numbers that are at most 0 inside it
abbrev pub lower : ℕ → ℤ → (ℕ → ℤ) → ℤ
lower v lo w = lo ⊗ w 8 ⊝ w v

abbrev pub upper : ℕ → ℤ → (ℕ → ℤ) → ℤ
upper v hi w = w v ⊝ hi ⊗ w 8

abbrev pub atom_truth : Comparison → List ℤ → (ℕ → ℤ) → Bool
atom_truth c ns w = test c (sgn (dot (at ns) w))

abbrev mutual
  pub Holds : Formula → (ℕ → ℤ) → Type 0
  Holds (atom c ns) w = T (atom_truth c ns w)
  Holds (not f) w = ¬ Holds f w
  Holds (list b fs) w = AllHold b fs w
  Holds (quant b v f) w = Over b (λ (x : Fraction). Holds f (upd v x.top x.bottom w))
  Holds (window v lo hi) w = T (test atmost (sgn (lower v lo w))) × T (test atmost (sgn (upper v hi w)))

  pub AllHold : Bool → Formulas → (ℕ → ℤ) → Type 0
  AllHold b none w = OfNone b
  AllHold b (more f fs) w = Both b (Holds f w) (AllHold b fs w)

abbrev mutual
  pub truth : Formula → (ℕ → ℤ) → Bool
  truth (atom c ns) w = atom_truth c ns w
  truth (not f) w = Bool.not (truth f w)
  truth (list b fs) w = truths b fs w
  truth (quant b v f) w = false
  truth (window v lo hi) w = join true (test atmost (sgn (lower v lo w))) (test atmost (sgn (upper v hi w)))

  pub truths : Bool → Formulas → (ℕ → ℤ) → Bool
  truths b none w = b
  truths b (more f fs) w = join b (truth f w) (truths b fs w)

-- ---- equivalences

pub iff-same : {P : Type 0} → P ↔ P
iff-same = (λ p. p, λ p. p)

pub iff-sym : {P Q : Type 0} → P ↔ Q → Q ↔ P
iff-sym h = (h.1, h.0)

pub iff-trans : {P Q R : Type 0} → P ↔ Q → Q ↔ R → P ↔ R
iff-trans h k = (λ p. k.0 (h.0 p), λ r. h.1 (k.1 r))

pub not_iff : {P Q : Type 0} → P ↔ Q → (¬ P) ↔ (¬ Q)
not_iff h = (λ n q. n (h.1 q), λ n p. n (h.0 p))

pub both_iff : (b : Bool) {P P' Q Q' : Type 0} → P ↔ P' → Q ↔ Q' → Both b P Q ↔ Both b P' Q'
both_iff true h k = (λ p. (h.0 p.0, k.0 p.1), λ p. (h.1 p.0, k.1 p.1))
both_iff false h k = (λ s. elim s [ inl p ↦ inl (h.0 p) | inr q ↦ inr (k.0 q) ], λ s. elim s [ inl p ↦ inl (h.1 p) | inr q ↦ inr (k.1 q) ])

-- related values on both sides, with one truth
pub over-iff : (b : Bool) {X Y : Type 0} {P : X → Type 0} {Q : Y → Type 0} → ((x : X) → (y : Y) × (P x ↔ Q y)) → ((y : Y) → (x : X) × (P x ↔ Q y)) → Over b P ↔ Over b Q
over-iff true f g = (λ h y. (g y).1.0 (h (g y).0), λ h x. (f x).1.1 (h (f x).0))
over-iff false f g = (λ h. ((f h.0).0, (f h.0).1.0 h.1), λ h. ((g h.0).0, (g h.0).1.1 h.1))

pub over-each : (b : Bool) {X : Type 0} {P Q : X → Type 0} → ((x : X) → P x ↔ Q x) → Over b P ↔ Over b Q
over-each b h = over-iff b (λ x. (x, h x)) (λ x. (x, h x))

pub T-same : {a b : Bool} → a ≡ b → T a ↔ T b
T-same e = (subst T e, subst T (sym e))

T-flip : (b : Bool) → (¬ T b) ↔ T (Bool.not b)
T-flip true = (λ n. n tt, λ e _. e)
T-flip false = (λ _. tt, λ _ e. e)

pub T-join : (b p q : Bool) → Both b (T p) (T q) ↔ T (join b p q)
T-join true true q = (λ h. h.1, λ h. (tt, h))
T-join true false q = (λ h. h.0, λ h. absurd h)
T-join false true q = (λ h. tt, λ h. inl tt)
T-join false false q = (λ h. elim h [ inl e ↦ absurd e | inr e ↦ e ], λ h. inr h)

T-none : (b : Bool) → OfNone b ↔ T b
T-none true = iff-same
T-none false = iff-same

-- ---- the test decides the meaning

mutual
  pub truth-decides : (f : Formula) (w : ℕ → ℤ) → Free f → Holds f w ↔ T (truth f w)
  truth-decides (atom c ns) w q = iff-same
  truth-decides (not f) w q = iff-trans (not_iff (truth-decides f w q)) (T-flip (truth f w))
  truth-decides (list b fs) w q = truths-decide b fs w q
  truth-decides (quant b v f) w q = absurd q
  truth-decides (window v lo hi) w q = T-join true (test atmost (sgn (lower v lo w))) (test atmost (sgn (upper v hi w)))

  truths-decide : (b : Bool) (fs : Formulas) (w : ℕ → ℤ) → AllFree fs → AllHold b fs w ↔ T (truths b fs w)
  truths-decide b none w q = T-none b
  truths-decide b (more f fs) w q = iff-trans (both_iff b (truth-decides f w q.0) (truths-decide b fs w q.1)) (T-join b (truth f w) (truths b fs w))
