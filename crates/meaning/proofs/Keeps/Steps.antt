-- What keeps the truth at every vector: a step, the steps one after the other, and the finishing pass. `result_of` is the whole construction. Assumes
-- nothing.
use mathlib.Core.Path.{◌≡◌, refl, ◌∙◌, ap}
use mathlib.Core.Logic.{◌↔◌}
use mathlib.Core.Bool.{Bool, false, cond}
use Prim.Native.Nat.{ℕ, zero, suc, ◌<◌}
use native.Mathlib.Omega.{arith}
use lib.IntN.{ℤ}
use borrow.Author.Tests.{ne_eqb}
use Rattle.reading.specs.Formula.{Formula, Formulas, atom, not, list, quant, window, none, more, Free}
use Rattle.exact.specs.Atoms.{nowhere}
use Rattle.rules.specs.Pushing.{push}
use Rattle.rules.specs.Steps.{replacement, quantifiers, all_quantifiers, if_none, step, step_in, steps}
use Rattle.rules.specs.Eliminate.{finished, result_of}
use Rattle.meaning.specs.Meaning.{Fraction}
use Rattle.exact.proofs.Ring.{◌⊗◌}
use Rattle.exact.proofs.Order.{positive, sgn, up-⊗}
use Rattle.meaning.proofs.Sums.{upd}
use Rattle.meaning.proofs.Points.Fractions.{up}
use Rattle.meaning.proofs.Truth.{Named, AllNamed, Flat, flat_free, flat-named, Holds, AllHold, truth-decides, iff-same, iff-sym, iff-trans, not_iff, both_iff, over-each, T-same}
use Rattle.meaning.proofs.Keeps.Pushing.{push-truth, push-flat}
use Rattle.rules.proofs.Stepwise.Around.{zero-free}
use Rattle.rules.proofs.Stepwise.Run.{steps-free}
use Rattle.meaning.proofs.Keeps.Copies.{nowhere-truth, copy-flat, replacement-flat, replacement-holds}

-- ---- a step keeps the truth

-- at every vector
abbrev pub Kept : Formula → Formula → Type 0
Kept g f = (w : ℕ → ℤ) → sgn (w 8) ≡ positive → Holds g w ↔ Holds f w

abbrev AllKept : Bool → Formulas → Formulas → Type 0
AllKept b gs fs = (w : ℕ → ℤ) → sgn (w 8) ≡ positive → AllHold b gs w ↔ AllHold b fs w

pub upd-last : (v : ℕ) (m e : ℤ) (w : ℕ → ℤ) → v < 8 → upd v m e w 8 ≡ e ⊗ w 8
upd-last v m e w h = ap (λ (b : Bool). cond b m (e ⊗ w 8)) (ne_eqb 8 v (λ k. omega arith))

base-put : (v : ℕ) (p : Fraction) (w : ℕ → ℤ) → v < 8 → sgn (w 8) ≡ positive → sgn (upd v p.top p.bottom w 8) ≡ positive
base-put v p w h base = ap sgn (upd-last v p.top p.bottom w h) ∙ up-⊗ p.bottom (w 8) (up p) base

quant-kept : (b : Bool) (v : ℕ) (f g : Formula) (n : ℕ) → quantifiers f ≡ n → v < 8 → Named f → Kept g f → Kept (if_none n (replacement b v f) (quant b v g)) (quant b v f)
quant-kept b v f g zero e l m h w base = iff-trans (truth-decides (replacement b v f) w (flat_free (replacement b v f) (replacement-flat b v f (zero-free f e))))
    (iff-sym (replacement-holds b v f w base l m (zero-free f e)))
quant-kept b v f g (suc n) e l m h w base = over-each b (λ p. h (upd v p.top p.bottom w) (base-put v p w l base))

more-kept : (b : Bool) (f g : Formula) (fs gs : Formulas) (n : ℕ) → Kept g f → AllKept b gs fs → AllKept b (if_none n (more g fs) (more f gs)) (more f fs)
more-kept b f g fs gs zero h k w base = both_iff b (h w base) iff-same
more-kept b f g fs gs (suc n) h k w base = both_iff b iff-same (k w base)

mutual
  unfolding step

  pub step_kept : (f : Formula) → Named f → Kept (step f) f
  step_kept (atom c ns) m w base = iff-same
  step_kept (not f) m w base = not_iff (step_kept f m w base)
  step_kept (list b fs) m w base = step_in-kept b fs m w base
  step_kept (quant b v f) m w base = quant-kept b v f (step f) (quantifiers f) refl m.0 m.1 (λ u t. step_kept f m.1 u t) w base
  step_kept (window v lo hi) m w base = iff-same

  step_in-kept : (b : Bool) (fs : Formulas) → AllNamed fs → AllKept b (step_in fs) fs
  step_in-kept b none m w base = iff-same
  step_in-kept b (more f fs) m w base = more-kept b f (step f) fs (step_in fs) (all_quantifiers fs) (λ u t. step_kept f m.0 u t) (λ u t. step_in-kept b fs m.1 u t) w base

quant-named : (b : Bool) (v : ℕ) (f g : Formula) (n : ℕ) → quantifiers f ≡ n → v < 8 → Named g → Named (if_none n (replacement b v f) (quant b v g))
quant-named b v f g zero e l m = flat-named (replacement b v f) (replacement-flat b v f (zero-free f e))
quant-named b v f g (suc n) e l m = (l, m)

more-named : (f g : Formula) (fs gs : Formulas) (n : ℕ) → Named f → Named g → AllNamed fs → AllNamed gs → AllNamed (if_none n (more g fs) (more f gs))
more-named f g fs gs zero h i k l = (i, k)
more-named f g fs gs (suc n) h i k l = (h, l)

mutual
  unfolding step

  pub step-named : (f : Formula) → Named f → Named (step f)
  step-named (atom c ns) m = tt
  step-named (not f) m = step-named f m
  step-named (list b fs) m = step_in-named fs m
  step-named (quant b v f) m = quant-named b v f (step f) (quantifiers f) refl m.0 (step-named f m.1)
  step-named (window v lo hi) m = m

  step_in-named : (fs : Formulas) → AllNamed fs → AllNamed (step_in fs)
  step_in-named none m = tt
  step_in-named (more f fs) m = more-named f (step f) fs (step_in fs) (all_quantifiers fs) m.0 (step-named f m.0) m.1 (step_in-named fs m.1)

-- ---- steps, one after the other

steps-kept : (n : ℕ) (f : Formula) → Named f → Kept (steps n f) f
steps-kept zero f m w base = iff-same
steps-kept (suc n) f m w base = iff-trans (steps-kept n (step f) (step-named f m) w base) (step_kept f m w base)

steps-named : (n : ℕ) (f : Formula) → Named f → Named (steps n f)
steps-named zero f m = m
steps-named (suc n) f m = steps-named n (step f) (step-named f m)

-- ---- the finishing pass

finished-flat : (f : Formula) → Free f → Flat (finished f)
unfolding finished
finished-flat f q = copy-flat nowhere (push false f) (push-flat false f q)

finished-kept : (f : Formula) → Named f → Free f → Kept (finished f) f
unfolding finished
finished-kept f m q w base = iff-trans (truth-decides (finished f) w (flat_free (finished f) (finished-flat f q)))
    (iff-trans (T-same (nowhere-truth (push false f) w base (push-flat false f q) ∙ push-truth false f w m)) (iff-sym (truth-decides f w q)))

-- ---- the whole construction

pub result-flat : (f : Formula) → Flat (result_of f)
unfolding result_of
result-flat f = finished-flat (steps (quantifiers f) f) (steps-free (quantifiers f) f refl)

pub result-kept : (f : Formula) → Named f → Kept (result_of f) f
unfolding result_of
result-kept f m w base =
    let g = steps (quantifiers f) f in
    iff-trans (finished-kept g (steps-named (quantifiers f) f m) (steps-free (quantifiers f) f refl) w base) (steps-kept (quantifiers f) f m w base)
