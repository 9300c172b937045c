-- The list rule keeps the truth of a list, and makes no new kind of formula. Assumes nothing.
use mathlib.Core.Path.{◌≡◌, refl, sym, ◌∙◌, ap}
use mathlib.Core.Bool as Bool
use mathlib.Core.Bool.{Bool, true, false, ◌||◌, cond}
use mathlib.Core.List.{List}
use Prim.Native.Nat.{ℕ}
use lib.IntN.{ℤ}
use Rattle.reading.specs.Formula.{Formula, Formulas, atom, not, list, quant, window, none, more}
use Rattle.rules.specs.Test.{join}
use Rattle.rules.specs.Lists.{Known, decides, decided, unknown, known, sure_record, decided_by, keep, stay, closed, listed}
use Rattle.meaning.proofs.Truth.{EachRow, EachRowIn, truth, truths}
use Rattle.meaning.proofs.Keeps.Pushing.{join-unit}

known-truth : (f : Formula) (w : ℕ → ℤ) (v : Bool) → known f ≡ decided v → truth f w ≡ v
known-truth (atom c ns) w v h = cc
known-truth (not f) w v h = cc
known-truth (list b none) w v h = cc
known-truth (list b (more f fs)) w v h = cc
known-truth (quant b x f) w v h = cc
known-truth (window x lo hi) w v h = cc

join-zero : (b x : Bool) → Bool.not b ≡ join b x (Bool.not b)
join-zero true true = refl
join-zero true false = refl
join-zero false true = refl
join-zero false false = refl

-- one member more
member-truth : (b : Bool) (κ : Known) (d : Bool) (f : Formula) (fs gs : Formulas) (w : ℕ → ℤ) → known f ≡ κ → cond d (Bool.not b) (truths b gs w) ≡ truths b fs w
    → cond (decides b κ || d) (Bool.not b) (truths b (keep κ f gs) w) ≡ join b (truth f w) (truths b fs w)
member-truth true (decided true) d f fs gs w e h = h ∙ ap (λ (t : Bool). join true t (truths true fs w)) (sym (known-truth f w true e))
member-truth true (decided false) d f fs gs w e h = ap (λ (t : Bool). join true t (truths true fs w)) (sym (known-truth f w false e))
member-truth false (decided true) d f fs gs w e h = ap (λ (t : Bool). join false t (truths false fs w)) (sym (known-truth f w true e))
member-truth false (decided false) d f fs gs w e h = h ∙ ap (λ (t : Bool). join false t (truths false fs w)) (sym (known-truth f w false e))
member-truth b unknown true f fs gs w e h = join-zero b (truth f w) ∙ ap (join b (truth f w)) h
member-truth b unknown false f fs gs w e h = ap (join b (truth f w)) h

sifted-truth : (b : Bool) (fs : Formulas) (w : ℕ → ℤ) → cond (decided_by b fs) (Bool.not b) (truths b (stay fs) w) ≡ truths b fs w
sifted-truth b none w = refl
sifted-truth b (more f fs) w = member-truth b (known f) (decided_by b fs) f fs (stay fs) w refl (sifted-truth b fs w)

closed-truth : (b : Bool) (fs : Formulas) (w : ℕ → ℤ) → truth (closed b fs) w ≡ truths b fs w
closed-truth b none w = refl
closed-truth b (more f none) w = sym (join-unit b (truth f w))
closed-truth b (more f (more g fs)) w = refl

pick-truth : (d b : Bool) (fs : Formulas) (w : ℕ → ℤ) → truth (cond d (sure_record (Bool.not b)) (closed b fs)) w ≡ cond d (Bool.not b) (truths b fs w)
pick-truth true b fs w = refl
pick-truth false b fs w = closed-truth b fs w

pub listed-truth : (b : Bool) (fs : Formulas) (w : ℕ → ℤ) → truth (listed b fs) w ≡ truths b fs w
unfolding listed
listed-truth b fs w = pick-truth (decided_by b fs) b (stay fs) w ∙ sifted-truth b fs w

-- ---- atoms and lists stay atoms and lists, and no row is new

module _ (P : List ℤ → Type 0) where
  keep-rows : (κ : Known) (f : Formula) (fs : Formulas) → EachRow P f → EachRowIn P fs → EachRowIn P (keep κ f fs)
  keep-rows (decided v) f fs p q = q
  keep-rows unknown f fs p q = (p, q)

  stay_rows : (fs : Formulas) → EachRowIn P fs → EachRowIn P (stay fs)
  stay_rows none q = tt
  stay_rows (more f fs) q = keep-rows (known f) f (stay fs) q.0 (stay_rows fs q.1)

  closed-rows : (b : Bool) (fs : Formulas) → EachRowIn P fs → EachRow P (closed b fs)
  closed-rows b none q = tt
  closed-rows b (more f none) q = q.0
  closed-rows b (more f (more g fs)) q = q

  pick-rows : (d b : Bool) (fs : Formulas) → EachRowIn P fs → EachRow P (cond d (sure_record (Bool.not b)) (closed b fs))
  pick-rows true b fs q = tt
  pick-rows false b fs q = closed-rows b fs q

  pub listed-rows : (b : Bool) (fs : Formulas) → EachRowIn P fs → EachRow P (listed b fs)
  unfolding listed
  listed-rows b fs q = pick-rows (decided_by b fs) b (stay fs) (stay_rows fs q)
