-- Pushing NOT inward keeps the truth, and leaves atoms and lists only. Assumes nothing.
use mathlib.Core.Path.{◌≡◌, refl, sym, ◌∙◌, ap, ap₂}
use mathlib.Core.Bool as Bool
use mathlib.Core.Bool.{Bool, true, false, cond}
use mathlib.Core.List.{List}
use Prim.Native.Nat.{ℕ, ◌<◌}
use lib.Dec.{eqb}
use lib.IntN.{ℤ, pos, negsuc, neg_ℤ}
use Rattle.reading.specs.Formula.{Comparison, less, atmost, equal, Formula, Formulas, atom, not, list, quant, window, none, more, Free, AllFree}
use Rattle.exact.specs.Numbers.{at, minus, single}
use Rattle.exact.proofs.Rows.{at-minus, at-single}
use Rattle.rules.specs.Test.{join}
use Rattle.rules.specs.Pushing.{under, push_atom, push_window, denied, push, pushs}
use Rattle.exact.proofs.Ring.{◌⊕◌, ◌⊗◌, ⊖, ◌⊝◌, O, ring, minus_one, ⊝-swap}
use Rattle.exact.proofs.Order.{Sign, negative, null, positive, sgn, turn, sgn-⊖, test, less-turn, atmost-turn}
use Rattle.meaning.proofs.Sums.{dot, dot-same, dot-times, dot-pair}
use Rattle.meaning.proofs.Truth.{Named, AllNamed, EachRow, Flat, AllFlat, lower, upper, atom_truth, truth, truths}

-- ---- rows

pub sgn-minus : (ns : List ℤ) (w : ℕ → ℤ) → sgn (dot (at (minus ns)) w) ≡ turn (sgn (dot (at ns) w))
unfolding ⊖
sgn-minus ns w =
    ap sgn (dot-same (at (minus ns)) (λ i. negsuc 0 ⊗ at ns i) w (λ i h. at-minus ns i ∙ sym (minus_one (at ns i))) ∙ dot-times (negsuc 0) (at ns) w ∙ minus_one _)
    ∙ sgn-⊖ (dot (at ns) w)

pub dot-single : (v : ℕ) (a c : ℤ) (w : ℕ → ℤ) → v < 8 → dot (at (single v a c)) w ≡ a ⊗ w v ⊕ c ⊗ w 8
dot-single v a c w h = dot-same (at (single v a c)) (λ i. cond (eqb i 8) c (cond (eqb i v) a O)) w (at-single v a c) ∙ dot-pair v a c w h

below_step : (x c q : ℤ) → ⊖ x ⊕ c ⊗ q ≡ c ⊗ q ⊝ x
below_step x c q = simp ring

above_step : (x c q : ℤ) → pos 1 ⊗ x ⊕ ⊖ c ⊗ q ≡ x ⊝ c ⊗ q
above_step x c q = simp ring

-- c − v and v − c
dot-below : (v : ℕ) (c : ℤ) (w : ℕ → ℤ) → v < 8 → dot (at (single v (negsuc 0) c)) w ≡ lower v c w
dot-below v c w h = dot-single v (negsuc 0) c w h ∙ ap (λ (z : ℤ). z ⊕ c ⊗ w 8) (minus_one (w v)) ∙ below_step (w v) c (w 8)

dot-above : (v : ℕ) (c : ℤ) (w : ℕ → ℤ) → v < 8 → dot (at (single v (pos 1) (neg_ℤ c))) w ≡ upper v c w
unfolding ⊖
dot-above v c w h = dot-single v (pos 1) (neg_ℤ c) w h ∙ above_step (w v) c (w 8)

-- ---- comparisons

equal-turn : (s : Sign) → join false (test less s) (join false (test less (turn s)) false) ≡ Bool.not (test equal s)
equal-turn negative = refl
equal-turn null = refl
equal-turn positive = refl

pub join-unit : (b q : Bool) → join b q b ≡ q
join-unit true true = refl
join-unit true false = refl
join-unit false true = refl
join-unit false false = refl

-- De Morgan, both ways
join-under : (neg b x y : Bool) → join (under neg b) (under neg x) (under neg y) ≡ under neg (join b x y)
join-under false b x y = refl
join-under true true true y = refl
join-under true true false y = refl
join-under true false true y = refl
join-under true false false y = refl

under_flip : (neg b : Bool) → under (Bool.not neg) b ≡ under neg (Bool.not b)
under_flip false b = refl
under_flip true true = refl
under_flip true false = refl

-- ---- the laws

push_atom-truth : (neg : Bool) (c : Comparison) (ns : List ℤ) (w : ℕ → ℤ) → truth (push_atom neg c ns) w ≡ under neg (atom_truth c ns w)
push_atom-truth false c ns w = refl
push_atom-truth true less ns w = ap (test atmost) (sgn-minus ns w) ∙ atmost-turn (sgn (dot (at ns) w))
push_atom-truth true atmost ns w = ap (test less) (sgn-minus ns w) ∙ less-turn (sgn (dot (at ns) w))
push_atom-truth true equal ns w =
    ap (λ (s : Sign). join false (test less (sgn (dot (at ns) w))) (join false (test less s) false)) (sgn-minus ns w) ∙ equal-turn (sgn (dot (at ns) w))

-- the opposite difference, under the opposite comparison
opposite : (z x y : ℤ) → z ≡ x ⊝ y → test less (sgn z) ≡ Bool.not (test atmost (sgn (y ⊝ x)))
opposite z x y e = ap (λ (u : ℤ). test less (sgn u)) (e ∙ ⊝-swap x y) ∙ ap (test less) (sgn-⊖ (y ⊝ x)) ∙ less-turn (sgn (y ⊝ x))

push_window-truth : (neg : Bool) (v : ℕ) (lo hi : ℤ) (w : ℕ → ℤ) → v < 8 → truth (push_window neg v lo hi) w ≡ under neg (truth (window v lo hi) w)
push_window-truth false v lo hi w h =
    ap₂ (join true) (ap (λ (z : ℤ). test atmost (sgn z)) (dot-below v lo w h))
    (join-unit true _ ∙ ap (λ (z : ℤ). test atmost (sgn z)) (dot-above v hi w h))
push_window-truth true v lo hi w h =
    ap₂ (join false) (opposite _ (w v) (lo ⊗ w 8) (dot-above v lo w h)) (join-unit false _ ∙ opposite _ (hi ⊗ w 8) (w v) (dot-below v hi w h))
    ∙ join-under true true (test atmost (sgn (lower v lo w))) (test atmost (sgn (upper v hi w)))

denied-truth : (neg : Bool) (f : Formula) (w : ℕ → ℤ) → truth (denied neg f) w ≡ under neg (truth f w)
denied-truth false f w = refl
denied-truth true f w = refl

mutual
  unfolding push

  pub push-truth : (neg : Bool) (f : Formula) (w : ℕ → ℤ) → Named f → truth (push neg f) w ≡ under neg (truth f w)
  push-truth neg (atom c ns) w n = push_atom-truth neg c ns w
  push-truth neg (not f) w n = push-truth (Bool.not neg) f w n ∙ under_flip neg (truth f w)
  push-truth neg (list b fs) w n = pushs-truth neg b fs w n
  push-truth neg (quant b v f) w n = denied-truth neg (quant b v f) w
  push-truth neg (window v lo hi) w n = push_window-truth neg v lo hi w n

  pushs-truth : (neg b : Bool) (fs : Formulas) (w : ℕ → ℤ) → AllNamed fs → truths (under neg b) (pushs neg fs) w ≡ under neg (truths b fs w)
  pushs-truth neg b none w n = refl
  pushs-truth neg b (more f fs) w n = ap₂ (join (under neg b)) (push-truth neg f w n.0) (pushs-truth neg b fs w n.1) ∙ join-under neg b (truth f w) (truths b fs w)

-- ---- the rows of a pushed atom and of a pushed WINDOW

module _ (P : List ℤ → Type 0) where
  pub push_atom-rows : ((ns : List ℤ) → P ns → P (minus ns)) → (neg : Bool) (c : Comparison) (ns : List ℤ) → P ns → EachRow P (push_atom neg c ns)
  push_atom-rows turns false c ns h = h
  push_atom-rows turns true less ns h = turns ns h
  push_atom-rows turns true atmost ns h = turns ns h
  push_atom-rows turns true equal ns h = (h, (turns ns h, tt))

  pub push_window-rows : (neg : Bool) (v : ℕ) (lo hi : ℤ) → ((a c : ℤ) → P (single v a c)) → EachRow P (push_window neg v lo hi)
  push_window-rows false v lo hi h = (h (negsuc 0) lo, (h (pos 1) (neg_ℤ hi), tt))
  push_window-rows true v lo hi h = (h (pos 1) (neg_ℤ lo), (h (negsuc 0) hi, tt))

mutual
  unfolding push

  pub push-flat : (neg : Bool) (f : Formula) → Free f → Flat (push neg f)
  push-flat neg (atom c ns) q = push_atom-rows _ (λ _ _. tt) neg c ns tt
  push-flat neg (not f) q = push-flat (Bool.not neg) f q
  push-flat neg (list b fs) q = pushs-flat neg fs q
  push-flat neg (quant b v f) q = absurd q
  push-flat neg (window v lo hi) q = push_window-rows _ neg v lo hi (λ _ _. tt)

  pushs-flat : (neg : Bool) (fs : Formulas) → AllFree fs → AllFlat (pushs neg fs)
  pushs-flat neg none q = tt
  pushs-flat neg (more f fs) q = (push-flat neg f q.0, pushs-flat neg fs q.1)
