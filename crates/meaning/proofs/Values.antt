-- Values and vectors: eight fractions have a common denominator, and a formula means at the values what it says at the vector of their numerators over
-- it. So the meaning at fractions is carried by whole numbers, and fractions that are equal give the same truth. Assumes nothing.
use mathlib.Core.Path.{◌≡◌, refl, sym, ◌∙◌, ap, ap₂, subst}
use mathlib.Core.Logic.{◌↔◌}
use mathlib.Core.Bool as Bool
use mathlib.Core.Bool.{Bool, true, false, cond, ◌&&◌}
use mathlib.Core.List.{List}
use Prim.Native.Nat.{ℕ, zero, suc, ◌<◌, ◌≤◌}
use native.Mathlib.Omega.{arith}
use lib.Dec.{T, eqb, lit≤}
use lib.IntN.{ℤ, pos}
use lib.Signed.{◌<ℤ◌}
use borrow.Author.Tests.{eqb-true, eqb-false}
use Rattle.reading.specs.Formula.{Comparison, less, atmost, equal, Formula, Formulas, atom, not, list, quant, window, none, more}
use Rattle.exact.specs.Numbers.{at}
use Rattle.rules.specs.Test.{join, sum_to, true_at, all_true_at}
use Rattle.meaning.specs.Meaning.{Fraction, Values, put, sum_of, Compares, Means, MeansAll, Equal}
use Rattle.exact.proofs.Ring.{◌⊕◌, ◌⊗◌, ◌⊝◌, O, ring, ⊝-swap, ⊗-comm, ⊕-comm}
use Rattle.exact.proofs.Order.{Sign, negative, null, positive, sgn, sgn-O, turn, sgn-⊖, sgn-up, sgn-null, up-⊗, cancel-up, above-sgn, test, holds_test, atmost-test, le_test}
use Rattle.meaning.proofs.Sums.{total, total-sum, total-last, dot, upd}
use Rattle.meaning.proofs.Points.Fractions.{up, fraction}
use Rattle.meaning.proofs.Truth.{Named, AllNamed, lower, upper, Holds, AllHold, truth, truths, iff-same, iff-trans, not_iff, both_iff, over-iff, T-same}
use Rattle.meaning.proofs.Keeps.Steps.{upd-last}

-- ---- comparisons as tests of a sign

pub compares-test : (c : Comparison) (z : ℤ) → Compares c z ↔ T (test c (sgn z))
compares-test less z = iff-trans (λ h. h.lt, λ t. record { lt = t }) (T-same (holds_test less z))
compares-test atmost z = iff-trans (λ h. h.le, λ t. record { le = t }) (T-same (holds_test atmost z))
compares-test equal z = (λ h. subst T (sym (ap (λ (y : ℤ). test equal (sgn y)) h ∙ ap (test equal) sgn-O)) tt, λ t. sgn-null z (go (sgn z) t))
  where
    go : (s : Sign) → T (test equal s) → s ≡ null
    go negative t = absurd t
    go null t = refl
    go positive t = absurd t

-- ---- a vector for the values

-- numerators over the denominator at 8, which is above 0
pub record Represents (ρ : Values) (w : ℕ → ℤ) : Type 0 where
  pub base : sgn (w 8) ≡ positive
  pub same : (v : ℕ) → v < 8 → (ρ v).top ⊗ w 8 ≡ w v ⊗ (ρ v).bottom

sum_step : (N D z n d q p k t : ℤ) → N ⊗ q ≡ (k ⊕ t) ⊗ D → n ⊗ q ≡ p ⊗ d → (N ⊗ d ⊕ (z ⊗ n) ⊗ D) ⊗ q ≡ (k ⊕ (t ⊕ z ⊗ p)) ⊗ (D ⊗ d)
sum_step N D z n d q p k t h i = first ∙ ap₂ (λ (x y : ℤ). x ⊗ d ⊕ (z ⊗ y) ⊗ D) h i ∙ second
  where
    first : (N ⊗ d ⊕ (z ⊗ n) ⊗ D) ⊗ q ≡ (N ⊗ q) ⊗ d ⊕ (z ⊗ (n ⊗ q)) ⊗ D
    first = simp ring

    second : ((k ⊕ t) ⊗ D) ⊗ d ⊕ (z ⊗ (p ⊗ d)) ⊗ D ≡ (k ⊕ (t ⊕ z ⊗ p)) ⊗ (D ⊗ d)
    second = simp ring

sum-none : (k : ℤ) → k ≡ (k ⊕ O) ⊗ pos 1
sum-none k = simp ring

sum-up : (ns : List ℤ) (ρ : Values) (n : ℕ) → sgn (sum_of n ns ρ).bottom ≡ positive
unfolding sum_of sgn ◌⊗◌
sum-up ns ρ zero = refl
sum-up ns ρ (suc n) = up-⊗ (sum_of n ns ρ).bottom (ρ n).bottom (sum-up ns ρ n) (up (ρ n))

-- the bottom of a sum is above 0, so the sum compares with 0 as its top does
pub sum-above : (ns : List ℤ) (ρ : Values) (n : ℕ) → pos 0 <ℤ (sum_of n ns ρ).bottom
sum-above ns ρ n = above-sgn (sum_of n ns ρ).bottom (sum-up ns ρ n)

module _ (ns : List ℤ) (ρ : Values) (w : ℕ → ℤ) (r : Represents ρ w) where
  sum_is : (n : ℕ) → n ≤ 8 → (sum_of n ns ρ).top ⊗ w 8 ≡ (at ns 8 ⊗ w 8 ⊕ total n (λ i. at ns i ⊗ w i)) ⊗ (sum_of n ns ρ).bottom
  unfolding sum_of total ◌⊕◌ ◌⊗◌
  sum_is zero h = sum-none (at ns 8 ⊗ w 8)
  sum_is (suc n) h =
      sum_step (sum_of n ns ρ).top (sum_of n ns ρ).bottom (at ns n) (ρ n).top (ρ n).bottom (w 8) (w n) (at ns 8 ⊗ w 8) (total n (λ i. at ns i ⊗ w i))
      (sum_is n (omega arith)) (r.same n (omega arith))
      ∙ ap (λ (z : ℤ). (at ns 8 ⊗ w 8 ⊕ z) ⊗ ((sum_of n ns ρ).bottom ⊗ (ρ n).bottom)) (sym (total-last n (λ i. at ns i ⊗ w i)))

  sum-sgn : sgn (sum_of 8 ns ρ).top ≡ sgn (dot (at ns) w)
  unfolding dot
  sum-sgn =
      sym (sgn-up (w 8) _ r.base) ∙ ap sgn (⊗-comm _ _ ∙ sum_is 8 (lit≤ tt) ∙ ⊗-comm _ _) ∙ sgn-up (sum_of 8 ns ρ).bottom _ (sum-up ns ρ 8)
      ∙ ap sgn (⊕-comm _ _ ∙ sym (total-last 8 (λ i. at ns i ⊗ w i)))

low-cross : (lo q p d n : ℤ) → n ⊗ q ≡ p ⊗ d → d ⊗ (lo ⊗ q ⊝ p) ≡ q ⊗ (lo ⊗ d ⊝ n)
low-cross lo q p d n h = first ∙ ap (λ (x : ℤ). (lo ⊗ q) ⊗ d ⊝ x) (sym h) ∙ second
  where
    first : d ⊗ (lo ⊗ q ⊝ p) ≡ (lo ⊗ q) ⊗ d ⊝ p ⊗ d
    first = simp ring

    second : (lo ⊗ q) ⊗ d ⊝ n ⊗ q ≡ q ⊗ (lo ⊗ d ⊝ n)
    second = simp ring

lower-sgn : (v : ℕ) (lo : ℤ) (ρ : Values) (w : ℕ → ℤ) → v < 8 → Represents ρ w → sgn (lo ⊗ (ρ v).bottom ⊝ (ρ v).top) ≡ sgn (lower v lo w)
lower-sgn v lo ρ w h r =
    sym (sgn-up (w 8) _ r.base) ∙ ap sgn (sym (low-cross lo (w 8) (w v) (ρ v).bottom (ρ v).top (r.same v h))) ∙ sgn-up (ρ v).bottom _ (up (ρ v))

upper-sgn : (v : ℕ) (hi : ℤ) (ρ : Values) (w : ℕ → ℤ) → v < 8 → Represents ρ w → sgn ((ρ v).top ⊝ hi ⊗ (ρ v).bottom) ≡ sgn (upper v hi w)
upper-sgn v hi ρ w h r =
    ap sgn (⊝-swap (ρ v).top (hi ⊗ (ρ v).bottom)) ∙ sgn-⊖ _ ∙ ap turn (lower-sgn v hi ρ w h r) ∙ sym (ap sgn (⊝-swap (w v) (hi ⊗ w 8)) ∙ sgn-⊖ _)

window-iff : (v : ℕ) (lo hi : ℤ) (ρ : Values) (w : ℕ → ℤ) → v < 8 → Represents ρ w → Means (window v lo hi) ρ ↔ Holds (window v lo hi) w
unfolding ◌⊗◌
window-iff v lo hi ρ w h r = both_iff true
    (iff-trans (le_test (lo ⊗ (ρ v).bottom) (ρ v).top) (T-same (ap (test atmost) (lower-sgn v lo ρ w h r))))
    (iff-trans (le_test (ρ v).top (hi ⊗ (ρ v).bottom)) (T-same (ap (test atmost) (upper-sgn v hi ρ w h r))))

-- ---- putting a value on both sides

put-here : (n q e : ℤ) → n ⊗ (e ⊗ q) ≡ (n ⊗ q) ⊗ e
put-here n q e = simp ring

put-else : (n q e p d : ℤ) → n ⊗ q ≡ p ⊗ d → n ⊗ (e ⊗ q) ≡ (e ⊗ p) ⊗ d
put-else n q e p d h = first ∙ ap (λ (x : ℤ). e ⊗ x) h ∙ second
  where
    first : n ⊗ (e ⊗ q) ≡ e ⊗ (n ⊗ q)
    first = simp ring

    second : e ⊗ (p ⊗ d) ≡ (e ⊗ p) ⊗ d
    second = simp ring

put_both : (v : ℕ) (x : Fraction) (m e : ℤ) (ρ : Values) (w : ℕ → ℤ) → v < 8 → sgn e ≡ positive → Represents ρ w → x.top ⊗ (e ⊗ w 8) ≡ m ⊗ x.bottom
    → Represents (put v x ρ) (upd v m e w)
put_both v x m e ρ w l o r h = record {
  base = ap sgn (upd-last v m e w l) ∙ up-⊗ e (w 8) o r.base;
  same = λ u k. ap (λ (z : ℤ). (put v x ρ u).top ⊗ z) (upd-last v m e w l) ∙ go u k (eqb u v);
}
  where
    go : (u : ℕ) → u < 8 → (b : Bool) → (cond b x (ρ u)).top ⊗ (e ⊗ w 8) ≡ cond b m (e ⊗ w u) ⊗ (cond b x (ρ u)).bottom
    go u k true = h
    go u k false = put-else _ (w 8) e _ _ (r.same u k)

-- the value x at the vector w is x.top · q / x.bottom, where q is the denominator; the point p there has the value p.top / (p.bottom · q)
abbrev scaled : Fraction → ℤ → Fraction
scaled x q = record { top = x.top ⊗ q; bottom = x.bottom; above = x.above }

abbrev unscaled : Fraction → (q : ℤ) → sgn q ≡ positive → Fraction
unscaled p q h = fraction p.top (p.bottom ⊗ q) (up-⊗ p.bottom q (up p) h)

mutual
  pub means-holds : (f : Formula) (ρ : Values) (w : ℕ → ℤ) → Named f → Represents ρ w → Means f ρ ↔ Holds f w
  means-holds (atom c ns) ρ w n r = iff-trans (compares-test c (sum_of 8 ns ρ).top) (T-same (ap (test c) (sum-sgn ns ρ w r)))
  means-holds (not f) ρ w n r = not_iff (means-holds f ρ w n r)
  means-holds (list b fs) ρ w n r = all-means-hold b fs ρ w n r
  means-holds (quant b v f) ρ w n r = over-iff b
      (λ x. (scaled x (w 8), means-holds f _ _ n.1 (put_both v x (x.top ⊗ w 8) x.bottom ρ w n.0 (up x) r (put-here x.top (w 8) x.bottom))))
      (λ p. (unscaled p (w 8) r.base, means-holds f _ _ n.1 (put_both v (unscaled p (w 8) r.base) p.top p.bottom ρ w n.0 (up p) r refl)))
  means-holds (window v lo hi) ρ w n r = window-iff v lo hi ρ w n r

  all-means-hold : (b : Bool) (fs : Formulas) (ρ : Values) (w : ℕ → ℤ) → AllNamed fs → Represents ρ w → MeansAll b fs ρ ↔ AllHold b fs w
  all-means-hold b none ρ w n r = iff-same
  all-means-hold b (more f fs) ρ w n r = both_iff b (means-holds f ρ w n.0 r) (all-means-hold b fs ρ w n.1 r)

-- ---- a common denominator of the first n values

unfoldable pub common_to : ℕ → Values → ℕ → ℤ
common_to zero ρ = λ i. cond (eqb i 8) (pos 1) O
common_to (suc n) ρ = upd n ((ρ n).top ⊗ common_to n ρ 8) (ρ n).bottom (common_to n ρ)

common-up : (n : ℕ) (ρ : Values) → n ≤ 8 → sgn (common_to n ρ 8) ≡ positive
unfolding common_to sgn
common-up zero ρ h = refl
common-up (suc n) ρ h = ap sgn (upd-last n _ (ρ n).bottom (common_to n ρ) (omega arith)) ∙ up-⊗ (ρ n).bottom (common_to n ρ 8) (up (ρ n)) (common-up n ρ (omega arith))

common-step : (n : ℕ) (ρ : Values) (w : ℕ → ℤ) → ((v : ℕ) → v < n → (ρ v).top ⊗ w 8 ≡ w v ⊗ (ρ v).bottom)
    → (v : ℕ) → v < suc n → (b : Bool) → eqb v n ≡ b → (ρ v).top ⊗ ((ρ n).bottom ⊗ w 8) ≡ cond b ((ρ n).top ⊗ w 8) ((ρ n).bottom ⊗ w v) ⊗ (ρ v).bottom
common-step n ρ w r v h true e = subst (λ (m : ℕ). (ρ v).top ⊗ ((ρ m).bottom ⊗ w 8) ≡ ((ρ m).top ⊗ w 8) ⊗ (ρ v).bottom) (eqb-true v n e) (put-here (ρ v).top (w 8) (ρ v).bottom)
common-step n ρ w r v h false e = put-else _ (w 8) (ρ n).bottom _ _ (r v (omega (arith, eqb-false v n e)))

common-same : (n : ℕ) (ρ : Values) → n ≤ 8 → (v : ℕ) → v < n → (ρ v).top ⊗ common_to n ρ 8 ≡ common_to n ρ v ⊗ (ρ v).bottom
unfolding common_to
common-same zero ρ h v k = absurd (omega arith)
common-same (suc n) ρ h v k =
    ap (λ (z : ℤ). (ρ v).top ⊗ z) (upd-last n _ (ρ n).bottom (common_to n ρ) (omega arith))
    ∙ common-step n ρ (common_to n ρ) (λ v k. common-same n ρ (omega arith) v k) v k (eqb v n) refl

abbrev pub common : Values → ℕ → ℤ
common ρ = common_to 8 ρ

pub common-represents : (ρ : Values) → Represents ρ (common ρ)
common-represents ρ = record { base = common-up 8 ρ (lit≤ tt); same = common-same 8 ρ (lit≤ tt) }

-- ---- equal fractions

equal-step : (n d n' d' q p : ℤ) → sgn d ≡ positive → n ⊗ d' ≡ n' ⊗ d → n ⊗ q ≡ p ⊗ d → n' ⊗ q ≡ p ⊗ d'
equal-step n d n' d' q p h e r = cancel-up d _ _ h (first ∙ ap (λ (x : ℤ). x ⊗ q) (sym e) ∙ second ∙ ap (λ (x : ℤ). x ⊗ d') r ∙ third)
  where
    first : d ⊗ (n' ⊗ q) ≡ (n' ⊗ d) ⊗ q
    first = simp ring

    second : (n ⊗ d') ⊗ q ≡ (n ⊗ q) ⊗ d'
    second = simp ring

    third : (p ⊗ d) ⊗ d' ≡ d ⊗ (p ⊗ d')
    third = simp ring

pub equal-represents : (ρ σ : Values) (w : ℕ → ℤ) → Equal ρ σ → Represents ρ w → Represents σ w
unfolding ◌⊗◌
equal-represents ρ σ w e r = record { base = r.base; same = λ v h. equal-step (ρ v).top (ρ v).bottom (σ v).top (σ v).bottom (w 8) (w v) (up (ρ v)) (e v h) (r.same v h) }

-- ---- the test: nine numbers are a vector as they stand

and-join : (a b : Bool) → a && b ≡ join true a b
and-join true b = refl
and-join false b = refl

sum-dot : (ns w : List ℤ) → sum_to 9 (λ i. at ns i ⊗ at w i) ≡ dot (at ns) (at w)
unfolding dot
sum-dot ns w = total-sum 9 (λ i. at ns i ⊗ at w i)

mutual
  unfolding true_at ◌⊗◌

  pub true_at-truth : (w : List ℤ) (f : Formula) → true_at w f ≡ truth f (at w)
  true_at-truth w (atom c ns) = holds_test c _ ∙ ap (λ (z : ℤ). test c (sgn z)) (sum-dot ns w)
  true_at-truth w (not f) = ap Bool.not (true_at-truth w f)
  true_at-truth w (list b fs) = all_true_at-truth b w fs
  true_at-truth w (quant b v f) = refl
  true_at-truth w (window v lo hi) = ap₂ (λ (a b : Bool). a && b) (atmost-test (lo ⊗ at w 8) (at w v)) (atmost-test (at w v) (hi ⊗ at w 8))
      ∙ and-join (test atmost (sgn (lower v lo (at w)))) (test atmost (sgn (upper v hi (at w))))

  all_true_at-truth : (b : Bool) (w : List ℤ) (fs : Formulas) → all_true_at b w fs ≡ truths b fs (at w)
  all_true_at-truth b w none = refl
  all_true_at-truth b w (more f fs) = ap₂ (join b) (true_at-truth w f) (all_true_at-truth b w fs)
