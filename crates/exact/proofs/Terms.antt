-- Boundary terms and midpoints: what the loops that make them have done, their sizes and lengths, that their denominators are above 0,
-- that the midpoint of a term with itself is the term, and that an atom and its negation have one term and a WINDOW's two atoms its bounds.
-- Assumes nothing.
-- ---- a number with its variable left out, or its sign turned
use mathlib.Core.Logic.{◌⊎◌, inl, inr}
use native.Mathlib.Nat as N
use lib.Seq.{ext_get_or}
use mathlib.Core.Path.{◌≡◌, refl, sym, ◌∙◌, ap, ap₂, subst}
use mathlib.Core.List.{List}
use mathlib.Core.Bool.{Bool, true, false, not, cond}
use Prim.Native.Nat.{◌*◌, ℕ, ◌<◌, zero-le, zero, suc}
use native.Mathlib.Omega.{arith}
use lib.Dec.{T, leb-suc-zero, eqb, ltb, lit<}
use borrow.Author.Tests.{lt-ltb, ltb-true, eq-eqb, ne_eqb, eqb-true}
use lib.ListN.{set, length, replicate, length-set, get_or-replicate}
use lib.IntN.{ℤ, pos, ◌+ℤ◌, ◌*ℤ◌, negsuc, neg_ℤ, neg_ℤ-neg_ℤ, *ℤ_comm}
use lib.Signed.{lt_z}
use Rattle.reading.specs.Limits.{M}
use Rattle.exact.specs.Numbers.{at, is_zero, minus, single, tab, Within, Each}
use Rattle.exact.specs.Terms.{left_at, turned, term_at, mid_at, mid_of, bound_of, term_of, midpoint}
use Rattle.exact.specs.Divisor.{reduced}
use Rattle.exact.proofs.Ring.{◌⊕◌, ◌⊗◌, ring, two-⊗}
use Rattle.exact.proofs.Order.{positive, sgn, up-⊗, above-pos}
use Rattle.exact.proofs.Sizes.{in-neg, in-more, in-+, in-*, in-lit}
use Rattle.exact.proofs.Loops.{fill_done, length-tab, tab-ext}
use Rattle.reading.proofs.Filling.{Filled, fill_more}
use Rattle.exact.proofs.Rows.{each-tab, each-reduced, at-minus, at-tab, at-times, at_set, at-single, single-here, each-cons, each_nil, length-times, times, unit-reduced}
use Rattle.exact.proofs.Reduced.{sgn-reduced, reduced-scale}

pub left_out : (ns : List ℤ) (x i : ℕ) → i ≡ x → pos 0 ≡ left_at ns x i
unfolding left_at
left_out ns x i e = sym (ap (λ (b : Bool). cond b (pos 0) (at ns i)) (eq-eqb i x e))

pub left_in : (ns : List ℤ) (x i : ℕ) → (i ≡ x → ⊥) → at ns i ≡ left_at ns x i
unfolding left_at
left_in ns x i n = sym (ap (λ (b : Bool). cond b (pos 0) (at ns i)) (ne_eqb i x n))

pub in_left : {n : ℕ} {ns : List ℤ} (x i : ℕ) → Each n ns → Within n (left_at ns x i)
unfolding left_at
in_left {n} {ns} x i e = go (eqb i x)
  where
    go : (b : Bool) → Within n (cond b (pos 0) (at ns i))
    go true = record { size = zero-le }
    go false = e.at i

in-turned : {n : ℕ} {z : ℤ} (b : Bool) → Within n z → Within n (turned b z)
in-turned true h = in-neg h
in-turned false h = h

-- ---- the boundary term before it is reduced

pub term-low : (ns : List ℤ) (x i : ℕ) → i < 9 → turned (not (lt_z (at ns x) (pos 0))) (left_at ns x i) ≡ term_at ns x i
unfolding term_at
term-low ns x i h =
    sym (ap (λ (b : Bool). cond b (turned (not (lt_z (at ns x) (pos 0))) (left_at ns x i)) (turned (lt_z (at ns x) (pos 0)) (at ns x))) (lt-ltb i 9 h))

term-last : (ns : List ℤ) (x : ℕ) → turned (lt_z (at ns x) (pos 0)) (at ns x) ≡ term_at ns x 9
unfolding term_at
term-last ns x = refl

pub term-done : (ns : List ℤ) (x : ℕ) {m : List ℤ} {v : ℤ} → Filled (pos 0) (term_at ns x) 10 m 9 → v ≡ turned (lt_z (at ns x) (pos 0)) (at ns x) → set m 9 v ≡ tab 10 (term_at ns x)
term-done ns x {m} {v} f e = fill_done (pos 0) (term_at ns x) 10 (fill_more (pos 0) (term_at ns x) 10 v (lit< tt) f (e ∙ term-last ns x))

-- ---- the midpoint before it is reduced

pub mid-low : (t u : List ℤ) (i : ℕ) → i < 9 → at t i *ℤ at u 9 +ℤ at u i *ℤ at t 9 ≡ mid_at t u i
unfolding mid_at
mid-low t u i h = sym (ap (λ (b : Bool). cond b (at t i *ℤ at u 9 +ℤ at u i *ℤ at t 9) (pos 2 *ℤ at t 9 *ℤ at u 9)) (lt-ltb i 9 h))

pub mid-last : (t u : List ℤ) → pos 2 *ℤ at t 9 *ℤ at u 9 ≡ mid_at t u 9
unfolding mid_at
mid-last t u = refl

pub mid_done : (t u : List ℤ) {m : List ℤ} {v : ℤ} → Filled (pos 0) (mid_at t u) 10 m 9 → v ≡ pos 2 *ℤ at t 9 *ℤ at u 9 → set m 9 v ≡ mid_of t u
unfolding mid_of
mid_done t u {m} {v} f e = fill_done (pos 0) (mid_at t u) 10 (fill_more (pos 0) (mid_at t u) 10 v (lit< tt) f (e ∙ mid-last t u))

-- ---- sizes

pub each-raw : {ns : List ℤ} (x : ℕ) → Each M ns → Each M (tab 10 (term_at ns x))
unfolding term_at
each-raw {ns} x e = each-tab 10 (term_at ns x) (λ i. go i (ltb i 9))
  where
    go : (i : ℕ) (b : Bool) → Within M (cond b (turned (not (lt_z (at ns x) (pos 0))) (left_at ns x i)) (turned (lt_z (at ns x) (pos 0)) (at ns x)))
    go i true = in-turned (not (lt_z (at ns x) (pos 0))) (in_left x i e)
    go i false = in-turned (lt_z (at ns x) (pos 0)) (e.at x)

pub each-mid : {t u : List ℤ} → Each M t → Each M u → Each 9223372036854775807 (mid_of t u)
unfolding mid_of mid_at
each-mid {t} {u} p q = each-tab 10 (mid_at t u) (λ i. go i (ltb i 9))
  where
    go : (i : ℕ) (b : Bool) → Within 9223372036854775807 (cond b (at t i *ℤ at u 9 +ℤ at u i *ℤ at t 9) (pos 2 *ℤ at t 9 *ℤ at u 9))
    go i true = in-more (in-+ (in-* (p.at i) (q.at 9)) (in-* (q.at i) (p.at 9))) (omega arith)
    go i false = in-more (in-* (in-* (in-lit {n = 2} {z = pos 2} tt) (p.at 9)) (q.at 9)) (omega arith)

-- the reduced midpoint is judged by `within_all`, which asks for this
pub each-midpoint : {t u : List ℤ} → Each M t → Each M u → Each 9223372036854775807 (midpoint t u)
unfolding midpoint
each-midpoint p q = each-reduced (each-mid p q)

pub each-term : {ns : List ℤ} (x : ℕ) → Each M ns → Each M (term_of ns x)
unfolding term_of
each-term x e = each-reduced (each-raw x e)

pub each-bound : {c : ℤ} → Within M c → Each M (bound_of c)
unfolding bound_of
each-bound h =
    let o : Within M (pos 0) = in-lit tt in
    each-cons o (each-cons o (each-cons o (each-cons o (each-cons o (each-cons o (each-cons o (each-cons o (each-cons h (each-cons (in-lit tt) each_nil)))))))))

-- ---- a denominator above 0

turned-above : (a : ℤ) → is_zero a ≡ false → sgn (turned (lt_z a (pos 0)) a) ≡ positive
unfolding sgn
turned-above (pos zero) h = absurd (subst T h tt)
turned-above (pos (suc n)) h = ap (λ (b : Bool). sgn (turned b (pos (suc n)))) (leb-suc-zero (suc n))
turned-above (negsuc n) h = refl

pub raw-last : (ns : List ℤ) (x : ℕ) → at (tab 10 (term_at ns x)) 9 ≡ turned (lt_z (at ns x) (pos 0)) (at ns x)
raw-last ns x = at-tab 10 (term_at ns x) 9 (lit< tt) ∙ sym (term-last ns x)

pub raw_above : (ns : List ℤ) (x : ℕ) → is_zero (at ns x) ≡ false → sgn (at (tab 10 (term_at ns x)) 9) ≡ positive
raw_above ns x h = ap sgn (raw-last ns x) ∙ turned-above (at ns x) h

pub term-above : (ns : List ℤ) (x : ℕ) → is_zero (at ns x) ≡ false → sgn (at (term_of ns x) 9) ≡ positive
unfolding term_of
term-above ns x h = sgn-reduced (tab 10 (term_at ns x)) 9 ∙ raw_above ns x h

mid-raw-last : (t u : List ℤ) → at (mid_of t u) 9 ≡ pos 2 *ℤ at t 9 *ℤ at u 9
unfolding mid_of
mid-raw-last t u = at-tab 10 (mid_at t u) 9 (lit< tt) ∙ sym (mid-last t u)

pub mid-raw-above : (t u : List ℤ) → sgn (at t 9) ≡ positive → sgn (at u 9) ≡ positive → sgn (at (mid_of t u) 9) ≡ positive
unfolding sgn ◌⊗◌
mid-raw-above t u h k = ap sgn (mid-raw-last t u) ∙ up-⊗ (pos 2 *ℤ at t 9) (at u 9) (up-⊗ (pos 2) (at t 9) refl h) k

pub mid-above : (t u : List ℤ) → sgn (at t 9) ≡ positive → sgn (at u 9) ≡ positive → sgn (at (midpoint t u) 9) ≡ positive
unfolding midpoint
mid-above t u h k = sgn-reduced (mid_of t u) 9 ∙ mid-raw-above t u h k

-- ---- midpoint i with i is the term

double : (x d : ℤ) → x *ℤ d +ℤ x *ℤ d ≡ x *ℤ (pos 2 *ℤ d)
unfolding ◌⊕◌ ◌⊗◌
double x d = sealed
  where
    sealed : x ⊗ d ⊕ x ⊗ d ≡ x ⊗ (pos 2 ⊗ d)
    sealed = simp (two-⊗, ring)

module _ (t : List ℤ) (n : ℕ) (e : at t 9 ≡ pos (suc n)) where
  same_number : (i : ℕ) → (i ≡ 9) ⊎ (i < 9) → mid_at t t i ≡ at t i *ℤ pos (2 * suc n)
  same_number i (inl q) = ap (mid_at t t) q ∙ sym (mid-last t t) ∙ *ℤ_comm (pos 2 *ℤ at t 9) (at t 9) ∙ ap₂ (λ (y z : ℤ). y *ℤ (pos 2 *ℤ z)) (ap (at t) (sym q)) e
  same_number i (inr h) = sym (mid-low t t i h) ∙ double (at t i) (at t 9) ∙ ap (λ (z : ℤ). at t i *ℤ (pos 2 *ℤ z)) e

  mid-times : length t ≡ 10 → mid_of t t ≡ times (2 * suc n) t
  unfolding mid_of
  mid-times l =
      ext_get_or (pos 0) (mid_of t t) (times (2 * suc n) t) (length-tab 10 (mid_at t t) ∙ sym (length-times (2 * suc n) t ∙ l))
      (λ i h. let k : i < 10 = subst (λ (m : ℕ). i < m) (length-tab 10 (mid_at t t)) h in
      at-tab 10 (mid_at t t) i k ∙ same_number i (N.eq-or-lt_of_le (N.le_of_suc-le-suc k)) ∙ sym (at-times (2 * suc n) t i))

pub mid-self : (t : List ℤ) → length t ≡ 10 → sgn (at t 9) ≡ positive → reduced t ≡ t → midpoint t t ≡ t
unfolding midpoint
mid-self t l a r = let m = above-pos (at t 9) a in ap reduced (mid-times t m.0 m.1 l) ∙ reduced-scale (2 * suc m.0) t (omega arith) ∙ r

-- ---- turning each sign of an atom leaves its boundary term as it is

left-minus : (ns : List ℤ) (x i : ℕ) → left_at (minus ns) x i ≡ neg_ℤ (left_at ns x i)
unfolding left_at
left-minus ns x i = go (eqb i x)
  where
    go : (b : Bool) → cond b (pos 0) (at (minus ns) i) ≡ neg_ℤ (cond b (pos 0) (at ns i))
    go true = refl
    go false = at-minus ns i

turn_twice : (b : Bool) (z : ℤ) → turned (not b) (neg_ℤ z) ≡ turned b z
turn_twice true z = refl
turn_twice false z = neg_ℤ-neg_ℤ z

neg-below : (a : ℤ) → is_zero a ≡ false → lt_z (neg_ℤ a) (pos 0) ≡ not (lt_z a (pos 0))
neg-below (pos zero) h = absurd (subst T h tt)
neg-below (pos (suc n)) h = sym (ap not (leb-suc-zero (suc n)))
neg-below (negsuc n) h = leb-suc-zero (suc n)

pub term-minus : (ns : List ℤ) (x : ℕ) → is_zero (at ns x) ≡ false → term_of (minus ns) x ≡ term_of ns x
unfolding term_of term_at
term-minus ns x h = ap reduced (tab-ext 10 (term_at (minus ns) x) (term_at ns x) (λ i _. ap₂ (λ (y z : ℤ). cond (ltb i 9) y z) (low i) high))
  where
    s : lt_z (at (minus ns) x) (pos 0) ≡ not (lt_z (at ns x) (pos 0))
    s = ap (λ (z : ℤ). lt_z z (pos 0)) (at-minus ns x) ∙ neg-below (at ns x) h

    low : (i : ℕ) → turned (not (lt_z (at (minus ns) x) (pos 0))) (left_at (minus ns) x i) ≡ turned (not (lt_z (at ns x) (pos 0))) (left_at ns x i)
    low i = ap₂ (λ (b : Bool) (z : ℤ). turned (not b) z) s (left-minus ns x i) ∙ turn_twice (not (lt_z (at ns x) (pos 0))) (left_at ns x i)

    high : turned (lt_z (at (minus ns) x) (pos 0)) (at (minus ns) x) ≡ turned (lt_z (at ns x) (pos 0)) (at ns x)
    high = ap₂ turned s (at-minus ns x) ∙ turn_twice (lt_z (at ns x) (pos 0)) (at ns x)

-- ---- the two atoms of a WINDOW have the terms lo/1 and hi/1

-- number i of ± v + c with v left out
pub left-single : (v : ℕ) (a c : ℤ) (i : ℕ) → v < 8 → i < 9 → left_at (single v a c) v i ≡ cond (eqb i 8) c (pos 0)
unfolding left_at
left-single v a c i h k = ap (cond (eqb i v) (pos 0)) (at-single v a c i k) ∙ go (eqb i v) (eqb i 8) refl refl
  where
    go : (b d : Bool) → eqb i v ≡ b → eqb i 8 ≡ d → cond b (pos 0) (cond d c (cond b a (pos 0))) ≡ cond d c (pos 0)
    go true true p q = let m = eqb-true i v p in let n = eqb-true i 8 q in absurd (omega arith)
    go true false p q = refl
    go false d p q = refl

pub at_bound : (c : ℤ) (i : ℕ) → i < 10 → at (bound_of c) i ≡ cond (eqb i 9) (pos 1) (cond (eqb i 8) c (pos 0))
unfolding bound_of
at_bound c i h =
    at_set (set (replicate 10 (pos 0)) 8 c) 9 (pos 1) i (rw (length-set (replicate 10 (pos 0)) 8 c) h)
    ∙ ap (cond (eqb i 9) (pos 1)) (at_set (replicate 10 (pos 0)) 8 c i h ∙ ap (cond (eqb i 8) c) (get_or-replicate 10 i (pos 0) (pos 0) h))

bound-reduced : (c : ℤ) → reduced (bound_of c) ≡ bound_of c
unfolding bound_of
bound-reduced c = unit-reduced (bound_of c) 9 refl

side-below : (s : Bool) → lt_z (turned s (pos 1)) (pos 0) ≡ s
side-below true = refl
side-below false = refl

-- v + c for the coefficient 1, −v + c for −1: the term is −c or c
pub term-single : (v : ℕ) (s : Bool) (c : ℤ) → v < 8 → term_of (single v (turned s (pos 1)) c) v ≡ bound_of (turned (not s) c)
unfolding term_of term_at bound_of
term-single v s c h = ap reduced (tab-ext 10 (term_at ns v) (number s) same ∙ bound s) ∙ bound-reduced (turned (not s) c)
  where
    ns : List ℤ
    ns = single v (turned s (pos 1)) c

    number : Bool → ℕ → ℤ
    number s i = cond (ltb i 9) (turned (not s) (cond (eqb i 8) c (pos 0))) (pos 1)

    below : lt_z (at ns v) (pos 0) ≡ s
    below = ap (λ (z : ℤ). lt_z z (pos 0)) (single-here v (turned s (pos 1)) c h) ∙ side-below s

    one : (s : Bool) → turned s (turned s (pos 1)) ≡ pos 1
    one true = refl
    one false = refl

    same : (i : ℕ) → i < 10 → term_at ns v i ≡ number s i
    same i k = go (ltb i 9) refl
      where
        go : (b : Bool) → ltb i 9 ≡ b
            → cond b (turned (not (lt_z (at ns v) (pos 0))) (left_at ns v i)) (turned (lt_z (at ns v) (pos 0)) (at ns v)) ≡ cond b (turned (not s) (cond (eqb i 8) c (pos 0))) (pos 1)
        go true e = ap₂ (λ (b : Bool) (z : ℤ). turned (not b) z) below (left-single v (turned s (pos 1)) c i h (ltb-true i 9 e))
        go false e = ap₂ turned below (single-here v (turned s (pos 1)) c h) ∙ one s

    bound : (s : Bool) → tab 10 (number s) ≡ bound_of (turned (not s) c)
    bound true = refl
    bound false = refl
