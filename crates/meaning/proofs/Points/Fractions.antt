-- The line of the fractions, and terms as points of it: at a vector a boundary term of ten numbers is a fraction, and the midpoint of two terms
-- lies between them. Which fraction is the greater is the sign of a cross product, so each law of the order is an equation in the ring.
-- Assumes nothing.
use mathlib.Core.Path.{◌≡◌, refl, sym, ◌∙◌, ap, ap₂}
use mathlib.Core.Bool.{Bool, true, false}
use mathlib.Core.List.{List}
use Prim.Native.Nat.{ℕ, ◌<◌}
use native.Mathlib.Omega.{arith}
use lib.Dec.{lit<}
use lib.IntN.{ℤ, pos}
use Rattle.exact.specs.Numbers.{at}
use Rattle.exact.specs.Terms.{mid_at, mid_of, midpoint}
use Rattle.exact.proofs.Rows.{at-tab}
use Rattle.exact.proofs.Terms.{mid-low, mid-last, mid-raw-above}
use Rattle.meaning.specs.Meaning.{Fraction}
use Rattle.exact.proofs.Ring.{◌⊕◌, ◌⊗◌, ⊖, ◌⊝◌, O, ring, sub_is, ⊗-O, ⊕-idl, two-⊗, ⊗-assoc, ⊗-comm}
use Rattle.exact.proofs.Order.{Sign, negative, null, positive, sgn, turn, sgn-⊖, sgn-null, sgn-⊕, sgn-up, up-⊗, sgn-above, above-sgn}
use Rattle.meaning.proofs.Sums.{dot, dot-same, dot-times, dot-plus, Multiple, reduced-multiple, dot-multiple}
use Rattle.meaning.proofs.Points.TestPoints.{Line, dir}

pub up : (x : Fraction) → sgn x.bottom ≡ positive
up x = sgn-above x.bottom x.above

abbrev pub fraction : (m e : ℤ) → sgn e ≡ positive → Fraction
fraction m e h = record { top = m; bottom = e; above = above-sgn e h }

chain : (mx ex my ey mz ez : ℤ) → ey ⊗ (mx ⊗ ez ⊝ mz ⊗ ex) ≡ ez ⊗ (mx ⊗ ey ⊝ my ⊗ ex) ⊕ ex ⊗ (my ⊗ ez ⊝ mz ⊗ ey)
chain mx ex my ey mz ez = simp ring

halfway-left : (mx ex my ey : ℤ) → mx ⊗ (ex ⊗ ey ⊕ ex ⊗ ey) ⊝ (mx ⊗ ey ⊕ my ⊗ ex) ⊗ ex ≡ ex ⊗ (mx ⊗ ey ⊝ my ⊗ ex)
halfway-left mx ex my ey = simp ring

halfway-right : (mx ex my ey : ℤ) → (mx ⊗ ey ⊕ my ⊗ ex) ⊗ ey ⊝ my ⊗ (ex ⊗ ey ⊕ ex ⊗ ey) ≡ ey ⊗ (mx ⊗ ey ⊝ my ⊗ ex)
halfway-right mx ex my ey = simp ring

abbrev pub cross : Fraction → Fraction → ℤ
cross x y = x.top ⊗ y.bottom ⊝ y.top ⊗ x.bottom

abbrev pub cmp : Fraction → Fraction → Sign
cmp x y = sgn (cross x y)

cross-swap : (x y : Fraction) → cross y x ≡ ⊖ (cross x y)
cross-swap x y = simp ring

cross-chain : (x y z : Fraction) → y.bottom ⊗ cross x z ≡ z.bottom ⊗ cross x y ⊕ x.bottom ⊗ cross y z
cross-chain x y z = chain x.top x.bottom y.top y.bottom z.top z.bottom

cmp-anti : (x y : Fraction) → cmp y x ≡ turn (cmp x y)
cmp-anti x y = ap sgn (cross-swap x y) ∙ sgn-⊖ _

cmp-trans : (x y z : Fraction) (s : Sign) → cmp x y ≡ s → cmp y z ≡ s → cmp x z ≡ s
cmp-trans x y z s h k = sym (sgn-up y.bottom _ (up y)) ∙ ap sgn (cross-chain x y z)
    ∙ sgn-⊕ _ _ (sgn-up z.bottom _ (up z) ∙ h) (sgn-up x.bottom _ (up x) ∙ k)

cmp-level : (x y z : Fraction) → cmp x y ≡ null → cmp x z ≡ cmp y z
cmp-level x y z h = sym (sgn-up y.bottom _ (up y)) ∙ ap sgn (cross-chain x y z ∙ drop) ∙ sgn-up x.bottom _ (up x)
  where
    drop : z.bottom ⊗ cross x y ⊕ x.bottom ⊗ cross y z ≡ x.bottom ⊗ cross y z
    drop = ap (λ (u : ℤ). z.bottom ⊗ u ⊕ x.bottom ⊗ cross y z) (sgn-null _ h) ∙ simp (⊗-O, ⊕-idl)

-- ---- terms

abbrev pub Ok : List ℤ → Type 0
Ok t = sgn (at t 9) ≡ positive

abbrev one-or : Sign → ℤ → ℤ
one-or negative z = pos 1
one-or null z = pos 1
one-or positive z = z

-- z where it is above 0
pub or_one : ℤ → ℤ
or_one z = one-or (sgn z) z

one-or-up : (s : Sign) (z : ℤ) → sgn z ≡ s → sgn (one-or s z) ≡ positive
unfolding sgn
one-or-up negative z e = refl
one-or-up null z e = refl
one-or-up positive z e = e

pub or_one-up : (z : ℤ) → sgn (or_one z) ≡ positive
unfolding or_one
or_one-up z = one-or-up (sgn z) z refl

pub or_one-is : (z : ℤ) → sgn z ≡ positive → or_one z ≡ z
unfolding or_one
or_one-is z e = ap (λ (s : Sign). one-or s z) e

-- a term at a vector
abbrev pub ev : (ℕ → ℤ) → List ℤ → Fraction
ev w t = record { top = dot (at t) w; bottom = or_one (at t 9); above = above-sgn (or_one (at t 9)) (or_one-up (at t 9)) }

cross-multiple : (m e g t d : ℤ) → m ⊗ (g ⊗ d) ⊝ (g ⊗ t) ⊗ e ≡ g ⊗ (m ⊗ d ⊝ t ⊗ e)
cross-multiple m e g t d = simp ring

ok-multiple : (s t : List ℤ) → Multiple s t → Ok t → Ok s
ok-multiple s t k h = sym (sgn-up k.by (at s 9) k.by-up) ∙ ap sgn (sym (k.at-is 9)) ∙ h

pub cmp-ok : (w : ℕ → ℤ) (t : List ℤ) (x : Fraction) → Ok t → cmp x (ev w t) ≡ sgn (x.top ⊗ at t 9 ⊝ dot (at t) w ⊗ x.bottom)
cmp-ok w t x h = ap (λ (d : ℤ). sgn (x.top ⊗ d ⊝ dot (at t) w ⊗ x.bottom)) (or_one-is (at t 9) h)

pub cmp-multiple : (w : ℕ → ℤ) (s t : List ℤ) (x : Fraction) → Multiple s t → Ok t → cmp x (ev w t) ≡ cmp x (ev w s)
cmp-multiple w s t x k h =
    cmp-ok w t x h ∙ ap₂ (λ (d n : ℤ). sgn (x.top ⊗ d ⊝ n ⊗ x.bottom)) (k.at-is 9) (dot-multiple s t w k)
    ∙ ap sgn (cross-multiple x.top x.bottom k.by (dot (at s) w) (at s 9)) ∙ sgn-up k.by _ k.by-up ∙ sym (cmp-ok w s x (ok-multiple s t k h))

cmp-multiple-l : (w : ℕ → ℤ) (s t : List ℤ) (x : Fraction) → Multiple s t → Ok t → cmp (ev w s) x ≡ cmp (ev w t) x
cmp-multiple-l w s t x k h = cmp-anti x (ev w s) ∙ ap turn (sym (cmp-multiple w s t x k h)) ∙ sym (cmp-anti x (ev w t))

-- ---- the midpoint of two terms, before it is reduced and after

mid-bottom : (a b : List ℤ) → at (mid_of a b) 9 ≡ at a 9 ⊗ at b 9 ⊕ at a 9 ⊗ at b 9
unfolding mid_of ◌⊗◌
mid-bottom a b = at-tab 10 (mid_at a b) 9 (lit< tt) ∙ sym (mid-last a b) ∙ ⊗-assoc (pos 2) (at a 9) (at b 9) ∙ two-⊗ (at a 9 ⊗ at b 9)

at-mid_of : (a b : List ℤ) (i : ℕ) → i < 9 → at (mid_of a b) i ≡ at b 9 ⊗ at a i ⊕ at a 9 ⊗ at b i
unfolding mid_of ◌⊗◌ ◌⊕◌
at-mid_of a b i h = at-tab 10 (mid_at a b) i (omega arith) ∙ sym (mid-low a b i h) ∙ ap₂ ◌⊕◌ (⊗-comm (at a i) (at b 9)) (⊗-comm (at b i) (at a 9))

dot-mid : (w : ℕ → ℤ) (a b : List ℤ) → dot (at (mid_of a b)) w ≡ dot (at a) w ⊗ at b 9 ⊕ dot (at b) w ⊗ at a 9
dot-mid w a b =
    dot-same (at (mid_of a b)) (λ i. at b 9 ⊗ at a i ⊕ at a 9 ⊗ at b i) w (at-mid_of a b) ∙ dot-plus (λ i. at b 9 ⊗ at a i) (λ i. at a 9 ⊗ at b i) w
    ∙ ap₂ ◌⊕◌ (dot-times (at b 9) (at a) w ∙ ⊗-comm _ _) (dot-times (at a 9) (at b) w ∙ ⊗-comm _ _)

mid-left : (w : ℕ → ℤ) (a b : List ℤ) → Ok a → Ok b → cmp (ev w a) (ev w (mid_of a b)) ≡ cmp (ev w a) (ev w b)
mid-left w a b h k =
    cmp-ok w (mid_of a b) (ev w a) (mid-raw-above a b h k)
    ∙ ap (λ (d : ℤ). sgn (dot (at a) w ⊗ d ⊝ dot (at (mid_of a b)) w ⊗ or_one (at a 9))) (mid-bottom a b)
    ∙ ap₂ (λ (u e : ℤ). sgn (dot (at a) w ⊗ (at a 9 ⊗ at b 9 ⊕ at a 9 ⊗ at b 9) ⊝ u ⊗ e)) (dot-mid w a b) (or_one-is (at a 9) h)
    ∙ ap sgn (halfway-left (dot (at a) w) (at a 9) (dot (at b) w) (at b 9)) ∙ sgn-up (at a 9) _ h
    ∙ ap (λ (e : ℤ). sgn (dot (at a) w ⊗ at b 9 ⊝ dot (at b) w ⊗ e)) (sym (or_one-is (at a 9) h)) ∙ sym (cmp-ok w b (ev w a) k)

mid-right : (w : ℕ → ℤ) (a b : List ℤ) → Ok a → Ok b → cmp (ev w (mid_of a b)) (ev w b) ≡ cmp (ev w a) (ev w b)
mid-right w a b h k =
    cmp-ok w b (ev w (mid_of a b)) k
    ∙ ap₂ (λ (u e : ℤ). sgn (u ⊗ at b 9 ⊝ dot (at b) w ⊗ e)) (dot-mid w a b) (or_one-is (at (mid_of a b) 9) (mid-raw-above a b h k) ∙ mid-bottom a b)
    ∙ ap sgn (halfway-right (dot (at a) w) (at a 9) (dot (at b) w) (at b 9)) ∙ sgn-up (at b 9) _ k
    ∙ ap (λ (e : ℤ). sgn (dot (at a) w ⊗ at b 9 ⊝ dot (at b) w ⊗ e)) (sym (or_one-is (at a 9) h)) ∙ sym (cmp-ok w b (ev w a) k)

midpoint-multiple : (a b : List ℤ) → Multiple (midpoint a b) (mid_of a b)
unfolding midpoint
midpoint-multiple a b = reduced-multiple (mid_of a b)

origin : Fraction
origin = record { top = O; bottom = pos 1; above = record { lt = tt } }

away : Bool → Fraction → Fraction
away true x = record { top = x.top ⊝ x.bottom; bottom = x.bottom; above = x.above }
away false x = record { top = x.top ⊕ x.bottom; bottom = x.bottom; above = x.above }

away-l : (m e : ℤ) → (m ⊝ e) ⊗ e ⊝ m ⊗ e ≡ ⊖ (e ⊗ e)
away-l m e = simp ring

away-r : (m e : ℤ) → (m ⊕ e) ⊗ e ⊝ m ⊗ e ≡ e ⊗ e
away-r m e = sub_is _ _ _ (simp ring)

away-is : (d : Bool) (x : Fraction) → cmp (away d x) x ≡ dir d
unfolding away
away-is true x = ap sgn (away-l x.top x.bottom) ∙ sgn-⊖ _ ∙ ap turn (up-⊗ x.bottom x.bottom (up x) (up x))
away-is false x = ap sgn (away-r x.top x.bottom) ∙ up-⊗ x.bottom x.bottom (up x) (up x)

-- the fractions, with the reduced midpoints of terms
pub line : (w : ℕ → ℤ) → Line Fraction (List ℤ) cmp (ev w) Ok midpoint
line w = record {
  anti = cmp-anti;
  trans = cmp-trans;
  level = cmp-level;
  mid-l = λ a b h k. sym (cmp-multiple w (midpoint a b) (mid_of a b) (ev w a) (midpoint-multiple a b) (mid-raw-above a b h k)) ∙ mid-left w a b h k;
  mid-r = λ a b h k. cmp-multiple-l w (midpoint a b) (mid_of a b) (ev w b) (midpoint-multiple a b) (mid-raw-above a b h k) ∙ mid-right w a b h k;
  some = origin;
  far = away;
  far-is = away-is;
}
