-- Sums by index. A row is taken as the function of its numbers (`at ns`), a vector as eight numerators at 0 .. 7 and their common denominator at 8;
-- `dot` is the value of the row at the vector, times the denominator. No law asks for a length. Assumes nothing.
use mathlib.Core.Path.{◌≡◌, refl, sym, ◌∙◌, ap, ap₂}
use mathlib.Core.Bool.{Bool, true, false, cond, ◌&&◌}
use mathlib.Core.List.{List, [], ◌∷◌}
use Prim.Native.Nat.{ℕ, zero, suc, ◌<◌}
use native.Mathlib.Omega.{arith}
use lib.Dec.{T, eqb, eqb-zero-suc, eqb-suc-zero, eqb-suc-suc, lit<}
use lib.IntN.{ℤ, pos}
use lib.ListN.{take}
use borrow.Author.Tests.{ne_eqb, eqb-true, eqb-false}
use Rattle.exact.specs.Numbers.{at, is_zero}
use Rattle.exact.specs.Divisor.{reduced}
use Rattle.exact.specs.Atoms.{all_zero}
use Rattle.exact.proofs.Rows.{at-times}
use Rattle.exact.proofs.Reduced.{reduced-by}
use Rattle.exact.proofs.Sizes.{zero_of}
use Rattle.rules.specs.Test.{sum_to}
use Rattle.exact.proofs.Ring.{◌⊕◌, ◌⊗◌, O, ring, ⊗-assoc, ⊗-distr, ⊗-comm, ⊕-comm, ⊕-idl, ⊕-idr, O-⊗, ⊗-O}
use Rattle.exact.proofs.Order.{positive, sgn, sgn-up}

-- f 0 + f 1 + .. of n numbers
unfoldable pub total : ℕ → (ℕ → ℤ) → ℤ
total zero f = O
total (suc n) f = f 0 ⊕ total n (λ i. f (suc i))

pub total-sum : (n : ℕ) (f : ℕ → ℤ) → sum_to n f ≡ total n f
unfolding total sum_to ◌⊕◌
total-sum zero f = refl
total-sum (suc n) f = ap (λ (z : ℤ). f 0 ⊕ z) (total-sum n (λ i. f (suc i)))

total-same : (n : ℕ) (f g : ℕ → ℤ) → ((i : ℕ) → i < n → f i ≡ g i) → total n f ≡ total n g
unfolding total
total-same zero f g h = refl
total-same (suc n) f g h = ap₂ ◌⊕◌ (h 0 (omega arith)) (total-same n (λ i. f (suc i)) (λ i. g (suc i)) (λ i k. h (suc i) (omega arith)))

scale-step : (e x y z : ℤ) → y ≡ e ⊗ z → e ⊗ x ⊕ y ≡ e ⊗ (x ⊕ z)
scale-step e x y z h = rw h (simp ring)

total-scaled : (n : ℕ) (e : ℤ) (f : ℕ → ℤ) → total n (λ i. e ⊗ f i) ≡ e ⊗ total n f
unfolding total
total-scaled zero e f = sym (⊗-O e)
total-scaled (suc n) e f = scale-step e (f 0) _ _ (total-scaled n e (λ i. f (suc i)))

plus_step : (x y a b c : ℤ) → a ≡ b ⊕ c → (x ⊕ y) ⊕ a ≡ (x ⊕ b) ⊕ (y ⊕ c)
plus_step x y a b c h = rw h (simp ring)

total-plus : (n : ℕ) (f g : ℕ → ℤ) → total n (λ i. f i ⊕ g i) ≡ total n f ⊕ total n g
unfolding total
total-plus zero f g = sym (⊕-idl O)
total-plus (suc n) f g = plus_step (f 0) (g 0) _ _ _ (total-plus n (λ i. f (suc i)) (λ i. g (suc i)))

total-none : (n : ℕ) → total n (λ i. O) ≡ O
unfolding total
total-none zero = refl
total-none (suc n) = ⊕-idl _ ∙ total-none n

last_step : (x a b c : ℤ) → a ≡ b ⊕ c → x ⊕ a ≡ (x ⊕ b) ⊕ c
last_step x a b c h = rw h (simp ring)

pub total-last : (n : ℕ) (f : ℕ → ℤ) → total (suc n) f ≡ total n f ⊕ f n
unfolding total
total-last zero f = ⊕-idr (f 0) ∙ sym (⊕-idl (f 0))
total-last (suc n) f = last_step (f 0) _ _ _ (total-last n (λ i. f (suc i)))

-- all but one are 0
total-only : (n x : ℕ) (f : ℕ → ℤ) → x < n → total n (λ i. cond (eqb i x) (f i) O) ≡ f x
unfolding total
total-only zero x f h = absurd (omega arith)
total-only (suc n) zero f h =
    ap (λ (z : ℤ). f 0 ⊕ z) (total-same n _ (λ i. O) (λ i k. ap (λ (b : Bool). cond b (f (suc i)) O) (eqb-suc-zero i)) ∙ total-none n) ∙ ⊕-idr (f 0)
total-only (suc n) (suc x) f h =
    ap₂ ◌⊕◌ (ap (λ (b : Bool). cond b (f 0) O) (eqb-zero-suc x)) (total-same n _ (λ i. cond (eqb i x) (f (suc i)) O) (λ i k. ap (λ (b : Bool). cond b (f (suc i)) O) (eqb-suc-suc i x)))
    ∙ ⊕-idl _ ∙ total-only n x (λ i. f (suc i)) (omega arith)

-- ---- a row at a vector

unfoldable pub dot : (ℕ → ℤ) → (ℕ → ℤ) → ℤ
dot c w = total 9 (λ i. c i ⊗ w i)

pub dot-same : (b c w : ℕ → ℤ) → ((i : ℕ) → i < 9 → b i ≡ c i) → dot b w ≡ dot c w
unfolding dot
dot-same b c w h = total-same 9 _ _ (λ i k. ap (λ (z : ℤ). z ⊗ w i) (h i k))

pub dot-times : (e : ℤ) (c w : ℕ → ℤ) → dot (λ i. e ⊗ c i) w ≡ e ⊗ dot c w
unfolding dot
dot-times e c w = total-same 9 _ _ (λ i k. ⊗-assoc e (c i) (w i)) ∙ total-scaled 9 e (λ i. c i ⊗ w i)

pub dot-plus : (b c w : ℕ → ℤ) → dot (λ i. b i ⊕ c i) w ≡ dot b w ⊕ dot c w
unfolding dot
dot-plus b c w = total-same 9 _ _ (λ i k. ⊗-distr (b i) (c i) (w i)) ∙ total-plus 9 (λ i. b i ⊗ w i) (λ i. c i ⊗ w i)

-- the row with the number of x left out
abbrev pub others : (ℕ → ℤ) → ℕ → ℕ → ℤ
others c x i = cond (eqb i x) O (c i)

-- the vector with m at x and the others multiplied by e
abbrev pub upd : ℕ → ℤ → ℤ → (ℕ → ℤ) → ℕ → ℤ
upd x m e w i = cond (eqb i x) m (e ⊗ w i)

put-here : (c m e w : ℤ) → c ⊗ m ≡ c ⊗ m ⊕ e ⊗ (O ⊗ w)
put-here c m e w = simp ring

put-else : (c e w : ℤ) → c ⊗ (e ⊗ w) ≡ O ⊕ e ⊗ (c ⊗ w)
put-else c e w = simp ring

upd-step : (b : Bool) (c m e w : ℤ) → c ⊗ cond b m (e ⊗ w) ≡ cond b (c ⊗ m) O ⊕ e ⊗ (cond b O c ⊗ w)
upd-step true c m e w = put-here c m e w
upd-step false c m e w = put-else c e w

-- a row at a vector with one entry put: a · m + e · t
pub dot-upd : (x : ℕ) (m e : ℤ) (c w : ℕ → ℤ) → x < 9 → dot c (upd x m e w) ≡ c x ⊗ m ⊕ e ⊗ dot (others c x) w
unfolding dot
dot-upd x m e c w h =
    total-same 9 _ _ (λ i k. upd-step (eqb i x) (c i) m e (w i))
    ∙ total-plus 9 (λ i. cond (eqb i x) (c i ⊗ m) O) (λ i. e ⊗ (others c x i ⊗ w i))
    ∙ ap₂ ◌⊕◌ (total-only 9 x (λ i. c i ⊗ m) h) (total-scaled 9 e (λ i. others c x i ⊗ w i))

left_step : (b : Bool) (c : ℤ) → (b ≡ true → c ≡ O) → c ≡ cond b O c
left_step true c h = h refl
left_step false c h = refl

-- a number that is 0 is left out already
pub left-absent : (x : ℕ) (c w : ℕ → ℤ) → c x ≡ O → dot c w ≡ dot (others c x) w
left-absent x c w h = dot-same c (others c x) w (λ i k. left_step (eqb i x) (c i) (λ e. ap c (eqb-true i x e) ∙ h))

-- two entries only, the denominator's and one other
pair_step : (b d : Bool) (a c w : ℤ) → cond d c (cond b a O) ⊗ w ≡ cond d (c ⊗ w) O ⊕ cond b (cond d O a ⊗ w) O
pair_step true true a c w = sym (ap (λ (z : ℤ). c ⊗ w ⊕ z) (O-⊗ w) ∙ ⊕-idr (c ⊗ w))
pair_step false true a c w = sym (⊕-idr (c ⊗ w))
pair_step true false a c w = sym (⊕-idl (a ⊗ w))
pair_step false false a c w = O-⊗ w ∙ sym (⊕-idl O)

pub dot-pair : (v : ℕ) (a c : ℤ) (w : ℕ → ℤ) → v < 8 → dot (λ i. cond (eqb i 8) c (cond (eqb i v) a O)) w ≡ a ⊗ w v ⊕ c ⊗ w 8
unfolding dot
dot-pair v a c w h =
    total-same 9 _ _ (λ i k. pair_step (eqb i v) (eqb i 8) a c (w i))
    ∙ total-plus 9 (λ i. cond (eqb i 8) (c ⊗ w i) O) (λ i. cond (eqb i v) (cond (eqb i 8) O a ⊗ w i) O)
    ∙ ap₂ ◌⊕◌ (total-only 9 8 (λ i. c ⊗ w i) (lit< tt))
    (total-only 9 v (λ i. cond (eqb i 8) O a ⊗ w i) (omega arith) ∙ ap (λ (b : Bool). cond b O a ⊗ w v) (ne_eqb v 8 (λ e. omega arith)))
    ∙ ⊕-comm (c ⊗ w 8) (a ⊗ w v)

-- ---- rows as lists

-- no number before the n-th
all_zero-at : (n : ℕ) (ns : List ℤ) → T (all_zero (take n ns)) → (i : ℕ) → i < n → at ns i ≡ O
unfolding all_zero
all_zero-at zero ns t i h = absurd (omega arith)
all_zero-at (suc n) [] t i h = refl
all_zero-at (suc n) (z ∷ ns) t i h = go (is_zero z) refl t (λ t i h. all_zero-at n ns t i h) i h
  where
    go : (b : Bool) → is_zero z ≡ b → T (b && all_zero (take n ns)) → (T (all_zero (take n ns)) → (i : ℕ) → i < n → at ns i ≡ O) → (i : ℕ) → i < suc n → at (z ∷ ns) i ≡ O
    go true e t r zero h = zero_of z e
    go true e t r (suc i) h = r t i (omega arith)
    go false e t r i h = absurd t

none-step : (b : Bool) (c w : ℤ) → (b ≡ false → c ≡ O) → c ⊗ w ≡ cond b (c ⊗ w) O
none-step true c w h = refl
none-step false c w h = ap (λ (z : ℤ). z ⊗ w) (h refl) ∙ O-⊗ w

-- a row with no variable: its constant
pub dot-constant : (ns : List ℤ) (w : ℕ → ℤ) → T (all_zero (take 8 ns)) → dot (at ns) w ≡ at ns 8 ⊗ w 8
unfolding dot
dot-constant ns w t =
    total-same 9 _ _ (λ i k. none-step (eqb i 8) (at ns i) (w i) (λ e. all_zero-at 8 ns t i (omega (arith, eqb-false i 8 e))))
    ∙ total-only 9 8 (λ i. at ns i ⊗ w i) (lit< tt)

-- ---- multiples

-- t is s with all its numbers multiplied by one number above 0
pub record Multiple (s t : List ℤ) : Type 0 where
  pub by : ℤ
  pub by-up : sgn by ≡ positive
  pub at-is : (i : ℕ) → at t i ≡ by ⊗ at s i

pub reduced-multiple : (l : List ℤ) → Multiple (reduced l) l
unfolding sgn ◌⊗◌
reduced-multiple l =
    let r = reduced-by l in
    let k = pos (suc r.0) in
    record { by = k; by-up = refl; at-is = λ i. ap (λ (m : List ℤ). at m i) (sym r.1) ∙ at-times (suc r.0) (reduced l) i ∙ ⊗-comm (at (reduced l) i) k }

pub dot-multiple : (s t : List ℤ) (w : ℕ → ℤ) (k : Multiple s t) → dot (at t) w ≡ k.by ⊗ dot (at s) w
dot-multiple s t w k = dot-same (at t) (λ i. k.by ⊗ at s i) w (λ i h. k.at-is i) ∙ dot-times k.by (at s) w

pub sgn-multiple : (s t : List ℤ) (w : ℕ → ℤ) → Multiple s t → sgn (dot (at t) w) ≡ sgn (dot (at s) w)
sgn-multiple s t w k = ap sgn (dot-multiple s t w k) ∙ sgn-up k.by _ k.by-up
