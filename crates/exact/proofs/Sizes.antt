-- The size of a sum, a product and a quotient; bounds on sizes, from which a signed operation's result is known to fit in an i64; and what a
-- signed local, which holds bits, reads back. Assumes nothing.
-- ---- sizes
use mathlib.Core.Path.{◌≡◌, refl, sym, ◌∙◌, ap, subst}
use mathlib.Core.Bool.{Bool, true, false, not}
use Prim.Native.Nat.{ℕ, zero, suc, ◌+◌, ◌*◌, ◌-◌, ◌/◌, ◌^◌, ◌≤◌, ◌<◌}
use native.Mathlib.Nat as N
use native.Mathlib.Omega.{arith}
use lib.Dec.{T, eqb, leb, ltb, leb→le, ltb→lt, lit<}
use borrow.Author.Tests.{ne_eqb, eqb-true}
use lib.IntN.{pos-ne-negsuc, ℤ, pos, negsuc, neg_ℤ, nat_abs, ◌+ℤ◌, ◌*ℤ◌}
use lib.Signed.{nat_abs-le, lt_z, mag, quot_z, non_neg}
use mir.Syntax.{w64}
use mir.Val.{SFits, Fits, to_z, of_z}
use mir.ValLaws.{to_z-of_z, to_z_pos}
use Rattle.exact.specs.Numbers.{Within, is_zero}
use Rattle.exact.proofs.Ring.{negℤ-*ℤ}
use Rattle.exact.proofs.Order.{by-sub}

-- the size 0 is that of 0 only
pub zero_of : (z : ℤ) → is_zero z ≡ true → z ≡ pos 0
zero_of (pos n) e = ap pos (eqb-true n 0 e)
zero_of (negsuc n) e = absurd (N.suc-ne-zero n (eqb-true (suc n) 0 e))

mag-le-abs : (z : ℤ) → mag z ≤ nat_abs z
mag-le-abs (pos n) = N.le_refl n
mag-le-abs (negsuc n) = N.le-suc n

pub abs_neg : (z : ℤ) → nat_abs (neg_ℤ z) ≡ nat_abs z
abs_neg (pos zero) = refl
abs_neg (pos (suc n)) = refl
abs_neg (negsuc n) = refl

pub abs-* : (a b : ℤ) → nat_abs (a *ℤ b) ≡ nat_abs a * nat_abs b
abs-* (pos a) (pos b) = refl
abs-* (pos a) (negsuc b) = abs_neg (pos (a * suc b))
abs-* (negsuc a) (pos b) = abs_neg (pos (suc a * b))
abs-* (negsuc a) (negsuc b) = refl

abs-+ : (a b : ℤ) → nat_abs (a +ℤ b) ≤ nat_abs a + nat_abs b
abs-+ (pos a) (pos b) = N.le_refl (a + b)
abs-+ (pos a) (negsuc b) = by-sub (λ z. nat_abs z ≤ a + suc b) a (suc b) (λ h. omega arith) (λ h. omega arith)
abs-+ (negsuc a) (pos b) = by-sub (λ z. nat_abs z ≤ suc a + b) b (suc a) (λ h. omega arith) (λ h. omega arith)
abs-+ (negsuc a) (negsuc b) = omega arith

-- a bound on the size is a bound on the width
sfits-abs : (z : ℤ) (n : ℕ) → nat_abs z ≤ n → n < 2 ^ 63 → SFits w64 z
sfits-abs z n h k = record { sfits = N.lt_of_le_of_lt (N.le_trans (mag-le-abs z) h) k }

-- ---- exact division by a positive number

quot-abs : (z : ℤ) (g : ℕ) → nat_abs (quot_z z (pos g)) ≡ nat_abs z / g
quot-abs (pos a) g = refl
quot-abs (negsuc a) g = abs_neg (pos (suc a / g))

pub quot-exact : (z : ℤ) (g : ℕ) → nat_abs z / g * g ≡ nat_abs z → quot_z z (pos g) *ℤ pos g ≡ z
quot-exact (pos a) g h = ap pos h
quot-exact (negsuc a) g h = negℤ-*ℤ (pos (suc a / g)) (pos g) ∙ ap (λ (n : ℕ). neg_ℤ (pos n)) h

-- ---- bounds on sizes, to be chained

pub in-* : {a b : ℤ} {m n : ℕ} → Within m a → Within n b → Within (m * n) (a *ℤ b)
in-* {a} {b} {m} {n} h k = record { size = subst (λ (x : ℕ). x ≤ m * n) (sym (abs-* a b)) (N.mul-le-mul h.size k.size) }

pub in-+ : {a b : ℤ} {m n : ℕ} → Within m a → Within n b → Within (m + n) (a +ℤ b)
in-+ {a} {b} h k = record { size = N.le_trans (abs-+ a b) (N.add-le-add h.size k.size) }

pub in-neg : {a : ℤ} {m : ℕ} → Within m a → Within m (neg_ℤ a)
in-neg {a} {m} h = record { size = subst (λ (x : ℕ). x ≤ m) (sym (abs_neg a)) h.size }

pub in-quot : {a : ℤ} {m : ℕ} (g : ℕ) → Within m a → Within m (quot_z a (pos g))
in-quot {a} {m} g h = record { size = subst (λ (x : ℕ). x ≤ m) (sym (quot-abs a g)) (N.le_trans (N.div-le_self (nat_abs a) g) h.size) }

pub in-more : {a : ℤ} {m n : ℕ} → Within m a → m ≤ n → Within n a
in-more h k = record { size = N.le_trans h.size k }

pub in-lit : {n : ℕ} {z : ℤ} → T (leb (nat_abs z) n) → Within n z
in-lit {n} {z} t = record { size = leb→le (nat_abs z) n t }

-- at a bound that is written out: `fits h tt`
pub fits : {n : ℕ} {z : ℤ} → Within n z → T (ltb n (2 ^ 63)) → SFits w64 z
fits {n} {z} h t = sfits-abs z n h.size (ltb→lt n (2 ^ 63) t)

-- what a signed local reads back: it holds bits
pub rd : {z : ℤ} → SFits w64 z → to_z w64 (of_z w64 z) ≡ z
rd {z} h = to_z-of_z w64 z h

pub in-rd : {n : ℕ} {z : ℤ} → Within n z → T (ltb n (2 ^ 63)) → Within n (to_z w64 (of_z w64 z))
in-rd {n} h t = subst (Within n) (sym (rd (fits h t))) h

pub rd-pos : (n : ℕ) → n < 2 ^ 63 → to_z w64 n ≡ pos n
rd-pos n h = to_z_pos w64 n h

pub fits-as : {y z : ℤ} → y ≡ z → SFits w64 z → SFits w64 y
fits-as {y} {z} e h = subst (SFits w64) (sym e) h

-- ---- a test of a signed local, and its cast to an unsigned integer

pub lt-taken : {a : ℤ} (b : ℤ) → SFits w64 a → lt_z (to_z w64 (of_z w64 a)) b ≡ true → T (lt_z a b)
lt-taken b h e = subst (λ (z : ℤ). T (lt_z z b)) (rd h) (subst T (sym e) tt)

pub lt-left : {a : ℤ} (b : ℤ) → SFits w64 a → lt_z (to_z w64 (of_z w64 a)) b ≡ false → T (not (lt_z a b))
lt-left b h e = subst (λ (z : ℤ). T (not (lt_z z b))) (rd h) (subst (λ (t : Bool). T (not t)) (sym e) tt)

pub neg-non_neg : (x : ℤ) → T (lt_z x (pos 0)) → T (non_neg (neg_ℤ x))
neg-non_neg (pos zero) t = tt
neg-non_neg (pos (suc n)) t = absurd (N.not-suc-le-zero (ltb→lt (suc n) 0 t))
neg-non_neg (negsuc n) t = tt

pub ge-non_neg : (x : ℤ) → T (not (lt_z x (pos 0))) → T (non_neg x)
ge-non_neg (pos n) t = tt
ge-non_neg (negsuc n) t = t

pub cast_ok : {z : ℤ} → SFits w64 z → T (non_neg z) → T (non_neg (to_z w64 (of_z w64 z))) × Fits w64 (nat_abs (to_z w64 (of_z w64 z)))
cast_ok {z} h t = subst (λ (y : ℤ). T (non_neg y) × Fits w64 (nat_abs y)) (sym (rd h)) (t, record { fits = N.lt_of_le_of_lt (nat_abs-le z h.sfits) (lit< tt) })

-- of a call's result: `ok c.f.result c.f.ok`
pub ok : (z : ℤ) → mag z < 2 ^ 63 → SFits w64 z
ok z h = record { sfits = h }

-- a signed local that is compared with 0 by == or !=: the test is of its bits
bits-zero : {z : ℤ} → SFits w64 z → of_z w64 z ≡ 0 → z ≡ pos 0
bits-zero h e = sym (rd h) ∙ ap (to_z w64) e

pub bits-eqb : (z : ℤ) → SFits w64 z → eqb (of_z w64 z) 0 ≡ eqb (nat_abs z) 0
bits-eqb (pos n) h = refl
bits-eqb (negsuc n) h = ne_eqb (2 ^ 64 - suc n) 0 (λ e. pos-ne-negsuc 0 n (sym (bits-zero h e))) ∙ sym (ne_eqb (suc n) 0 (λ e. N.suc-ne-zero n e))
