-- The greatest common divisor of two naturals: `gcd-is` and `gcd-eq` say what it is, so that any way of finding it can be proved equal to
-- the definition. Assumes nothing.
use mathlib.Core.Path.{◌≡◌, sym, ◌∙◌, ap, ap₂, subst}
use Prim.Native.Nat.{ℕ, zero, suc, ◌*◌, ◌-◌, ◌/◌, ◌%◌, ◌≤◌, ◌∣◌}
use native.Mathlib.Nat as N
use native.Mathlib.Omega.{arith}
use Rattle.exact.specs.Divisor.{gcd_by, gcd_of}

-- what a greatest common divisor is; greatest is in the order of divisibility, so that of 0 and 0 is 0
pub record IsGcd (a b g : ℕ) : Type 0 where
  pub left : g ∣ a
  pub right : g ∣ b
  pub great : (k : ℕ) → k ∣ a → k ∣ b → k ∣ g

is-unique : {a b g h : ℕ} → IsGcd a b g → IsGcd a b h → g ≡ h
is-unique {a} {b} {g} {h} p q = N.dvd_antisymm (q.great g p.left p.right) (p.great h q.left q.right)

is-zero : (a : ℕ) → IsGcd a zero a
is-zero a = record { left = N.dvd_refl a; right = N.dvd-zero a; great = λ k h _. h }

is-step : {a b g : ℕ} → IsGcd b (a % b) g → IsGcd a b g
is-step {a} {b} {g} p = record {
  left = (N.dvd-mod_iff g p.left).0 p.right;
  right = p.left;
  great = λ k h l. p.great k l ((N.dvd-mod_iff k l).1 h);
}

is-by : (f a b : ℕ) → b ≤ f → IsGcd a b (gcd_by f a b)
unfolding gcd_by
is-by zero a b h = subst (λ (n : ℕ). IsGcd a n a) (N.le_antisymm zero≤ h) (is-zero a)
  where
    zero≤ : zero ≤ b
    zero≤ = omega arith
is-by (suc f) a zero h = is-zero a
is-by (suc f) a (suc b) h = is-step (is-by f (suc b) (a % suc b) (omega (arith, N.mod-lt a (N.zero-lt-suc b))))

pub gcd-is : (a b : ℕ) → IsGcd a b (gcd_of a b)
unfolding gcd_of
gcd-is a b = is-by b a b (N.le_refl b)

pub gcd-eq : {a b g : ℕ} → IsGcd a b g → g ≡ gcd_of a b
gcd-eq {a} {b} p = is-unique p (gcd-is a b)

-- ---- the laws that loops use
pub gcd-zero : (a : ℕ) → gcd_of a 0 ≡ a
gcd-zero a = sym (gcd-eq (is-zero a))

pub gcd-mod : (a b : ℕ) → gcd_of b (a % b) ≡ gcd_of a b
gcd-mod a b = gcd-eq (is-step (gcd-is b (a % b)))

pub gcd-comm : (a b : ℕ) → gcd_of a b ≡ gcd_of b a
gcd-comm a b = let p = gcd-is a b in gcd-eq (record { left = p.right; right = p.left; great = λ k h l. p.great k l h })

pub gcd-le : (a b n : ℕ) → a ≤ n → b ≤ n → gcd_of a b ≤ n
gcd-le zero b n h k = N.le_trans (N.le_of_eq (gcd-comm 0 b ∙ gcd-zero b)) k
gcd-le (suc a) b n h k = N.le_trans (N.le_of_dvd (N.zero-lt-suc a) (gcd-is (suc a) b).left) h

-- what divides a·c and b·c divides gcd a b · c
mod_times : (k a b c : ℕ) → k ∣ a * c → k ∣ b * c → k ∣ (a % b) * c
mod_times k a b c h l =
    subst (λ (n : ℕ). k ∣ n) (sym is) (N.dvd-sub k h (N.dvd-mul_left_of_dvd k l (a / b)))
  where
    is : (a % b) * c ≡ a * c - a / b * (b * c)
    is = ap (λ (n : ℕ). n * c) (N.mod-eq-sub-div-mul a b) ∙ N.mul_comm (a - a / b * b) c ∙ N.mul-sub c a (a / b * b)
        ∙ ap₂ ◌-◌ (N.mul_comm c a) (N.mul_comm c (a / b * b) ∙ N.mul_assoc (a / b) b c)

by-times : (c k f a b : ℕ) → k ∣ a * c → k ∣ b * c → k ∣ gcd_by f a b * c
unfolding gcd_by
by-times c k zero a b h l = h
by-times c k (suc f) a zero h l = h
by-times c k (suc f) a (suc b) h l = by-times c k f (suc b) (a % suc b) l (mod_times k a (suc b) c h l)

by-great : (c k a b : ℕ) → k ∣ a * c → k ∣ b * c → k ∣ gcd_of a b * c
unfolding gcd_of
by-great c k a b h l = by-times c k b a b h l

-- a common factor comes out
pub gcd-mul : (a b c : ℕ) → gcd_of a b * c ≡ gcd_of (a * c) (b * c)
gcd-mul a b c = let p = gcd-is a b in gcd-eq (record {
  left = N.mul-dvd-mul_right (gcd_of a b) p.left c;
  right = N.mul-dvd-mul_right (gcd_of a b) p.right c;
  great = λ k h l. by-great c k a b h l;
})
