-- Order and sign. The sign of a whole number and what negation, sums and products do to it; the order as the sign of a difference, so that an inequality
-- becomes an equation that `simp ring` closes; and a comparison with 0 as a test of the sign: an atom's truth depends on the sign of its sum only.
-- `sgn` is shut; its values are lemmas. Assumes nothing.
use mathlib.Core.Path.{◌≡◌, refl, sym, ◌∙◌, ap, subst}
use mathlib.Core.Logic.{◌↔◌}
use mathlib.Core.Bool.{Bool, true, false, not, cond}
use Prim.Native.Nat.{ℕ, zero, suc, ◌+◌, ◌*◌, ◌-◌, ◌≤◌, ◌<◌, zero-le}
use native.Mathlib.Nat as N
use native.Mathlib.Omega.{arith}
use lib.Dec.{T, ltb, leb, ltb→lt, nltb→le, leb-zero, leb-suc-suc, eqb-suc-zero}
use borrow.Author.Tests.{lt-ltb, le-ltb, le-leb, lt-leb}
use lib.IntN.{ℤ, pos, negsuc, sub_ℕ, neg_ℤ, zero-*ℤ, *ℤ-zero}
use lib.Signed.{◌≤ℤ◌, ◌<ℤ◌, le_z, lt_z}
use Rattle.reading.specs.Formula.{Comparison, less, atmost, equal}
use Rattle.exact.specs.Numbers.{is_zero}
use Rattle.exact.specs.Atoms.{holds}
use Rattle.exact.proofs.Ring.{◌⊕◌, ◌⊗◌, ⊖, ◌⊝◌, O, ring, ⊕-idl, ⊕-invr}

-- ---- a − b, for naturals, by which is larger

pub sub-ge : (a b : ℕ) → b ≤ a → sub_ℕ a b ≡ pos (a - b)
sub-ge a b h = ap (λ (t : Bool). cond t (negsuc (b - suc a)) (pos (a - b))) (le-ltb a b h)

-- one of the two
pub by-sub {ℓ} : (P : ℤ → Type ℓ) (a b : ℕ) → (b ≤ a → P (pos (a - b))) → (a < b → P (negsuc (b - suc a))) → P (sub_ℕ a b)
by-sub P a b f g = go (ltb a b) (ltb→lt a b) (nltb→le a b)
  where
    go : (t : Bool) → (T t → a < b) → (T (not t) → b ≤ a) → P (cond t (negsuc (b - suc a)) (pos (a - b)))
    go true h k = g (h tt)
    go false h k = f (k tt)

-- ---- signs

pub data Sign : Type 0 where
  negative null positive : Sign
  deriving Discrete as Sign-discrete

unfoldable pub sgn : ℤ → Sign
sgn (pos zero) = null
sgn (pos (suc n)) = positive
sgn (negsuc n) = negative

abbrev pub turn : Sign → Sign
turn negative = positive
turn null = null
turn positive = negative

abbrev pub smul : Sign → Sign → Sign
smul negative s = turn s
smul null s = null
smul positive s = s

pub turn-turn : (s : Sign) → turn (turn s) ≡ s
turn-turn negative = refl
turn-turn null = refl
turn-turn positive = refl

pub smul-turn : (s t : Sign) → smul (turn s) t ≡ turn (smul s t)
smul-turn negative t = sym (turn-turn t)
smul-turn null t = refl
smul-turn positive t = refl

pub sgn-O : sgn O ≡ null
unfolding sgn
sgn-O = refl

pub sgn-⊖ : (a : ℤ) → sgn (⊖ a) ≡ turn (sgn a)
unfolding sgn ⊖
sgn-⊖ (pos zero) = refl
sgn-⊖ (pos (suc n)) = refl
sgn-⊖ (negsuc n) = refl

pub sgn-null : (a : ℤ) → sgn a ≡ null → a ≡ O
unfolding sgn
sgn-null (pos zero) h = refl
sgn-null (pos (suc n)) h = cc
sgn-null (negsuc n) h = cc

sgn-pos : (n : ℕ) → 0 < n → sgn (pos n) ≡ positive
unfolding sgn
sgn-pos zero h = absurd (omega arith)
sgn-pos (suc n) h = refl

sgn-neg-pos : (n : ℕ) → 0 < n → sgn (neg_ℤ (pos n)) ≡ negative
unfolding sgn
sgn-neg-pos zero h = absurd (omega arith)
sgn-neg-pos (suc n) h = refl

pub sgn-⊗ : (a b : ℤ) → sgn (a ⊗ b) ≡ smul (sgn a) (sgn b)
unfolding sgn ◌⊗◌
sgn-⊗ (pos zero) (pos b) = ap sgn (zero-*ℤ (pos b))
sgn-⊗ (pos zero) (negsuc b) = ap sgn (zero-*ℤ (negsuc b))
sgn-⊗ (pos (suc a)) (pos zero) = ap sgn (*ℤ-zero (pos (suc a)))
sgn-⊗ (pos (suc a)) (pos (suc b)) = sgn-pos (suc a * suc b) (omega arith)
sgn-⊗ (pos (suc a)) (negsuc b) = sgn-neg-pos (suc a * suc b) (omega arith)
sgn-⊗ (negsuc a) (pos zero) = ap sgn (*ℤ-zero (negsuc a))
sgn-⊗ (negsuc a) (pos (suc b)) = sgn-neg-pos (suc a * suc b) (omega arith)
sgn-⊗ (negsuc a) (negsuc b) = sgn-pos (suc a * suc b) (omega arith)

-- two of one sign have a sum of it
pub sgn-⊕ : {s : Sign} (a b : ℤ) → sgn a ≡ s → sgn b ≡ s → sgn (a ⊕ b) ≡ s
unfolding sgn ◌⊕◌
sgn-⊕ (pos zero) b h k = ap sgn (⊕-idl b) ∙ k
sgn-⊕ (pos (suc a)) (pos zero) h k = cc
sgn-⊕ (pos (suc a)) (pos (suc b)) h k = sgn-pos (suc a + suc b) (omega arith) ∙ h
sgn-⊕ (pos (suc a)) (negsuc b) h k = cc
sgn-⊕ (negsuc a) (pos zero) h k = cc
sgn-⊕ (negsuc a) (pos (suc b)) h k = cc
sgn-⊕ (negsuc a) (negsuc b) h k = h

-- a factor above 0 leaves the sign
pub sgn-up : (k a : ℤ) → sgn k ≡ positive → sgn (k ⊗ a) ≡ sgn a
sgn-up k a h = sgn-⊗ k a ∙ ap (λ (s : Sign). smul s (sgn a)) h

pub up-⊗ : (a b : ℤ) → sgn a ≡ positive → sgn b ≡ positive → sgn (a ⊗ b) ≡ positive
up-⊗ a b h k = sgn-up a b h ∙ k

-- ---- comparisons

abbrev pub test : Comparison → Sign → Bool
test less negative = true
test less null = false
test less positive = false
test atmost negative = true
test atmost null = true
test atmost positive = false
test equal negative = false
test equal null = true
test equal positive = false

-- the opposite sign, under the opposite comparison
pub less-turn : (s : Sign) → test less (turn s) ≡ not (test atmost s)
less-turn negative = refl
less-turn null = refl
less-turn positive = refl

pub atmost-turn : (s : Sign) → test atmost (turn s) ≡ not (test less s)
atmost-turn negative = refl
atmost-turn null = refl
atmost-turn positive = refl

-- above 0, as a fraction's bottom is
pub sgn-above : (z : ℤ) → pos 0 <ℤ z → sgn z ≡ positive
unfolding sgn
sgn-above (pos zero) h = absurd h.lt
sgn-above (pos (suc n)) h = refl
sgn-above (negsuc n) h = absurd h.lt

pub above-pos : (z : ℤ) → sgn z ≡ positive → (n : ℕ) × (z ≡ pos (suc n))
unfolding sgn
above-pos (pos zero) h = let z : ◌≡◌ {A = ℕ} 0 1 = cc in absurd (omega arith)
above-pos (pos (suc n)) h = (n, refl)
above-pos (negsuc n) h = let z : ◌≡◌ {A = ℕ} 0 1 = cc in absurd (omega arith)

pub above-sgn : (z : ℤ) → sgn z ≡ positive → pos 0 <ℤ z
unfolding sgn
above-sgn (pos zero) h = let z : ◌≡◌ {A = ℕ} 0 1 = cc in absurd (omega arith)
above-sgn (pos (suc n)) h = record { lt = rw (leb-suc-suc 0 n, leb-zero n) tt }
above-sgn (negsuc n) h = let z : ◌≡◌ {A = ℕ} 0 1 = cc in absurd (omega arith)

-- a factor above 0 is taken off an equation
pub cancel-up : (k a b : ℤ) → sgn k ≡ positive → k ⊗ a ≡ k ⊗ b → a ≡ b
cancel-up k a b h e = back ∙ ap (λ (x : ℤ). x ⊕ b) (sgn-null (a ⊝ b) none) ∙ ⊕-idl b
  where
    back : a ≡ (a ⊝ b) ⊕ b
    back = simp ring

    spread : k ⊗ (a ⊝ b) ≡ k ⊗ a ⊝ k ⊗ b
    spread = simp ring

    none : sgn (a ⊝ b) ≡ null
    none = sym (sgn-up k (a ⊝ b) h) ∙ ap sgn (spread ∙ ap (λ (x : ℤ). x ⊝ k ⊗ b) e ∙ ⊕-invr (k ⊗ b)) ∙ sgn-O

-- ---- the order: a < b where a − b is below 0, and a ≤ b where it is at most 0

less-pos : (n : ℕ) → test less (sgn (pos n)) ≡ false
unfolding sgn
less-pos zero = refl
less-pos (suc n) = refl

sub-less : (a b : ℕ) → ltb a b ≡ test less (sgn (sub_ℕ a b))
unfolding sgn
sub-less a b = by-sub (λ z. ltb a b ≡ test less (sgn z)) a b (λ h. le-ltb a b h ∙ sym (less-pos (a - b))) (lt-ltb a b)

sub-atmost : (a b : ℕ) → leb a b ≡ test atmost (sgn (sub_ℕ a b))
unfolding sgn
sub-atmost a b = by-sub (λ z. leb a b ≡ test atmost (sgn z)) a b (λ h. go (a - b) refl) (λ h. le-leb a b (omega arith))
  where
    go : (n : ℕ) → a - b ≡ n → leb a b ≡ test atmost (sgn (pos n))
    go zero e = le-leb a b (omega arith)
    go (suc n) e = lt-leb a b (omega arith)

less-test : (a b : ℤ) → lt_z a b ≡ test less (sgn (a ⊝ b))
unfolding sgn ◌⊕◌ ⊖
less-test (pos a) (pos zero) = le-ltb a 0 zero-le ∙ sym (less-pos (a + 0))
less-test (pos a) (pos (suc b)) = sub-less a (suc b)
less-test (pos a) (negsuc b) = sym (less-pos (a + suc b))
less-test (negsuc a) (pos zero) = sym (lt-ltb 0 (suc a) (omega arith)) ∙ sub-less 0 (suc a)
less-test (negsuc a) (pos (suc b)) = refl
less-test (negsuc a) (negsuc b) = sym (leb-suc-suc (suc b) a) ∙ sub-less (suc b) (suc a)

pub atmost-test : (a b : ℤ) → le_z a b ≡ test atmost (sgn (a ⊝ b))
unfolding sgn ◌⊕◌ ⊖
atmost-test (pos a) (pos zero) = sub-atmost a 0 ∙ ap (λ (z : ℤ). test atmost (sgn z)) (sub-ge a 0 zero-le ∙ ap pos (N.sub-zero a ∙ sym (N.add-zero a)))
atmost-test (pos a) (pos (suc b)) = sub-atmost a (suc b)
atmost-test (pos a) (negsuc b) = ap (test atmost) (sym (sgn-pos (a + suc b) (omega arith)))
atmost-test (negsuc a) (pos zero) = sym (leb-zero (suc a)) ∙ sub-atmost 0 (suc a)
atmost-test (negsuc a) (pos (suc b)) = refl
atmost-test (negsuc a) (negsuc b) = sym (leb-suc-suc b a) ∙ sub-atmost (suc b) (suc a)

less-O : (z : ℤ) → z ⊝ O ≡ z
less-O z = simp ring

zero_test : (z : ℤ) → is_zero z ≡ test equal (sgn z)
unfolding sgn
zero_test (pos zero) = refl
zero_test (pos (suc n)) = eqb-suc-zero n
zero_test (negsuc n) = eqb-suc-zero n

pub holds_test : (c : Comparison) (z : ℤ) → holds c z ≡ test c (sgn z)
holds_test less z = less-test z O ∙ ap (λ (y : ℤ). test less (sgn y)) (less-O z)
holds_test atmost z = atmost-test z O ∙ ap (λ (y : ℤ). test atmost (sgn y)) (less-O z)
holds_test equal z = zero_test z

pub lt_test : (a b : ℤ) → (a <ℤ b) ↔ T (test less (sgn (a ⊝ b)))
lt_test a b = (λ h. subst T (less-test a b) h.lt, λ t. record { lt = subst T (sym (less-test a b)) t })

pub le_test : (a b : ℤ) → (a ≤ℤ b) ↔ T (test atmost (sgn (a ⊝ b)))
le_test a b = (λ h. subst T (atmost-test a b) h.le, λ t. record { le = subst T (sym (atmost-test a b)) t })
