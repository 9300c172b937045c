-- The ring of whole numbers. First the laws that lib.IntN does not have; then its operations once more, sealed: lib.IntN's unfold wherever an operand
-- is a constructor, and the solver cannot invert them, but these are shut, so a term keeps the shape in which it was written, and `simp ring` sorts both
-- sides of an equation. An equation of lib.IntN's operations is proved under `unfolding ◌⊕◌ ◌⊗◌ ⊖`. Assumes nothing.
use mathlib.Core.Path.{◌≡◌, refl, sym, ◌∙◌, ap, ap₂}
use Prim.Native.Nat.{ℕ, zero, suc}
use lib.IntN.{ℤ, pos, negsuc, suc_ℤ, pred_ℤ, neg_ℤ, ◌+ℤ◌, ◌-ℤ◌, ◌*ℤ◌, one}
use lib.IntN.{+ℤ_idl, +ℤ_idr, +ℤ_assoc, +ℤ_comm, +ℤ_invr, +ℤ_invl, neg_ℤ-+ℤ, neg_ℤ-neg_ℤ, suc_ℤ-+ℤ, pred_ℤ-+ℤ, suc_ℤ-*ℤ, pred_ℤ-*ℤ, *ℤ-one, zero-*ℤ, *ℤ-zero, *ℤ_comm}

infixl 60 ◌⊕◌ ◌⊝◌
infixl 70 ◌⊗◌
-- ---- laws

-- a + (b + c) = b + (a + c)
+ℤ-left-comm : (a b c : ℤ) → a +ℤ (b +ℤ c) ≡ b +ℤ (a +ℤ c)
+ℤ-left-comm a b c = sym (+ℤ_assoc a b c) ∙ ap (λ (x : ℤ). x +ℤ c) (+ℤ_comm a b) ∙ +ℤ_assoc b a c

+ℤ-right-comm : (a b c : ℤ) → (a +ℤ b) +ℤ c ≡ (a +ℤ c) +ℤ b
+ℤ-right-comm a b c = +ℤ_assoc a b c ∙ ap (λ (x : ℤ). a +ℤ x) (+ℤ_comm b c) ∙ sym (+ℤ_assoc a c b)

up : (m k n : ℤ) → (m +ℤ k) *ℤ n ≡ m *ℤ n +ℤ k *ℤ n → (suc_ℤ m +ℤ k) *ℤ n ≡ suc_ℤ m *ℤ n +ℤ k *ℤ n
up m k n h =
    ap (λ (x : ℤ). x *ℤ n) (suc_ℤ-+ℤ m k) ∙ suc_ℤ-*ℤ (m +ℤ k) n ∙ ap (λ (x : ℤ). x +ℤ n) h
    ∙ +ℤ-right-comm (m *ℤ n) (k *ℤ n) n ∙ ap (λ (x : ℤ). x +ℤ k *ℤ n) (sym (suc_ℤ-*ℤ m n))

down : (m k n : ℤ) → (m +ℤ k) *ℤ n ≡ m *ℤ n +ℤ k *ℤ n → (pred_ℤ m +ℤ k) *ℤ n ≡ pred_ℤ m *ℤ n +ℤ k *ℤ n
down m k n h =
    ap (λ (x : ℤ). x *ℤ n) (pred_ℤ-+ℤ m k) ∙ pred_ℤ-*ℤ (m +ℤ k) n ∙ ap (λ (x : ℤ). x -ℤ n) h
    ∙ +ℤ-right-comm (m *ℤ n) (k *ℤ n) (neg_ℤ n) ∙ ap (λ (x : ℤ). x +ℤ k *ℤ n) (sym (pred_ℤ-*ℤ m n))

base : (k n : ℤ) → (pos zero +ℤ k) *ℤ n ≡ pos zero *ℤ n +ℤ k *ℤ n
base k n = ap (λ (x : ℤ). x *ℤ n) (+ℤ_idl k) ∙ sym (+ℤ_idl (k *ℤ n)) ∙ ap (λ (x : ℤ). x +ℤ k *ℤ n) (sym (zero-*ℤ n))

*ℤ-distrib-r : (m k n : ℤ) → (m +ℤ k) *ℤ n ≡ m *ℤ n +ℤ k *ℤ n
*ℤ-distrib-r (pos zero) k n = base k n
*ℤ-distrib-r (pos (suc a)) k n = up (pos a) k n (*ℤ-distrib-r (pos a) k n)
*ℤ-distrib-r (negsuc zero) k n = down (pos zero) k n (base k n)
*ℤ-distrib-r (negsuc (suc a)) k n = down (negsuc a) k n (*ℤ-distrib-r (negsuc a) k n)

-- a product with a negated factor
pub negℤ-*ℤ : (m n : ℤ) → neg_ℤ m *ℤ n ≡ neg_ℤ (m *ℤ n)
negℤ-*ℤ m n =
    sym (+ℤ_idr (neg_ℤ m *ℤ n)) ∙ ap (λ (x : ℤ). neg_ℤ m *ℤ n +ℤ x) (sym (+ℤ_invr (m *ℤ n)))
    ∙ sym (+ℤ_assoc (neg_ℤ m *ℤ n) (m *ℤ n) (neg_ℤ (m *ℤ n)))
    ∙ ap (λ (x : ℤ). x +ℤ neg_ℤ (m *ℤ n)) (sym (*ℤ-distrib-r (neg_ℤ m) m n) ∙ ap (λ (x : ℤ). x *ℤ n) (+ℤ_comm (neg_ℤ m) m ∙ +ℤ_invr m) ∙ zero-*ℤ n)
    ∙ +ℤ_idl (neg_ℤ (m *ℤ n))

up_a : (m k n : ℤ) → (m *ℤ k) *ℤ n ≡ m *ℤ (k *ℤ n) → (suc_ℤ m *ℤ k) *ℤ n ≡ suc_ℤ m *ℤ (k *ℤ n)
up_a m k n h =
    ap (λ (x : ℤ). x *ℤ n) (suc_ℤ-*ℤ m k) ∙ *ℤ-distrib-r (m *ℤ k) k n ∙ ap (λ (x : ℤ). x +ℤ k *ℤ n) h ∙ sym (suc_ℤ-*ℤ m (k *ℤ n))

down_a : (m k n : ℤ) → (m *ℤ k) *ℤ n ≡ m *ℤ (k *ℤ n) → (pred_ℤ m *ℤ k) *ℤ n ≡ pred_ℤ m *ℤ (k *ℤ n)
down_a m k n h =
    ap (λ (x : ℤ). x *ℤ n) (pred_ℤ-*ℤ m k) ∙ *ℤ-distrib-r (m *ℤ k) (neg_ℤ k) n ∙ ap₂ ◌+ℤ◌ h (negℤ-*ℤ k n) ∙ sym (pred_ℤ-*ℤ m (k *ℤ n))

base_a : (k n : ℤ) → (pos zero *ℤ k) *ℤ n ≡ pos zero *ℤ (k *ℤ n)
base_a k n = ap (λ (x : ℤ). x *ℤ n) (zero-*ℤ k) ∙ zero-*ℤ n ∙ sym (zero-*ℤ (k *ℤ n))

*ℤ-assoc : (m k n : ℤ) → (m *ℤ k) *ℤ n ≡ m *ℤ (k *ℤ n)
*ℤ-assoc (pos zero) k n = base_a k n
*ℤ-assoc (pos (suc a)) k n = up_a (pos a) k n (*ℤ-assoc (pos a) k n)
*ℤ-assoc (negsuc zero) k n = down_a (pos zero) k n (base_a k n)
*ℤ-assoc (negsuc (suc a)) k n = down_a (negsuc a) k n (*ℤ-assoc (negsuc a) k n)

pub *ℤ-one-l : (m : ℤ) → pos 1 *ℤ m ≡ m
unfolding one
*ℤ-one-l m = *ℤ_comm (pos 1) m ∙ *ℤ-one m

-- ---- the sealed operations

unfoldable pub ◌⊕◌ : ℤ → ℤ → ℤ
a ⊕ b = a +ℤ b

unfoldable pub ◌⊗◌ : ℤ → ℤ → ℤ
a ⊗ b = a *ℤ b

unfoldable pub ⊖ : ℤ → ℤ
⊖ a = neg_ℤ a

abbrev pub ◌⊝◌ : ℤ → ℤ → ℤ
a ⊝ b = a ⊕ ⊖ b

abbrev pub O : ℤ
O = pos 0

pub ⊕-assoc : (a b c : ℤ) → (a ⊕ b) ⊕ c ≡ a ⊕ (b ⊕ c)
unfolding ◌⊕◌
⊕-assoc = +ℤ_assoc

pub ⊕-comm : (a b : ℤ) → a ⊕ b ≡ b ⊕ a
unfolding ◌⊕◌
⊕-comm = +ℤ_comm

pub ⊕-left-comm : (a b c : ℤ) → a ⊕ (b ⊕ c) ≡ b ⊕ (a ⊕ c)
unfolding ◌⊕◌
⊕-left-comm = +ℤ-left-comm

pub ⊕-idl : (a : ℤ) → O ⊕ a ≡ a
unfolding ◌⊕◌
⊕-idl = +ℤ_idl

pub ⊕-idr : (a : ℤ) → a ⊕ O ≡ a
unfolding ◌⊕◌
⊕-idr = +ℤ_idr

pub ⊕-invr : (a : ℤ) → a ⊕ ⊖ a ≡ O
unfolding ◌⊕◌ ⊖
⊕-invr = +ℤ_invr

pub ⊕-invl : (a : ℤ) → ⊖ a ⊕ a ≡ O
unfolding ◌⊕◌ ⊖
⊕-invl = +ℤ_invl

pub ⊖-⊕ : (a b : ℤ) → ⊖ (a ⊕ b) ≡ ⊖ a ⊕ ⊖ b
unfolding ◌⊕◌ ⊖
⊖-⊕ = neg_ℤ-+ℤ

pub ⊖-⊖ : (a : ℤ) → ⊖ (⊖ a) ≡ a
unfolding ⊖
⊖-⊖ = neg_ℤ-neg_ℤ

pub ⊖-O : ⊖ O ≡ O
unfolding ⊖
⊖-O = refl

pub ⊗-comm : (a b : ℤ) → a ⊗ b ≡ b ⊗ a
unfolding ◌⊗◌
⊗-comm = *ℤ_comm

pub ⊗-assoc : (a b k : ℤ) → (a ⊗ b) ⊗ k ≡ a ⊗ (b ⊗ k)
unfolding ◌⊗◌
⊗-assoc = *ℤ-assoc

pub ⊗-left-comm : (a b c : ℤ) → a ⊗ (b ⊗ c) ≡ b ⊗ (a ⊗ c)
⊗-left-comm a b c = sym (⊗-assoc a b c) ∙ ap (λ (x : ℤ). x ⊗ c) (⊗-comm a b) ∙ ⊗-assoc b a c

pub ⊗-distr : (a b k : ℤ) → (a ⊕ b) ⊗ k ≡ a ⊗ k ⊕ b ⊗ k
unfolding ◌⊗◌ ◌⊕◌
⊗-distr = *ℤ-distrib-r

pub ⊗-distl : (k a b : ℤ) → k ⊗ (a ⊕ b) ≡ k ⊗ a ⊕ k ⊗ b
⊗-distl k a b = ⊗-comm k (a ⊕ b) ∙ ⊗-distr a b k ∙ simp ⊗-comm

pub O-⊗ : (a : ℤ) → O ⊗ a ≡ O
unfolding ◌⊗◌
O-⊗ = zero-*ℤ

pub ⊗-O : (a : ℤ) → a ⊗ O ≡ O
unfolding ◌⊗◌
⊗-O = *ℤ-zero

pub ⊗-one : (a : ℤ) → a ⊗ pos 1 ≡ a
unfolding ◌⊗◌ one
⊗-one = *ℤ-one

pub one-⊗ : (a : ℤ) → pos 1 ⊗ a ≡ a
one-⊗ a = ⊗-comm (pos 1) a ∙ ⊗-one a

pub ⊖-⊗ : (b k : ℤ) → ⊖ b ⊗ k ≡ ⊖ (b ⊗ k)
unfolding ◌⊗◌ ⊖
⊖-⊗ = negℤ-*ℤ

pub ⊗-⊖ : (b k : ℤ) → b ⊗ ⊖ k ≡ ⊖ (b ⊗ k)
⊗-⊖ b k = ⊗-comm b (⊖ k) ∙ ⊖-⊗ k b ∙ ap ⊖ (⊗-comm k b)

pub ⊕-cancel : (a b : ℤ) → a ⊕ (⊖ a ⊕ b) ≡ b
⊕-cancel a b = sym (⊕-assoc a (⊖ a) b) ∙ ap (λ (x : ℤ). x ⊕ b) (⊕-invr a) ∙ ⊕-idl b

pub ⊖_cancel : (a b : ℤ) → ⊖ a ⊕ (a ⊕ b) ≡ b
⊖_cancel a b = sym (⊕-assoc (⊖ a) a b) ∙ ap (λ (x : ℤ). x ⊕ b) (⊕-invl a) ∙ ⊕-idl b

-- both sides of an equation of sums and products, multiplied out and sorted alike; `a` beside `⊖ a` goes
pub ruleset ring = (⊗-distr, ⊗-distl, ⊗-assoc, ⊗-comm, ⊗-left-comm, ⊕-assoc, ⊕-comm, ⊕-left-comm, ⊖-⊗, ⊗-⊖, ⊖-⊕, ⊖-⊖, ⊖-O, ⊕-cancel, ⊖_cancel, ⊕-invr, ⊕-invl, ⊕-idl, ⊕-idr, O-⊗, ⊗-O, ⊗-one, one-⊗)

-- where a difference does not sort: state it as a sum
pub sub_is : (a b c : ℤ) → a ≡ c ⊕ b → a ⊝ b ≡ c
sub_is a b c h = ap (λ (x : ℤ). x ⊝ b) h ∙ ⊕-assoc c b (⊖ b) ∙ ap (λ (x : ℤ). c ⊕ x) (⊕-invr b) ∙ ⊕-idr c

-- 2z is z + z
pub two-⊗ : (z : ℤ) → pos 2 ⊗ z ≡ z ⊕ z
unfolding ◌⊕◌
two-⊗ z = ⊗-distr (pos 1) (pos 1) z ∙ ap₂ ◌⊕◌ (one-⊗ z) (one-⊗ z)

-- −(n + 1) · x, and −1 · x
pub negsuc-⊗ : (n : ℕ) (x : ℤ) → negsuc n ⊗ x ≡ ⊖ (pos (suc n) ⊗ x)
unfolding ⊖
negsuc-⊗ n x = ⊖-⊗ (pos (suc n)) x

pub minus_one : (x : ℤ) → negsuc 0 ⊗ x ≡ ⊖ x
minus_one x = negsuc-⊗ 0 x ∙ ap ⊖ (one-⊗ x)

pub ⊝-swap : (a b : ℤ) → a ⊝ b ≡ ⊖ (b ⊝ a)
⊝-swap a b = simp ring
