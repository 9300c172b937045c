-- What a loop over a slice or an array has done after i turns: `Turned` (each number replaced by one that a relation says of it), and `fill_done`
-- (an array filled by index). A loop's goal cites one law of these. Assumes nothing.
use mathlib.Core.Path.{◌≡◌, refl, sym, ◌∙◌, ap, ap₂, subst}
use mathlib.Core.Logic.{⊎_elim}
use mathlib.Core.List.{List, ◌∷◌, map}
use Prim.Native.Nat.{ℕ, zero, suc, ◌+◌, ◌≤◌, ◌<◌}
use native.Mathlib.Nat as N
use native.Mathlib.Numerals.{add-one}
use native.Mathlib.Omega.{arith}
use lib.IntN.{ℤ, pos}
use lib.ListN.{length, get_or, set, length-set, length-map}
use lib.Seq.{ext_get_or, get_or-set_same, get_or-set_other}
use Rattle.std.proofs.lemmas.List.{get_or-map}
use Rattle.reading.proofs.Filling.{Filled}
use Rattle.exact.specs.Numbers.{at, tab, Stepped}

module _ (R : ℤ → ℤ → Type 0) (s₀ : List ℤ) where
  -- R says of each of the first i what it has become, and the others are as they were
  pub record Turned (s : List ℤ) (i : ℕ) : Type 0 where
    pub long : length s ≡ length s₀
    pub done : (k : ℕ) → k < i → R (at s₀ k) (at s k)
    pub rest : (k : ℕ) → i ≤ k → at s k ≡ at s₀ k

  pub turned-none : Turned s₀ 0
  turned-none = record { long = refl; done = λ k h. absurd (N.not-suc-le-zero h); rest = λ k h. refl }

  pub turned-more : {s : List ℤ} {i : ℕ} (v : ℤ) → i < length s₀ → Turned s i → R (at s₀ i) v → Turned (set s i v) (i + 1)
  turned-more {s} {i} v h t r = record {
    long = length-set s i v ∙ t.long;
    done = λ k l. ⊎_elim
        (λ q. subst (λ (j : ℕ). R (at s₀ j) (at (set s i v) j)) (sym q) (subst (R (at s₀ i)) (sym (get_or-set_same s i v (pos 0) (rw t.long h))) r))
        (λ m. subst (R (at s₀ k)) (sym (get_or-set_other s i k v (pos 0) (N.ne_of_lt m))) (t.done k m))
        (N.eq-or-lt_of_le (N.le_of_suc-le-suc (rw (add-one i) at l)));
    rest = λ k l. get_or-set_other s i k v (pos 0) (λ q. omega arith) ∙ t.rest k (omega arith);
  }

  pub turned-done : {s : List ℤ} {i : ℕ} → length s₀ ≤ i → Turned s i → Stepped R s₀ s
  turned-done h t = record { long = t.long; each = λ k l. t.done k (omega arith) }

-- where R says what f makes of a number
pub stepped-map : {R : ℤ → ℤ → Type 0} {a b : List ℤ} (f : ℤ → ℤ) → ((i : ℕ) (v : ℤ) → R (at a i) v → v ≡ f (at a i)) → Stepped R a b → b ≡ map f a
stepped-map {R} {a} {b} f h s =
    ext_get_or (pos 0) b (map f a) (s.long ∙ sym (length-map a f))
    (λ i l. let k : i < length a = subst (λ (n : ℕ). i < n) s.long l in h i (at b i) (s.each i k) ∙ sym (get_or-map f a i (pos 0) (pos 0) k))

-- ---- a list by its index, and a loop that fills an array from the front
module _ {A : Type 0} where
  pub length-tab : (n : ℕ) (f : ℕ → A) → length (tab n f) ≡ n
  length-tab zero f = refl
  length-tab (suc n) f = ap suc (length-tab n (λ i. f (suc i)))

  pub get_or-tab : (n : ℕ) (f : ℕ → A) (k : ℕ) (d : A) → k < n → get_or (tab n f) k d ≡ f k
  get_or-tab zero f k d h = absurd (N.not-suc-le-zero h)
  get_or-tab (suc n) f zero d h = refl
  get_or-tab (suc n) f (suc k) d h = get_or-tab n (λ i. f (suc i)) k d (N.le_of_suc-le-suc h)

  pub tab-ext : (n : ℕ) (f g : ℕ → A) → ((i : ℕ) → i < n → f i ≡ g i) → tab n f ≡ tab n g
  tab-ext zero f g h = refl
  tab-ext (suc n) f g h = ap₂ (λ (x : A) (l : List A). x ∷ l) (h 0 (omega arith)) (tab-ext n (λ i. f (suc i)) (λ i. g (suc i)) (λ i k. h (suc i) (omega arith)))

module _ {A : Type 0} (d : A) (f : ℕ → A) (n : ℕ) where
  pub fill_done : {s : List A} → Filled d f n s n → s ≡ tab n f
  fill_done {s} m = ext_get_or d s (tab n f) (m.long ∙ sym (length-tab n f)) (λ i h. let l : i < n = subst (λ (x : ℕ). i < x) m.long h in m.at i l ∙ sym (get_or-tab n f i d l))
