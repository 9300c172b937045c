-- Rows of whole numbers, without bounds: a row is a list, and what stands past its end is 0, so no law asks for a length. Sizes are
-- `Within` and `Each`, records, so that the number or the row is inferred from the fact.
use Rattle.std.specs.Prelude.{ℕ, zero, suc, ◌≡◌, ◌<◌, ◌≤◌, length, Bool, true, false, ◌&&◌, List, [], ◌∷◌, map, leb, eqb, get_or, set, replicate, ℤ, pos, negsuc, neg_ℤ, nat_abs}

-- number i of a row
abbrev pub at : List ℤ → ℕ → ℤ
at l i = get_or l i (pos 0)

-- the row f 0, f 1 .. of n numbers
abbrev pub tab : {A : Type 0} → ℕ → (ℕ → A) → List A
tab zero f = []
tab (suc n) f = f 0 ∷ tab n (λ i. f (suc i))

-- a number lies in −n..n; each number of a row does
pub record Within (n : ℕ) (z : ℤ) : Type 0 where
  pub size : nat_abs z ≤ n

pub record Each (n : ℕ) (l : List ℤ) : Type 0 where
  pub at : (i : ℕ) → Within n (get_or l i (pos 0))

-- the test of answer 11, with M for n
unfoldable pub all_in : ℕ → List ℤ → Bool
all_in n [] = true
all_in n (z ∷ l) = leb (nat_abs z) n && all_in n l

abbrev pub is_zero : ℤ → Bool
is_zero z = eqb (nat_abs z) 0

-- whether two numbers, and two rows, are the same
abbrev pub eq_z : ℤ → ℤ → Bool
eq_z (pos a) (pos b) = eqb a b
eq_z (pos a) (negsuc b) = false
eq_z (negsuc a) (pos b) = false
eq_z (negsuc a) (negsuc b) = eqb a b

unfoldable pub same_row : List ℤ → List ℤ → Bool
same_row [] [] = true
same_row [] (b ∷ l) = false
same_row (a ∷ k) [] = false
same_row (a ∷ k) (b ∷ l) = eq_z a b && same_row k l

-- b is a with each number replaced by one that R says of it
pub record Stepped (R : ℤ → ℤ → Type 0) (a b : List ℤ) : Type 0 where
  pub long : length b ≡ length a
  pub each : (i : ℕ) → i < length a → R (at a i) (at b i)

-- each sign turned
unfoldable pub minus : List ℤ → List ℤ
minus l = map neg_ℤ l

-- nine numbers: a for the variable v, and the constant c
unfoldable pub single : ℕ → ℤ → ℤ → List ℤ
single v a c = set (set (replicate 9 (pos 0)) v a) 8 c
