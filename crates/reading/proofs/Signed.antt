-- Numbers of a record, one after the other: whether all lie in −M..M. Assumes nothing.
use mathlib.Core.Path.{◌≡◌, refl, sym, ◌∙◌, ap}
use Prim.Native.Nat.{ℕ, suc, ◌+◌, ◌-◌, ◌≤◌, ◌<◌}
use native.Mathlib.Omega.{arith}
use mathlib.Core.List.{List}
use mathlib.Core.Bool.{Bool, true, false, true≢false}
use lib.IntN.{ℤ, pos, negsuc}
use lib.Signed.{le_z}
use borrow.Author.Tests.{le-leb, lt-leb, leb-true, leb-false}
use Rattle.reading.specs.Bytes.{int4}
use Rattle.reading.specs.Records.{in_m, all_m}

-- a number from −M on lies in −M..M where it is at most M, and one below −M does not
from-least : (z : ℤ) → le_z (negsuc 1073741822) z ≡ true → le_z z (pos 1073741823) ≡ in_m z
unfolding in_m
from-least (pos n) h = refl
from-least (negsuc n) h = sym (le-leb (suc n) 1073741823 (omega (arith, leb-true n 1073741822 h)))

under-least : (z : ℤ) → le_z (negsuc 1073741822) z ≡ false → false ≡ in_m z
unfolding in_m
under-least (pos n) h = elim (true≢false h) [ ]
under-least (negsuc n) h = sym (lt-leb (suc n) 1073741823 (omega (arith, leb-false n 1073741822 h)))

pub in_m-from : {w : ℤ} (z : ℤ) → w ≡ z → le_z (negsuc 1073741822) w ≡ true → le_z w (pos 1073741823) ≡ in_m z
in_m-from z e h = rw e (from-least z (sym (ap (λ (v : ℤ). le_z (negsuc 1073741822) v) e) ∙ h))

pub in_m-under : {w : ℤ} (z : ℤ) → w ≡ z → le_z (negsuc 1073741822) w ≡ false → le_z (negsuc 1073741822) w ≡ in_m z
in_m-under z e h = h ∙ under-least z (sym (ap (λ (v : ℤ). le_z (negsuc 1073741822) v) e) ∙ h)

-- one number more
pub all_m-more : (s : List ℕ) (n i p : ℕ) (b : Bool) → i < n → in_m (int4 s p) ≡ true → b ≡ all_m (n - i) p s → b ≡ all_m (n - (i + 1)) (p + 4) s
unfolding all_m
all_m-more s n i p b lt e h = let f : n - i ≡ suc (n - (i + 1)) = omega arith in h ∙ rw (f, e)

pub all_m-not : (s : List ℕ) (n i p : ℕ) (b : Bool) → i < n → in_m (int4 s p) ≡ false → b ≡ all_m (n - i) p s → b ≡ false
unfolding all_m
all_m-not s n i p b lt e h = let f : n - i ≡ suc (n - (i + 1)) = omega arith in h ∙ rw (f, e)

pub all_m-none : (s : List ℕ) (n i p : ℕ) (b : Bool) → n ≤ i → b ≡ all_m (n - i) p s → b ≡ true
unfolding all_m
all_m-none s n i p b le h = let f : n - i ≡ 0 = omega arith in h ∙ rw f
