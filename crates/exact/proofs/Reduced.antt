-- A row and its reduced row: reducing takes out a factor above 0, so no sign changes; a row multiplied by a number above 0 reduces to the same;
-- and the divisor of what is reduced is 1 unless it is all zeros. Assumes nothing.
use mathlib.Core.Path.{◌≡◌, refl, sym, ◌∙◌, ap}
use mathlib.Core.List.{List, [], ◌∷◌}
use Prim.Native.Nat.{ℕ, zero, suc, ◌*◌, ◌/◌, ◌<◌}
use native.Mathlib.Nat as N
use lib.IntN.{ℤ, pos, negsuc, neg_ℤ, nat_abs, ◌*ℤ◌, *ℤ_comm}
use lib.Signed.{quot_z}
use Rattle.exact.specs.Numbers.{at}
use Rattle.exact.specs.Divisor.{gcd_of, gcd_from, gcds, quots, reduced}
use Rattle.exact.proofs.Sizes.{abs-*}
use Rattle.exact.proofs.Divisors.{gcd-mul}
use Rattle.exact.proofs.Rows.{times, at-times, reduced-times, reduced-zero}
use Rattle.exact.proofs.Ring.{◌⊗◌, *ℤ-one-l}
use Rattle.exact.proofs.Order.{sgn, sgn-up}

from-scale : (c g : ℕ) (l : List ℤ) → gcd_from (g * c) (times c l) ≡ gcd_from g l * c
unfolding gcd_from
from-scale c g [] = refl
from-scale c g (z ∷ l) =
    ap (λ (n : ℕ). gcd_from n (times c l)) (ap (gcd_of (g * c)) (abs-* z (pos c)) ∙ sym (gcd-mul g (nat_abs z) c)) ∙ from-scale c (gcd_of g (nat_abs z)) l

gcds-scale : (c : ℕ) (l : List ℤ) → gcds (times c l) ≡ gcds l * c
unfolding gcds
gcds-scale c l = ap (λ (n : ℕ). gcd_from n (times c l)) (sym (N.zero-mul c)) ∙ from-scale c 0 l

quot-neg : (n d : ℕ) → quot_z (neg_ℤ (pos n)) (pos d) ≡ neg_ℤ (pos (n / d))
quot-neg zero d = ap pos (N.zero-div d) ∙ sym (ap (λ (m : ℕ). neg_ℤ (pos m)) (N.zero-div d))
quot-neg (suc n) d = refl

quot-scale : (z : ℤ) (g c : ℕ) → zero < c → quot_z (z *ℤ pos c) (pos (g * c)) ≡ quot_z z (pos g)
quot-scale (pos a) g c h = ap pos (N.mul-div-mul_right a g h)
quot-scale (negsuc a) g c h = quot-neg (suc a * c) (g * c) ∙ ap (λ (m : ℕ). neg_ℤ (pos m)) (N.mul-div-mul_right (suc a) g h)

quots-scale : (g c : ℕ) (l : List ℤ) → zero < c → quots (g * c) (times c l) ≡ quots g l
unfolding quots
quots-scale g c [] h = refl
quots-scale g c (z ∷ l) h = λ i. quot-scale z g c h i ∷ quots-scale g c l h i

pub reduced-scale : (c : ℕ) (l : List ℤ) → zero < c → reduced (times c l) ≡ reduced l
unfolding reduced
reduced-scale c l h = ap (λ (g : ℕ). quots g (times c l)) (gcds-scale c l) ∙ quots-scale (gcds l) c l h

-- ---- the factor

times-one : (l : List ℤ) → times 1 l ≡ l
times-one [] = refl
times-one (z ∷ l) = λ i. (*ℤ_comm z (pos 1) ∙ *ℤ-one-l z) i ∷ times-one l i

-- reducing takes out a factor above 0, also from zeros
pub reduced-by : (l : List ℤ) → (n : ℕ) × (times (suc n) (reduced l) ≡ l)
reduced-by l = go (gcds l) refl
  where
    go : (g : ℕ) → gcds l ≡ g → (n : ℕ) × (times (suc n) (reduced l) ≡ l)
    go zero e = (0, times-one (reduced l) ∙ sym (reduced-zero l e))
    go (suc n) e = (n, ap (λ (g : ℕ). times g (reduced l)) (sym e) ∙ reduced-times l)

-- no sign changes
pub sgn-reduced : (l : List ℤ) (i : ℕ) → sgn (at (reduced l) i) ≡ sgn (at l i)
unfolding sgn ◌⊗◌
sgn-reduced l i =
    let m = reduced-by l in
    sym (sgn-up (pos (suc m.0)) (at (reduced l) i) refl) ∙ ap sgn (*ℤ_comm (pos (suc m.0)) (at (reduced l) i) ∙ sym (at-times (suc m.0) (reduced l) i) ∙ ap (λ (r : List ℤ). at r i) m.1)

pub reduced-one : (l : List ℤ) → zero < gcds l → gcds (reduced l) ≡ 1
reduced-one l h =
    N.eq_of_mul-eq-mul_right (gcds l) h (gcds (reduced l)) 1 (sym (gcds-scale (gcds l) (reduced l)) ∙ ap gcds (reduced-times l) ∙ sym (N.one-mul (gcds l)))
