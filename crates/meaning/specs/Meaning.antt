-- What a sheet means. A rational is any whole number over any whole number above 0; SOME and EVERY range over all of them; a variable that is
-- bound again further in means the inner one there. This file stands by itself: it knows nothing of steps, points or bytes.
use Rattle.std.specs.Prelude.{ℕ, zero, suc, ◌<◌, ◌≡◌, Bool, true, false, cond, List, ◌⊎◌, eqb, ℤ, pos, ◌+ℤ◌, ◌*ℤ◌, ◌<ℤ◌, ◌≤ℤ◌}
use Rattle.reading.specs.Limits.{variables}
use Rattle.reading.specs.Formula.{Comparison, less, atmost, equal, Formula, Formulas, atom, not, list, quant, window, none, more}
use Rattle.exact.specs.Numbers.{at}

-- top / bottom
pub record Fraction : Type 0 where
  pub top : ℤ
  pub bottom : ℤ
  pub above : pos 0 <ℤ bottom

-- the value of each variable, by its number
abbrev pub Values : Type 0
Values = ℕ → Fraction

-- the values with x for the variable v
abbrev pub put : ℕ → Fraction → Values → Values
put v x ρ u = cond (eqb u v) x (ρ u)

-- eight whole numbers over one denominator above 0, the ninth
abbrev pub fractions : (w : List ℤ) → pos 0 <ℤ at w 8 → Values
fractions w h v = record { top = at w v; bottom = at w 8; above = h }

-- the same fractions, each over any denominator
abbrev pub Equal : Values → Values → Type 0
Equal ρ σ = (v : ℕ) → v < variables → (ρ v).top *ℤ (σ v).bottom ≡ (σ v).top *ℤ (ρ v).bottom

-- ---- a sum: the constant, then each coefficient times its variable's value

pub record Sum : Type 0 where
  pub top : ℤ
  pub bottom : ℤ

-- s + z · x
abbrev pub plus : Sum → ℤ → Fraction → Sum
plus s z x = record { top = (s.top *ℤ x.bottom) +ℤ (z *ℤ x.top *ℤ s.bottom); bottom = s.bottom *ℤ x.bottom }

unfoldable pub sum_of : ℕ → List ℤ → Values → Sum
sum_of zero ns ρ = record { top = at ns 8; bottom = pos 1 }
sum_of (suc v) ns ρ = plus (sum_of v ns ρ) (at ns v) (ρ v)

-- a sum is below 0, at most 0 or 0 as its top is: its bottom is a product of numbers above 0
abbrev pub Compares : Comparison → ℤ → Type 0
Compares less z = z <ℤ pos 0
Compares atmost z = z ≤ℤ pos 0
Compares equal z = z ≡ pos 0

-- ---- a formula

-- all of two, or any of two; of none, ALLOF is true and ANYOF false; every fraction, or some
abbrev pub Both : Bool → Type 0 → Type 0 → Type 0
Both true P Q = P × Q
Both false P Q = P ⊎ Q

abbrev pub OfNone : Bool → Type 0
OfNone true = Unit {0}
OfNone false = ⊥

abbrev pub Over : {X : Type 0} → Bool → (X → Type 0) → Type 0
Over {X} true P = (x : X) → P x
Over {X} false P = (x : X) × P x

abbrev mutual
  pub Means : Formula → Values → Type 0
  Means (atom c ns) ρ = Compares c (sum_of 8 ns ρ).top
  Means (not f) ρ = ¬ Means f ρ
  Means (list b fs) ρ = MeansAll b fs ρ
  Means (quant b v f) ρ = Over b (λ (x : Fraction). Means f (put v x ρ))
  Means (window v lo hi) ρ = ((lo *ℤ (ρ v).bottom) ≤ℤ (ρ v).top) × ((ρ v).top ≤ℤ (hi *ℤ (ρ v).bottom))

  pub MeansAll : Bool → Formulas → Values → Type 0
  MeansAll b none ρ = OfNone b
  MeansAll b (more f fs) ρ = Both b (Means f ρ) (MeansAll b fs ρ)
