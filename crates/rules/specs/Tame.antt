-- When no number of a step can leave −M..M: a bound by which the code stops early. Nothing that is promised speaks of it; rules/proofs/Tame proves
-- that it holds.
use Rattle.std.specs.Prelude.{ℕ, zero, suc, ◌*◌, ◌≤◌, Bool, true, false, ◌≡◌, leb, eqb, nat_abs}
use Rattle.reading.specs.Limits.{M}
use Rattle.reading.specs.Formula.{Formula, Formulas, atom, not, list, quant, window, none, more}
use Rattle.exact.specs.Numbers.{at, is_zero}
use Rattle.exact.specs.Terms.{left_at}

-- an atom that has x has at most a there, and at most t in each other number; a WINDOW on x has 1 there, and lo and hi
abbrev mutual
  pub Bounded : ℕ → ℕ → ℕ → Formula → Type 0
  Bounded x a t (atom c ns) = is_zero (at ns x) ≡ false → (nat_abs (at ns x) ≤ a) × ((i : ℕ) → nat_abs (left_at ns x i) ≤ t)
  Bounded x a t (not f) = Bounded x a t f
  Bounded x a t (list b fs) = AllBounded x a t fs
  Bounded x a t (quant b v f) = Unit {0}
  Bounded x a t (window v lo hi) = eqb v x ≡ true → (1 ≤ a) × (nat_abs lo ≤ t) × (nat_abs hi ≤ t)

  pub AllBounded : ℕ → ℕ → ℕ → Formulas → Type 0
  AllBounded x a t none = Unit {0}
  AllBounded x a t (more f fs) = Bounded x a t f × AllBounded x a t fs

-- t, or 1 where it is 0
abbrev pub or_one : ℕ → ℕ
or_one zero = 1
or_one (suc t) = suc t

-- a midpoint has at most 2·t·a over 2·a·a, so a new atom at most 4·a·a·t
unfoldable pub tame : ℕ → ℕ → Bool
tame a t = leb (4 * (a * a * or_one t)) M
