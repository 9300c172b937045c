-- 01, 'Boundary terms' and the midpoint of 'Points'. A term is ten numbers: eight coefficients, a constant, and a denominator above 0.
use Rattle.std.specs.Prelude.{ℕ, Bool, true, false, not, cond, List, ltb, eqb, set, replicate, ℤ, pos, neg_ℤ, ◌+ℤ◌, ◌*ℤ◌}
use Rattle.std.specs.Int.Signed.{lt_z}
use Rattle.exact.specs.Numbers.{at, tab}
use Rattle.exact.specs.Divisor.{reduced}

-- number i of an atom with the variable x left out: t of ax + t
unfoldable pub left_at : List ℤ → ℕ → ℕ → ℤ
left_at ns x i = cond (eqb i x) (pos 0) (at ns i)

-- z, or −z
abbrev pub turned : Bool → ℤ → ℤ
turned true z = neg_ℤ z
turned false z = z

-- from ax + t with a ≠ 0: x = −t/a, which is t/(−a) where a is below 0
unfoldable pub term_at : List ℤ → ℕ → ℕ → ℤ
unfolding left_at
term_at ns x i = cond (ltb i 9) (turned (not (lt_z (at ns x) (pos 0))) (left_at ns x i)) (turned (lt_z (at ns x) (pos 0)) (at ns x))

unfoldable pub term_of : List ℤ → ℕ → List ℤ
unfolding term_at
term_of ns x = reduced (tab 10 (term_at ns x))

-- a window's lo or hi: c/1
unfoldable pub bound_of : ℤ → List ℤ
bound_of c = set (set (replicate 10 (pos 0)) 8 c) 9 (pos 1)

-- the midpoint (n₁d₂ + n₂d₁) / (2d₁d₂), before it is reduced, and reduced
unfoldable pub mid_at : List ℤ → List ℤ → ℕ → ℤ
mid_at t u i = cond (ltb i 9) (at t i *ℤ at u 9 +ℤ at u i *ℤ at t 9) (pos 2 *ℤ at t 9 *ℤ at u 9)

unfoldable pub mid_of : List ℤ → List ℤ → List ℤ
unfolding mid_at
mid_of t u = tab 10 (mid_at t u)

unfoldable pub midpoint : List ℤ → List ℤ → List ℤ
unfolding mid_of
midpoint t u = reduced (mid_of t u)
