-- 01, 'Copies', for one atom: at a point it comes out true, false or as one new atom. `put_of` and `spot_of` say what each case of the code's
-- enums stands for.
use Rattle.std.specs.Prelude.{ℕ, ◌<◌, Bool, true, false, not, ◌&&◌, cond, List, [], ◌∷◌, eqb, take, ℤ, pos, ◌+ℤ◌, ◌*ℤ◌}
use Rattle.std.specs.Int.Signed.{lt_z, le_z}
use Rattle.reading.specs.Limits.{M, variables}
use Rattle.reading.specs.Formula.{Comparison, less, atmost, equal}
use Rattle.exact.specs.Numbers.{at, tab, Each, is_zero, all_in}
use Rattle.exact.specs.Divisor.{reduced}
use Rattle.exact.specs.Terms.{left_at}
use Rattle.exact.specs.declared.Place.{Place}
use Rattle.exact.specs.declared.Place.TheVariants.{Below, Above, At, Nowhere}
use Rattle.exact.specs.declared.Point.{Point}
use Rattle.exact.specs.declared.Put.{Put}
use Rattle.exact.specs.declared.Put.TheVariants.{Decided, New, Large}

-- the comparison of a number with 0
abbrev pub holds : Comparison → ℤ → Bool
holds less z = lt_z z (pos 0)
holds atmost z = le_z z (pos 0)
holds equal z = is_zero z

-- no variable is left: each of the eight coefficients is 0
unfoldable pub all_zero : List ℤ → Bool
all_zero [] = true
all_zero (z ∷ l) = is_zero z && all_zero l

abbrev pub no_variable : List ℤ → Bool
no_variable ns = all_zero (take variables ns)

-- what an atom comes out as: decided, or the nine numbers of the new atom
pub data Came : Type 0 where
  sure : Bool → Came
  new : List ℤ → Came

-- with no variable left the atom is true or false; otherwise the nine numbers are divided by their greatest common divisor
unfoldable pub settled : Comparison → List ℤ → Came
unfolding all_zero reduced
settled c ns = cond (no_variable ns) (sure (holds c (at ns 8))) (new (reduced ns))

-- where an atom is taken: at a point of the variable x, which is −∞, +∞ or the fraction of ten numbers; or as it stands, in the finishing pass
pub data Spot : Type 0 where
  nowhere : Spot
  below above : ℕ → Spot
  here : ℕ → List ℤ → Spot

-- a·n + d·t, where a is the coefficient of x and t what is left
unfoldable pub point_at : List ℤ → ℕ → List ℤ → ℕ → ℤ
unfolding left_at
point_at ns x n i = at ns x *ℤ at n i +ℤ at n 9 *ℤ left_at ns x i

unfoldable pub point_of : List ℤ → ℕ → List ℤ → List ℤ
unfolding point_at
point_of ns x n = tab 9 (point_at ns x n)

-- far out EQUAL is false, and the others hold where the sum falls below every number
abbrev pub far_of : Comparison → Bool → Bool
far_of less falls = falls
far_of atmost falls = falls
far_of equal falls = false

-- the atom at the spot; without x it keeps its sum
unfoldable pub atom_at : Spot → Comparison → List ℤ → Came
unfolding settled point_of
atom_at nowhere c ns = settled c ns
atom_at (below x) c ns = cond (is_zero (at ns x)) (settled c ns) (sure (far_of c (not (lt_z (at ns x) (pos 0)))))
atom_at (above x) c ns = cond (is_zero (at ns x)) (settled c ns) (sure (far_of c (lt_z (at ns x) (pos 0))))
atom_at (here x n) c ns = cond (is_zero (at ns x)) (settled c ns) (settled c (point_of ns x n))

-- whether the numbers of a new atom lie in −M..M
abbrev pub fitting : Came → Bool
fitting (sure b) = true
fitting (new ns) = all_in M ns

-- ---- the code's answers

-- the comparison of the kind k: 1 LESS, 2 ATMOST, 3 EQUAL
abbrev pub comparison_of : ℕ → Comparison
comparison_of k = cond (eqb k 1) less (cond (eqb k 2) atmost equal)

-- decided: true or false; or its nine numbers, which lie in −M..M or do not
abbrev pub put_of : Came → Put
put_of (sure b) = Decided b
put_of (new ns) = cond (all_in M ns) (New ns) (Large ns)

-- −∞, +∞, the fraction, or none
abbrev pub spot_by : Place → ℕ → Spot
spot_by Below x = below x
spot_by Above x = above x
spot_by (At n) x = here x n
spot_by Nowhere x = nowhere

abbrev pub spot_of : Point → Spot
spot_of q = spot_by q.place q.x

-- the numbers of a fraction lie in −M..M
abbrev pub Bounded : Place → Type 0
Bounded Below = Unit {0}
Bounded Above = Unit {0}
Bounded (At n) = Each M n
Bounded Nowhere = Unit {0}

-- a point that the code may be asked about: a variable's number, and a place whose numbers lie in −M..M
pub record Ready (q : Point) : Type 0 where
  pub low : q.x < variables
  pub nums : Bounded q.place
