-- An atom at a point: what the loop that makes its new sum has done, sizes and lengths, and each way it comes out. Assumes nothing.
-- ---- the comparison
use mathlib.Core.Path.{◌≡◌, refl, sym, ◌∙◌, ap, subst}
use mathlib.Core.List.{List}
use mathlib.Core.Bool.{Bool, true, false, not, cond}
use Prim.Native.Nat.{ℕ}
use native.Mathlib.Omega.{arith}
use borrow.Author.Tests.{eq-eqb, ne_eqb}
use lib.IntN.{ℤ, pos, ◌+ℤ◌, ◌*ℤ◌}
use lib.Signed.{lt_z}
use mir.Syntax.{w64}
use mir.Val.{of_z}
use lib.ListN.{length}
use Rattle.reading.specs.Limits.{M}
use Rattle.reading.specs.Formula.{Comparison, atmost, equal, less}
use Rattle.reading.specs.Views.{comparison_case, comparison_in}
use Rattle.exact.specs.Numbers.{at, Each, is_zero, all_in}
use Rattle.exact.specs.Divisor.{reduced}
use Rattle.exact.specs.Terms.{left_at}
use Rattle.exact.specs.Atoms.{holds, no_variable, sure, new, settled, nowhere, below, above, here, point_at, point_of, far_of, atom_at, spot_by, Came, put_of, spot_of, Spot}
use Rattle.exact.specs.declared.Place.{Place}
use Rattle.exact.specs.declared.Point.{Point}
use Rattle.exact.specs.declared.Put.TheVariants.{Decided, New, Large}
use Rattle.exact.specs.declared.Place.TheVariants.{Below, Above, At, Nowhere}
use Rattle.exact.proofs.Sizes.{in-more, in-+, in-*, fits, bits-eqb}
use Rattle.exact.proofs.Loops.{fill_done, length-tab}
use Rattle.reading.proofs.Filling.{Filled}
use Rattle.exact.proofs.Terms.{in_left}
use Rattle.exact.proofs.Rows.{each-tab, length-reduced}

-- the case of a comparison is that of no other
pub case-in : (c : Comparison) → comparison_in (comparison_case c) ≡ c
case-in less = refl
case-in atmost = refl
case-in equal = refl

-- ---- decided, or divided

pub settled-sure : (c : Comparison) (ns : List ℤ) → no_variable ns ≡ true → settled c ns ≡ sure (holds c (at ns 8))
unfolding settled
settled-sure c ns e = ap (λ (b : Bool). cond b (sure (holds c (at ns 8))) (new (reduced ns))) e

pub settled-new : (c : Comparison) (ns : List ℤ) → no_variable ns ≡ false → settled c ns ≡ new (reduced ns)
unfolding settled
settled-new c ns e = ap (λ (b : Bool). cond b (sure (holds c (at ns 8))) (new (reduced ns))) e

-- ---- the sum at a fraction

pub point-is : (ns : List ℤ) (x : ℕ) (n : List ℤ) (i : ℕ) → at ns x *ℤ at n i +ℤ at n 9 *ℤ left_at ns x i ≡ point_at ns x n i
unfolding point_at
point-is ns x n i = refl

pub point-done : (ns : List ℤ) (x : ℕ) (n : List ℤ) {m : List ℤ} {i : ℕ} → i ≡ 9 → Filled (pos 0) (point_at ns x n) 9 m i → m ≡ point_of ns x n
unfolding point_of
point-done ns x n {m} {i} e f = fill_done (pos 0) (point_at ns x n) 9 (subst (Filled (pos 0) (point_at ns x n) 9 m) e f)

pub each-point : {ns : List ℤ} (x : ℕ) {n : List ℤ} → Each M ns → Each M n → Each 9223372036854775807 (point_of ns x n)
unfolding point_of point_at
each-point {ns} x {n} h k = each-tab 9 (point_at ns x n) (λ i. in-more (in-+ (in-* (h.at x) (k.at i)) (in-* (k.at 9) (in_left x i h))) (omega arith))

-- ---- the kinds of point

-- without x every point leaves the atom as it stands
pub at-without : (p : Place) (x : ℕ) (c : Comparison) (ns : List ℤ) → is_zero (at ns x) ≡ true → atom_at (spot_by p x) c ns ≡ settled c ns
unfolding atom_at
at-without Nowhere x c ns e = refl
at-without Below x c ns e = ap (λ (b : Bool). cond b (settled c ns) (sure (far_of c (not (lt_z (at ns x) (pos 0)))))) e
at-without Above x c ns e = ap (λ (b : Bool). cond b (settled c ns) (sure (far_of c (lt_z (at ns x) (pos 0))))) e
at-without (At n) x c ns e = ap (λ (b : Bool). cond b (settled c ns) (settled c (point_of ns x n))) e

pub at-nowhere : (c : Comparison) (ns : List ℤ) → atom_at nowhere c ns ≡ settled c ns
unfolding atom_at
at-nowhere c ns = refl

pub at-below : (x : ℕ) (c : Comparison) (ns : List ℤ) → is_zero (at ns x) ≡ false → atom_at (below x) c ns ≡ sure (far_of c (not (lt_z (at ns x) (pos 0))))
unfolding atom_at
at-below x c ns e = ap (λ (b : Bool). cond b (settled c ns) (sure (far_of c (not (lt_z (at ns x) (pos 0)))))) e

pub at_above : (x : ℕ) (c : Comparison) (ns : List ℤ) → is_zero (at ns x) ≡ false → atom_at (above x) c ns ≡ sure (far_of c (lt_z (at ns x) (pos 0)))
unfolding atom_at
at_above x c ns e = ap (λ (b : Bool). cond b (settled c ns) (sure (far_of c (lt_z (at ns x) (pos 0))))) e

pub at_here : (x : ℕ) (n : List ℤ) (c : Comparison) (ns : List ℤ) → is_zero (at ns x) ≡ false → atom_at (here x n) c ns ≡ settled c (point_of ns x n)
unfolding atom_at
at_here x n c ns e = ap (λ (b : Bool). cond b (settled c ns) (settled c (point_of ns x n))) e

-- whether a coefficient is 0, as the code tests it
pub zero_is : {ns : List ℤ} (x : ℕ) → Each M ns → of_z w64 (at ns x) ≡ 0 → is_zero (at ns x) ≡ true
zero_is {ns} x e h = sym (bits-eqb (at ns x) (fits (e.at x) tt)) ∙ eq-eqb (of_z w64 (at ns x)) 0 h

pub zero-not : {ns : List ℤ} (x : ℕ) → Each M ns → (of_z w64 (at ns x) ≡ 0 → ⊥) → is_zero (at ns x) ≡ false
zero-not {ns} x e h = sym (bits-eqb (at ns x) (fits (e.at x) tt)) ∙ ne_eqb (of_z w64 (at ns x)) 0 h

-- the point's place is known
pub at-place : (q : Point) (p : Place) (c : Comparison) (ns : List ℤ) {v : Came} → q.place ≡ p → atom_at (spot_by p q.x) c ns ≡ v → put_of v ≡ put_of (atom_at (spot_of q) c ns)
at-place q p c ns e f = ap put_of (sym f ∙ ap (λ (y : Place). atom_at (spot_by y q.x) c ns) (sym e))

-- ---- nine numbers in, nine numbers out; and a fitting atom's numbers lie in −M..M

point-long : (ns : List ℤ) (x : ℕ) (n : List ℤ) → length (point_of ns x n) ≡ 9
unfolding point_of
point-long ns x n = length-tab 9 (point_at ns x n)

-- nine numbers, where they are numbers
abbrev pub Nine : Came → Type 0
Nine (sure b) = Unit {0}
Nine (new ns) = length ns ≡ 9

nine-either : (b : Bool) (u v : Came) → Nine u → Nine v → Nine (cond b u v)
nine-either true u v h k = h
nine-either false u v h k = k

settled-nine : (c : Comparison) (ns : List ℤ) → length ns ≡ 9 → Nine (settled c ns)
unfolding settled
settled-nine c ns h = nine-either (no_variable ns) (sure (holds c (at ns 8))) (new (reduced ns)) tt (length-reduced ns ∙ h)

pub atom-nine : (s : Spot) (c : Comparison) (ns : List ℤ) → length ns ≡ 9 → Nine (atom_at s c ns)
unfolding atom_at
atom-nine nowhere c ns h = settled-nine c ns h
atom-nine (below x) c ns h = nine-either (is_zero (at ns x)) (settled c ns) (sure (far_of c (not (lt_z (at ns x) (pos 0))))) (settled-nine c ns h) tt
atom-nine (above x) c ns h = nine-either (is_zero (at ns x)) (settled c ns) (sure (far_of c (lt_z (at ns x) (pos 0)))) (settled-nine c ns h) tt
atom-nine (here x n) c ns h =
    nine-either (is_zero (at ns x)) (settled c ns) (settled c (point_of ns x n)) (settled-nine c ns h) (settled-nine c (point_of ns x n) (point-long ns x n))

-- ---- what an answer of the code says of the atom

-- decided it is that truth
pub put-decided : (o : Came) {b : Bool} → put_of o ≡ Decided b → o ≡ sure b
put-decided (sure v) e = cc
put-decided (new ns) {b} e = go (all_in M ns) e
  where
    go : (t : Bool) → cond t (New ns) (Large ns) ≡ Decided b → new ns ≡ sure b
    go true e = absurd cc
    go false e = absurd cc

-- new or large it has those numbers, which lie in −M..M or do not
pub put-new : (o : Came) {ks : List ℤ} → put_of o ≡ New ks → (o ≡ new ks) × (all_in M ks ≡ true)
put-new (sure v) e = absurd cc
put-new (new ns) {ks} e = go (all_in M ns) refl e
  where
    go : (t : Bool) → all_in M ns ≡ t → cond t (New ns) (Large ns) ≡ New ks → (new ns ≡ new ks) × (all_in M ks ≡ true)
    go true h e = let k : ns ≡ ks = cc in (ap new k, sym (ap (all_in M) k) ∙ h)
    go false h e = absurd cc

pub put-large : (o : Came) {ks : List ℤ} → put_of o ≡ Large ks → (o ≡ new ks) × (all_in M ks ≡ false)
put-large (sure v) e = absurd cc
put-large (new ns) {ks} e = go (all_in M ns) refl e
  where
    go : (t : Bool) → all_in M ns ≡ t → cond t (New ns) (Large ns) ≡ Large ks → (new ns ≡ new ks) × (all_in M ks ≡ false)
    go true h e = absurd cc
    go false h e = let k : ns ≡ ks = cc in (ap new k, sym (ap (all_in M) k) ∙ h)
