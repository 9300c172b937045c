-- Rows of whole numbers: their greatest common divisor divides each and is the greatest such, a row divided by it and multiplied again is as
-- it was, a row whose divisor is 0 or 1 stays as it is, and bounds on each number carry over. Assumes nothing.
use mathlib.Core.Path.{◌≡◌, refl, sym, ◌∙◌, ap, ap₂, subst}
use mathlib.Core.List.{List, [], ◌∷◌}
use mathlib.Core.Bool.{Bool, true, false, not, cond, ◌&&◌}
use borrow.Author.Tests.{le-leb, leb-true, eq-eqb, ne_eqb, eqb-true, eqb-false}
use Prim.Native.Nat.{ℕ, zero, suc, ◌+◌, ◌^◌, ◌≤◌, ◌<◌, ◌∣◌, zero-le}
use native.Mathlib.Nat as N
use native.Mathlib.Numerals.{add-one}
use native.Mathlib.Omega.{arith}
use lib.Dec.{T, ltb, leb, eqb}
use lib.ListN.{length, drop, get_or, set, replicate, drop_of_length-le, length-map, length-set, get_or-replicate}
use lib.Seq.{drop-cons, get_or-set_same, get_or-set_other}
use lib.IntN.{ℤ, pos, negsuc, neg_ℤ, nat_abs, ◌*ℤ◌, zero-*ℤ}
use lib.Signed.{quot_z}
use mir.Syntax.{w64}
use mir.Val.{to_z, of_z}
use Rattle.reading.specs.Limits.{M}
use Rattle.reading.specs.Formula.{AllM}
use Rattle.exact.specs.Numbers.{at, Within, Each, all_in, is_zero, eq_z, same_row, tab, minus, single}
use Rattle.exact.specs.Divisor.{gcd_of, gcd_from, gcds, quots, reduced, divided_by}
use Rattle.exact.specs.Atoms.{all_zero}
use Rattle.exact.proofs.Sizes.{quot-exact, rd, fits, in-quot, in-more, in-rd, in-neg}
use Rattle.std.specs.List.{list_all, zip}
use Rattle.std.specs.Ordering.{int_eq}
use Rattle.std.specs.Cmp.Lexicographic.{pointwise}
use Rattle.std.proofs.lemmas.Bool.Decides.{same_from_decides, Decides-int_eq}
use Rattle.exact.proofs.Loops.{get_or-tab}
use Rattle.exact.proofs.Divisors.{gcd-is, gcd-le}

-- one more number
pub gcd-turn : (s : List ℤ) (i g : ℕ) → i < length s → gcd_from (gcd_of g (nat_abs (get_or s i (pos 0)))) (drop (i + 1) s) ≡ gcd_from g (drop i s)
unfolding gcd_from
gcd-turn s i g h = ap (λ (n : ℕ). gcd_from (gcd_of g (nat_abs (get_or s i (pos 0)))) (drop n s)) (add-one i) ∙ ap (gcd_from g) (sym (drop-cons s i (pos 0) h))

pub gcd-end : (s : List ℤ) (i g : ℕ) → length s ≤ i → gcd_from g (drop i s) ≡ g
unfolding gcd_from
gcd-end s i g h = ap (gcd_from g) (drop_of_length-le s h)

pub each_nil : {n : ℕ} → Each n []
each_nil = record { at = λ i. record { size = zero-le } }

pub each-cons : {n : ℕ} {z : ℤ} {l : List ℤ} → Within n z → Each n l → Each n (z ∷ l)
each-cons {n} {z} {l} w e = record { at = go }
  where
    go : (i : ℕ) → Within n (get_or (z ∷ l) i (pos 0))
    go zero = w
    go (suc i) = e.at i

pub each_tail : {n : ℕ} {z : ℤ} {l : List ℤ} → Each n (z ∷ l) → Each n l
each_tail e = record { at = λ i. e.at (suc i) }

pub each-tab : {m : ℕ} (n : ℕ) (f : ℕ → ℤ) → ((i : ℕ) → Within m (f i)) → Each m (tab n f)
each-tab zero f h = each_nil
each-tab (suc n) f h = each-cons (h 0) (each-tab n (λ i. f (suc i)) (λ i. h (suc i)))

pub each_more : {m n : ℕ} {l : List ℤ} → Each m l → m ≤ n → Each n l
each_more e h = record { at = λ i. in-more (e.at i) h }

pub each-zeros : {m : ℕ} (n : ℕ) → Each m (replicate n (pos 0))
each-zeros zero = each_nil
each-zeros (suc n) = each-cons (record { size = zero-le }) (each-zeros n)

pub each_set : {m : ℕ} {l : List ℤ} (i : ℕ) {v : ℤ} → Within m v → Each m l → Each m (set l i v)
each_set {m} {l} i {v} w e = go l i e
  where
    go : (l : List ℤ) (i : ℕ) → Each m l → Each m (set l i v)
    go [] i e = each_nil
    go (z ∷ l) zero e = each-cons w (each_tail e)
    go (z ∷ l) (suc i) e = each-cons (e.at 0) (go l i (each_tail e))

-- ---- the laws of the greatest common divisor: it divides each, and each common divisor divides it
abbrev pub EachBy : ℕ → List ℤ → Type 0
EachBy k [] = Unit {0}
EachBy k (z ∷ l) = (k ∣ nat_abs z) × EachBy k l

from-divides : (g : ℕ) (l : List ℤ) → (gcd_from g l ∣ g) × EachBy (gcd_from g l) l
unfolding gcd_from
from-divides g [] = (N.dvd_refl g, tt)
from-divides g (z ∷ l) =
    let ih = from-divides (gcd_of g (nat_abs z)) l in
    let d = gcd_from (gcd_of g (nat_abs z)) l in
    (N.dvd_trans d ih.0 (gcd-is g (nat_abs z)).left, (N.dvd_trans d ih.0 (gcd-is g (nat_abs z)).right, ih.1))

-- once the divisor is 1, the rest does not matter
pub from_one : (l : List ℤ) → gcd_from 1 l ≡ 1
from_one l = N.eq-one_of_dvd-one (from-divides 1 l).0

pub gcds-divides : (l : List ℤ) → EachBy (gcds l) l
unfolding gcds
gcds-divides l = (from-divides 0 l).1

-- divided by a common divisor and multiplied by it again, each is as it was
abbrev pub times : ℕ → List ℤ → List ℤ
times g [] = []
times g (z ∷ l) = (z *ℤ pos g) ∷ times g l

quots-times : (g : ℕ) (l : List ℤ) → EachBy g l → times g (quots g l) ≡ l
unfolding quots
quots-times g [] e = refl
quots-times g (z ∷ l) e = λ i. quot-exact z g (N.div-mul_cancel g e.0) i ∷ quots-times g l e.1 i

from_le : (n g : ℕ) (l : List ℤ) → g ≤ n → Each n l → gcd_from g l ≤ n
unfolding gcd_from
from_le n g [] h e = h
from_le n g (z ∷ l) h e = from_le n (gcd_of g (nat_abs z)) l (gcd-le g (nat_abs z) n h (e.at 0).size) (each_tail e)

pub gcds-le : {n : ℕ} {l : List ℤ} → Each n l → gcds l ≤ n
unfolding gcds
gcds-le {n} {l} e = from_le n 0 l zero-le e

-- where the divisor is 0, all are 0, and stay so
zero-abs : (z : ℤ) → nat_abs z ≡ 0 → quot_z z (pos 0) ≡ z
zero-abs (pos zero) e = refl
zero-abs (pos (suc n)) e = absurd (N.suc-ne-zero n e)
zero-abs (negsuc n) e = absurd (N.suc-ne-zero n e)

by_zero : (l : List ℤ) → EachBy 0 l → quots 0 l ≡ l
unfolding quots
by_zero [] e = refl
by_zero (z ∷ l) e = λ i. zero-abs z (N.eq-zero_of_zero-dvd e.0) i ∷ by_zero l e.1 i

pub reduced-zero : (l : List ℤ) → gcds l ≡ 0 → l ≡ reduced l
unfolding reduced
reduced-zero l e = sym (ap (λ (g : ℕ). quots g l) e ∙ by_zero l (subst (λ (g : ℕ). EachBy g l) e (gcds-divides l)))

-- where the divisor is 1, each number stays
divided-one : (z : ℤ) → divided_by 1 z ≡ z
divided-one (pos a) = ap pos (N.div-one a)
divided-one (negsuc a) = ap (λ (n : ℕ). neg_ℤ (pos n)) (N.div-one (suc a))

quots-one : (l : List ℤ) → quots 1 l ≡ l
unfolding quots
quots-one [] = refl
quots-one (z ∷ l) = λ i. divided-one z i ∷ quots-one l i

pub one-reduced : (l : List ℤ) → gcds l ≡ 1 → reduced l ≡ l
unfolding reduced
one-reduced l e = ap (λ (g : ℕ). quots g l) e ∙ quots-one l

-- so a row whose divisor is not above 1 stays as it is
pub reduced-low : (l : List ℤ) → gcds l ≤ 1 → l ≡ reduced l
reduced-low l h = go (gcds l) refl h
  where
    go : (g : ℕ) → gcds l ≡ g → g ≤ 1 → l ≡ reduced l
    go zero e h = reduced-zero l e
    go (suc zero) e h = sym (one-reduced l e)
    go (suc (suc g)) e h = absurd (N.not-suc-le-zero (N.le_of_suc-le-suc h))

pub reduced-is : (l : List ℤ) (g : ℕ) → g ≡ gcds l → quots g l ≡ reduced l
unfolding reduced
reduced-is l g e = ap (λ (n : ℕ). quots n l) e

-- reduced and multiplied by the divisor again, the list is as it was
pub reduced-times : (l : List ℤ) → times (gcds l) (reduced l) ≡ l
unfolding reduced
reduced-times l = quots-times (gcds l) l (gcds-divides l)

-- ---- the test whether each lies in −n..n

-- the tests of a row, as the loops see them
abbrev pub small : ℕ → ℤ → Bool
small n z = leb (nat_abs z) n

pub all-is : (n : ℕ) (l : List ℤ) → all_in n l ≡ list_all (small n) l
unfolding all_in
all-is n [] = refl
all-is n (z ∷ l) = ap (λ (b : Bool). leb (nat_abs z) n && b) (all-is n l)

pub all_zero-is : (l : List ℤ) → all_zero l ≡ list_all is_zero l
unfolding all_zero
all_zero-is [] = refl
all_zero-is (z ∷ l) = ap (λ (b : Bool). is_zero z && b) (all_zero-is l)

pub all-each : (n : ℕ) (l : List ℤ) → all_in n l ≡ true → Each n l
unfolding all_in
all-each n [] e = each_nil
all-each n (z ∷ l) e = go (leb (nat_abs z) n) (all_in n l) (leb-true (nat_abs z) n) (all-each n l) e
  where
    go : (a b : Bool) → (a ≡ true → nat_abs z ≤ n) → (b ≡ true → Each n l) → a && b ≡ true → Each n (z ∷ l)
    go true b h k e = each-cons (record { size = h refl }) (k e)
    go false b h k e = absurd (subst (λ (b : Bool). T (not b)) e tt)

pub each_all : {n : ℕ} {l : List ℤ} → Each n l → all_in n l ≡ true
unfolding all_in
each_all {n} {l} e = go l e
  where
    go : (l : List ℤ) → Each n l → all_in n l ≡ true
    go [] e = refl
    go (z ∷ l) e = ap₂ (λ (a b : Bool). a && b) (le-leb (nat_abs z) n (e.at 0).size) (go l (each_tail e))

-- an element that was read into a local, as the local gives it back; at a bound that is written out the test is `tt`
pub rd-at : {n : ℕ} {l : List ℤ} → Each n l → T (ltb n (2 ^ 63)) → (i : ℕ) → to_z w64 (of_z w64 (get_or l i (pos 0))) ≡ get_or l i (pos 0)
rd-at e t i = rd (fits (e.at i) t)

pub in-at : {n : ℕ} {l : List ℤ} → Each n l → T (ltb n (2 ^ 63)) → (i : ℕ) → Within n (to_z w64 (of_z w64 (get_or l i (pos 0))))
in-at e t i = in-rd (e.at i) t

each-quots : (n g : ℕ) (l : List ℤ) → Each n l → Each n (quots g l)
unfolding quots
each-quots n g [] e = each_nil
each-quots n g (z ∷ l) e = each-cons (in-quot g (e.at 0)) (each-quots n g l (each_tail e))

pub each-reduced : {n : ℕ} {l : List ℤ} → Each n l → Each n (reduced l)
unfolding reduced
each-reduced {n} {l} e = each-quots n (gcds l) l e

-- ---- the same number, and the same row

eq-same : (a : ℤ) → eq_z a a ≡ true
eq-same (pos a) = eq-eqb a a refl
eq-same (negsuc a) = eq-eqb a a refl

eq_is : (a b : ℤ) → a ≡ b → eq_z a b ≡ true
eq_is a b e = subst (λ (z : ℤ). eq_z a z ≡ true) e (eq-same a)

eq-same-is : (a b : ℤ) → eq_z a b ≡ true → a ≡ b
eq-same-is (pos a) (pos b) e = ap pos (eqb-true a b e)
eq-same-is (pos a) (negsuc b) e = absurd (subst (λ (t : Bool). T (not t)) e tt)
eq-same-is (negsuc a) (pos b) e = absurd (subst (λ (t : Bool). T (not t)) e tt)
eq-same-is (negsuc a) (negsuc b) e = ap negsuc (eqb-true a b e)

-- which is what `==` answers of each pair
same-number : (a b : ℤ) → int_eq a b ≡ eq_z a b
same-number a b = same_from_decides (int_eq a b) (eq_z a b) (Decides-int_eq a b) (eq-same-is a b, eq_is a b)

-- in whatever way the library compares them: number by number, or pair by pair
pub same-pointwise : (a b : List ℤ) → pointwise int_eq a b ≡ same_row a b
unfolding same_row
same-pointwise [] [] = refl
same-pointwise [] (y ∷ b) = refl
same-pointwise (x ∷ a) [] = refl
same-pointwise (x ∷ a) (y ∷ b) = ap₂ (λ (s t : Bool). s && t) (same-number x y) (same-pointwise a b)

pub same-zip : (a b : List ℤ) → length a ≡ length b → list_all (λ p. int_eq p.0 p.1) (zip a b) ≡ same_row a b
unfolding same_row
same-zip [] [] h = refl
same-zip [] (y ∷ b) h = absurd (omega arith)
same-zip (x ∷ a) [] h = absurd (omega arith)
same-zip (x ∷ a) (y ∷ b) h = ap₂ (λ (s t : Bool). s && t) (same-number x y) (same-zip a b (omega arith))

pub not-long : (a b : List ℤ) → (length a ≡ length b → ⊥) → false ≡ same_row a b
unfolding same_row
not-long [] [] n = absurd (n refl)
not-long [] (y ∷ b) n = refl
not-long (x ∷ a) [] n = refl
not-long (x ∷ a) (y ∷ b) n = go (eq_z x y) (not-long a b (λ e. n (ap suc e)))
  where
    go : (t : Bool) → false ≡ same_row a b → false ≡ t && same_row a b
    go true e = e
    go false e = refl

-- the test says what it should
pub same-is : (a b : List ℤ) → same_row a b ≡ true → a ≡ b
unfolding same_row
same-is [] [] e = refl
same-is [] (y ∷ b) e = absurd (subst (λ (t : Bool). T (not t)) e tt)
same-is (x ∷ a) [] e = absurd (subst (λ (t : Bool). T (not t)) e tt)
same-is (x ∷ a) (y ∷ b) e = go (eq_z x y) (eq-same-is x y) (same-is a b) e
  where
    go : (t : Bool) → (t ≡ true → x ≡ y) → (same_row a b ≡ true → a ≡ b) → t && same_row a b ≡ true → x ∷ a ≡ y ∷ b
    go true h k e = λ i. h refl i ∷ k e i
    go false h k e = absurd (subst (λ (t : Bool). T (not t)) e tt)

pub same_self : (a : List ℤ) → same_row a a ≡ true
unfolding same_row
same_self [] = refl
same_self (x ∷ a) = ap₂ (λ (s t : Bool). s && t) (eq-same x) (same_self a)

-- ---- numbers of rows that were made from others, and lengths

pub at-tab : (n : ℕ) (f : ℕ → ℤ) (i : ℕ) → i < n → at (tab n f) i ≡ f i
at-tab n f i h = get_or-tab n f i (pos 0) h

pub at-minus : (l : List ℤ) (i : ℕ) → at (minus l) i ≡ neg_ℤ (at l i)
unfolding minus
at-minus [] i = refl
at-minus (z ∷ l) zero = refl
at-minus (z ∷ l) (suc i) = at-minus l i

pub at-times : (g : ℕ) (l : List ℤ) (i : ℕ) → at (times g l) i ≡ at l i *ℤ pos g
at-times g [] i = sym (zero-*ℤ (pos g))
at-times g (z ∷ l) zero = refl
at-times g (z ∷ l) (suc i) = at-times g l i

pub length-times : (g : ℕ) (l : List ℤ) → length (times g l) ≡ length l
length-times g [] = refl
length-times g (z ∷ l) = ap suc (length-times g l)

pub length-reduced : (l : List ℤ) → length (reduced l) ≡ length l
unfolding reduced quots
length-reduced l = length-map l _

pub length-minus : (l : List ℤ) → length (minus l) ≡ length l
unfolding minus
length-minus l = length-map l neg_ℤ

pub each-minus : {n : ℕ} {l : List ℤ} → Each n l → Each n (minus l)
each-minus {n} {l} e = record { at = λ i. subst (Within n) (sym (at-minus l i)) (in-neg (e.at i)) }

pub length-single : (v : ℕ) (a c : ℤ) → length (single v a c) ≡ 9
unfolding single
length-single v a c = length-set (set (replicate 9 (pos 0)) v a) 8 c ∙ length-set (replicate 9 (pos 0)) v a

-- ---- one number set, and the nine of `single`

pub at_set : (l : List ℤ) (i : ℕ) (a : ℤ) (j : ℕ) → j < length l → at (set l i a) j ≡ cond (eqb j i) a (at l j)
at_set l i a j h = go (eqb j i) refl
  where
    go : (b : Bool) → eqb j i ≡ b → at (set l i a) j ≡ cond b a (at l j)
    go true e = let p = eqb-true j i e in ap (λ (k : ℕ). at (set l i a) k) p ∙ get_or-set_same l i a (pos 0) (omega arith)
    go false e = get_or-set_other l i j a (pos 0) (eqb-false j i e)

pub at-single : (v : ℕ) (a c : ℤ) (i : ℕ) → i < 9 → at (single v a c) i ≡ cond (eqb i 8) c (cond (eqb i v) a (pos 0))
unfolding single
at-single v a c i h =
    at_set (set (replicate 9 (pos 0)) v a) 8 c i (rw (length-set (replicate 9 (pos 0)) v a) h)
    ∙ ap (cond (eqb i 8) c) (at_set (replicate 9 (pos 0)) v a i h ∙ ap (cond (eqb i v) a) (get_or-replicate 9 i (pos 0) (pos 0) h))

-- the coefficient of v is a, that of each other variable 0
pub single-here : (v : ℕ) (a c : ℤ) → v < 8 → at (single v a c) v ≡ a
single-here v a c h = at-single v a c v (omega arith) ∙ ap₂ (λ (d b : Bool). cond d c (cond b a (pos 0))) (ne_eqb v 8 (λ e. omega arith)) (eq-eqb v v refl)

pub single-else : (x v : ℕ) (a c : ℤ) → x < 8 → (v ≡ x → ⊥) → at (single v a c) x ≡ pos 0
single-else x v a c h n =
    at-single v a c x (omega arith) ∙ ap₂ (λ (d b : Bool). cond d c (cond b a (pos 0))) (ne_eqb x 8 (λ e. omega arith)) (ne_eqb x v (λ e. n (sym e)))

-- ---- the divisor and each number

pub by-at : (k : ℕ) (l : List ℤ) → EachBy k l → (i : ℕ) → k ∣ nat_abs (at l i)
by-at k [] e i = N.dvd-zero k
by-at k (z ∷ l) e zero = e.0
by-at k (z ∷ l) e (suc i) = by-at k l e.1 i

-- a row with a number 1 is reduced
pub unit-reduced : (l : List ℤ) (i : ℕ) → nat_abs (at l i) ≡ 1 → reduced l ≡ l
unit-reduced l i e = one-reduced l (N.eq-one_of_dvd-one (subst (λ (n : ℕ). gcds l ∣ n) e (by-at (gcds l) l (gcds-divides l) i)))

-- ---- rows in −M..M, as the ranges of a record say it and as the laws of rows do

pub all_m-each : (l : List ℤ) → AllM l → Each M l
all_m-each [] w = each_nil
all_m-each (z ∷ l) w = each-cons (record { size = w.0 }) (all_m-each l w.1)

pub each-all_m : (l : List ℤ) → Each M l → AllM l
each-all_m [] e = tt
each-all_m (z ∷ l) e = ((e.at 0).size, each-all_m l (each_tail e))
