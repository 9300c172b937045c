-- What a look over a body sees of its records one by one, it sees of the whole: what is seen of an atom and of a WINDOW stays seen, and at each record what is
-- left is a list of formulas, which gives the whole once it is seen. And the test that no number is too big is the bound of `tame`.
use mathlib.Core.Path.{◌≡◌, refl, sym, ap, subst}
use mathlib.Core.Bool.{Bool, true, false, cond}
use mathlib.Core.List.{List}
use Prim.Native.Nat.{ℕ, zero, suc, ◌+◌, ◌*◌, ◌≤◌, ◌<◌, zero-le}
use native.Mathlib.Nat.{le_refl, le_trans, mul-le-mul}
use native.Mathlib.Omega.{arith}
use borrow.Author.Tests.{le-leb, ltb-true, ltb-false, eq-eqb, ne_eqb}
use lib.Dec.{eqb, ltb}
use lib.ListN.{length, get_or-eq_default}
use lib.IntN.{ℤ, pos, nat_abs}
use Rattle.reading.specs.Limits.{M}
use Rattle.reading.specs.Formula.{Comparison, Formula, Formulas, atom, not, list, quant, window, none, more, label_of, size, encode}
use Rattle.reading.specs.Reading.{tree_of, Begins}
use Rattle.reading.specs.Views.{IsAtom, numbers_of}
use Rattle.reading.proofs.Scan.{◌and◌, rest_of}
use Rattle.exact.specs.Numbers.{at}
use Rattle.exact.specs.Terms.{left_at}
use Rattle.rules.specs.Tame.{AllBounded, or_one, tame}
use Rattle.replacement.specs.declared.Survey.{Survey}
use Rattle.replacement.specs.Surveying.{Sees, SeesAll, SeesLeaf, Small, Grows}
use Rattle.replacement.proofs.surveying.OverRecords.{Over, OverStep, over-begins, over-ends}

-- ---- a survey grows

pub grows_self : {v : Survey} → Small v → Grows v v
grows_self {v} s = record { most = le_refl v.most; other = le_refl v.other; small = s }

grows-on : {u v w : Survey} → Grows u v → Grows v w → Grows u w
grows-on g h = record { most = le_trans g.most h.most; other = le_trans g.other h.other; small = h.small }

leaf-grows : (x : ℕ) {v r : Survey} (f : Formula) → Grows v r → SeesLeaf x v f → SeesLeaf x r f
leaf-grows x (atom c ns) g l = λ e. (le_trans (l e).0 g.most, λ i. le_trans ((l e).1 i) g.other)
leaf-grows x (not f) g l = tt
leaf-grows x (list b fs) g l = tt
leaf-grows x (quant b y f) g l = tt
leaf-grows x (window y lo hi) g l = λ e. (le_trans (l e).0 g.most, le_trans (l e).1 g.other, le_trans (l e).2 g.other)

-- ---- the numbers of a row, that of x left out

pub left-more : (ns : List ℤ) (x : ℕ) {i m k : ℕ} → ((j : ℕ) → j < i → nat_abs (left_at ns x j) ≤ m) → m ≤ k → nat_abs (left_at ns x i) ≤ k → (j : ℕ) → j < i + 1 → nat_abs (left_at ns x j) ≤ k
left-more ns x {i} {m} {k} h l n j o = go (ltb j i) refl
  where
    go : (b : Bool) → ltb j i ≡ b → nat_abs (left_at ns x j) ≤ k
    go true e = le_trans (h j (ltb-true j i e)) l
    go false e = subst (λ (y : ℕ). nat_abs (left_at ns x y) ≤ k) (omega (arith, o, ltb-false j i e)) n

pub left-other : (ns : List ℤ) (x i : ℕ) → (i ≡ x → ⊥) → left_at ns x i ≡ at ns i
unfolding left_at
left-other ns x i h = ap (λ (b : Bool). cond b (pos 0) (at ns i)) (ne_eqb i x h)

pub left-self : (ns : List ℤ) (x i : ℕ) → i ≡ x → left_at ns x i ≡ pos 0
unfolding left_at
left-self ns x i e = ap (λ (b : Bool). cond b (pos 0) (at ns i)) (eq-eqb i x e)

-- past the end each is 0
pub left-all : (ns : List ℤ) (x : ℕ) {i m : ℕ} → length ns ≤ i → ((j : ℕ) → j < i → nat_abs (left_at ns x j) ≤ m) → (j : ℕ) → nat_abs (left_at ns x j) ≤ m
unfolding left_at
left-all ns x {i} {m} h k j = go (ltb j i) refl
  where
    past : (b : Bool) → at ns j ≡ pos 0 → nat_abs (cond b (pos 0) (at ns j)) ≤ m
    past true e = zero-le
    past false e = subst (λ (z : ℤ). nat_abs z ≤ m) (sym e) zero-le

    go : (b : Bool) → ltb j i ≡ b → nat_abs (cond (eqb j x) (pos 0) (at ns j)) ≤ m
    go true e = k j (ltb-true j i e)
    go false e = past (eqb j x) (get_or-eq_default ns (pos 0) (omega (arith, h, ltb-false j i e)))

-- ---- one record

pub leaf-atom : (x : ℕ) (r : Survey) (f : Formula) → IsAtom f → ((c : Comparison) → Sees x r (atom c (numbers_of f))) → SeesLeaf x r f
leaf-atom x r (atom c ns) i h = h c
leaf-atom x r (not f) i h = absurd i
leaf-atom x r (list b fs) i h = absurd i
leaf-atom x r (quant b y f) i h = absurd i
leaf-atom x r (window y lo hi) i h = absurd i

-- ---- formulas one after the other

bounded-apart : (x a t : ℕ) (fs gs : Formulas) → AllBounded x a t (fs and gs) → AllBounded x a t fs × AllBounded x a t gs
bounded-apart x a t none gs h = (tt, h)
bounded-apart x a t (more f fs) gs h = let k = bounded-apart x a t fs gs h.1 in ((h.0, k.0), k.1)

-- the record of f and what is left after it give f and the rest
put-together : (x : ℕ) (r : Survey) (f : Formula) (gs : Formulas) → SeesLeaf x r f → SeesAll x r (rest_of f gs) → SeesAll x r (more f gs)
put-together x r (atom c ns) gs l h = (l, h)
put-together x r (not f) gs l h = h
put-together x r (list b fs) gs l h = bounded-apart x r.most r.other fs gs h
put-together x r (quant b y f) gs l h = (tt, h.1)
put-together x r (window y lo hi) gs l h = (l, h)

-- ---- the way over the records: once those that are left are seen, the whole is

abbrev pub Seen : List ℕ → ℕ → Survey → Formulas → Type 0
Seen s x v fs = (r : Survey) → Grows v r → SeesAll x r fs → Sees x r (tree_of s)

pub record Looking (s : List ℕ) (n x : ℕ) (v : Survey) (p : ℕ) : Type 0 where
  pub small : Small v
  pub over : Over s n p (Seen s x v)

pub look-begins : {s : List ℕ} {n x : ℕ} → Begins s (tree_of s) → n ≡ length (encode (tree_of s)) → Looking s n x (record { most = 0; other = 0 }) 0
look-begins b e = record { small = record { most = omega arith; other = omega arith }; over = over-begins b e (λ r g h. h.0) }

pub look-next : {s : List ℕ} {n x : ℕ} {v : Survey} {p : ℕ} {f : Formula} {r : Survey} → OverStep s n p (Seen s x v) f → Grows v r → SeesLeaf x r f → Looking s n x r (p + size (label_of f))
look-next {s} {n} {x} {v} {p} {f} t g l =
    record { small = g.small; over = t.next (λ gs k u d a. k u (grows-on g d) (put-together x u f gs (leaf-grows x f d l) a)) }

pub look-ends : {s : List ℕ} {n x : ℕ} {v : Survey} {p : ℕ} → Looking s n x v p → n ≤ p → Sees x v (tree_of s)
look-ends {s} {n} {x} {v} w h = over-ends w.over h v (grows_self w.small) tt

-- ---- no number of a step is too big

pub tame-is : (a t m : ℕ) → (t ≤ m) × (1 ≤ m) → 2 * a * (2 * m * a) ≤ M → tame a t ≡ true
unfolding tame
tame-is a t m h k = le-leb (4 * (a * a * or_one t)) M (omega (arith, k, mul-le-mul (le_refl (a * a)) (or-one t h.0)))
  where
    or-one : (t : ℕ) → t ≤ m → or_one t ≤ m
    or-one zero e = h.1
    or-one (suc t) e = e
