-- 01, 'A sheet on disk': which kind a number is, and that a record of four bytes or more is read by its kind. The functions that read one
-- record cite it. Assumes nothing.
use mathlib.Core.Path.{◌≡◌, refl, sym, ◌∙◌, ap}
use mathlib.Core.List.{List}
use mathlib.Core.Bool.{cond}
use Prim.Native.Nat.{ℕ, ◌≤◌, ◌<◌}
use lib.Dec.{leb}
use lib.ListN.{length}
use borrow.Author.Tests.{le-ltb, lt-ltb, ne_eqb, eq-eqb}
use Rattle.reading.specs.Limits.{last_variable}
use Rattle.reading.specs.AnswerNumbers.{cut_short, wrong_length, wrong_variable, wrong_number}
use Rattle.reading.specs.Bytes.{le2, int4, ints}
use Rattle.reading.specs.Formula.{atom_l, not_l, list_l, quant_l, window_l}
use Rattle.reading.specs.Records.{Record, bad, opened, sized, all_m, kind_of, by_kind, head, unknown_k}
use Rattle.reading.specs.Views.{comparison_in, shape_kind, shape_size}
use Rattle.reading.specs.Answers.{Bad, head_of}
use Rattle.reading.specs.declared.Shape.{Shape}

-- a number that is none of 1 to 9
pub kind-other : (k : ℕ) → (k ≡ 1 → ⊥) → (k ≡ 2 → ⊥) → (k ≡ 3 → ⊥) → (k ≡ 4 → ⊥) → (k ≡ 5 → ⊥) → (k ≡ 6 → ⊥) → (k ≡ 7 → ⊥) → (k ≡ 8 → ⊥) → (k ≡ 9 → ⊥) → unknown_k ≡ kind_of k
unfolding kind_of
kind-other k a b c d e f g h i =
    simp (ne_eqb k 1 a, ne_eqb k 2 b, ne_eqb k 3 c, ne_eqb k 4 d, ne_eqb k 5 e, ne_eqb k 6 f, ne_eqb k 7 g, ne_eqb k 8 h, ne_eqb k 9 i)

-- a record with its first four bytes is read by its kind
pub head_at : (s : List ℕ) {l k : ℕ} → 4 ≤ length s → l ≡ le2 s 0 → k ≡ le2 s 2 → head s ≡ by_kind (kind_of k) l s
unfolding head
head_at s {l} {k} long el ek = simp (le-ltb (length s) 4 long, ← ek, ← el)

-- ---- a record of a known kind: its length is judged first, and then its fields

unfoldable pub fields_of : Shape → List ℕ → Record
fields_of (Shape.Atom c) s = cond (all_m 9 4 s) (opened (atom_l (comparison_in c) (ints 9 4 s))) (bad wrong_number)
fields_of Shape.Not s = opened not_l
fields_of (Shape.List b) s = opened (list_l b (le2 s 4))
fields_of (Shape.Quantifier b) s = cond (leb (le2 s 4) last_variable) (opened (quant_l b (le2 s 4))) (bad wrong_variable)
fields_of Shape.Window s = cond (leb (le2 s 4) last_variable) (cond (all_m 2 6 s) (opened (window_l (le2 s 4) (int4 s 6) (int4 s 10))) (bad wrong_number)) (bad wrong_variable)

by-shape : (k : Shape) (l : ℕ) (s : List ℕ) → by_kind (shape_kind k) l s ≡ sized (shape_size k) l s (fields_of k s)
unfolding by_kind fields_of
by-shape (Shape.Atom c) l s = refl
by-shape Shape.Not l s = refl
by-shape (Shape.List b) l s = refl
by-shape (Shape.Quantifier b) l s = refl
by-shape Shape.Window l s = refl

pub length-wrong : (k : Shape) {l : ℕ} (s : List ℕ) → (l ≡ shape_size k → ⊥) → by_kind (shape_kind k) l s ≡ bad wrong_length
unfolding sized
length-wrong k {l} s h = by-shape k l s ∙ simp (ne_eqb l (shape_size k) h)

pub length-short : (k : Shape) (s : List ℕ) → length s < shape_size k → by_kind (shape_kind k) (shape_size k) s ≡ bad cut_short
unfolding sized
length-short k s h = by-shape k (shape_size k) s ∙ simp (eq-eqb (shape_size k) (shape_size k) refl, lt-ltb _ _ h)

-- what is told of a record whose bytes run out
pub cut_told : (k : Shape) (s : List ℕ) → length s < shape_size k → Bad cut_short ≡ head_of (by_kind (shape_kind k) (shape_size k) s)
cut_told k s h = ap head_of (sym (length-short k s h))

pub length-right : (k : Shape) (s : List ℕ) → shape_size k ≤ length s → by_kind (shape_kind k) (shape_size k) s ≡ fields_of k s
unfolding sized
length-right k s h = by-shape k (shape_size k) s ∙ simp (eq-eqb (shape_size k) (shape_size k) refl, le-ltb _ _ h)
