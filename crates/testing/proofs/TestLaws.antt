-- Laws of the test at fractions: the sum, the range of the values, the walk over a formula, and what is answered. Assumes nothing.
use mathlib.Core.Path.{◌≡◌, refl, sym, ◌∙◌, ap, ap₂, subst}
use mathlib.Core.Bool as Bool
use mathlib.Core.Bool.{Bool, true, false, ◌&&◌, cond, true≢false}
use mathlib.Core.List.{List}
use Prim.Native.Nat.{ℕ, zero, suc, ◌+◌, ◌-◌, ◌*◌, ◌≤◌, ◌<◌}
use native.Mathlib.Nat.{add-zero}
use native.Mathlib.Omega.{arith}
use lib.ListN.{length, take, drop}
use lib.IntN.{ℤ, pos, ◌+ℤ◌, ◌*ℤ◌, +ℤ_assoc, +ℤ_idl, +ℤ_idr}
use lib.Signed.{lt_z, le_z}
use Rattle.reading.specs.Limits.{M, most_value, result_bytes, result_levels}
use Rattle.reading.specs.Bytes.{Bytes}
use Rattle.reading.specs.AnswerNumbers.{done, quantified, wrong_value}
use Rattle.reading.specs.Formula.{Comparison, atom_size, window_size, count, Fits, Formula, Formulas, atom, not, list, quant, window, none, more, encode, Free}
use Rattle.reading.specs.Reading.{Read, formula_in, tree_of}
use Rattle.reading.specs.Answers.{reading}
use Rattle.reading.specs.Quantifiers as Quantifiers
use Rattle.reading.specs.Quantifiers.{Quantifier, first_in, found_of}
use Rattle.reading.specs.Answers.{Reply}
use Rattle.reading.specs.Answers.{Done, Refused}
use Rattle.std.specs.Prelude.{Some, None}
use Rattle.reading.proofs.Places.{nothing-free}
use Rattle.reading.proofs.Trees.{tree_is, begins-tree, accepted-read}
use Rattle.reading.specs.Views.{comparison_case, comparison_in, shape_of, IsWindow, numbers_of, members_of, window_of}
use Rattle.reading.specs.declared.Comparison as Code
use Rattle.reading.specs.declared.Shape.TheVariants as Shape
use Rattle.reading.proofs.Lengths.{atom-long, window-long, more-long}
use Rattle.reading.proofs.Walking.{Inner, inner_of, Walk, walk_start, walk_begins, walk-tree, walk-next, walk_end}
use Rattle.reading.proofs.Viewing.{shape-atom, shape-list}
use Rattle.exact.specs.Numbers as Numbers
use Rattle.exact.specs.Numbers.{Within, Each, all_in}
use Rattle.exact.specs.Atoms.{holds}
use Rattle.exact.proofs.Atoms.{case-in}
use Rattle.exact.proofs.Sizes.{in-+, in-*, in-more}
use Rattle.exact.proofs.Rows.{all-each}
use Rattle.testing.specs.declared.Holds.{Holds}
use Rattle.testing.specs.Testing.{denied_of, holds_of, Testable}
use Rattle.rules.specs.Test.{sum_to, sum_at, join, true_at, all_true_at, allowed, refused_test, by_values, by_quantifier, by_test, tested, Trial}

-- ---- the sum

sum_same : (n : ℕ) (f g : ℕ → ℤ) → ((i : ℕ) → f i ≡ g i) → sum_to n f ≡ sum_to n g
unfolding sum_to
sum_same zero f g h = refl
sum_same (suc n) f g h = ap₂ ◌+ℤ◌ (h 0) (sum_same n (λ (i : ℕ). f (suc i)) (λ (i : ℕ). g (suc i)) (λ i. h (suc i)))

sum_first : (n i : ℕ) (f : ℕ → ℤ) → sum_to (suc n) (λ (j : ℕ). f (i + j)) ≡ f i +ℤ sum_to n (λ (j : ℕ). f (i + 1 + j))
unfolding sum_to
sum_first n i f = ap₂ ◌+ℤ◌ (ap f (add-zero i)) (sum_same n (λ (j : ℕ). f (i + suc j)) (λ (j : ℕ). f (i + 1 + j)) (λ j. let e : i + suc j ≡ i + 1 + j = omega arith in ap f e))

-- t is the sum of the products before i
pub record Summed (ns w : List ℤ) (i : ℕ) (t : ℤ) : Type 0 where
  pub small : Within (i * (M * most_value)) t
  pub whole : sum_at ns w ≡ t +ℤ sum_to (9 - i) (λ (j : ℕ). Numbers.at ns (i + j) *ℤ Numbers.at w (i + j))

pub summed-none : (ns w : List ℤ) → Summed ns w 0 (pos 0)
summed-none ns w = record {
  small = record { size = omega arith };
  whole = sym (+ℤ_idl (sum_at ns w)) ∙ ap (λ (z : ℤ). pos 0 +ℤ z) (sum_same 9 (λ (i : ℕ). Numbers.at ns i *ℤ Numbers.at w i) (λ (j : ℕ). Numbers.at ns (0 + j) *ℤ Numbers.at w (0 + j)) (λ i. let e : i ≡ 0 + i = omega arith in ap (λ (k : ℕ). Numbers.at ns k *ℤ Numbers.at w k) e));
}

pub summed-more : {ns w : List ℤ} {i : ℕ} {t : ℤ} → i < 9 → Each M ns → Each most_value w → Summed ns w i t → Summed ns w (i + 1) (t +ℤ Numbers.at ns i *ℤ Numbers.at w i)
summed-more {ns} {w} {i} {t} h en ew s =
    let z = Numbers.at ns i *ℤ Numbers.at w i in
    let f : ℕ → ℤ = λ (j : ℕ). Numbers.at ns j *ℤ Numbers.at w j in
    let e : 9 - i ≡ suc (9 - (i + 1)) = omega arith in
    record {
      small = in-more (in-+ s.small (in-* (en.at i) (ew.at i))) (omega arith);
      whole = s.whole ∙ ap (λ (n : ℕ). t +ℤ sum_to n (λ (j : ℕ). f (i + j))) e ∙ ap (λ (y : ℤ). t +ℤ y) (sum_first (9 - (i + 1)) i f) ∙ sym (+ℤ_assoc t z (sum_to (9 - (i + 1)) (λ (j : ℕ). f (i + 1 + j))));
    }

pub summed-done : {ns w : List ℤ} {i : ℕ} {t : ℤ} → 9 ≤ i → i ≤ 9 → Summed ns w i t → t ≡ sum_at ns w
unfolding sum_to
summed-done {ns} {w} {i} {t} h k s =
    let e : 9 - i ≡ 0 = omega arith in
    sym (s.whole ∙ ap (λ (n : ℕ). t +ℤ sum_to n (λ (j : ℕ). Numbers.at ns (i + j) *ℤ Numbers.at w (i + j))) e ∙ +ℤ_idr t)

-- ---- the range of the values

and_left : (a b : Bool) → (a && b) ≡ true → a ≡ true
and_left true b e = refl
and_left false b e = e

pub allowed-each : {w : List ℤ} → allowed w ≡ true → Each most_value w
allowed-each {w} e = all-each most_value w (and_left (all_in most_value w) (lt_z (pos 0) (Numbers.at w 8)) e)

-- ---- an atom and a window

pub holds-atom : (f : Formula) (d : ℕ) (w : List ℤ) {k : Code.Comparison} {b : Bool} → Fits d f → shape_of f ≡ Shape.Atom k → b ≡ holds (comparison_in k) (sum_at (numbers_of f) w) → record { used = atom_size; holds = b } ≡ holds_of w f
unfolding true_at
holds-atom (atom c ns) d w {k} g q e =
    let h : comparison_case c ≡ k = cc in
    let t = e ∙ ap (λ (c : Comparison). holds c (sum_at ns w)) (ap comparison_in (sym h) ∙ case-in c) in
    ap₂ (λ (n : ℕ) (y : Bool). record { used = n; holds = y }) (sym (atom-long c ns g.1.0)) t
holds-atom (not f) d w g q e = absurd (shape-atom (not f) q)
holds-atom (list b fs) d w g q e = absurd (shape-atom (list b fs) q)
holds-atom (quant b v f) d w g q e = absurd (shape-atom (quant b v f) q)
holds-atom (window v lo hi) d w g q e = absurd (shape-atom (window v lo hi) q)

pub holds-window : (f : Formula) (w : List ℤ) {b : Bool} → IsWindow f
    → b ≡ (le_z ((window_of f).lo *ℤ Numbers.at w 8) (Numbers.at w (window_of f).variable) && le_z (Numbers.at w (window_of f).variable) ((window_of f).hi *ℤ Numbers.at w 8)) → record { used = window_size; holds = b } ≡ holds_of w f
unfolding true_at
holds-window (atom c ns) w i e = absurd i
holds-window (not f) w i e = absurd i
holds-window (list b fs) w i e = absurd i
holds-window (quant b v f) w i e = absurd i
holds-window (window v lo hi) w i e = ap₂ (λ (n : ℕ) (y : Bool). record { used = n; holds = y }) (sym (window-long v lo hi)) e

-- ---- a formula under NOT

true-not : (w : List ℤ) (f : Formula) → true_at w (not f) ≡ Bool.not (true_at w f)
unfolding true_at
true-not w f = refl

module _ {s : List ℕ} {w : List ℤ} (g : Testable s w) (h : shape_of (tree_of s) ≡ Shape.Not) where
  inside : Inner s
  inside = inner_of g.begins g.free h

  inside_is : tree_of (take (length s - 4) (drop 4 s)) ≡ inside.inner
  inside_is = tree_is inside.begins

  pub not-tries : Testable (take (length s - 4) (drop 4 s)) w
  not-tries = record { begins = begins-tree inside.begins; free = subst Free (sym inside_is) inside.free; values = g.values }

  inside-long : 4 + length (encode (tree_of (take (length s - 4) (drop 4 s)))) ≡ length (encode (tree_of s))
  inside-long = ap (λ (f : Formula). 4 + length (encode f)) inside_is ∙ sym inside.long

  pub not_within : 4 + length (encode (tree_of (take (length s - 4) (drop 4 s)))) ≤ length s
  not_within = omega (arith, inside-long, inside.within)

  pub not-holds : {r : Holds} → r ≡ holds_of w (tree_of (take (length s - 4) (drop 4 s))) → denied_of r ≡ holds_of w (tree_of s)
  not-holds e =
      ap denied_of e ∙ ap₂ (λ (n : ℕ) (y : Bool). record { used = n; holds = y }) inside-long (ap (λ (f : Formula). Bool.not (true_at w f)) inside_is ∙ sym (true-not w inside.inner) ∙ sym (ap (true_at w) inside.is))

-- ---- the loop over the members of a list

pub record TestTurn (s : List ℕ) (w : List ℤ) (all holds : Bool) (at left : ℕ) (fs : Formulas) : Type 0 where
  pub walk : Walk s at left fs
  pub whole : true_at w (tree_of s) ≡ join all holds (all_true_at all w fs)

abbrev pub TestLoop : (s : List ℕ) (w : List ℤ) (all holds : Bool) (at left : ℕ) → Type 0
TestLoop s w all holds at left = (fs : Formulas) × TestTurn s w all holds at left fs

join_first : (all y : Bool) → y ≡ join all all y
join_first true y = refl
join_first false y = refl

join-assoc : (all a b y : Bool) → join all a (join all b y) ≡ join all (join all a b) y
join-assoc true true b y = refl
join-assoc true false b y = refl
join-assoc false true b y = refl
join-assoc false false b y = refl

join_last : (all a : Bool) → join all a all ≡ a
join_last true true = refl
join_last true false = refl
join_last false true = refl
join_last false false = refl

list-true : (w : List ℤ) (b : Bool) (fs : Formulas) → true_at w (list b fs) ≡ all_true_at b w fs
unfolding true_at
list-true w b fs = refl

more-true : (w : List ℤ) (b : Bool) (f : Formula) (fs : Formulas) → all_true_at b w (more f fs) ≡ join b (true_at w f) (all_true_at b w fs)
unfolding true_at
more-true w b f fs = refl

none_true : (w : List ℤ) (b : Bool) → all_true_at b w none ≡ b
unfolding true_at
none_true w b = refl

pub holds-start : {s : List ℕ} {w : List ℤ} (all : Bool) (left : ℕ) → Testable s w → shape_of (tree_of s) ≡ Shape.List all → left ≡ count (members_of (tree_of s)) → TestLoop s w all all 6 left
holds-start {s} {w} all left g i el =
    let m = walk_start g.begins g.free (shape-list (tree_of s) i) in
    let q : Shape.List all ≡ Shape.List m.all = sym i ∙ ap shape_of m.is in
    let e : all ≡ m.all = cc in (
      m.members,
      record {
        walk = subst (λ (k : ℕ). Walk s 6 k m.members) (sym (el ∙ m.many)) m.walk;
        whole = ap (true_at w) m.is ∙ list-true w m.all m.members ∙ join_first m.all (all_true_at m.all w m.members) ∙ ap (λ (a : Bool). join a a (all_true_at a w m.members)) (sym e);
      },
    )

module _ {s : List ℕ} {w : List ℤ} {all holds : Bool} {at left : ℕ} where
  pub trial-asks : (fs : Formulas) → TestTurn s w all holds at left fs → 0 < left → Each most_value w → Testable (take (length s - at) (drop at s)) w
  trial-asks none t h v = absurd (omega (arith, t.walk.many))
  trial-asks (more f fs) t h v = record { begins = begins-tree (walk_begins t.walk); free = subst Free (sym (walk-tree t.walk)) t.walk.free.0; values = v }

  member-long : {f : Formula} {fs : Formulas} → TestTurn s w all holds at left (more f fs) → length (encode (tree_of (take (length s - at) (drop at s)))) ≡ length (encode f)
  member-long t = ap (λ (g : Formula). length (encode g)) (walk-tree t.walk)

  pub trial-within : (fs : Formulas) → TestTurn s w all holds at left fs → 0 < left → at + length (encode (tree_of (take (length s - at) (drop at s)))) ≤ length s
  trial-within none t h = absurd (omega (arith, t.walk.many))
  trial-within (more f fs) t h = omega (arith, member-long t, more-long f fs, t.walk.used, t.walk.within)

  pub trial-next : (fs : Formulas) → TestTurn s w all holds at left fs → 0 < left
      → TestLoop s w all (join all holds (true_at w (tree_of (take (length s - at) (drop at s))))) (at + length (encode (tree_of (take (length s - at) (drop at s))))) (left - 1)
  trial-next none t h = absurd (omega (arith, t.walk.many))
  trial-next (more f fs) t h = (
    fs,
    record {
      walk = walk-next (length (encode (tree_of (take (length s - at) (drop at s))))) t.walk (member-long t);
      whole = t.whole ∙ ap (join all holds) (more-true w all f fs ∙ ap (λ (g : Formula). join all (true_at w g) (all_true_at all w fs)) (sym (walk-tree t.walk))) ∙ join-assoc all holds (true_at w (tree_of (take (length s - at) (drop at s)))) (all_true_at all w fs);
    },
  )

  pub trial-end : (fs : Formulas) → TestTurn s w all holds at left fs → left ≤ 0 → record { used = at; holds = holds } ≡ holds_of w (tree_of s)
  trial-end (more f fs) t h = absurd (omega (arith, t.walk.many))
  trial-end none t h = ap₂ (λ (n : ℕ) (y : Bool). record { used = n; holds = y }) (walk_end t.walk) (sym (t.whole ∙ ap (join all holds) (none_true w all) ∙ join_last all holds))

-- ---- what is answered

-- no quantifier was found
pub none_free : (f : Formula) → found_of (first_in f) ≡ None → Free f
none_free f h = (nothing-free false f).0 (go (first_in f) h)
  where
    go : (q : Quantifier) → found_of q ≡ None → q ≡ Quantifiers.nothing
    go Quantifiers.nothing h = refl
    go (Quantifiers.at o b v f) h = let z : ◌≡◌ {A = ℕ} 0 1 = cc in absurd (omega arith)

pub tested-refused : (s : List ℕ) (w : List ℤ) {n p : ℕ} → reading result_bytes result_levels s ≡ Refused n p → refused_test n p ≡ tested s w
unfolding tested
tested-refused s w {n} {p} e = sym (ap (λ (r : Reply). by_test r (formula_in result_levels s) w) e)

module _ (s : List ℕ) (w : List ℤ) {k : ℕ} (e : reading result_bytes result_levels s ≡ Done k) (ok : Bytes s) where
  tested-is : tested s w ≡ by_quantifier (first_in (tree_of s)) (by_values w (tree_of s))
  unfolding tested
  tested-is = ap₂ (λ (r : Reply) (o : Read Formula). by_test r o w) e (accepted-read result_bytes result_levels s (omega arith) ok e)

  pub tested-quantified : {p : ℕ} → found_of (first_in (tree_of s)) ≡ Some p → refused_test quantified p ≡ tested s w
  tested-quantified {p} h = sym (tested-is ∙ go (first_in (tree_of s)) h)
    where
      go : (q : Quantifier) → found_of q ≡ Some p → by_quantifier q (by_values w (tree_of s)) ≡ refused_test quantified p
      go Quantifiers.nothing h = let z : ◌≡◌ {A = ℕ} 0 1 = cc in absurd (omega arith)
      go (Quantifiers.at o b v f) h = let y : o ≡ p = cc in ap (refused_test quantified) y

  free-test : found_of (first_in (tree_of s)) ≡ None → tested s w ≡ by_values w (tree_of s)
  free-test h = tested-is ∙ go (first_in (tree_of s)) h
    where
      go : (q : Quantifier) → found_of q ≡ None → by_quantifier q (by_values w (tree_of s)) ≡ by_values w (tree_of s)
      go Quantifiers.nothing h = refl
      go (Quantifiers.at o b v f) h = let z : ◌≡◌ {A = ℕ} 0 1 = cc in absurd (omega arith)

  abbrev yes-at : Trial
  yes-at = record { number = done; verdict = cond (true_at w (tree_of s)) 1 0; place = 0 }

  pub tested-range : found_of (first_in (tree_of s)) ≡ None → allowed w ≡ false → refused_test wrong_value 0 ≡ tested s w
  tested-range h b = sym (free-test h ∙ ap (λ (y : Bool). cond {A = Trial} y yes-at (refused_test wrong_value 0)) b)

  pub tested-done : found_of (first_in (tree_of s)) ≡ None → allowed w ≡ true → {v : ℕ} → v ≡ cond (true_at w (tree_of s)) 1 0 → record { number = done; verdict = v; place = 0 } ≡ tested s w
  tested-done h b {v} ev = ap (λ (n : ℕ). record { number = done; verdict = n; place = 0 }) ev ∙ sym (free-test h ∙ ap (λ (y : Bool). cond {A = Trial} y yes-at (refused_test wrong_value 0)) b)
