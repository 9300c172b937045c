-- #102: what a box is, test by test; the totals are the counts and the sums of the lines; a line is the same in all buffers that are long enough. Assumes nothing.
use Prim.Native.Nat.{ℕ, ◌+◌, ◌≤◌, ◌<◌}
use mathlib.Core.Path.{◌≡◌, refl, sym, ◌∙◌, ap₂}
use mathlib.Core.Bool.{Bool, true, false, ◌||◌, cond}
use mathlib.Core.List.{List, [], ◌∷◌}
use native.Mathlib.Omega.{arith}
use lib.Dec.{eqb, ltb}
use lib.ListN.{length, length-replicate}
use borrow.Author.Tests.{lt-ltb, le-ltb, eq-eqb, ne_eqb}
use mir.Val.{bool_byte}
use Rattle.reading.specs.Limits.{sheet_bytes, sheet_levels, result_bytes}
use Rattle.reading.specs.Bytes.{le2, zeros}
use Rattle.reading.specs.Formula.{Formula, encode}
use Rattle.reading.specs.Reading.{Read, good, fault, formula_in}
use Rattle.reading.specs.Answers.{reading}
use Rattle.reading.specs.Answers.{Reply}
use Rattle.reading.specs.Answers.{Done, Refused}
use Rattle.rules.specs.Steps.{Run, ran, halted, eliminated}
use Rattle.rules.specs.Eliminate.{refused, delivered, cleared, finished, by_run, by_reading, eliminate, Roomy}
use Rattle.rules.specs.Counts.{Counts, uncounted, counts_by, counted}
use Rattle.boxes.specs.Boxes.{box_kind, box_in, line_by, line_of, one_if, added, added_all}
use Rattle.boxes.specs.Boxes.{Boxed}
use Rattle.boxes.specs.declared.Line.{Line}
use Rattle.boxes.specs.declared.Totals.{Totals}

-- ---- what bytes begin with

module _ (s : List ℕ) where
  pub box-over : length s ≡ 0 → Boxed.Over ≡ box_in s
  unfolding box_in
  box-over h = simp (eq-eqb (length s) 0 h)

  pub box-few : (length s ≡ 0 → ⊥) → length s < 4 → Boxed.Bad ≡ box_in s
  unfolding box_in
  box-few n h = simp (ne_eqb (length s) 0 n, lt-ltb (length s) 4 h)

  module _ (h : 4 ≤ length s) where
    some : length s ≡ 0 → ⊥
    some e = omega arith

    pub box-kind : (le2 s 2 ≡ box_kind → ⊥) → Boxed.Bad ≡ box_in s
    unfolding box_in
    box-kind k = simp (ne_eqb (length s) 0 some, le-ltb (length s) 4 h, ne_eqb (le2 s 2) box_kind k)

    module _ (k : le2 s 2 ≡ box_kind) where
      pub box-low : le2 s 0 < 4 → Boxed.Bad ≡ box_in s
      unfolding box_in
      box-low l = simp (ne_eqb (length s) 0 some, le-ltb (length s) 4 h, eq-eqb (le2 s 2) box_kind k, lt-ltb (le2 s 0) 4 l)

      module _ (l : 4 ≤ le2 s 0) where
        pub box-cut : length s < le2 s 0 → Boxed.Bad ≡ box_in s
        unfolding box_in
        box-cut m = simp (ne_eqb (length s) 0 some, le-ltb (length s) 4 h, eq-eqb (le2 s 2) box_kind k, le-ltb (le2 s 0) 4 l, lt-ltb (length s) (le2 s 0) m)

        pub box-whole : le2 s 0 ≤ length s → Boxed.Whole (le2 s 0) ≡ box_in s
        unfolding box_in
        box-whole m = simp (ne_eqb (length s) 0 some, le-ltb (length s) 4 h, eq-eqb (le2 s 2) box_kind k, le-ltb (le2 s 0) 4 l, le-ltb (length s) (le2 s 0) m)

-- ---- a line more

-- a truth as a number
pub bool_byte-is : (b : Bool) → bool_byte b ≡ one_if b
bool_byte-is true = refl
bool_byte-is false = refl

pub added-not : (t : Totals) (l : Line) → (l.answer ≡ 0 → ⊥) → t ≡ added t l
unfolding added
added-not t l h = simp (ne_eqb l.answer 0 h)

pub added-line : (t : Totals) (l : Line) → l.answer ≡ 0
    → record { done = t.done + 1; no = t.no + one_if (eqb l.verdict 0); yes = t.yes + one_if (eqb l.verdict 1); free = t.free + one_if (eqb l.verdict 2); sum = t.sum + l.length } ≡ added t l
unfolding added
added-line t l h = simp (eq-eqb l.answer 0 h)

-- ---- the totals

-- what the lines weigh together
abbrev pub weighed : (Line → ℕ) → List Line → ℕ
weighed w [] = 0
weighed w (l ∷ ls) = w l + weighed w ls

-- a number of the totals that grows with each line by what it weighs is the weight of all
grown : (part : Totals → ℕ) (w : Line → ℕ) → ((t : Totals) (l : Line) → part (added t l) ≡ part t + w l) → (t : Totals) (ls : List Line) → part (added_all t ls) ≡ part t + weighed w ls
grown part w h t [] = omega arith
grown part w h t (l ∷ ls) = omega (arith, grown part w h (added t l) ls, h t l)

abbrev pub answered : Line → Bool
answered l = eqb l.answer 0

-- the five numbers of the totals: how many lines have answer 0, of those how many the verdict 0, 1 and 2, and the lengths of their results
pub weight : (Line → ℕ) → Line → ℕ
weight w l = cond (answered l) (w l) 0

module _ (part : Totals → ℕ) (w : Line → ℕ) (h : (t : Totals) (l : Line) → part (record { done = t.done + 1; no = t.no + one_if (eqb l.verdict 0); yes = t.yes + one_if (eqb l.verdict 1); free = t.free + one_if (eqb l.verdict 2); sum = t.sum + l.length }) ≡ part t + w l) where
  one : (t : Totals) (l : Line) → part (added t l) ≡ part t + weight w l
  unfolding added weight
  one t l = go (answered l)
    where
      go : (b : Bool) → part (cond b (record { done = t.done + 1; no = t.no + one_if (eqb l.verdict 0); yes = t.yes + one_if (eqb l.verdict 1); free = t.free + one_if (eqb l.verdict 2); sum = t.sum + l.length }) t) ≡ part t + cond b (w l) 0
      go true = h t l
      go false = omega arith

  all_are : (t : Totals) (ls : List Line) → part (added_all t ls) ≡ part t + weighed (weight w) ls
  all_are = grown part (weight w) one

module _ (t : Totals) (ls : List Line) where
  pub done-are : (added_all t ls).done ≡ t.done + weighed (weight (λ l. 1)) ls
  done-are = all_are (λ (t : Totals). t.done) (λ l. 1) (λ t l. refl) t ls

  pub no-are : (added_all t ls).no ≡ t.no + weighed (weight (λ l. one_if (eqb l.verdict 0))) ls
  no-are = all_are (λ (t : Totals). t.no) (λ l. one_if (eqb l.verdict 0)) (λ t l. refl) t ls

  pub yes-are : (added_all t ls).yes ≡ t.yes + weighed (weight (λ l. one_if (eqb l.verdict 1))) ls
  yes-are = all_are (λ (t : Totals). t.yes) (λ l. one_if (eqb l.verdict 1)) (λ t l. refl) t ls

  pub free-are : (added_all t ls).free ≡ t.free + weighed (weight (λ l. one_if (eqb l.verdict 2))) ls
  free-are = all_are (λ (t : Totals). t.free) (λ l. one_if (eqb l.verdict 2)) (λ t l. refl) t ls

  pub sum_are : (added_all t ls).sum ≡ t.sum + weighed (weight (λ l. l.length)) ls
  sum_are = all_are (λ (t : Totals). t.sum) (λ l. l.length) (λ t l. refl) t ls

-- ---- a line in other buffers

line-run : (n : ℕ) (q : Run) (c : Counts) (a w b v : List ℕ) → line_by (by_run n q a w) c ≡ line_by (by_run n q b v) c
line-run n (halted e p) c a w b v = refl
line-run n (ran f) c a w b v = go (ltb result_bytes (length (encode (finished f))))
  where
    go : (y : Bool) → line_by (cond y (refused 12 n (cleared a) (cleared w)) (delivered (finished f) a w)) c ≡ line_by (cond y (refused 12 n (cleared b) (cleared v)) (delivered (finished f) b v)) c
    go true = refl
    go false = refl

line_read : (n : ℕ) (r : Reply) (q : Read Formula) (c : Counts) (a w b v : List ℕ) → line_by (by_reading n r q a w) c ≡ line_by (by_reading n r q b v) c
line_read n (Refused e p) q c a w b v = refl
line_read n (Done k) (good f j) c a w b v = line-run n (eliminated f) c a w b v
line_read n (Done k) (fault e p) c a w b v = refl

module _ (s a w : List ℕ) (l : Roomy a) (j : Roomy w) where
  there : eliminate s a w ≡ by_reading (length s) (reading sheet_bytes sheet_levels s) (formula_in sheet_levels s) a w
  unfolding eliminate
  there = ap₂ (λ (x y : Bool). cond (x || y) (refused 1 0 a w) (by_reading (length s) (reading sheet_bytes sheet_levels s) (formula_in sheet_levels s) a w)) (le-ltb (length a) result_bytes l) (le-ltb (length w) result_bytes j)

  counts-there : counted s a w ≡ counts_by (reading sheet_bytes sheet_levels s) (formula_in sheet_levels s)
  unfolding counted
  counts-there = ap₂ (λ (x y : Bool). cond (x || y) uncounted (counts_by (reading sheet_bytes sheet_levels s) (formula_in sheet_levels s))) (le-ltb (length a) result_bytes l) (le-ltb (length w) result_bytes j)

zeros-roomy : Roomy (zeros result_bytes)
zeros-roomy = omega (arith, length-replicate {A = ℕ} result_bytes 0)

pub line-is : (s a w : List ℕ) → Roomy a → Roomy w → line_by (eliminate s a w) (counted s a w) ≡ line_of s
unfolding line_of
line-is s a w l j =
    let z = zeros result_bytes in
    ap₂ line_by (there s a w l j) (counts-there s a w l j)
    ∙ line_read (length s) (reading sheet_bytes sheet_levels s) (formula_in sheet_levels s) (counts_by (reading sheet_bytes sheet_levels s) (formula_in sheet_levels s)) a w z z
    ∙ sym (ap₂ line_by (there s z z zeros-roomy zeros-roomy) (counts-there s z z zeros-roomy zeros-roomy))
