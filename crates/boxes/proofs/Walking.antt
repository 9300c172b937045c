-- #102: where the walk over an input ends and why; and a box more at the end of an input is a line more at the end of its list. Assumes nothing.
use Prim.Native.Nat.{ℕ, zero, suc, ◌+◌, ◌-◌, ◌≤◌, ◌<◌}
use mathlib.Core.Path.{◌≡◌, refl, sym, ◌∙◌, ap, ap₂, subst}
use mathlib.Core.Bool.{Bool, true, false, cond}
use mathlib.Core.List.{List, [], ◌∷◌, ◌++◌}
use native.Mathlib.Omega.{arith}
use lib.Dec.{eqb, ltb}
use lib.ListN.{length, take, drop, get_or, length-append, length-drop}
use lib.Seq.{drop-drop, take-append-le, drop-append-le}
use borrow.Author.Tests.{ltb-false, eqb-true}
use Rattle.reading.specs.Bytes.{le2}
use Rattle.boxes.specs.Boxes.{box_kind, box_in, sheet_in, line_of, Ending, through, bad_at, Season, walk_at, walk, season}
use Rattle.boxes.specs.Boxes.{Boxed}
use Rattle.boxes.specs.declared.Line.{Line}
use Rattle.boxes.proofs.Lists.{box-over, box-whole}

-- ---- a box has at least four bytes, and all of them are there

pub record Inside (s : List ℕ) (n : ℕ) : Type 0 where
  pub four : 4 ≤ n
  pub there : n ≤ length s
  pub size : le2 s 0 ≡ n
  pub kind : le2 s 2 ≡ box_kind

box-inside : (s : List ℕ) (n : ℕ) → box_in s ≡ Boxed.Whole n → Inside s n
unfolding box_in
box-inside s n = first (eqb (length s) 0)
  where
    last : (b : Bool) → ltb (length s) (le2 s 0) ≡ b → 4 ≤ le2 s 0 → le2 s 2 ≡ box_kind → cond b Boxed.Bad (Boxed.Whole (le2 s 0)) ≡ Boxed.Whole n → Inside s n
    last true e h q x = let z : ◌≡◌ {A = ℕ} 0 1 = cc in absurd (omega arith)
    last false e h q x = let k : le2 s 0 ≡ n = cc in record { four = omega arith; there = omega (arith, ltb-false (length s) (le2 s 0) e); size = k; kind = q }

    low : (b : Bool) → ltb (le2 s 0) 4 ≡ b → le2 s 2 ≡ box_kind → cond b Boxed.Bad (cond (ltb (length s) (le2 s 0)) Boxed.Bad (Boxed.Whole (le2 s 0))) ≡ Boxed.Whole n → Inside s n
    low true e q x = let z : ◌≡◌ {A = ℕ} 0 1 = cc in absurd (omega arith)
    low false e q x = last (ltb (length s) (le2 s 0)) refl (ltb-false (le2 s 0) 4 e) q x

    kind : (b : Bool) → eqb (le2 s 2) box_kind ≡ b → cond b (cond (ltb (le2 s 0) 4) Boxed.Bad (cond (ltb (length s) (le2 s 0)) Boxed.Bad (Boxed.Whole (le2 s 0)))) Boxed.Bad ≡ Boxed.Whole n → Inside s n
    kind true q x = low (ltb (le2 s 0) 4) refl (eqb-true (le2 s 2) box_kind q) x
    kind false q x = let z : ◌≡◌ {A = ℕ} 0 1 = cc in absurd (omega arith)

    few : (b : Bool) → cond b Boxed.Bad (cond (eqb (le2 s 2) box_kind) (cond (ltb (le2 s 0) 4) Boxed.Bad (cond (ltb (length s) (le2 s 0)) Boxed.Bad (Boxed.Whole (le2 s 0)))) Boxed.Bad) ≡ Boxed.Whole n → Inside s n
    few true x = let z : ◌≡◌ {A = ℕ} 0 1 = cc in absurd (omega arith)
    few false x = kind (eqb (le2 s 2) box_kind) refl x

    first : (b : Bool) → cond b Boxed.Over (cond (ltb (length s) 4) Boxed.Bad (cond (eqb (le2 s 2) box_kind) (cond (ltb (le2 s 0) 4) Boxed.Bad (cond (ltb (length s) (le2 s 0)) Boxed.Bad (Boxed.Whole (le2 s 0)))) Boxed.Bad)) ≡ Boxed.Whole n → Inside s n
    first true x = let z : ◌≡◌ {A = ℕ} 0 1 = cc in absurd (omega arith)
    first false x = few (ltb (length s) 4) x

-- where nothing is left there is no byte
over_none : (s : List ℕ) → box_in s ≡ Boxed.Over → length s ≡ 0
unfolding box_in
over_none s = first (eqb (length s) 0) refl
  where
    rest : (w x y z : Bool) → cond w Boxed.Bad (cond x (cond y Boxed.Bad (cond z Boxed.Bad (Boxed.Whole (le2 s 0)))) Boxed.Bad) ≡ Boxed.Over → length s ≡ 0
    rest true x y z e = let k : ◌≡◌ {A = ℕ} 0 1 = cc in absurd (omega arith)
    rest false false y z e = let k : ◌≡◌ {A = ℕ} 0 1 = cc in absurd (omega arith)
    rest false true true z e = let k : ◌≡◌ {A = ℕ} 0 1 = cc in absurd (omega arith)
    rest false true false true e = let k : ◌≡◌ {A = ℕ} 0 1 = cc in absurd (omega arith)
    rest false true false false e = let k : ◌≡◌ {A = ℕ} 0 1 = cc in absurd (omega arith)

    first : (b : Bool) → eqb (length s) 0 ≡ b → cond b Boxed.Over (cond (ltb (length s) 4) Boxed.Bad (cond (eqb (le2 s 2) box_kind) (cond (ltb (le2 s 0) 4) Boxed.Bad (cond (ltb (length s) (le2 s 0)) Boxed.Bad (Boxed.Whole (le2 s 0)))) Boxed.Bad)) ≡ Boxed.Over
        → length s ≡ 0
    first true q e = eqb-true (length s) 0 q
    first false q e = rest (ltb (length s) 4) (eqb (le2 s 2) box_kind) (ltb (le2 s 0) 4) (ltb (length s) (le2 s 0)) e

-- ---- where the walk ends: a bad box stands there; or no byte is left

abbrev Ends : ℕ → List ℕ → Ending → Type 0
Ends p s through = (k : ℕ) × (box_in (drop k s) ≡ Boxed.Over)
Ends p s (bad_at q) = (k : ℕ) × (q ≡ p + k) × (k ≤ length s) × (box_in (drop k s) ≡ Boxed.Bad)

later : (p n : ℕ) (s : List ℕ) (e : Ending) → n ≤ length s → Ends (p + n) (drop n s) e → Ends p s e
later p n s through h x = (n + x.0, ap box_in (sym (drop-drop x.0 n s)) ∙ x.1)
later p n s (bad_at q) h x = (n + x.0, omega (arith, x.1), omega (arith, x.2, length-drop n s), ap box_in (sym (drop-drop x.0 n s)) ∙ x.3)

walk_ends : (m p : ℕ) (s : List ℕ) → length s < m → Ends p s (walk m p s).ending
unfolding walk
walk_ends zero p s h = absurd (omega arith)
walk_ends (suc m) p s h = go (box_in s) refl (λ n k. walk_ends m (p + n) (drop n s) k)
  where
    go : (b : Boxed) → box_in s ≡ b → ((n : ℕ) → length (drop n s) < m → Ends (p + n) (drop n s) (walk m (p + n) (drop n s)).ending) → Ends p s (walk_at b p s (λ k. walk m (p + k) (drop k s))).ending
    go Boxed.Over e ih = (0, e)
    go Boxed.Bad e ih = (0, omega arith, omega arith, e)
    go (Boxed.Whole n) e ih =
        let i = box-inside s n e in
        later p n s (walk m (p + n) (drop n s)).ending i.there (ih n (omega (arith, h, i.four, i.there, length-drop n s)))

-- the place of 15: a bad box stands there
pub season-stops : (s : List ℕ) (q : ℕ) → (season s).ending ≡ bad_at q → (q ≤ length s) × (box_in (drop q s) ≡ Boxed.Bad)
unfolding season
season-stops s q e =
    let x : Ends 0 s (bad_at q) = subst (Ends 0 s) e (walk_ends (suc (length s)) 0 s (omega arith)) in
    let k : q ≡ x.0 = omega (arith, x.1) in
    (omega (arith, x.2, k), ap (λ (j : ℕ). box_in (drop j s)) k ∙ x.3)

-- ---- box by box: each line is that of the next box, and after the last line no byte is left, or a bad box stands at the place that is told

abbrev pub Walked : List Line → ℕ → List ℕ → Ending → Type 0
Walked [] p s through = box_in s ≡ Boxed.Over
Walked [] p s (bad_at q) = (q ≡ p) × (box_in s ≡ Boxed.Bad)
Walked (l ∷ ls) p s e = (n : ℕ) × (box_in s ≡ Boxed.Whole n) × (l ≡ line_of (sheet_in n s)) × Walked ls (p + n) (drop n s) e

walk-walked : (m p : ℕ) (s : List ℕ) → length s < m → Walked (walk m p s).lines p s (walk m p s).ending
unfolding walk
walk-walked zero p s h = absurd (omega arith)
walk-walked (suc m) p s h = go (box_in s) refl (λ n k. walk-walked m (p + n) (drop n s) k)
  where
    go : (b : Boxed) → box_in s ≡ b → ((n : ℕ) → length (drop n s) < m → Walked (walk m (p + n) (drop n s)).lines (p + n) (drop n s) (walk m (p + n) (drop n s)).ending)
        → let w = walk_at b p s (λ k. walk m (p + k) (drop k s)) in Walked w.lines p s w.ending
    go Boxed.Over e ih = e
    go Boxed.Bad e ih = (refl, e)
    go (Boxed.Whole n) e ih = let i = box-inside s n e in (n, e, refl, ih n (omega (arith, h, i.four, i.there, length-drop n s)))

pub season-walked : (s : List ℕ) → Walked (season s).lines 0 s (season s).ending
unfolding season
season-walked s = walk-walked (suc (length s)) 0 s (omega arith)

-- ---- a box more at the end

left : (xs ys : List ℕ) (i : ℕ) → i < length xs → get_or (xs ++ ys) i 0 ≡ get_or xs i 0
left [] ys i h = absurd (omega arith)
left (x ∷ xs) ys zero h = refl
left (x ∷ xs) ys (suc i) h = left xs ys i (omega arith)

two : (xs ys : List ℕ) (i : ℕ) → i + 1 < length xs → le2 (xs ++ ys) i ≡ le2 xs i
two xs ys i h = omega (arith, left xs ys i (omega arith), left xs ys (i + 1) h)

-- what stands after a box does not change it
module _ (s b : List ℕ) (n : ℕ) (e : box_in s ≡ Boxed.Whole n) where
  in-it : Inside s n
  in-it = box-inside s n e

  size-still : le2 (s ++ b) 0 ≡ n
  size-still = two s b 0 (omega (arith, in-it.four, in-it.there)) ∙ in-it.size

  still : box_in (s ++ b) ≡ Boxed.Whole n
  still =
      let i = in-it in
      sym (box-whole (s ++ b) (omega (arith, i.four, i.there, length-append s b)) (two s b 2 (omega (arith, i.four, i.there)) ∙ i.kind) (omega (arith, size-still, i.four))
      (omega (arith, size-still, i.there, length-append s b))) ∙ ap Boxed.Whole size-still

  sheet-still : sheet_in n (s ++ b) ≡ sheet_in n s
  sheet-still =
      let i = in-it in
      ap (take (n - 4)) (drop-append-le 4 s b (omega (arith, i.four, i.there))) ∙ take-append-le (n - 4) (drop 4 s) b (omega (arith, i.there, length-drop 4 s))

nothing_left : (m p : ℕ) (s : List ℕ) → length s ≡ 0 → ((walk m p s).lines ≡ []) × ((walk m p s).ending ≡ through)
unfolding walk
nothing_left zero p s h = (refl, refl)
nothing_left (suc m) p s h =
    let e : box_in s ≡ Boxed.Over = sym (box-over s h) in
    (ap (λ (b : Boxed). (walk_at b p s (λ k. walk m (p + k) (drop k s))).lines) e, ap (λ (b : Boxed). (walk_at b p s (λ k. walk m (p + k) (drop k s))).ending) e)

module _ (b : List ℕ) (n : ℕ) (whole : box_in b ≡ Boxed.Whole n) (all : n ≡ length b) where
  More : Season → Season → Type 0
  More after before = before.ending ≡ through → (after.lines ≡ before.lines ++ (line_of (sheet_in n b) ∷ [])) × (after.ending ≡ through)

  last-box : (m p : ℕ) → ((walk (suc m) p b).lines ≡ line_of (sheet_in n b) ∷ []) × ((walk (suc m) p b).ending ≡ through)
  unfolding walk
  last-box m p =
      let z = nothing_left m (p + n) (drop n b) (omega (arith, length-drop n b, all)) in
      (ap (λ (x : Boxed). (walk_at x p b (λ k. walk m (p + k) (drop k b))).lines) whole ∙ ap (λ (ls : List Line). line_of (sheet_in n b) ∷ ls) z.0, ap (λ (x : Boxed). (walk_at x p b (λ k. walk m (p + k) (drop k b))).ending) whole ∙ z.1)

  none_before : (s : List ℕ) → length s ≡ 0 → s ++ b ≡ b
  none_before [] h = refl
  none_before (x ∷ s) h = absurd (omega arith)

  walk_more : (m j p : ℕ) (s : List ℕ) → length s < m → length (s ++ b) < j → More (walk j p (s ++ b)) (walk m p s)
  unfolding walk More
  walk_more zero j p s h k = absurd (omega arith)
  walk_more (suc m) zero p s h k = absurd (omega arith)
  walk_more (suc m) (suc j) p s h k = go (box_in s) refl (λ i x y. walk_more m j (p + i) (drop i s) x y)
    where
      go : (x : Boxed) → box_in s ≡ x → ((i : ℕ) → length (drop i s) < m → length (drop i s ++ b) < j → More (walk j (p + i) (drop i s ++ b)) (walk m (p + i) (drop i s)))
          → More (walk (suc j) p (s ++ b)) (walk_at x p s (λ i. walk m (p + i) (drop i s)))
      go Boxed.Over e ih t = subst (λ (u : List ℕ). ((walk (suc j) p u).lines ≡ line_of (sheet_in n b) ∷ []) × ((walk (suc j) p u).ending ≡ through)) (sym (none_before s (over_none s e))) (last-box j p)
      go Boxed.Bad e ih t = let z : ◌≡◌ {A = ℕ} 0 1 = cc in absurd (omega arith)
      go (Boxed.Whole i) e ih t =
          let w = box-inside s i e in
          let d : drop i (s ++ b) ≡ drop i s ++ b = drop-append-le i s b w.there in
          let r = ih i (omega (arith, h, w.four, w.there, length-drop i s)) (omega (arith, k, w.four, w.there, length-drop i s, length-append (drop i s) b, length-append s b)) t in
          let q = still s b i e in (
            ap (λ (x : Boxed). (walk_at x p (s ++ b) (λ l. walk j (p + l) (drop l (s ++ b)))).lines) q
                ∙ ap₂ (λ (u : List ℕ) (v : List ℕ). line_of u ∷ (walk j (p + i) v).lines) (sheet-still s b i e) d
                ∙ ap (λ (ls : List Line). line_of (sheet_in i s) ∷ ls) r.0,
            ap (λ (x : Boxed). (walk_at x p (s ++ b) (λ l. walk j (p + l) (drop l (s ++ b)))).ending) q ∙ ap (λ (v : List ℕ). (walk j (p + i) v).ending) d ∙ r.1,
          )

  -- where the list of s goes through, that of s and then the box is the list of s with the box's line at the end, and goes through
  pub season-more : (s : List ℕ) → (season s).ending ≡ through → ((season (s ++ b)).lines ≡ (season s).lines ++ (line_of (sheet_in n b) ∷ [])) × ((season (s ++ b)).ending ≡ through)
  unfolding season More
  season-more s t = walk_more (suc (length s)) (suc (length (s ++ b))) 0 s (omega arith) (omega arith) t
