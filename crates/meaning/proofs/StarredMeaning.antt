-- 01, 'Sheets with known results': each row of the table of Starred with what 01 says of the sheet's meaning, under one statement. A row is answered
-- as the table says; its sheet is the bytes of a formula within the limits, which no other such formula has; and that very formula means
-- what the column says, at any fractions for the variables. Assumes nothing.
use Prim.Native.Nat.{ℕ, ◌<◌}
use mathlib.Core.Path.{◌≡◌, sym, ◌∙◌, ap, ap₂, subst}
use mathlib.Core.Bool.{Bool, true, false}
use mathlib.Core.List.{List, [], ◌∷◌}
use mathlib.Core.Logic.{◌⊎◌, inl, inr, ◌↔◌}
use native.Mathlib.Omega.{arith}
use lib.Dec.{T, lit<}
use lib.IntN.{ℤ, pos, negsuc, ◌*ℤ◌}
use lib.Signed.{◌≤ℤ◌, ◌<ℤ◌}
use Rattle.reading.specs.Limits.{sheet_levels, result_levels}
use Rattle.reading.specs.Formula.{Comparison, less, atmost, Formula, atom, not, list, quant, window, none, Fits}
use Rattle.exact.specs.Numbers.{at, single}
use Rattle.rules.specs.Pushing.{two}
use Rattle.rules.specs.Eliminate.{finished, result_of}
use Rattle.meaning.specs.Meaning.{Fraction, Values, put, Compares, OfNone, Means}
use Rattle.exact.proofs.Ring.{◌⊕◌, ◌⊗◌, ◌⊝◌, O, ring, ⊗-comm, negsuc-⊗}
use Rattle.exact.proofs.Order.{sgn, sgn-up, up-⊗, test, lt_test, le_test}
use Rattle.meaning.proofs.Sums.{total, dot}
use Rattle.meaning.proofs.Points.Fractions.{up}
use Rattle.meaning.proofs.Truth.{fits-named, iff-sym, iff-trans, T-same}
use Rattle.meaning.proofs.Keeps.Pushing.{dot-single}
use Rattle.rules.proofs.Stepwise.Run.{run_is}
use Rattle.meaning.proofs.Values.{Represents, means-holds, compares-test, common, common-represents}
use Rattle.meaning.proofs.Construction.{result-means}
use Rattle.rules.proofs.Starred.{Sheet, of, raw, Row, row, gives, xyz, between, atmost_one, above_five, atmost_ones, above_fives, table, Answered, AllAnswered, starred}
use Rattle.rules.proofs.StarredEnds.{ends-in}

infixr 20 ◌next◌
-- ---- the column

-- a formula is true, or false, at all values; or true exactly where P is
abbrev pub Is : Bool → Type 0 → Type 0
Is true P = P
Is false P = ¬ P

abbrev pub Always : Bool → Formula → Type 0
Always b f = (ρ : Values) → Is b (Means f ρ)

abbrev pub Where : (Values → Type 0) → Formula → Type 0
Where P f = (ρ : Values) → Means f ρ ↔ P ρ

-- a fraction settles SOME or EVERY: with it for the variable the body is true, or false, whatever the others are
abbrev pub By : Fraction → Formula → Type 0
By p (atom c ns) = ⊥
By p (not f) = ⊥
By p (list b fs) = ⊥
By p (quant false v f) = (ρ : Values) → Means f (put v p ρ)
By p (quant true v f) = (ρ : Values) → ¬ Means f (put v p ρ)
By p (window v lo hi) = ⊥

-- what is said of a sheet: that its formula has a property, or nothing
pub data Saying : Type 1 where
  says : (Formula → Type 0) → Saying
  nothing : Saying

-- 17/7 and 55
abbrev pub seventeen_sevenths : Fraction
seventeen_sevenths = record { top = pos 17; bottom = pos 7; above = record { lt = tt } }

abbrev pub fifty_five : Fraction
fifty_five = record { top = pos 55; bottom = pos 1; above = record { lt = tt } }

-- in the order of the table; x, y, z are variables 0, 1, 2, and fractions are compared by their tops and bottoms
abbrev pub meanings : List Saying
meanings =
    -- some x: 3x + 1 < 10 and 7x − 6 > 7: true; 17/7 does it
    says (λ f. Always true f × By seventeen_sevenths f)
    -- some x: 2x > y and 3x < z: means 3y < 2z
    ∷ says (Where (λ ρ. (pos 3 *ℤ ((ρ 1).top *ℤ (ρ 2).bottom)) <ℤ (pos 2 *ℤ ((ρ 2).top *ℤ (ρ 1).bottom))))
    -- every x: not window(x, 40, 70), or x ≤ 50, or x ≥ 60: false, by 55
    ∷ says (λ f. Always false f × By fifty_five f)
    -- some z: −z ≤ 0 and z + y − 1 ≤ 0: means y ≤ 1
    ∷ says (Where (λ ρ. (ρ 1).top ≤ℤ (ρ 1).bottom))
    -- some x: x > 5 and y > x: means y > 5
    ∷ says (Where (λ ρ. (pos 5 *ℤ (ρ 1).bottom) <ℤ (ρ 1).top))
    -- some x: 2x = y: true, though y is free
    ∷ says (Always true)
    -- every x some y: x < y: true; some y every x: x < y: false
    ∷ says (Always true)
    ∷ says (Always false)
    -- some x: not (x = 3) and x < 3: true
    ∷ says (Always true)
    -- some x: (x < 0 and some x: x > 0): true
    ∷ says (Always true)
    -- the empty sheet is refused; ALLOF of 0: true
    ∷ nothing
    ∷ says (Always true)
    ∷ []

-- what is said of a formula's sheet is that the formula is within the limits and has the property; of other bytes nothing is said
abbrev pub Said : Sheet → Saying → Type 0
Said (of f) (says P) = Fits sheet_levels f × P f
Said (of f) nothing = ⊥
Said (raw s) (says P) = ⊥
Said (raw s) nothing = Unit {0}

-- a row is answered as the table says, and means what the column says
pub record RowStands (r : Row) (m : Saying) : Type 0 where
  pub answered : Answered r
  pub meaning : Said r.sheet m

-- row by row, to the last of both
abbrev pub RowByRow : (Row → Saying → Type 0) → List Row → List Saying → Type 0
RowByRow P [] [] = Unit {0}
RowByRow P [] (m ∷ ms) = ⊥
RowByRow P (r ∷ rs) [] = ⊥
RowByRow P (r ∷ rs) (m ∷ ms) = P r m × RowByRow P rs ms

-- ---- a row and the formula that it delivers

-- an accepted row's formula means what the formula that it delivers means
delivers-means : (f g : Formula) (v n : ℕ) → Fits sheet_levels f → Fits result_levels g → Answered (row f (gives v n g)) → (ρ : Values) → Means f ρ ↔ Means g ρ
unfolding result_of
delivers-means f g v n w x h ρ =
    let d = ends-in f g v n w x h in
    let e : result_of f ≡ g = ap finished (sym (run_is f d.0 d.1)) ∙ d.2 in
    iff-sym (subst (λ (k : Formula). Means k ρ ↔ Means f ρ) e (result-means f (fits-named sheet_levels f w) ρ))

-- ---- atoms of one variable and of two

-- an atom's truth is that of its sum times a number above 0
means-by : (c : Comparison) (ns : List ℤ) (ρ : Values) (z : ℤ) → sgn (dot (at ns) (common ρ)) ≡ sgn z → Means (atom c ns) ρ ↔ Compares c z
means-by c ns ρ z e = iff-trans (means-holds (atom c ns) ρ (common ρ) tt (common-represents ρ)) (iff-trans (T-same (ap (test c) e)) (iff-sym (compares-test c z)))

cross : (a b n d m e p q k : ℤ) → n ⊗ k ≡ p ⊗ d → m ⊗ k ≡ q ⊗ e → (d ⊗ e) ⊗ (a ⊗ p ⊕ b ⊗ q) ≡ k ⊗ (a ⊗ (n ⊗ e) ⊕ b ⊗ (m ⊗ d))
cross a b n d m e p q k h i = first ∙ ap₂ (λ (x y : ℤ). a ⊗ (x ⊗ e) ⊕ b ⊗ (y ⊗ d)) (sym h) (sym i) ∙ second
  where
    first : (d ⊗ e) ⊗ (a ⊗ p ⊕ b ⊗ q) ≡ a ⊗ ((p ⊗ d) ⊗ e) ⊕ b ⊗ ((q ⊗ e) ⊗ d)
    first = simp ring

    second : a ⊗ ((n ⊗ k) ⊗ e) ⊕ b ⊗ ((m ⊗ k) ⊗ d) ≡ k ⊗ (a ⊗ (n ⊗ e) ⊕ b ⊗ (m ⊗ d))
    second = simp ring

-- a x + b y, where p and q are the numerators of x and y over the common denominator
sum-sign : (ρ : Values) (a b : ℤ) (x y : Fraction) (p q : ℤ) → x.top ⊗ common ρ 8 ≡ p ⊗ x.bottom → y.top ⊗ common ρ 8 ≡ q ⊗ y.bottom
    → sgn (a ⊗ p ⊕ b ⊗ q) ≡ sgn (a ⊗ (x.top ⊗ y.bottom) ⊕ b ⊗ (y.top ⊗ x.bottom))
sum-sign ρ a b x y p q h i =
    sym (sgn-up (x.bottom ⊗ y.bottom) _ (up-⊗ x.bottom y.bottom (up x) (up y)))
    ∙ ap sgn (cross a b x.top x.bottom y.top y.bottom p q (common ρ 8) h i) ∙ sgn-up (common ρ 8) _ (common-represents ρ).base

-- a v + k
one-variable : (c : Comparison) (v : ℕ) (a k : ℤ) (ρ : Values) → v < 8 → Means (atom c (single v a k)) ρ ↔ Compares c (a ⊗ (ρ v).top ⊕ k ⊗ (ρ v).bottom)
one-variable c v a k ρ l = means-by c (single v a k) ρ _
    (ap sgn (dot-single v a k (common ρ) l) ∙ sum-sign ρ a k (ρ v) one (common ρ v) (common ρ 8) ((common-represents ρ).same v l) (⊗-comm (pos 1) (common ρ 8)) ∙ ap sgn tidy)
  where
    one : Fraction
    one = record { top = pos 1; bottom = pos 1; above = record { lt = tt } }

    tidy : a ⊗ ((ρ v).top ⊗ pos 1) ⊕ k ⊗ (pos 1 ⊗ (ρ v).bottom) ≡ a ⊗ (ρ v).top ⊕ k ⊗ (ρ v).bottom
    tidy = simp ring

-- ---- sums as comparisons

below-zero : (z l r : ℤ) → l ⊝ r ≡ z → Compares less z ↔ (l <ℤ r)
below-zero z l r e = iff-trans (compares-test less z) (iff-sym (subst (λ (y : ℤ). (l <ℤ r) ↔ T (test less (sgn y))) e (lt_test l r)))

atmost-zero : (z l r : ℤ) → l ⊝ r ≡ z → Compares atmost z ↔ (l ≤ℤ r)
atmost-zero z l r e = iff-trans (compares-test atmost z) (iff-sym (subst (λ (y : ℤ). (l ≤ℤ r) ↔ T (test atmost (sgn y))) e (le_test l r)))

-- ---- the second, the fourth and the fifth sheet: what the delivered formulas mean

twice : (f : Formula) (ρ : Values) → Means (list true (two f f)) ρ ↔ Means f ρ
twice f ρ = (λ m. m.0, λ m. (m, (m, tt)))

-- 3y − 2z < 0
two-left : (a x b y p q r s t u v : ℤ) → O ⊗ p ⊕ (a ⊗ x ⊕ (b ⊗ y ⊕ (O ⊗ q ⊕ (O ⊗ r ⊕ (O ⊗ s ⊕ (O ⊗ t ⊕ (O ⊗ u ⊕ (O ⊗ v ⊕ O)))))))) ≡ a ⊗ x ⊕ b ⊗ y
two-left a x b y p q r s t u v = simp ring

between-sum : (w : ℕ → ℤ) → dot (at (xyz (pos 0) (pos 3) (negsuc 1) (pos 0))) w ≡ pos 3 ⊗ w 1 ⊕ negsuc 1 ⊗ w 2
unfolding dot total
between-sum w = two-left (pos 3) (w 1) (negsuc 1) (w 2) (w 0) (w 3) (w 4) (w 5) (w 6) (w 7) (w 8)

between-move : (u v : ℤ) → pos 3 ⊗ u ⊝ pos 2 ⊗ v ≡ pos 3 ⊗ u ⊕ negsuc 1 ⊗ v
between-move u v = simp (negsuc-⊗, ring)

between-means : (ρ : Values) → Means (list true (two between between)) ρ ↔ ((pos 3 *ℤ ((ρ 1).top *ℤ (ρ 2).bottom)) <ℤ (pos 2 *ℤ ((ρ 2).top *ℤ (ρ 1).bottom)))
unfolding ◌⊗◌
between-means ρ = iff-trans (twice between ρ) (iff-trans (means-by less (xyz (pos 0) (pos 3) (negsuc 1) (pos 0)) ρ _ signs) (below-zero _ _ _ (between-move ((ρ 1).top ⊗ (ρ 2).bottom) ((ρ 2).top ⊗ (ρ 1).bottom))))
  where
    r : Represents ρ (common ρ)
    r = common-represents ρ

    signs : sgn (dot (at (xyz (pos 0) (pos 3) (negsuc 1) (pos 0))) (common ρ)) ≡ sgn (pos 3 ⊗ ((ρ 1).top ⊗ (ρ 2).bottom) ⊕ negsuc 1 ⊗ ((ρ 2).top ⊗ (ρ 1).bottom))
    signs = ap sgn (between-sum (common ρ)) ∙ sum-sign ρ (pos 3) (negsuc 1) (ρ 1) (ρ 2) (common ρ 1) (common ρ 2) (r.same 1 (lit< tt)) (r.same 2 (lit< tt))

-- y − 1 ≤ 0
atmost-move : (t b : ℤ) → t ⊝ b ≡ pos 1 ⊗ t ⊕ negsuc 0 ⊗ b
atmost-move t b = simp (negsuc-⊗, ring)

atmost-one : (ρ : Values) → Means atmost_ones ρ ↔ ((ρ 1).top ≤ℤ (ρ 1).bottom)
unfolding single
atmost-one ρ = iff-trans same (iff-trans (one-variable atmost 1 (pos 1) (negsuc 0) ρ (lit< tt)) (atmost-zero _ _ _ (atmost-move (ρ 1).top (ρ 1).bottom)))
  where
    any : Means atmost_ones ρ → Means atmost_one ρ
    any (inl m) = m
    any (inr (inl m)) = m.0
    any (inr (inr (inl m))) = m
    any (inr (inr (inr e))) = absurd e

    same : Means atmost_ones ρ ↔ Means atmost_one ρ
    same = (any, λ m. inl m)

-- −y + 5 < 0
above-move : (t b : ℤ) → pos 5 ⊗ b ⊝ t ≡ negsuc 0 ⊗ t ⊕ pos 5 ⊗ b
above-move t b = simp (negsuc-⊗, ring)

above-five : (ρ : Values) → Means above_fives ρ ↔ ((pos 5 *ℤ (ρ 1).bottom) <ℤ (ρ 1).top)
unfolding single ◌⊗◌
above-five ρ = iff-trans (twice above_five ρ) (iff-trans (one-variable less 1 (negsuc 0) (pos 5) ρ (lit< tt)) (below-zero _ _ _ (above-move (ρ 1).top (ρ 1).bottom)))

-- ---- the first and the third sheet: 17/7 and 55 for x

with-x : (c : Comparison) (a k : ℤ) (p : Fraction) (ρ : Values) → Means (atom c (single 0 a k)) (put 0 p ρ) ↔ Compares c (a ⊗ p.top ⊕ k ⊗ p.bottom)
with-x c a k p ρ = one-variable c 0 a k (put 0 p ρ) (lit< tt)

-- 3x − 9 < 0 and −7x + 13 < 0 at 17/7
sevenths : (ρ : Values) → Means (list true (two (atom less (xyz (pos 3) (pos 0) (pos 0) (negsuc 8))) (atom less (xyz (negsuc 6) (pos 0) (pos 0) (pos 13))))) (put 0 seventeen_sevenths ρ)
unfolding single ◌⊕◌ ◌⊗◌
sevenths ρ =
    ((with-x less (pos 3) (negsuc 8) seventeen_sevenths ρ).1 (record { lt = tt }), ((with-x less (negsuc 6) (pos 13) seventeen_sevenths ρ).1 (record { lt = tt }), tt))

-- not x − 50 ≤ 0, and not −x + 60 ≤ 0, at 55
above-fifty : (ρ : Values) → ¬ Means (atom atmost (xyz (pos 1) (pos 0) (pos 0) (negsuc 49))) (put 0 fifty_five ρ)
unfolding single ◌⊕◌ ◌⊗◌
above-fifty ρ m = ((with-x atmost (pos 1) (negsuc 49) fifty_five ρ).0 m).le

below-sixty : (ρ : Values) → ¬ Means (atom atmost (xyz (negsuc 0) (pos 0) (pos 0) (pos 60))) (put 0 fifty_five ρ)
unfolding single ◌⊕◌ ◌⊗◌
below-sixty ρ m = ((with-x atmost (negsuc 0) (pos 60) fifty_five ρ).0 m).le

neither : {A B : Type 0} → ¬ A → ¬ B → ¬ (A ⊎ B)
neither a b (inl x) = a x
neither a b (inr y) = b y

-- ---- the rows

-- a formula that is answered with the true or the false record is always so, and a fraction may settle it; with another, it means what that one means
sure-is : (b : Bool) (P : Type 0) → P ↔ OfNone b → Is b P
sure-is true P h = h.1 tt
sure-is false P h = h.0

sure-row : (b : Bool) (f : Formula) (v n : ℕ) → Fits sheet_levels f → Answered (row f (gives v n (list b none))) → Said (of f) (says (Always b))
sure-row b f v n w h = (w, λ ρ. sure-is b (Means f ρ) (delivers-means f (list b none) v n w (omega arith) h ρ))

by_row : (b : Bool) (f : Formula) (v n : ℕ) (p : Fraction) → Fits sheet_levels f → By p f → Answered (row f (gives v n (list b none))) → Said (of f) (says (λ g. Always b g × By p g))
by_row b f v n p w m h = (w, ((sure-row b f v n w h).1, m))

where-row : (f g : Formula) (v n : ℕ) (P : Values → Type 0) → Where P g → Fits result_levels g → Fits sheet_levels f → Answered (row f (gives v n g)) → Said (of f) (says (Where P))
where-row f g v n P m x w h = (w, λ ρ. iff-trans (delivers-means f g v n w x h ρ) (m ρ))

-- what the answers say of the meanings
abbrev Follows : Row → Saying → Type 0
Follows r m = Answered r → Said r.sheet m

◌next◌ : {A B : Type 0} → A → B → A × B
a next b = (a, b)

-- within the limits by parts: `omega` takes at most 64 at a time
all-follow : RowByRow Follows table meanings
all-follow =
    by_row true _ _ _ seventeen_sevenths (omega arith) sevenths
    next where-row _ _ _ _ _ between-means (omega arith) (omega arith)
    next by_row false _ _ _ fifty_five (omega arith, omega arith, (omega arith, omega arith, (omega arith, omega arith)))
    (λ ρ. neither (λ n. n (record { le = tt }, record { le = tt })) (neither (above-fifty ρ) (neither (below-sixty ρ) (λ e. e))))
    next where-row _ _ _ _ _ atmost-one (omega arith, omega arith, (omega arith, (omega arith, omega arith))) (omega arith)
    next where-row _ _ _ _ _ above-five (omega arith) (omega arith)
    next sure-row true _ _ _ (omega arith)
    next sure-row true _ _ _ (omega arith)
    next sure-row false _ _ _ (omega arith)
    next sure-row true _ _ _ (omega arith)
    next sure-row true _ _ _ (omega arith)
    next (λ h. tt)
    next sure-row true _ _ _ (omega arith)
    next tt

all-stand : (rs : List Row) (ms : List Saying) → AllAnswered rs → RowByRow Follows rs ms → RowByRow RowStands rs ms
all-stand [] [] h k = tt
all-stand [] (m ∷ ms) h k = k
all-stand (r ∷ rs) [] h k = k
all-stand (r ∷ rs) (m ∷ ms) h k = (record { answered = h.0; meaning = k.0 h.0 }, all-stand rs ms h.1 k.1)

-- the starred sheets
pub starred-means : RowByRow RowStands table meanings
starred-means = all-stand table meanings starred all-follow
