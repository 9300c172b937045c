-- Copies: an atom at a spot has the truth that the atom has where the spot's point agrees, so a pushed body copied there has the body's truth; and
-- the list of the copies at all points says what the quantifier says. Assumes nothing.
use mathlib.Core.Path.{◌≡◌, refl, sym, ◌∙◌, ap, ap₂, subst}
use mathlib.Core.Logic.{inl, inr, ◌↔◌}
use mathlib.Core.Bool.{Bool, true, false, cond}
use mathlib.Core.Bool as Bool
use mathlib.Core.List.{List, [], ◌∷◌, ◌++◌, map, map-append}
use Prim.Native.Nat.{ℕ, zero, suc, ◌<◌}
use native.Mathlib.Omega.{arith}
use lib.Dec.{T, leb-suc-zero}
use lib.IntN.{ℤ, pos, negsuc}
use lib.Signed.{lt_z}
use Rattle.reading.specs.Formula.{Comparison, less, atmost, equal, Formula, Formulas, atom, not, list, quant, window, none, more, Free}
use Rattle.exact.specs.Numbers.{at, is_zero}
use Rattle.exact.specs.Divisor.{reduced}
use Rattle.exact.specs.Terms.{left_at, midpoint}
use Rattle.exact.specs.Atoms.{holds, no_variable, Came, sure, new, settled, Spot, nowhere, below, above, here, point_at, point_of, far_of, atom_at}
use Rattle.exact.specs.declared.Place.TheVariants.{Below, Above, At}
use Rattle.exact.proofs.Sizes.{zero_of}
use Rattle.exact.proofs.Rows.{at-tab}
use Rattle.exact.proofs.Terms.{mid-above}
use Rattle.exact.proofs.Atoms.{at-without, at-nowhere, at-below, at_above, at_here}
use Rattle.rules.specs.Test.{join}
use Rattle.rules.specs.Copies.{atom_by, copy, copy_all}
use Rattle.rules.specs.Points.{midpoints, all_midpoints, points, terms}
use Rattle.rules.specs.Steps.{copies, replacement}
use Rattle.rules.specs.Pushing.{push}
use Rattle.meaning.specs.Meaning.{Fraction, Both, Over}
use Rattle.exact.proofs.Ring.{◌⊕◌, ◌⊗◌, O, ⊗-comm, ⊕-idl, O-⊗}
use Rattle.exact.proofs.Order.{negative, positive, sgn, smul, sgn-up, test, holds_test}
use Rattle.meaning.proofs.Sums.{dot, upd, others, left-absent, dot-upd, dot-same, dot-times, dot-plus, dot-constant, reduced-multiple, sgn-multiple}
use Rattle.meaning.proofs.Points.TestPoints.{Pt, low, high, term, Mem, mids, pairs, test_points, Every, every-point, dir, Agree, test_of, point-of}
use Rattle.meaning.proofs.Points.Fractions.{up, cmp, Ok, ev, or_one-is, line}
use Rattle.meaning.proofs.Truth.{Named, EachRow, EachRowIn, Flat, AllFlat, Holds, truth, truths, atom_truth, truth-decides, iff-same, iff-trans, both_iff, over-iff, over-each, T-same, T-join}
use Rattle.meaning.proofs.Keeps.Pushing.{push-truth, push-flat}
use Rattle.meaning.proofs.Keeps.Lists.{listed-truth, listed-rows}
use Rattle.meaning.proofs.Keeps.Terms.{Marks, Marked, terms-ok, terms-marked}

-- ---- an atom, decided or divided

settled-truth : (c : Comparison) (ns : List ℤ) (w : ℕ → ℤ) → sgn (w 8) ≡ positive → truth (atom_by (settled c ns) c) w ≡ atom_truth c ns w
unfolding settled
settled-truth c ns w base = go (no_variable ns) refl
  where
    go : (b : Bool) → no_variable ns ≡ b → truth (atom_by (cond b (sure (holds c (at ns 8))) (new (reduced ns))) c) w ≡ atom_truth c ns w
    go true e = holds_test c (at ns 8) ∙ ap (test c) (sym (sgn-up (w 8) (at ns 8) base) ∙ ap sgn (⊗-comm (w 8) (at ns 8) ∙ sym (dot-constant ns w (rw e tt))))
    go false e = ap (test c) (sym (sgn-multiple (reduced ns) ns w (reduced-multiple ns)))

-- ---- an atom at a fraction

at-point_of : (ns : List ℤ) (x : ℕ) (t : List ℤ) (i : ℕ) → i < 9 → at (point_of ns x t) i ≡ at ns x ⊗ at t i ⊕ at t 9 ⊗ others (at ns) x i
unfolding point_of point_at left_at ◌⊗◌ ◌⊕◌
at-point_of ns x t i h = at-tab 9 (point_at ns x t) i h

-- the new sum has the atom's value at the term's fraction
dot-point : (ns : List ℤ) (x : ℕ) (t : List ℤ) (w : ℕ → ℤ) → x < 8 → dot (at (point_of ns x t)) w ≡ dot (at ns) (upd x (dot (at t) w) (at t 9) w)
dot-point ns x t w h =
    dot-same (at (point_of ns x t)) (λ i. at ns x ⊗ at t i ⊕ at t 9 ⊗ others (at ns) x i) w (at-point_of ns x t)
    ∙ dot-plus (λ i. at ns x ⊗ at t i) (λ i. at t 9 ⊗ others (at ns) x i) w
    ∙ ap₂ ◌⊕◌ (dot-times (at ns x) (at t) w) (dot-times (at t 9) (others (at ns) x) w) ∙ sym (dot-upd x (dot (at t) w) (at t 9) (at ns) w (omega arith))

no_part : (a m z : ℤ) → a ≡ O → a ⊗ m ⊕ z ≡ z
no_part a m z e = rw (e, O-⊗, ⊕-idl)

-- an atom in which the variable does not occur
absent : (x : ℕ) (c w : ℕ → ℤ) (p : Fraction) → x < 8 → c x ≡ O → sgn (dot c w) ≡ sgn (dot c (upd x p.top p.bottom w))
absent x c w p h e =
    ap sgn (left-absent x c w e) ∙ sym (sgn-up p.bottom _ (up p))
    ∙ ap sgn (sym (dot-upd x p.top p.bottom c w (omega arith) ∙ no_part (c x) p.top _ e))

-- ---- far out

far-test : (c : Comparison) (falls : Bool) → far_of c falls ≡ test c (dir falls)
far-test less true = refl
far-test less false = refl
far-test atmost true = refl
far-test atmost false = refl
far-test equal true = refl
far-test equal false = refl

falls-low : (a : ℤ) → is_zero a ≡ false → dir (Bool.not (lt_z a O)) ≡ smul (sgn a) negative
unfolding sgn
falls-low (pos zero) h = cc
falls-low (pos (suc n)) h = ap (λ (b : Bool). dir (Bool.not b)) (leb-suc-zero (suc n))
falls-low (negsuc n) h = refl

falls-high : (a : ℤ) → is_zero a ≡ false → dir (lt_z a O) ≡ smul (sgn a) positive
unfolding sgn
falls-high (pos zero) h = cc
falls-high (pos (suc n)) h = ap dir (leb-suc-zero (suc n))
falls-high (negsuc n) h = refl

-- ---- an atom at a test point

-- −∞, +∞ or the fraction of a term, for x
abbrev pub spot : ℕ → Pt (List ℤ) → Spot
spot x low = below x
spot x high = above x
spot x (term t) = here x t

abbrev PtOk : Pt (List ℤ) → Type 0
PtOk low = Unit {0}
PtOk high = Unit {0}
PtOk (term t) = Ok t

module _ (w : ℕ → ℤ) (base : sgn (w 8) ≡ positive) (x : ℕ) (named : x < 8) where
  abbrev Agrees : List (List ℤ) → Fraction → Pt (List ℤ) → Type 0
  Agrees B p y = Agree Fraction (List ℤ) cmp (ev w) Ok midpoint (line w) B p y

  abbrev there : Fraction → ℕ → ℤ
  there p = upd x p.top p.bottom w

  atom-without : (y : Pt (List ℤ)) (c : Comparison) (ns : List ℤ) → is_zero (at ns x) ≡ true → atom_at (spot x y) c ns ≡ settled c ns
  atom-without low c ns e = at-without Below x c ns e
  atom-without high c ns e = at-without Above x c ns e
  atom-without (term t) c ns e = at-without (At t) x c ns e

  atom-with : (y : Pt (List ℤ)) (c : Comparison) (ns b : List ℤ) (B : List (List ℤ)) (p : Fraction) → is_zero (at ns x) ≡ false → Mem b B → Marks x (at ns) w b → PtOk y → Agrees B p y
      → truth (atom_by (atom_at (spot x y) c ns) c) w ≡ atom_truth c ns (there p)
  atom-with low c ns b B p e m k o h =
      ap (λ (r : Came). truth (atom_by r c) w) (at-below x c ns e) ∙ far-test c (Bool.not (lt_z (at ns x) O))
      ∙ ap (test c) (falls-low (at ns x) e ∙ ap (smul (sgn (at ns x))) (sym (h b m)) ∙ sym (k p))
  atom-with high c ns b B p e m k o h =
      ap (λ (r : Came). truth (atom_by r c) w) (at_above x c ns e) ∙ far-test c (lt_z (at ns x) O)
      ∙ ap (test c) (falls-high (at ns x) e ∙ ap (smul (sgn (at ns x))) (sym (h b m)) ∙ sym (k p))
  atom-with (term t) c ns b B p e m k o h =
      ap (λ (r : Came). truth (atom_by r c) w) (at_here x t c ns e) ∙ settled-truth c (point_of ns x t) w base
      ∙ ap (λ (z : ℤ). test c (sgn z)) (dot-point ns x t w named ∙ ap (λ (d : ℤ). dot (at ns) (upd x (dot (at t) w) d w)) (sym (or_one-is (at t 9) o)))
      ∙ ap (test c) (k (ev w t) ∙ ap (smul (sgn (at ns x))) (sym (h b m)) ∙ sym (k p))

  atom-truth : (y : Pt (List ℤ)) (c : Comparison) (ns : List ℤ) (B : List (List ℤ)) (p : Fraction) → Marked x B w ns → PtOk y → Agrees B p y
      → truth (atom_by (atom_at (spot x y) c ns) c) w ≡ atom_truth c ns (there p)
  atom-truth y c ns B p k o h = go (is_zero (at ns x)) refl k
    where
      go : (z : Bool) → is_zero (at ns x) ≡ z → Marked x B w ns → truth (atom_by (atom_at (spot x y) c ns) c) w ≡ atom_truth c ns (there p)
      go true e k = ap (λ (r : Came). truth (atom_by r c) w) (atom-without y c ns e) ∙ settled-truth c ns w base
          ∙ ap (test c) (absent x (at ns) w p named (zero_of (at ns x) e))
      go false e (inl z) = absurd (subst T (sym (ap is_zero z) ∙ e) tt)
      go false e (inr r) = atom-with y c ns r.0 B p e r.1 r.2 o h

-- ---- a body at a spot

-- whatever the spot does to each atom, it does to the whole
module _ (q : Spot) (w u : ℕ → ℤ) (P : List ℤ → Type 0) (each : (c : Comparison) (ns : List ℤ) → P ns → truth (atom_by (atom_at q c ns) c) w ≡ atom_truth c ns u) where
  mutual
    unfolding copy

    pub copy-truth : (f : Formula) → EachRow P f → truth (copy q f) w ≡ truth f u
    copy-truth (atom c ns) r = each c ns r
    copy-truth (not f) r = absurd r
    copy-truth (list b fs) r = listed-truth b (copy_all q fs) w ∙ copy_all-truth b fs r
    copy-truth (quant b v f) r = absurd r
    copy-truth (window v lo hi) r = absurd r

    copy_all-truth : (b : Bool) (fs : Formulas) → EachRowIn P fs → truths b (copy_all q fs) w ≡ truths b fs u
    copy_all-truth b none r = refl
    copy_all-truth b (more f fs) r = ap₂ (join b) (copy-truth f r.0) (copy_all-truth b fs r.1)

-- the finishing pass
pub nowhere-truth : (f : Formula) (w : ℕ → ℤ) → sgn (w 8) ≡ positive → Flat f → truth (copy nowhere f) w ≡ truth f w
nowhere-truth f w base r = copy-truth nowhere w w (λ (ns : List ℤ). Unit {0}) (λ c ns _. ap (λ (r : Came). truth (atom_by r c) w) (at-nowhere c ns) ∙ settled-truth c ns w base) f r

-- each row of a copy has Q where each row of the body has P, if every atom's copy does
module _ (q : Spot) (P Q : List ℤ → Type 0) (each : (c : Comparison) (ns : List ℤ) → P ns → EachRow Q (atom_by (atom_at q c ns) c)) where
  mutual
    unfolding copy

    pub copy-rows : (f : Formula) → EachRow P f → EachRow Q (copy q f)
    copy-rows (atom c ns) r = each c ns r
    copy-rows (not f) r = absurd r
    copy-rows (list b fs) r = listed-rows Q b (copy_all q fs) (copy_all-rows fs r)
    copy-rows (quant b v f) r = absurd r
    copy-rows (window v lo hi) r = absurd r

    copy_all-rows : (fs : Formulas) → EachRowIn P fs → EachRowIn Q (copy_all q fs)
    copy_all-rows none r = tt
    copy_all-rows (more f fs) r = (copy-rows f r.0, copy_all-rows fs r.1)

atom_by-flat : (r : Came) (c : Comparison) → Flat (atom_by r c)
atom_by-flat (sure b) c = tt
atom_by-flat (new ns) c = tt

pub copy-flat : (q : Spot) (f : Formula) → Flat f → Flat (copy q f)
copy-flat q f r = copy-rows q _ _ (λ c ns _. atom_by-flat (atom_at q c ns) c) f r

copies-flat : (qs : List Spot) (f : Formula) → Flat f → AllFlat (copies qs f)
unfolding copies
copies-flat [] f r = tt
copies-flat (q ∷ qs) f r = (copy-flat q f r, copies-flat qs f r)

-- ---- the points, and their spots

midpoints-spots : (x : ℕ) (t : List ℤ) (us : List (List ℤ)) → midpoints x t us ≡ map (spot x) (mids midpoint t us)
unfolding midpoints
midpoints-spots x t [] = refl
midpoints-spots x t (u ∷ us) = ap (λ (r : List Spot). here x (midpoint t u) ∷ r) (midpoints-spots x t us)

all_midpoints-spots : (x : ℕ) (ts : List (List ℤ)) → all_midpoints x ts ≡ map (spot x) (pairs midpoint ts)
unfolding all_midpoints
all_midpoints-spots x [] = refl
all_midpoints-spots x (t ∷ ts) =
    ap₂ (λ (k l : List Spot). k ++ l) (midpoints-spots x t (t ∷ ts)) (all_midpoints-spots x ts)
    ∙ sym (map-append (spot x) (mids midpoint t (t ∷ ts)) (pairs midpoint ts))

pub points-spots : (x : ℕ) (ts : List (List ℤ)) → points x ts ≡ map (spot x) (test_points midpoint ts)
unfolding points
points-spots x [] = refl
points-spots x (t ∷ ts) = ap (λ (r : List Spot). below x ∷ above x ∷ r) (all_midpoints-spots x (t ∷ ts))

points-ok : (l : List (List ℤ)) → Every Ok l → Every PtOk (test_points midpoint l)
points-ok l h = every-point midpoint PtOk l tt tt (λ a b m n. mid-above a b (h a m) (h b n))

-- ---- the list of the copies

-- some or every member of a list: the first, or the others
over-more : (b : Bool) {A : Type 0} (P : A → Type 0) (y : A) (ys : List A)
    → Over b (λ (z : (x : A) × Mem x (y ∷ ys)). P z.0) ↔ Both b (P y) (Over b (λ (z : (x : A) × Mem x ys). P z.0))
over-more true P y ys = (
  λ h. (h (y, inl refl), λ z. h (z.0, inr z.1)),
  λ r z. elim z.1 [ inl e ↦ subst P (sym e) r.0 | inr m ↦ r.1 (z.0, m) ],
)
over-more false P y ys = (
  λ h. elim h.0.1 [ inl e ↦ inl (subst P e h.1) | inr m ↦ inr ((h.0.0, m), h.1) ],
  λ s. elim s [ inl p ↦ ((y, inl refl), p) | inr r ↦ ((r.0.0, inr r.0.1), r.1) ],
)

over_none : (b : Bool) {A : Type 0} (P : A → Type 0) → Over b (λ (z : (x : A) × Mem x []). P z.0) ↔ T b
over_none true P = (λ _. tt, λ _ z. absurd z.1)
over_none false P = (λ h. absurd h.0.1, λ e. absurd e)

copies-over : (b : Bool) (x : ℕ) (f : Formula) (w : ℕ → ℤ) (ys : List (Pt (List ℤ)))
    → Over b (λ (z : (y : Pt (List ℤ)) × Mem y ys). T (truth (copy (spot x z.0) f) w)) ↔ T (truths b (copies (map (spot x) ys) f) w)
unfolding copies
copies-over b x f w [] = over_none b (λ y. T (truth (copy (spot x y) f) w))
copies-over b x f w (y ∷ ys) = iff-trans (over-more b (λ y. T (truth (copy (spot x y) f) w)) y ys)
    (iff-trans (both_iff b iff-same (copies-over b x f w ys)) (T-join b (truth (copy (spot x y) f) w) (truths b (copies (map (spot x) ys) f) w)))

-- some fraction, or every one, against the copies at all points
module _ (w : ℕ → ℤ) (base : sgn (w 8) ≡ positive) (x : ℕ) (named : x < 8) (ts : List (List ℤ)) (ok : Every Ok ts) (f : Formula) (marked : EachRow (Marked x ts w) f) where
  agreed : (p : Fraction) (y : Pt (List ℤ)) → Mem y (test_points midpoint ts) → Agree Fraction (List ℤ) cmp (ev w) Ok midpoint (line w) ts p y
      → T (truth f (upd x p.top p.bottom w)) ↔ T (truth (copy (spot x y) f) w)
  agreed p y m h = T-same (sym (copy-truth (spot x y) w (upd x p.top p.bottom w) (Marked x ts w) (λ c ns k. atom-truth w base x named y c ns ts p k (points-ok ts ok y m) h) f marked))

  heart : (b : Bool) → Over b (λ (p : Fraction). T (truth f (upd x p.top p.bottom w))) ↔ T (truths b (copies (map (spot x) (test_points midpoint ts)) f) w)
  heart b = iff-trans
      (over-iff b
      (λ p. let r = test_of Fraction (List ℤ) cmp (ev w) Ok midpoint (line w) ts p ok in ((r.0, r.1), agreed p r.0 r.1 r.2))
      (λ z. let r = point-of Fraction (List ℤ) cmp (ev w) Ok midpoint (line w) ts z.0 in (r.0, agreed r.0 z.0 z.1 r.1)))
      (copies-over b x f w (test_points midpoint ts))

-- ---- the replacement of a quantifier

pub replacement-flat : (b : Bool) (x : ℕ) (f : Formula) → Free f → Flat (replacement b x f)
unfolding replacement
replacement-flat b x f q =
    listed-rows (λ (ns : List ℤ). Unit {0}) b (copies (points x (terms x f)) (push false f)) (copies-flat (points x (terms x f)) (push false f) (push-flat false f q))

pub replacement-holds : (b : Bool) (x : ℕ) (f : Formula) (w : ℕ → ℤ) → sgn (w 8) ≡ positive → x < 8 → Named f → Free f → Holds (quant b x f) w ↔ T (truth (replacement b x f) w)
unfolding replacement
replacement-holds b x f w base named n q =
    iff-trans (over-each b (λ p. iff-trans (truth-decides f (upd x p.top p.bottom w) q) (T-same (sym (push-truth false f (upd x p.top p.bottom w) n)))))
    (iff-trans (heart w base x named (terms x f) (terms-ok x named f) (push false f) (terms-marked x named w f q) b)
    (T-same (ap (λ (qs : List Spot). truths b (copies qs (push false f)) w) (sym (points-spots x (terms x f))) ∙ sym (listed-truth b (copies (points x (terms x f)) (push false f)) w))))
