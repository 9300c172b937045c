-- Boundary terms: each atom of the pushed body in which x occurs has a gathered term that marks it, so that the atom's sign at a value of x is that of
-- its coefficient times the value's side of the term. Terms are gathered before pushing, and pushing turns both signs. Assumes nothing.
use mathlib.Core.Path.{◌≡◌, refl, sym, ◌∙◌, ap, ap₂, subst}
use mathlib.Core.Logic.{◌⊎◌, inl, inr}
use mathlib.Core.Bool.{Bool, true, false, cond}
use mathlib.Core.Bool as Bool
use mathlib.Core.List.{List, [], ◌∷◌}
use Prim.Native.Nat.{ℕ, ◌<◌}
use native.Mathlib.Omega.{arith}
use lib.Dec.{eqb, lit<}
use lib.IntN.{ℤ, pos, negsuc, neg_ℤ}
use lib.Signed.{lt_z}
use borrow.Author.Tests.{eqb-true, eqb-false, ne_eqb}
use Rattle.reading.specs.Formula.{Formula, Formulas, atom, not, list, quant, window, none, more, Free, AllFree}
use Rattle.exact.specs.Numbers.{at, tab, is_zero, same_row, minus, single}
use Rattle.exact.specs.Terms.{left_at, turned, term_at, term_of, bound_of}
use Rattle.exact.proofs.Sizes.{zero_of}
use Rattle.exact.proofs.Rows.{at-tab, at-minus, single-here, single-else, same-is}
use Rattle.exact.proofs.Terms.{term-low, left-single, at_bound, raw-last, raw_above, term-above}
use Rattle.rules.specs.Pushing.{push_window, push, pushs}
use Rattle.rules.specs.Points.{insert, gather, gather_all, terms}
use Rattle.meaning.specs.Meaning.{Fraction}
use Rattle.exact.proofs.Ring.{◌⊕◌, ◌⊗◌, ⊖, ◌⊝◌, O, ring, ⊖-⊖, one-⊗, minus_one, ⊕-idl, O-⊗}
use Rattle.exact.proofs.Order.{Sign, sgn, turn, smul, smul-turn, sgn-⊖, sgn-⊗, sgn-up}
use Rattle.meaning.proofs.Sums.{dot, upd, others, dot-upd, dot-same, dot-times, dot-pair, reduced-multiple}
use Rattle.meaning.proofs.Points.TestPoints.{Mem, Every, every-cons, every-pick}
use Rattle.meaning.proofs.Points.Fractions.{cmp, Ok, ev, cmp-ok, cmp-multiple}
use Rattle.meaning.proofs.Truth.{EachRow, EachRowIn, rows_more}
use Rattle.meaning.proofs.Keeps.Pushing.{sgn-minus, push_atom-rows}

-- ---- a term marks a row

-- the sign of a row at a value of x is that of its coefficient times the side of the term
abbrev pub Marks : ℕ → (ℕ → ℤ) → (ℕ → ℤ) → List ℤ → Type 0
Marks x c w t = (p : Fraction) → sgn (dot c (upd x p.top p.bottom w)) ≡ smul (sgn (c x)) (cmp p (ev w t))

marks-ring : (a m e t d n : ℤ) → a ⊗ n ≡ ⊖ (d ⊗ t) → d ⊗ (a ⊗ m ⊕ e ⊗ t) ≡ a ⊗ (m ⊗ d ⊝ n ⊗ e)
marks-ring a m e t d n h = first ∙ ap (λ (z : ℤ). d ⊗ (a ⊗ m) ⊕ ⊖ z ⊗ e) (sym h) ∙ second
  where
    first : d ⊗ (a ⊗ m ⊕ e ⊗ t) ≡ d ⊗ (a ⊗ m) ⊕ ⊖ (⊖ (d ⊗ t)) ⊗ e
    first = simp ring

    second : d ⊗ (a ⊗ m) ⊕ ⊖ (a ⊗ n) ⊗ e ≡ a ⊗ (m ⊗ d ⊝ n ⊗ e)
    second = simp ring

-- where a · n = − d · t for the row ax + t and the term n / d
marks-by : (x : ℕ) (c w : ℕ → ℤ) (t : List ℤ) → x < 8 → Ok t → c x ⊗ dot (at t) w ≡ ⊖ (at t 9 ⊗ dot (others c x) w) → Marks x c w t
marks-by x c w t h o e p =
    ap sgn (dot-upd x p.top p.bottom c w (omega arith)) ∙ sym (sgn-up (at t 9) _ o)
    ∙ ap sgn (marks-ring (c x) p.top p.bottom (dot (others c x) w) (at t 9) (dot (at t) w) e)
    ∙ sgn-⊗ (c x) _ ∙ ap (smul (sgn (c x))) (sym (cmp-ok w t p o))

sgn-at-minus : (ns : List ℤ) (i : ℕ) → sgn (at (minus ns) i) ≡ turn (sgn (at ns i))
unfolding ⊖
sgn-at-minus ns i = ap sgn (at-minus ns i) ∙ sgn-⊖ (at ns i)

marks-minus : (x : ℕ) (ns : List ℤ) (w : ℕ → ℤ) (t : List ℤ) → Marks x (at ns) w t → Marks x (at (minus ns)) w t
marks-minus x ns w t m p =
    sgn-minus ns (upd x p.top p.bottom w) ∙ ap turn (m p) ∙ sym (smul-turn (sgn (at ns x)) _)
    ∙ ap (λ (s : Sign). smul s (cmp p (ev w t))) (sym (sgn-at-minus ns x))

-- ---- the term of an atom

-- the term before it is reduced
abbrev raw : List ℤ → ℕ → List ℤ
raw ns x = tab 10 (term_at ns x)

-- z or −z, as a product with 1 or −1
abbrev side : Bool → ℤ
side true = negsuc 0
side false = pos 1

turned-is : (b : Bool) (z : ℤ) → turned b z ≡ side b ⊗ z
unfolding ⊖
turned-is true z = sym (minus_one z)
turned-is false z = sym (one-⊗ z)

side-not : (b : Bool) → side (Bool.not b) ≡ ⊖ (side b)
unfolding ⊖
side-not true = refl
side-not false = refl

raw_at : (ns : List ℤ) (x i : ℕ) → i < 9 → at (raw ns x) i ≡ ⊖ (side (lt_z (at ns x) O)) ⊗ others (at ns) x i
unfolding left_at
raw_at ns x i h =
    at-tab 10 (term_at ns x) i (omega arith) ∙ sym (term-low ns x i h) ∙ turned-is (Bool.not (lt_z (at ns x) O)) (left_at ns x i)
    ∙ ap (λ (z : ℤ). z ⊗ left_at ns x i) (side-not (lt_z (at ns x) O))

raw-ring : (a s t : ℤ) → a ⊗ (⊖ s ⊗ t) ≡ ⊖ ((s ⊗ a) ⊗ t)
raw-ring a s t = simp ring

raw-cross : (ns : List ℤ) (x : ℕ) (w : ℕ → ℤ) → at ns x ⊗ dot (at (raw ns x)) w ≡ ⊖ (at (raw ns x) 9 ⊗ dot (others (at ns) x) w)
raw-cross ns x w =
    let s = side (lt_z (at ns x) O) in
    ap (λ (z : ℤ). at ns x ⊗ z) (dot-same (at (raw ns x)) (λ i. ⊖ s ⊗ others (at ns) x i) w (raw_at ns x) ∙ dot-times (⊖ s) (others (at ns) x) w)
    ∙ raw-ring (at ns x) s (dot (others (at ns) x) w)
    ∙ ap (λ (z : ℤ). ⊖ (z ⊗ dot (others (at ns) x) w)) (sym (raw-last ns x ∙ turned-is (lt_z (at ns x) O) (at ns x)))

term-marks : (ns : List ℤ) (x : ℕ) (w : ℕ → ℤ) → x < 8 → is_zero (at ns x) ≡ false → Marks x (at ns) w (term_of ns x)
unfolding term_of
term-marks ns x w l h p =
    marks-by x (at ns) w (raw ns x) l (raw_above ns x h) (raw-cross ns x w) p
    ∙ ap (smul (sgn (at ns x))) (cmp-multiple w (term_of ns x) (raw ns x) p (reduced-multiple (raw ns x)) (raw_above ns x h))

-- ---- the terms of a WINDOW

bound-last : (c : ℤ) → at (bound_of c) 9 ≡ pos 1
bound-last c = at_bound c 9 (lit< tt)

bound-ok : (c : ℤ) → Ok (bound_of c)
unfolding sgn
bound-ok c = ap sgn (bound-last c)

cond_same : (b : Bool) (z : ℤ) → cond b z z ≡ z
cond_same true z = refl
cond_same false z = refl

constant : (v : ℕ) (c : ℤ) (w : ℕ → ℤ) → v < 8 → (d : ℕ → ℤ) → ((i : ℕ) → i < 9 → d i ≡ cond (eqb i 8) c O) → dot d w ≡ c ⊗ w 8
constant v c w h d e =
    dot-same d (λ i. cond (eqb i 8) c (cond (eqb i v) O O)) w (λ i k. e i k ∙ ap (cond (eqb i 8) c) (sym (cond_same (eqb i v) O)))
    ∙ dot-pair v O c w h ∙ ap (λ (z : ℤ). z ⊕ c ⊗ w 8) (O-⊗ (w v)) ∙ ⊕-idl _

dot-bound : (v : ℕ) (c : ℤ) (w : ℕ → ℤ) → v < 8 → dot (at (bound_of c)) w ≡ c ⊗ w 8
dot-bound v c w h = constant v c w h (at (bound_of c)) (λ i k. at_bound c i (omega arith) ∙ ap (λ (b : Bool). cond b (pos 1) (cond (eqb i 8) c O)) (ne_eqb i 9 (λ e. omega arith)))

dot-others : (v : ℕ) (a c : ℤ) (w : ℕ → ℤ) → v < 8 → dot (others (at (single v a c)) v) w ≡ c ⊗ w 8
unfolding left_at
dot-others v a c w h = constant v c w h (others (at (single v a c)) v) (λ i k. left-single v a c i h k)

bound-ring : (a k b q : ℤ) → a ⊗ k ≡ ⊖ b → a ⊗ (k ⊗ q) ≡ ⊖ (pos 1 ⊗ (b ⊗ q))
bound-ring a k b q h = first ∙ ap (λ (z : ℤ). z ⊗ q) h ∙ second
  where
    first : a ⊗ (k ⊗ q) ≡ (a ⊗ k) ⊗ q
    first = simp ring

    second : ⊖ b ⊗ q ≡ ⊖ (pos 1 ⊗ (b ⊗ q))
    second = simp ring

bound-marks : (v : ℕ) (a b k : ℤ) (w : ℕ → ℤ) → v < 8 → a ⊗ k ≡ ⊖ b → Marks v (at (single v a b)) w (bound_of k)
bound-marks v a b k w h e = marks-by v (at (single v a b)) w (bound_of k) h (bound-ok k)
    (ap₂ ◌⊗◌ (single-here v a b h) (dot-bound v k w h) ∙ bound-ring a k b (w 8) e ∙ ap ⊖ (ap₂ ◌⊗◌ (sym (bound-last k)) (sym (dot-others v a b w h))))

-- ---- inserting

mem-step : (t u : List ℤ) (us r : List (List ℤ)) (s : Bool) → same_row u t ≡ s → Mem t r → Mem t (u ∷ cond s us r)
mem-step t u us r true e m = inl (sym (same-is u t e))
mem-step t u us r false e m = inr m

insert-has : (t : List ℤ) (l : List (List ℤ)) → Mem t (insert t l)
unfolding insert
insert-has t [] = inl refl
insert-has t (u ∷ us) = mem-step t u us (insert t us) (same_row u t) refl (insert-has t us)

keeps-step : (s : Bool) (u b : List ℤ) (us r : List (List ℤ)) → (Mem b us → Mem b r) → Mem b (u ∷ us) → Mem b (u ∷ cond s us r)
keeps-step true u b us r h m = m
keeps-step false u b us r h (inl e) = inl e
keeps-step false u b us r h (inr m) = inr (h m)

insert-keeps : (t : List ℤ) (l : List (List ℤ)) (b : List ℤ) → Mem b l → Mem b (insert t l)
unfolding insert
insert-keeps t [] b m = absurd m
insert-keeps t (u ∷ us) b m = keeps-step (same_row u t) u b us (insert t us) (insert-keeps t us b) m

-- what the terms and a new one have, they all have after it is inserted
pub every-insert : (P : List ℤ → Type 0) (t : List ℤ) (l : List (List ℤ)) → P t → Every P l → Every P (insert t l)
unfolding insert
every-insert P t [] p h = every-cons P t [] p h
every-insert P t (u ∷ us) p h =
    let k : Every P us = λ c n. h c (inr n) in
    every-cons P u (cond (same_row u t) us (insert t us)) (h u (inl refl)) (every-pick P (same_row u t) us (insert t us) k (every-insert P t us p k))

-- ---- gathering

module _ (x : ℕ) (low : x < 8) where
  atom-keeps : (z : Bool) (t : List ℤ) (ts : List (List ℤ)) (b : List ℤ) → Mem b ts → Mem b (cond z ts (insert t ts))
  atom-keeps true t ts b m = m
  atom-keeps false t ts b m = insert-keeps t ts b m

  window-keeps : (z : Bool) (t u : List ℤ) (ts : List (List ℤ)) (b : List ℤ) → Mem b ts → Mem b (cond z (insert u (insert t ts)) ts)
  window-keeps true t u ts b m = insert-keeps u (insert t ts) b (insert-keeps t ts b m)
  window-keeps false t u ts b m = m

  mutual
    unfolding gather

    gather-keeps : (f : Formula) (ts : List (List ℤ)) (b : List ℤ) → Mem b ts → Mem b (gather x f ts)
    gather-keeps (atom c ns) ts b m = atom-keeps (is_zero (at ns x)) (term_of ns x) ts b m
    gather-keeps (not f) ts b m = gather-keeps f ts b m
    gather-keeps (list a fs) ts b m = gather_all-keeps fs ts b m
    gather-keeps (quant a v f) ts b m = m
    gather-keeps (window v lo hi) ts b m = window-keeps (eqb v x) (bound_of lo) (bound_of hi) ts b m

    gather_all-keeps : (fs : Formulas) (ts : List (List ℤ)) (b : List ℤ) → Mem b ts → Mem b (gather_all x fs ts)
    gather_all-keeps none ts b m = m
    gather_all-keeps (more f fs) ts b m = gather_all-keeps fs (gather x f ts) b (gather-keeps f ts b m)

  atom-ok : (ns : List ℤ) (z : Bool) (ts : List (List ℤ)) → is_zero (at ns x) ≡ z → Every Ok ts → Every Ok (cond z ts (insert (term_of ns x) ts))
  atom-ok ns true ts e h = h
  atom-ok ns false ts e h = every-insert Ok (term_of ns x) ts (term-above ns x e) h

  window-ok : (z : Bool) (lo hi : ℤ) (ts : List (List ℤ)) → Every Ok ts → Every Ok (cond z (insert (bound_of hi) (insert (bound_of lo) ts)) ts)
  window-ok z lo hi ts h = every-pick Ok z _ ts (every-insert Ok (bound_of hi) (insert (bound_of lo) ts) (bound-ok hi) (every-insert Ok (bound_of lo) ts (bound-ok lo) h)) h

  mutual
    unfolding gather

    gather-ok : (f : Formula) (ts : List (List ℤ)) → Every Ok ts → Every Ok (gather x f ts)
    gather-ok (atom c ns) ts h = atom-ok ns (is_zero (at ns x)) ts refl h
    gather-ok (not f) ts h = gather-ok f ts h
    gather-ok (list a fs) ts h = gather_all-ok fs ts h
    gather-ok (quant a v f) ts h = h
    gather-ok (window v lo hi) ts h = window-ok (eqb v x) lo hi ts h

    gather_all-ok : (fs : Formulas) (ts : List (List ℤ)) → Every Ok ts → Every Ok (gather_all x fs ts)
    gather_all-ok none ts h = h
    gather_all-ok (more f fs) ts h = gather_all-ok fs (gather x f ts) (gather-ok f ts h)

  pub terms-ok : (f : Formula) → Every Ok (terms x f)
  unfolding terms
  terms-ok f = gather-ok f [] (λ b m. absurd m)

-- ---- each atom has its term

-- x does not occur in the row, or one of the terms marks it
abbrev pub Marked : ℕ → List (List ℤ) → (ℕ → ℤ) → List ℤ → Type 0
Marked x ts w ns = (at ns x ≡ O) ⊎ ((b : List ℤ) × Mem b ts × Marks x (at ns) w b)

module _ (x : ℕ) (low : x < 8) (w : ℕ → ℤ) where
  marked-minus : (ts : List (List ℤ)) (ns : List ℤ) → Marked x ts w ns → Marked x ts w (minus ns)
  marked-minus ts ns (inl e) = inl (at-minus ns x ∙ ap neg_ℤ e)
  marked-minus ts ns (inr r) = inr (r.0, r.1, marks-minus x ns w r.0 r.2)

  atom-marked : (ns : List ℤ) (z : Bool) (ts : List (List ℤ)) → is_zero (at ns x) ≡ z → Marked x (cond z ts (insert (term_of ns x) ts)) w ns
  atom-marked ns true ts e = inl (zero_of (at ns x) e)
  atom-marked ns false ts e = inr (term_of ns x, insert-has (term_of ns x) ts, term-marks ns x w low e)

  -- a WINDOW's row, by the term of lo or hi
  row-marked : (v : ℕ) (z : Bool) (a b k : ℤ) (ts us : List (List ℤ)) → eqb v x ≡ z → Mem (bound_of k) us → a ⊗ k ≡ ⊖ b → Marked x (cond z us ts) w (single v a b)
  row-marked v true a b k ts us e m h =
      inr (bound_of k, m, subst (λ (y : ℕ). Marks y (at (single v a b)) w (bound_of k)) (eqb-true v x e) (bound-marks v a b k w (let p = eqb-true v x e in omega arith) h))
  row-marked v false a b k ts us e m h = inl (single-else x v a b low (eqb-false v x e))

  push_window-marked : (neg : Bool) (v : ℕ) (lo hi : ℤ) (z : Bool) (ts us : List (List ℤ)) → eqb v x ≡ z → Mem (bound_of lo) us → Mem (bound_of hi) us
      → EachRow (Marked x (cond z us ts) w) (push_window neg v lo hi)
  unfolding ⊖
  push_window-marked false v lo hi z ts us e l h = (
    row-marked v z (negsuc 0) lo lo ts us e l (minus_one lo),
    (row-marked v z (pos 1) (neg_ℤ hi) hi ts us e h (one-⊗ hi ∙ sym (⊖-⊖ hi)), tt),
  )
  push_window-marked true v lo hi z ts us e l h = (
    row-marked v z (pos 1) (neg_ℤ lo) lo ts us e l (one-⊗ lo ∙ sym (⊖-⊖ lo)),
    (row-marked v z (negsuc 0) hi hi ts us e h (minus_one hi), tt),
  )

  marked_more : (ts us : List (List ℤ)) → ((b : List ℤ) → Mem b ts → Mem b us) → (ns : List ℤ) → Marked x ts w ns → Marked x us w ns
  marked_more ts us h ns (inl e) = inl e
  marked_more ts us h ns (inr r) = inr (r.0, h r.0 r.1, r.2)

  mutual
    unfolding gather push

    gather-marked : (neg : Bool) (f : Formula) (ts : List (List ℤ)) → Free f → EachRow (Marked x (gather x f ts) w) (push neg f)
    gather-marked neg (atom c ns) ts q = push_atom-rows _ (marked-minus (cond (is_zero (at ns x)) ts (insert (term_of ns x) ts))) neg c ns (atom-marked ns (is_zero (at ns x)) ts refl)
    gather-marked neg (not f) ts q = gather-marked (Bool.not neg) f ts q
    gather-marked neg (list b fs) ts q = gather_all-marked neg fs ts q
    gather-marked neg (quant b v f) ts q = absurd q
    gather-marked neg (window v lo hi) ts q =
        push_window-marked neg v lo hi (eqb v x) ts (insert (bound_of hi) (insert (bound_of lo) ts)) refl
        (insert-keeps (bound_of hi) (insert (bound_of lo) ts) (bound_of lo) (insert-has (bound_of lo) ts)) (insert-has (bound_of hi) (insert (bound_of lo) ts))

    gather_all-marked : (neg : Bool) (fs : Formulas) (ts : List (List ℤ)) → AllFree fs → EachRowIn (Marked x (gather_all x fs ts) w) (pushs neg fs)
    gather_all-marked neg none ts q = tt
    gather_all-marked neg (more f fs) ts q = (
      rows_more (Marked x (gather x f ts) w) (Marked x (gather_all x fs (gather x f ts)) w) (marked_more (gather x f ts) (gather_all x fs (gather x f ts)) (gather_all-keeps x low fs (gather x f ts)))
          (push neg f) (gather-marked neg f ts q.0),
      gather_all-marked neg fs (gather x f ts) q.1,
    )

  pub terms-marked : (f : Formula) → Free f → EachRow (Marked x (terms x f) w) (push false f)
  unfolding terms
  terms-marked f q = gather-marked false f [] q
