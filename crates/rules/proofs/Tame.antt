-- The bound `tame` holds: where each atom that has x has at most a there and at most t in each other number, and 4·a·a·t is at most M, no number of
-- the step leaves −M..M, so the test of answer 11 passes. All is shown of the pushed body, which has the same terms and only atoms and lists.
-- Assumes nothing.
use Prim.Native.Nat.{ℕ, zero, suc, ◌+◌, ◌*◌, ◌-◌, ◌≤◌, ◌<◌, zero-le}
use mathlib.Core.Path.{◌≡◌, refl, sym, ◌∙◌, ap, ap₂, subst}
use mathlib.Core.Bool as Bool
use mathlib.Core.Bool.{Bool, true, false, ◌&&◌, cond}
use mathlib.Core.List.{List, [], ◌∷◌, ◌++◌}
use native.Mathlib.Nat as N
use native.Mathlib.Omega.{arith}
use lib.Dec.{T, eqb, ltb}
use lib.ListN.{get_or-eq_default}
use lib.IntN.{ℤ, pos, neg_ℤ, nat_abs, ◌+ℤ◌, ◌*ℤ◌}
use lib.Signed.{lt_z}
use borrow.Author.Tests.{leb-true, ltb-true, ltb-false, lt-ltb, eqb-true, eqb-false}
use Rattle.reading.specs.Limits.{M, variables}
use Rattle.reading.specs.Formula.{Comparison, less, atmost, equal, Formula, Formulas, atom, not, list, quant, window, none, more, atom_l, InRange, Fits, Free, AllFree}
use Rattle.exact.specs.Numbers.{at, tab, Within, Each, is_zero, same_row, minus, single}
use Rattle.exact.specs.Divisor.{gcds, quots, reduced}
use Rattle.exact.specs.Terms.{left_at, turned, term_at, term_of, mid_at, mid_of, midpoint}
use Rattle.exact.specs.Atoms.{Came, sure, settled, Spot, below, above, here, point_at, point_of, atom_at, far_of, fitting}
use Rattle.exact.proofs.Sizes.{abs_neg, in-*, in-+, in-neg, in-quot, in-more, in-lit}
use Rattle.exact.proofs.Loops.{length-tab}
use Rattle.exact.proofs.Rows.{each_all, each-all_m, at-minus, length-single, single-here, single-else}
use Rattle.exact.proofs.Terms.{left-single}
use Rattle.rules.specs.Pushing.{push_atom, push_window, push, pushs}
use Rattle.rules.specs.Points.{insert, gather, gather_all, terms, midpoints, all_midpoints, points, spot_fits}
use Rattle.rules.specs.Copies.{fits, fit_all}
use Rattle.rules.specs.Steps.{numbers_fit}
use Rattle.rules.specs.Tame.{Bounded, AllBounded, tame}
use Rattle.rules.proofs.Limits.Levels.{fits-wide}
use Rattle.rules.proofs.Limits.Copies.{Pushed, AllPushed, push-fits, finishing-fits}
use Rattle.rules.proofs.PushedTerms.{gather-pushed}

-- ---- what the bound has room for: a midpoint's numbers above and below the line, and those of a new atom

record Room (a t : ℕ) : Type 0 where
  top : t * a + t * a ≤ M
  bottom : 2 * a * a ≤ M
  sum : a * (t * a + t * a) + 2 * a * a * t ≤ M

room : (a t : ℕ) → tame a t ≡ true → Room a t
unfolding tame
room zero t e = omega arith
room (suc a) zero e = omega (arith, leb-true)
room (suc a) (suc t) e = omega (arith, leb-true)

-- ---- one number of a row: turning and dividing make it no larger

in-turned : {n : ℕ} {z : ℤ} (b : Bool) → Within n z → Within n (turned b z)
in-turned true h = in-neg h
in-turned false h = h

in-reduced : {n : ℕ} (l : List ℤ) (i : ℕ) → Within n (at l i) → Within n (at (reduced l) i)
unfolding reduced quots
in-reduced {n} l i h = go (gcds l) l i h
  where
    go : (g : ℕ) (l : List ℤ) (i : ℕ) → Within n (at l i) → Within n (at (quots g l) i)
    go g [] i h = h
    go g (z ∷ l) zero h = in-quot g h
    go g (z ∷ l) (suc i) h = go g l i h

-- a row f 0, f 1 .., each number with a bound of its own
in-tab : (n : ℕ) (f : ℕ → ℤ) (g : ℕ → ℕ) → ((i : ℕ) → i < n → Within (g i) (f i)) → (i : ℕ) → Within (g i) (at (tab n f) i)
in-tab zero f g h i = record { size = zero-le }
in-tab (suc n) f g h zero = h 0 (omega arith)
in-tab (suc n) f g h (suc i) = in-tab n (λ j. f (suc j)) (λ j. g (suc j)) (λ j k. h (suc j) (omega arith)) i

-- ---- fractions: at most t above the line, at most a below it

abbrev share : ℕ → ℕ → ℕ → ℕ
share a t i = cond (ltb i 9) t a

record Small (a t : ℕ) (u : List ℤ) : Type 0 where
  number : (i : ℕ) → Within (share a t i) (at u i)

above-line : {a t : ℕ} {u : List ℤ} → Small a t u → (i : ℕ) → ltb i 9 ≡ true → Within t (at u i)
above-line {a} {t} {u} s i e = subst (λ (b : Bool). Within (cond b t a) (at u i)) e (s.number i)

below-line : {a t : ℕ} {u : List ℤ} → Small a t u → Within a (at u 9)
below-line s = s.number 9

-- ten numbers, reduced
small-ten : {a t : ℕ} (f : ℕ → ℤ) → ((i : ℕ) → Within (share a t i) (f i)) → Small a t (reduced (tab 10 f))
small-ten {a} {t} f h = record { number = λ i. in-reduced (tab 10 f) i (in-tab 10 f (share a t) (λ j _. h j) i) }

small-each : {a t : ℕ} {u : List ℤ} → Small a t u → a ≤ M → t ≤ M → Each M u
small-each {a} {t} s h k = record { at = λ i. in-more (s.number i) (go (ltb i 9)) }
  where
    go : (b : Bool) → cond b t a ≤ M
    go true = k
    go false = h

small-mid : {a t : ℕ} {u v : List ℤ} → Small a t u → Small a t v → Small (2 * a * a) (t * a + t * a) (midpoint u v)
unfolding midpoint mid_of mid_at
small-mid {a} {t} {u} {v} p q = small-ten (mid_at u v) (λ i. go i (ltb i 9) refl)
  where
    go : (i : ℕ) (b : Bool) → ltb i 9 ≡ b → Within (cond b (t * a + t * a) (2 * a * a)) (cond b (at u i *ℤ at v 9 +ℤ at v i *ℤ at u 9) (pos 2 *ℤ at u 9 *ℤ at v 9))
    go i true e = in-+ (in-* (above-line p i e) (below-line q)) (in-* (above-line q i e) (below-line p))
    go i false e = in-* (in-* (in-lit {n = 2} {z = pos 2} tt) (below-line p)) (below-line q)

abbrev AllSmall : ℕ → ℕ → List (List ℤ) → Type 0
AllSmall a t [] = Unit {0}
AllSmall a t (u ∷ us) = Small a t u × AllSmall a t us

insert-small : {a t : ℕ} {u : List ℤ} → Small a t u → (us : List (List ℤ)) → AllSmall a t us → AllSmall a t (insert u us)
unfolding insert
insert-small s [] h = (s, tt)
insert-small {a} {t} {u} s (v ∷ us) h = (h.0, go (same_row v u) (insert-small s us h.1))
  where
    go : (b : Bool) → AllSmall a t (insert u us) → AllSmall a t (cond b us (insert u us))
    go true k = h.1
    go false k = k

-- ---- an atom that comes out as it stands is only divided, as in the finishing pass

settled-fits : (c : Comparison) (ns : List ℤ) → InRange (atom_l c ns) → fitting (settled c ns) ≡ true
unfolding fits push atom_at
settled-fits c ns w = finishing-fits 1 (atom c ns) (omega arith, w) tt

either-fits : (b : Bool) (u v : Came) → fitting u ≡ true → (b ≡ false → fitting v ≡ true) → fitting (cond b u v) ≡ true
either-fits true u v h k = h
either-fits false u v h k = k refl

module _ (x a t : ℕ) where
  -- ---- the pushed body is bounded as the body is

  minus-bounded : (c : Comparison) (ns : List ℤ) → Bounded x a t (atom c ns) → Bounded x a t (atom c (minus ns))
  unfolding left_at
  minus-bounded c ns h e = let k = h (ap (λ (n : ℕ). eqb n 0) (sym (same x)) ∙ e) in (N.le_trans (N.le_of_eq (same x)) k.0, λ i. go i (eqb i x) (k.1 i))
    where
      same : (i : ℕ) → nat_abs (at (minus ns) i) ≡ nat_abs (at ns i)
      same i = ap nat_abs (at-minus ns i) ∙ abs_neg (at ns i)

      go : (i : ℕ) (b : Bool) → nat_abs (cond b (pos 0) (at ns i)) ≤ t → nat_abs (cond b (pos 0) (at (minus ns) i)) ≤ t
      go i true l = l
      go i false l = N.le_trans (N.le_of_eq (same i)) l

  push_atom-bounded : (neg : Bool) (c : Comparison) (ns : List ℤ) → Bounded x a t (atom c ns) → Bounded x a t (push_atom neg c ns)
  push_atom-bounded false c ns h = h
  push_atom-bounded true less ns h = minus-bounded less ns h
  push_atom-bounded true atmost ns h = minus-bounded less ns h
  push_atom-bounded true equal ns h = (h, (minus-bounded less ns h, tt))

  module _ (low : x < variables) where
    -- one atom of a WINDOW: x + c, or −x + c
    left-bounded : (s : Bool) (c : ℤ) (i : ℕ) → nat_abs c ≤ t → nat_abs (left_at (single x (turned s (pos 1)) c) x i) ≤ t
    unfolding left_at
    left-bounded s c i h = go (ltb i 9) refl
      where
        ns : List ℤ
        ns = single x (turned s (pos 1)) c

        inside : (b : Bool) → nat_abs (cond b c (pos 0)) ≤ t
        inside true = h
        inside false = zero-le

        outside : (b : Bool) → at ns i ≡ pos 0 → nat_abs (cond b (pos 0) (at ns i)) ≤ t
        outside true e = zero-le
        outside false e = subst (λ (z : ℤ). nat_abs z ≤ t) (sym e) zero-le

        go : (b : Bool) → ltb i 9 ≡ b → nat_abs (left_at ns x i) ≤ t
        go true e = subst (λ (z : ℤ). nat_abs z ≤ t) (sym (left-single x (turned s (pos 1)) c i low (ltb-true i 9 e))) (inside (eqb i 8))
        go false e = outside (eqb i x) (get_or-eq_default ns (pos 0) (omega (arith, length-single x (turned s (pos 1)) c, ltb-false i 9 e)))

    single-bounded : (v : ℕ) (s : Bool) (k : Comparison) (c : ℤ) → (eqb v x ≡ true → (1 ≤ a) × (nat_abs c ≤ t)) → Bounded x a t (atom k (single v (turned s (pos 1)) c))
    single-bounded v s k c h = go (eqb v x) refl
      where
        one : (s : Bool) → nat_abs (turned s (pos 1)) ≡ 1
        one true = refl
        one false = refl

        go : (b : Bool) → eqb v x ≡ b → Bounded x a t (atom k (single v (turned s (pos 1)) c))
        go true e = subst (λ (u : ℕ). Bounded x a t (atom k (single u (turned s (pos 1)) c))) (sym (eqb-true v x e))
            (λ _. (omega (arith, (h e).0, one s, ap nat_abs (single-here x (turned s (pos 1)) c low)), λ i. left-bounded s c i (h e).1))
        go false e = λ n. absurd (subst T (sym (ap is_zero (single-else x v (turned s (pos 1)) c low (eqb-false v x e))) ∙ n) tt)

    push_window-bounded : (neg : Bool) (v : ℕ) (lo hi : ℤ) → Bounded x a t (window v lo hi) → Bounded x a t (push_window neg v lo hi)
    push_window-bounded false v lo hi h =
        (single-bounded v true atmost lo (λ e. ((h e).0, (h e).1)), (single-bounded v false atmost (neg_ℤ hi) (λ e. ((h e).0, omega (arith, abs_neg hi, (h e).2))), tt))
    push_window-bounded true v lo hi h =
        (single-bounded v false less (neg_ℤ lo) (λ e. ((h e).0, omega (arith, abs_neg lo, (h e).1))), (single-bounded v true less hi (λ e. ((h e).0, (h e).2)), tt))

    mutual
      unfolding push

      push-bounded : (neg : Bool) (f : Formula) → Free f → Bounded x a t f → Bounded x a t (push neg f)
      push-bounded neg (atom c ns) h b = push_atom-bounded neg c ns b
      push-bounded neg (not f) h b = push-bounded (Bool.not neg) f h b
      push-bounded neg (list k fs) h b = pushs-bounded neg fs h b
      push-bounded neg (quant k v f) h b = absurd h
      push-bounded neg (window v lo hi) h b = push_window-bounded neg v lo hi b

      pushs-bounded : (neg : Bool) (fs : Formulas) → AllFree fs → AllBounded x a t fs → AllBounded x a t (pushs neg fs)
      pushs-bounded neg none h b = tt
      pushs-bounded neg (more f fs) h b = (push-bounded neg f h.0 b.0, pushs-bounded neg fs h.1 b.1)

  -- ---- the terms of a pushed body are small

  term-small : (ns : List ℤ) → Within a (at ns x) → ((i : ℕ) → Within t (left_at ns x i)) → Small a t (term_of ns x)
  unfolding term_of term_at
  term-small ns h k = small-ten (term_at ns x) (λ i. go i (ltb i 9))
    where
      falls : Bool
      falls = lt_z (at ns x) (pos 0)

      go : (i : ℕ) (b : Bool) → Within (cond b t a) (cond b (turned (Bool.not falls) (left_at ns x i)) (turned falls (at ns x)))
      go i true = in-turned (Bool.not falls) (k i)
      go i false = in-turned falls h

  mutual
    unfolding gather

    gather-small : (d : ℕ) (g : Formula) → Pushed d g → Bounded x a t g → (us : List (List ℤ)) → AllSmall a t us → AllSmall a t (gather x g us)
    gather-small d (atom c ns) w b us s = go (is_zero (at ns x)) refl
      where
        go : (z : Bool) → is_zero (at ns x) ≡ z → AllSmall a t (cond z us (insert (term_of ns x) us))
        go true e = s
        go false e = insert-small (term-small ns (record { size = (b e).0 }) (λ i. record { size = (b e).1 i })) us s
    gather-small d (not g) w b us s = absurd w
    gather-small d (list k gs) w b us s = gather_all-small (d - 1) gs w.2 b us s
    gather-small d (quant k v g) w b us s = absurd w
    gather-small d (window v lo hi) w b us s = absurd w

    gather_all-small : (d : ℕ) (gs : Formulas) → AllPushed d gs → AllBounded x a t gs → (us : List (List ℤ)) → AllSmall a t us → AllSmall a t (gather_all x gs us)
    gather_all-small d none w b us s = s
    gather_all-small d (more g gs) w b us s = gather_all-small d gs w.1 b.1 (gather x g us) (gather-small d g w.0 b.0 us s)

  -- ---- a point at which each number fits: its own, and those of each bounded atom

  record Fine (q : Spot) : Type 0 where
    spot : spot_fits q ≡ true
    atoms : (c : Comparison) (ns : List ℤ) → InRange (atom_l c ns) → Bounded x a t (atom c ns) → fitting (atom_at q c ns) ≡ true

  -- far out an atom with x is decided
  far-fits : (c : Comparison) (ns : List ℤ) (o : Bool) → InRange (atom_l c ns) → fitting (cond (is_zero (at ns x)) (settled c ns) (sure o)) ≡ true
  far-fits c ns o w = either-fits (is_zero (at ns x)) (settled c ns) (sure o) (settled-fits c ns w) (λ _. refl)

  below-fine : Fine (below x)
  unfolding atom_at
  below-fine = record { spot = refl; atoms = λ c ns w b. far-fits c ns (far_of c (Bool.not (lt_z (at ns x) (pos 0)))) w }

  above-fine : Fine (above x)
  unfolding atom_at
  above-fine = record { spot = refl; atoms = λ c ns w b. far-fits c ns (far_of c (lt_z (at ns x) (pos 0))) w }

  module _ (r : Room a t) where
    -- a·n + d·t, with n and d of a midpoint
    point-range : (c : Comparison) (ns n : List ℤ) → Small (2 * a * a) (t * a + t * a) n → Within a (at ns x) → ((i : ℕ) → Within t (left_at ns x i))
        → InRange (atom_l c (point_of ns x n))
    unfolding point_of point_at
    point-range c ns n s h k =
        (length-tab 9 (point_at ns x n), each-all_m (point_of ns x n) (record { at = in-tab 9 (point_at ns x n) (λ _. M) number }))
      where
        number : (i : ℕ) → i < 9 → Within M (point_at ns x n i)
        number i l = in-more (in-+ (in-* h (above-line s i (lt-ltb i 9 l))) (in-* (below-line s) (k i))) r.sum

    here-fine : (n : List ℤ) → Small (2 * a * a) (t * a + t * a) n → Fine (here x n)
    unfolding atom_at
    here-fine n s = record {
      spot = each_all (small-each s r.bottom r.top);
      atoms = λ c ns w b. either-fits (is_zero (at ns x)) (settled c ns) (settled c (point_of ns x n)) (settled-fits c ns w)
          (λ e. settled-fits c (point_of ns x n) (point-range c ns n s (record { size = (b e).0 }) (λ i. record { size = (b e).1 i })));
    }

  -- ---- a pushed body at such a point, and at all points

  mutual
    unfolding fits

    body-fits : (q : Spot) → Fine q → (d : ℕ) (g : Formula) → Pushed d g → Bounded x a t g → fits q g ≡ true
    body-fits q p d (atom c ns) w b = p.atoms c ns w.1 b
    body-fits q p d (not g) w b = absurd w
    body-fits q p d (list k gs) w b = bodies-fit q p (d - 1) gs w.2 b
    body-fits q p d (quant k v g) w b = absurd w
    body-fits q p d (window v lo hi) w b = absurd w

    bodies-fit : (q : Spot) → Fine q → (d : ℕ) (gs : Formulas) → AllPushed d gs → AllBounded x a t gs → fit_all q gs ≡ true
    bodies-fit q p d none w b = refl
    bodies-fit q p d (more g gs) w b = ap₂ ◌&&◌ (body-fits q p d g w.0 b.0) (bodies-fit q p d gs w.1 b.1)

  module _ (r : Room a t) (d : ℕ) (g : Formula) (w : Pushed d g) (b : Bounded x a t g) where
    one_more : (q : Spot) (qs : List Spot) → Fine q → numbers_fit qs g ≡ true → numbers_fit (q ∷ qs) g ≡ true
    unfolding numbers_fit
    one_more q qs p h = ap₂ ◌&&◌ (ap₂ ◌&&◌ p.spot (body-fits q p d g w b)) h

    midpoints-fit : (u : List ℤ) (us : List (List ℤ)) (qs : List Spot) → Small a t u → AllSmall a t us → numbers_fit qs g ≡ true → numbers_fit (midpoints x u us ++ qs) g ≡ true
    unfolding midpoints
    midpoints-fit u [] qs p s h = h
    midpoints-fit u (v ∷ us) qs p s h =
        one_more (here x (midpoint u v)) (midpoints x u us ++ qs) (here-fine r (midpoint u v) (small-mid p s.0)) (midpoints-fit u us qs p s.1 h)

    all-midpoints-fit : (us : List (List ℤ)) → AllSmall a t us → numbers_fit (all_midpoints x us) g ≡ true
    unfolding all_midpoints numbers_fit
    all-midpoints-fit [] s = refl
    all-midpoints-fit (u ∷ us) s = midpoints-fit u (u ∷ us) (all_midpoints x us) s.0 s (all-midpoints-fit us s.1)

    points-fit : (us : List (List ℤ)) → AllSmall a t us → numbers_fit (points x us) g ≡ true
    unfolding points numbers_fit
    points-fit [] s = one_more (below x) [] below-fine refl
    points-fit (u ∷ us) s =
        one_more (below x) (above x ∷ all_midpoints x (u ∷ us)) below-fine (one_more (above x) (all_midpoints x (u ∷ us)) above-fine (all-midpoints-fit (u ∷ us) s))

-- no number of a tame step leaves −M..M
pub tame-fits : (x a t d : ℕ) (f : Formula) → Free f → Fits d f → x < variables → Bounded x a t f → tame a t ≡ true
    → numbers_fit (points x (terms x f)) (push false f) ≡ true
unfolding terms
tame-fits x a t d f h w low b e =
    let p = push-fits false (suc d) f (fits-wide f d w) h in
    let k = push-bounded x a t low false f h b in
    let g = push false f in
    subst (λ (us : List (List ℤ)). numbers_fit (points x us) g ≡ true) (gather-pushed x low false f [])
    (points-fit x a t (room a t e) (suc d) g p k (gather x g []) (gather-small x a t (suc d) g p k [] tt))
