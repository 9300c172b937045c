-- No result speaks of a variable that the sheet does not: what is free after a step, after the finishing pass and in the condition that is
-- delivered is free in the sheet. Below, `Absent` is what `FreeIn` denies, and a row is without v when its number v is 0.
use Prim.Native.Nat.{ℕ, zero, suc, ◌≤◌}
use mathlib.Core.Path.{◌≡◌, refl, sym, ◌∙◌, ap, ap₂, subst}
use mathlib.Core.Logic.{◌⊎◌, inl, inr}
use mathlib.Core.Bool as Bool
use mathlib.Core.Bool.{Bool, true, false, cond}
use mathlib.Core.List.{List, [], ◌∷◌, map}
use native.Mathlib.Omega.{arith}
use native.Mathlib.Decide.{ℕ_discrete}
use lib.Dec.{eqb}
use lib.IntN.{ℤ, pos, neg_ℤ, ℤ_discrete, ◌+ℤ◌, ◌*ℤ◌, *ℤ-zero, zero-*ℤ}
use lib.Signed.{lt_z}
use Rattle.reading.specs.Limits.{last_variable}
use Rattle.reading.specs.Formula.{Comparison, Formula, Formulas, atom, not, list, quant, window, none, more, Free, AllFree}
use borrow.Author.Tests.{ne_eqb}
use Rattle.exact.specs.Numbers.{at, is_zero, minus, single}
use Rattle.exact.specs.Divisor.{reduced}
use Rattle.exact.specs.Terms.{left_at, turned, term_at, term_of, bound_of, mid_at, mid_of, midpoint}
use Rattle.exact.specs.Atoms.{Came, sure, new, holds, no_variable, settled, Spot, nowhere, below, above, here, point_at, point_of, atom_at}
use Rattle.exact.proofs.Sizes.{zero_of}
use Rattle.exact.proofs.Order.{sgn, sgn-O, sgn-null}
use Rattle.exact.proofs.Rows.{at-tab, at-minus, single-else}
use Rattle.exact.proofs.Reduced.{sgn-reduced}
use Rattle.exact.proofs.Terms.{left_out, term-low, mid-low, at_bound}
use Rattle.exact.proofs.Atoms.{point-is}
use Rattle.rules.specs.Pushing.{push, pushs}
use Rattle.rules.specs.Copies.{atom_by, copy}
use Rattle.rules.specs.Points.{gather, gather_all, terms, points}
use Rattle.rules.specs.Steps.{copies, replacement, quantifiers, all_quantifiers, if_none, step, step_in, steps}
use Rattle.rules.specs.Eliminate.{finished, result_of}
use Rattle.rules.specs.Variables.{FreeIn, FreeInAny}
use Rattle.meaning.proofs.Points.TestPoints.{Pt, test_points, Every, every-pick, every-point}
use Rattle.meaning.proofs.Truth.{EachRow, EachRowIn}
use Rattle.meaning.proofs.Keeps.Pushing.{push_atom-rows, push_window-rows}
use Rattle.meaning.proofs.Keeps.Lists.{listed-rows}
use Rattle.meaning.proofs.Keeps.Terms.{every-insert}
use Rattle.meaning.proofs.Keeps.Copies.{spot, points-spots, copy-rows}
use Rattle.rules.proofs.Stepwise.Around.{zero-free}
use Rattle.rules.proofs.Stepwise.Run.{steps-free}

-- ---- number v of the rows that are made

abbrev pub Without : ℕ → List ℤ → Type 0
Without v ns = at ns v ≡ pos 0

minus-without : (v : ℕ) (ns : List ℤ) → Without v ns → Without v (minus ns)
minus-without v ns h = at-minus ns v ∙ ap neg_ℤ h

single-without : (v u : ℕ) (a c : ℤ) → v ≤ last_variable → ¬ (v ≡ u) → Without v (single u a c)
single-without v u a c l n = single-else v u a c (omega arith) (λ e. n (sym e))

reduced-without : (v : ℕ) (ns : List ℤ) → Without v ns → Without v (reduced ns)
reduced-without v ns h = sgn-null (at (reduced ns) v) (sgn-reduced ns v ∙ ap sgn h ∙ sgn-O)

cond-zero : (b : Bool) (z : ℤ) → z ≡ pos 0 → cond b (pos 0) z ≡ pos 0
cond-zero true z h = refl
cond-zero false z h = h

turned_zero : (b : Bool) (z : ℤ) → z ≡ pos 0 → turned b z ≡ pos 0
turned_zero true z h = ap neg_ℤ h
turned_zero false z h = h

-- what is left of a row without its x says nothing of x
left-zero : (v x : ℕ) (ns : List ℤ) → (v ≡ x) ⊎ Without v ns → left_at ns x v ≡ pos 0
unfolding left_at
left-zero v x ns (inl e) = sym (left_out ns x v e)
left-zero v x ns (inr h) = cond-zero (eqb v x) (at ns v) h

term-without : (v x : ℕ) (ns : List ℤ) → v ≤ last_variable → (v ≡ x) ⊎ Without v ns → Without v (term_of ns x)
unfolding term_of
term-without v x ns l h =
    reduced-without v _ (at-tab 10 (term_at ns x) v (omega arith) ∙ sym (term-low ns x v (omega arith)) ∙ turned_zero (Bool.not (lt_z (at ns x) (pos 0))) (left_at ns x v) (left-zero v x ns h))

bound-without : (v : ℕ) (c : ℤ) → v ≤ last_variable → Without v (bound_of c)
bound-without v c l =
    at_bound c v (omega arith) ∙ ap₂ (λ (a b : Bool). cond a (pos 1) (cond b c (pos 0))) (ne_eqb v 9 (λ e. absurd (omega arith))) (ne_eqb v 8 (λ e. absurd (omega arith)))

mid-without : (v : ℕ) (t u : List ℤ) → v ≤ last_variable → Without v t → Without v u → Without v (midpoint t u)
unfolding midpoint mid_of
mid-without v t u l h k =
    reduced-without v _ (at-tab 10 (mid_at t u) v (omega arith) ∙ sym (mid-low t u v (omega arith)) ∙ ap₂ (λ (y z : ℤ). y *ℤ at u 9 +ℤ z *ℤ at t 9) h k ∙ ap₂ ◌+ℤ◌ (zero-*ℤ (at u 9)) (zero-*ℤ (at t 9)))

point-without : (v x : ℕ) (ns n : List ℤ) → v ≤ last_variable → (v ≡ x) ⊎ Without v ns → Without v n → Without v (point_of ns x n)
unfolding point_of
point-without v x ns n l h k =
    at-tab 9 (point_at ns x n) v (omega arith) ∙ sym (point-is ns x n v) ∙ ap₂ (λ (y z : ℤ). at ns x *ℤ y +ℤ at n 9 *ℤ z) k (left-zero v x ns h) ∙ ap₂ ◌+ℤ◌ (*ℤ-zero (at ns x)) (*ℤ-zero (at n 9))

-- ---- a variable that is not free

abbrev mutual
  pub Absent : ℕ → Formula → Type 0
  Absent v (atom c ns) = Without v ns
  Absent v (not f) = Absent v f
  Absent v (list b fs) = AbsentAll v fs
  Absent v (quant b u f) = (v ≡ u) ⊎ Absent v f
  Absent v (window u lo hi) = ¬ (v ≡ u)

  pub AbsentAll : ℕ → Formulas → Type 0
  AbsentAll v none = Unit {0}
  AbsentAll v (more f fs) = Absent v f × AbsentAll v fs

-- a variable is absent or free, and not both
atom-either : (z : ℤ) → Dec (z ≡ pos 0) → (z ≡ pos 0) ⊎ (¬ (z ≡ pos 0))
atom-either z (yes e) = inl e
atom-either z (no n) = inr n

quant-either : (v u : ℕ) (A F : Type 0) → Dec (v ≡ u) → A ⊎ F → ((v ≡ u) ⊎ A) ⊎ ((¬ (v ≡ u)) × F)
quant-either v u A F (yes e) h = inl (inl e)
quant-either v u A F (no n) (inl h) = inl (inr h)
quant-either v u A F (no n) (inr h) = inr (n, h)

window-either : (v u : ℕ) → Dec (v ≡ u) → (¬ (v ≡ u)) ⊎ (v ≡ u)
window-either v u (yes e) = inr e
window-either v u (no n) = inl n

more-either : (A F B G : Type 0) → A ⊎ F → B ⊎ G → (A × B) ⊎ (F ⊎ G)
more-either A F B G (inl a) (inl b) = inl (a, b)
more-either A F B G (inl a) (inr g) = inr (inr g)
more-either A F B G (inr f) h = inr (inl f)

mutual
  pub absent-or-free : (v : ℕ) (f : Formula) → Absent v f ⊎ FreeIn v f
  absent-or-free v (atom c ns) = atom-either (at ns v) (ℤ_discrete (at ns v) (pos 0))
  absent-or-free v (not f) = absent-or-free v f
  absent-or-free v (list b fs) = all-absent-or-free v fs
  absent-or-free v (quant b u f) = quant-either v u (Absent v f) (FreeIn v f) (ℕ_discrete v u) (absent-or-free v f)
  absent-or-free v (window u lo hi) = window-either v u (ℕ_discrete v u)

  all-absent-or-free : (v : ℕ) (fs : Formulas) → AbsentAll v fs ⊎ FreeInAny v fs
  all-absent-or-free v none = inl tt
  all-absent-or-free v (more f fs) = more-either (Absent v f) (FreeIn v f) (AbsentAll v fs) (FreeInAny v fs) (absent-or-free v f) (all-absent-or-free v fs)

mutual
  absent-not-free : (v : ℕ) (f : Formula) → Absent v f → FreeIn v f → ⊥
  absent-not-free v (atom c ns) h k = k h
  absent-not-free v (not f) h k = absent-not-free v f h k
  absent-not-free v (list b fs) h k = all-absent-not-free v fs h k
  absent-not-free v (quant b u f) (inl e) k = k.0 e
  absent-not-free v (quant b u f) (inr h) k = absent-not-free v f h k.1
  absent-not-free v (window u lo hi) h k = h k

  all-absent-not-free : (v : ℕ) (fs : Formulas) → AbsentAll v fs → FreeInAny v fs → ⊥
  all-absent-not-free v none h k = k
  all-absent-not-free v (more f fs) h (inl k) = absent-not-free v f h.0 k
  all-absent-not-free v (more f fs) h (inr k) = all-absent-not-free v fs h.1 k

-- what keeps v out frees nothing
no-freer : (v : ℕ) (f g : Formula) → (Absent v f → Absent v g) → FreeIn v g → FreeIn v f
no-freer v f g keeps h = go (absent-or-free v f)
  where
    go : Absent v f ⊎ FreeIn v f → FreeIn v f
    go (inl a) = absurd (absent-not-free v g (keeps a) h)
    go (inr k) = k

-- in atoms and lists whose rows are without v it is absent
mutual
  rows-absent : (v : ℕ) (f : Formula) → EachRow (Without v) f → Absent v f
  rows-absent v (atom c ns) h = h
  rows-absent v (not f) h = absurd h
  rows-absent v (list b fs) h = all-rows-absent v fs h
  rows-absent v (quant b u f) h = absurd h
  rows-absent v (window u lo hi) h = absurd h

  all-rows-absent : (v : ℕ) (fs : Formulas) → EachRowIn (Without v) fs → AbsentAll v fs
  all-rows-absent v none h = tt
  all-rows-absent v (more f fs) h = (rows-absent v f h.0, all-rows-absent v fs h.1)

-- ---- pushing: each row of the pushed formula is without v, or P

abbrev pub Or : Type 0 → ℕ → List ℤ → Type 0
Or P v ns = P ⊎ Without v ns

or_map : (P A B : Type 0) → (A → B) → P ⊎ A → P ⊎ B
or_map P A B f (inl p) = inl p
or_map P A B f (inr a) = inr (f a)

or-both : (P A B : Type 0) → P ⊎ (A × B) → (P ⊎ A) × (P ⊎ B)
or-both P A B (inl p) = (inl p, inl p)
or-both P A B (inr h) = (inr h.0, inr h.1)

module _ (P : Type 0) (v : ℕ) (l : v ≤ last_variable) where
  mutual
    unfolding push

    pub push-rows : (neg : Bool) (f : Formula) → Free f → P ⊎ Absent v f → EachRow (Or P v) (push neg f)
    push-rows neg (atom c ns) q h = push_atom-rows (Or P v) (λ ns. or_map P _ _ (minus-without v ns)) neg c ns h
    push-rows neg (not f) q h = push-rows (Bool.not neg) f q h
    push-rows neg (list b fs) q h = push-all-rows neg fs q h
    push-rows neg (quant b u f) q h = absurd q
    push-rows neg (window u lo hi) q h = push_window-rows (Or P v) neg u lo hi (λ a c. or_map P _ _ (single-without v u a c l) h)

    push-all-rows : (neg : Bool) (fs : Formulas) → AllFree fs → P ⊎ AbsentAll v fs → EachRowIn (Or P v) (pushs neg fs)
    push-all-rows neg none q h = tt
    push-all-rows neg (more f fs) q h = (push-rows neg f q.0 (or-both P (Absent v f) (AbsentAll v fs) h).0, push-all-rows neg fs q.1 (or-both P (Absent v f) (AbsentAll v fs) h).1)

-- ---- boundary terms

module _ (v x : ℕ) (l : v ≤ last_variable) where
  mutual
    unfolding gather

    gather-without : (f : Formula) (ts : List (List ℤ)) → (v ≡ x) ⊎ Absent v f → Every (Without v) ts → Every (Without v) (gather x f ts)
    gather-without (atom c ns) ts h k = every-pick (Without v) (is_zero (at ns x)) ts _ k (every-insert (Without v) (term_of ns x) ts (term-without v x ns l h) k)
    gather-without (not f) ts h k = gather-without f ts h k
    gather-without (list b fs) ts h k = gather-all-without fs ts h k
    gather-without (quant b u f) ts h k = k
    gather-without (window u lo hi) ts h k =
        every-pick (Without v) (eqb u x) _ ts (every-insert (Without v) (bound_of hi) _ (bound-without v hi l) (every-insert (Without v) (bound_of lo) ts (bound-without v lo l) k)) k

    gather-all-without : (fs : Formulas) (ts : List (List ℤ)) → (v ≡ x) ⊎ AbsentAll v fs → Every (Without v) ts → Every (Without v) (gather_all x fs ts)
    gather-all-without none ts h k = k
    gather-all-without (more f fs) ts h k =
        let both = or-both (v ≡ x) (Absent v f) (AbsentAll v fs) h in
        gather-all-without fs (gather x f ts) both.1 (gather-without f ts both.0 k)

-- ---- points: at such a spot a row with P loses v

abbrev Clears : Type 0 → ℕ → Spot → Type 0
Clears P v nowhere = ¬ P
Clears P v (below x) = P → v ≡ x
Clears P v (above x) = P → v ≡ x
Clears P v (here x n) = (P → v ≡ x) × Without v n

points-clear : (v x : ℕ) (ts : List (List ℤ)) → v ≤ last_variable → Every (Without v) ts → Every (λ (y : Pt (List ℤ)). Clears (v ≡ x) v (spot x y)) (test_points midpoint ts)
points-clear v x ts l k =
    every-point midpoint (λ (y : Pt (List ℤ)). Clears (v ≡ x) v (spot x y)) ts (λ e. e) (λ e. e) (λ t u m n. (λ e. e, mid-without v t u l (k t m) (k u n)))

-- ---- copies

abbrev CameWithout : ℕ → Came → Type 0
CameWithout v (sure b) = Unit {0}
CameWithout v (new ns) = Without v ns

came-rows : (v : ℕ) (r : Came) (c : Comparison) → CameWithout v r → EachRow (Without v) (atom_by r c)
came-rows v (sure b) c h = tt
came-rows v (new ns) c h = h

settled-without : (v : ℕ) (c : Comparison) (ns : List ℤ) → Without v ns → CameWithout v (settled c ns)
unfolding settled
settled-without v c ns h = go (no_variable ns)
  where
    go : (b : Bool) → CameWithout v (cond b (sure (holds c (at ns 8))) (new (reduced ns)))
    go true = tt
    go false = reduced-without v ns h

module _ (P : Type 0) (v : ℕ) (l : v ≤ last_variable) where
  -- a row whose number x is 0 is without v also where v is x
  own-without : (x : ℕ) (ns : List ℤ) → is_zero (at ns x) ≡ true → (P → v ≡ x) → Or P v ns → Without v ns
  own-without x ns e own (inl p) = ap (at ns) (own p) ∙ zero_of (at ns x) e
  own-without x ns e own (inr h) = h

  own-or : (x : ℕ) (ns : List ℤ) → (P → v ≡ x) → Or P v ns → (v ≡ x) ⊎ Without v ns
  own-or x ns own (inl p) = inl (own p)
  own-or x ns own (inr h) = inr h

  far-without : (x : ℕ) (c : Comparison) (ns : List ℤ) (far : Came) (b : Bool) → is_zero (at ns x) ≡ b → (P → v ≡ x) → Or P v ns → CameWithout v far → CameWithout v (cond b (settled c ns) far)
  far-without x c ns far true e own h k = settled-without v c ns (own-without x ns e own h)
  far-without x c ns far false e own h k = k

  atom-without : (q : Spot) (c : Comparison) (ns : List ℤ) → Clears P v q → Or P v ns → CameWithout v (atom_at q c ns)
  unfolding atom_at
  atom-without nowhere c ns q (inl p) = absurd (q p)
  atom-without nowhere c ns q (inr h) = settled-without v c ns h
  atom-without (below x) c ns q h = far-without x c ns _ (is_zero (at ns x)) refl q h tt
  atom-without (above x) c ns q h = far-without x c ns _ (is_zero (at ns x)) refl q h tt
  atom-without (here x n) c ns q h =
      far-without x c ns _ (is_zero (at ns x)) refl q.0 h (settled-without v c (point_of ns x n) (point-without v x ns n l (own-or x ns q.0 h) q.1))

  copy-without : (q : Spot) (f : Formula) → Clears P v q → EachRow (Or P v) f → EachRow (Without v) (copy q f)
  copy-without q f k h = copy-rows q (Or P v) (Without v) (λ c ns r. came-rows v (atom_at q c ns) c (atom-without q c ns k r)) f h

  copies-without : (x : ℕ) (ys : List (Pt (List ℤ))) (f : Formula) → Every (λ (y : Pt (List ℤ)). Clears P v (spot x y)) ys → EachRow (Or P v) f → EachRowIn (Without v) (copies (map (spot x) ys) f)
  unfolding copies
  copies-without x [] f k h = tt
  copies-without x (y ∷ ys) f k h = (copy-without (spot x y) f (k y (inl refl)) h, copies-without x ys f (λ z m. k z (inr m)) h)

-- ---- one step, the run, the finishing pass

replacement-absent : (b : Bool) (x v : ℕ) (f : Formula) → v ≤ last_variable → Free f → (v ≡ x) ⊎ Absent v f → Absent v (replacement b x f)
unfolding replacement terms
replacement-absent b x v f l q h =
    let ts = terms x f in
    let clear = points-clear v x ts l (gather-without v x l f [] h (λ b m. absurd m)) in
    let rows = copies-without (v ≡ x) v l x (test_points midpoint ts) (push false f) clear (push-rows (v ≡ x) v l false f q h) in
    rows-absent v (replacement b x f) (listed-rows (Without v) b (copies (points x ts) (push false f))
    (subst (λ (qs : List Spot). EachRowIn (Without v) (copies qs (push false f))) (sym (points-spots x ts)) rows))

quant-absent : (b : Bool) (x v : ℕ) (f g : Formula) (n : ℕ) → v ≤ last_variable → quantifiers f ≡ n → (Absent v f → Absent v g) → (v ≡ x) ⊎ Absent v f → Absent v (if_none n (replacement b x f) (quant b x g))
quant-absent b x v f g zero l e keeps h = replacement-absent b x v f l (zero-free f e) h
quant-absent b x v f g (suc n) l e keeps h = or_map (v ≡ x) (Absent v f) (Absent v g) keeps h

more-absent : (v : ℕ) (f g : Formula) (fs gs : Formulas) (n : ℕ) → Absent v f → AbsentAll v fs → Absent v g → AbsentAll v gs → AbsentAll v (if_none n (more g fs) (more f gs))
more-absent v f g fs gs zero hf hfs hg hgs = (hg, hfs)
more-absent v f g fs gs (suc n) hf hfs hg hgs = (hf, hgs)

mutual
  unfolding step

  step-absent : (v : ℕ) (f : Formula) → v ≤ last_variable → Absent v f → Absent v (step f)
  step-absent v (atom c ns) l h = h
  step-absent v (not f) l h = step-absent v f l h
  step-absent v (list b fs) l h = step-in-absent v fs l h
  step-absent v (quant b x f) l h = quant-absent b x v f (step f) (quantifiers f) l refl (λ a. step-absent v f l a) h
  step-absent v (window u lo hi) l h = h

  step-in-absent : (v : ℕ) (fs : Formulas) → v ≤ last_variable → AbsentAll v fs → AbsentAll v (step_in fs)
  step-in-absent v none l h = tt
  step-in-absent v (more f fs) l h = more-absent v f (step f) fs (step_in fs) (all_quantifiers fs) h.0 h.1 (step-absent v f l h.0) (step-in-absent v fs l h.1)

pub steps-absent : (n v : ℕ) (f : Formula) → v ≤ last_variable → Absent v f → Absent v (steps n f)
steps-absent zero v f l h = h
steps-absent (suc n) v f l h = steps-absent n v (step f) l (step-absent v f l h)

finished-absent : (v : ℕ) (f : Formula) → v ≤ last_variable → Free f → Absent v f → Absent v (finished f)
unfolding finished
finished-absent v f l q h = rows-absent v (finished f) (copy-without ⊥ v l nowhere (push false f) (λ e. e) (push-rows ⊥ v l false f q (inr h)))

result-absent : (v : ℕ) (f : Formula) → v ≤ last_variable → Absent v f → Absent v (result_of f)
unfolding result_of
result-absent v f l h = finished-absent v (steps (quantifiers f) f) l (steps-free (quantifiers f) f refl) (steps-absent (quantifiers f) v f l h)

-- ---- no result's free variables are other than the sheet's

pub result-free-in : (f : Formula) (v : ℕ) → v ≤ last_variable → FreeIn v (result_of f) → FreeIn v f
result-free-in f v l = no-freer v f (result_of f) (result-absent v f l)
