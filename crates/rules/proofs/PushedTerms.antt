-- 01, 'Boundary terms', speaks of the body after NOT is pushed inward; `gather` takes the body as it stands. Both give the same terms in the same order:
-- an atom and its negation have one term, EQUAL under NOT gives it twice and the second is not taken again, a WINDOW's two atoms give lo, then hi.
-- That holds of every formula; x is to be one of the eight variables. Assumes nothing.
use Prim.Native.Nat.{ℕ, ◌<◌}
use mathlib.Core.Path.{◌≡◌, refl, sym, ◌∙◌, ap, ap₂, subst}
use mathlib.Core.Bool.{Bool, true, false, cond}
use mathlib.Core.Bool as Bool
use mathlib.Core.List.{List, [], ◌∷◌}
use lib.Dec.{eqb}
use lib.IntN.{ℤ, pos, neg_ℤ, neg_ℤ-neg_ℤ}
use borrow.Author.Tests.{eqb-true, eqb-false}
use Rattle.reading.specs.Limits.{variables}
use Rattle.reading.specs.Formula.{Comparison, less, atmost, equal, Formula, Formulas, atom, not, list, quant, window, none, more}
use Rattle.exact.specs.Numbers.{at, is_zero, same_row, minus, single}
use Rattle.exact.specs.Terms.{turned, term_of, bound_of}
use Rattle.exact.proofs.Sizes.{abs_neg}
use Rattle.exact.proofs.Rows.{at-minus, same_self, single-here, single-else}
use Rattle.exact.proofs.Terms.{term-minus, term-single}
use Rattle.rules.specs.Pushing.{push_atom, push_window, denied, push, pushs}
use Rattle.rules.specs.Points.{insert, gather, gather_all}

-- a term that is there is not taken again
insert-again : (t : List ℤ) (us : List (List ℤ)) → insert t (insert t us) ≡ insert t us
unfolding insert
insert-again t [] = ap (λ (b : Bool). t ∷ cond b [] (t ∷ [])) (same_self t)
insert-again t (u ∷ us) = go (same_row u t) refl (insert-again t us)
  where
    go : (b : Bool) → same_row u t ≡ b → insert t (insert t us) ≡ insert t us → insert t (u ∷ cond b us (insert t us)) ≡ u ∷ cond b us (insert t us)
    go true e h = ap (λ (c : Bool). u ∷ cond c us (insert t us)) e
    go false e h = ap₂ (λ (c : Bool) (l : List (List ℤ)). u ∷ cond c (insert t us) l) e h

module _ (x : ℕ) where
  -- the terms ts, and that of an atom
  abbrev from_atom : List ℤ → List (List ℤ) → List (List ℤ)
  from_atom ns ts = cond (is_zero (at ns x)) ts (insert (term_of ns x) ts)

  -- an atom and its negation
  minus-same : (ns : List ℤ) (ts : List (List ℤ)) → from_atom (minus ns) ts ≡ from_atom ns ts
  minus-same ns ts = ap (λ (b : Bool). cond b ts (insert (term_of (minus ns) x) ts)) zero ∙ go (is_zero (at ns x)) refl
    where
      zero : is_zero (at (minus ns) x) ≡ is_zero (at ns x)
      zero = ap is_zero (at-minus ns x) ∙ ap (λ (n : ℕ). eqb n 0) (abs_neg (at ns x))

      go : (b : Bool) → is_zero (at ns x) ≡ b → cond b ts (insert (term_of (minus ns) x) ts) ≡ cond b ts (insert (term_of ns x) ts)
      go true e = refl
      go false e = ap (λ (t : List ℤ). insert t ts) (term-minus ns x e)

  twice_same : (ns : List ℤ) (ts : List (List ℤ)) → from_atom ns (from_atom ns ts) ≡ from_atom ns ts
  twice_same ns ts = go (is_zero (at ns x))
    where
      go : (b : Bool) → cond b (cond b ts (insert (term_of ns x) ts)) (insert (term_of ns x) (cond b ts (insert (term_of ns x) ts))) ≡ cond b ts (insert (term_of ns x) ts)
      go true = refl
      go false = insert-again (term_of ns x) ts

  push_atom-same : (neg : Bool) (c : Comparison) (ns : List ℤ) (ts : List (List ℤ)) → gather x (push_atom neg c ns) ts ≡ gather x (atom c ns) ts
  unfolding gather
  push_atom-same false c ns ts = refl
  push_atom-same true less ns ts = minus-same ns ts
  push_atom-same true atmost ns ts = minus-same ns ts
  push_atom-same true equal ns ts = minus-same ns (from_atom ns ts) ∙ twice_same ns ts

  module _ (low : x < variables) where
    -- one atom of a WINDOW: v + c, or −v + c
    bound-same : (v : ℕ) (s : Bool) (c : ℤ) (ts : List (List ℤ))
        → from_atom (single v (turned s (pos 1)) c) ts ≡ cond (eqb v x) (insert (bound_of (turned (Bool.not s) c)) ts) ts
    bound-same v s c ts = go (eqb v x) refl
      where
        ns : List ℤ
        ns = single v (turned s (pos 1)) c

        occurs : (s : Bool) → is_zero (turned s (pos 1)) ≡ false
        occurs true = refl
        occurs false = refl

        here : from_atom (single x (turned s (pos 1)) c) ts ≡ insert (bound_of (turned (Bool.not s) c)) ts
        here = ap₂ (λ (b : Bool) (t : List ℤ). cond b ts (insert t ts)) (ap is_zero (single-here x (turned s (pos 1)) c low) ∙ occurs s) (term-single x s c low)

        go : (b : Bool) → eqb v x ≡ b → from_atom ns ts ≡ cond b (insert (bound_of (turned (Bool.not s) c)) ts) ts
        go true e = subst (λ (u : ℕ). from_atom (single u (turned s (pos 1)) c) ts ≡ insert (bound_of (turned (Bool.not s) c)) ts) (sym (eqb-true v x e)) here
        go false e = ap (λ (z : ℤ). cond (is_zero z) ts (insert (term_of ns x) ts)) (single-else x v (turned s (pos 1)) c low (eqb-false v x e))

    -- v − c
    above_same : (v : ℕ) (c : ℤ) (ts : List (List ℤ)) → from_atom (single v (pos 1) (neg_ℤ c)) ts ≡ cond (eqb v x) (insert (bound_of c) ts) ts
    above_same v c ts = bound-same v false (neg_ℤ c) ts ∙ ap (λ (z : ℤ). cond (eqb v x) (insert (bound_of z) ts) ts) (neg_ℤ-neg_ℤ c)

    both : (b : Bool) (t u : List ℤ) (ts : List (List ℤ)) → cond b (insert u (cond b (insert t ts) ts)) (cond b (insert t ts) ts) ≡ cond b (insert u (insert t ts)) ts
    both true t u ts = refl
    both false t u ts = refl

    push_window-same : (neg : Bool) (v : ℕ) (lo hi : ℤ) (ts : List (List ℤ)) → gather x (push_window neg v lo hi) ts ≡ gather x (window v lo hi) ts
    unfolding gather
    push_window-same false v lo hi ts =
        above_same v hi _ ∙ ap (λ (us : List (List ℤ)). cond (eqb v x) (insert (bound_of hi) us) us) (bound-same v true lo ts)
        ∙ both (eqb v x) (bound_of lo) (bound_of hi) ts
    push_window-same true v lo hi ts =
        bound-same v true hi _ ∙ ap (λ (us : List (List ℤ)). cond (eqb v x) (insert (bound_of hi) us) us) (above_same v lo ts)
        ∙ both (eqb v x) (bound_of lo) (bound_of hi) ts

    denied-same : (neg : Bool) (f : Formula) (ts : List (List ℤ)) → gather x (denied neg f) ts ≡ gather x f ts
    unfolding gather
    denied-same false f ts = refl
    denied-same true f ts = refl

    -- pushing changes neither the terms nor their order
    mutual
      unfolding gather push

      pub gather-pushed : (neg : Bool) (f : Formula) (ts : List (List ℤ)) → gather x (push neg f) ts ≡ gather x f ts
      gather-pushed neg (atom c ns) ts = push_atom-same neg c ns ts
      gather-pushed neg (not f) ts = gather-pushed (Bool.not neg) f ts
      gather-pushed neg (list b fs) ts = gather_all-pushed neg fs ts
      gather-pushed neg (quant b v f) ts = denied-same neg (quant b v f) ts
      gather-pushed neg (window v lo hi) ts = push_window-same neg v lo hi ts

      pub gather_all-pushed : (neg : Bool) (fs : Formulas) (ts : List (List ℤ)) → gather_all x (pushs neg fs) ts ≡ gather_all x fs ts
      gather_all-pushed neg none ts = refl
      gather_all-pushed neg (more f fs) ts = gather_all-pushed neg fs (gather x (push neg f) ts) ∙ ap (gather_all x fs) (gather-pushed neg f ts)
