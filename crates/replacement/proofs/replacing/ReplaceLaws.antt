-- The copies of a body at all points: the code's tally of them is 01's list of the copies under the list rule, and it is over exactly where a number
-- does not fit (`tally-is`). Then what stands in the output once that list is closed, and what gathering found. Assumes nothing.
use mathlib.Core.Path.{◌≡◌, refl, sym, ◌∙◌, ap, subst}
use mathlib.Core.Bool.{Bool, true, false, ◌&&◌, cond}
use mathlib.Core.List.{List, [], ◌∷◌}
use Prim.Native.Nat.{ℕ, ◌+◌, ◌*◌, ◌≤◌, ◌<◌}
use native.Mathlib.Omega.{arith}
use Rattle.std.specs.Prelude.{Ok, Err}
use lib.IntN.{ℤ}
use lib.ListN.{length, take, length-append}
use Rattle.reading.specs.Limits.{result_bytes}
use Rattle.reading.specs.Formula.{Formula, Formulas, list, none, more, count, encode, encodes, record_bytes, field_bytes}
use Rattle.exact.specs.Atoms.{Spot}
use Rattle.rules.specs.Pushing.{push}
use Rattle.rules.specs.Lists.{decided_by, stay, listed}
use Rattle.rules.specs.Copies.{copy, fits}
use Rattle.rules.specs.Points.{terms, points, spot_fits}
use Rattle.rules.specs.Steps.{copies, replacement, numbers_fit}
use Rattle.writing.specs.Writing.{lay, list_bytes}
use Rattle.replacement.specs.Listing.{Come, truth, kept, big, come_of, Tally, over, going, tally, close_of, bytes_of, Wrote, Closes}
use Rattle.replacement.specs.Copying.{came}
use Rattle.replacement.specs.Trying.{Stays, Lists, Tells, try_all}
use Rattle.replacement.specs.Replacing.{formula_for, Put, Closable, Replaces, MadeOf}
use Rattle.replacement.specs.declared.Copied.{Copied}
use Rattle.replacement.specs.declared.Came.TheVariants.{Decided, Kept}
use Rattle.replacement.specs.declared.Body.{Body}
use Rattle.replacement.specs.declared.Copies.{Copies}
use Rattle.replacement.specs.declared.Unmade.{Unmade}
use Rattle.replacement.specs.declared.Unmade.TheVariants.{Big, Short}
use Rattle.writing.proofs.Lay.{lay-take}
use Rattle.replacement.proofs.Outcomes.{sure-bytes, decided-is, kept-is, come-back}
use Rattle.reading.proofs.Lengths.{four-long}
use Rattle.replacement.proofs.listing.Tallying.{Ruled, ruled-none, ruled-more, rule-stay}
use Rattle.replacement.proofs.trying.Joining.{over-long}

-- ---- the tally of the copies

ruled-copies : (all : Bool) (qs : List Spot) (p : Formula) → Ruled all (try_all qs p) (numbers_fit qs p) (copies qs p)
unfolding came numbers_fit copies
ruled-copies all [] p = ruled-none all
ruled-copies all (q ∷ qs) p = go (spot_fits q) (ruled-copies all qs p)
  where
    go : (s : Bool) → Ruled all (try_all qs p) (numbers_fit qs p) (copies qs p)
        → Ruled all (cond s (cond (fits q p) (come_of (copy q p)) big) big ∷ try_all qs p) (s && fits q p && numbers_fit qs p) (more (copy q p) (copies qs p))
    go true = ruled-more all (fits q p) (copy q p) (try_all qs p) (numbers_fit qs p) (copies qs p)
    go false = ruled-more all false (copy q p) (try_all qs p) (numbers_fit qs p) (copies qs p)

pub tally-is : (all : Bool) (qs : List Spot) (p : Formula) → tally all (going false none) (try_all qs p) ≡ cond (numbers_fit qs p) (going (decided_by all (copies qs p)) (stay (copies qs p))) over
tally-is all qs p = ruled-copies all qs p false none

-- ---- what is known of a list of copies

over-told : (b : Bool) (d : Bool) (s : Formulas) → cond b (going d s) over ≡ over → b ≡ false
over-told true d s e = let z : ◌≡◌ {A = ℕ} 0 1 = cc in absurd (omega arith)
over-told false d s e = refl

going-told : (b : Bool) (all d : Bool) (s : Formulas) (c : Copies) (o₀ o : List ℕ) → Lists all (cond b (going d s) over) c o₀ o → (b ≡ true) × Lists all (going d s) c o₀ o
going-told true all d s c o₀ o l = (refl, l)
going-told false all d s c o₀ o l = absurd l

four-each : (gs : Formulas) → 4 * count gs ≤ length (encodes gs)
unfolding encodes
four-each none = omega arith
four-each (more g gs) = omega (arith, four-each gs, four-long g, length-append (encode g) (encodes gs))

closable : (all x : Bool) (gs : Formulas) (c : Copies) (o₀ o : List ℕ) → Stays all x gs c o₀ o → 6 ≤ length o → Closable c (length o)
closable all x gs c o₀ o l h =
    record {
      space = λ f e. let a = (l.live (sym l.fixed ∙ f)).written e in record { low = omega (arith, a.from, a.until); high = a.room; few = omega (arith, a.many, a.until, l.end, four-each gs) };
      record_room = h;
    }

-- ---- the replacement of the quantifier of x over f, once its terms are gathered

pub record Copying (all : Bool) (x : ℕ) (f : Formula) (c : Copies) (o₀ o : List ℕ) : Type 0 where
  pub numbers : numbers_fit (points x (terms x f)) (push false f) ≡ true
  pub lists : Lists all (going (decided_by all (copies (points x (terms x f)) (push false f))) (stay (copies (points x (terms x f)) (push false f)))) c o₀ o

module _ (all : Bool) (x : ℕ) (f : Formula) (rows : List (List ℤ)) (e : rows ≡ terms x f) where
  told : tally all (going false none) (try_all (points x rows) (push false f))
      ≡ cond (numbers_fit (points x (terms x f)) (push false f)) (going (decided_by all (copies (points x (terms x f)) (push false f))) (stay (copies (points x (terms x f)) (push false f)))) over
  told = ap (λ (us : List (List ℤ)). tally all (going false none) (try_all (points x us) (push false f))) e ∙ tally-is all (points x (terms x f)) (push false f)

  pub too-big : tally all (going false none) (try_all (points x rows) (push false f)) ≡ over → numbers_fit (points x (terms x f)) (push false f) ≡ false
  too-big b = over-told (numbers_fit (points x (terms x f)) (push false f)) _ _ (sym told ∙ b)

  pub copying : (c : Copies) (o₀ o : List ℕ) → Lists all (tally all (going false none) (try_all (points x rows) (push false f))) c o₀ o → Copying all x f c o₀ o
  copying c o₀ o l = let t = going-told (numbers_fit (points x (terms x f)) (push false f)) all _ _ c o₀ o (subst (λ (t : Tally). Lists all t c o₀ o) told l) in record { numbers = t.0; lists = t.1 }

-- where the copies stop, so does the replacement, for the same reason
pub made-stops : (all : Bool) (y : Body) (f : Formula) (rows : List (List ℤ)) → rows ≡ terms y.x f → (n : ℕ) (o₀ o : List ℕ) (u : Unmade)
    → Tells all (tally all (going false none) (try_all (points y.x rows) (push false f))) y.bytes n o₀ o (Err u) → MadeOf all y f n o (Err u)
made-stops all y f rows e n o₀ o Big h = too-big all y.x f rows e h
made-stops all y f rows e n o₀ o Short h = h

module _ {all : Bool} {x : ℕ} {f : Formula} {c : Copies} {o₀ o : List ℕ} (g : Copying all x f c o₀ o) where
  pub copying-closable : 6 ≤ length o → Closable c (length o)
  copying-closable h = closable all _ _ c o₀ o g.lists h

  pub copying-put : (o' : List ℕ) (r : ℕ) → Replaces c o o' r → Put (replacement all x f) o' r
  unfolding replacement
  copying-put o' r p =
      let cs = copies (points x (terms x f)) (push false f) in
      subst (λ (h : Formula). Put h o' r) (ap formula_for (rule-stay all cs) ∙ come-back (listed all cs)) (p all (decided_by all cs) (stay cs) o₀ g.lists)

-- ---- what stands in the output once the list of copies is closed

sure-long : (v : Bool) → length (encode (list v none)) ≡ 6
unfolding encode record_bytes field_bytes
sure-long v = refl

pub sure-put : (v : Bool) (o o' : List ℕ) → 6 ≤ length o → o' ≡ lay 0 (list_bytes v 0) o → Put (list v none) o' 6
sure-put v o o' h e =
    let b = encode (list v none) in
    let k : o' ≡ lay 0 b o = e ∙ ap (λ (y : List ℕ). lay 0 y o) (sure-bytes v) in
    let t : take (0 + length b) o' ≡ b = ap (take (0 + length b)) k ∙ lay-take 0 b o (omega (arith, sure-long v)) in
    record {
      short = λ s. (sym (sure-long v), ap (λ (n : ℕ). take n o') (let z : 6 ≡ 0 + length b = omega (arith, sure-long v) in z) ∙ t);
      long = λ s. omega (arith, sure-long v);
    }

put-over : (c : Come) (o : List ℕ) (n : ℕ) → result_bytes < length (bytes_of c) → result_bytes < n → Put (formula_for c) o n
put-over (truth b) o n h k = absurd (omega arith)
put-over (kept g) o n h k = record { short = λ s. absurd (omega arith); long = λ s. k }
put-over big o n h k = absurd (omega arith)

pub put-large : (all x : Bool) (gs : Formulas) (o : List ℕ) (n : ℕ) → x ≡ false → result_bytes < length (encodes gs) → result_bytes < n → Put (formula_for (close_of all x gs)) o n
put-large all x gs o n e h k = subst (λ (y : Bool). Put (formula_for (close_of all y gs)) o n) (sym e) (put-over (close_of all false gs) o n (over-long all gs h) k)

-- a list of copies, which `closed` has closed
module _ (all x : Bool) (gs : Formulas) (c : Copies) (o₀ o o' : List ℕ) (r : Copied) (l : Lists all (going x gs) c o₀ o) (d : c.list.fixed ≡ false) (f : c.over ≡ false)
    (k : Closes c.list 0 o o' r) where
  wrote : Wrote (close_of all x gs) 0 0 o₀ o' (Ok r)
  wrote = subst (λ (y : Bool). Wrote (close_of y x gs) 0 0 o₀ o' (Ok r)) l.same (subst (λ (y : Bool). Wrote (close_of c.list.all y gs) 0 0 o₀ o' (Ok r)) l.fixed (k gs 0 o₀ ((l.live (sym l.fixed ∙ d)).written f)))

  pub closed_decided : (v : Bool) (o'' : List ℕ) (n : ℕ) → r.came ≡ Decided v → Put (list v none) o'' n → Put (formula_for (close_of all x gs)) o'' n
  closed_decided v o'' n e p = subst (λ (g : Formula). Put g o'' n) (sym (decided-is (close_of all x gs) v wrote e)) p

  pub closed-kept : (e : ℕ) → r.came ≡ Kept e → Put (formula_for (close_of all x gs)) o' e
  closed-kept e h = let a = kept-is (close_of all x gs) e wrote h in record { short = λ s. a; long = λ s. omega (arith, a.0) }
