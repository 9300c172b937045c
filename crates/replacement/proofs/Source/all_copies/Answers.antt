-- `all_copies`: the way through the points, from the empty list over −∞ and +∞ to the midpoints, or as far as the copies end.
use mathlib.Core.Path.{refl, sym, ◌∙◌, subst}
use mathlib.Core.Bool.{false}
use mathlib.Core.List.{List, [], ◌∷◌}
use Prim.Native.Nat.{ℕ}
use native.Mathlib.Omega.{arith}
use lib.ListN.{length}
use lib.IntN.{ℤ}
use Rattle.std.specs.Prelude.{Result}
use Rattle.reading.specs.Formula.{none}
use Rattle.reading.specs.Reading.{tree_of}
use Rattle.exact.specs.Atoms.{Spot, above}
use Rattle.rules.specs.Points.{all_midpoints, points}
use Rattle.rules.specs.Pushing.{push}
use Rattle.replacement.specs.Listing.{going, tally}
use Rattle.replacement.specs.Trying.{Lists, Tells, Tries, try_all}
use Rattle.replacement.specs.declared.Copies.{Copies}
use Rattle.replacement.specs.declared.Open.{Open}
use Rattle.replacement.specs.declared.Source.{Source}
use Rattle.replacement.specs.declared.Unmade.{Unmade}
use borrow.Author.Tests.{eqb-true, eqb-false}
use Rattle.replacement.proofs.Outcomes.{err-same}
use Rattle.replacement.proofs.trying.PointLaws.{opened-lists, Parts, Way, way-start, way-sure, way-more, way-last, way-ends, way-stops, points_none, points-first, points-some}
use Rattle.replacement.proofs.Source.all_copies.Goals as goal
use Rattle.replacement.proofs.Source.all_copies.Goals.{After-opened, Else-is_empty, Else-ends-2}

-- the empty list
abbrev first : (c : After-opened) → Copies
first c = record { list = c.opened.result; over = false }

lists : (c : After-opened) → Lists c.args.all (going false none) (first c) c.args.out.now c.args.out.now
lists c = subst (λ (l : Open). Lists c.args.all (going false none) (record { list = l; over = false }) c.args.out.now c.args.out.now) (sym c.opened.ensures) (opened-lists c.args.all c.args.out.now c.requires.copiable.room)

-- the way through the points, of which qs are still to come
abbrev Ways : Source → List (List ℤ) → Open → List ℕ → Copies → List Spot → List ℕ → Type 0
Ways y ts l out d qs o = Way y.body (record { list = l; over = false }) d (points y.body.x ts) qs (push false (tree_of y.bytes.now)) out o

-- before −∞; after it, where there is a term; and after +∞
way : (c : After-opened) → Ways c.args.self.now c.args.ts.now c.opened.result c.args.out.now (first c) (points c.args.self.now.body.x c.args.ts.now) c.args.out.now
way c = let y = c.args.self.now in
    way-start y.body (points y.body.x c.args.ts.now) (push false (tree_of y.bytes.now)) c.requires.sure (record { all = c.args.all; so_far = going false none; before = c.args.out.now; lists = lists c })

below-way : (c : Else-is_empty) → let a = c.args in let x = a.self.now.body.x in let W : Copies → List Spot → List ℕ → Type 0 = Ways a.self.now a.ts.now c.opened.result a.out.now in
    W (record { list = c.opened.result; over = false }) (points x a.ts.now) a.out.now → W c.in_ok-d.d (above x ∷ all_midpoints x a.ts.now) c.with_copy.new.out
below-way c w = way-more w (points-some c.args.self.now.body.x c.args.ts.now (omega (arith, eqb-false (length c.args.ts.now) 0 (sym c.if-is_empty.ensures)))) c.in_ok-d.ensures (omega arith)

next : (x : ℕ) (qs : List Spot) → Parts (above x ∷ qs) (above x ∷ []) qs
next x qs = record { is = refl }

above-way : (c : Else-ends-2) → let a = c.args in let x = a.self.now.body.x in let W : Copies → List Spot → List ℕ → Type 0 = Ways a.self.now a.ts.now c.opened.result a.out.now in
    W c.in_ok-d.d (above x ∷ all_midpoints x a.ts.now) c.with_copy.new.out → W c.in_ok-e.e (all_midpoints x a.ts.now) c.with_copy-2.new.out
above-way c w = way-more w (next c.args.self.now.body.x (all_midpoints c.args.self.now.body.x c.args.ts.now)) c.in_ok-e.ensures (omega arith)

-- what is promised, once all spots are tried
tried : (c : After-opened) {o : List ℕ} {x : Result Copies Unmade} → let y = c.args.self.now in let p = push false (tree_of y.bytes.now) in let n = length c.args.out.now in let spots = points y.body.x c.args.ts.now in
    Tries y.body.bytes (first c) (try_all spots p) c.args.out.now o x → Tells c.args.all (tally c.args.all (going false none) (try_all spots p)) y.body.bytes n c.args.out.now o x
tried c t = t.tells c.args.all (going false none) c.args.out.now (lists c)

pub with_copy-requires-clause-sure : goal.with_copy-requires-clause-sure
with_copy-requires-clause-sure c = way-sure (way (goal.at.with_copy-requires-clause-sure c).After-opened) (points-first c.args.self.now.body.x c.args.ts.now).1

pub with_copy-requires-clause-holding : goal.with_copy-requires-clause-holding
with_copy-requires-clause-holding c = (way (goal.at.with_copy-requires-clause-holding c).After-opened).holding

pub returns-in_err-d : goal.returns-in_err-d
returns-in_err-d c = let s = (goal.at.returns-in_err-d c).After-opened in
    tried s (subst (Tries _ _ _ _ _) (sym (err-same c.from_residual.result c.from_residual.ensures)) (way-stops (way s) (points-first c.args.self.now.body.x c.args.ts.now).1 c.in_err-d.ensures))

pub returns-then-ends : goal.returns-then-ends
returns-then-ends c = let s = (goal.at.returns-then-ends c).After-opened in
    tried s (way-ends (way s) (points-first c.args.self.now.body.x c.args.ts.now).1 c.in_ok-d.ensures (sym c.ends.ensures ∙ c.if-ends.true))

pub returns-then-is_empty : goal.returns-then-is_empty
returns-then-is_empty c = let s = (goal.at.returns-then-is_empty c).After-opened in
    tried s (way-last (way s) (points_none c.args.self.now.body.x c.args.ts.now (eqb-true (length c.args.ts.now) 0 (sym c.if-is_empty.ensures))) c.in_ok-d.ensures)

pub with_copy-requires-2-clause-sure : goal.with_copy-requires-2-clause-sure
with_copy-requires-2-clause-sure c = let p = goal.at.with_copy-requires-2-clause-sure c in
    way-sure (below-way p.Else-is_empty (way p.After-opened)) (next c.args.self.now.body.x _)

pub with_copy-requires-2-clause-holding : goal.with_copy-requires-2-clause-holding
with_copy-requires-2-clause-holding c = let p = goal.at.with_copy-requires-2-clause-holding c in
    (below-way p.Else-is_empty (way p.After-opened)).holding

pub returns-in_err-e : goal.returns-in_err-e
returns-in_err-e c = let p = goal.at.returns-in_err-e c in
    tried p.After-opened (subst (Tries _ _ _ _ _) (sym (err-same c.from_residual-in_err-e.result c.from_residual-in_err-e.ensures))
    (way-stops (below-way p.Else-is_empty (way p.After-opened)) (next c.args.self.now.body.x _) c.in_err-e.ensures))

pub returns-then-ends-2 : goal.returns-then-ends-2
returns-then-ends-2 c = let p = goal.at.returns-then-ends-2 c in
    tried p.After-opened (way-ends (below-way p.Else-is_empty (way p.After-opened)) (next c.args.self.now.body.x _) c.in_ok-e.ensures (sym c.ends-2.ensures ∙ c.if-ends-2.true))

pub rows-requires-clause-sure : goal.rows-requires-clause-sure
rows-requires-clause-sure c = let p = goal.at.rows-requires-clause-sure c in
    (above-way p.Else-ends-2 (below-way p.Else-is_empty (way p.After-opened))).sure

pub rows-requires-clause-holding : goal.rows-requires-clause-holding
rows-requires-clause-holding c = let p = goal.at.rows-requires-clause-holding c in
    (above-way p.Else-ends-2 (below-way p.Else-is_empty (way p.After-opened))).holding

pub returns : goal.returns
returns c = let p = goal.at.returns c in
    tried p.After-opened (way-last (above-way p.Else-ends-2 (below-way p.Else-is_empty (way p.After-opened))) refl c.rows.ensures)
