-- The terms of a formula: the walk of `Walking`, with the table as it is so far.
use mathlib.Core.Path.{◌≡◌, sym, ap, subst, ◌∙◌}
use mathlib.Core.List.{List}
use mathlib.Core.Bool.{cond}
use Prim.Native.Nat.{ℕ}
use native.Mathlib.Omega.{arith}
use Rattle.std.proofs.Math.Nat.{sub-zero}
use lib.Dec.{eqb}
use lib.IntN.{ℤ}
use Rattle.std.specs.Prelude.{Result}
use Rattle.reading.specs.Limits.{M}
use Rattle.reading.specs.Reading.{tree_of}
use Rattle.reading.specs.Views.{shape_of, IsAtom, IsWindow}
use Rattle.reading.specs.declared.Shape.TheVariants as Shape
use Rattle.reading.specs.declared.Window.{Window}
use Rattle.reading.proofs.Lengths.{part-drop-long}
use Rattle.reading.proofs.Walking.{atom-is, window-is}
use Rattle.reading.proofs.Viewing.{begins-four, shape-atom, shape-window}
use Rattle.exact.specs.Numbers.{at, is_zero, Each}
use Rattle.exact.specs.Terms.{term_of, bound_of}
use Rattle.exact.proofs.Leaves.{numbers-small}
use Rattle.rules.specs.Points.{insert}
use Rattle.replacement.specs.Gathering.{Collected}
use Rattle.replacement.specs.declared.TooMany.{TooMany}
use Rattle.replacement.proofs.gathering.TermLaws.{gather-atom, gather-window, not-gathers, not-used, not-collected, not-full, gather-start, member-gathers, member-used, member-next, member-full, member-end}
use Rattle.replacement.proofs.gathering.+gather_gather_list.Goals as goal
use Rattle.replacement.proofs.gathering.+gather_gather_list.Goals.{gather-In-Atom, gather-In-Not, gather-In-Window}

-- by the kind of the record
an-atom : {t : ℕ} (c : gather-In-Atom t) → IsAtom (tree_of c.args.s.now)
an-atom c = shape-atom (tree_of c.args.s.now) (sym c.in-Atom.ensures)

is-not : {t : ℕ} (c : gather-In-Not t) → shape_of (tree_of c.args.s.now) ≡ Shape.Not
is-not c = sym c.in-Not.ensures

a-window : {t : ℕ} (c : gather-In-Window t) → IsWindow (tree_of c.args.s.now)
a-window c = shape-window (tree_of c.args.s.now) (sym c.in-Window.ensures)

retold : {used used' : ℕ} {us us' ts : List (List ℤ)} {r : Result ℕ TooMany} → used ≡ used' → us ≡ us' → Collected used us ts r → Collected used' us' ts r
retold {used} {used'} {us} {us'} {ts} {r} e f c = subst (λ (n : ℕ). Collected n us' ts r) e (subst (λ (vs : List (List ℤ)). Collected used vs ts r) f c)

pub gather-of_atom-requires-clause-each : goal.gather-of_atom-requires-clause-each
gather-of_atom-requires-clause-each t c = subst (Each M) (sym c.row_at.ensures) (numbers-small (tree_of c.args.s.now) c.requires.begins (an-atom (goal.at.gather-of_atom-requires-clause-each t c).In-Atom))

pub gather-slice_bounds-gather-count : goal.gather-slice_bounds-gather-count
gather-slice_bounds-gather-count t c = begins-four c.requires.begins

pub gather-slice_bounds-gather-start : goal.gather-slice_bounds-gather-start
gather-slice_bounds-gather-start t c = omega (arith, begins-four c.requires.begins)

pub gather-gather-requires : goal.gather-gather-requires
gather-gather-requires t c = (omega (arith, c.decreases, part-drop-long 4 c.args.s.now, begins-four c.requires.begins), not-gathers c.requires (is-not (goal.at.gather-gather-requires t c).In-Not))

pub gather-returns-in_err-gather-in-Not : goal.gather-returns-in_err-gather-in-Not
gather-returns-in_err-gather-in-Not t c = not-full c.requires (is-not (goal.at.gather-returns-in_err-gather-in-Not t c).In-Not) c.in_err-gather-in-Not.ensures c.from_residual.ensures.0

pub gather-overflow_add-result : goal.gather-overflow_add-result
gather-overflow_add-result t c = omega (arith, not-used c.requires (is-not (goal.at.gather-overflow_add-result t c).In-Not) c.in_ok-gather-in-Not.ensures, c.well_formed)

pub gather-returns-in_ok-gather-in-Not : goal.gather-returns-in_ok-gather-in-Not
gather-returns-in_ok-gather-in-Not t c = not-collected c.requires (is-not (goal.at.gather-returns-in_ok-gather-in-Not t c).In-Not) c.in_ok-gather-in-Not.ensures

pub gather-returns-in-Atom : goal.gather-returns-in-Atom
gather-returns-in-Atom t c =
    let f = tree_of c.args.s.now in
    let x = c.args.x in
    let us = c.args.ts.now.items in
    let i = an-atom (goal.at.gather-returns-in-Atom t c).In-Atom in
    retold (sym (atom-is f c.requires.begins i).long) (ap (λ (ns : List ℤ). cond (is_zero (at ns x)) us (insert (term_of ns x) us)) c.row_at.ensures ∙ gather-atom x us f i) c.of_atom.ensures

pub gather-returns-in-Window : goal.gather-returns-in-Window
gather-returns-in-Window t c =
    let f = tree_of c.args.s.now in
    let x = c.args.x in
    let us = c.args.ts.now.items in
    let i = a-window (goal.at.gather-returns-in-Window t c).In-Window in
    retold (sym (window-is f c.requires.begins i).long)
    (ap (λ (w : Window). cond (eqb w.variable x) (insert (bound_of w.hi) (insert (bound_of w.lo) us)) us) c.window_at.ensures ∙ gather-window x us f i) c.of_window.ensures

pub gather_list-loop-init : goal.gather_list-loop-init
gather_list-loop-init t c = gather-start _ c.requires.gathers c.requires.list (sub-zero c.members_at-end.result ∙ c.members_at-end.ensures)

pub gather_list-slice_bounds-gather-count : goal.gather_list-slice_bounds-gather-count
gather_list-slice_bounds-gather-count t c = let g = c.loop.invariant in omega (arith, g.1.walk.used, g.1.walk.within)

pub gather_list-slice_bounds-gather-start : goal.gather_list-slice_bounds-gather-start
gather_list-slice_bounds-gather-start t c = let g = c.loop.invariant in omega (arith, g.1.walk.used, g.1.walk.within)

pub gather_list-gather-requires : goal.gather_list-gather-requires
gather_list-gather-requires t c = let g = c.loop.invariant in
    let w = g.1.walk in
    (omega (arith, c.decreases, part-drop-long c.loop.at c.args.s.now, w.used, w.within, w.past), member-gathers g.0 g.1 (omega (arith, c.loop-test.true)) c.requires.gathers.low)

pub gather_list-returns-in_err-at : goal.gather_list-returns-in_err-at
gather_list-returns-in_err-at t c = let g = c.loop.invariant in
    member-full (omega (arith, c.loop-test.true)) c.gather.ensures c.in_err-at.was c.from_residual.ensures.0 g.0 g.1

pub gather_list-overflow_add-at : goal.gather_list-overflow_add-at
gather_list-overflow_add-at t c = let g = c.loop.invariant in
    omega (arith, member-used (omega (arith, c.loop-test.true)) c.gather.ensures c.in_ok-at.was g.0 g.1, c.well_formed)

pub gather_list-loop-preserved : goal.gather_list-loop-preserved
gather_list-loop-preserved t c = let g = c.loop.invariant in
    member-next (omega (arith, c.loop-test.true)) c.gather.ensures c.in_ok-at.was g.0 g.1 (omega arith)

pub gather_list-returns : goal.gather_list-returns
gather_list-returns t c = let g = c.loop.invariant in
    member-end g.0 g.1 (omega (arith, c.loop-test.false))
