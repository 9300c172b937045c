-- A formula at the values: the walk of `Walking`, and what is true of the members so far. The bytes that are left fall at each call.
use native.Mathlib.Omega.{arith}
use mathlib.Core.Path.{◌≡◌, sym, ap, subst, ◌∙◌}
use mathlib.Core.Bool.{◌&&◌}
use mathlib.Core.List.{List}
use Prim.Native.Nat.{◌+◌, ◌-◌, ◌≤◌}
use lib.ListN.{length}
use lib.IntN.{ℤ, ◌*ℤ◌}
use lib.Signed.{le_z}
use Rattle.reading.specs.Limits.{M, tree_levels}
use Rattle.reading.specs.Reading.{tree_of}
use Rattle.testing.specs.Testing.{Testable}
use Rattle.testing.specs.declared.Holds.{Holds}
use Rattle.rules.specs.Test.{sum_at}
use Rattle.reading.specs.Views.{comparison_in, shape_of, IsAtom, IsWindow}
use Rattle.reading.specs.declared.Shape.TheVariants as Shape
use Rattle.reading.specs.declared.Window.{Window}
use Rattle.exact.specs.Numbers.{at, Each}
use Rattle.exact.specs.Atoms.{holds}
use Rattle.exact.proofs.Sizes.{rd, ok}
use Rattle.reading.proofs.Lengths.{part-drop-long}
use Rattle.reading.proofs.Viewing.{begins-four, shape-atom, shape-list, shape-window, shape-quantifier, free-not}
use Rattle.exact.proofs.Leaves.{numbers-small, Ends, window-small}
use Rattle.testing.proofs.TestLaws.{holds-atom, holds-window, not-tries, not_within, not-holds, holds-start, trial-asks, trial-within, trial-next, trial-end}
use Prim.Native.Nat.{ℕ}
use Rattle.testing.proofs.+holds_at_holds_list.Goals as goal

four : {s : List ℕ} {w : List ℤ} → Testable s w → 4 ≤ length s
four g = begins-four g.begins

pub holds_at-shape_at-requires : goal.holds_at-shape_at-requires
holds_at-shape_at-requires t c = c.requires.begins

pub holds_at-row_at-requires : goal.holds_at-row_at-requires
holds_at-row_at-requires t c =
    let kind : shape_of (tree_of c.args.s.now) ≡ Shape.Atom c.in-Atom.c = sym c.shape_at.ensures ∙ c.in-Atom.is in
    let an-atom : IsAtom (tree_of c.args.s.now) = shape-atom (tree_of c.args.s.now) (kind) in
    record { begins = c.requires.begins; atom = an-atom }

pub holds_at-sum-requires : goal.holds_at-sum-requires
holds_at-sum-requires t c =
    let kind : shape_of (tree_of c.args.s.now) ≡ Shape.Atom c.in-Atom.c = sym c.shape_at.ensures ∙ c.in-Atom.is in
    let an-atom : IsAtom (tree_of c.args.s.now) = shape-atom (tree_of c.args.s.now) (kind) in
    record { each = subst (Each M) (sym c.row_at.ensures) (numbers-small (tree_of c.args.s.now) c.requires.begins (an-atom)); each_2 = c.requires.values }

pub holds_at-slice_bounds-holds_at-count : goal.holds_at-slice_bounds-holds_at-count
holds_at-slice_bounds-holds_at-count t c = omega (arith, four c.requires)

pub holds_at-slice_bounds-holds_at-start : goal.holds_at-slice_bounds-holds_at-start
holds_at-slice_bounds-holds_at-start t c = omega (arith, four c.requires)

pub holds_at-slice_bounds-holds_at-end : goal.holds_at-slice_bounds-holds_at-end
holds_at-slice_bounds-holds_at-end t c = omega (arith, four c.requires)

pub holds_at-holds_at-requires : goal.holds_at-holds_at-requires
holds_at-holds_at-requires t c =
    let is-not : shape_of (tree_of c.args.s.now) ≡ Shape.Not = sym c.shape_at.ensures ∙ c.in-Not.is in
    (omega (arith, c.decreases, part-drop-long 4 c.args.s.now, four c.requires), not-tries c.requires (is-not))

pub holds_at-denied-requires : goal.holds_at-denied-requires
holds_at-denied-requires t c =
    let is-not : shape_of (tree_of c.args.s.now) ≡ Shape.Not = sym c.shape_at.ensures ∙ c.in-Not.is in
    omega (arith, ap (λ (h : Holds). h.used) c.holds_at.ensures, not_within c.requires (is-not), c.well_formed.0.0)

pub holds_at-holds_list-requires : goal.holds_at-holds_list-requires
holds_at-holds_list-requires t c = (omega (arith, c.decreases), (c.requires, sym c.shape_at.ensures ∙ c.in-List.is))

pub holds_at-window_at-requires : goal.holds_at-window_at-requires
holds_at-window_at-requires t c =
    let a-window : IsWindow (tree_of c.args.s.now) = shape-window (tree_of c.args.s.now) (sym c.shape_at.ensures ∙ c.in-Window.is) in
    record { begins = c.requires.begins; window = a-window }

pub holds_at-in_window-requires : goal.holds_at-in_window-requires
holds_at-in_window-requires t c =
    let a-window : IsWindow (tree_of c.args.s.now) = shape-window (tree_of c.args.s.now) (sym c.shape_at.ensures ∙ c.in-Window.is) in
    let e = subst Ends (sym c.window_at.ensures) (window-small (tree_of c.args.s.now) c.requires.begins (a-window)) in record { variable_lt_variables = e.variable; within = e.from; within_2 = e.to; each = c.requires.values }

pub holds_at-returns-in-Atom : goal.holds_at-returns-in-Atom
holds_at-returns-in-Atom t c =
    let kind : shape_of (tree_of c.args.s.now) ≡ Shape.Atom c.in-Atom.c = sym c.shape_at.ensures ∙ c.in-Atom.is in
    holds-atom (tree_of c.args.s.now) tree_levels c.args.w c.requires.begins.fits (kind)
    (c.holds.ensures ∙ ap (holds (comparison_in c.in-Atom.c)) (rd (ok c.sum.result c.sum.type_inv) ∙ c.sum.ensures ∙ ap (λ (l : List ℤ). sum_at l c.args.w) c.row_at.ensures))

pub holds_at-returns-in-Not : goal.holds_at-returns-in-Not
holds_at-returns-in-Not t c =
    let is-not : shape_of (tree_of c.args.s.now) ≡ Shape.Not = sym c.shape_at.ensures ∙ c.in-Not.is in
    c.denied.ensures ∙ not-holds c.requires (is-not) c.holds_at.ensures

pub holds_at-returns-in-List : goal.holds_at-returns-in-List
holds_at-returns-in-List t c = c.holds_list.ensures

pub holds_at-returns-in-Quantifier : goal.holds_at-returns-in-Quantifier
holds_at-returns-in-Quantifier t c = let f = tree_of c.args.s.now in
    absurd (free-not f c.requires.free (shape-quantifier f (sym c.shape_at.ensures ∙ c.in-Quantifier.is)))

pub holds_at-returns-in-Window : goal.holds_at-returns-in-Window
holds_at-returns-in-Window t c =
    let a-window : IsWindow (tree_of c.args.s.now) = shape-window (tree_of c.args.s.now) (sym c.shape_at.ensures ∙ c.in-Window.is) in
    let w = c.args.w in
    holds-window (tree_of c.args.s.now) w (a-window)
    (c.in_window.ensures ∙ ap (λ (y : Window). le_z (y.lo *ℤ at w 8) (at w y.variable) && le_z (at w y.variable) (y.hi *ℤ at w 8)) c.window_at.ensures)

pub holds_list-members_at-end-requires : goal.holds_list-members_at-end-requires
holds_list-members_at-end-requires t c = record { begins = c.requires.testable.begins; list = shape-list (tree_of c.args.s.now) c.requires.s_value }

pub holds_list-loop-init : goal.holds_list-loop-init
holds_list-loop-init t c = let e : c.members_at-end.result - 0 ≡ c.members_at-end.result = omega arith in
    holds-start _ _ c.requires.testable c.requires.s_value (e ∙ c.members_at-end.ensures)

pub holds_list-slice_bounds-holds_at-count : goal.holds_list-slice_bounds-holds_at-count
holds_list-slice_bounds-holds_at-count t c = let g = c.loop.invariant in
    omega (arith, g.1.walk.used, g.1.walk.within)

pub holds_list-slice_bounds-holds_at-start : goal.holds_list-slice_bounds-holds_at-start
holds_list-slice_bounds-holds_at-start t c = let g = c.loop.invariant in
    omega (arith, g.1.walk.used, g.1.walk.within)

pub holds_list-slice_bounds-holds_at-end : goal.holds_list-slice_bounds-holds_at-end
holds_list-slice_bounds-holds_at-end t c = let g = c.loop.invariant in
    omega (arith, g.1.walk.used, g.1.walk.within)

pub holds_list-holds_at-h-requires : goal.holds_list-holds_at-h-requires
holds_list-holds_at-h-requires t c = let g = c.loop.invariant in
    let w = g.1.walk in
    (omega (arith, c.decreases, part-drop-long c.loop.used c.args.s.now, w.used, w.within, w.past), trial-asks g.0 g.1 (omega arith) c.requires.testable.values)

pub holds_list-overflow_add-used : goal.holds_list-overflow_add-used
holds_list-overflow_add-used t c = let g = c.loop.invariant in
    omega (arith, trial-within g.0 g.1 (omega arith), ap (λ (h : Holds). h.used) c.holds_at-h.ensures, c.well_formed.0.0)

pub holds_list-loop-preserved : goal.holds_list-loop-preserved
holds_list-loop-preserved t c = let g = c.loop.invariant in
    let all = c.args.all in
    let n = trial-next g.0 g.1 (omega arith) in
    let end = c.members_at-end.result in
    let left : end - c.loop.counter - 1 ≡ end - (c.loop.counter + 1) = omega arith in
    rw (c.joined-holds.ensures, c.holds_at-h.ensures, ← left) n

pub holds_list-returns : goal.holds_list-returns
holds_list-returns t c = let g = c.loop.invariant in
    trial-end g.0 g.1 (omega arith)
