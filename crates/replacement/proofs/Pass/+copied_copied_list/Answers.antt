-- Each goal of the loop is a law of `Turn`; what stands under NOT, and a WINDOW, are met by theirs.
use mathlib.Core.Path.{◌≡◌, refl, sym, ap, ◌∙◌}
use mathlib.Core.Bool.{Bool, true, false, not, beq}
use Prim.Native.Nat.{ℕ, ◌+◌, ◌-◌}
use native.Mathlib.Omega.{arith}
use Rattle.std.proofs.Math.Nat.{sub-zero}
use Rattle.reading.specs.Reading.{tree_of}
use Rattle.reading.specs.Views.{shape_of, IsWindow}
use Rattle.reading.specs.declared.Shape.TheVariants as Shape
use Rattle.reading.specs.declared.Window.{Window}
use Rattle.reading.proofs.Lengths.{part-drop-long}
use Rattle.reading.proofs.Walking.{window-is}
use Rattle.reading.proofs.Viewing.{begins-four, shape-window}
use Rattle.exact.specs.Atoms.{spot_of}
use Rattle.rules.specs.Pushing.{push_window, under}
use Rattle.replacement.proofs.copying.Settling.{retold, wrote-big}
use Rattle.replacement.proofs.copying.Leaves.{window-pushed}
use Rattle.replacement.proofs.copying.Sources.{under-asks, under-used, under-wrote, under-big}
use Rattle.replacement.proofs.copying.Turn.{Goes, turn-start, turn-asks, turn-used, turn-next, turn-big, turn-follow, turn-early, turn_end}
use Rattle.replacement.proofs.Pass.+copied_copied_list.Goals as goal
use Rattle.replacement.proofs.Pass.+copied_copied_list.Goals.{copied-In-Not, copied-In-Window, copied_list-After-taken-l}

-- whether a list is ALLOF once NOT is pushed
turned : (all neg : Bool) → not (beq all neg) ≡ under neg all
turned true true = refl
turned true false = refl
turned false true = refl
turned false false = refl

-- it is NOT of a formula; it is a WINDOW
is-not : {t : ℕ} (c : copied-In-Not t) → shape_of (tree_of c.args.s.now) ≡ Shape.Not
is-not c = sym c.in-Not.ensures

a-window : {t : ℕ} (c : copied-In-Window t) → IsWindow (tree_of c.args.s.now)
a-window c = shape-window (tree_of c.args.s.now) (sym c.in-Window.ensures)

-- after a member
next : {t : ℕ} (c : copied_list-After-taken-l t) (k : ℕ) → k ≡ c.members_at-n.result - c.loop-i.i - 1
    → let a = c.args in Goes a.s.now a.neg a.self.now.way a.self.now.point a.to a.self.now.marks.now a.out.now c.copied.new.out c.taken-l.result (c.loop-i.at + c.in_ok-r.r.used) k
next c k e = let g = c.loop-i.invariant in
    turn-next g.0 c.copied.new.out c.in_ok-r.r g.1 (omega (arith, c.loop-i-test.true)) (omega arith) c.in_ok-r.ensures c.taken-l.ensures e

pub copied-slice_bounds-copied-count : goal.copied-slice_bounds-copied-count
copied-slice_bounds-copied-count t c = begins-four c.requires.begins

pub copied-slice_bounds-copied-start : goal.copied-slice_bounds-copied-start
copied-slice_bounds-copied-start t c = omega (arith, begins-four c.requires.begins)

pub copied-returns-in_ok-r-in-Not : goal.copied-returns-in_ok-r-in-Not
copied-returns-in_ok-r-in-Not t c = under-wrote c.requires (is-not (goal.at.copied-returns-in_ok-r-in-Not t c).In-Not) _ _ _ c.in_ok-r-in-Not.ensures

pub copied-copied-requires : goal.copied-copied-requires
copied-copied-requires t c = (omega (arith, c.decreases, part-drop-long 4 c.args.s.now, begins-four c.requires.begins), under-asks c.requires (is-not (goal.at.copied-copied-requires t c).In-Not))

pub copied-returns-in_err-r-in-Not : goal.copied-returns-in_err-r-in-Not
copied-returns-in_err-r-in-Not t c = let x = under-big c.requires (is-not (goal.at.copied-returns-in_err-r-in-Not t c).In-Not) _ _ _ c.in_err-r-in-Not.ensures in
    wrote-big _ _ _ _ c.from_residual.ensures.0 x.0 x.1

pub copied-overflow_add-result : goal.copied-overflow_add-result
copied-overflow_add-result t c = omega (arith, under-used c.requires (is-not (goal.at.copied-overflow_add-result t c).In-Not) _ _ _ _ c.in_ok-r-in-Not.ensures, c.well_formed)

pub copied-window-requires-clause-to_in_bounds : goal.copied-window-requires-clause-to_in_bounds
copied-window-requires-clause-to_in_bounds t c = omega (arith, (window-is _ c.requires.begins (a-window (goal.at.copied-window-requires-clause-to_in_bounds t c).In-Window)).long, c.requires.room)

pub copied-returns-in-Window : goal.copied-returns-in-Window
copied-returns-in-Window t c =
    let f = tree_of c.args.s.now in
    let w = a-window (goal.at.copied-returns-in-Window t c).In-Window in
    retold (spot_of c.args.self.now.point) (ap (λ (w : Window). push_window c.args.neg w.variable w.lo w.hi) c.window_at.ensures ∙ window-pushed f w c.args.neg) (sym (window-is f c.requires.begins w).long) c.window.ensures

pub copied_list-loop-i-init : goal.copied_list-loop-i-init
copied_list-loop-i-init t c = turn-start c.args.out.now _ _ c.opened-l.result c.requires.asks c.requires.s_value (turned c.args.all c.args.neg) (sub-zero c.members_at-n.result ∙ c.members_at-n.ensures) c.opened-l.ensures

pub copied_list-copied-requires : goal.copied_list-copied-requires
copied_list-copied-requires t c = let g = c.loop-i.invariant in
    (omega (arith, c.decreases, part-drop-long c.loop-i.at c.args.s.now, g.1.walk.used, g.1.walk.past, g.1.walk.within), turn-asks g.0 g.1 (omega (arith, c.loop-i-test.true)) c.requires.asks.point)

pub copied_list-returns-in_err-r : goal.copied_list-returns-in_err-r
copied_list-returns-in_err-r t c = let g = c.loop-i.invariant in
    let x = turn-big g.0 c.copied.new.out _ g.1 (omega (arith, c.loop-i-test.true)) c.in_err-r.ensures in
    wrote-big _ _ _ _ c.from_residual.ensures.0 x.0 x.1

pub copied_list-overflow_add-at : goal.copied_list-overflow_add-at
copied_list-overflow_add-at t c = let g = c.loop-i.invariant in
    omega (arith, turn-used g.0 c.copied.new.out c.in_ok-r.r g.1 (omega (arith, c.loop-i-test.true)) c.in_ok-r.ensures, c.well_formed)

pub copied_list-past-requires : goal.copied_list-past-requires
copied_list-past-requires t c = let g = next (goal.at.copied_list-past-requires t c).After-taken-l (c.members_at-n.result - 1 - c.loop-i.i) (omega arith) in
    turn-follow g.0 g.1

pub copied_list-returns-then-l : goal.copied_list-returns-then-l
copied_list-returns-then-l t c = let g = next (goal.at.copied_list-returns-then-l t c).After-taken-l (c.members_at-n.result - 1 - c.loop-i.i) (omega arith) in
    turn-early g.0 c.past.result g.1 c.if-self.true c.if-l.true c.past.ensures

pub copied_list-loop-i-preserved : goal.copied_list-loop-i-preserved
copied_list-loop-i-preserved t c = next (goal.at.copied_list-loop-i-preserved t c).After-taken-l (c.members_at-n.result - (c.loop-i.i + 1)) (omega arith)

pub copied_list-returns : goal.copied_list-returns
copied_list-returns t c = let g = c.loop-i.invariant in
    turn_end g.0 c.closed.new.out c.closed.result g.1 (omega (arith, c.loop-i-test.false)) c.closed.ensures
