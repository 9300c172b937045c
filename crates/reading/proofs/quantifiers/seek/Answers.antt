use mathlib.Core.Path.{◌≡◌, refl, sym, ◌∙◌, ap}
use Prim.Native.Nat.{◌+◌}
use native.Mathlib.Omega.{arith}
use mathlib.Core.Bool.{false, false≢true, cond}
use Rattle.std.specs.Prelude.{None}
use Rattle.reading.specs.Bytes.{le2}
use Rattle.reading.specs.Reading.{tree_of}
use Rattle.reading.specs.Quantifiers.{nothing, seek, found_of, is_quantifier}
use Rattle.reading.proofs.Scan.{ScanStep, after, scan_begins, scan_step, scan-ends, scan-found}
use Rattle.reading.proofs.quantifiers.seek.Goals as goal
use Rattle.reading.proofs.quantifiers.seek.Goals.{In-loop-at, After-is_quantifier, Joined-is_quantifier, then-is_quantifier+else-not-last, else-is_quantifier}

-- the record at which a turn begins
step : (c : In-loop-at) → let s = c.args.s.now in ScanStep c.args.last (found_of (seek c.args.last nothing 0 (tree_of s))) s c.loop-at.at c.loop-at.found
step c = scan_step c.loop-at.invariant.0 c.loop-at-test.true

-- what the test of its kind says
kind : (c : After-is_quantifier) → is_quantifier (le2 c.args.s.now (c.loop-at.at + 2)) ≡ c.is_quantifier.result
kind c = sym (c.is_quantifier.ensures ∙ ap is_quantifier c.u16_at.ensures)

-- what is found with this record
noted : (c : Joined-is_quantifier) → c.if-is_quantifier.found ≡ cond c.is_quantifier.result (after c.args.last c.loop-at.found c.loop-at.at) c.loop-at.found
noted c = elim c.if-is_quantifier.branch [ then-is_quantifier+else-not-last w ↦ rw (w.found-is, w.if-is_quantifier.true, w.if-not-last.false) | else-is_quantifier w ↦ rw (w.found-is, w.if-is_quantifier.false) ]

stays : (c : Joined-is_quantifier) → c.args.last ≡ false → c.if-is_quantifier.found ≡ None
stays c none = elim c.if-is_quantifier.branch [ then-is_quantifier+else-not-last w ↦ absurd (false≢true (sym none ∙ w.if-not-last.false)) | else-is_quantifier w ↦ w.found-is ∙ c.loop-at.invariant.1 none ]

pub loop-at-init : goal.loop-at-init
loop-at-init c = (scan_begins c.args.last c.args.s.now c.requires, λ _. refl)

pub u16_at-requires : goal.u16_at-requires
u16_at-requires c = omega (arith, (step (goal.at.u16_at-requires c).In-loop-at).room)

pub returns-then-not-last : goal.returns-then-not-last
returns-then-not-last c =
    let next = (step (goal.at.returns-then-not-last c).In-loop-at).next in
    rw c.if-not-last.true (sym (scan-found (rw (c.if-not-last.true, kind (goal.at.returns-then-not-last c).After-is_quantifier ∙ c.if-is_quantifier.true, c.loop-at.invariant.1 c.if-not-last.true) at next)))

pub u16_at-requires-in-loop-at : goal.u16_at-requires-in-loop-at
u16_at-requires-in-loop-at c = omega (arith, (step (goal.at.u16_at-requires-in-loop-at c).In-loop-at).room)

pub loop-at-smaller : goal.loop-at-smaller
loop-at-smaller c = omega (arith, c.u16_at-in-loop-at.ensures, (step (goal.at.loop-at-smaller c).In-loop-at).long, c.loop-at-test.true)

pub loop-at-preserved : goal.loop-at-preserved
loop-at-preserved c = (
  rw (c.u16_at-in-loop-at.ensures, noted (goal.at.loop-at-preserved c).Joined-is_quantifier, ← kind (goal.at.loop-at-preserved c).After-is_quantifier) (step (goal.at.loop-at-preserved c).In-loop-at).next,
  stays (goal.at.loop-at-preserved c).Joined-is_quantifier,
)

pub returns : goal.returns
returns c = scan-ends c.loop-at.invariant.0 c.loop-at-test.false
