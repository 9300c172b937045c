use mathlib.Core.Path.{sym}
use native.Mathlib.Omega.{arith}
use lib.ListN.{drop, length-drop}
use native.Mathlib.Nat.{sub-zero}
use Prim.Native.Nat.{◌-◌}
use Rattle.reading.specs.Reading.{formula_in}
use Rattle.reading.specs.Answers.{reply_of}
use Rattle.reading.proofs.Reading.{formula-bad, formula-deep, formula-open, open-within, part-drop, done-within, refused-within, turn-done, turn-refused, turn_last}
use Rattle.reading.proofs.formulas.+formula_at.Goals as goal

pub returns-in-Err : goal.returns-in-Err
returns-in-Err t c = sym (formula-bad c.args.levels c.args.s.now _ (sym c.in-Err.ensures))

pub returns-then-levels-eq0 : goal.returns-then-levels-eq0
returns-then-levels-eq0 t c = rw c.if-levels-eq0.true (sym (formula-deep c.args.s.now _ _ _ (sym c.in-Ok.ensures)))

pub loop-init : goal.loop-init
loop-init t c = let h = sym c.in-Ok.ensures in
    (rw c.bytes-at.ensures (open-within c.args.s.now _ _ _ h), rw (sub-zero c.in-Ok.record.follow, c.bytes-at.ensures) (formula-open c.args.levels c.args.s.now _ _ _ c.if-levels-eq0.false h))

pub overflow_add-at : goal.overflow_add-at
overflow_add-at t c = omega (arith, done-within (c.args.levels - 1) (drop c.loop.at c.args.s.now) (sym (rw (part-drop c.loop.at c.args.s.now) at c.in-Ok-formula_at.ensures)), length-drop c.loop.at c.args.s.now, c.well_formed.0.0, c.loop.invariant.0)

pub overflow_add-result : goal.overflow_add-result
overflow_add-result t c = omega (arith, refused-within (c.args.levels - 1) (drop c.loop.at c.args.s.now) (sym (rw (part-drop c.loop.at c.args.s.now) at c.in-Err-formula_at.ensures)), length-drop c.loop.at c.args.s.now, c.well_formed.0.0, c.loop.invariant.0)

pub returns-in-Err-formula_at : goal.returns-in-Err-formula_at
returns-in-Err-formula_at t c =
    sym (turn-refused (c.args.levels - 1) c.args.s.now c.loop.at c.in-Ok.record.follow c.loop.counter _ _ (reply_of (formula_in c.args.levels c.args.s.now)) c.loop-test.true c.loop.invariant.1 (sym (rw (part-drop c.loop.at c.args.s.now) at c.in-Err-formula_at.ensures)))

pub loop-preserved : goal.loop-preserved
loop-preserved t c =
    let h = sym (rw (part-drop c.loop.at c.args.s.now) at c.in-Ok-formula_at.ensures) in (
      omega (arith, done-within (c.args.levels - 1) (drop c.loop.at c.args.s.now) h, length-drop c.loop.at c.args.s.now, c.loop.invariant.0),
      turn-done (c.args.levels - 1) c.args.s.now c.loop.at c.in-Ok.record.follow c.loop.counter _ (reply_of (formula_in c.args.levels c.args.s.now)) c.loop-test.true c.loop.invariant.1 h,
    )

pub returns : goal.returns
returns t c = sym (turn_last (c.args.levels - 1) c.args.s.now c.loop.at c.in-Ok.record.follow c.loop.counter (reply_of (formula_in c.args.levels c.args.s.now)) c.loop-test.false c.loop.invariant.1)
