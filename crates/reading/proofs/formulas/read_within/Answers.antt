-- 2 before the formula is read, 9 after it, and between them what reading the formula says.
use mathlib.Core.Path.{sym}
use lib.ListN.{length}
use borrow.Author.Tests.{lt-ltb, le-ltb}
use Rattle.std.proofs.lemmas.Result.{err_from_is_err_and}
use Rattle.reading.specs.Reading.{formula_in}
use Rattle.reading.specs.Answers.{reading}
use Rattle.reading.proofs.Whole.{whole-done, whole-refused}
use Rattle.reading.proofs.formulas.read_within.Goals as goal

pub returns-then-bytes-s : goal.returns-then-bytes-s
unfolding reading
returns-then-bytes-s c = simp (lt-ltb _ _ c.if-bytes-s.true)

pub returns-in_err-used : goal.returns-in_err-used
unfolding reading
returns-in_err-used c = let a = c.args in let p = err_from_is_err_and c.from_residual.result c.from_residual.ensures.1 in
    rw (p.1, p.2, le-ltb _ _ c.if-bytes-s.false) (sym (whole-refused (length a.s.now) _ _ (formula_in a.levels a.s.now) (sym c.in_err-used.ensures)))

pub returns-then-used-s : goal.returns-then-used-s
unfolding reading
returns-then-used-s c = let a = c.args in
    simp (le-ltb _ _ c.if-bytes-s.false, whole-done (length a.s.now) _ (formula_in a.levels a.s.now) (sym c.in_ok-used.ensures), lt-ltb _ _ c.if-used-s.true)

pub returns : goal.returns
unfolding reading
returns c = let a = c.args in
    simp (le-ltb _ _ c.if-bytes-s.false, whole-done (length a.s.now) _ (formula_in a.levels a.s.now) (sym c.in_ok-used.ensures), le-ltb _ _ c.if-used-s.false)
