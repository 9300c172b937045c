-- `replaced`: a list that is over, and one that is closed.
use mathlib.Core.Path.{sym, ◌∙◌}
use native.Mathlib.Omega.{arith}
use Rattle.replacement.proofs.replacing.ReplaceLaws.{put-large, closed_decided, closed-kept}
use Rattle.replacement.proofs.replacing.replaced.Goals as goal

pub returns-then-c-2 : goal.returns-then-c-2
returns-then-c-2 c = λ all x gs o₀ l. let f = sym l.fixed ∙ c.if-c.false in put-large all x gs _ _ f ((l.live f).large c.if-c-2.true) (omega arith)

pub returns-in-Decided : goal.returns-in-Decided
returns-in-Decided c = λ all x gs o₀ l.
    closed_decided all x gs c.args.c o₀ c.args.out.now c.closed.new.out c.closed.result l c.if-c.false c.if-c-2.false c.closed.ensures _ _ _ c.in-Decided.is c.sure-in-Decided.ensures

pub returns-in-Kept : goal.returns-in-Kept
returns-in-Kept c = λ all x gs o₀ l.
    closed-kept all x gs c.args.c o₀ c.args.out.now c.closed.new.out c.closed.result l c.if-c.false c.if-c-2.false c.closed.ensures _ c.in-Kept.is
