-- The numbers of both bounds are in range; where lo is a term too many, hi is not asked for.
use mathlib.Core.Path.{◌≡◌, sym, ◌∙◌, ap, subst}
use mathlib.Core.Bool.{Bool, cond}
use mathlib.Core.List.{List}
use native.Mathlib.Omega.{arith}
use Rattle.std.specs.Prelude.{Err}
use lib.IntN.{ℤ}
use borrow.Author.Tests.{eq-eqb}
use mir.Syntax.{w64}
use mir.Val.{to_z, of_z}
use Rattle.reading.specs.Limits.{M}
use Rattle.exact.specs.Numbers.{Within, Each}
use Rattle.exact.specs.Terms.{bound_of}
use Rattle.exact.proofs.Sizes.{rd, fits}
use Rattle.exact.proofs.Terms.{each-bound}
use Rattle.rules.specs.Points.{insert}
use Rattle.replacement.specs.Gathering.{Collected}
use Rattle.replacement.proofs.Outcomes.{full-is}
use Rattle.replacement.proofs.gathering.TermLaws.{collected-full, insert-grows}
use Rattle.replacement.proofs.gathering.of_window.Goals as goal

-- a bound is what its 64 bits say
bound : {z : ℤ} {t : List ℤ} → Within M z → t ≡ bound_of (to_z w64 (of_z w64 z)) → t ≡ bound_of z
bound w e = e ∙ ap bound_of (rd (fits w tt))

pub add-requires-clause-each : goal.add-requires-clause-each
add-requires-clause-each c = subst (Each M) (sym (bound c.requires.within c.bound_of.ensures)) (each-bound c.requires.within)

pub returns-in_err-add : goal.returns-in_err-add
returns-in_err-add c = let w = c.args.w in
    let us = c.args.ts.now.items in
    let vs = insert (bound_of w.lo) us in
    let h = subst (λ (t : List ℤ). Collected (tt {0}) (insert t us) c.add.new.ts.items (Err c.in_err-add.field-0.0)) (bound c.requires.within c.bound_of.ensures) c.in_err-add.ensures in
    subst (λ (b : Bool). Collected 14 (cond b (insert (bound_of w.hi) vs) us) c.add.new.ts.items c.from_residual.result) (sym (eq-eqb w.variable c.args.x c.if-w-x.true))
    (collected-full 14 (insert (bound_of w.hi) vs) c.add.new.ts.items c.from_residual.ensures.0 (omega (arith, full-is h, insert-grows (bound_of w.hi) vs)) h.rows)

pub add-requires-then-w-x-clause-each : goal.add-requires-then-w-x-clause-each
add-requires-then-w-x-clause-each c = subst (Each M) (sym (bound c.requires.within_2 c.bound_of-then-w-x.ensures)) (each-bound c.requires.within_2)
