-- The sum of nine products, from the front; its size is a law, not part of what the loop keeps.
use mathlib.Core.Path.{sym, ◌∙◌, ap₂, subst}
use Prim.Native.Nat.{◌+◌}
use native.Mathlib.Omega.{arith}
use lib.IntN.{ℤ, ◌+ℤ◌, ◌*ℤ◌}
use mir.Syntax.{w64}
use mir.Val.{to_z}
use Rattle.exact.proofs.Sizes.{rd, ok, in-more}
use Rattle.exact.proofs.Rows.{rd-at, in-at}
use Rattle.testing.proofs.TestLaws.{Summed, summed-none, summed-more, summed-done}
use Rattle.testing.proofs.sum.Goals as goal

pub loop-i-init : goal.loop-i-init
loop-i-init c = summed-none c.args.ns c.args.w

pub added-t-requires : goal.added-t-requires
added-t-requires c = record { within = in-more c.loop-i.invariant.small (omega arith); within_2 = in-at c.requires.each tt c.loop-i.i; within_3 = in-at c.requires.each_2 tt c.loop-i.i }

pub loop-i-preserved : goal.loop-i-preserved
loop-i-preserved c = let i = c.loop-i.i in
    subst (Summed c.args.ns c.args.w (i + 1))
    (sym (rd (ok c.added-t.result c.added-t.type_inv) ∙ c.added-t.ensures ∙ ap₂ (λ (x y : ℤ). to_z w64 c.loop-i.t-bits +ℤ x *ℤ y) (rd-at c.requires.each tt i) (rd-at c.requires.each_2 tt i)))
    (summed-more c.loop-i-test.true c.requires.each c.requires.each_2 c.loop-i.invariant)

pub returns : goal.returns
returns c = summed-done (omega arith) (omega arith) c.loop-i.invariant
