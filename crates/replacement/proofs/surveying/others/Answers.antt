-- `others`: a turn counts one number more, unless it is that of x.
use mathlib.Core.Path.{◌≡◌, ◌∙◌, ap}
use native.Mathlib.Omega.{arith}
use lib.IntN.{nat_abs}
use Rattle.exact.specs.Numbers.{at}
use Rattle.exact.specs.Terms.{left_at}
use Rattle.exact.proofs.Rows.{rd-at}
use Rattle.replacement.proofs.surveying.SurveyLaws.{left-more, left-all, left-other, left-self}
use Rattle.replacement.proofs.surveying.others.Goals as goal
use Rattle.replacement.proofs.surveying.others.Goals.{then-i-x, else-i-x}

pub loop-i-preserved : goal.loop-i-preserved
loop-i-preserved c = let ns = c.args.ns.now in
    let x = c.args.x in
    let i = c.loop-i.i in
    let h = c.loop-i.invariant in
    let k = (c.requires.at i).size in
    elim c.if-i-x.branch [
      | then-i-x w ↦
          let n : nat_abs (left_at ns x i) ≡ nat_abs (at ns i) = ap nat_abs (left-other ns x i w.if-i-x.true) in
          let v : w.abs.result ≡ nat_abs (at ns i) = w.abs.ensures ∙ ap nat_abs (rd-at c.requires tt i) in
          (left-more ns x h.0 (omega (arith, w.max-m.ensures, w.m-is)) (omega (arith, w.max-m.ensures, w.m-is, n, v)), omega (arith, w.max-m.ensures, w.m-is, v, k, h.1))
      | else-i-x w ↦
          let n : nat_abs (left_at ns x i) ≡ 0 = ap nat_abs (left-self ns x i w.if-i-x.false) in
          (left-more ns x h.0 (omega (arith, w.m-is)) (omega (arith, n)), omega (arith, w.m-is, h.1))
    ]

pub returns : goal.returns
returns c = (left-all c.args.ns.now c.args.x c.loop-i-test.false c.loop-i.invariant.0, c.loop-i.invariant.1)
