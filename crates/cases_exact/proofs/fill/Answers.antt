-- `fill`: what follows gets no longer, and no number of the row is the least i64.
use Rattle.std.proofs.Common.{arith}
use Rattle.exact.proofs.Sizes.{in-rd}
use Rattle.exact.proofs.Rows.{each_set}
use Rattle.cases_exact.proofs.fill.Goals as goal

pub loop-x-preserved : goal.loop-x-preserved
loop-x-preserved c = (omega (arith, c.integer-value.ensures.rest), each_set c.loop-x.x-index (in-rd c.integer-value.ensures.within tt) c.loop-x.invariant.1)
