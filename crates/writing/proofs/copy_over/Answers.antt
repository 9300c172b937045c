-- `copy_over`: after i turns, the bytes that are left, laid over what is there now, give the whole.
use mathlib.Core.Path.{◌∙◌}
use Rattle.std.proofs.Common.{arith}
use Rattle.writing.proofs.Lay.{lay-turn, lay-end, lay-over}
use Rattle.writing.proofs.copy_over.Goals as goal

pub loop-i-preserved : goal.loop-i-preserved
loop-i-preserved c = lay-turn c.args.b.now c.loop-i.i c.loop-i.i _ _ (omega arith) c.loop-i.invariant

pub returns : goal.returns
returns c = lay-end c.args.b.now c.loop-i.i c.loop-i.i _ _ (omega arith) c.loop-i.invariant ∙ lay-over c.args.b.now c.args.d.now c.requires
