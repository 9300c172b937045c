-- `put`: after i turns, the bytes that are left, laid over what is there now, give the whole.
use Rattle.std.proofs.Common.{arith}
use Rattle.writing.proofs.Lay.{bytes-turn, bytes-end}
use Rattle.writing.proofs.put.Goals as goal

pub loop-i-preserved : goal.loop-i-preserved
loop-i-preserved g c = bytes-turn c.args.b.now c.loop-i.i _ _ _ (omega arith) c.loop-i.invariant

pub returns : goal.returns
returns g c = bytes-end c.args.b.now c.loop-i.i _ _ _ (omega arith) c.loop-i.invariant
