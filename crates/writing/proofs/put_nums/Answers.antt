-- `put_nums`: after i turns, the numbers that are left, laid over what is there now, give the whole.
use Rattle.std.proofs.Common.{arith}
use Rattle.exact.proofs.Rows.{rd-at}
use Rattle.writing.proofs.Lay.{nums-turn, nums-end}
use Rattle.writing.proofs.put_nums.Goals as goal

pub loop-i-preserved : goal.loop-i-preserved
loop-i-preserved c = nums-turn _ _ _ _ _ _ _ (omega arith) (rd-at c.requires.each tt c.loop-i.i) c.put_int.ensures c.loop-i.invariant

pub returns : goal.returns
returns c = nums-end c.args.k.now _ _ _ _ (omega arith) c.loop-i.invariant
