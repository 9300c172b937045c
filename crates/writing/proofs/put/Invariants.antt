-- `put`: after i turns, the bytes that are left, laid over what is there now, give the whole.
use Rattle.std.proofs.Common.{◌≡◌, ◌+◌, drop}
use Rattle.writing.specs.Writing.{lay}
use Rattle.writing.proofs.put.Given as goal

abbrev pub invariant-loop-i : goal.invariant-loop-i
invariant-loop-i g l = lay (l.at + l.i) (drop l.i l.b) l.d ≡ lay l.at l.b l.initial.d
