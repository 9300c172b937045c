-- `copy_over`: after i turns, the bytes that are left, laid over what is there now, give the whole.
use Rattle.std.proofs.Common.{◌≡◌, drop}
use Rattle.writing.specs.Writing.{lay}
use Rattle.writing.proofs.copy_over.Given as goal

abbrev pub invariant-loop-i : goal.invariant-loop-i
invariant-loop-i l = lay l.i (drop l.i l.b) l.d ≡ lay 0 l.b l.initial.d
