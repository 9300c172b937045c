-- `put_nums`: after i turns, the numbers that are left, laid over what is there now, give the whole.
use Rattle.std.proofs.Common.{◌≡◌, ◌+◌, ◌*◌, drop}
use Rattle.reading.specs.Bytes.{int_bytes}
use Rattle.writing.specs.Writing.{lay}
use Rattle.writing.proofs.put_nums.Given as goal

abbrev pub invariant-loop-i : goal.invariant-loop-i
invariant-loop-i l = lay (l.at + 4 * l.i) (int_bytes (drop l.i l.k)) l.d ≡ lay l.at (int_bytes l.k) l.initial.d
