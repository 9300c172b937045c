-- After i turns the first i numbers of the array are the atom's.
use Prim.Native.Nat.{ℕ, ◌+◌, ◌*◌}
use lib.IntN.{pos}
use Rattle.reading.specs.Bytes.{int4}
use Rattle.reading.proofs.Filling.{Filled}
use Rattle.reading.proofs.numbers.nine.Given as goal

abbrev pub invariant-loop-i : goal.invariant-loop-i
invariant-loop-i l = Filled (pos 0) (λ (j : ℕ). int4 l.s (4 + 4 * j)) 9 l.z-items l.i
