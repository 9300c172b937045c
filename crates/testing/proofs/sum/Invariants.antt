-- The sum of nine products, from the front; its size is a law, not part of what the loop keeps.
use Rattle.testing.proofs.TestLaws.{Summed}
use Rattle.testing.proofs.sum.Given as goal

abbrev pub invariant-loop-i : goal.invariant-loop-i
invariant-loop-i l = Summed l.fn.ns l.w l.i l.t
