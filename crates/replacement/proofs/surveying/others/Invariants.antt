-- `others`: after i turns m is at least each number before i.
use Prim.Native.Nat.{ℕ, ◌≤◌, ◌<◌}
use lib.IntN.{nat_abs}
use Rattle.reading.specs.Limits.{M}
use Rattle.exact.specs.Terms.{left_at}
use Rattle.replacement.proofs.surveying.others.Given as goal

abbrev pub invariant-loop-i : goal.invariant-loop-i
invariant-loop-i l = ((j : ℕ) → j < l.i → nat_abs (left_at l.ns l.x j) ≤ l.m) × (l.m ≤ M)
