-- `past`: whichever formulas stand there, what is left of them at p ends where they do.
use mathlib.Core.Path.{◌≡◌}
use mathlib.Core.List.{List, ◌++◌}
use Prim.Native.Nat.{ℕ, ◌+◌, ◌-◌}
use lib.ListN.{length, drop}
use Rattle.reading.specs.Limits.{tree_levels}
use Rattle.reading.specs.Formula.{Formulas, count, encodes, AllFit}
use Rattle.reading.proofs.Passing.{Passing}
use Rattle.reading.proofs.views.past.Given as goal

abbrev pub invariant-loop-k : goal.invariant-loop-k
invariant-loop-k l = (fs : Formulas) (u : List ℕ) → drop l.at l.s ≡ encodes fs ++ u → l.left ≡ count fs → AllFit tree_levels fs → Passing l.s (l.at + length (encodes fs)) l.p l.k

abbrev pub decreases-loop-k : goal.decreases-loop-k
decreases-loop-k l = length l.s - l.p
