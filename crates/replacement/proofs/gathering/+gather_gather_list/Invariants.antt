-- The terms of a formula: the walk of `Walking`, with the table as it is so far. The bytes that are left fall at each call.
use Prim.Native.Nat.{◌+◌, ◌-◌}
use lib.ListN.{length}
use Rattle.replacement.proofs.gathering.TermLaws.{GatherLoop}
use Rattle.replacement.proofs.gathering.+gather_gather_list.Given as goal

abbrev pub invariant-gather_list-loop : goal.invariant-gather_list-loop
invariant-gather_list-loop l = GatherLoop l.s l.x l.initial.ts.items l.ts.items l.at (l.end - l.counter)

abbrev pub decreases-gather : goal.decreases-gather
decreases-gather l = length l.s.now + length l.s.now + 1

abbrev pub decreases-gather_list : goal.decreases-gather_list
decreases-gather_list l = length l.s.now + length l.s.now
