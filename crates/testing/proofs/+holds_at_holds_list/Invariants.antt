-- A formula at the values: the walk of `Walking`, and what is true of the members so far. The bytes that are left fall at each call.
use Prim.Native.Nat.{◌+◌, ◌-◌}
use lib.ListN.{length}
use Rattle.testing.proofs.TestLaws.{TestLoop}
use Rattle.testing.proofs.+holds_at_holds_list.Given as goal

abbrev pub invariant-holds_list-loop : goal.invariant-holds_list-loop
invariant-holds_list-loop l = TestLoop l.s l.w l.all l.holds l.used (l.end - l.counter)

abbrev pub decreases-holds_at : goal.decreases-holds_at
decreases-holds_at l = length l.s.now + length l.s.now + 1

abbrev pub decreases-holds_list : goal.decreases-holds_list
decreases-holds_list l = length l.s.now + length l.s.now
