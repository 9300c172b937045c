-- `copied` and `copied_list`, which call each other on parts of the source: a part is shorter, and a list counts below the formula that it is. The loop
-- over the members keeps a `Turn`; each goal is a law of it.
use Prim.Native.Nat.{◌+◌, ◌-◌}
use lib.ListN.{length}
use Rattle.replacement.proofs.copying.Turn.{Goes}
use Rattle.replacement.proofs.Pass.+copied_copied_list.Given as goal

abbrev pub invariant-copied_list-loop-i : goal.invariant-copied_list-loop-i
invariant-copied_list-loop-i l = Goes l.s l.neg l.self.way l.self.point l.to l.self.marks.now l.initial.out l.out l.l l.at (l.n - l.i)

abbrev pub decreases-copied : goal.decreases-copied
decreases-copied l = length l.s.now + length l.s.now + 1

abbrev pub decreases-copied_list : goal.decreases-copied_list
decreases-copied_list l = length l.s.now + length l.s.now
