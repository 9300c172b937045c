-- Before each turn the answer for all n numbers is the answer for those that are left.
use mathlib.Core.Path.{◌≡◌}
use Prim.Native.Nat.{◌+◌, ◌-◌, ◌*◌}
use Rattle.reading.specs.Records.{all_m}
use Rattle.reading.proofs.numbers.nums_ok.Given as goal

abbrev pub invariant-loop-i : goal.invariant-loop-i
invariant-loop-i g l = all_m g.row.N l.at l.s ≡ all_m (g.row.N - l.i) (l.at + 4 * l.i) l.s
