-- Before each turn the reply for the whole formula is the reply for the formulas that are left, moved on by the bytes so far.
-- The levels fall at each call.
use mathlib.Core.Path.{◌≡◌}
use lib.ListN.{length, drop}
use Prim.Native.Nat.{◌≤◌, ◌-◌}
use Rattle.reading.specs.Reading.{formulas_in, formula_in}
use Rattle.reading.specs.Answers.{reply_of}
use Rattle.reading.proofs.Reading.{shift}
use Rattle.reading.proofs.formulas.+formula_at.Given as goal

abbrev pub invariant-loop : goal.invariant-loop
invariant-loop l = (l.at ≤ length l.s)
    × (reply_of (formula_in l.levels l.s) ≡ shift l.at (reply_of (formulas_in (formula_in (l.levels - 1)) (l.end - l.counter) (drop l.at l.s))))

abbrev pub decreases-formula_at : goal.decreases-formula_at
decreases-formula_at l = l.levels
