-- `rows`: before each turn the midpoints of the terms from there on are still to come (`Way`).
use mathlib.Core.Bool.{false}
use lib.ListN.{drop}
use Rattle.reading.specs.Reading.{tree_of}
use Rattle.rules.specs.Points.{all_midpoints}
use Rattle.rules.specs.Pushing.{push}
use Rattle.replacement.proofs.trying.PointLaws.{Way}
use Rattle.replacement.proofs.Source.rows.Given as goal

abbrev pub invariant-loop-i : goal.invariant-loop-i
invariant-loop-i l = Way l.self.body l.initial.d l.d (all_midpoints l.self.body.x l.ts) (all_midpoints l.self.body.x (drop l.i l.ts)) (push false (tree_of l.self.bytes.now)) l.initial.out l.out
