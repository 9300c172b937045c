-- `row_of`: before each turn the midpoints with the terms from there on are still to come (`Way`).
use mathlib.Core.Bool.{false}
use lib.ListN.{drop}
use Rattle.reading.specs.Reading.{tree_of}
use Rattle.rules.specs.Points.{midpoints}
use Rattle.rules.specs.Pushing.{push}
use Rattle.replacement.proofs.trying.PointLaws.{Way}
use Rattle.replacement.proofs.Source.row_of.Given as goal

abbrev pub invariant-loop-u : goal.invariant-loop-u
invariant-loop-u l = Way l.self.body l.initial.d l.d (midpoints l.self.body.x l.t l.us) (midpoints l.self.body.x l.t (drop l.u-index l.us)) (push false (tree_of l.self.bytes.now)) l.initial.out l.out
