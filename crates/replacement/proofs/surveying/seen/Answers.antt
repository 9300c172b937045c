-- `seen`: what is asked of an atom's numbers, and what is seen of it.
use mathlib.Core.Path.{sym, subst}
use mathlib.Core.List.{List}
use lib.IntN.{ℤ}
use Rattle.reading.specs.Limits.{M}
use Rattle.reading.specs.Formula.{Comparison, atom}
use Rattle.reading.specs.Reading.{tree_of}
use Rattle.reading.specs.Views.{IsAtom}
use Rattle.reading.proofs.Viewing.{shape-atom}
use Rattle.exact.specs.Numbers.{Each}
use Rattle.replacement.specs.Surveying.{Sees}
use Rattle.exact.proofs.Leaves.{numbers-small}
use Rattle.replacement.proofs.surveying.SurveyLaws.{leaf-atom}
use Rattle.replacement.proofs.surveying.seen.Goals as goal
use Rattle.replacement.proofs.surveying.seen.Goals.{In-Atom}

an-atom : (c : In-Atom) → IsAtom (tree_of c.args.s.now)
an-atom c = shape-atom (tree_of c.args.s.now) (sym c.in-Atom.ensures)

pub of_atom-requires-clause-each : goal.of_atom-requires-clause-each
of_atom-requires-clause-each c = subst (Each M) (sym c.row_at.ensures) (numbers-small (tree_of c.args.s.now) c.requires.begins (an-atom (goal.at.of_atom-requires-clause-each c).In-Atom))

pub returns-in-Atom : goal.returns-in-Atom
returns-in-Atom c = (
  c.of_atom.ensures.0,
  leaf-atom c.args.x c.of_atom.result (tree_of c.args.s.now) (an-atom (goal.at.returns-in-Atom c).In-Atom)
      (subst (λ (ns : List ℤ). (k : Comparison) → Sees c.args.x c.of_atom.result (atom k ns)) c.row_at.ensures c.of_atom.ensures.1),
)
