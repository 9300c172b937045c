-- `leaf`: an atom that stays is pasted; any other is taken at the point.
use mathlib.Core.Path.{sym, ◌∙◌, ap, subst}
use native.Mathlib.Omega.{arith}
use lib.Seq.{length-take-le}
use Rattle.reading.specs.Limits.{M}
use Rattle.reading.specs.Reading.{tree_of}
use Rattle.reading.specs.Views.{IsAtom, comparison_in}
use Rattle.reading.proofs.Viewing.{shape-atom}
use Rattle.reading.proofs.Walking.{AtomBytes, atom-is}
use Rattle.exact.specs.Numbers.{Each}
use Rattle.exact.specs.Atoms.{spot_of}
use Rattle.rules.specs.Pushing.{push_atom}
use Rattle.replacement.proofs.copying.Settling.{retold}
use Rattle.exact.proofs.Leaves.{numbers-small}
use Rattle.replacement.proofs.copying.Leaves.{atom-pushed, plain-wrote}
use Rattle.replacement.proofs.Pass.leaf.Goals as goal
use Rattle.replacement.proofs.Pass.leaf.Goals.{Start}

-- it is an atom, of forty bytes
an-atom : (c : Start) → IsAtom (tree_of c.args.s.now)
an-atom c = shape-atom (tree_of c.args.s.now) c.requires.s_value

record_of : (c : Start) → AtomBytes c.args.s.now (tree_of c.args.s.now)
record_of c = atom-is (tree_of c.args.s.now) c.requires.asks.begins (an-atom c)

pub slice_bounds-paste-end : goal.slice_bounds-paste-end
slice_bounds-paste-end c = sym (length-take-le 40 c.args.s.now (record_of (goal.at.slice_bounds-paste-end c).Start).room)

pub paste-requires : goal.paste-requires
paste-requires c = let b = record_of (goal.at.paste-requires c).Start in
    omega (arith, c.requires.asks.room, b.long, length-take-le 40 c.args.s.now b.room)

pub returns-then-stays : goal.returns-then-stays
returns-then-stays c = plain-wrote c.args.out.now c.paste.new.d c.requires.asks (an-atom (goal.at.returns-then-stays c).Start) (c.stays.ensures c.if-stays.true) c.paste.ensures

pub literal-requires-clause-each : goal.literal-requires-clause-each
literal-requires-clause-each c = subst (Each M) (sym c.row_at.ensures) (numbers-small (tree_of c.args.s.now) c.requires.asks.begins (an-atom (goal.at.literal-requires-clause-each c).Start))

pub literal-requires-clause-to_in_bounds : goal.literal-requires-clause-to_in_bounds
literal-requires-clause-to_in_bounds c = omega (arith, (record_of (goal.at.literal-requires-clause-to_in_bounds c).Start).long, c.requires.asks.room)

pub returns : goal.returns
returns c = let f = tree_of c.args.s.now in
    retold (spot_of c.args.self.now.point) (ap (push_atom c.args.neg (comparison_in c.args.c)) c.row_at.ensures ∙ atom-pushed f c.requires.s_value c.args.neg)
    (sym (record_of (goal.at.returns c).Start).long) c.literal.ensures
