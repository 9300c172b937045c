-- `atom`: by what the arithmetic answers, and only a new atom that fits is written.
use mathlib.Core.Path.{◌≡◌, refl, sym, ◌∙◌, ap}
use Prim.Native.Nat.{ℕ}
use lib.ListN.{length}
use borrow.Author.Rules.{rules}
use Rattle.reading.specs.Formula.{atom}
use Rattle.reading.specs.Views.{comparison_in}
use Rattle.exact.specs.Atoms.{spot_of, put_of, atom_at}
use Rattle.exact.specs.declared.Put.{Put}
use Rattle.writing.specs.Writing.{lay, atom_bytes}
use Rattle.replacement.specs.Copying.{came}
use Rattle.replacement.proofs.copying.Settling.{come_as, came-atom, wrote-truth, wrote-big, wrote-atom, new-each, new-nine}
use Rattle.replacement.proofs.copying.atom.Goals as goal
use Rattle.replacement.proofs.copying.atom.Goals.{Start}

-- how the atom comes out, by the answer
comes : (c : Start) {r : Put} → let a = c.args in r ≡ put_of (atom_at (spot_of a.q) (comparison_in a.c) a.ns) → came (spot_of a.q) (atom (comparison_in a.c) a.ns) ≡ come_as (comparison_in a.c) r
comes c = came-atom (spot_of c.args.q) (comparison_in c.args.c) c.args.ns

pub put_atom-requires-clause-each : goal.put_atom-requires-clause-each
put_atom-requires-clause-each c = new-each (spot_of c.args.q) (comparison_in c.args.c) c.args.ns (sym c.in-New.ensures)

pub returns-in-Large : goal.returns-in-Large
returns-in-Large c = wrote-big c.args.used c.args.to c.args.out.now c.args.out.now refl (comes (goal.at.returns-in-Large c).Start c.in-Large.ensures) refl

pub returns-in-Decided : goal.returns-in-Decided
returns-in-Decided c = wrote-truth _ c.args.used c.args.to c.args.out.now (comes (goal.at.returns-in-Decided c).Start c.in-Decided.ensures)

pub returns-in-New : goal.returns-in-New
returns-in-New c =
    let n : length c.args.ns ≡ 9 = search rules in
    wrote-atom c.args.c c.in-New.k c.args.used c.args.to c.args.out.now c.put_atom.new.d (comes (goal.at.returns-in-New c).Start c.in-New.ensures)
    (new-nine (spot_of c.args.q) (comparison_in c.args.c) c.args.ns n (sym c.in-New.ensures)) c.requires.atom_size_in_bounds (c.put_atom.ensures ∙ ap (λ (k : ℕ). lay c.args.to (atom_bytes k c.in-New.k) c.args.out.now) c.number.ensures)
