-- `begun`: the sheet stands at the start of the result buffer, and is carried on from there; nothing is counted yet.
use mathlib.Core.Path.{refl, sym, ap}
use native.Mathlib.Omega.{arith}
use mathlib.Core.List.{◌++◌}
use lib.ListN.{length, drop}
use Rattle.reading.specs.Formula.{Formula}
use Rattle.reading.specs.Reading.{tree_of}
use Rattle.rules.specs.Steps.{eliminated}
use Rattle.rules.specs.Counts.{counts_of}
use Rattle.elimination.specs.Stepping.{held}
use Rattle.elimination.specs.declared.Tally.{Tally}
use Rattle.elimination.proofs.eliminating.Carrying.{Pasted, pasted, carries-from}
use Rattle.elimination.proofs.eliminating.CountLaws.{few-sheet}
use Rattle.elimination.proofs.eliminating.begun.Goals as goal
use Rattle.elimination.proofs.eliminating.begun.Goals.{After-copy_over}

-- the sheet is in the buffer
sheet-in : (c : After-copy_over) → Pasted c.args.sheet.now c.args.res.now (c.copy_over.new.d ++ drop (length c.args.sheet.now) c.args.res.now)
sheet-in c = pasted c.args.sheet.now c.args.res.now c.copy_over.new.d c.requires.accepted c.requires.result_bytes_in_bounds.0 c.copy_over.ensures

pub carried-requires : goal.carried-requires
carried-requires c =
    let p = sheet-in (goal.at.carried-requires c).After-copy_over in
    record {
      stands = p.stands;
      wide = p.wide;
      room = c.requires.result_bytes_in_bounds.1;
      few = omega (arith, few-sheet c.args.sheet.now c.requires.accepted, ap (λ (t : Tally). t.steps) c.requires.untallied, ap (λ (f : Formula). (counts_of f).finished) p.tree);
    }

pub returns-clause-carries : goal.returns-clause-carries
returns-clause-carries c =
    let p = sheet-in (goal.at.returns-clause-carries c).After-copy_over in
    let n = length c.args.sheet.now in
    carries-from (tree_of c.args.sheet.now) c.args.res.now _ c.args.work.now c.args.work.now p.rest refl (held n _) n (length c.args.room.now) c.carried.new.res c.carried.new.work c.carried.result (ap eliminated (sym p.tree)) c.carried.ensures.carries
