-- `made`: the copies, then the list rule; what stopped them on the way.
use mathlib.Core.Path.{◌≡◌, sym, subst}
use native.Mathlib.Omega.{arith}
use lib.ListN.{length}
use Rattle.reading.specs.Reading.{tree_of}
use Rattle.replacement.specs.Replacing.{MadeOf}
use Rattle.replacement.proofs.Outcomes.{err-same}
use Rattle.replacement.proofs.replacing.ReplaceLaws.{Copying, copying, copying-closable, copying-put, made-stops}
use Rattle.replacement.proofs.Source.made.Goals as goal
use Rattle.replacement.proofs.Source.made.Goals.{In_ok-all_copies}

copies : (c : In_ok-all_copies) → let y = c.args.self.now in Copying c.args.all y.body.x (tree_of y.bytes.now) c.in_ok-all_copies.field-0 c.args.out.now c.all_copies.new.out
copies c = copying c.args.all c.args.self.now.body.x (tree_of c.args.self.now.bytes.now) c.args.ts.now c.requires.table.1 _ c.args.out.now c.all_copies.new.out c.in_ok-all_copies.ensures

pub returns-in_err-all_copies : goal.returns-in_err-all_copies
returns-in_err-all_copies c = let y = c.args.self.now in
    subst (MadeOf c.args.all y.body (tree_of y.bytes.now) (length c.args.out.now) c.all_copies.new.out) (sym (err-same c.from_residual.result c.from_residual.ensures))
    (made-stops c.args.all y.body (tree_of y.bytes.now) c.args.ts.now c.requires.table.1 (length c.args.out.now) c.args.out.now c.all_copies.new.out _ c.in_err-all_copies.ensures)

pub replaced-requires : goal.replaced-requires
replaced-requires c = let same : length c.all_copies.new.out ≡ length c.args.out.now = omega arith in
    copying-closable (copies (goal.at.replaced-requires c).In_ok-all_copies) (omega (arith, same, c.requires.copiable.room))

pub returns : goal.returns
returns c = let g = copies (goal.at.returns c).In_ok-all_copies in
    (g.numbers, copying-put g c.replaced.new.out c.replaced.result c.replaced.ensures)
