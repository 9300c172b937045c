-- The copy at no point is the result; true and false are their records, and what is kept is put at the start of the buffer.
use mathlib.Core.Path.{refl}
use lib.ListN.{length}
use mathlib.Core.Bool.{false}
use Rattle.std.specs.Prelude.{Result}
use Rattle.reading.specs.Formula.{encode}
use Rattle.exact.specs.Atoms.{nowhere}
use Rattle.rules.specs.Pushing.{push}
use Rattle.rules.specs.Eliminate.{finished}
use Rattle.replacement.specs.Listing.{come_of, Wrote}
use Rattle.replacement.specs.Copying.{came}
use Rattle.replacement.specs.declared.Copied.{Copied}
use Rattle.replacement.specs.declared.TooBig.{TooBig}
use Rattle.elimination.specs.Stepping.{held}
use Rattle.elimination.proofs.finishing.Results.{finish-wrote, finish-sure, finish-long, finish-put, finish-never}
use Rattle.elimination.proofs.finishing.finish_in.Goals as goal
use Rattle.elimination.proofs.finishing.finish_in.Goals.{After-copied}

-- what was copied is the result, true or false
wrote : (c : After-copied) {r : Result Copied TooBig} → let f = held c.args.len c.args.cur.now in
    Wrote (came nowhere (push false f)) (length (encode f)) 0 c.args.out.now c.copied.new.out r → Wrote (come_of (finished f)) (length (encode f)) 0 c.args.out.now c.copied.new.out r
wrote c = finish-wrote (held c.args.len c.args.cur.now) nowhere refl c.requires.unquantified.numbers

pub returns-in-Decided : goal.returns-in-Decided
returns-in-Decided c = finish-sure (held c.args.len c.args.cur.now) (wrote (goal.at.returns-in-Decided c).After-copied c.in-Ok.ensures) c.in-Decided.v c.args.cur.now c.put_list.new.d c.requires.unquantified.stands.long c.in-Decided.is c.put_list.ensures

pub returns-then-e-le-RESULT_BYTES : goal.returns-then-e-le-RESULT_BYTES
returns-then-e-le-RESULT_BYTES c = finish-put (held c.args.len c.args.cur.now) (wrote (goal.at.returns-then-e-le-RESULT_BYTES c).After-copied c.in-Ok.ensures) c.in-Kept.e c.args.cur.now c.copy_over.new.d c.in-Kept.is c.if-e-le-RESULT_BYTES.true c.copy_over.ensures

pub returns-else-e-le-RESULT_BYTES : goal.returns-else-e-le-RESULT_BYTES
returns-else-e-le-RESULT_BYTES c = finish-long (held c.args.len c.args.cur.now) (wrote (goal.at.returns-else-e-le-RESULT_BYTES c).After-copied c.in-Ok.ensures) c.in-Kept.e c.args.cur.now c.in-Kept.is c.if-e-le-RESULT_BYTES.false

pub unreachable-requires : goal.unreachable-requires
unreachable-requires c = finish-never (held c.args.len c.args.cur.now) (wrote (goal.at.unreachable-requires c).After-copied c.in_default.ensures)
