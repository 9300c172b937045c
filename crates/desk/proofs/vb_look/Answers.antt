-- The part that is looked at is that of the call below.
use Rattle.desk.proofs.vb_look.Goals as goal

pub returns : goal.returns
returns c = c.look_part-part.ensures
