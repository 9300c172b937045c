-- `paste`: what is copied stands between what was before and after it.
use Rattle.std.proofs.Common.{arith}
use Rattle.writing.proofs.Lay.{lay-mid}
use Rattle.writing.proofs.paste.Goals as goal

pub returns : goal.returns
returns c = lay-mid _ _ _ _ _ c.copy_from_slice.ensures.after (omega arith) c.requires
