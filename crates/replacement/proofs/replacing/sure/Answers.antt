-- `sure`: the record of a list of no formulas is all of its bytes.
use Rattle.replacement.proofs.replacing.ReplaceLaws.{sure-put}
use Rattle.replacement.proofs.replacing.sure.Goals as goal

pub returns : goal.returns
returns c = sure-put c.args.v c.args.out.now _ c.requires c.put_list.ensures
