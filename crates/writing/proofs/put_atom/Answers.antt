-- `put_atom`: length, kind and numbers, laid one after the other.
use Rattle.writing.proofs.Lay.{lay-atom}
use Rattle.writing.proofs.put_atom.Goals as goal

pub returns : goal.returns
returns c = lay-atom _ _ _ _ _ _ _ c.put_u16.ensures c.put_u16-2.ensures c.put_nums.ensures
