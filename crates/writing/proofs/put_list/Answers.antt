-- `put_list`: length, kind and count, laid one after the other.
use Rattle.writing.proofs.Lay.{lay-list}
use Rattle.writing.proofs.put_list.Goals as goal

pub returns : goal.returns
returns c = lay-list _ _ _ _ _ _ _ _ c.list_no.ensures c.put_u16.ensures c.put_u16-2.ensures c.put_u16-3.ensures
