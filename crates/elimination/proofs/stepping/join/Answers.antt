-- `join`: 12 is judged before anything moves; then the two copies of `join-fine`.
use native.Mathlib.Omega.{arith}
use Rattle.elimination.proofs.stepping.Joining.{join-over, join-fine}
use Rattle.elimination.proofs.stepping.join.Goals as goal

pub returns-then-tail-o : goal.returns-then-tail-o
returns-then-tail-o c = let a = c.args in join-over a.o a.r a.cur.now a.out.now a.tail.now (omega arith)

pub returns : goal.returns
returns c = let a = c.args in join-fine a.o a.r a.cur.now a.out.now a.tail.now (omega arith) c.requires.result_bytes_in_bounds.0 (omega arith) c.copy_over.new.d c.copy_over-2.new.d c.copy_over.ensures c.copy_over-2.ensures
