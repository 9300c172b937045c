-- `left` meets its contract: 0 at the variable left out, and the number itself elsewhere. Assumes nothing.
use Rattle.std.proofs.Common.{rules}
use Rattle.exact.proofs.Terms.{left_out, left_in}
use Rattle.exact.proofs.term.left.Goals as goal

pub returns-then-i-x : goal.returns-then-i-x
returns-then-i-x c = left_out _ _ _ c.if-i-x.true

pub returns : goal.returns
returns c = search (rules, left_in)
