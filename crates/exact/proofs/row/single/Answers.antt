-- `single` meets its contract: two numbers are set in a row of zeros. Assumes nothing.
use Rattle.std.proofs.Common.{rules}
use Rattle.exact.specs.Numbers.{single}
use Rattle.exact.proofs.row.single.Goals as goal

pub returns : goal.returns
unfolding single
returns c = search rules
