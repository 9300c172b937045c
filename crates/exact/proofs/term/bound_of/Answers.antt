-- `bound_of` meets its contract: two numbers are set in a row of zeros. Assumes nothing.
use Rattle.std.proofs.Common.{rules}
use Rattle.exact.specs.Terms.{bound_of}
use Rattle.exact.proofs.term.bound_of.Goals as goal

pub returns : goal.returns
unfolding bound_of
returns c = search rules
