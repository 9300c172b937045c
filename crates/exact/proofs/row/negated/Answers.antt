-- `negated` meets its contract: the step turns one sign. Assumes nothing.
use Rattle.std.proofs.Common.{◌∙◌, ap, rules}
use lib.IntN.{neg_ℤ}
use Rattle.exact.specs.Numbers.{minus}
use Rattle.exact.proofs.Sizes.{in-rd, rd, fits}
use Rattle.exact.proofs.Loops.{stepped-map}
use Rattle.exact.proofs.row.negated.Goals as goal

pub map_all-requires-clause-callable : goal.map_all-requires-clause-callable
map_all-requires-clause-callable c = λ i h κs p e r u. in-rd (c.requires.at i) tt

pub returns : goal.returns
unfolding minus
returns c = stepped-map neg_ℤ (λ i v p. (search (rules, p)) ∙ ap neg_ℤ (rd (fits (c.requires.at i) tt))) c.map_all.ensures
