-- `all_within` meets its contract: the closure of `all` is the test of one number. Assumes nothing.
use Rattle.std.proofs.Common.{rules, ◌∙◌, sym, tests}
use Rattle.std.proofs.lemmas.Iterator.{YieldsList-from_slice}
use Rattle.std.proofs.lemmas.Iterator.Search.{all_from_yields_List}
use Rattle.exact.proofs.Rows.{small, all-is}
use Rattle.exact.proofs.row.all_within.Goals as goal

pub returns : goal.returns
returns c = all_from_yields_List (small c.args.most) _ _ _ c.all.ensures.ran (YieldsList-from_slice c.args.s.now cc) (λ x b q k. search (rules, tests)) ∙ sym (all-is _ _)
