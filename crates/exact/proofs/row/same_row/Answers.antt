-- `same_row` meets its contract: the closure of `all` is the test of a pair of numbers. Assumes nothing.
use Rattle.std.proofs.Common.{rules, tests, ne_eqb, ◌∙◌}
use Rattle.std.specs.Ordering.{int_eq}
use Rattle.std.proofs.lemmas.Iterator.{YieldsList-from_slice, YieldsList-from_zip}
use Rattle.std.proofs.lemmas.Iterator.Search.{all_from_yields_List}
use Rattle.exact.proofs.Rows.{same-zip, not-long}
use Rattle.exact.proofs.row.same_row.Goals as goal

pub returns-then-a-b : goal.returns-then-a-b
returns-then-a-b c =
    all_from_yields_List (λ p. int_eq p.0 p.1) c.all.new.self _ _ c.all.ensures.ran (YieldsList-from_zip (YieldsList-from_slice c.args.a.now (cc)) (YieldsList-from_slice c.args.b.now (cc))) (λ x b q k. search (rules, tests))
    ∙ same-zip c.args.a.now c.args.b.now c.if-a-b.true

pub returns-else-a-b : goal.returns-else-a-b
returns-else-a-b c = ne_eqb _ _ c.if-a-b.false ∙ not-long c.args.a.now c.args.b.now c.if-a-b.false
