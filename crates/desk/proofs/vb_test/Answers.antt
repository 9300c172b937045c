-- The nine numbers go below as an array; the reply is that of the call there.
use mathlib.Core.Path.{◌∙◌}
use mathlib.Core.List.{[], ◌∷◌}
use Rattle.exact.proofs.Sizes.{rd}
use Rattle.rules.specs.Test.{tested}
use Rattle.desk.proofs.vb_test.Goals as goal

pub returns : goal.returns
returns c = let f = c.ranges in
    c.from.ensures ∙ c.test.ensures ∙ (λ i. tested c.args.sheet.now (rd f.p0 i ∷ rd f.p1 i ∷ rd f.p2 i ∷ rd f.p3 i ∷ rd f.p4 i ∷ rd f.p5 i ∷ rd f.p6 i ∷ rd f.p7 i ∷ rd f.q i ∷ []))
