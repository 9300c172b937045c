-- `line_of`: what the counted elimination answers, in numbers.
use mathlib.Core.Path.{◌∙◌}
use Rattle.boxes.proofs.line_of.Goals as goal

pub returns : goal.returns
returns c = let g = c.eliminate_counted.ensures.gives in let n = c.eliminate_counted.ensures.counts in
    c.from.ensures ∙ (λ i. record { answer = g.0 i; verdict = g.1 i; steps = (n i).finished; terms = (n i).most; length = g.3 i })
