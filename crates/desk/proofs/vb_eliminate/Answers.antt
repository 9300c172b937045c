-- Every field of the reply, and every byte of both buffers, is that of the call below.
use mathlib.Core.Path.{◌∙◌}
use Rattle.desk.proofs.vb_eliminate.Goals as goal

pub returns : goal.returns
returns c = let f = c.from.ensures in let e = c.eliminate.ensures in
    λ i. record { number = (f.0 ∙ e.0) i; verdict = (f.1 ∙ e.1) i; place = (f.2 ∙ e.2) i; length = (f.3 ∙ e.3) i; result = e.4 i; work = e.5 i }
