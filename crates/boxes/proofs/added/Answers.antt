-- `added`: a line with another answer than 0 is in no total.
use mathlib.Core.Path.{◌∙◌}
use Prim.Native.Nat.{ℕ, ◌+◌}
use lib.Dec.{eqb}
use Rattle.boxes.proofs.Lists.{added-not, added-line, bool_byte-is}
use Rattle.boxes.proofs.added.Goals as goal

pub returns-then-l-ne0 : goal.returns-then-l-ne0
returns-then-l-ne0 c = added-not c.args.t c.args.l c.if-l-ne0.true

pub returns : goal.returns
returns c = let a = c.args in
    let one = λ (k : ℕ). bool_byte-is (eqb a.l.verdict k) in
    let no = c.from.ensures ∙ one 0 in
    let yes = c.from-2.ensures ∙ one 1 in
    let free = c.from-3.ensures ∙ one 2 in
    (λ i. record { done = a.t.done + 1; no = a.t.no + no i; yes = a.t.yes + yes i; free = a.t.free + free i; sum = a.t.sum + a.l.length }) ∙ added-line a.t a.l c.if-l-ne0.false
