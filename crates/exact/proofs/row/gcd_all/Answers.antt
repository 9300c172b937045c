-- `gcd_all` meets its contract: after i turns, g and the numbers from i on have the divisor of the whole row; a zero keeps g, and
-- where g is 1 that is the divisor of the row. Assumes nothing.
use mathlib.Core.Path.{◌≡◌, refl, sym, ◌∙◌, ap}
use Prim.Native.Nat.{ℕ, ◌+◌}
use lib.ListN.{drop, get_or}
use lib.IntN.{pos, nat_abs}
use Rattle.exact.specs.Divisor.{gcd_of, gcd_from, gcds}
use Rattle.exact.proofs.Divisors.{gcd-zero, gcd-comm}
use Rattle.exact.proofs.Rows.{rd-at, gcd-turn, gcd-end, from_one}
use Rattle.exact.proofs.row.gcd_all.Goals as goal
use Rattle.exact.proofs.row.gcd_all.Goals.{After-unsigned_abs-a, then-a-ne0+else-g-eq1, else-a-ne0}

seen : (c : After-unsigned_abs-a) → c.unsigned_abs-a.result ≡ nat_abs (get_or c.args.s.now c.loop-x.x-index (pos 0))
seen c = c.unsigned_abs-a.ensures.value ∙ ap nat_abs (rd-at c.requires tt c.loop-x.x-index)

pub loop-x-init : goal.loop-x-init
unfolding gcds
loop-x-init c = refl

pub returns-then-g-eq1 : goal.returns-then-g-eq1
returns-then-g-eq1 c =
    let s = c.args.s.now in
    let i = c.loop-x.x-index in
    let g = c.loop-x.g in
    let found : c.gcd-g.result ≡ gcd_of g (nat_abs (get_or s i (pos 0))) = c.gcd-g.ensures ∙ gcd-comm _ g ∙ ap (gcd_of g) (seen (goal.at.returns-then-g-eq1 c).After-unsigned_abs-a) in
    sym (from_one (drop (i + 1) s)) ∙ ap (λ (n : ℕ). gcd_from n (drop (i + 1) s)) (sym c.if-g-eq1.true ∙ found) ∙ gcd-turn s i g c.loop-x-test.true ∙ c.loop-x.invariant

pub loop-x-preserved : goal.loop-x-preserved
loop-x-preserved c =
    let s = c.args.s.now in
    let i = c.loop-x.x-index in
    let read = seen (goal.at.loop-x-preserved c).After-unsigned_abs-a in
    let after : c.if-a-ne0.g ≡ gcd_of c.loop-x.g (nat_abs (get_or s i (pos 0))) =
    elim c.if-a-ne0.branch [
      | then-a-ne0+else-g-eq1 w ↦ w.g-is ∙ w.gcd-g.ensures ∙ gcd-comm _ c.loop-x.g ∙ ap (gcd_of c.loop-x.g) read
      | else-a-ne0 w ↦ w.g-is ∙ sym (gcd-zero _) ∙ ap (gcd_of _) (sym w.if-a-ne0.false ∙ read)
    ] in
    ap (λ (n : ℕ). gcd_from n (drop (i + 1) s)) after ∙ gcd-turn s i c.loop-x.g c.loop-x-test.true ∙ c.loop-x.invariant

pub returns : goal.returns
returns c = sym (gcd-end c.args.s.now c.loop-x.x-index c.loop-x.g c.loop-x-test.false) ∙ c.loop-x.invariant
