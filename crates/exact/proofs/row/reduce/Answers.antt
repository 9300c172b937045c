-- `reduce` meets its contract: divided by its divisor, or left alone where that is 0 or 1 (`reduced-low`). Assumes nothing.
use mathlib.Core.Path.{sym, ◌∙◌, ap, subst}
use Prim.Native.Nat.{ℕ, ◌≤◌}
use native.Mathlib.Omega.{arith}
use Rattle.std.proofs.Common.{rules}
use Rattle.exact.specs.Divisor.{divided_by, quots}
use Rattle.exact.proofs.Sizes.{in-rd, rd, fits}
use Rattle.exact.proofs.Loops.{stepped-map}
use Rattle.exact.proofs.Rows.{gcds-le, reduced-is, reduced-low}
use Rattle.exact.proofs.row.reduce.Goals as goal

pub map_all-requires-clause-callable : goal.map_all-requires-clause-callable
map_all-requires-clause-callable c = λ i h κs p e r u k. (in-rd (c.requires.at i) tt, (omega (arith, c.if-g-gt1.true), subst (λ (n : ℕ). n ≤ 9223372036854775807) (sym c.gcd_all-g.ensures) (gcds-le c.requires)))

pub returns-then-g-gt1 : goal.returns-then-g-gt1
unfolding quots
returns-then-g-gt1 c = stepped-map (divided_by c.gcd_all-g.result) (λ i v p. (search (rules, p)) ∙ ap (divided_by c.gcd_all-g.result) (rd (fits (c.requires.at i) tt))) c.map_all.ensures ∙ reduced-is _ _ c.gcd_all-g.ensures

pub returns-else-g-gt1 : goal.returns-else-g-gt1
returns-else-g-gt1 c = reduced-low _ (subst (λ (n : ℕ). n ≤ 1) c.gcd_all-g.ensures c.if-g-gt1.false)
