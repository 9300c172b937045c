-- `compared_at` meets its contract: without x the atom is settled as it stands, and otherwise by the point's place. Assumes nothing.
use Rattle.std.proofs.Common.{sym, ◌∙◌, ap, subst, ℤ, List, not}
use lib.Signed.{lt_z}
use lib.IntN.{pos}
use Rattle.reading.specs.Views.{comparison_in}
use Rattle.exact.specs.Numbers.{Each}
use Rattle.exact.specs.Atoms.{far_of, put_of, settled, Bounded}
use Rattle.exact.specs.declared.Put.TheVariants.{Decided}
use Rattle.exact.specs.declared.Place.TheVariants.{Below, Above, At, Nowhere}
use Rattle.exact.proofs.Atoms.{at_above, at-below, at_here, at-place, at-nowhere, at-without, zero_is, zero-not, each-point}
use Rattle.exact.proofs.Rows.{rd-at}
use Rattle.exact.proofs.atom.compared_at.Goals as goal

pub returns-then-a-eq0 : goal.returns-then-a-eq0
returns-then-a-eq0 c = let q = c.args.q in c.settled.ensures ∙ ap put_of (sym (at-without q.place q.x _ _ (zero_is q.x c.requires.each c.if-a-eq0.true)))

pub settled-requires-in-At : goal.settled-requires-in-At
settled-requires-in-At c = subst (Each 9223372036854775807) (sym c.at_point.ensures) (each-point c.args.q.x c.requires.each (subst Bounded c.in-At.is c.requires.ready.nums))

pub returns-in-Nowhere : goal.returns-in-Nowhere
returns-in-Nowhere c = c.settled-in-Nowhere.ensures ∙ at-place _ Nowhere _ _ c.in-Nowhere.is (at-nowhere _ _)

pub returns-in-At : goal.returns-in-At
returns-in-At c = c.settled-in-At.ensures ∙ ap (λ (l : List ℤ). put_of (settled (comparison_in c.args.c) l)) c.at_point.ensures
    ∙ at-place _ (At c.in-At.n) _ _ c.in-At.is (at_here c.args.q.x c.in-At.n _ _ (zero-not c.args.q.x c.requires.each c.if-a-eq0.false))

pub returns-in-Below : goal.returns-in-Below
returns-in-Below c = let x = c.args.q.x in
    ap Decided (c.far.ensures ∙ ap (λ (z : ℤ). far_of (comparison_in c.args.c) (not (lt_z z (pos 0)))) (rd-at c.requires.each tt x))
    ∙ at-place _ Below _ _ c.in-Below.is (at-below x _ _ (zero-not x c.requires.each c.if-a-eq0.false))

pub returns-in-Above : goal.returns-in-Above
returns-in-Above c = let x = c.args.q.x in
    ap Decided (c.far-in-Above.ensures ∙ ap (λ (z : ℤ). far_of (comparison_in c.args.c) (lt_z z (pos 0))) (rd-at c.requires.each tt x))
    ∙ at-place _ Above _ _ c.in-Above.is (at_above x _ _ (zero-not x c.requires.each c.if-a-eq0.false))
