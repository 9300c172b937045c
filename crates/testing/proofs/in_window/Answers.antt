-- Both ends of a window, times the denominator, fit sixty-four bits.
use mathlib.Core.Path.{◌≡◌, sym, ◌∙◌, ap, ap₂}
use mathlib.Core.Bool.{Bool, ◌&&◌}
use lib.IntN.{◌*ℤ◌, +ℤ_idl}
use lib.Signed.{le_z}
use mir.Syntax.{w64}
use mir.Val.{to_z, of_z}
use Rattle.exact.specs.Numbers.{at}
use Rattle.exact.proofs.Sizes.{rd, ok, fits, in-lit, in-rd}
use Rattle.exact.proofs.Rows.{rd-at, in-at}
use Rattle.testing.proofs.in_window.Goals as goal
use Rattle.testing.proofs.in_window.Goals.{After-added-lo}

-- what is compared
below : (c : After-added-lo) → to_z w64 (of_z w64 c.added-lo.result) ≡ c.args.b.lo *ℤ at c.args.w 8
below c = rd (ok c.added-lo.result c.added-lo.type_inv) ∙ c.added-lo.ensures ∙ +ℤ_idl _ ∙ ap₂ ◌*ℤ◌ (rd (fits c.requires.within tt)) (rd-at c.requires.each tt 8)

pub added-lo-requires : goal.added-lo-requires
added-lo-requires c = record { within = in-lit tt; within_2 = in-rd c.requires.within tt; within_3 = in-at c.requires.each tt 8 }

pub added-hi-requires : goal.added-hi-requires
added-hi-requires c = record { within = in-lit tt; within_2 = in-rd c.requires.within_2 tt; within_3 = in-at c.requires.each tt 8 }

pub returns-then-lo-p : goal.returns-then-lo-p
returns-then-lo-p c =
    let above : to_z w64 (of_z w64 c.added-hi.result) ≡ c.args.b.hi *ℤ at c.args.w 8 = rd (ok c.added-hi.result c.added-hi.type_inv) ∙ c.added-hi.ensures ∙ +ℤ_idl _ ∙ ap₂ ◌*ℤ◌ (rd (fits c.requires.within_2 tt)) (rd-at c.requires.each tt 8) in
    let i = c.args.b in
    let w = c.args.w in
    let v = rd-at c.requires.each tt i.variable in
    ap₂ le_z v above ∙ sym (ap (λ (t : Bool). t && le_z (at w i.variable) (i.hi *ℤ at w 8)) (sym (ap₂ le_z (below (goal.at.returns-then-lo-p c).After-added-lo) v) ∙ c.if-lo-p.true))

pub returns-else-lo-p : goal.returns-else-lo-p
returns-else-lo-p c = let i = c.args.b in
    let w = c.args.w in
    let v = rd-at c.requires.each tt i.variable in
    c.if-lo-p.false ∙ sym (ap (λ (t : Bool). t && le_z (at w i.variable) (i.hi *ℤ at w 8)) (sym (ap₂ le_z (below (goal.at.returns-else-lo-p c).After-added-lo) v) ∙ c.if-lo-p.false))
