-- `verdict`: six bytes are the true or the false record, whose kind tells which.
use mathlib.Core.Path.{sym, ◌∙◌, ap}
use mathlib.Core.Bool.{Bool, cond}
use Rattle.reading.specs.Views.{shape_of}
use Rattle.elimination.proofs.eliminating.Delivery.{verdict-list, verdict-said, verdict-long}
use Rattle.elimination.proofs.eliminating.verdict.Goals as goal

pub returns-then-len-ne-LIST_BYTES : goal.returns-then-len-ne-LIST_BYTES
returns-then-len-ne-LIST_BYTES c = sym (verdict-long c.args.len c.args.res.now c.requires.exactly c.requires.len_in_bounds c.if-len-ne-LIST_BYTES.true)

pub unreachable-requires : goal.unreachable-requires
unreachable-requires c = let l = verdict-list c.args.len c.args.res.now c.requires.exactly c.requires.len_in_bounds c.if-len-ne-LIST_BYTES.false in
    c.in_default.not-List l.0 (c.shape_at.ensures ∙ ap shape_of l.1)

pub returns-then-all : goal.returns-then-all
returns-then-all c = let l = verdict-list c.args.len c.args.res.now c.requires.exactly c.requires.len_in_bounds c.if-len-ne-LIST_BYTES.false in
    sym (verdict-said l.1 c.in-List.ensures ∙ ap (λ (y : Bool). cond y 1 0) c.if-all.true)

pub returns-else-all : goal.returns-else-all
returns-else-all c = let l = verdict-list c.args.len c.args.res.now c.requires.exactly c.requires.len_in_bounds c.if-len-ne-LIST_BYTES.false in
    sym (verdict-said l.1 c.in-List.ensures ∙ ap (λ (y : Bool). cond y 1 0) c.if-all.false)
