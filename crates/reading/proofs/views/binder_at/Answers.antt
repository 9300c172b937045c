-- `binder_at`: the variable of a quantifier's record, and its kind.
use mathlib.Core.Path.{◌∙◌, ap₂}
use Prim.Native.Nat.{ℕ}
use lib.Dec.{eqb}
use Rattle.reading.specs.Reading.{tree_of}
use Rattle.reading.proofs.Viewing.{begins-four, binder-is}
use Rattle.reading.proofs.views.binder_at.Goals as goal

pub u16_at-requires : goal.u16_at-requires
u16_at-requires c = begins-four c.requires.begins

pub u16_at-requires-2 : goal.u16_at-requires-2
u16_at-requires-2 c = (binder-is (tree_of c.args.s.now) c.requires.begins c.requires.quantifier).1

pub returns : goal.returns
returns c = ap₂ (λ (k n : ℕ). record { every = eqb k 8; variable = n }) c.u16_at.ensures c.u16_at-2.ensures ∙ (binder-is (tree_of c.args.s.now) c.requires.begins c.requires.quantifier).0
