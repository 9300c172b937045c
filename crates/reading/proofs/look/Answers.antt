-- `look`: the part lies in the sheet and begins at the look's offset, and its bytes are those of the definition.
use mathlib.Core.Path.{refl, ◌∙◌, ap}
use Prim.Native.Nat.{ℕ, ◌+◌, ◌≤◌}
use native.Mathlib.Nat.{add-sub_cancel_left}
use native.Mathlib.Omega.{arith}
use lib.ListN.{length, take, drop}
use Rattle.reading.specs.Quantifiers.{look}
use Rattle.reading.specs.declared.Part.{Part}
use Rattle.reading.proofs.Looking.{look-within}
use Rattle.reading.proofs.look.Goals as goal
use Rattle.reading.proofs.look.Goals.{After-look_part-part}

-- the part lies in the sheet
within : (c : After-look_part-part) → c.look_part-part.result.at + c.look_part-part.result.length ≤ length c.args.s.now
within c = rw c.look_part-part.ensures (look-within c.args.s.now (λ i. (c.shared_slice_known-1.given i).fits))

pub overflow_add-end : goal.overflow_add-end
overflow_add-end c = omega (arith, within (goal.at.overflow_add-end c).After-look_part-part, c.well_formed.0.0)

pub slice_bounds-result-end : goal.slice_bounds-result-end
slice_bounds-result-end c = omega (arith, within (goal.at.slice_bounds-result-end c).After-look_part-part)

pub returns : goal.returns
unfolding look
returns c = let s = c.args.s in record { result_value = ap (λ (k : ℕ). take k (drop c.look_part-part.result.at s.now)) (add-sub_cancel_left c.look_part-part.result.at c.look_part-part.result.length) ∙ rw c.look_part-part.ensures; ref_ptr_value = (refl, ap (λ (p : Part). p.at + s.ref_ptr.1) c.look_part-part.ensures) }
