-- An accepted sheet is just the bytes of its tree, so the search may walk it, and the body begins six bytes after the record found.
use mathlib.Core.Path.{◌≡◌, sym, ◌∙◌, ap}
use mathlib.Core.List.{List}
use Prim.Native.Nat.{ℕ, ◌+◌}
use native.Mathlib.Omega.{arith}
use lib.ListN.{length}
use mathlib.Core.Bool.{true}
use Rattle.reading.specs.Limits.{result_bytes, result_levels}
use Rattle.reading.specs.Bytes.{Bytes}
use Rattle.reading.specs.Formula.{Formula, encode}
use Rattle.reading.specs.Reading.{tree_of, Exactly}
use Rattle.reading.specs.Quantifiers.{last_in}
use Rattle.reading.proofs.Reading.{part-drop}
use Rattle.reading.proofs.Trees.{accepted-exactly, tree_is, begins-tree}
use Rattle.reading.proofs.Looking.{Body, body_at, look-accepted, look-refused, look-nothing, look-body}
use Rattle.reading.proofs.quantifiers.look_part.Goals as goal
use Rattle.reading.proofs.quantifiers.look_part.Goals.{In-Ok, In-Some}

-- where the sheet is accepted
bytes : (c : In-Ok) → Bytes c.args.s.now
bytes c = λ i. (c.type_inv.s i).fits

whole : (c : In-Ok) → let s = c.args.s.now in Exactly s (tree_of s)
whole c = accepted-exactly result_bytes result_levels c.args.s.now (omega arith) (bytes c) (sym c.in-Ok.ensures)

-- where it has a quantifier
found : (c : In-Some) → Body true c.args.s.now c.in-Some.o
found c =
    let bytes : Bytes c.args.s.now = λ i. (c.type_inv.s i).fits in
    body_at true (accepted-exactly result_bytes result_levels c.args.s.now (omega arith) bytes (sym c.in-Ok.ensures)) (sym c.in-Some.ensures)

pub last_quantifier-requires : goal.last_quantifier-requires
last_quantifier-requires c = whole (goal.at.last_quantifier-requires c).In-Ok

pub overflow_add-at : goal.overflow_add-at
overflow_add-at c = omega (arith, (found (goal.at.overflow_add-at c).In-Some).within, c.well_formed.0.0)

pub slice_bounds-formula_length-count : goal.slice_bounds-formula_length-count
slice_bounds-formula_length-count c = omega (arith, (found (goal.at.slice_bounds-formula_length-count c).In-Some).within)

pub slice_bounds-formula_length-start : goal.slice_bounds-formula_length-start
slice_bounds-formula_length-start c = omega (arith, (found (goal.at.slice_bounds-formula_length-start c).In-Some).within)

pub formula_length-requires : goal.formula_length-requires
formula_length-requires c = rw (part-drop (c.in-Some.o + 6) c.args.s.now) (begins-tree (found (goal.at.formula_length-requires c).In-Some).begins)

pub returns-in_default : goal.returns-in_default
returns-in_default c = sym (look-refused c.args.s.now (sym c.in_default.ensures))

pub returns-in_default-last_quantifier : goal.returns-in_default-last_quantifier
returns-in_default-last_quantifier c = let s = c.args.s.now in let k = (goal.at.returns-in_default-last_quantifier c).In-Ok in
    sym (look-accepted s (bytes k) (sym k.in-Ok.ensures) ∙ look-nothing (last_in (tree_of s)) (sym c.in_default-last_quantifier.ensures))

pub returns : goal.returns
returns c = let s = c.args.s.now in let k = (goal.at.returns c).In-Ok in let w = found (goal.at.returns c).In-Some in
    let n : c.formula_length.result ≡ length (encode w.body) = c.formula_length.ensures ∙ ap (λ (u : List ℕ). length (encode (tree_of u))) (part-drop (c.in-Some.o + 6) s) ∙ ap (λ (f : Formula). length (encode f)) (tree_is w.begins) in
    ap (λ (l : ℕ). record { at = c.in-Some.o + 6; length = l }) n ∙ sym (look-body (sym k.in-Ok.ensures) (bytes k) w)
