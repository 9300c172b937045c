-- The order of the answers: what reading refuses, then a quantifier, then the values, then the truth.
use native.Mathlib.Omega.{arith}
use mathlib.Core.Path.{sym, ap}
use mathlib.Core.Bool.{cond}
use Rattle.std.proofs.lemmas.Result.{err_from_is_err_and}
use Rattle.reading.specs.Bytes.{Bytes}
use Rattle.reading.specs.Limits.{result_bytes, result_levels}
use Rattle.reading.specs.Reading.{tree_of, Exactly}
use Rattle.reading.proofs.Trees.{accepted-exactly, begins}
use Rattle.testing.specs.declared.Holds.{Holds}
use Rattle.testing.proofs.TestLaws.{allowed-each, none_free, tested-refused, tested-quantified, tested-range, tested-done}
use Rattle.testing.proofs.test.Goals as goal
use Rattle.testing.proofs.test.Goals.{In_ok-read}

bytes : (c : In_ok-read) → Bytes c.args.sheet.now
bytes c = λ i. (c.type_inv.sheet i).fits

whole : (c : In_ok-read) → let s = c.args.sheet.now in Exactly s (tree_of s)
whole c =
    let bytes : Bytes c.args.sheet.now = λ i. (c.type_inv.sheet i).fits in
    accepted-exactly result_bytes result_levels c.args.sheet.now (omega arith) bytes (sym c.in_ok-read.ensures)

pub returns-in_err-read : goal.returns-in_err-read
returns-in_err-read c = let p = err_from_is_err_and c.from_residual.result c.from_residual.ensures.1 in
    rw (p.1, p.2) (tested-refused c.args.sheet.now c.args.w (sym c.in_err-read.ensures))

pub first_quantifier-requires : goal.first_quantifier-requires
first_quantifier-requires c = whole c

pub returns-in-Some : goal.returns-in-Some
returns-in-Some c = tested-quantified c.args.sheet.now c.args.w (sym c.in_ok-read.ensures) (bytes (goal.at.returns-in-Some c).In_ok-read) (sym c.in-Some.ensures)

pub returns-then-not-allowed : goal.returns-then-not-allowed
returns-then-not-allowed c = tested-range c.args.sheet.now c.args.w (sym c.in_ok-read.ensures) (bytes (goal.at.returns-then-not-allowed c).In_ok-read) (sym c.in_default.ensures) (sym c.if-not-allowed.ensures)

pub holds_at-requires : goal.holds_at-requires
holds_at-requires c = record { begins = begins (whole (goal.at.holds_at-requires c).In_ok-read); free = none_free _ (sym c.in_default.ensures); values = allowed-each (sym c.if-not-allowed.ensures) }

pub returns : goal.returns
returns c = tested-done c.args.sheet.now c.args.w (sym c.in_ok-read.ensures) (bytes (goal.at.returns c).In_ok-read) (sym c.in_default.ensures) (sym c.if-not-allowed.ensures) (ap (λ (y : Holds). cond y.holds 1 0) c.holds_at.ensures)
