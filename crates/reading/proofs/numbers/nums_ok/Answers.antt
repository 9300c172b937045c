use mathlib.Core.Path.{◌≡◌, sym, ◌∙◌, ap}
use native.Mathlib.Omega.{arith}
use Prim.Native.Nat.{◌+◌, ◌*◌}
use native.Mathlib.Nat.{sub-zero, add-zero}
use mir.Syntax.{w64}
use mir.ValLaws.{to_z-of_z}
use Rattle.reading.specs.Records.{in_m, all_m}
use Rattle.reading.proofs.Signed.{all_m-more, all_m-not, all_m-none}
use Rattle.reading.proofs.numbers.nums_ok.Goals as goal

pub loop-i-init : goal.loop-i-init
loop-i-init g c = rw (sub-zero g.row.N, add-zero c.args.at)

pub loop-i-preserved : goal.loop-i-preserved
loop-i-preserved g c = let a = c.args in
    let p : a.at + 4 * (c.loop-i.i + 1) ≡ a.at + 4 * c.loop-i.i + 4 = omega arith in
    rw p (all_m-more a.s.now g.row.N c.loop-i.i (a.at + 4 * c.loop-i.i) (all_m g.row.N a.at a.s.now) c.loop-i-test.true (ap in_m (sym c.int_at.ensures ∙ sym (to_z-of_z w64 c.int_at.result (record { sfits = c.int_at.type_inv }))) ∙ sym c.in_m.ensures ∙ c.if-not-in_m.false) c.loop-i.invariant)

pub returns-then-not-in_m : goal.returns-then-not-in_m
returns-then-not-in_m g c = let a = c.args in
    sym (all_m-not a.s.now g.row.N c.loop-i.i (a.at + 4 * c.loop-i.i) (all_m g.row.N a.at a.s.now) c.loop-i-test.true (ap in_m (sym c.int_at.ensures ∙ sym (to_z-of_z w64 c.int_at.result (record { sfits = c.int_at.type_inv }))) ∙ sym c.in_m.ensures ∙ c.if-not-in_m.true) c.loop-i.invariant)

pub returns : goal.returns
returns g c = let a = c.args in
    sym (all_m-none a.s.now g.row.N c.loop-i.i (a.at + 4 * c.loop-i.i) (all_m g.row.N a.at a.s.now) c.loop-i-test.false c.loop-i.invariant)
