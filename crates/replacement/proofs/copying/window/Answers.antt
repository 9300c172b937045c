-- `window`: the numbers of the two atoms that a WINDOW opens into, under NOT or not, are in range.
use mathlib.Core.Path.{◌≡◌, sym, subst}
use mathlib.Core.List.{List}
use Prim.Native.Nat.{ℕ}
use lib.IntN.{ℤ, neg_ℤ}
use mir.Syntax.{w64}
use mir.Val.{to_z, of_z}
use Rattle.reading.specs.Limits.{M}
use Rattle.exact.specs.Numbers.{Within, Each, single}
use Rattle.exact.proofs.Sizes.{in-rd, in-neg, in-lit}
use Rattle.replacement.proofs.copying.Leaves.{each-single}
use Rattle.replacement.proofs.copying.window.Goals as goal

-- x − hi, and lo − x: the coefficient a and the constant z, or −z
plain : (v : ℕ) {a z : ℤ} {ns : List ℤ} → Within M a → Within M z → ns ≡ single v a (to_z w64 (of_z w64 z)) → Each M ns
plain v wa wz e = subst (Each M) (sym e) (each-single v wa (in-rd wz tt))

turned : (v : ℕ) {a z y : ℤ} {ns : List ℤ} → Within M a → Within M z → y ≡ neg_ℤ (to_z w64 (of_z w64 z)) → ns ≡ single v a (to_z w64 (of_z w64 y)) → Each M ns
turned v wa wz e f = plain v wa (subst (Within M) (sym e) (in-neg (in-rd wz tt))) f

pub pair-requires-clause-each : goal.pair-requires-clause-each
pair-requires-clause-each c = turned c.args.w.variable (in-lit tt) c.requires.within c.neg.ensures c.single.ensures

pub pair-requires-clause-each_2 : goal.pair-requires-clause-each_2
pair-requires-clause-each_2 c = plain c.args.w.variable (in-lit tt) c.requires.within_2 c.single-then-neg.ensures

pub pair-requires-else-neg-clause-each : goal.pair-requires-else-neg-clause-each
pair-requires-else-neg-clause-each c = plain c.args.w.variable (in-lit tt) c.requires.within c.single-else-neg.ensures

pub pair-requires-else-neg-clause-each_2 : goal.pair-requires-else-neg-clause-each_2
pair-requires-else-neg-clause-each_2 c = turned c.args.w.variable (in-lit tt) c.requires.within_2 c.neg-else-neg.ensures c.single-else-neg-2.ensures
