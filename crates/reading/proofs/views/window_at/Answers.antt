-- `window_at`: the three numbers of a WINDOW's record.
use native.Mathlib.Omega.{arith}
use mathlib.Core.Path.{◌≡◌, ◌∙◌, ap, ap₂}
use Prim.Native.Nat.{ℕ}
use lib.IntN.{ℤ}
use mir.Syntax.{w64}
use mir.ValLaws.{to_z-of_z}
use Rattle.reading.specs.Reading.{tree_of}
use Rattle.reading.specs.declared.Window.{Window}
use Rattle.reading.proofs.Viewing.{bounds-are}
use Rattle.reading.proofs.views.window_at.Goals as goal

-- field by field
made : {n n' : ℕ} {x x' y y' : ℤ} → n ≡ n' → x ≡ x' → y ≡ y' → ◌≡◌ {A = Window} (record { variable = n; lo = x; hi = y }) (record { variable = n'; lo = x'; hi = y' })
made {n} {n'} {x} {x'} {y} {y'} e f g = ap (λ (k : ℕ). record { variable = k; lo = x; hi = y }) e ∙ ap₂ (λ (a b : ℤ). record { variable = n'; lo = a; hi = b }) f g

pub u16_at-requires : goal.u16_at-requires
u16_at-requires c = omega (arith, (bounds-are (tree_of c.args.s.now) c.requires.begins c.requires.window).1)

pub int_at-requires : goal.int_at-requires
int_at-requires c = omega (arith, (bounds-are (tree_of c.args.s.now) c.requires.begins c.requires.window).1)

pub int_at-requires-2 : goal.int_at-requires-2
int_at-requires-2 c = (bounds-are (tree_of c.args.s.now) c.requires.begins c.requires.window).1

pub returns : goal.returns
returns c = let lo = to_z-of_z w64 c.int_at.result (record { sfits = c.int_at.type_inv }) ∙ c.int_at.ensures in
    let hi = to_z-of_z w64 c.int_at-2.result (record { sfits = c.int_at-2.type_inv }) ∙ c.int_at-2.ensures in
    made c.u16_at.ensures lo hi ∙ (bounds-are (tree_of c.args.s.now) c.requires.begins c.requires.window).0
