-- A part of a list. Assumes nothing.
use mathlib.Core.Path.{◌≡◌, ◌∙◌, ap}
use mathlib.Core.List.{List}
use Prim.Native.Nat.{ℕ, ◌+◌, ◌-◌, ◌≤◌}
use native.Mathlib.Omega.{arith}
use lib.ListN.{length, take, drop, length-drop}
use lib.Seq.{length-take-le, take-add, drop_at}

pub drop-take : (e n : ℕ) (l : List ℕ) → e ≤ n → n ≤ length l → drop e (take n l) ≡ take (n - e) (drop e l)
drop-take e n l h k =
    let f : n ≡ e + (n - e) = omega arith in
    ap (λ (m : ℕ). drop e (take m l)) f ∙ ap (drop e) (take-add e (n - e) l) ∙ drop_at (take e l) (take (n - e) (drop e l)) e (length-take-le e l (omega arith))

pub part-long : (e n : ℕ) (l : List ℕ) → e + n ≤ length l → length (take n (drop e l)) ≡ n
part-long e n l h = length-take-le n (drop e l) (omega (arith, length-drop e l))
