-- The numbers of a formula's leaves. Assumes nothing.
use mathlib.Core.List.{List, [], ◌∷◌}
use Prim.Native.Nat.{ℕ, ◌<◌}
use native.Mathlib.Omega.{arith}
use Rattle.reading.specs.Limits.{M, variables}
use Rattle.reading.specs.Formula.{Formula, atom, not, list, quant, window}
use Rattle.reading.specs.Reading.{Begins}
use Rattle.reading.specs.Views.{IsAtom, IsWindow, numbers_of, window_of}
use Rattle.reading.specs.declared.Window.{Window}
use Rattle.exact.specs.Numbers.{Within, Each}
use Rattle.exact.proofs.Rows.{all_m-each}

-- an atom's numbers, and a WINDOW's ends, lie in −M..M
pub numbers-small : {s : List ℕ} (f : Formula) → Begins s f → IsAtom f → Each M (numbers_of f)
numbers-small (atom c ns) b i = all_m-each ns b.fits.1.1
numbers-small (not f) b i = absurd i
numbers-small (list j fs) b i = absurd i
numbers-small (quant j v f) b i = absurd i
numbers-small (window v lo hi) b i = absurd i

pub record Ends (w : Window) : Type 0 where
  pub variable : w.variable < variables
  pub from : Within M w.lo
  pub to : Within M w.hi

pub window-small : {s : List ℕ} (f : Formula) → Begins s f → IsWindow f → Ends (window_of f)
window-small (atom c ns) b i = absurd i
window-small (not f) b i = absurd i
window-small (list j fs) b i = absurd i
window-small (quant j v f) b i = absurd i
window-small (window v lo hi) b i = let a = all_m-each (lo ∷ hi ∷ []) b.fits.1.1 in record { variable = omega (arith, b.fits.1.0); from = a.at 0; to = a.at 1 }
