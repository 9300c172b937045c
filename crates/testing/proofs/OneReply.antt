-- 01, 'What the proofs have to settle': any two replies that the promise of the test allows are equal. Assumes nothing.
use mathlib.Core.Path.{◌≡◌, refl, sym, ◌∙◌, ap}
use mathlib.Core.List.{List}
use mathlib.Core.Bool.{Bool, true, false}
use Prim.Native.Nat.{ℕ}
use native.Mathlib.Omega.{arith}
use lib.IntN.{ℤ}
use Rattle.std.specs.Prelude.{Result, Ok, Err}
use Rattle.reading.specs.declared.Refused.{Refused}
use Rattle.reading.proofs.Unique.{one-refusal}
use Rattle.rules.specs.Test.{Trial, tested}
use Rattle.testing.specs.Testing.{trial_of}

told : (r s : Result Bool Refused) → trial_of r ≡ trial_of s → r ≡ s
told (Ok true) (Ok true) e = refl
told (Ok false) (Ok false) e = refl
told (Ok true) (Ok false) e = let z : ◌≡◌ {A = ℕ} 1 0 = ap (λ (t : Trial). t.verdict) e in absurd (omega arith)
told (Ok false) (Ok true) e = let z : ◌≡◌ {A = ℕ} 0 1 = ap (λ (t : Trial). t.verdict) e in absurd (omega arith)
told (Ok true) (Err r) e = let z : ◌≡◌ {A = ℕ} 1 3 = ap (λ (t : Trial). t.verdict) e in absurd (omega arith)
told (Ok false) (Err r) e = let z : ◌≡◌ {A = ℕ} 0 3 = ap (λ (t : Trial). t.verdict) e in absurd (omega arith)
told (Err r) (Ok true) e = let z : ◌≡◌ {A = ℕ} 3 1 = ap (λ (t : Trial). t.verdict) e in absurd (omega arith)
told (Err r) (Ok false) e = let z : ◌≡◌ {A = ℕ} 3 0 = ap (λ (t : Trial). t.verdict) e in absurd (omega arith)
told (Err r) (Err s) e = ap Err (one-refusal r s (ap (λ (t : Trial). t.number) e) (ap (λ (t : Trial). t.place) e))

pub one-test : (sheet : List ℕ) (w : List ℤ) (r s : Result Bool Refused) → trial_of r ≡ tested sheet w → trial_of s ≡ tested sheet w → r ≡ s
one-test sheet w r s e f = told r s (e ∙ sym f)
