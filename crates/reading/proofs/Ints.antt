-- Signed numbers one after the other: how many they are, where each stands, and an array that is filled with nine of them. Assumes nothing.
use mathlib.Core.Path.{◌≡◌, refl, sym, ◌∙◌, ap}
use mathlib.Core.List.{List}
use Prim.Native.Nat.{ℕ, zero, suc, ◌+◌, ◌*◌, ◌≤◌, ◌<◌}
use native.Mathlib.Omega.{arith}
use lib.ListN.{length, get_or}
use lib.Seq.{ext_get_or}
use lib.IntN.{ℤ, pos}
use Rattle.reading.specs.Bytes.{int4, ints}
use Rattle.reading.proofs.Filling.{Filled}

-- n numbers are n
pub ints-count : (n i : ℕ) (s : List ℕ) → length (ints n i s) ≡ n
unfolding ints
ints-count zero i s = refl
ints-count (suc n) i s = ap suc (ints-count n (i + 4) s)

pub ints_at : (n i k : ℕ) (s : List ℕ) → k < n → get_or (ints n i s) k (pos 0) ≡ int4 s (i + 4 * k)
unfolding ints
ints_at zero i k s h = absurd (omega arith)
ints_at (suc n) i zero s h = ap (int4 s) (omega arith)
ints_at (suc n) i (suc k) s h = ints_at n (i + 4) k s (omega arith) ∙ ap (int4 s) (omega arith)

-- nine numbers are filled: they are the atom's
pub nine-done : (s : List ℕ) {m : List ℤ} {i : ℕ} → 9 ≤ i → Filled (pos 0) (λ (j : ℕ). int4 s (4 + 4 * j)) 9 m i → m ≡ ints 9 4 s
nine-done s {m} {i} h f =
    ext_get_or (pos 0) m (ints 9 4 s) (f.long ∙ sym (ints-count 9 4 s))
    (λ k l. let l9 : k < 9 = omega (arith, f.long) in f.at k (omega arith) ∙ sym (ints_at 9 4 k s l9))
