-- What the code writes. `lay at b d` is d with the bytes b laid over it from the place `at` on: what stands before and after them stays. It is a
-- fold of the one store that the code makes, so its laws ask for no room.
use Rattle.std.specs.Prelude.{ℕ, ◌+◌, Bool, List, [], ◌∷◌, ◌++◌, set, ℤ}
use Rattle.reading.specs.Bytes.{bytes2, int_bytes}
use Rattle.reading.specs.Formula.{list_no}

unfoldable pub lay : ℕ → List ℕ → List ℕ → List ℕ
lay at [] d = d
lay at (x ∷ b) d = lay (at + 1) b (set d at x)

-- the bytes of an atom of the kind k, and of the record of a list of n formulas
unfoldable pub atom_bytes : ℕ → List ℤ → List ℕ
atom_bytes k ns = bytes2 40 ++ bytes2 k ++ int_bytes ns

unfoldable pub list_bytes : Bool → ℕ → List ℕ
list_bytes all n = bytes2 6 ++ bytes2 (list_no all) ++ bytes2 n
