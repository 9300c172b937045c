-- 01, 'A sheet on disk': all numbers are little-endian; two bytes unsigned, four bytes signed.
use Rattle.std.specs.Prelude.{ℕ, zero, suc, ◌+◌, ◌*◌, ◌/◌, ◌%◌, ◌<◌, List, [], ◌∷◌, ◌++◌, get_or, replicate, ℤ}
use Rattle.std.specs.Int.{w32}
use Rattle.std.proofs.Common.{to_z, of_z}

-- the number in the two bytes of s from i on
abbrev pub le2 : List ℕ → ℕ → ℕ
le2 s i = get_or s i 0 + 256 * get_or s (i + 1) 0

-- the number in the four bytes of s from i on, unsigned and signed
abbrev pub le4 : List ℕ → ℕ → ℕ
le4 s i = le2 s i + 65536 * le2 s (i + 2)

unfoldable pub int4 : List ℕ → ℕ → ℤ
int4 s i = to_z w32 (le4 s i)

-- n signed numbers, one after the other
unfoldable pub ints : ℕ → ℕ → List ℕ → List ℤ
ints zero i s = []
ints (suc n) i s = int4 s i ∷ ints n (i + 4) s

-- n in two bytes, in four bytes
abbrev pub bytes2 : ℕ → List ℕ
bytes2 n = n % 256 ∷ n / 256 ∷ []

abbrev pub bytes4 : ℕ → List ℕ
bytes4 n = bytes2 (n % 65536) ++ bytes2 (n / 65536)

-- signed numbers in four bytes each
unfoldable pub int_bytes : List ℤ → List ℕ
int_bytes [] = []
int_bytes (z ∷ zs) = bytes4 (of_z w32 z) ++ int_bytes zs

-- n bytes that are 0
abbrev pub zeros : ℕ → List ℕ
zeros n = replicate n 0

-- every element is a byte
abbrev pub Bytes : List ℕ → Type 0
Bytes s = (i : ℕ) → get_or s i 0 < 256
