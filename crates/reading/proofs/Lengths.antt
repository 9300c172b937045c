-- 01, 'A sheet on disk': how long the bytes of a formula are, by its first record, and of members one after the other. Assumes nothing.
use mathlib.Core.Path.{◌≡◌, refl, ◌∙◌, ap}
use mathlib.Core.Bool.{Bool}
use mathlib.Core.List.{List, ◌++◌, append-nil}
use Prim.Native.Nat.{ℕ, ◌+◌, ◌-◌, ◌≤◌}
use native.Mathlib.Omega.{arith}
use lib.ListN.{length, take, drop, length-append, length-drop}
use lib.IntN.{ℤ}
use Rattle.reading.specs.Bytes.{int_bytes}
use Rattle.reading.specs.Formula.{Comparison, Formula, Formulas, atom, not, list, quant, window, none, more, encode, encodes, record_bytes, field_bytes}
use Rattle.reading.specs.Reading.{Begins}
use Rattle.reading.proofs.Laws.{ints-long}
use Rattle.reading.proofs.Reading.{part-drop}

-- ---- a formula

pub atom-long : (c : Comparison) (ns : List ℤ) → length ns ≡ 9 → length (encode (atom c ns)) ≡ 40
unfolding encode record_bytes field_bytes
atom-long c ns n = omega (arith, ints-long ns, n)

pub not-long : (f : Formula) → length (encode (not f)) ≡ 4 + length (encode f)
unfolding encode record_bytes field_bytes
not-long f = omega arith

pub list-long : (j : Bool) (gs : Formulas) → length (encode (list j gs)) ≡ 6 + length (encodes gs)
unfolding encode record_bytes field_bytes
list-long j gs = omega arith

pub quant-long : (b : Bool) (v : ℕ) (f : Formula) → length (encode (quant b v f)) ≡ 6 + length (encode f)
unfolding encode record_bytes field_bytes
quant-long b v f = omega arith

pub window-long : (v : ℕ) (lo hi : ℤ) → length (encode (window v lo hi)) ≡ 14
unfolding encode record_bytes field_bytes int_bytes
window-long v lo hi = refl

-- it takes at least the four bytes that a record begins with
pub four-long : (f : Formula) → 4 ≤ length (encode f)
unfolding encode record_bytes field_bytes
four-long (atom c ns) = omega arith
four-long (not f) = omega arith
four-long (list j fs) = omega arith
four-long (quant q v f) = omega arith
four-long (window v lo hi) = omega arith

-- ---- members

pub none-long : length (encodes none) ≡ 0
unfolding encodes
none-long = refl

pub encodes_more : (f : Formula) (fs : Formulas) → encodes (more f fs) ≡ encode f ++ encodes fs
unfolding encodes
encodes_more f fs = refl

pub more-long : (f : Formula) (fs : Formulas) → length (encodes (more f fs)) ≡ length (encode f) + length (encodes fs)
more-long f fs = ap length (encodes_more f fs) ∙ length-append (encode f) (encodes fs)

pub one-is : (g : Formula) → encodes (more g none) ≡ encode g
unfolding encodes
one-is g = append-nil (encode g)

-- ---- bytes that begin with a formula, and a part of them that goes to their end

pub begins-long : {s : List ℕ} {f : Formula} → Begins s f → length (encode f) ≤ length s
begins-long {s} {f} b = omega (arith, ap length b.bytes, length-append (encode f) b.rest)

pub part-drop-long : (a : ℕ) (s : List ℕ) → length (take (length s - a) (drop a s)) ≡ length s - a
part-drop-long a s = ap length (part-drop a s) ∙ length-drop a s
