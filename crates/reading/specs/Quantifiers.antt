-- The first and the last quantifier of a formula in reading order, and 01's look: the body of the last one as a part of the sheet's bytes.
use Rattle.std.specs.Prelude.{ℕ, ◌+◌, ◌-◌, ◌≤◌, ◌≡◌, ◌⊎◌, Bool, true, false, cond, List, length, take, drop, ltb, leb, Option, Some, None}
use Rattle.reading.specs.Limits.{result_bytes, result_levels}
use Rattle.reading.specs.Formula.{Formula, Formulas, atom, not, list, quant, window, none, more, not_size, list_size, quant_size, encode, Fits}
use Rattle.reading.specs.Reading.{Read, good, fault, formula_in}
use Rattle.reading.specs.Answers.{Reply, Done, Refused, reading}
use Rattle.reading.specs.declared.Part.{Part}

-- a quantifier: the offset of its record, EVERY or SOME, its variable and its body; or none
pub data Quantifier : Type 0 where
  nothing : Quantifier
  at : ℕ → Bool → ℕ → Formula → Quantifier

-- one more is met: the last one is kept, or the first
abbrev pub met : Bool → Quantifier → Quantifier → Quantifier
met true cur new = new
met false nothing new = new
met false (at p b v f) new = at p b v f

-- the last (true) or the first (false), after cur, in a formula that begins at p
unfoldable mutual
  pub seek : Bool → Quantifier → ℕ → Formula → Quantifier
  seek last cur p (atom c ns) = cur
  seek last cur p (not f) = seek last cur (p + not_size) f
  seek last cur p (list b fs) = seeks last cur (p + list_size) fs
  seek last cur p (quant b v f) = seek last (met last cur (at p b v f)) (p + quant_size) f
  seek last cur p (window v lo hi) = cur

  pub seeks : Bool → Quantifier → ℕ → Formulas → Quantifier
  seeks last cur p none = cur
  seeks last cur p (more f fs) = seeks last (seek last cur p f) (p + length (encode f)) fs

abbrev pub last_in : Formula → Quantifier
last_in f = seek true nothing 0 f

abbrev pub first_in : Formula → Quantifier
first_in f = seek false nothing 0 f

-- a quantifier's record stands at offset p of the bytes of a formula
abbrev mutual
  pub QuantifierAt : ℕ → Formula → Type 0
  QuantifierAt p (atom c ns) = ⊥
  QuantifierAt p (not f) = (not_size ≤ p) × QuantifierAt (p - not_size) f
  QuantifierAt p (list b fs) = (list_size ≤ p) × QuantifierAtAny (p - list_size) fs
  QuantifierAt p (quant b v f) = (p ≡ 0) ⊎ ((quant_size ≤ p) × QuantifierAt (p - quant_size) f)
  QuantifierAt p (window v lo hi) = ⊥

  pub QuantifierAtAny : ℕ → Formulas → Type 0
  QuantifierAtAny p none = ⊥
  QuantifierAtAny p (more f fs) = QuantifierAt p f ⊎ ((length (encode f) ≤ p) × QuantifierAtAny (p - length (encode f)) fs)

-- s is the bytes of a formula of at most d levels that has a quantifier at p
abbrev pub AtQuantifier : ℕ → List ℕ → ℕ → Type 0
AtQuantifier d s p = (f : Formula) × Fits d f × (s ≡ encode f) × QuantifierAt p f

-- what the code answers: the offset of the record
abbrev pub found_of : Quantifier → Option ℕ
found_of nothing = None
found_of (at p b v f) = Some p

-- whether a record's kind is a quantifier's
unfoldable pub is_quantifier : ℕ → Bool
is_quantifier k = cond (ltb k 7) false (leb k 8)

-- ---- the look: where the body begins and how long it is; nothing where there is no quantifier or the sheet is refused

abbrev pub body_part : Quantifier → Part
body_part nothing = record { at = 0; length = 0 }
body_part (at p b v f) = record { at = p + quant_size; length = length (encode f) }

abbrev pub part_in : Reply → Read Formula → Part
part_in (Refused n p) r = record { at = 0; length = 0 }
part_in (Done k) (good f j) = body_part (last_in f)
part_in (Done k) (fault n p) = record { at = 0; length = 0 }

-- under the limits of `limit` bytes and d levels, and under those of the look
abbrev pub look_within : ℕ → ℕ → List ℕ → Part
look_within limit d s = part_in (reading limit d s) (formula_in d s)

unfoldable pub look_part : List ℕ → Part
look_part s = look_within result_bytes result_levels s

unfoldable pub look : List ℕ → List ℕ
look s = take (look_part s).length (drop (look_part s).at s)
