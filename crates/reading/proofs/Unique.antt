-- Any two replies that the promise of a public call allows are equal: each promise is an equation with a definition. Assumes nothing.
use mathlib.Core.Path.{◌≡◌, refl, sym, ◌∙◌, ap, ap₂}
use mathlib.Core.List.{List}
use mathlib.Core.Bool.{cond}
use lib.Dec.{eqb}
use Prim.Native.Nat.{ℕ, ◌+◌}
use native.Mathlib.Omega.{arith}
use Rattle.std.specs.Prelude.{Result, Ok, Err}
use Rattle.reading.specs.Limits.{bytes_of, levels_of}
use Rattle.reading.specs.Answers.{Reply, Done, Refused, refusal_no, told, reading}
use Rattle.reading.specs.Quantifiers.{look_part, look}
use Rattle.reading.specs.declared.Limit.{Limit}
use Rattle.reading.specs.declared.Refusal.{Refusal}
use Rattle.reading.specs.declared.Refusal.TheVariants.{SmallBuffer, LongSheet, CutShort, WrongKind, WrongLength, WrongVariable, WrongNumber, DeepNesting, BytesAfter, ManyTerms, BigNumber, LongResult, Quantified, WrongValue}
use Rattle.reading.specs.declared.Refused as Code
use Rattle.reading.specs.declared.Part.{Part}

-- a refusal is known by its number, and with its place it is one
abbrev refusal_by : ℕ → Refusal
refusal_by n = cond (eqb n 1) SmallBuffer (cond (eqb n 2) LongSheet (cond (eqb n 3) CutShort (cond (eqb n 4) WrongKind (cond (eqb n 5) WrongLength (cond (eqb n 6) WrongVariable (cond (eqb n 7) WrongNumber (cond (eqb n 8) DeepNesting (cond (eqb n 9) BytesAfter (cond (eqb n 10) ManyTerms (cond (eqb n 11) BigNumber (cond (eqb n 12) LongResult (cond (eqb n 13) Quantified WrongValue))))))))))))

refusal-back : (w : Refusal) → refusal_by (refusal_no w) ≡ w
refusal-back SmallBuffer = refl
refusal-back LongSheet = refl
refusal-back CutShort = refl
refusal-back WrongKind = refl
refusal-back WrongLength = refl
refusal-back WrongVariable = refl
refusal-back WrongNumber = refl
refusal-back DeepNesting = refl
refusal-back BytesAfter = refl
refusal-back ManyTerms = refl
refusal-back BigNumber = refl
refusal-back LongResult = refl
refusal-back Quantified = refl
refusal-back WrongValue = refl

pub one-refusal : (r s : Code.Refused) → refusal_no r.why ≡ refusal_no s.why → r.place ≡ s.place → r ≡ s
one-refusal r s e f = ap₂ (λ (w : Refusal) (p : ℕ). record { why = w; place = p }) (sym (refusal-back r.why) ∙ ap refusal_by e ∙ refusal-back s.why) f

-- what is told of a whole sheet
number_in : Reply → ℕ
number_in (Done k) = 0
number_in (Refused n p) = n

place_in : Reply → ℕ
place_in (Done k) = k
place_in (Refused n p) = p

is_done : Reply → ℕ
is_done (Done k) = 0
is_done (Refused n p) = 1

told-one : (a b : Result ℕ Code.Refused) → told a ≡ told b → a ≡ b
unfolding number_in place_in is_done
told-one (Ok i) (Ok j) e = ap Ok (ap place_in e)
told-one (Ok i) (Err r) e = let z : ◌≡◌ {A = ℕ} 0 1 = ap is_done e in absurd (omega arith)
told-one (Err r) (Ok i) e = let z : ◌≡◌ {A = ℕ} 1 0 = ap is_done e in absurd (omega arith)
told-one (Err r) (Err s) e = ap Err (one-refusal r s (ap number_in e) (ap place_in e))

-- the public reading call
pub read_one : (limit : Limit) (s : List ℕ) (a b : Result ℕ Code.Refused) → told a ≡ reading (bytes_of limit) (levels_of limit) s → told b ≡ reading (bytes_of limit) (levels_of limit) s → a ≡ b
read_one limit s a b p q = told-one a b (p ∙ sym q)

-- the look, as bounds
pub look-part-one : (s : List ℕ) (a b : Part) → a ≡ look_part s → b ≡ look_part s → a ≡ b
look-part-one s a b p q = p ∙ sym q

-- the public look: the bytes of the part, and where it begins in the memory of a sheet that begins at `from`
pub look_one : (s : List ℕ) (from : ℕ) (a b : List ℕ) (i j : ℕ) → a ≡ look s → b ≡ look s → i ≡ (look_part s).at + from → j ≡ (look_part s).at + from → (a ≡ b) × (i ≡ j)
look_one s from a b i j p q m n = (p ∙ sym q, m ∙ sym n)
