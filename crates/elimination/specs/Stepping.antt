-- What the code of a step asks for and promises: the formula that stands at the start of a buffer, before and after, and the join, which puts the replacement in place of the quantifier and the bytes after it behind it.
use Rattle.std.specs.Prelude.{ℕ, zero, suc, ◌≤◌, ◌+◌, ◌<◌, ◌≡◌, Bool, false, true, cond, List, ◌++◌, length, take, drop, ltb, Result, Ok, Err}
use Rattle.reading.specs.AnswerNumbers.{long_result}
use Rattle.reading.specs.Limits.{result_bytes}
use Rattle.reading.specs.Formula.{Formula, encode, quant_size}
use Rattle.reading.specs.Reading.{tree_of, Exactly}
use Rattle.reading.specs.Quantifiers.{Quantifier, nothing, at, last_in}
use Rattle.rules.specs.Points.{terms}
use Rattle.rules.specs.Steps.{step, refusal}
use Rattle.elimination.specs.declared.Stop as Code
use Rattle.reading.specs.Answers.{refusal_no}
use Rattle.rules.specs.Eliminate.{room_bytes}
use Rattle.elimination.specs.declared.stepping.Step.{Step}
use Rattle.replacement.specs.declared.Unmade.{Unmade}
use Rattle.reading.specs.declared.Refusal.{Refusal}
use Rattle.replacement.specs.Gathering.{Table}
use Rattle.replacement.specs.Replacing.{Told}

-- the formula in the first n bytes of a buffer
abbrev pub held : ℕ → List ℕ → Formula
held n b = tree_of (take n b)

-- a buffer of at least 65,536 bytes whose first n, at most 65,536, are a formula within the limits
pub record Stands (n : ℕ) (b : List ℕ) : Type 0 where
  pub exactly : Exactly (take n b) (held n b)
  pub few : n ≤ result_bytes
  pub long : result_bytes ≤ length b

-- ---- a step

-- the length of the formula after it; 10, 11 or 12; or the room is too small
pub data Stepped : Type 0 where
  Fine : ℕ → Stepped
  Refused : ℕ → Stepped
  Short : Stepped

-- what the code says of it
abbrev pub stepped : Result ℕ Code.Stop → Stepped
stepped (Ok n) = Fine n
stepped (Err (Code.Stop.Refused why)) = Refused (refusal_no why)
stepped (Err Code.Stop.Short) = Short

-- why a step is not finished where the replacement is not made
abbrev pub stop_of : Unmade → Code.Stop
stop_of Unmade.Big = Code.Stop.Refused Refusal.BigNumber
stop_of Unmade.Short = Code.Stop.Short

-- 10, 11, 12 or none (0) for the last quantifier, where g is the formula after the step
abbrev pub refusal_at : Quantifier → Formula → ℕ
refusal_at nothing g = 0
refusal_at (at p b x f) g = refusal x f g

abbrev pub stepped_of : ℕ → ℕ → Stepped
stepped_of zero n = Fine n
stepped_of (suc e) n = Refused (suc e)

-- whether a step did not come to its end, for want of room
abbrev pub is_short : Stepped → Bool
is_short (Fine n) = false
is_short (Refused e) = false
is_short Short = true

-- a step over f in the buffer cur₀ answered r and left cur there; past 65,536 bytes cur and work are as they were. For want of room it leaves cur as it is
pub record Tried (f : Formula) (cur₀ cur work₀ work : List ℕ) (r : Stepped) : Type 0 where
  pub answer : is_short r ≡ false → r ≡ stepped_of (refusal_at (last_in f) (step f)) (length (encode (step f)))
  pub bytes : is_short r ≡ false → refusal_at (last_in f) (step f) ≡ 0 → take (length (encode (step f))) cur ≡ encode (step f)
  pub again : is_short r ≡ true → cur ≡ cur₀
  pub cur_rest : drop result_bytes cur ≡ drop result_bytes cur₀
  pub work_rest : drop result_bytes work ≡ drop result_bytes work₀

-- and a room of n bytes is enough where n is 524,288
pub record Steps (f : Formula) (n : ℕ) (cur₀ cur work₀ work : List ℕ) (r : Stepped) : Type 0 where
  pub tried : Tried f cur₀ cur work₀ work r
  pub roomy : is_short r ≡ true → n < room_bytes

-- the formula in the first bytes of cur has its last quantifier where the step s is; what is told of its body is so, and the body stands in those bytes; and
-- the table holds its boundary terms
pub record Poised (s : Step) (cur : List ℕ) : Type 0 where
  pub stands : Stands s.len cur
  pub body : Formula
  pub last : last_in (held s.len cur) ≡ at s.o s.every s.body.x body
  pub within : s.o + quant_size + s.body.bytes ≤ s.len
  pub told : Told body s.body.x (length (encode body)) s.marks.now s.body
  pub table : Table s.ts.now
  pub terms_are : s.ts.now ≡ terms s.body.x body

-- ---- the replacement in the buffer: the first r bytes of out from o on, and the tail behind them

-- where they end
abbrev pub joined_end : ℕ → ℕ → List ℕ → ℕ
joined_end o r tail = o + r + length tail

pub record Joins (o r : ℕ) (cur₀ cur out tail : List ℕ) (s : Stepped) : Type 0 where
  pub answer : s ≡ cond (ltb result_bytes (joined_end o r tail)) (Refused long_result) (Fine (joined_end o r tail))
  pub bytes : joined_end o r tail ≤ result_bytes → take (joined_end o r tail) cur ≡ take o cur₀ ++ (take r out ++ tail)
  pub cur_rest : drop result_bytes cur ≡ drop result_bytes cur₀
