-- What the code of the run asks for and promises.
use Rattle.std.specs.Prelude.{ℕ, ◌+◌, ◌≤◌, ◌<◌, ◌≡◌, List, length, take, drop, Result, Ok, Err}
use Rattle.reading.specs.Limits.{result_bytes, result_levels}
use Rattle.reading.specs.Formula.{Formula, encode}
use Rattle.rules.specs.Levels.{Wide}
use Rattle.rules.specs.Steps.{ran, halted, eliminated}
use Rattle.rules.specs.Eliminate.{room_bytes}
use Rattle.elimination.specs.Stepping.{held, Stands}
use Rattle.elimination.specs.declared.Short.{Short}
use Rattle.reading.specs.Answers.{refusal_no}
use Rattle.reading.specs.declared.Refused.{Refused}
use Rattle.elimination.specs.declared.Tally.{Tally}
use Rattle.rules.specs.Counts.{Counts, counts_of, together}

-- a run that stands at the formula in the first n bytes of cur, with t counted before it
pub record Underway (n : ℕ) (cur work : List ℕ) (t : Tally) : Type 0 where
  pub stands : Stands n cur
  pub wide : Wide result_levels (held n cur)
  pub room : result_bytes ≤ length work
  pub few : t.steps + (counts_of (held n cur)).finished ≤ result_bytes

-- the formula in the first n bytes of cur is on the way of f: its run is that of f
pub record Reached (f : Formula) (n : ℕ) (cur : List ℕ) : Type 0 where
  pub stands : Stands n cur
  pub wide : Wide result_levels (held n cur)
  pub same : eliminated f ≡ eliminated (held n cur)

-- what a run came to: the length of the formula with no quantifier left; its refusal; or the room is too small for the next step
abbrev pub Ran : Type 0
Ran = Result (Result ℕ Refused) Short

-- a run over f in the buffer cur₀, with a room of n bytes, answered r: where nothing was refused, the formula with no quantifier left stands at the start
-- of cur; for want of room it stopped at a formula whose run is that of f
abbrev pub RanTo : Formula → ℕ → List ℕ → Ran → Type 0
RanTo f n cur (Ok (Ok k)) = (g : Formula) × (eliminated f ≡ ran g) × (k ≡ length (encode g)) × (take k cur ≡ encode g)
RanTo f n cur (Ok (Err r)) = eliminated f ≡ halted (refusal_no r.why) r.place
RanTo f n cur (Err s) = Reached f s.reached cur × (n < room_bytes)

pub record Runs (f : Formula) (n : ℕ) (cur₀ cur work₀ work : List ℕ) (r : Ran) : Type 0 where
  pub answer : RanTo f n cur r
  pub cur_rest : drop result_bytes cur ≡ drop result_bytes cur₀
  pub work_rest : drop result_bytes work ≡ drop result_bytes work₀

-- ---- what is counted

abbrev pub tallied : Tally → Counts
tallied t = record { finished = t.steps; most = t.terms }

-- where t was counted before f, u is counted with it: all of it, or what is left is counted from the formula in the first k bytes of cur on
abbrev pub CountsLeft : Formula → Tally → ℕ → List ℕ → Tally → Type 0
CountsLeft f t k cur u = together (tallied u) (counts_of (held k cur)) ≡ together (tallied t) (counts_of f)

abbrev pub CountsAll : Formula → Tally → Tally → Type 0
CountsAll f t u = tallied u ≡ together (tallied t) (counts_of f)

abbrev pub RanCounts : Formula → Tally → List ℕ → Ran → Tally → Type 0
RanCounts f t cur (Ok r) u = CountsAll f t u
RanCounts f t cur (Err s) u = CountsLeft f t s.reached cur u
