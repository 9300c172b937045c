-- What the code of the elimination asks for and promises.
use Rattle.std.specs.Prelude.{ℕ, ◌≤◌, ◌<◌, ◌≡◌, List, length, drop, Ok, Err}
use Rattle.std.specs.Prelude as Std
use Rattle.reading.specs.Limits.{sheet_bytes, sheet_levels, result_bytes}
use Rattle.reading.specs.Formula.{Formula, Fits}
use Rattle.reading.specs.Reading.{tree_of, Exactly}
use Rattle.rules.specs.Steps.{eliminated}
use Rattle.rules.specs.Eliminate.{Result, by_run, room_bytes}
use Rattle.rules.specs.Counts.{counts_of, uncounted}
use Rattle.elimination.specs.Stepping.{held}
use Rattle.elimination.specs.Running.{Reached, CountsAll, CountsLeft}
use Rattle.elimination.specs.declared.Tally.{Tally}
use Rattle.elimination.specs.Verdicts.{number_of, verdict_of, place_of, length_of}
use Rattle.elimination.specs.declared.Short.{Short}
use Rattle.elimination.specs.declared.Delivered.{Delivered}
use Rattle.reading.specs.declared.Refused.{Refused}

-- a sheet that reading accepts
pub record Accepted (s : List ℕ) : Type 0 where
  pub exactly : Exactly s (tree_of s)
  pub levels : Fits sheet_levels (tree_of s)
  pub few : length s ≤ sheet_bytes

-- what the code answers: what it delivers, or its refusal
abbrev pub Reply : Type 0
Reply = Std.Result Delivered Refused

-- the reply and both buffers are those of a result
abbrev pub Gives : Result → Reply → List ℕ → List ℕ → Type 0
Gives e r result work =
    (number_of r ≡ e.number) × (verdict_of r ≡ e.verdict) × (place_of r ≡ e.place) × (length_of r ≡ e.length) × (result ≡ e.result) × (work ≡ e.work)

-- the most room that is tried before room for any formula: for the copies of a body in a formula no longer than a sheet
abbrev pub sheet_room : ℕ
sheet_room = 196608

-- its reply; or the room is too small to go on with the formula of that length
abbrev pub Carried : Type 0
Carried = Std.Result Reply Short

-- an elimination that stands at the formula f, of a sheet of m bytes, with a room of n bytes: it comes to its reply; or for want of room it stops on the way
abbrev pub Carries : Formula → ℕ → ℕ → List ℕ → List ℕ → List ℕ → List ℕ → Carried → Type 0
Carries f m n result₀ result work₀ work (Ok r) = Gives (by_run m (eliminated f) result₀ work₀) r result work
Carries f m n result₀ result work₀ work (Err s) =
    Reached f s.reached result × (drop result_bytes result ≡ drop result_bytes result₀) × (drop result_bytes work ≡ drop result_bytes work₀) × (n < room_bytes)

-- what is counted with it, where t was counted before f
abbrev pub CarriedCounts : Formula → Tally → List ℕ → Carried → Tally → Type 0
CarriedCounts f t result (Ok r) u = CountsAll f t u
CarriedCounts f t result (Err s) u = CountsLeft f t s.reached result u

abbrev pub untallied : Tally
untallied = record { steps = 0; terms = 0 }

-- the finishing pass counts nothing: where it wants room, no step is left
abbrev pub Uncounts : List ℕ → Carried → Type 0
Uncounts result (Ok r) = Unit {0}
Uncounts result (Err s) = counts_of (held s.reached result) ≡ uncounted
