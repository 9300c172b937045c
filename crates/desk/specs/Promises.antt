-- What each call that C makes promises, as one equation: all that it gave, the fields of the reply and, where it has buffers, every byte of them
-- afterwards, is what 01's definition gives. `gave..` reads the C reply as the definition's own record.
use Rattle.std.specs.Prelude.{◌≡◌, List, ℕ, ℤ, length, drop}
use Rattle.reading.specs.Limits.{result_bytes, result_levels}
use Rattle.reading.specs.Answers.{reading, answer_of}
use Rattle.reading.specs.Quantifiers.{look_part}
use Rattle.reading.specs.Answers.{Answer}
use Rattle.reading.specs.declared.Part as Reading
use Rattle.rules.specs.Eliminate.{Result, eliminate, eliminate_in, room_bytes}
use Rattle.rules.specs.Counts.{Counts, counted}
use Rattle.rules.specs.Test.{tested, Trial}
use Rattle.std.specs.Prelude as Std
use Rattle.reading.specs.declared.Refused.{Refused}
use Rattle.elimination.specs.Verdicts.{number_of, verdict_of, place_of, length_of}
use Rattle.elimination.specs.declared.Delivered.{Delivered}
use Rattle.desk.specs.declared.Reply.{Reply}
use Rattle.desk.specs.declared.Counted.{Counted}
use Rattle.desk.specs.declared.Tested.{Tested}
use Rattle.desk.specs.declared.Place.{Place}
use Rattle.desk.specs.declared.Part.{Part}

-- ---- a reply of the elimination as C gets it: 0 and its verdict and length; or the refusal's number, 3 and its place

abbrev pub Numbered : Std.Result Delivered Refused → Reply → Type 0
Numbered reply r = (r.number ≡ number_of reply) × (r.verdict ≡ verdict_of reply) × (r.place ≡ place_of reply) × (r.length ≡ length_of reply)

-- ---- vb_eliminate: the reply r, and the bytes out and work of the two buffers afterwards

abbrev pub gave : Reply → List ℕ → List ℕ → Result
gave r out work = record { number = r.number; verdict = r.verdict; place = r.place; length = r.length; result = out; work = work }

abbrev pub Eliminates : List ℕ → List ℕ → List ℕ → Reply → List ℕ → List ℕ → Type 0
Eliminates sheet out₀ work₀ r out work = gave r out work ≡ eliminate sheet out₀ work₀

-- ---- vb_eliminate_in: the same in the caller's room, of which at most the first 524,288 bytes are written; what is in those afterwards is left open

abbrev pub EliminatesIn : List ℕ → List ℕ → List ℕ → List ℕ → Reply → List ℕ → List ℕ → List ℕ → Type 0
EliminatesIn sheet out₀ work₀ room₀ r out work room = (gave r out work ≡ eliminate_in (length room₀) sheet out₀ work₀) × (drop room_bytes room ≡ drop room_bytes room₀)

-- ---- vb_count: the same reply and buffers as vb_eliminate, and what is counted of the run

abbrev pub gave_counts : Counted → Counts
gave_counts r = record { finished = r.steps; most = r.terms }

abbrev pub shortened : Counted → Reply
shortened r = record { number = r.number; verdict = r.verdict; place = r.place; length = r.length }

abbrev pub CountsAlong : List ℕ → List ℕ → List ℕ → Counted → List ℕ → List ℕ → Type 0
CountsAlong sheet out₀ work₀ r out work = Eliminates sheet out₀ work₀ (shortened r) out work × (gave_counts r ≡ counted sheet out₀ work₀)

-- ---- vb_test, at the eight values and the denominator w

abbrev pub gave_test : Tested → Trial
gave_test t = record { number = t.number; verdict = t.verdict; place = t.place }

abbrev pub TestsAt : List ℕ → List ℤ → Tested → Type 0
TestsAt sheet w t = gave_test t ≡ tested sheet w

-- ---- vb_read

abbrev pub gave_place : Place → Answer
gave_place a = record { number = a.number; place = a.place }

abbrev pub ReadsAs : List ℕ → Place → Type 0
ReadsAs sheet a = gave_place a ≡ answer_of (reading result_bytes result_levels sheet)

-- ---- vb_look

abbrev pub gave_part : Part → Reading.Part
gave_part p = record { at = p.at; length = p.length }

abbrev pub LooksAt : List ℕ → Part → Type 0
LooksAt sheet p = gave_part p ≡ look_part sheet
