-- What the code answers, by the numbers of the tables: 3 is the verdict of a refusal, whose length is 0.
use Rattle.std.specs.Prelude.{ℕ, Result, Ok, Err}
use Rattle.reading.specs.AnswerNumbers.{done}
use Rattle.reading.specs.Answers.{refusal_no}
use Rattle.reading.specs.declared.Refused.{Refused}
use Rattle.elimination.specs.declared.Delivered.{Delivered}
use Rattle.elimination.specs.declared.Verdict.{Verdict}
use Rattle.elimination.specs.declared.Verdict.TheVariants.{No, Yes, Open}

abbrev pub verdict_no : Verdict → ℕ
verdict_no No = 0
verdict_no Yes = 1
verdict_no Open = 2

abbrev pub number_of : Result Delivered Refused → ℕ
number_of (Ok d) = done
number_of (Err r) = refusal_no r.why

abbrev pub verdict_of : Result Delivered Refused → ℕ
verdict_of (Ok d) = verdict_no d.verdict
verdict_of (Err r) = 3

abbrev pub place_of : Result Delivered Refused → ℕ
place_of (Ok d) = 0
place_of (Err r) = r.place

abbrev pub length_of : Result Delivered Refused → ℕ
length_of (Ok d) = d.length
length_of (Err r) = 0
