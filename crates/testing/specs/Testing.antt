-- What the functions of the test at fractions ask for and answer: whether a formula holds, and its length.
use Rattle.std.proofs.Math.Bool as Bool
use Rattle.std.specs.Prelude.{ℕ, ◌+◌, Bool, cond, List, length, ℤ, Result, Ok, Err}
use Rattle.reading.specs.Limits.{most_value}
use Rattle.reading.specs.Formula.{Formula, Free, not_size, encode}
use Rattle.reading.specs.Reading.{tree_of, Begins}
use Rattle.exact.specs.Numbers.{Each}
use Rattle.reading.specs.AnswerNumbers.{done}
use Rattle.reading.specs.Answers.{refusal_no}
use Rattle.rules.specs.Test.{true_at, refused_test, Trial}
use Rattle.testing.specs.declared.Holds.{Holds}
use Rattle.reading.specs.declared.Refused.{Refused}

abbrev pub holds_of : List ℤ → Formula → Holds
holds_of w f = record { used = length (encode f); holds = true_at w f }

-- a formula under NOT
abbrev pub denied_of : Holds → Holds
denied_of h = record { used = not_size + h.used; holds = Bool.not h.holds }

-- s begins with a formula without quantifiers, and the values are in their range
pub record Testable (s : List ℕ) (w : List ℤ) : Type 0 where
  pub begins : Begins s (tree_of s)
  pub free : Free (tree_of s)
  pub values : Each most_value w

-- the code's answer as the definition's record
abbrev pub trial_of : Result Bool Refused → Trial
trial_of (Ok holds) = record { number = done; verdict = cond holds 1 0; place = 0 }
trial_of (Err r) = refused_test (refusal_no r.why) r.place
