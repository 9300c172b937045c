-- #102: what is counted of a run, beside it and not inside it: the steps that are finished, and the most boundary terms of any step that gets past 10. A step
-- that is refused is not finished; refused with 11 or 12 it gets past 10. The finishing pass is no step.
use Rattle.std.specs.Prelude.{ℕ, zero, suc, ◌+◌, ◌-◌, ◌||◌, cond, List, eqb, ltb, length}
use Rattle.reading.specs.Limits.{sheet_bytes, sheet_levels, result_bytes, most_terms}
use Rattle.reading.specs.AnswerNumbers.{many_terms}
use Rattle.reading.specs.Formula.{Formula}
use Rattle.reading.specs.Reading.{Read, good, fault, formula_in}
use Rattle.reading.specs.Answers.{reading}
use Rattle.reading.specs.Quantifiers.{Quantifier, nothing, at, last_in}
use Rattle.reading.specs.Answers.{Reply}
use Rattle.reading.specs.Answers.{Done, Refused}
use Rattle.rules.specs.Points.{terms}
use Rattle.rules.specs.Steps.{step, refusal, quantifiers}

pub record Counts : Type 0 where
  pub finished : ℕ
  pub most : ℕ

abbrev pub uncounted : Counts
uncounted = record { finished = 0; most = 0 }

-- the larger of two
abbrev pub larger : ℕ → ℕ → ℕ
larger a b = a + (b - a)

-- one step of t boundary terms, by its refusal, where c is what the steps after it count: with none it is finished, and 10 counts for nothing
abbrev pub counted_by : ℕ → ℕ → Counts → Counts
counted_by zero t c = record { finished = suc c.finished; most = larger t c.most }
counted_by (suc e) t c = record { finished = 0; most = cond (eqb (suc e) many_terms) 0 t }

abbrev pub counted_at : Quantifier → Formula → Counts → Counts
counted_at nothing g c = c
counted_at (at p b x f) g c = counted_by (refusal x f g) (length (terms x f)) c

-- of n steps from f on, on the recursion of `run`
unfoldable pub counts : ℕ → Formula → Counts
unfolding refusal step terms
counts zero f = uncounted
counts (suc n) f = counted_at (last_in f) (step f) (counts n (step f))

-- of the whole run
unfoldable pub counts_of : Formula → Counts
unfolding counts quantifiers
counts_of f = counts (quantifiers f) f

-- of a call: nothing where it is refused before the first step
abbrev pub counts_by : Reply → Read Formula → Counts
counts_by (Done k) (good f j) = counts_of f
counts_by (Done k) (fault e p) = uncounted
counts_by (Refused e p) r = uncounted

unfoldable pub counted : List ℕ → List ℕ → List ℕ → Counts
unfolding counts_of
counted sheet result work =
    cond (ltb (length result) result_bytes || ltb (length work) result_bytes) uncounted (counts_by (reading sheet_bytes sheet_levels sheet) (formula_in sheet_levels sheet))

-- ---- what was counted before, and after it: for a run that is taken up again

abbrev pub together : Counts → Counts → Counts
together a b = record { finished = a.finished + b.finished; most = larger a.most b.most }

-- the terms of the step at a quantifier, 0 where there are more than 64
abbrev pub terms_at : Quantifier → ℕ
terms_at nothing = 0
terms_at (at p b x f) = cond (ltb most_terms (length (terms x f))) 0 (length (terms x f))
