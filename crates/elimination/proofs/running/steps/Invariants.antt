-- `steps`: before each turn the run of the formula in the buffer is the run of the one at the start, and what was found is its last quantifier. The measure is the number of quantifiers that are left.
use mathlib.Core.Path.{◌≡◌}
use lib.ListN.{drop}
use Rattle.reading.specs.Limits.{result_bytes}
use Rattle.reading.specs.Quantifiers.{found_of, last_in}
use Rattle.rules.specs.Steps.{quantifiers}
use Rattle.elimination.specs.Stepping.{held}
use Rattle.elimination.specs.Running.{Reached}
use Rattle.elimination.proofs.running.RunLaws.{Counting}
use Rattle.elimination.proofs.running.steps.Given as goal

abbrev pub invariant-loop-found : goal.invariant-loop-found
invariant-loop-found l = record {
  found : l.found ≡ found_of (last_in (held l.n l.cur));
  reached : Reached (held l.len l.initial.cur) l.n l.cur;
  cur_rest : drop result_bytes l.cur ≡ drop result_bytes l.initial.cur;
  work_rest : drop result_bytes l.work ≡ drop result_bytes l.initial.work;
  counting : Counting (held l.len l.initial.cur) l.initial.tally.steps l.initial.tally.terms (held l.n l.cur) l.tally.steps l.tally.terms;
}

abbrev pub decreases-loop-found : goal.decreases-loop-found
decreases-loop-found l = quantifiers (held l.n l.cur)
