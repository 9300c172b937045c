-- Bytes that begin with a formula are not refused, so reading it says its length.
use mathlib.Core.Path.{◌∙◌, ap}
use Rattle.reading.specs.Answers.{reply_of}
use Rattle.reading.proofs.Trees.{begins-read}
use Rattle.reading.proofs.Whole.{told-done}
use Rattle.reading.proofs.quantifiers.formula_length.Goals as goal

pub returns : goal.returns
returns c = rw (c.unwrap_or.ensures, told-done c.formula_at.result (c.formula_at.ensures ∙ ap reply_of (begins-read c.requires)))
