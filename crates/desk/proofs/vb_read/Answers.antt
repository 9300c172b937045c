-- The number and the place are those of the call below.
use mathlib.Core.Path.{◌∙◌, ap}
use Rattle.reading.specs.Answers.{answer_of}
use Rattle.desk.proofs.vb_read.Goals as goal

pub returns : goal.returns
returns c = c.from.ensures ∙ ap answer_of c.read.ensures
