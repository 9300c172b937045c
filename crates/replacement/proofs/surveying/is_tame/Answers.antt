-- `is_tame`: the test is the bound.
use native.Mathlib.Omega.{arith}
use borrow.Author.Tests.{leb-true}
use Rattle.replacement.proofs.surveying.SurveyLaws.{tame-is}
use Rattle.replacement.proofs.surveying.is_tame.Goals as goal

pub returns : goal.returns
returns c e = tame-is c.args.v.most c.args.v.other c.max.result (omega arith, omega arith) (leb-true _ 1073741823 e)
