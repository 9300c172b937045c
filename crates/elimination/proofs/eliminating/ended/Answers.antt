-- `ended`: what the finishing pass came to is given to the caller; for want of room nothing is done.
use mathlib.Core.Path.{◌∙◌, ap}
use mathlib.Core.List.{List}
use Prim.Native.Nat.{ℕ}
use Rattle.rules.specs.Counts.{counts_of}
use Rattle.elimination.specs.Stepping.{held}
use Rattle.elimination.proofs.eliminating.Carrying.{finished-exactly, ended-gives}
use Rattle.elimination.proofs.eliminating.CountLaws.{free-none}
use Rattle.elimination.proofs.eliminating.ended.Goals as goal

pub given-requires-clause-exactly : goal.given-requires-clause-exactly
given-requires-clause-exactly c = finished-exactly c.in-Some.ensures.0 c.requires.unquantified.levels

pub returns-in_default-clause-uncounts : goal.returns-in_default-clause-uncounts
returns-in_default-clause-uncounts c = ap (λ (b : List ℕ). counts_of (held c.args.len b)) c.in_default.ensures.0 ∙ free-none (held c.args.len c.args.res.now) c.requires.unquantified.free

pub returns : goal.returns
returns c = record {
  carries = ended-gives c.args.len c.in-Some.end c.args.res.now c.finish.new.cur c.args.work.now c.finish.new.work c.args.sheet c.given.result c.given.new.res c.given.new.work c.requires.unquantified c.in-Some.ensures.0 c.in-Some.ensures.1 c.given.ensures;
  uncounts = tt;
}
