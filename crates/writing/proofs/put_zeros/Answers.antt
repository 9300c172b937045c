-- `put_zeros`: the zeros stand between what was before and after them.
use Rattle.std.proofs.Common.{rules, ℕ, ap, ◌∙◌, arith, replicate, length, ◌≡◌, ◌-◌}
use Rattle.std.proofs.lemmas.List.{length-replicate}
use Rattle.reading.specs.Bytes.{zeros}
use Rattle.writing.proofs.Lay.{lay-mid}
use Rattle.writing.proofs.Moving.{part-long}
use Rattle.writing.proofs.put_zeros.Goals as goal

pub returns : goal.returns
returns c =
    let long : length (zeros (c.args.to - c.args.from)) ≡ c.args.to - c.args.from = length-replicate _ _ in
    lay-mid _ _ (zeros (c.args.to - c.args.from)) _ _ (c.fill.ensures.after (λ y k. search rules) ∙ ap (λ (n : ℕ). replicate n 0) (part-long c.args.from (c.args.to - c.args.from) c.args.d.now (omega arith))) (omega arith) (omega arith)
