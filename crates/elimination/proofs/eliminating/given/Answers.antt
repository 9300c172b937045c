-- `given`: a result longer than the limit is refused with 12; any other is delivered, with zeros after it.
use mathlib.Core.Path.{refl, ◌∙◌, sym, ap}
use native.Mathlib.Omega.{arith}
use Rattle.reading.specs.Formula.{Formula}
use Rattle.rules.specs.Lists.{known}
use Rattle.rules.specs.Eliminate.{verdict_by}
use Rattle.std.specs.Prelude.{Ok, Err}
use Rattle.reading.specs.declared.Refusal.TheVariants.{LongResult}
use Rattle.elimination.specs.Stepping.{Stands}
use Rattle.elimination.proofs.running.RunLaws.{held-long}
use Rattle.elimination.proofs.eliminating.Delivery.{given-long, given-short, result-is, result-known, result-exactly}
use Rattle.elimination.proofs.eliminating.given.Goals as goal
use Rattle.elimination.proofs.eliminating.given.Goals.{Else-end-gt-RESULT_BYTES}

-- where it is not too long, the formula stands there
stands : (c : Else-end-gt-RESULT_BYTES) → Stands c.args.end c.args.res.now
stands c = let le = c.if-end-gt-RESULT_BYTES.false in record { exactly = c.requires.exactly le; few = le; long = c.requires.result_bytes_in_bounds.0 }

pub returns-then-end-gt-RESULT_BYTES : goal.returns-then-end-gt-RESULT_BYTES
returns-then-end-gt-RESULT_BYTES c =
    given-long c.args.end c.args.sheet c.args.res.now c.args.work.now (Err (record { why = LongResult; place = c.args.sheet })) c.clear-then-end-gt-RESULT_BYTES.new.d c.clear.new.d c.if-end-gt-RESULT_BYTES.true
    (refl, refl, refl, refl, c.clear-then-end-gt-RESULT_BYTES.ensures, c.clear.ensures)

pub verdict-requires : goal.verdict-requires
verdict-requires c = record {
  len_in_bounds = omega arith;
  exactly = result-exactly (stands (goal.at.verdict-requires c).Else-end-gt-RESULT_BYTES) c.fill.new.self (c.fill.ensures.after (λ y e. e));
}

pub returns : goal.returns
returns c = let s = stands (goal.at.returns c).Else-end-gt-RESULT_BYTES in
    let z = c.fill.ensures.after (λ y e. e) in
    given-short c.args.end c.args.sheet c.args.res.now c.args.work.now (Ok (record { verdict = c.verdict.result; length = c.args.end })) _ c.clear.new.d c.if-end-gt-RESULT_BYTES.false (
      refl,
      c.verdict.ensures ∙ ap (λ (g : Formula). verdict_by (known g)) (result-known s c.fill.new.self z),
      refl,
      sym (held-long c.args.end c.args.res.now s),
      result-is s c.fill.new.self z,
      c.clear.ensures,
    )
