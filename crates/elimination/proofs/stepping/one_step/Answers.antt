-- `one_step`: what the record of the last quantifier says, the terms of its body, what is told of the body, and then the step.
use mathlib.Core.Path.{◌≡◌, sym, ◌∙◌, ap, ap₂, subst}
use mathlib.Core.Bool.{true, true≢false}
use mathlib.Core.List.{List}
use Prim.Native.Nat.{ℕ, ◌+◌, ◌-◌, ◌≤◌, ◌<◌}
use native.Mathlib.Omega.{arith}
use lib.IntN.{ℤ}
use lib.ListN.{length, take, drop}
use Rattle.reading.specs.Limits.{most_terms}
use Rattle.reading.specs.Formula.{encode}
use Rattle.reading.specs.Reading.{tree_of}
use Rattle.reading.specs.Quantifiers.{last_in}
use Rattle.reading.proofs.Looking.{Body, body_at}
use Rattle.std.specs.Prelude.{Ok, Err}
use Rattle.rules.specs.Points as points
use Rattle.replacement.specs.Gathering.{Table, Collected}
use Rattle.rules.specs.Points.{terms}
use Rattle.rules.specs.Counts.{terms_at}
use Rattle.elimination.specs.Stepping.{held}
use Rattle.replacement.proofs.Outcomes.{fine-is, fine-table, full-is, terms-are}
use Rattle.elimination.proofs.stepping.WholeStep.{terms-many, terms-few, larger-none, larger-is, within, variable-low, quantifier-at, binder-said, variable-said, part-tree, part-read, gathered-ends, body-long, body-read, step-many, poised}
use Rattle.elimination.proofs.stepping.one_step.Goals as goal
use Rattle.elimination.proofs.stepping.one_step.Goals.{In-Ok, Start}

-- the last quantifier, whose record and body stand in the formula
abbrev last : (c : Start) → Body true (take c.args.len c.args.cur.now) c.args.o
last c = body_at true c.requires.stands.exactly c.requires.cur_value

inside : (c : Start) → c.args.o + 6 + length (encode (last c).body) ≤ c.args.len
inside c = within c.requires.stands (last c).is

-- what was gathered: the bytes of the body, and its terms
gathered : (c : In-Ok) → let f = tree_of (take (c.args.len - (c.args.o + 6)) (drop (c.args.o + 6) c.args.cur.now)) in
    (c.in-Ok.used ≡ length (encode f)) × (Table c.gather.new.ts.items × (c.gather.new.ts.items ≡ terms c.binder_at-b.result.variable f))
gathered c = let f = tree_of (take (c.args.len - (c.args.o + 6)) (drop (c.args.o + 6) c.args.cur.now)) in
    let t = subst (λ (us : List (List ℤ)). Collected (length (encode f)) (points.gather c.binder_at-b.result.variable f us) c.gather.new.ts.items (Ok c.in-Ok.used)) c.new-ts.ensures c.in-Ok.ensures in
    ((fine-is t).1, ((fine-table t).0, (fine-table t).1 ∙ terms-are c.binder_at-b.result.variable _))

pub slice_bounds-binder_at-count : goal.slice_bounds-binder_at-count
slice_bounds-binder_at-count c = omega (arith, inside (goal.at.slice_bounds-binder_at-count c).Start)

pub slice_bounds-binder_at-start : goal.slice_bounds-binder_at-start
slice_bounds-binder_at-start c = omega (arith, inside (goal.at.slice_bounds-binder_at-start c).Start)

pub binder_at-b-requires : goal.binder_at-b-requires
binder_at-b-requires c = let asked = quantifier-at c.requires.stands (last (goal.at.binder_at-b-requires c).Start).is in record { begins = asked.0; quantifier = asked.1 }

pub overflow_add-from : goal.overflow_add-from
overflow_add-from c = omega (arith, inside (goal.at.overflow_add-from c).Start, c.requires.stands.few)

pub slice_bounds-gather-count : goal.slice_bounds-gather-count
slice_bounds-gather-count c = omega (arith, inside (goal.at.slice_bounds-gather-count c).Start)

pub slice_bounds-gather-start : goal.slice_bounds-gather-start
slice_bounds-gather-start c = omega (arith, inside (goal.at.slice_bounds-gather-start c).Start)

pub gather-requires : goal.gather-requires
gather-requires c =
    let start = (goal.at.gather-requires c).Start in
    let q = last start in
    let s = part-read c.requires.stands q.is c.args.len (inside start) (omega arith) in
    record {
      begins = s.0;
      free = s.1;
      low = omega (arith, variable-said c.requires.stands q.is c.binder_at-b.ensures, variable-low c.requires.stands q.is);
      table = subst Table (sym c.new-ts.ensures) (record { few = omega arith; rows = tt });
    }

pub returns-in_default : goal.returns-in_default
returns-in_default c =
    let start = (goal.at.returns-in_default c).Start in
    let q = last start in
    let f = tree_of (take (c.args.len - (c.args.o + 6)) (drop (c.args.o + 6) c.args.cur.now)) in
    let t = subst (λ (us : List (List ℤ)). Collected (length (encode f)) (points.gather c.binder_at-b.result.variable f us) c.gather.new.ts.items (Err c.in_default.field-0)) c.new-ts.ensures c.in_default.ensures in
    let m : most_terms < length (terms q.variable q.body) =
    subst (λ (us : List (List ℤ)). most_terms < length us) (terms-are c.binder_at-b.result.variable _ ∙ ap₂ terms (variable-said c.requires.stands q.is c.binder_at-b.ensures) (part-tree c.requires.stands q.is c.args.len (inside start) (omega arith))) (full-is t) in
    record {
      stepped = record { tried = step-many c.requires.stands q.is c.args.work.now m; roomy = λ s. absurd (true≢false (sym s)) };
      counted = ap (λ (n : ℕ). record { steps = c.args.tally.now.steps; terms = n }) (larger-none c.args.tally.now.terms (terms-many (held c.args.len c.args.cur.now) q.is m));
    }

pub overflow_add-e : goal.overflow_add-e
overflow_add-e c =
    let start = (goal.at.overflow_add-e c).Start in
    omega (arith, gathered-ends c.requires.stands (last start).is (gathered (goal.at.overflow_add-e c).In-Ok).0, inside start, c.requires.stands.few)

pub slice_bounds-body_of-end : goal.slice_bounds-body_of-end
slice_bounds-body_of-end c =
    let start = (goal.at.slice_bounds-body_of-end c).Start in
    omega (arith, gathered-ends c.requires.stands (last start).is (gathered (goal.at.slice_bounds-body_of-end c).In-Ok).0, inside start, c.requires.stands.few, c.requires.stands.long)

pub body_of-body-requires : goal.body_of-body-requires
body_of-body-requires c =
    let start = (goal.at.body_of-body-requires c).Start in
    let q = last start in
    let ends = gathered-ends c.requires.stands q.is (gathered (goal.at.body_of-body-requires c).In-Ok).0 in
    record {
      exactly = body-read c.requires.stands q.is (c.args.o + 6 + c.in-Ok.used) ends;
      x_lt_variables = omega (arith, variable-said c.requires.stands q.is c.binder_at-b.ensures, variable-low c.requires.stands q.is);
      s_len_bound = omega (arith, body-long c.requires.stands q.is (c.args.o + 6 + c.in-Ok.used) ends, inside start, c.requires.stands.few);
    }

pub step_with-requires-clause-poised : goal.step_with-requires-clause-poised
step_with-requires-clause-poised c =
    let q = last (goal.at.step_with-requires-clause-poised c).Start in
    let g = gathered (goal.at.step_with-requires-clause-poised c).In-Ok in
    poised c.requires.stands q.is c.binder_at-b.result c.body_of-body.result c.in-Ok.used _ _ (c.binder_at-b.ensures ∙ binder-said c.requires.stands q.is) c.body_of-body.ensures g.0 (subst Table (sym c.deref.ensures.0) g.1.0) (c.deref.ensures.0 ∙ g.1.1)

pub returns-clause-counted : goal.returns-clause-counted
returns-clause-counted c =
    let start = (goal.at.returns-clause-counted c).Start in
    let q = last start in
    let g = gathered (goal.at.returns-clause-counted c).In-Ok in
    let k : c.len.result ≡ terms_at (last_in (held c.args.len c.args.cur.now)) =
    terms-few (held c.args.len c.args.cur.now) q.is
    (c.len.ensures.value ∙ ap length (g.1.1 ∙ ap₂ terms (variable-said c.requires.stands q.is c.binder_at-b.ensures) (part-tree c.requires.stands q.is c.args.len (inside start) (omega arith)))) (omega (arith, c.len.ensures.value, g.1.0.few)) in
    ap (λ (n : ℕ). record { steps = c.args.tally.now.steps; terms = n }) (c.max-tally.ensures ∙ larger-is c.args.tally.now.terms k)
