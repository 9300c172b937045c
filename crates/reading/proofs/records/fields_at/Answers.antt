use mathlib.Core.Path.{◌≡◌, sym, ◌∙◌, ap}
use Prim.Native.Nat.{ℕ}
use borrow.Author.Tests.{le-leb, lt-leb}
use Rattle.reading.specs.Records.{by_kind}
use Rattle.reading.specs.Answers.{Head, Open, head_of}
use Rattle.reading.specs.Views.{shape_kind, shape_size}
use Rattle.reading.proofs.Heads.{fields_of, length-right}
use Rattle.reading.proofs.Viewing.{in-number}
use Rattle.reading.proofs.records.fields_at.Goals as goal
use Rattle.reading.proofs.records.fields_at.Goals.{After-shared_slice_known-1}

-- what the fields say decides
by : {h : Head} (c : After-shared_slice_known-1) → h ≡ head_of (fields_of c.args.shape c.args.s.now) → h ≡ head_of (by_kind (shape_kind c.args.shape) (shape_size c.args.shape) c.args.s.now)
by c e = e ∙ sym (ap head_of (length-right c.args.shape c.args.s.now c.requires))

pub returns-then-not-nums_ok : goal.returns-then-not-nums_ok
unfolding fields_of
returns-then-not-nums_ok c = by (goal.at.returns-then-not-nums_ok c).After-shared_slice_known-1 (simp (c.in-Atom.is, ← c.nums_ok.ensures, c.if-not-nums_ok.true))

pub returns-then-u16_at-gt-LAST_VARIABLE : goal.returns-then-u16_at-gt-LAST_VARIABLE
unfolding fields_of
returns-then-u16_at-gt-LAST_VARIABLE c = by (goal.at.returns-then-u16_at-gt-LAST_VARIABLE c).After-shared_slice_known-1 (simp (c.in-Quantifier.is, ← c.u16_at-in-Quantifier.ensures, lt-leb _ _ c.if-u16_at-gt-LAST_VARIABLE.true))

pub returns-then-u16_at-gt-LAST_VARIABLE-2 : goal.returns-then-u16_at-gt-LAST_VARIABLE-2
unfolding fields_of
returns-then-u16_at-gt-LAST_VARIABLE-2 c = by (goal.at.returns-then-u16_at-gt-LAST_VARIABLE-2 c).After-shared_slice_known-1 (simp (c.in-Window.is, ← c.u16_at-in-Window.ensures, lt-leb _ _ c.if-u16_at-gt-LAST_VARIABLE-2.true))

pub returns-then-not-nums_ok-2 : goal.returns-then-not-nums_ok-2
unfolding fields_of
returns-then-not-nums_ok-2 c = by (goal.at.returns-then-not-nums_ok-2 c).After-shared_slice_known-1 (simp (c.in-Window.is, ← c.u16_at-in-Window.ensures, le-leb _ _ c.if-u16_at-gt-LAST_VARIABLE-2.false, ← c.nums_ok-in-Window.ensures, c.if-not-nums_ok-2.true))

pub returns-else-not-nums_ok : goal.returns-else-not-nums_ok
unfolding fields_of
returns-else-not-nums_ok c = by (goal.at.returns-else-not-nums_ok c).After-shared_slice_known-1 (simp (c.in-Atom.is, ← c.nums_ok.ensures, c.if-not-nums_ok.false) (ap (λ (n : ℕ). Open n 40 0) (in-number c.in-Atom.field-0)))

pub returns-in-Not : goal.returns-in-Not
unfolding fields_of
returns-in-Not c = by (goal.at.returns-in-Not c).After-shared_slice_known-1 (simp (c.in-Not.is))

pub returns-in-List : goal.returns-in-List
unfolding fields_of
returns-in-List c = by (goal.at.returns-in-List c).After-shared_slice_known-1 (simp (c.in-List.is, ← c.u16_at.ensures))

pub returns-else-u16_at-gt-LAST_VARIABLE : goal.returns-else-u16_at-gt-LAST_VARIABLE
unfolding fields_of
returns-else-u16_at-gt-LAST_VARIABLE c = by (goal.at.returns-else-u16_at-gt-LAST_VARIABLE c).After-shared_slice_known-1 (simp (c.in-Quantifier.is, ← c.u16_at-in-Quantifier.ensures, le-leb _ _ c.if-u16_at-gt-LAST_VARIABLE.false))

pub returns-else-not-nums_ok-2 : goal.returns-else-not-nums_ok-2
unfolding fields_of
returns-else-not-nums_ok-2 c = by (goal.at.returns-else-not-nums_ok-2 c).After-shared_slice_known-1 (simp (c.in-Window.is, ← c.u16_at-in-Window.ensures, le-leb _ _ c.if-u16_at-gt-LAST_VARIABLE-2.false, ← c.nums_ok-in-Window.ensures, c.if-not-nums_ok-2.false))
