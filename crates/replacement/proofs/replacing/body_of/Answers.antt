-- `body_of`: what the survey sees of the body; where it is tame, no number of the step is too big. From four terms on the atoms are marked.
use mathlib.Core.Path.{◌≡◌, refl, sym, ◌∙◌, ap, subst}
use mathlib.Core.Bool.{Bool, true}
use mathlib.Core.List.{List}
use native.Mathlib.Omega.{arith}
use lib.Dec.{leb}
use lib.ListN.{length}
use borrow.Author.Tests.{leb-true}
use Rattle.reading.specs.Limits.{tree_levels}
use Rattle.reading.specs.Reading.{tree_of}
use Rattle.rules.proofs.Tame.{tame-fits}
use Rattle.replacement.specs.Marking.{Marked}
use Rattle.replacement.proofs.replacing.body_of.Goals as goal
use Rattle.replacement.proofs.replacing.body_of.Goals.{else-marked, then-marked, Joined-marked}

-- the table is as long as it was, and where it was written it holds the marks
table : (c : Joined-marked) → let a = c.args in (length c.if-marked.marks ≡ length a.marks.now) × (leb 4 a.n ≡ true → Marked a.x c.if-marked.marks (length a.s.now) (tree_of a.s.now))
table c =
    let a = c.args in
    elim c.if-marked.branch [
      | then-marked w ↦ (
        ap length w.marks-is ∙ omega arith,
        λ _. subst (λ (ms : List Bool). Marked a.x ms (length a.s.now) (tree_of a.s.now)) (sym w.marks-is) w.mark.ensures,
      )
      | else-marked w ↦ (ap length w.marks-is, λ e. absurd (omega (arith, leb-true 4 a.n e)))
    ]

pub returns : goal.returns
returns c = let v = c.survey-v.result in
    let t = table (goal.at.returns c).Joined-marked in
    record {
      variable = refl;
      bytes = refl;
      marks = λ e. (omega (arith, c.requires.s_len_bound, t.0), t.1 e);
      sure = λ e. tame-fits c.args.x v.most v.other tree_levels (tree_of c.args.s.now) c.requires.exactly.1 c.requires.exactly.0.fits c.requires.x_lt_variables c.survey-v.ensures.1 (c.is_tame.ensures e);
    }
