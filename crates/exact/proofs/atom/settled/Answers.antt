-- `settled` meets its contract: decided where no variable is left, and otherwise reduced, with its size judged afterwards. Assumes nothing.
use Rattle.std.proofs.Common.{◌≡◌, sym, ◌∙◌, ap, ap₂, Bool, ℤ, List, cond, true, false}
use Rattle.reading.specs.Limits.{M}
use Rattle.reading.specs.Views.{comparison_in}
use Rattle.exact.specs.Numbers.{all_in}
use Rattle.exact.specs.Atoms.{holds, put_of, settled}
use Rattle.exact.specs.declared.Put.TheVariants.{New, Large, Decided}
use Rattle.exact.proofs.Rows.{rd-at}
use Rattle.exact.proofs.Atoms.{settled-new, settled-sure}
use Rattle.exact.proofs.atom.settled.Goals as goal
use Rattle.exact.proofs.atom.settled.Goals.{After-within_all-fits}

pub returns-then-all_zero : goal.returns-then-all_zero
returns-then-all_zero c = ap Decided (c.holds.ensures ∙ ap (holds _) (rd-at c.requires tt 8)) ∙ ap put_of (sym (settled-sure _ _ (sym c.all_zero.ensures ∙ c.if-all_zero.true)))

-- what the reduced numbers come out as, by their size
sized : (c : After-within_all-fits) (b : Bool) → c.within_all-fits.result ≡ b → cond b (New c.reduce.new.s) (Large c.reduce.new.s) ≡ put_of (settled (comparison_in c.args.c) c.args.ns)
sized c b e =
    ap₂ (λ (t : Bool) (l : List ℤ). cond t (New l) (Large l)) (sym e ∙ c.within_all-fits.ensures ∙ ap (all_in M) c.reduce.ensures) c.reduce.ensures
    ∙ sym (ap put_of (settled-new _ _ (sym c.all_zero.ensures ∙ c.if-all_zero.false)))

pub returns-then-fits : goal.returns-then-fits
returns-then-fits c = sized (goal.at.returns-then-fits c).After-within_all-fits true c.if-fits.true

pub returns-else-fits : goal.returns-else-fits
returns-else-fits c = sized (goal.at.returns-else-fits c).After-within_all-fits false c.if-fits.false
