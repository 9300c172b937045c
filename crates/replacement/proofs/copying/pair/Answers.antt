-- `pair`: the list before its members, after one and after both; a number that is too big ends it at once.
use mathlib.Core.Path.{◌≡◌, sym, ◌∙◌, ap, subst}
use mathlib.Core.Bool.{false}
use native.Mathlib.Omega.{arith}
use lib.ListN.{length}
use borrow.Author.Rules.{rules}
use Rattle.std.specs.Prelude.{Ok}
use Rattle.reading.specs.Formula.{atom, list, none}
use Rattle.reading.specs.Views.{comparison_in}
use Rattle.exact.specs.Atoms.{spot_of}
use Rattle.rules.specs.Pushing.{two}
use Rattle.replacement.specs.Listing.{Come, Tally, going, add, close, Wrote}
use Rattle.replacement.specs.Copying.{came}
use Rattle.replacement.proofs.copying.Settling.{came-list, wrote-big}
use Rattle.replacement.proofs.copying.Progress.{Progress, progress-open, progress-atom, progress-big, progress-end}
use Rattle.replacement.proofs.copying.pair.Goals as goal
use Rattle.replacement.proofs.copying.pair.Goals.{After-opened-none, After-taken, After-taken-one, Start}

-- how each atom comes out
abbrev came-a : (c : Start) → Come
came-a c = came (spot_of c.args.q) (atom (comparison_in c.args.c) c.args.a)

abbrev came-b : (c : Start) → Come
came-b c = came (spot_of c.args.q) (atom (comparison_in c.args.c) c.args.b)

-- the pair, by its members
whole : (c : Start) → let k = comparison_in c.args.c in let q = spot_of c.args.q in let all = c.args.all in
    came q (list all (two (atom k c.args.a) (atom k c.args.b))) ≡ close all (add all (add all (going false none) (came q (atom k c.args.a))) (came q (atom k c.args.b)))
whole c = came-list (spot_of c.args.q) c.args.all _

-- the list before its members, after one, after both
zeroth : (c : After-opened-none) → Progress c.args.all (going false none) 0 0 c.opened-none.result c.args.to c.args.out.now c.args.out.now
zeroth c = progress-open c.args.all c.args.to c.args.out.now c.opened-none.ensures (omega (arith, c.requires.to_in_bounds))

first : (c : After-taken-one) → Progress c.args.all (going false none) 0 0 c.opened-none.result c.args.to c.args.out.now c.args.out.now
    → let k = came (spot_of c.args.q) (atom (comparison_in c.args.c) c.args.a) in Progress c.args.all (add c.args.all (going false none) k) 1 40 c.taken-one.result c.args.to c.args.out.now c.atom.new.out
first c h = let n : length c.args.a ≡ 9 = search rules in
    progress-atom h (spot_of c.args.q) (comparison_in c.args.c) c.args.a n 0 c.atom.new.out _ (c.in_ok-first.ensures) (omega arith) (omega (arith, c.requires.to_in_bounds)) c.taken-one.ensures

second : (c : After-taken) → let q = spot_of c.args.q in let k = comparison_in c.args.c in let all = c.args.all in let t = add all (going false none) (came q (atom k c.args.a)) in
    Progress all t 1 40 c.taken-one.result c.args.to c.args.out.now c.atom.new.out → Progress all (add all t (came q (atom k c.args.b))) 2 80 c.taken.result c.args.to c.args.out.now c.atom-2.new.out
second c h = let n : length c.args.b ≡ 9 = search rules in
    progress-atom h (spot_of c.args.q) (comparison_in c.args.c) c.args.b n 0 c.atom-2.new.out _ (c.in_ok-second.ensures) (omega arith) (omega (arith, c.requires.to_in_bounds)) c.taken.ensures

pub returns-in_err-first : goal.returns-in_err-first
returns-in_err-first c = let p = goal.at.returns-in_err-first c in
    let x = progress-big (zeroth p.After-opened-none) (came-a p.Start) 0 c.atom.new.out _ (c.in_err-first.ensures) in
    wrote-big c.args.used c.args.to c.args.out.now c.atom.new.out c.from_residual.ensures.0 (whole p.Start ∙ ap (λ (t : Tally). close c.args.all (add c.args.all t (came-b p.Start))) x.0) x.1

pub atom-requires-2-clause-atom_size_in_bounds : goal.atom-requires-2-clause-atom_size_in_bounds
atom-requires-2-clause-atom_size_in_bounds c = let p = goal.at.atom-requires-2-clause-atom_size_in_bounds c in
    let h = first p.After-taken-one (zeroth p.After-opened-none) in
    omega (arith, h.end, c.requires.to_in_bounds)

pub returns-in_err-second : goal.returns-in_err-second
returns-in_err-second c = let p = goal.at.returns-in_err-second c in
    let x = progress-big (first p.After-taken-one (zeroth p.After-opened-none)) (came-b p.Start) 0 c.atom-2.new.out _ (c.in_err-second.ensures) in
    wrote-big c.args.used c.args.to c.args.out.now c.atom-2.new.out c.from_residual-in_err-second.ensures.0 (whole p.Start ∙ ap (close c.args.all) x.0) x.1

pub returns : goal.returns
returns c = let p = goal.at.returns c in
    subst (λ (y : Come). Wrote y c.args.used c.args.to c.args.out.now c.closed.new.out (Ok c.closed.result)) (sym (whole p.Start))
    (progress-end (second p.After-taken (first p.After-taken-one (zeroth p.After-opened-none))) c.args.used c.closed.new.out c.closed.result c.closed.ensures)
