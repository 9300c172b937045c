-- `with_copy`: where there is room the copy is written behind the list, and `next-copy` is one copy more.
use mathlib.Core.Path.{◌≡◌, sym, subst}
use mathlib.Core.Bool.{false}
use mathlib.Core.List.{[], ◌∷◌}
use native.Mathlib.Omega.{arith}
use lib.ListN.{length}
use Rattle.std.specs.Prelude.{Ok}
use Rattle.reading.specs.Formula.{encode}
use Rattle.reading.specs.Reading.{tree_of}
use Rattle.reading.specs.Limits.{tree_levels}
use Rattle.exact.specs.Atoms.{spot_by}
use Rattle.rules.specs.Pushing.{push}
use Rattle.replacement.specs.Copying.{came}
use Rattle.replacement.specs.Trying.{Tries, try_all}
use Rattle.replacement.specs.declared.Copies.{Copies}
use Rattle.replacement.proofs.trying.Joining.{next-copy}
use Rattle.replacement.proofs.trying.PointLaws.{try-fits, place-fits, one-sure}
use Rattle.replacement.proofs.copying.Sizes.{copy-size}
use Rattle.replacement.proofs.Source.with_copy.Goals as goal

pub copied-requires : goal.copied-requires
copied-requires c = let b = c.requires.copiable in
    let y = c.args.self.now in
    record {
      begins = b.begins;
      free = b.free;
      point = record { low = b.low; nums = c.requires.bounded };
      calm = one-sure y.body (spot_by c.args.place y.body.x) (push false (tree_of y.bytes.now)) c.requires.sure;
      marks = b.marks;
      room = omega (arith, c.if-out-to.false, b.bytes);
    }

pub returns : goal.returns
returns c =
    let same : length c.copied.new.out ≡ length c.args.out.now = omega arith in
    let y = c.args.self.now in
    let f = tree_of y.bytes.now in
    let q = spot_by c.args.place y.body.x in
    let o = c.copied.new.out in
    let b = c.requires.copiable in
    let z = copy-size false q tree_levels f b.free b.begins.fits in
    subst (λ (x : Copies). Tries y.body.bytes c.args.c (try_all (q ∷ []) (push false f)) c.args.out.now o (Ok x)) (sym c.joined.ensures)
    (try-fits y.body.bytes c.args.c q (push false f) c.args.out.now o _ (place-fits c.args.place y.body.x c.requires.bounded)
    (next-copy y.body.bytes c.args.c (came q (push false f)) (length (encode f)) c.args.out.now o c.in_ok-r.r (omega (arith, z, c.if-out-to.false, b.bytes)) same c.in_ok-r.ensures))
