-- `put_int`: the bits of the number, laid.
use Rattle.std.proofs.Common.{◌≡◌, ◌∙◌, ap, List, ℕ, ℤ, to_z, of_z, FitsSigned, arith}
use Rattle.std.specs.Int.{w32, w64, to_le_bytes}
use Rattle.std.proofs.lemmas.Int.{to_z-of_z, fits_signed_from_abs}
use Rattle.exact.proofs.Sizes.{rd}
use Rattle.writing.specs.Writing.{lay}
use Rattle.writing.proofs.Lay.{four-bytes}
use Rattle.std.proofs.Math.Facts.{Fits-of_z}
use Rattle.writing.proofs.put_int.Goals as goal

pub returns : goal.returns
returns c =
    let x = c.args.x in
    let small : FitsSigned w32 x = fits_signed_from_abs w32 x (omega (arith, c.requires.within.size)) in
    let bits : of_z w32 (to_z w32 (of_z w32 (to_z w64 (of_z w64 x)))) ≡ of_z w32 x =
    ap (λ (z : ℤ). of_z w32 (to_z w32 (of_z w32 z))) (rd c.ranges.x) ∙ ap (of_z w32) (to_z-of_z w32 x small) in
    c.put.ensures ∙ ap (λ (b : List ℕ). lay c.args.at b c.args.d.now) (c.to_le_bytes.ensures ∙ ap (to_le_bytes w32) bits ∙ four-bytes (of_z w32 x) (Fits-of_z small).fits)
