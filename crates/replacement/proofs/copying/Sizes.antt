-- A copy has at most seven times the bytes of its source: a WINDOW's 14 may become 86. Assumes nothing.
use mathlib.Core.Path.{◌≡◌, refl, ◌∙◌, ap}
use mathlib.Core.Bool as Bool
use mathlib.Core.Bool.{Bool, true, false}
use mathlib.Core.List.{List}
use Prim.Native.Nat.{ℕ, ◌+◌, ◌-◌, ◌*◌, ◌≤◌}
use native.Mathlib.Omega.{arith}
use lib.ListN.{length}
use lib.IntN.{ℤ, pos, negsuc, neg_ℤ}
use Rattle.reading.specs.Formula.{Comparison, less, atmost, equal, Formula, Formulas, atom, not, list, quant, window, none, more, encode, encodes, Fits, AllFit, Free, AllFree}
use Rattle.reading.proofs.Lengths.{atom-long, not-long, list-long, window-long, none-long, more-long, one-is}
use Rattle.exact.specs.Numbers.{minus}
use Rattle.exact.specs.Atoms.{atom_at, Spot, put_of}
use Rattle.exact.specs.declared.Put.{Put}
use Rattle.exact.specs.declared.Put.TheVariants.{Decided, New, Large}
use Rattle.exact.proofs.Rows.{length-minus, length-single}
use Rattle.rules.specs.Pushing.{under, two, push_atom, push_window, push, pushs}
use Rattle.replacement.specs.Listing.{Come, truth, kept, big, Tally, over, going, add, tally, close, bytes_of}
use Rattle.replacement.specs.Copying.{came}
use Rattle.replacement.proofs.listing.Members.{snoc-long}
use Rattle.replacement.proofs.copying.Settling.{come_as, came-atom, new-nine, came_all, came-list}

abbrev tally_size : Tally → ℕ
tally_size over = 0
tally_size (going x gs) = length (encodes gs)

pub atom-size : (q : Spot) (c : Comparison) (ns : List ℤ) → length ns ≡ 9 → length (bytes_of (came q (atom c ns))) ≤ 40
atom-size q c ns n =
    omega (arith, ap (λ (y : Come). length (bytes_of y)) (came-atom q c ns refl), go (put_of (atom_at q c ns)) refl)
  where
    go : (r : Put) → put_of (atom_at q c ns) ≡ r → length (bytes_of (come_as c r)) ≤ 40
    go (Decided v) e = omega arith
    go (New ks) e = omega (arith, atom-long c ks (new-nine q c ns n e))
    go (Large ks) e = omega arith

add-size : (all : Bool) (t : Tally) (c : Come) → tally_size (add all t c) ≤ tally_size t + length (bytes_of c)
add-size all over c = omega arith
add-size all (going x gs) (truth v) = omega arith
add-size all (going x gs) (kept g) = omega (arith, snoc-long gs g)
add-size all (going x gs) big = omega arith

close-size : (all : Bool) (t : Tally) → length (bytes_of (close all t)) ≤ 6 + tally_size t
close-size all over = omega arith
close-size all (going true gs) = omega arith
close-size all (going false none) = omega arith
close-size all (going false (more g none)) = omega (arith, ap length (one-is g))
close-size all (going false (more g (more h gs))) = omega (arith, list-long all (more g (more h gs)))

list-size : (q : Spot) (all : Bool) (ps : Formulas) → length (bytes_of (came q (list all ps))) ≤ 6 + tally_size (tally all (going false none) (came_all q ps))
list-size q all ps = omega (arith, ap (λ (c : Come). length (bytes_of c)) (came-list q all ps), close-size all (tally all (going false none) (came_all q ps)))

pair_size : (q : Spot) (all : Bool) (c : Comparison) (a b : List ℤ) → length a ≡ 9 → length b ≡ 9 → length (bytes_of (came q (list all (two (atom c a) (atom c b))))) ≤ 86
pair_size q all c a b na nb =
    let t = add all (going false none) (came q (atom c a)) in
    omega (arith, none-long, atom-size q c a na, atom-size q c b nb, add-size all (going false none) (came q (atom c a)), add-size all t (came q (atom c b)), list-size q all (two (atom c a) (atom c b)))

leaf-size : (neg : Bool) (q : Spot) (c : Comparison) (ns : List ℤ) → length ns ≡ 9 → length (bytes_of (came q (push_atom neg c ns))) ≤ 86
leaf-size false q c ns n = omega (arith, atom-size q c ns n)
leaf-size true q less ns n = omega (arith, atom-size q atmost (minus ns) (length-minus ns ∙ n))
leaf-size true q atmost ns n = omega (arith, atom-size q less (minus ns) (length-minus ns ∙ n))
leaf-size true q equal ns n = pair_size q false less ns (minus ns) n (length-minus ns ∙ n)

window-size : (neg : Bool) (q : Spot) (v : ℕ) (lo hi : ℤ) → length (bytes_of (came q (push_window neg v lo hi))) ≤ 86
window-size false q v lo hi = pair_size q true atmost _ _ (length-single v (negsuc 0) lo) (length-single v (pos 1) (neg_ℤ hi))
window-size true q v lo hi = pair_size q false less _ _ (length-single v (pos 1) (neg_ℤ lo)) (length-single v (negsuc 0) hi)

mutual
  unfolding push

  pub copy-size : (neg : Bool) (q : Spot) (d : ℕ) (f : Formula) → Free f → Fits d f → length (bytes_of (came q (push neg f))) ≤ 7 * length (encode f)
  copy-size neg q d (atom c ns) u w = omega (arith, leaf-size neg q c ns w.1.0, atom-long c ns w.1.0)
  copy-size neg q d (not f) u w = let h = copy-size (Bool.not neg) q (d - 1) f u w.1 in omega (arith, h, not-long f)
  copy-size neg q d (list j fs) u w =
      let h = copies-size neg (under neg j) q (d - 1) (going false none) fs u w.2 in
      omega (arith, h, none-long, list-size q (under neg j) (pushs neg fs), list-long j fs)
  copy-size neg q d (quant b v f) u w = absurd u
  copy-size neg q d (window v lo hi) u w = omega (arith, window-size neg q v lo hi, window-long v lo hi)

  copies-size : (neg all : Bool) (q : Spot) (d : ℕ) (t : Tally) (fs : Formulas) → AllFree fs → AllFit d fs → tally_size (tally all t (came_all q (pushs neg fs))) ≤ tally_size t + 7 * length (encodes fs)
  copies-size neg all q d t none u w = omega arith
  copies-size neg all q d t (more f fs) u w =
      let c = came q (push neg f) in
      let h = copy-size neg q d f u.0 w.0 in
      let k = copies-size neg all q d (add all t c) fs u.1 w.1 in
      omega (arith, h, k, add-size all t c, more-long f fs)
