-- A formula under NOT: what the copy of the part under it asks for, and what its answer says of the whole. Assumes nothing.
use mathlib.Core.Path.{◌≡◌, refl, sym, ◌∙◌, ap, subst}
use mathlib.Core.Bool as Bool
use mathlib.Core.Bool.{Bool}
use mathlib.Core.List.{List}
use Prim.Native.Nat.{ℕ, ◌+◌, ◌-◌, ◌*◌, ◌≤◌, ◌<◌}
use native.Mathlib.Omega.{arith}
use Rattle.std.specs.Prelude.{Ok, Err}
use lib.ListN.{length, take, drop}
use Rattle.reading.specs.Formula.{Formula, not, encode, Free}
use Rattle.reading.specs.Reading.{tree_of}
use Rattle.reading.specs.Views.{shape_of}
use Rattle.reading.specs.declared.Shape.TheVariants as Shape
use Rattle.reading.proofs.Lengths.{part-drop-long}
use Rattle.reading.proofs.Trees.{tree_is, begins-tree}
use Rattle.reading.proofs.Walking.{Inner, inner_of}
use Rattle.exact.specs.declared.Point.{Point}
use Rattle.exact.specs.Atoms.{spot_of}
use Rattle.replacement.specs.Listing.{Come, big, Wrote}
use Rattle.rules.specs.Pushing.{push}
use Rattle.rules.specs.Copies.{fits}
use Rattle.replacement.specs.Marking.{Marked, HasMarks}
use Rattle.replacement.specs.declared.Way.{Way}
use Rattle.replacement.specs.Copying.{came, Asks}
use Rattle.replacement.specs.declared.Copied.{Copied}
use Rattle.replacement.specs.declared.TooBig.{TooBig}
use Rattle.replacement.proofs.Outcomes.{big-is, big-front}
use Rattle.replacement.proofs.listing.Members.{used-is, wrote_after}
use Rattle.replacement.proofs.copying.Settling.{retold}

not-pushed : (neg : Bool) (f : Formula) → push neg (not f) ≡ push (Bool.not neg) f
unfolding push
not-pushed neg f = refl

-- the marks of a part
pub has-marks : {x : ℕ} {ms : List Bool} (p : List ℕ) {n : ℕ} {f : Formula} → length p ≡ n → tree_of p ≡ f → n < 40 * length ms → Marked x ms n f → HasMarks x p ms
has-marks {x} {ms} p {n} {f} e t h m = record { room = omega (arith, e, h); marked = subst (λ (k : ℕ). Marked x ms k (tree_of p)) (sym e) (subst (Marked x ms n) (sym t) m) }

module _ {s : List ℕ} {neg : Bool} {way : Way} {q : Point} {to n : ℕ} {ms : List Bool} (a : Asks s neg way q to n ms) (h : shape_of (tree_of s) ≡ Shape.Not) where
  inside : Inner s
  inside = inner_of a.begins a.free h

  inside-tree : tree_of (take (length s - 4) (drop 4 s)) ≡ inside.inner
  inside-tree = tree_is inside.begins

  under-pushed : push (Bool.not neg) (tree_of (take (length s - 4) (drop 4 s))) ≡ push neg (tree_of s)
  under-pushed = ap (push (Bool.not neg)) inside-tree ∙ sym (not-pushed neg inside.inner) ∙ ap (push neg) (sym inside.is)

  pub under-asks : Asks (take (length s - 4) (drop 4 s)) (Bool.not neg) way q to n ms
  under-asks = record {
    begins = begins-tree inside.begins;
    free = subst Free (sym inside-tree) inside.free;
    point = a.point;
    calm = λ e. ap (fits (spot_of q)) under-pushed ∙ a.calm e;
    marks = λ e. let m = a.marks e in has-marks _ (part-drop-long 4 s) inside-tree (omega (arith, m.room)) (subst (Marked q.x ms (length s)) inside.is m.marked);
    room = omega (arith, a.room, inside.long, ap (λ (y : Formula). length (encode y)) inside-tree);
  }

  pub under-used : (c : Come) (o₀ o : List ℕ) (r : Copied) → Wrote c (length (encode (tree_of (take (length s - 4) (drop 4 s))))) to o₀ o (Ok r) → 4 + r.used ≤ length s
  under-used c o₀ o r w = omega (arith, used-is c _ to o₀ o r w, inside.long, ap (λ (y : Formula). length (encode y)) inside-tree, inside.within)

  pub under-wrote : (o₀ o : List ℕ) (r : Copied) → Wrote (came (spot_of q) (push (Bool.not neg) (tree_of (take (length s - 4) (drop 4 s))))) (length (encode (tree_of (take (length s - 4) (drop 4 s))))) to o₀ o (Ok r)
      → Wrote (came (spot_of q) (push neg (tree_of s))) (length (encode (tree_of s))) to o₀ o (Ok (record { used = 4 + r.used; came = r.came }))
  under-wrote o₀ o r w = retold (spot_of q) under-pushed (ap (λ (y : Formula). 4 + length (encode y)) inside-tree ∙ sym inside.long) (wrote_after 4 _ _ to o₀ o r w)

  pub under-big : (o₀ o : List ℕ) (e : TooBig) → Wrote (came (spot_of q) (push (Bool.not neg) (tree_of (take (length s - 4) (drop 4 s))))) (length (encode (tree_of (take (length s - 4) (drop 4 s))))) to o₀ o (Err e)
      → (came (spot_of q) (push neg (tree_of s)) ≡ big) × (take to o ≡ take to o₀)
  under-big o₀ o e w = let b = big-is _ _ to o₀ o e w in (ap (came (spot_of q)) (sym under-pushed) ∙ b, big-front w)
