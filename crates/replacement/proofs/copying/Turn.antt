-- The loop over the members of a list: what holds before each turn, and the laws of a turn. Assumes nothing.
use mathlib.Core.Path.{◌≡◌, refl, sym, ◌∙◌, ap, subst}
use mathlib.Core.Bool as Bool
use mathlib.Core.Bool.{Bool, true, false}
use mathlib.Core.List.{List}
use Prim.Native.Nat.{ℕ, ◌+◌, ◌-◌, ◌*◌, ◌≤◌, ◌<◌}
use native.Mathlib.Omega.{arith}
use Rattle.std.specs.Prelude.{Result, Ok, Err}
use lib.ListN.{length, take, drop}
use Rattle.reading.specs.Formula.{Formula, Formulas, list, none, more, encode, encodes, count, Fits, Free}
use Rattle.reading.specs.Reading.{tree_of}
use Rattle.reading.specs.Views.{shape_of, members_of, Follow, Passed}
use Rattle.reading.specs.declared.Shape.TheVariants as Shape
use Rattle.reading.specs.Limits.{tree_levels}
use Rattle.reading.proofs.Lengths.{more-long, part-drop-long}
use Rattle.reading.proofs.Trees.{begins-tree}
use Rattle.reading.proofs.Walking.{Walk, walk_start, walk_begins, walk-tree, walk-next, walk_end}
use Rattle.reading.proofs.Viewing.{shape-list}
use Rattle.exact.specs.declared.Point.{Point}
use Rattle.exact.specs.Atoms.{Ready, Spot, spot_of}
use Rattle.rules.specs.Pushing.{under, push, pushs}
use Rattle.rules.specs.Copies.{fits, fit_all}
use Rattle.rules.proofs.Limits.Copies.{and_both}
use Rattle.replacement.specs.Listing.{Come, truth, big, Tally, going, add, tally, close, Wrote, opened_of, taken_of, decided_as, Closes}
use Rattle.replacement.specs.Copying.{came, Asks}
use Rattle.replacement.specs.Marking.{Marked, AllMarked}
use Rattle.replacement.specs.declared.Copied.{Copied}
use Rattle.replacement.specs.declared.TooBig.{TooBig}
use Rattle.replacement.specs.declared.Open.{Open}
use Rattle.replacement.specs.declared.Way.{Way}
use Rattle.replacement.proofs.listing.Members.{used-is}
use Rattle.replacement.proofs.listing.Tallying.{tally-over}
use Rattle.replacement.proofs.copying.Settling.{came_all, came-early, came-list, retold, wrote-decided}
use Rattle.replacement.proofs.copying.Sizes.{copy-size}
use Rattle.replacement.proofs.copying.Sources.{has-marks}
use Rattle.replacement.proofs.copying.Progress.{Progress, progress-open, progress-next, progress-big, progress-end}

-- before a turn: the members fs are left of the list that s begins with, from `at` on; those before them have the tally, of at most `most` members and
-- `long` bytes, and stand in o
pub record Turn (s : List ℕ) (neg : Bool) (way : Way) (q : Point) (to : ℕ) (ms : List Bool) (o₀ o : List ℕ) (l : Open) (at left : ℕ) (fs : Formulas) : Type 0 where
  pub all : Bool
  pub so_far : Tally
  pub most : ℕ
  pub long : ℕ
  pub written : Progress all so_far most long l to o₀ o
  pub walk : Walk s at left fs
  pub whole : came (spot_of q) (push neg (tree_of s)) ≡ close all (tally all so_far (came_all (spot_of q) (pushs neg fs)))
  pub calm : way.calm ≡ true → fit_all (spot_of q) (pushs neg fs) ≡ true
  pub marks : way.marked ≡ true → (length s < 40 * length ms) × AllMarked q.x ms (length s - at) fs
  pub room : to + 6 + long + 7 * length (encodes fs) ≤ length o
  pub same : length o ≡ length o₀
  pub few : most + count fs < 65536

abbrev pub Goes : (s : List ℕ) (neg : Bool) (way : Way) (q : Point) (to : ℕ) (ms : List Bool) (o₀ o : List ℕ) (l : Open) (at left : ℕ) → Type 0
Goes s neg way q to ms o₀ o l at left = (fs : Formulas) × Turn s neg way q to ms o₀ o l at left fs

-- ---- the first turn

list-came : (neg : Bool) (q : Spot) (j : Bool) (fs : Formulas) (all : Bool) → all ≡ under neg j → came q (push neg (list j fs)) ≡ close all (tally all (going false none) (came_all q (pushs neg fs)))
unfolding push
list-came neg q j fs all e = ap (λ (a : Bool). came q (list a (pushs neg fs))) (sym e) ∙ came-list q all (pushs neg fs)

list-fits : (neg : Bool) (q : Spot) (j : Bool) (fs : Formulas) → fits q (push neg (list j fs)) ≡ fit_all q (pushs neg fs)
unfolding push fits
list-fits neg q j fs = refl

pub turn-start : {s : List ℕ} {neg : Bool} {way : Way} {q : Point} {to : ℕ} {ms : List Bool} (o : List ℕ) {j : Bool} (all : Bool) (n : ℕ) (l : Open) → Asks s neg way q to (length o) ms → shape_of (tree_of s) ≡ Shape.List j
    → all ≡ under neg j → n ≡ count (members_of (tree_of s)) → l ≡ opened_of all to → Goes s neg way q to ms o o l 6 n
turn-start {s} {neg} {way} {q} {to} {ms} o {j} all n l a i ea en el =
    let m = walk_start a.begins a.free (shape-list (tree_of s) i) in
    let w = m.walk in
    let k : count m.members < 65536 = (subst (Fits tree_levels) m.is a.begins.fits).1 in
    let p : Shape.List j ≡ Shape.List m.all = sym i ∙ ap shape_of m.is in
    let e : j ≡ m.all = cc in (
      m.members,
      record {
        all = all;
        so_far = going false none;
        most = 0;
        long = 0;
        written = progress-open all to o el (omega (arith, a.room, w.used));
        walk = subst (λ (j : ℕ). Walk s 6 j m.members) (sym (en ∙ m.many)) w;
        whole = ap (λ (f : Formula). came (spot_of q) (push neg f)) m.is ∙ list-came neg (spot_of q) m.all m.members all (ea ∙ ap (under neg) e);
        calm = λ e. sym (ap (λ (f : Formula). fits (spot_of q) (push neg f)) m.is ∙ list-fits neg (spot_of q) m.all m.members) ∙ a.calm e;
        marks = λ e. let h = a.marks e in (h.room, subst (Marked q.x ms (length s)) m.is h.marked);
        room = omega (arith, a.room, w.used);
        same = refl;
        few = omega (arith, k);
      },
    )

-- ---- a turn

pushs-more : (neg : Bool) (q : Spot) (all : Bool) (t : Tally) (f : Formula) (fs : Formulas) → tally all t (came_all q (pushs neg (more f fs))) ≡ tally all (add all t (came q (push neg f))) (came_all q (pushs neg fs))
unfolding push
pushs-more neg q all t f fs = refl

pushs-none : (neg : Bool) (q : Spot) (all : Bool) (t : Tally) → tally all t (came_all q (pushs neg none)) ≡ t
unfolding push
pushs-none neg q all t = refl

more-fits : (neg : Bool) (q : Spot) (f : Formula) (fs : Formulas) → fit_all q (pushs neg (more f fs)) ≡ true → (fits q (push neg f) ≡ true) × (fit_all q (pushs neg fs) ≡ true)
unfolding push fits
more-fits neg q f fs e = and_both (fits q (push neg f)) (fit_all q (pushs neg fs)) e

-- what the call for a member is given, and that it answers r and leaves o'
abbrev pub part : ℕ → List ℕ → List ℕ
part at s = take (length s - at) (drop at s)

abbrev pub Answers : List ℕ → Bool → Point → List ℕ → Open → ℕ → List ℕ → Result Copied TooBig → Type 0
Answers s neg q o l at o' r = Wrote (came (spot_of q) (push neg (tree_of (part at s)))) (length (encode (tree_of (part at s)))) l.end o o' r

module _ {s : List ℕ} {neg : Bool} {way : Way} {q : Point} {to : ℕ} {ms : List Bool} {o₀ o : List ℕ} {l : Open} {at left : ℕ} where
  member-wrote : {f : Formula} {fs : Formulas} {o' : List ℕ} {r : Result Copied TooBig} → Turn s neg way q to ms o₀ o l at left (more f fs) → Answers s neg q o l at o' r → Wrote (came (spot_of q) (push neg f)) (length (encode f)) l.end o o' r
  member-wrote t w = let e = walk-tree t.walk in retold (spot_of q) (ap (push neg) e) (ap (λ (y : Formula). length (encode y)) e) w

  whole-next : {f : Formula} {fs : Formulas} (t : Turn s neg way q to ms o₀ o l at left (more f fs))
      → came (spot_of q) (push neg (tree_of s)) ≡ close t.all (tally t.all (add t.all t.so_far (came (spot_of q) (push neg f))) (came_all (spot_of q) (pushs neg fs)))
  whole-next {f} {fs} t = t.whole ∙ ap (close t.all) (pushs-more neg (spot_of q) t.all t.so_far f fs)

  pub turn-asks : (fs : Formulas) → Turn s neg way q to ms o₀ o l at left fs → 0 < left → Ready q → Asks (part at s) neg way q l.end (length o) ms
  turn-asks none t h w = absurd (omega (arith, t.walk.many))
  turn-asks (more f fs) t h w =
      let e = walk-tree t.walk in
      record {
        begins = begins-tree (walk_begins t.walk);
        free = subst Free (sym e) t.walk.free.0;
        point = w;
        calm = λ c. ap (λ (y : Formula). fits (spot_of q) (push neg y)) e ∙ (more-fits neg (spot_of q) f fs (t.calm c)).0;
        marks = λ c. let m = t.marks c in has-marks _ (part-drop-long at s) e (omega (arith, m.0)) m.1.0;
        room = omega (arith, t.room, t.written.end, more-long f fs, ap (λ (y : Formula). length (encode y)) e);
      }

  pub turn-used : (fs : Formulas) (o' : List ℕ) (r : Copied) → Turn s neg way q to ms o₀ o l at left fs → 0 < left → Answers s neg q o l at o' (Ok r) → at + r.used ≤ length s
  turn-used none o' r t h w = absurd (omega (arith, t.walk.many))
  turn-used (more f fs) o' r t h w = omega (arith, t.walk.used, t.walk.within, more-long f fs, used-is _ _ _ _ _ _ (member-wrote t w))

  pub turn-next : (fs : Formulas) (o' : List ℕ) (r : Copied) {l' : Open} {k : ℕ} → Turn s neg way q to ms o₀ o l at left fs → 0 < left → length o' ≡ length o → Answers s neg q o l at o' (Ok r)
      → l' ≡ taken_of l r.came → k ≡ left - 1 → Goes s neg way q to ms o₀ o' l' (at + r.used) k
  turn-next none o' r t h m w el ek = absurd (omega (arith, t.walk.many))
  turn-next (more f fs) o' r {l'} {k} t h m w el ek =
      let c = came (spot_of q) (push neg f) in
      let v = member-wrote t w in
      let z = more-long f fs in
      let u : r.used ≡ length (encode f) = used-is c (length (encode f)) l.end o o' r v in (
        fs,
        record {
          all = t.all;
          so_far = add t.all t.so_far c;
          most = t.most + 1;
          long = t.long + 7 * length (encode f);
          written = progress-next t.written (7 * length (encode f)) c (length (encode f)) o' r v m (copy-size neg (spot_of q) tree_levels f t.walk.free.0 t.walk.fits.0) (omega (arith, t.room, z)) el;
          walk = subst (λ (j : ℕ). Walk s (at + r.used) j fs) (sym ek) (walk-next r.used t.walk u);
          whole = whole-next t;
          calm = λ y. (more-fits neg (spot_of q) f fs (t.calm y)).1;
          marks = λ y. let m = t.marks y in (m.0, subst (λ (n : ℕ). AllMarked q.x ms n fs) (omega (arith, u)) m.1.1);
          room = omega (arith, t.room, z, m);
          same = m ∙ t.same;
          few = omega (arith, t.few);
        },
      )

  pub turn-big : (fs : Formulas) (o' : List ℕ) (e : TooBig) → Turn s neg way q to ms o₀ o l at left fs → 0 < left → Answers s neg q o l at o' (Err e)
      → (came (spot_of q) (push neg (tree_of s)) ≡ big) × (take to o' ≡ take to o₀)
  turn-big none o' e t h w = absurd (omega (arith, t.walk.many))
  turn-big (more f fs) o' e t h w =
      let x = progress-big t.written (came (spot_of q) (push neg f)) (length (encode f)) o' e (member-wrote t w) in
      let cs = came_all (spot_of q) (pushs neg fs) in
      (whole-next t ∙ ap (close t.all) (ap (λ (y : Tally). tally t.all y cs) x.0 ∙ tally-over t.all cs), x.1)

  pub turn_end : (fs : Formulas) (o' : List ℕ) (r : Copied) → Turn s neg way q to ms o₀ o l at left fs → left ≤ 0 → Closes l at o o' r
      → Wrote (came (spot_of q) (push neg (tree_of s))) (length (encode (tree_of s))) to o₀ o' (Ok r)
  turn_end (more f fs) o' r t h w = absurd (omega (arith, t.walk.many))
  turn_end none o' r t h w =
      subst (λ (n : ℕ). Wrote (came (spot_of q) (push neg (tree_of s))) n to o₀ o' (Ok r)) (walk_end t.walk)
      (subst (λ (y : Come). Wrote y at to o₀ o' (Ok r)) (sym (t.whole ∙ ap (close t.all) (pushs-none neg (spot_of q) t.all t.so_far))) (progress-end t.written at o' r w))

  -- the members left stand one after the other; where the list is decided and their numbers fit, they are passed over
  pub turn-follow : (fs : Formulas) → Turn s neg way q to ms o₀ o l at left fs → Follow s at left
  turn-follow fs t = let w = t.walk in record { members = fs; rest = w.rest; bytes = w.bytes; many = w.many; fits = w.fits }

  pub turn-early : (fs : Formulas) (x : ℕ) → Turn s neg way q to ms o₀ o l at left fs → way.calm ≡ true → l.fixed ≡ true → Passed s at left x
      → Wrote (came (spot_of q) (push neg (tree_of s))) (length (encode (tree_of s))) to o₀ o (decided_as x (Bool.not l.all))
  turn-early fs x t c d p =
      let w = t.walk in
      let g = t.written in
      let n = p fs w.rest w.bytes w.many w.fits ∙ sym w.used in
      let e = t.whole ∙ ap (λ (y : Tally). close t.all (tally t.all y (came_all (spot_of q) (pushs neg fs)))) (g.is ∙ ap (λ (b : Bool). going b g.members) d)
      ∙ came-early t.all (spot_of q) g.members (pushs neg fs) (t.calm c) ∙ ap (λ (b : Bool). truth (Bool.not b)) (sym g.same) in
      subst (λ (m : ℕ). Wrote (came (spot_of q) (push neg (tree_of s))) m to o₀ o (decided_as x (Bool.not l.all))) n (wrote-decided (Bool.not l.all) x to o₀ o e g.written.front)
