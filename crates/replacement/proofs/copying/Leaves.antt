-- An atom or a WINDOW, by the view of its record: its numbers are in the range that the arithmetic asks for, what is pushed of it, and when an atom comes out as
-- it is. Assumes nothing.
use mathlib.Core.Path.{◌≡◌, refl, sym, ◌∙◌, ap, subst}
use mathlib.Core.Bool.{Bool, true, false, cond}
use mathlib.Core.List.{List}
use Prim.Native.Nat.{ℕ, ◌+◌}
use native.Mathlib.Omega.{arith}
use lib.Dec.{eqb}
use lib.ListN.{length, take}
use lib.Seq.{take_at}
use lib.IntN.{ℤ}
use borrow.Author.Tests.{eqb-true}
use Rattle.reading.specs.Limits.{M}
use Rattle.reading.specs.Formula.{Comparison, Formula, atom, not, list, quant, window, encode}
use Rattle.reading.specs.Reading.{tree_of}
use Rattle.reading.specs.Views.{comparison_case, comparison_in, shape_of, IsAtom, IsWindow, numbers_of, window_of}
use Rattle.reading.specs.declared.Comparison as Code
use Rattle.reading.specs.declared.Shape.TheVariants as Shape
use Rattle.reading.proofs.Viewing.{shape-atom}
use Rattle.reading.proofs.Walking.{atom-is}
use Rattle.exact.specs.Numbers.{Within, Each, single}
use Rattle.exact.specs.Atoms.{Came, new, atom_at, fitting, no_variable, spot_of}
use Rattle.exact.specs.Divisor.{gcds}
use Rattle.exact.specs.declared.Point.{Point}
use Rattle.exact.proofs.Rows.{each_all, each-zeros, each_set, one-reduced}
use Rattle.exact.proofs.Leaves.{numbers-small}
use Rattle.exact.proofs.Atoms.{case-in, settled-new, at-without}
use Rattle.rules.specs.Pushing.{push_atom, push_window, push}
use Rattle.rules.specs.Copies.{atom_by, copy, fits}
use Rattle.writing.specs.Writing.{lay}
use Rattle.replacement.specs.Listing.{kept, big, come_of, kept_as, Wrote}
use Rattle.replacement.specs.Copying.{came, Asks}
use Rattle.replacement.specs.Marking.{Unchanged}
use Rattle.replacement.specs.declared.Way.{Way}
use Rattle.replacement.proofs.copying.Settling.{wrote_kept}

-- ---- the range

pub each-single : {n : ℕ} (v : ℕ) {a c : ℤ} → Within n a → Within n c → Each n (single v a c)
unfolding single
each-single v {a} {c} wa wc = each_set 8 wc (each_set v wa (each-zeros 9))

-- ---- what is pushed

pub atom-pushed : (f : Formula) {k : Code.Comparison} → shape_of f ≡ Shape.Atom k → (neg : Bool) → push_atom neg (comparison_in k) (numbers_of f) ≡ push neg f
unfolding push
atom-pushed (atom c ns) {k} e neg =
    let h : comparison_case c ≡ k = cc in
    ap (λ (y : Comparison). push_atom neg y ns) (ap comparison_in (sym h) ∙ case-in c)
atom-pushed (not f) e neg = absurd (shape-atom (not f) e)
atom-pushed (list b fs) e neg = absurd (shape-atom (list b fs) e)
atom-pushed (quant b v f) e neg = absurd (shape-atom (quant b v f) e)
atom-pushed (window v lo hi) e neg = absurd (shape-atom (window v lo hi) e)

pub window-pushed : (f : Formula) → IsWindow f → (neg : Bool) → push_window neg (window_of f).variable (window_of f).lo (window_of f).hi ≡ push neg f
unfolding push
window-pushed (atom c ns) i neg = absurd i
window-pushed (not f) i neg = absurd i
window-pushed (list b fs) i neg = absurd i
window-pushed (quant b v f) i neg = absurd i
window-pushed (window v lo hi) i neg = refl

-- ---- an atom that comes out as it is

plain-said : (v g : Bool) → cond v false g ≡ true → (v ≡ false) × (g ≡ true)
plain-said true g e = let y : ◌≡◌ {A = ℕ} 0 1 = cc in absurd (omega arith)
plain-said false g e = (refl, e)

plain-came : (q : Point) (f : Formula) → Each M (numbers_of f) → Unchanged q.x f → came (spot_of q) (push false f) ≡ kept f
unfolding came push fits copy
plain-came q (atom c ns) m u =
    let a = plain-said (no_variable ns) (eqb (gcds ns) 1) u.1 in
    let e : atom_at (spot_of q) c ns ≡ new ns = at-without q.place q.x c ns u.0 ∙ settled-new c ns a.0 ∙ ap new (one-reduced ns (eqb-true (gcds ns) 1 a.1)) in
    ap (λ (y : Came). cond (fitting y) (come_of (atom_by y c)) big) e ∙ ap (λ (b : Bool). cond b (kept (atom c ns)) big) (each_all m)
plain-came q (not f) m u = absurd u
plain-came q (list b fs) m u = absurd u
plain-came q (quant b v f) m u = absurd u
plain-came q (window v lo hi) m u = absurd u

-- its own 40 bytes are written
pub plain-wrote : {s : List ℕ} {neg : Bool} {way : Way} {q : Point} {to : ℕ} {ms : List Bool} (o o' : List ℕ) → Asks s neg way q to (length o) ms → IsAtom (tree_of s)
    → (neg ≡ false) × Unchanged q.x (tree_of s) → o' ≡ lay to (take 40 s) o
    → Wrote (came (spot_of q) (push neg (tree_of s))) (length (encode (tree_of s))) to o o' (kept_as 40 (to + 40))
plain-wrote {s} {neg} {way} {q} {to} o o' a i u p =
    let f = tree_of s in
    let b = a.begins in
    let n = (atom-is f b i).long in
    let c = ap (λ (y : Bool). came (spot_of q) (push y f)) u.0 ∙ plain-came q f (numbers-small f b i) u.1 in
    let e : take 40 s ≡ encode f = ap (take 40) b.bytes ∙ take_at (encode f) b.rest 40 n in
    subst (λ (k : ℕ). Wrote (came (spot_of q) (push neg f)) k to o o' (kept_as 40 (to + 40))) (sym n)
    (wrote_kept f 40 to 40 o o' c n (omega (arith, a.room, n)) (p ∙ ap (λ (x : List ℕ). lay to x o) e))
