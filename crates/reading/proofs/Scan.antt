-- The walk over the records of an accepted formula: what is left at each record is a list of formulas, and a record takes the first of them
-- apart. The two searches for a quantifier cite it. Assumes nothing.
use mathlib.Core.Path.{◌≡◌, refl, sym, ◌∙◌, ap, ap₂}
use mathlib.Core.List.{List, ◌++◌, append_assoc, append-nil}
use Prim.Native.Nat.{ℕ, ◌+◌, ◌-◌, ◌*◌, ◌≤◌, ◌<◌}
use native.Mathlib.Nat.{add_assoc, add-zero}
use native.Mathlib.Omega.{arith}
use lib.ListN.{length, drop, get_or, length-drop, length-append}
use lib.Seq.{drop-append_seam, drop-drop, get_or-drop}
use mathlib.Core.Bool.{Bool, true, false, cond}
use Rattle.reading.specs.Limits.{tree_levels}
use Rattle.reading.specs.Bytes.{le2}
use Rattle.reading.specs.Formula.{Formula, Formulas, count, Label, label_of, kind_no, size, field_bytes, record_bytes, encode, encodes, InRange, Fits, AllFit, less, atmost, equal, atom, not, list, quant, window, none, more, atom_l, not_l, list_l, quant_l, window_l}
use Rattle.reading.specs.Reading.{tree_of, Exactly}
use Rattle.reading.specs.Quantifiers.{Quantifier, met, seek, seeks, found_of, is_quantifier, nothing, at}
use Rattle.reading.proofs.Laws.{two, record-long, kind-small, size_small}
use Rattle.reading.proofs.Trees.{fits_more, all_fit_more}
use Rattle.std.specs.Prelude.{Option, Some, None}

-- ---- formulas one after the other

infixr 5 ◌and◌
abbrev pub ◌and◌ : Formulas → Formulas → Formulas
none and gs = gs
more f fs and gs = more f (fs and gs)

and_bytes : (fs gs : Formulas) → encodes (fs and gs) ≡ encodes fs ++ encodes gs
unfolding encode
and_bytes none gs = refl
and_bytes (more f fs) gs = ap (λ (x : List ℕ). encode f ++ x) (and_bytes fs gs) ∙ sym (append_assoc (encode f) (encodes fs) (encodes gs))

and-fit : (d : ℕ) (fs gs : Formulas) → AllFit d fs → AllFit d gs → AllFit d (fs and gs)
and-fit d none gs w x = x
and-fit d (more f fs) gs w x = (w.0, and-fit d fs gs w.1 x)

and-seeks : (last : Bool) (cur : Quantifier) (p : ℕ) (fs gs : Formulas) → seeks last cur p (fs and gs) ≡ seeks last (seeks last cur p fs) (p + length (encodes fs)) gs
unfolding seek encode
and-seeks last cur p none gs = ap (λ (n : ℕ). seeks last cur n gs) (sym (add-zero p))
and-seeks last cur p (more f fs) gs =
    and-seeks last (seek last cur p f) (p + length (encode f)) fs gs
    ∙ ap (λ (n : ℕ). seeks last (seeks last (seek last cur p f) (p + length (encode f)) fs) n gs) (omega (arith, length-append (encode f) (encodes fs)))

-- ---- a formula taken apart: its record, what is left, and what is found at the record

abbrev pub rest_of : Formula → Formulas → Formulas
rest_of (atom c ns) gs = gs
rest_of (not f) gs = more f gs
rest_of (list b fs) gs = fs and gs
rest_of (quant b v f) gs = more f gs
rest_of (window v lo hi) gs = gs

abbrev noticed : Bool → Quantifier → ℕ → Formula → Quantifier
noticed last cur p (atom c ns) = cur
noticed last cur p (not f) = cur
noticed last cur p (list b fs) = cur
noticed last cur p (quant b v f) = met last cur (at p b v f)
noticed last cur p (window v lo hi) = cur

pub apart-bytes : (f : Formula) (gs : Formulas) → encode f ++ encodes gs ≡ record_bytes (label_of f) ++ encodes (rest_of f gs)
unfolding encode
apart-bytes (atom c ns) gs = refl
apart-bytes (not f) gs = append_assoc (record_bytes not_l) (encode f) (encodes gs)
apart-bytes (list b fs) gs = append_assoc (record_bytes (list_l b (count fs))) (encodes fs) (encodes gs) ∙ rw (and_bytes fs gs)
apart-bytes (quant b v f) gs = append_assoc (record_bytes (quant_l b v)) (encode f) (encodes gs)
apart-bytes (window v lo hi) gs = refl

pub apart-range : (d : ℕ) (f : Formula) → Fits d f → InRange (label_of f)
apart-range d (atom c ns) w = w.1
apart-range d (not f) w = tt
apart-range d (list b fs) w = w.1
apart-range d (quant b v f) w = w.1
apart-range d (window v lo hi) w = w.1

pub apart-fit : (d : ℕ) (f : Formula) (gs : Formulas) → Fits d f → AllFit d gs → AllFit d (rest_of f gs)
apart-fit d (atom c ns) gs w x = x
apart-fit d (not f) gs w x = (fits_more f (d - 1) d (omega arith) w.1, x)
apart-fit d (list b fs) gs w x = and-fit d fs gs (all_fit_more fs (d - 1) d (omega arith) w.2) x
apart-fit d (quant b v f) gs w x = (fits_more f (d - 1) d (omega arith) w.2, x)
apart-fit d (window v lo hi) gs w x = x

apart-seeks : (last : Bool) (cur : Quantifier) (d p : ℕ) (f : Formula) (gs : Formulas) → Fits d f → seeks last cur p (more f gs) ≡ seeks last (noticed last cur p f) (p + size (label_of f)) (rest_of f gs)
unfolding seek encode record_bytes field_bytes
apart-seeks last cur d p (atom c ns) gs w = ap (λ (n : ℕ). seeks last cur (p + n) gs) (record-long (atom_l c ns) w.1)
apart-seeks last cur d p (not f) gs w = ap (λ (n : ℕ). seeks last (seek last cur (p + 4) f) n gs) (omega arith)
apart-seeks last cur d p (list b fs) gs w =
    ap (λ (n : ℕ). seeks last (seeks last cur (p + 6) fs) n gs) (omega arith) ∙ sym (and-seeks last cur (p + 6) fs gs)
apart-seeks last cur d p (quant b v f) gs w = ap (λ (n : ℕ). seeks last (seek last (met last cur (at p b v f)) (p + 6) f) n gs) (omega arith)
apart-seeks last cur d p (window v lo hi) gs w = ap (λ (n : ℕ). seeks last cur (p + n) gs) (record-long (window_l v lo hi) w.1)

-- the kind of the record says whether a quantifier is noticed
abbrev pub after : Bool → Option ℕ → ℕ → Option ℕ
after true found p = Some p
after false None p = Some p
after false (Some o) p = Some o

met-after : (last : Bool) (cur : Quantifier) (p : ℕ) (b : Bool) (v : ℕ) (f : Formula) → found_of (met last cur (at p b v f)) ≡ after last (found_of cur) p
met-after true cur p b v f = refl
met-after false nothing p b v f = refl
met-after false (at o c u g) p b v f = refl

apart-kind : (last : Bool) (cur : Quantifier) (p : ℕ) (f : Formula) → found_of (noticed last cur p f) ≡ cond (is_quantifier (kind_no (label_of f))) (after last (found_of cur) p) (found_of cur)
unfolding is_quantifier
apart-kind last cur p (atom less ns) = refl
apart-kind last cur p (atom atmost ns) = refl
apart-kind last cur p (atom equal ns) = refl
apart-kind last cur p (not f) = refl
apart-kind last cur p (list true fs) = refl
apart-kind last cur p (list false fs) = refl
apart-kind last cur p (quant true v f) = met-after last cur p true v f
apart-kind last cur p (quant false v f) = met-after last cur p false v f
apart-kind last cur p (window v lo hi) = refl

-- the two numbers that a record begins with
header : (l : Label) (u : List ℕ) → (le2 (record_bytes l ++ u) 0 ≡ size l) × (le2 (record_bytes l ++ u) 2 ≡ kind_no l)
unfolding record_bytes
header l u = (two (size l) (size_small l).1, two (kind_no l) (kind-small l))

-- ---- the walk

-- at a record of s: what is left, and the quantifier that is found so far; `goal` is what the whole walk will find
pub record Scanned (last : Bool) (goal : Option ℕ) (s : List ℕ) (p : ℕ) (found : Option ℕ) : Type 0 where
  pub cur : Quantifier
  pub left : Formulas
  pub bytes : drop p s ≡ encodes left
  pub fits : AllFit tree_levels left
  pub is : found ≡ found_of cur
  pub finds : goal ≡ found_of (seeks last cur p left)
  pub within : p ≤ length s

-- a step to the next record
pub record ScanStep (last : Bool) (goal : Option ℕ) (s : List ℕ) (p : ℕ) (found : Option ℕ) : Type 0 where
  pub room : p + 4 ≤ length s
  pub long : 4 ≤ le2 s p
  pub next : Scanned last goal s (p + le2 s p) (cond (is_quantifier (le2 s (p + 2))) (after last found p) found)

-- the walk begins with the whole formula
pub scan_begins : (last : Bool) (s : List ℕ) → Exactly s (tree_of s) → Scanned last (found_of (seek last nothing 0 (tree_of s))) s 0 None
unfolding seek encode
scan_begins last s x = record {
  cur = nothing;
  left = more (tree_of s) none;
  bytes = x.bytes ∙ sym (append-nil (encode (tree_of s)));
  fits = (x.fits, tt);
  is = refl;
  finds = refl;
  within = omega arith;
}

scan-apart : (last : Bool) (goal : Option ℕ) (s : List ℕ) (p : ℕ) (found : Option ℕ) (cur : Quantifier) (f : Formula) (gs : Formulas)
    → drop p s ≡ encode f ++ encodes gs → Fits tree_levels f → AllFit tree_levels gs → found ≡ found_of cur → goal ≡ found_of (seeks last cur p (more f gs)) → p ≤ length s → ScanStep last goal s p found
scan-apart last goal s p found cur f gs e w x is finds h =
    let l = label_of f in
    let u = encodes (rest_of f gs) in
    let b : drop p s ≡ record_bytes l ++ u = e ∙ apart-bytes f gs in
    let k = header l u in
    let n = record-long l (apart-range tree_levels f w) in
    let m : length s ≡ p + (size l + length u) = omega (arith, length-drop p s, ap length b, length-append (record_bytes l) u, n) in
    let at0 : le2 s p ≡ size l = ap₂ (λ (i j : ℕ). i + 256 * j) (ap (λ (i : ℕ). get_or s i 0) (sym (add-zero p)) ∙ sym (get_or-drop p s 0 0)) (sym (get_or-drop p s 1 0)) ∙ ap (λ (t : List ℕ). le2 t 0) b ∙ k.0 in
    let at2 : le2 s (p + 2) ≡ kind_no l = ap₂ (λ (i j : ℕ). i + 256 * j) (sym (get_or-drop p s 2 0)) (ap (λ (i : ℕ). get_or s i 0) (add_assoc p 2 1) ∙ sym (get_or-drop p s 3 0)) ∙ ap (λ (t : List ℕ). le2 t 2) b ∙ k.1 in
    record {
      room = omega (arith, (size_small l).0);
      long = omega (arith, (size_small l).0);
      next = rw (at0, at2) (record {
        cur = noticed last cur p f;
        left = rest_of f gs;
        bytes = sym (drop-drop (size l) p s) ∙ ap (drop (size l)) b ∙ rw (← n) (drop-append_seam (record_bytes l) u);
        fits = apart-fit tree_levels f gs w x;
        is = rw is (sym (apart-kind last cur p f));
        finds = finds ∙ ap found_of (apart-seeks last cur tree_levels p f gs w);
        within = omega arith;
      });
    }

-- each record is as long as it says, and the walk goes on behind it
pub scan_step : {last : Bool} {goal : Option ℕ} {s : List ℕ} {p : ℕ} {found : Option ℕ} → Scanned last goal s p found → p < length s → ScanStep last goal s p found
unfolding encode
scan_step {last} {goal} {s} {p} {found} w h = go w.left w.bytes w.fits w.finds
  where
    go : (fs : Formulas) → drop p s ≡ encodes fs → AllFit tree_levels fs → goal ≡ found_of (seeks last w.cur p fs) → ScanStep last goal s p found
    go none e x finds = let z : length (drop p s) ≡ 0 = ap length e in absurd (omega (arith, length-drop p s))
    go (more f gs) e x finds = scan-apart last goal s p found w.cur f gs e x.0 x.1 w.is finds w.within

-- at the end nothing is left
pub scan-ends : {last : Bool} {goal : Option ℕ} {s : List ℕ} {p : ℕ} {found : Option ℕ} → Scanned last goal s p found → length s ≤ p → found ≡ goal
unfolding seek encode
scan-ends {last} {goal} {s} {p} {found} w h = go w.left w.bytes w.fits w.finds
  where
    go : (fs : Formulas) → drop p s ≡ encodes fs → AllFit tree_levels fs → goal ≡ found_of (seeks last w.cur p fs) → found ≡ goal
    go none e x finds = w.is ∙ sym finds
    go (more f gs) e x finds =
        let n = record-long (label_of f) (apart-range tree_levels f x.0) in
        absurd (omega (arith, length-drop p s, ap length (e ∙ apart-bytes f gs), length-append (record_bytes (label_of f)) (encodes (rest_of f gs)), n, (size_small (label_of f)).0))

-- the first quantifier that is met stays
mutual
  unfolding seek

  first-stays : (o : ℕ) (b : Bool) (v : ℕ) (g : Formula) (p : ℕ) (f : Formula) → seek false (at o b v g) p f ≡ at o b v g
  first-stays o b v g p (atom c ns) = refl
  first-stays o b v g p (not f) = first-stays o b v g (p + 4) f
  first-stays o b v g p (list c fs) = first-stay o b v g (p + 6) fs
  first-stays o b v g p (quant c u f) = first-stays o b v g (p + 6) f
  first-stays o b v g p (window u lo hi) = refl

  first-stay : (o : ℕ) (b : Bool) (v : ℕ) (g : Formula) (p : ℕ) (fs : Formulas) → seeks false (at o b v g) p fs ≡ at o b v g
  first-stay o b v g p none = refl
  first-stay o b v g p (more f fs) = ap (λ (q : Quantifier). seeks false q (p + length (encode f)) fs) (first-stays o b v g p f) ∙ first-stay o b v g (p + length (encode f)) fs

-- a search for the first quantifier may stop at it
pub scan-found : {goal : Option ℕ} {s : List ℕ} {p o : ℕ} → Scanned false goal s p (Some o) → goal ≡ Some o
scan-found {goal} {s} {p} {o} w = go w.cur w.is w.finds
  where
    go : (cur : Quantifier) → Some o ≡ found_of cur → goal ≡ found_of (seeks false cur p w.left) → goal ≡ Some o
    go nothing e finds = let z : ◌≡◌ {A = ℕ} 0 1 = cc in absurd (omega arith)
    go (at q b v f) e finds = finds ∙ ap found_of (first-stay q b v f p w.left) ∙ sym e
