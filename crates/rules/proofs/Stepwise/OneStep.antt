-- 01, 'One step': what a step does to the bytes, the limits and the number of quantifiers, and the run of all steps. 'Bytes ahead of a
-- quantifier are still the sheet's own when its step runs, so its offset is that in the sheet.' Assumes nothing.
use Prim.Native.Nat.{ℕ, zero, suc, ◌+◌, ◌-◌, ◌≤◌}
use mathlib.Core.Path.{◌≡◌, refl, sym, ◌∙◌, ap, subst}
use mathlib.Core.Logic.{inl, inr}
use mathlib.Core.Bool.{Bool, true}
use mathlib.Core.List.{List, ◌++◌}
use native.Mathlib.Nat.{le_refl}
use native.Mathlib.Omega.{arith}
use lib.ListN.{length, length-append, length-take, take, drop}
use lib.Seq.{take-add, take-append-le, drop_at, length-take-le}
use Rattle.reading.specs.Formula.{Formula, Formulas, atom, not, list, quant, window, none, more, quant_l, field_bytes, record_bytes, encode, encodes, Free, AllFree}
use Rattle.reading.specs.Quantifiers.{Quantifier, nothing, at, seek, seeks, last_in, QuantifierAt, QuantifierAtAny}
use Rattle.reading.proofs.Places.{nothing-free, free-nowhere, all-free-nowhere}
use Rattle.rules.specs.Steps.{replacement, quantifiers, all_quantifiers, if_none, step, step_in, refusal, steps}
use Rattle.rules.specs.Levels.{Wide, AllWide}
use Rattle.rules.proofs.Limits.Levels.{wide-more}
use Rattle.rules.proofs.Limits.Copies.{not-refused, replacement-fits, replacement-free}
use Rattle.rules.proofs.Stepwise.Around.{Around, Amid, whole, under_not, under_list, under_quantifier, in_first, in_later, fill, fill_amid, Rear, RearAmid, members-are, front, front_amid, rear, fill-bytes, free-zero, all-free-zero, zero-free, all-zero-free, free-seek, all-free-seek, Last, has_last, last-is}

-- ---- the bytes

-- the bytes before the last quantifier and those after it, which a step leaves as they are
pub record Splits (f : Formula) (p : ℕ) (b : Bool) (v : ℕ) (g : Formula) : Type 0 where
  pub before : List ℕ
  pub after : List ℕ
  pub place : length before ≡ p
  pub bytes : encode f ≡ before ++ (encode (quant b v g) ++ after)
  pub stepped : encode (step f) ≡ before ++ (encode (replacement b v g) ++ after)

pub splits : (f : Formula) (p : ℕ) (b : Bool) (v : ℕ) (g : Formula) → last_in f ≡ at p b v g → Splits f p b v g
splits f p b v g e =
    let l = last-is f p b v g e in
    record {
      before = front l.0;
      after = rear l.0;
      place = l.2;
      bytes = ap encode l.1.is ∙ fill-bytes l.0 (quant b v g);
      stepped = ap encode l.1.stepped ∙ fill-bytes l.0 (replacement b v g);
    }

-- ---- the limits

mutual
  -- what is put in place of a part and has no more levels leaves the whole within the limits
  fill-wide : (g h : Formula) → ((e : ℕ) → Wide e g → Wide e h) → (d : ℕ) (a : Around) → Wide d (fill a g) → Wide d (fill a h)
  fill-wide g h k d whole w = k d w
  fill-wide g h k d (under_not a) w = (w.0, fill-wide g h k (d - 1) a w.1)
  fill-wide g h k d (under_list b m) w = (w.0, omega (arith, w.1, members-are m g, members-are m h), fill-amid-wide g h k (d - 1) m w.2)
  fill-wide g h k d (under_quantifier b v a) w = (w.0, w.1, fill-wide g h k (d - 1) a w.2)

  fill-amid-wide : (g h : Formula) → ((e : ℕ) → Wide e g → Wide e h) → (d : ℕ) (m : Amid) → AllWide d (fill_amid m g) → AllWide d (fill_amid m h)
  fill-amid-wide g h k d (in_first a fs) w = (fill-wide g h k d a w.0, w.1)
  fill-amid-wide g h k d (in_later f m) w = (w.0, fill-amid-wide g h k d m w.1)

-- a part has no more levels than the whole
mutual
  part-wide : (d : ℕ) (a : Around) (g : Formula) → Wide d (fill a g) → Wide d g
  part-wide d whole g w = w
  part-wide d (under_not a) g w = wide-more g (d - 1) d (omega arith) (part-wide (d - 1) a g w.1)
  part-wide d (under_list b m) g w = wide-more g (d - 1) d (omega arith) (part-amid-wide (d - 1) m g w.2)
  part-wide d (under_quantifier b v a) g w = wide-more g (d - 1) d (omega arith) (part-wide (d - 1) a g w.2)

  part-amid-wide : (d : ℕ) (m : Amid) (g : Formula) → AllWide d (fill_amid m g) → Wide d g
  part-amid-wide d (in_first a fs) g w = part-wide d a g w.0
  part-amid-wide d (in_later f m) g w = part-amid-wide d m g w.1

-- a step that is not refused keeps the limits
pub step-wide : (d : ℕ) (f : Formula) (p : ℕ) (b : Bool) (v : ℕ) (g : Formula) → last_in f ≡ at p b v g → refusal v g (step f) ≡ 0 → Wide d f → Wide d (step f)
step-wide d f p b v g e r w =
    let l = last-is f p b v g e in
    let k : (e : ℕ) → Wide e (quant b v g) → Wide e (replacement b v g) = λ e x. replacement-fits b v e g (step f) x l.1.free (not-refused v g (step f) r) in
    subst (Wide d) (sym l.1.stepped) (fill-wide (quant b v g) (replacement b v g) k d l.0 (subst (Wide d) l.1.is w))

-- ---- the number of quantifiers

-- one fewer in a part is one fewer in the whole
module _ (g h : Formula) (e : quantifiers g ≡ suc (quantifiers h)) where
  mutual
    unfolding quantifiers

    fill-fewer : (a : Around) → quantifiers (fill a g) ≡ suc (quantifiers (fill a h))
    fill-fewer whole = e
    fill-fewer (under_not a) = fill-fewer a
    fill-fewer (under_list b m) = fill-amid-fewer m
    fill-fewer (under_quantifier b v a) = ap suc (fill-fewer a)

    fill-amid-fewer : (m : Amid) → all_quantifiers (fill_amid m g) ≡ suc (all_quantifiers (fill_amid m h))
    fill-amid-fewer (in_first a fs) = omega (arith, fill-fewer a)
    fill-amid-fewer (in_later f m) = omega (arith, fill-amid-fewer m)

-- each step takes one
one_fewer : {f : Formula} {a : Around} {b : Bool} {v : ℕ} {g : Formula} → Last f a b v g → quantifiers f ≡ suc (quantifiers (step f))
unfolding quantifiers
one_fewer {f} {a} {b} {v} {g} l =
    let r = replacement b v g in
    let e : quantifiers (quant b v g) ≡ suc (quantifiers r) = omega (arith, free-zero g l.free, free-zero r (replacement-free b v g l.free)) in
    ap quantifiers l.is ∙ fill-fewer (quant b v g) r e a ∙ ap (λ (h : Formula). suc (quantifiers h)) (sym l.stepped)

pub step_fewer : (f : Formula) (p : ℕ) (b : Bool) (v : ℕ) (g : Formula) → last_in f ≡ at p b v g → quantifiers f ≡ suc (quantifiers (step f))
step_fewer f p b v g e = one_fewer (last-is f p b v g e).1

pub count-fewer : (n : ℕ) (f : Formula) → quantifiers f ≡ suc n → quantifiers (step f) ≡ n
count-fewer n f e = omega (arith, one_fewer (has_last n f e).4)

-- ---- offsets fall

-- a quantifier's record ends at n or before
abbrev pub Before : ℕ → Quantifier → Type 0
Before n nothing = Unit {0}
Before n (at p b v g) = p + 6 ≤ n

before_more : (m n : ℕ) (q : Quantifier) → m ≤ n → Before m q → Before n q
before_more m n nothing h w = tt
before_more m n (at p b v g) h w = omega arith

-- what is found in a formula stands before its end
mutual
  unfolding seek encode record_bytes field_bytes

  seek-before : (cur : Quantifier) (p : ℕ) (f : Formula) → Before p cur → Before (p + length (encode f)) (seek true cur p f)
  seek-before cur p (atom c ns) w = before_more p (p + length (encode (atom c ns))) cur (omega arith) w
  seek-before cur p (not f) w =
      before_more (p + 4 + length (encode f)) (p + length (encode (not f))) (seek true cur (p + 4) f) (omega arith) (seek-before cur (p + 4) f (before_more p (p + 4) cur (omega arith) w))
  seek-before cur p (list b fs) w =
      before_more (p + 6 + length (encodes fs)) (p + length (encode (list b fs))) (seeks true cur (p + 6) fs) (omega arith) (seeks-before cur (p + 6) fs (before_more p (p + 6) cur (omega arith) w))
  seek-before cur p (quant b v f) w =
      before_more (p + 6 + length (encode f)) (p + length (encode (quant b v f))) (seek true (at p b v f) (p + 6) f) (omega arith) (seek-before (at p b v f) (p + 6) f (le_refl (p + 6)))
  seek-before cur p (window v lo hi) w = before_more p (p + length (encode (window v lo hi))) cur (omega arith) w

  seeks-before : (cur : Quantifier) (p : ℕ) (fs : Formulas) → Before p cur → Before (p + length (encodes fs)) (seeks true cur p fs)
  seeks-before cur p none w = before_more p (p + 0) cur (omega arith) w
  seeks-before cur p (more f fs) w =
      let q = seek true cur p f in
      before_more (p + length (encode f) + length (encodes fs)) (p + length (encode f ++ encodes fs)) (seeks true q (p + length (encode f)) fs) (omega (arith, length-append (encode f) (encodes fs)))
      (seeks-before q (p + length (encode f)) fs (seek-before cur p f w))

module _ (h : Formula) (free : Free h) where
  mutual
    unfolding seek record_bytes field_bytes

    -- where the part and what follows it have none, the last one stands before the part
    fill-before : (cur : Quantifier) (p : ℕ) (a : Around) → Rear a → Before p cur → Before (p + length (front a)) (seek true cur p (fill a h))
    fill-before cur p whole r w = subst (Before (p + 0)) (sym (free-seek cur p h free)) (before_more p (p + 0) cur (omega arith) w)
    fill-before cur p (under_not a) r w =
        before_more (p + 4 + length (front a)) (p + length (front (under_not a))) (seek true cur (p + 4) (fill a h)) (omega arith)
        (fill-before cur (p + 4) a r (before_more p (p + 4) cur (omega arith) w))
    fill-before cur p (under_list b m) r w =
        before_more (p + 6 + length (front_amid m)) (p + length (front (under_list b m))) (seeks true cur (p + 6) (fill_amid m h)) (omega arith)
        (fill-amid-before cur (p + 6) m r (before_more p (p + 6) cur (omega arith) w))
    fill-before cur p (under_quantifier b v a) r w =
        before_more (p + 6 + length (front a)) (p + length (front (under_quantifier b v a))) (seek true (at p b v (fill a h)) (p + 6) (fill a h)) (omega arith)
        (fill-before (at p b v (fill a h)) (p + 6) a r (le_refl (p + 6)))

    fill-amid-before : (cur : Quantifier) (p : ℕ) (m : Amid) → RearAmid m → Before p cur → Before (p + length (front_amid m)) (seeks true cur p (fill_amid m h))
    fill-amid-before cur p (in_first a fs) r w =
        subst (Before (p + length (front a))) (sym (all-free-seek (seek true cur p (fill a h)) (p + length (encode (fill a h))) fs r.1)) (fill-before cur p a r.0 w)
    fill-amid-before cur p (in_later f m) r w =
        let q = seek true cur p f in
        before_more (p + length (encode f) + length (front_amid m)) (p + length (encode f ++ front_amid m)) (seeks true q (p + length (encode f)) (fill_amid m h)) (omega (arith, length-append (encode f) (front_amid m)))
        (fill-amid-before q (p + length (encode f)) m r (seek-before cur p f w))

-- after a step the last quantifier's record stands before the one that was replaced
pub falls : (f : Formula) (p : ℕ) (b : Bool) (v : ℕ) (g : Formula) → last_in f ≡ at p b v g → Before p (last_in (step f))
falls f p b v g e =
    let l = last-is f p b v g e in
    let r = replacement b v g in
    let w = fill-before r (replacement-free b v g l.1.free) nothing 0 l.0 l.1.behind tt in
    subst (λ (h : Formula). Before p (last_in h)) (sym l.1.stepped) (before_more (0 + length (front l.0)) p (last_in (fill l.0 r)) (omega (arith, l.2)) w)

-- ---- where there is none, a step changes nothing

mutual
  unfolding step

  free_step : (f : Formula) → Free f → step f ≡ f
  free_step (atom c ns) h = refl
  free_step (not f) h = ap not (free_step f h)
  free_step (list b fs) h = ap (list b) (all-free-step fs h)
  free_step (quant b v f) h = absurd h
  free_step (window v lo hi) h = refl

  all-free-step : (fs : Formulas) → AllFree fs → step_in fs ≡ fs
  all-free-step none h = refl
  all-free-step (more f fs) h = ap (λ (n : ℕ). if_none n (more (step f) fs) (more f (step_in fs))) (all-free-zero fs h.1) ∙ ap (λ (g : Formula). more g fs) (free_step f h.0)

none-step : (f : Formula) → last_in f ≡ nothing → step f ≡ f
none-step f e = free_step f ((nothing-free true f).0 e)

-- ---- several steps

-- steps move the last quantifier only towards the front
step-before : (n : ℕ) (f : Formula) → Before n (last_in f) → Before n (last_in (step f))
step-before n f w = go (last_in f) refl w
  where
    go : (q : Quantifier) → last_in f ≡ q → Before n q → Before n (last_in (step f))
    go nothing e w = subst (λ (h : Formula). Before n (last_in h)) (sym (none-step f e)) (subst (Before n) (sym e) w)
    go (at p b v g) e w = before_more p n (last_in (step f)) (omega arith) (falls f p b v g e)

steps-before : (k n : ℕ) (f : Formula) → Before n (last_in f) → Before n (last_in (steps k f))
steps-before zero n f w = w
steps-before (suc k) n f w = steps-before k n (step f) (step-before n f w)

-- a step changes nothing ahead of the quantifier
step-ahead : (f : Formula) (n : ℕ) → ((p : ℕ) (b : Bool) (v : ℕ) (g : Formula) → last_in f ≡ at p b v g → n ≤ p) → take n (encode (step f)) ≡ take n (encode f)
step-ahead f n h = go (last_in f) refl
  where
    go : (q : Quantifier) → last_in f ≡ q → take n (encode (step f)) ≡ take n (encode f)
    go nothing e = ap (λ (g : Formula). take n (encode g)) (none-step f e)
    go (at p b v g) e =
        let s = splits f p b v g e in
        let k : n ≤ length s.before = omega (arith, h p b v g e, s.place) in
        ap (take n) s.stepped ∙ take-append-le n s.before (encode (replacement b v g) ++ s.after) k
        ∙ sym (ap (take n) s.bytes ∙ take-append-le n s.before (encode (quant b v g) ++ s.after) k)

-- the bytes ahead of the last quantifier after n steps, and its record, are those of the formula before all steps
pub own-bytes : (n : ℕ) (f : Formula) (p : ℕ) (b : Bool) (v : ℕ) (g : Formula) → last_in (steps n f) ≡ at p b v g → take (p + 6) (encode (steps n f)) ≡ take (p + 6) (encode f)
own-bytes zero f p b v g e = refl
own-bytes (suc n) f p b v g e =
    own-bytes n (step f) p b v g e
    ∙ step-ahead f (p + 6) (λ o c u k h. subst (Before o) e (steps-before n o (step f) (falls f o c u k h)))

-- ---- the quantifiers that are left

quant-stood : (p : ℕ) (b : Bool) (v : ℕ) (f g : Formula) (n : ℕ) → quantifiers f ≡ n → (QuantifierAt (p - 6) g → QuantifierAt (p - 6) f)
    → QuantifierAt p (if_none n (replacement b v f) (quant b v g)) → QuantifierAt p (quant b v f)
quant-stood p b v f g zero e h q = absurd (free-nowhere p (replacement b v f) (replacement-free b v f (zero-free f e)) q)
quant-stood p b v f g (suc n) e h (inl q) = inl q
quant-stood p b v f g (suc n) e h (inr q) = inr (q.0, h q.1)

more-stood : (p : ℕ) (f g : Formula) (fs gs : Formulas) (n : ℕ) → all_quantifiers fs ≡ n → (QuantifierAt p g → QuantifierAt p f)
    → (QuantifierAtAny (p - length (encode f)) gs → QuantifierAtAny (p - length (encode f)) fs)
    → QuantifierAtAny p (if_none n (more g fs) (more f gs)) → QuantifierAtAny p (more f fs)
more-stood p f g fs gs zero e h i (inl q) = inl (h q)
more-stood p f g fs gs zero e h i (inr q) = absurd (all-free-nowhere (p - length (encode g)) fs (all-zero-free fs e) q.1)
more-stood p f g fs gs (suc n) e h i (inl q) = inl q
more-stood p f g fs gs (suc n) e h i (inr q) = inr (q.0, i q.1)

-- a quantifier after a step stood there before it
mutual
  unfolding step

  step-stood : (p : ℕ) (f : Formula) → QuantifierAt p (step f) → QuantifierAt p f
  step-stood p (atom c ns) q = q
  step-stood p (not f) q = (q.0, step-stood (p - 4) f q.1)
  step-stood p (list b fs) q = (q.0, step_in-stood (p - 6) fs q.1)
  step-stood p (quant b v f) q = quant-stood p b v f (step f) (quantifiers f) refl (λ h. step-stood (p - 6) f h) q
  step-stood p (window v lo hi) q = q

  step_in-stood : (p : ℕ) (fs : Formulas) → QuantifierAtAny p (step_in fs) → QuantifierAtAny p fs
  step_in-stood p none q = q
  step_in-stood p (more f fs) q = more-stood p f (step f) fs (step_in fs) (all_quantifiers fs) refl (λ h. step-stood p f h) (λ h. step_in-stood (p - length (encode f)) fs h) q

pub steps-stood : (n p : ℕ) (f : Formula) → QuantifierAt p (steps n f) → QuantifierAt p f
steps-stood zero p f q = q
steps-stood (suc n) p f q = step-stood p f (steps-stood n p (step f) q)

-- bytes from p on, of as many as are taken
part-of-take : (p n : ℕ) (s : List ℕ) → p ≤ length s → drop p (take (p + n) s) ≡ take n (drop p s)
part-of-take p n s h = ap (drop p) (take-add p n s) ∙ drop_at (take p s) (take n (drop p s)) p (length-take-le p s h)

-- a quantifier's record in the bytes s at p
pub record RecordAt (s : List ℕ) (p : ℕ) (b : Bool) (v : ℕ) : Type 0 where
  pub inside : p + 6 ≤ length s
  pub bytes : take 6 (drop p s) ≡ record_bytes (quant_l b v)

-- the last quantifier's record stands at its place
last-record : (f : Formula) (p : ℕ) (b : Bool) (v : ℕ) (g : Formula) → last_in f ≡ at p b v g → RecordAt (encode f) p b v
unfolding encode record_bytes field_bytes
last-record f p b v g e =
    let s = splits f p b v g e in
    record {
      inside = omega (arith, ap length s.bytes, length-append s.before (encode (quant b v g) ++ s.after), s.place);
      bytes = ap (λ (x : List ℕ). take 6 (drop p x)) s.bytes ∙ ap (take 6) (drop_at s.before (encode (quant b v g) ++ s.after) p s.place);
    }

-- the offset of the last quantifier after n steps is that of a quantifier of the same kind and variable in the formula before all steps
pub own-record : (n : ℕ) (f : Formula) (p : ℕ) (b : Bool) (v : ℕ) (g : Formula) → last_in (steps n f) ≡ at p b v g → RecordAt (encode f) p b v
own-record n f p b v g e =
    let r = last-record (steps n f) p b v g e in
    let o = own-bytes n f p b v g e in
    let k : p + 6 ≤ length (encode f) = omega (arith, ap length o, length-take-le (p + 6) (encode (steps n f)) r.inside, length-take (p + 6) (encode f)) in
    record {
      inside = k;
      bytes =
          sym (part-of-take p 6 (encode f) (omega arith)) ∙ ap (drop p) (sym o) ∙ part-of-take p 6 (encode (steps n f)) (omega (arith, r.inside)) ∙ r.bytes;
    }
