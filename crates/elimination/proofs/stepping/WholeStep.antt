-- One step over the bytes of a formula: what the record of the last quantifier says, what its body is, and that replacement and splice are 01's step
-- with its answers 10, 11 and 12. Assumes nothing.
use mathlib.Core.Path.{◌≡◌, refl, sym, ◌∙◌, ap, ap₂, subst}
use mathlib.Core.Bool.{Bool, true, false, cond, true≢false}
use mathlib.Core.List.{List, ◌++◌, append_assoc}
use Prim.Native.Nat.{ℕ, max, zero, suc, ◌+◌, ◌-◌, ◌*◌, ◌≤◌, ◌<◌}
use native.Mathlib.Omega.{arith}
use lib.Dec.{ltb}
use lib.IntN.{ℤ}
use lib.ListN.{length, take, drop, length-append}
use lib.Seq.{length-take-le, take-take, take_at, drop_at, take-append-add}
use borrow.Author.Tests.{ltb-true, ltb-false, lt-ltb, le-ltb}
use Rattle.reading.specs.Limits.{most_terms, result_bytes, variables, tree_levels}
use Rattle.reading.specs.Formula.{Formula, quant, quant_l, encode, record_bytes, field_bytes, Free, Fits}
use Rattle.reading.specs.Reading.{tree_of, Begins, Exactly}
use Rattle.reading.specs.Quantifiers.{Quantifier, at, last_in}
use Rattle.reading.specs.Views.{IsQuantifier, binder_of}
use Rattle.reading.specs.declared.Binder.{Binder}
use Rattle.reading.proofs.Trees.{begins, tree_is, begins-tree, exactly-tree, fits_more}
use Rattle.reading.proofs.Places as places
use Rattle.reading.proofs.Places.{splits-at, stands-right, stands-drop, stands-within, last-free}
use Rattle.rules.specs.Steps.{replacement, step, refusal, numbers_fit}
use Rattle.rules.specs.Points.{terms, points}
use Rattle.rules.specs.Counts.{terms_at, larger}
use Rattle.rules.specs.Pushing.{push}
use Rattle.std.specs.Prelude.{Result, Err}
use Rattle.replacement.specs.Gathering.{Table}
use Rattle.reading.proofs.Lengths.{quant-long}
use Rattle.replacement.specs.Marking.{Marked, HasMarks}
use Rattle.replacement.specs.Trying.{Copiable, Sure}
use Rattle.replacement.specs.Replacing.{Told, Put, MadeOf}
use Rattle.elimination.specs.Stepping.{held, Stands, refusal_at, Stepped, Fine, Refused, Short, stepped, stop_of, stepped_of, is_short, Tried, Steps, Poised, joined_end, Joins}
use Rattle.std.proofs.Common.{Bor}
use Rattle.replacement.specs.declared.Body.{Body}
use Rattle.elimination.specs.declared.stepping.Step.{Step}
use Rattle.replacement.specs.declared.Unmade.{Unmade}
use Rattle.writing.proofs.Moving.{drop-take}
use Rattle.rules.proofs.Stepwise.OneStep.{Splits, splits}

-- ---- the boundary terms of a step

module _ (g : Formula) {p : ℕ} {b : Bool} {v : ℕ} {f : Formula} (last : last_in g ≡ at p b v f) where
  pub terms-many : most_terms < length (terms v f) → 0 ≡ terms_at (last_in g)
  terms-many h = sym (ap terms_at last ∙ ap (λ (y : Bool). cond y 0 (length (terms v f))) (lt-ltb most_terms (length (terms v f)) h))

  pub terms-few : {n : ℕ} → n ≡ length (terms v f) → n ≤ most_terms → n ≡ terms_at (last_in g)
  terms-few {n} e h = e ∙ sym (ap terms_at last ∙ ap (λ (y : Bool). cond y 0 (length (terms v f))) (le-ltb most_terms (length (terms v f)) (omega arith)))

pub larger-none : (m : ℕ) {k : ℕ} → 0 ≡ k → m ≡ larger m k
larger-none m e = omega arith

pub larger-is : (m : ℕ) {n k : ℕ} → n ≡ k → max m n ≡ larger m k
larger-is m e = omega arith

-- ---- the work buffer, where something was done to it before the step

pub steps-after : {f : Formula} {m : ℕ} {cur cur' work₀ work work' : List ℕ} {r : Stepped} → Steps f m cur cur' work work' r → drop result_bytes work ≡ drop result_bytes work₀ → Steps f m cur cur' work₀ work' r
steps-after s e =
    record {
      tried = record { answer = s.tried.answer; bytes = s.tried.bytes; again = s.tried.again; cur_rest = s.tried.cur_rest; work_rest = s.tried.work_rest ∙ e };
      roomy = s.roomy;
    }

-- a step that did not come to its end
pub step-short : {f : Formula} {cur work work' : List ℕ} → drop result_bytes work' ≡ drop result_bytes work → Tried f cur cur work work' Short
step-short w = record { answer = λ s. absurd (true≢false s); bytes = λ s z. absurd (true≢false s); again = λ s. refl; cur_rest = refl; work_rest = w }

-- ---- the answers

module _ (x : ℕ) (f g : Formula) where
  refusal-many : most_terms < length (terms x f) → refusal x f g ≡ 10
  unfolding refusal
  refusal-many h =
      ap (λ (b : Bool). cond b 10 (cond (numbers_fit (points x (terms x f)) (push false f)) (cond (ltb result_bytes (length (encode g))) 12 0) 11)) (lt-ltb most_terms (length (terms x f)) h)

  refusal-numbers : (b : Bool) → length (terms x f) ≤ most_terms → numbers_fit (points x (terms x f)) (push false f) ≡ b
      → refusal x f g ≡ cond b (cond (ltb result_bytes (length (encode g))) 12 0) 11
  unfolding refusal
  refusal-numbers b h e =
      ap₂ (λ (y z : Bool). cond y 10 (cond z (cond (ltb result_bytes (length (encode g))) 12 0) 11)) (le-ltb most_terms (length (terms x f)) h) e

stepped-refused : (e n : ℕ) → 1 ≤ e → stepped_of e n ≡ Refused e
stepped-refused zero n h = absurd (omega arith)
stepped-refused (suc e) n h = refl

stepped-late : (b : Bool) (n : ℕ) → cond b (Refused 12) (Fine n) ≡ stepped_of (cond b 12 0) n
stepped-late true n = refl
stepped-late false n = refl

pub joined-ends : {o r : ℕ} {cur cur' out tail : List ℕ} {s : Stepped} → Joins o r cur cur' out tail s → is_short s ≡ false
joined-ends {o} {r} {tail = tail} j = ap is_short j.answer ∙ go (ltb result_bytes (joined_end o r tail)) (joined_end o r tail)
  where
    go : (b : Bool) (n : ℕ) → is_short (cond b (Refused 12) (Fine n)) ≡ false
    go true n = refl
    go false n = refl

-- ---- a formula of len bytes in a buffer, and its last quantifier, at o

module _ {len o : ℕ} {cur : List ℕ} {b : Bool} {v : ℕ} {g : Formula} (st : Stands len cur) (last : last_in (held len cur) ≡ at o b v g) where
  whole_long : length (take len cur) ≡ len
  whole_long = length-take-le len cur (omega (arith, st.few, st.long))

  fits : Fits tree_levels (quant b v g)
  fits = (splits-at true tree_levels (held len cur) st.exactly.fits last).1

  stands : places.Stands (take len cur) o (encode (quant b v g))
  stands =
      subst (λ (l : List ℕ). places.Stands l o (encode (quant b v g))) (sym st.exactly.bytes) (splits-at true tree_levels (held len cur) st.exactly.fits last).0

  body-stands : places.Stands (take len cur) (o + 6) (encode g)
  unfolding encode record_bytes field_bytes
  body-stands = stands-right (record_bytes (quant_l b v)) (encode g) stands

  pub within : o + 6 + length (encode g) ≤ len
  within = omega (arith, stands-within body-stands, whole_long)

  pub variable-low : v < variables
  variable-low = omega (arith, fits.1)

  -- the part at the quantifier
  whole-begins : Begins (take (len - o) (drop o cur)) (quant b v g)
  whole-begins = record { rest = stands.after; bytes = sym (drop-take o len cur (omega (arith, within)) (omega (arith, st.few, st.long))) ∙ stands-drop stands; fits = fits }

  pub quantifier-at : Begins (take (len - o) (drop o cur)) (tree_of (take (len - o) (drop o cur))) × IsQuantifier (tree_of (take (len - o) (drop o cur)))
  quantifier-at = (begins-tree whole-begins, subst IsQuantifier (sym (tree_is whole-begins)) tt)

  pub binder-said : binder_of (tree_of (take (len - o) (drop o cur))) ≡ record { every = b; variable = v }
  binder-said = ap binder_of (tree_is whole-begins)

  pub variable-said : {w : Binder} → w ≡ binder_of (tree_of (take (len - o) (drop o cur))) → w.variable ≡ v
  variable-said e = ap (λ (y : Binder). y.variable) (e ∙ binder-said)

  -- the part after its record, up to e
  abbrev part : ℕ → List ℕ
  part e = take (e - (o + 6)) (drop (o + 6) cur)

  part_bytes : (e : ℕ) → e ≤ len → part e ≡ take (e - (o + 6)) (encode g ++ body-stands.after)
  part_bytes e k =
      sym (take-take (e - (o + 6)) (len - (o + 6)) (drop (o + 6) cur) (omega (arith, k)))
      ∙ ap (take (e - (o + 6))) (sym (drop-take (o + 6) len cur (omega (arith, within)) (omega (arith, st.few, st.long))) ∙ stands-drop body-stands)

  body-fits : Fits tree_levels g
  body-fits = fits_more g (tree_levels - 1) tree_levels (omega arith) fits.2

  body-free : (e : ℕ) → tree_of (part e) ≡ g → Free (tree_of (part e))
  body-free e t = subst Free (sym t) (last-free (held len cur) o b v g last)

  -- from the body's end on, it begins with the body
  module _ (e : ℕ) (h : o + 6 + length (encode g) ≤ e) (k : e ≤ len) where
    part-begins : Begins (part e) g
    part-begins =
        let n = e - (o + 6) - length (encode g) in
        let d : e - (o + 6) ≡ length (encode g) + n = omega (arith, h) in
        record {
          rest = take n body-stands.after;
          bytes = part_bytes e k ∙ ap (λ (m : ℕ). take m (encode g ++ body-stands.after)) d ∙ take-append-add (encode g) body-stands.after n;
          fits = body-fits;
        }

    pub part-tree : tree_of (part e) ≡ g
    part-tree = tree_is part-begins

    pub part-read : Begins (part e) (tree_of (part e)) × Free (tree_of (part e))
    part-read = (begins-tree part-begins, body-free e part-tree)

  -- where gathering ended the body ends
  pub gathered-ends : {u : ℕ} → u ≡ length (encode (tree_of (part len))) → o + 6 + u ≡ o + 6 + length (encode g)
  gathered-ends bytes = ap (λ (m : ℕ). o + 6 + m) (bytes ∙ ap (λ (h : Formula). length (encode h)) (part-tree len within (omega arith)))

  -- at the body's end it is the body
  module _ (e : ℕ) (h : e ≡ o + 6 + length (encode g)) where
    body-exact : Exactly (part e) g
    body-exact =
        let d : length (encode g) ≡ e - (o + 6) = omega (arith, h) in
        record { bytes = part_bytes e (omega (arith, h, within)) ∙ take_at (encode g) body-stands.after (e - (o + 6)) d; fits = body-fits }

    pub body-tree : tree_of (part e) ≡ g
    body-tree = tree_is (begins body-exact)

    pub body-long : length (part e) ≡ length (encode g)
    body-long = ap length body-exact.bytes

    pub body-read : Exactly (part e) (tree_of (part e)) × Free (tree_of (part e))
    body-read = (exactly-tree body-exact, body-free e body-tree)

  refusal_is : (e : ℕ) → refusal v g (step (held len cur)) ≡ e → refusal_at (last_in (held len cur)) (step (held len cur)) ≡ e
  refusal_is e h = ap (λ (y : Quantifier). refusal_at y (step (held len cur))) last ∙ h

  -- 10 or 11
  step-refused : (e : ℕ) (work work' : List ℕ) → 1 ≤ e → refusal v g (step (held len cur)) ≡ e → drop result_bytes work' ≡ drop result_bytes work
      → Tried (held len cur) cur cur work work' (Refused e)
  step-refused e work work' k h w =
      let n = length (encode (step (held len cur))) in
      let r = refusal_is e h in
      record {
        answer = λ s. sym (ap (λ (y : ℕ). stepped_of y n) r ∙ stepped-refused e n k);
        bytes = λ s z. absurd (omega (arith, r, k));
        again = λ s. refl;
        cur_rest = refl;
        work_rest = w;
      }

  pub step-many : (work : List ℕ) → most_terms < length (terms v g) → Tried (held len cur) cur cur work work (Refused 10)
  step-many work h = step-refused 10 work work (omega arith) (refusal-many v g (step (held len cur)) h) refl

  -- 12 or the formula after the step
  module _ (e r : ℕ) (cur' work work' out tail : List ℕ) (s : Stepped) (most : length (terms v g) ≤ most_terms) (num : numbers_fit (points v (terms v g)) (push false g) ≡ true)
      (ends : e ≡ o + 6 + length (encode g)) (put : Put (replacement b v g) out r)
      (behind : tail ≡ drop e (take len cur)) (rest : drop result_bytes work' ≡ drop result_bytes work) (j : Joins o r cur cur' out tail s) where
    t : Splits (held len cur) o b v g
    t = splits (held len cur) o b v g last

    abbrev Q : List ℕ
    Q = encode (quant b v g)

    abbrev R : List ℕ
    R = encode (replacement b v g)

    abbrev long : ℕ
    long = length (encode (step (held len cur)))

    total : take len cur ≡ t.before ++ (Q ++ t.after)
    total = st.exactly.bytes ∙ t.bytes

    len_is : len ≡ e + length t.after
    len_is = omega (arith, whole_long, ap length total, length-append t.before (Q ++ t.after), length-append Q t.after, t.place, ends, quant-long b v g)

    step-long : long ≡ o + length R + length t.after
    step-long = omega (arith, ap length t.stepped, length-append t.before (R ++ t.after), length-append R t.after, t.place)

    head-is : take o cur ≡ t.before
    head-is = sym (take-take o len cur (omega (arith, within))) ∙ ap (take o) total ∙ take_at t.before (Q ++ t.after) o t.place

    tail-is : tail ≡ t.after
    tail-is =
        behind ∙ ap (drop e) (total ∙ sym (append_assoc t.before Q t.after))
        ∙ drop_at (t.before ++ Q) t.after e (omega (arith, length-append t.before Q, t.place, ends, quant-long b v g))

    late : refusal_at (last_in (held len cur)) (step (held len cur)) ≡ cond (ltb result_bytes long) 12 0
    late = refusal_is _ (refusal-numbers v g (step (held len cur)) true most num)

    again : is_short s ≡ true → cur' ≡ cur
    again h = absurd (true≢false (sym h ∙ joined-ends j))

    step-late : Tried (held len cur) cur cur' work work' s
    step-late = go (ltb result_bytes (length R)) refl
      where
        go : (c : Bool) → ltb result_bytes (length R) ≡ c → Tried (held len cur) cur cur' work work' s
        go true h =
            let a = ltb-true result_bytes (length R) h in
            let k : ltb result_bytes (joined_end o r tail) ≡ true = lt-ltb result_bytes (joined_end o r tail) (omega (arith, put.long a)) in
            let w : refusal_at (last_in (held len cur)) (step (held len cur)) ≡ 12 = late ∙ ap (λ (c : Bool). cond c 12 0) (lt-ltb result_bytes long (omega (arith, a, step-long))) in
            record {
              answer = λ y. j.answer ∙ ap (λ (c : Bool). cond {A = Stepped} c (Refused 12) (Fine (joined_end o r tail))) k ∙ sym (ap (λ (m : ℕ). stepped_of m long) w);
              bytes = λ y z. absurd (omega (arith, w));
              again = again;
              cur_rest = j.cur_rest;
              work_rest = rest;
            }
        go false h =
            let p = put.short (ltb-false result_bytes (length R) h) in
            let d : joined_end o r tail ≡ long = omega (arith, p.0, step-long, ap length tail-is) in
            record {
              answer = λ y. j.answer ∙ ap (λ (n : ℕ). cond {A = Stepped} (ltb result_bytes n) (Refused 12) (Fine n)) d
                  ∙ stepped-late (ltb result_bytes long) long ∙ sym (ap (λ (m : ℕ). stepped_of m long) late);
              bytes = λ y z. ap (λ (n : ℕ). take n cur') (sym d) ∙ j.bytes (short-enough (ltb result_bytes long) refl (sym late ∙ z) d)
                  ∙ ap₂ (λ (x y : List ℕ). x ++ (take r out ++ y)) head-is tail-is ∙ ap (λ (x : List ℕ). t.before ++ (x ++ t.after)) p.1 ∙ sym t.stepped;
              again = again;
              cur_rest = j.cur_rest;
              work_rest = rest;
            }
          where
            short-enough : (c : Bool) → ltb result_bytes long ≡ c → cond {A = ℕ} c 12 0 ≡ 0 → joined_end o r tail ≡ long → joined_end o r tail ≤ result_bytes
            short-enough true k z d = absurd (omega arith)
            short-enough false k z d = omega (arith, d, ltb-false result_bytes long k)

  -- what is known before the step, once the terms are gathered and the body has been looked at
  pub poised : (w : Binder) (y : Body) (u : ℕ) (ts : Bor (List (List ℤ))) (ms : Bor (List Bool)) → w ≡ record { every = b; variable = v } → let f = tree_of (part len) in
      let s = part (o + 6 + u) in
      Told (tree_of s) w.variable (length s) ms.now y → u ≡ length (encode f) → Table ts.now → ts.now ≡ terms w.variable f
      → Poised (record { len = len; o = o; every = w.every; body = y; ts = ts; marks = ms }) cur
  poised w y u ts ms is told bytes table found =
      let f = part-tree len within (omega arith) in
      let e : o + 6 + u ≡ o + 6 + length (encode g) = gathered-ends bytes in
      record {
        stands = st;
        body = g;
        last = last ∙ ap₂ (λ (c : Bool) (x : ℕ). at o c x g) (sym (ap (λ (z : Binder). z.every) is)) (sym (told.variable ∙ ap (λ (z : Binder). z.variable) is));
        within = omega (arith, within, told.bytes, body-long (o + 6 + u) e);
        told = subst (λ (x : ℕ). Told g x (length (encode g)) ms.now y) (sym told.variable)
            (subst (λ (m : ℕ). Told g w.variable m ms.now y) (body-long (o + 6 + u) e) (subst (λ (h : Formula). Told h w.variable (length (part (o + 6 + u))) ms.now y) (body-tree (o + 6 + u) e) told));
        table = table;
        terms_are = found ∙ ap₂ terms (sym told.variable) f;
      }

-- ---- a step from what is known before it

module _ {a : Step} {cur : List ℕ} (p : Poised a cur) where
  most : length (terms a.body.x p.body) ≤ most_terms
  most = omega (arith, ap length p.terms_are, p.table.few)

  -- the body's bytes are what `made` asks for; and what it answers is said of the body
  abbrev source : List ℕ
  source = take (a.o + 6 + a.body.bytes - (a.o + 6)) (drop (a.o + 6) cur)

  ends_there : a.o + 6 + a.body.bytes ≡ a.o + 6 + length (encode p.body)
  ends_there = ap (λ (m : ℕ). a.o + 6 + m) p.told.bytes

  source-tree : tree_of source ≡ p.body
  source-tree = body-tree p.stands p.last (a.o + 6 + a.body.bytes) ends_there

  source-long : length source ≡ length (encode p.body)
  source-long = body-long p.stands p.last (a.o + 6 + a.body.bytes) ends_there

  source-marks : a.body.way.marked ≡ true → HasMarks a.body.x source a.marks.now
  source-marks q =
      let t = p.told.marks q in
      record {
        room = omega (arith, source-long, t.0);
        marked = subst (λ (m : ℕ). Marked a.body.x a.marks.now m (tree_of source)) (sym source-long) (subst (Marked a.body.x a.marks.now (length (encode p.body))) (sym source-tree) t.1);
      }

  pub made_asks : (m : ℕ) → 6 ≤ m
      → Copiable source a.body m a.marks.now × ((Table a.ts.now × (a.ts.now ≡ terms a.body.x (tree_of source))) × Sure a.body (points a.body.x (terms a.body.x (tree_of source))) (push false (tree_of source)))
  made_asks m r =
      let s = body-read p.stands p.last (a.o + 6 + a.body.bytes) ends_there in (
        record {
          begins = begins s.0;
          free = s.1;
          low = variable-low p.stands p.last;
          bytes = p.told.bytes ∙ ap (λ (f : Formula). length (encode f)) (sym source-tree);
          few = omega (arith, p.within, p.stands.few);
          marks = source-marks;
          room = r;
        },
        ((p.table, p.terms_are ∙ ap (terms a.body.x) (sym source-tree)), subst (λ (f : Formula). Sure a.body (points a.body.x (terms a.body.x f)) (push false f)) (sym source-tree) p.told.sure),
      )

  pub made_told : (m : ℕ) (out : List ℕ) (r : Result ℕ Unmade) → MadeOf a.every a.body (tree_of source) m out r → MadeOf a.every a.body p.body m out r
  made_told m out r = subst (λ (f : Formula). MadeOf a.every a.body f m out r) source-tree

  -- by what the replacement came to: there is too little room, a number is too big, or it is put in place
  pub step-wanting : (m : ℕ) (work : List ℕ) → m < result_bytes + 6 + 7 * a.body.bytes → Steps (held a.len cur) m cur cur work work Short
  step-wanting m work h = record { tried = step-short refl; roomy = λ s. omega (arith, h, p.within, p.stands.few) }

  pub step-big : (work work' : List ℕ) → numbers_fit (points a.body.x (terms a.body.x p.body)) (push false p.body) ≡ false → drop result_bytes work' ≡ drop result_bytes work
      → Tried (held a.len cur) cur cur work work' (Refused 11)
  step-big work work' f =
      step-refused p.stands p.last 11 work work' (omega arith) (refusal-numbers a.body.x p.body (step (held a.len cur)) false most f)

  -- where it was not made
  pub step-unmade : (m : ℕ) (out work work' : List ℕ) (e : Unmade) → MadeOf a.every a.body (tree_of source) m out (Err e) → drop result_bytes work' ≡ drop result_bytes work
      → Tried (held a.len cur) cur cur work work' (stepped (Err (stop_of e)))
  step-unmade m out work work' Unmade.Big h r = step-big work work' (made_told m out (Err Unmade.Big) h) r
  step-unmade m out work work' Unmade.Short h r = step-short r

  -- in a room of m bytes
  pub steps-unmade : (m : ℕ) (out work : List ℕ) (e : Unmade) → MadeOf a.every a.body (tree_of source) m out (Err e) → Steps (held a.len cur) m cur cur work work (stepped (Err (stop_of e)))
  steps-unmade m out work Unmade.Big h = record { tried = step-unmade m out work work Unmade.Big h refl; roomy = λ s. absurd (true≢false (sym s)) }
  steps-unmade m out work Unmade.Short h = step-wanting m work h

  pub step-fine : {r : ℕ} {cur' work work' out tail : List ℕ} {s : Stepped} → (numbers_fit (points a.body.x (terms a.body.x p.body)) (push false p.body) ≡ true) × Put (replacement a.every a.body.x p.body) out r
      → tail ≡ drop (a.o + 6 + a.body.bytes) (take a.len cur) → drop result_bytes work' ≡ drop result_bytes work → Joins a.o r cur cur' out tail s → Tried (held a.len cur) cur cur' work work' s
  step-fine {r} {cur'} {work} {work'} {out} {tail} {s} m behind rest j =
      step-late p.stands p.last (a.o + 6 + a.body.bytes) r cur' work work' out tail s most m.0 (ap (λ (j : ℕ). a.o + 6 + j) p.told.bytes) m.1 behind rest j
