-- 01, 'Answers and their order': what each answer says. The ways an elimination and a test can end, one after the other; then, of the formula that
-- was read, what an answer 0 delivers; and of any answer its number, its place and what became of the buffers. Assumes nothing.
use mathlib.Core.Path.{◌≡◌, refl, sym, ◌∙◌, ap, subst}
use mathlib.Core.Bool.{Bool, true, false, ◌||◌, cond}
use mathlib.Core.List.{List, [], ◌++◌, append-nil, append_assoc}
use mathlib.Core.Logic.{◌⊎◌, inl, inr}
use Prim.Native.Nat.{ℕ, ◌-◌, ◌≤◌, ◌<◌}
use native.Mathlib.Omega.{arith}
use lib.Dec.{T, ltb}
use lib.ListN.{length, take, drop, length-append, length-replicate}
use lib.Seq.{take-append_seam, drop-append_seam, drop_at}
use lib.IntN.{ℤ, pos}
use lib.Signed.{◌<ℤ◌, lt_z}
use borrow.Author.Tests.{ltb-false, lt-ltb, le-ltb}
use Rattle.reading.specs.Limits.{sheet_bytes, sheet_levels, result_bytes, result_levels, most_value}
use Rattle.reading.specs.Bytes.{Bytes, zeros}
use Rattle.reading.specs.Formula.{Formula, encode, Fits, Free}
use Rattle.reading.specs.Reading.{good, formula_in}
use Rattle.reading.specs.Answers.{reading}
use Rattle.reading.specs.Quantifiers.{Quantifier, nothing, at, first_in, QuantifierAt, AtQuantifier}
use Rattle.reading.specs.Answers.{Reply}
use Rattle.reading.specs.Answers.{Done, Refused}
use Rattle.reading.proofs.Laws.{reads}
use Rattle.reading.proofs.Accepts.{accepted, accepts}
use Rattle.reading.proofs.Trees.{encode_one}
use Rattle.reading.proofs.Refusals.{ReplyNumbered, reading-numbered}
use Rattle.reading.proofs.Whole.{place-within}
use Rattle.reading.proofs.Places.{nothing-free, found-quantifier, quantifier-inside}
use Rattle.exact.specs.Numbers as Numbers
use Rattle.exact.specs.Numbers.{all_in}
use Rattle.rules.specs.Lists.{Known, decided, unknown, known}
use Rattle.rules.specs.Steps.{Run, ran, halted, quantifiers, steps, eliminated}
use Rattle.rules.specs.Eliminate.{Result, verdict_by, cleared, refused, delivered, finished, result_of, by_run, by_reading, eliminate, eliminate_in, room_bytes, Roomy}
use Rattle.rules.specs.Test.{true_at, allowed, refused_test, by_values, by_quantifier, by_test, Trial, tested}
use Rattle.rules.proofs.Limits.Levels.{fits-wide, wide_fits}
use Rattle.rules.proofs.Limits.Copies.{and_both, finished-fits}
use Rattle.rules.proofs.Stepwise.Run.{Halted, eliminated-wide, eliminated-halted, run_is}

-- ---- reading

-- reading the bytes of a formula finds it
reads_whole : (d : ℕ) (s : List ℕ) (f : Formula) → Fits d f → s ≡ encode f → formula_in d s ≡ good f (length (encode f))
reads_whole d s f w e = ap (formula_in d) e ∙ (rw (append-nil (encode f)) at (reads f d [] w))

-- ---- the ways an elimination ends

-- a buffer that is long enough
neither : (a b : Bool) → a || b ≡ false → (a ≡ false) × (b ≡ false)
neither true b e = absurd (subst (λ (c : Bool). T c) e tt)
neither false b e = (refl, e)

-- a run: a step that is refused; a finished formula that is too long; or the whole construction, within the limits of a result
run_ends : (P : Result → Type 0) (n : ℕ) (f : Formula) (out work : List ℕ) → Fits sheet_levels f
    → ((e p : ℕ) → Halted f e p → P (refused e p (cleared out) (cleared work)))
    → P (refused 12 n (cleared out) (cleared work))
    → (Fits result_levels (result_of f) → length (encode (result_of f)) ≤ result_bytes → P (delivered (result_of f) out work))
    → P (by_run n (eliminated f) out work)
unfolding result_of
run_ends P n f out work w stop long done = run (eliminated f) refl
  where
    finish : (g : Formula) → g ≡ steps (quantifiers f) f → Fits result_levels (finished g) → (b : Bool) → ltb result_bytes (length (encode (finished g))) ≡ b
        → P (cond b (refused 12 n (cleared out) (cleared work)) (delivered (finished g) out work))
    finish g e k true h = long
    finish g e k false h =
        let i = ltb-false result_bytes (length (encode (finished g))) h in
        subst (λ (u : Formula). P (delivered (finished u) out work)) (sym e) (done (subst (λ (u : Formula). Fits result_levels (finished u)) e k) (subst (λ (u : Formula). length (encode (finished u)) ≤ result_bytes) e i))

    run : (r : Run) → eliminated f ≡ r → P (by_run n r out work)
    run (halted e p) q = stop e p (eliminated-halted f e p q)
    run (ran g) q =
        let x = eliminated-wide result_levels f g (fits-wide f sheet_levels w) q in
        finish g (run_is f g q) (wide_fits (finished g) result_levels (finished-fits result_levels g x.0 x.1)) (ltb result_bytes (length (encode (finished g)))) refl

-- a short buffer; a refusal of reading, 2 to 9; or, of the sheet's formula and in buffers with room: a step that is refused, 12 of the finishing pass,
-- or the construction
eliminate-ends : (P : Result → Type 0) (sheet out work : List ℕ) → Bytes sheet
    → P (refused 1 0 out work)
    → ((e p : ℕ) → 2 ≤ e → e ≤ 9 → p ≤ length sheet → P (refused e p out work))
    → (Roomy out → Roomy work → (f : Formula) → Fits sheet_levels f → sheet ≡ encode f → (e p : ℕ) → Halted f e p → P (refused e p (cleared out) (cleared work)))
    → (Roomy out → Roomy work → P (refused 12 (length sheet) (cleared out) (cleared work)))
    → (Roomy out → Roomy work → (f : Formula) → Fits sheet_levels f → sheet ≡ encode f → Fits result_levels (result_of f) → length (encode (result_of f)) ≤ result_bytes → P (delivered (result_of f) out work))
    → P (eliminate sheet out work)
unfolding eliminate
eliminate-ends P sheet out work ok short unread stop long done = start (ltb (length out) result_bytes || ltb (length work) result_bytes) refl
  where
    read : (r : Reply) → reading sheet_bytes sheet_levels sheet ≡ r → Roomy out → Roomy work → P (by_reading (length sheet) r (formula_in sheet_levels sheet) out work)
    read (Refused e p) q a b =
        let h = subst ReplyNumbered q (reading-numbered sheet_bytes sheet_levels sheet) in
        unread e p h.0 h.1 (rw q at (place-within sheet_bytes sheet_levels sheet))
    read (Done k) q a b =
        let x = accepted sheet_bytes sheet_levels sheet k ok q in
        rw (reads_whole sheet_levels sheet x.0 x.1 x.2) (run_ends P (length sheet) x.0 out work x.1 (stop a b x.0 x.1 x.2) (long a b) (done a b x.0 x.1 x.2))

    start : (b : Bool) → ltb (length out) result_bytes || ltb (length work) result_bytes ≡ b
        → P (cond b (refused 1 0 out work) (by_reading (length sheet) (reading sheet_bytes sheet_levels sheet) (formula_in sheet_levels sheet) out work))
    start true e = short
    start false e =
        let n = neither _ _ e in
        read (reading sheet_bytes sheet_levels sheet) refl (ltb-false (length out) result_bytes n.0) (ltb-false (length work) result_bytes n.1)

-- ---- in the caller's room, of n bytes

pub in-room : (n : ℕ) (sheet out work : List ℕ) → room_bytes ≤ n → eliminate_in n sheet out work ≡ eliminate sheet out work
unfolding eliminate_in
in-room n sheet out work h = ap (λ (b : Bool). cond b (refused 1 0 out work) (eliminate sheet out work)) (le-ltb n room_bytes h)

pub room_small : (n : ℕ) (sheet out work : List ℕ) → n < room_bytes → eliminate_in n sheet out work ≡ refused 1 0 out work
unfolding eliminate_in
room_small n sheet out work h = ap (λ (b : Bool). cond b (refused 1 0 out work) (eliminate sheet out work)) (lt-ltb n room_bytes h)

-- where a buffer is too short, no room is enough
pub in_small : (n : ℕ) (sheet out work : List ℕ) → eliminate sheet out work ≡ refused 1 0 out work → eliminate_in n sheet out work ≡ refused 1 0 out work
unfolding eliminate_in
in_small n sheet out work e = go (ltb n room_bytes)
  where
    go : (b : Bool) → cond b (refused 1 0 out work) (eliminate sheet out work) ≡ refused 1 0 out work
    go true = refl
    go false = e

-- ---- answer 0: the construction is delivered

-- s is the bytes of a formula of at most d levels
abbrev pub FormulaOf : ℕ → List ℕ → Type 0
FormulaOf d s = (f : Formula) × Fits d f × (s ≡ encode f)

-- there is a formula whose bytes the sheet is
pub eliminate-read : (sheet out work : List ℕ) → Bytes sheet → (eliminate sheet out work).number ≡ 0 → FormulaOf sheet_levels sheet
eliminate-read sheet out work ok =
    eliminate-ends (λ (r : Result). r.number ≡ 0 → FormulaOf sheet_levels sheet) sheet out work ok (λ z. absurd (omega arith)) (λ n p l h k z. absurd (omega arith))
    (λ a b f w e n p h z. absurd (omega (arith, h.low))) (λ a b z. absurd (omega arith)) (λ a b f w e x k z. (f, w, e))

-- and of that formula f the whole construction
pub record Delivers (f : Formula) (sheet out work : List ℕ) : Type 0 where
  pub answer : eliminate sheet out work ≡ delivered (result_of f) out work
  pub fits : Fits result_levels (result_of f)
  pub short : length (encode (result_of f)) ≤ result_bytes

abbrev DeliversIn : Formula → List ℕ → List ℕ → Result → Type 0
DeliversIn f out work r = r.number ≡ 0 → (r ≡ delivered (result_of f) out work) × Fits result_levels (result_of f) × (length (encode (result_of f)) ≤ result_bytes)

pub eliminate-delivers : (f : Formula) (sheet out work : List ℕ) → Bytes sheet → Fits sheet_levels f → sheet ≡ encode f → (eliminate sheet out work).number ≡ 0 → Delivers f sheet out work
eliminate-delivers f sheet out work ok w e z =
    let d = eliminate-ends (DeliversIn f out work) sheet out work ok (λ z. absurd (omega arith)) (λ n p l h k z. absurd (omega arith))
    (λ a b g x i n p h z. absurd (omega (arith, h.low))) (λ a b z. absurd (omega arith)) done z in
    record { answer = d.0; fits = d.1; short = d.2 }
  where
    done : Roomy out → Roomy work → (g : Formula) → Fits sheet_levels g → sheet ≡ encode g → Fits result_levels (result_of g) → length (encode (result_of g)) ≤ result_bytes → DeliversIn f out work (delivered (result_of g) out work)
    done a b g x i k l z =
        let same : g ≡ f = encode_one g f sheet_levels sheet_levels x w (sym i ∙ e) in
        (ap (λ (u : Formula). delivered (result_of u) out work) same, subst (λ (u : Formula). Fits result_levels (result_of u)) same k, subst (λ (u : Formula). length (encode (result_of u)) ≤ result_bytes) same l)

-- the bytes that are delivered
pub delivered-bytes : (g : Formula) (out work : List ℕ) → take (delivered g out work).length (delivered g out work).result ≡ encode g
delivered-bytes g out work = take-append_seam (encode g) _

-- they are read by the limits of results, to the last byte: the test at fractions and the look take what an elimination delivers
pub delivered-readable : (sheet out work : List ℕ) → Bytes sheet → (eliminate sheet out work).number ≡ 0
    → reading result_bytes result_levels (take (eliminate sheet out work).length (eliminate sheet out work).result) ≡ Done (eliminate sheet out work).length
delivered-readable sheet out work ok z =
    let x = eliminate-read sheet out work ok z in
    let d = eliminate-delivers x.0 sheet out work ok x.1 x.2 z in
    rw d.answer (ap (reading result_bytes result_levels) (delivered-bytes (result_of x.0) out work) ∙ accepts result_bytes result_levels (result_of x.0) d.fits d.short)

-- ---- any answer: its number, its place, verdict and length

pub eliminate-number : (sheet out work : List ℕ) → Bytes sheet → (eliminate sheet out work).number ≤ 12
eliminate-number sheet out work ok =
    eliminate-ends (λ (r : Result). r.number ≤ 12) sheet out work ok (omega arith) (λ n p l h k. omega arith) (λ a b f w e n p h. h.high) (λ a b. omega arith) (λ a b f w e x k. omega arith)

pub eliminate-place : (sheet out work : List ℕ) → Bytes sheet → (eliminate sheet out work).place ≤ length sheet
eliminate-place sheet out work ok =
    eliminate-ends (λ (r : Result). r.place ≤ length sheet) sheet out work ok (omega arith) (λ n p l h k. k)
    (λ a b f w e n p h. omega (arith, quantifier-inside p f h.stands, ap length e)) (λ a b. omega arith) (λ a b f w e x k. omega arith)

pub eliminate-quantifier : (sheet out work : List ℕ) → Bytes sheet → 10 ≤ (eliminate sheet out work).number
    → AtQuantifier sheet_levels sheet (eliminate sheet out work).place ⊎ (((eliminate sheet out work).number ≡ 12) × ((eliminate sheet out work).place ≡ length sheet))
eliminate-quantifier sheet out work ok =
    eliminate-ends (λ (r : Result). 10 ≤ r.number → AtQuantifier sheet_levels sheet r.place ⊎ ((r.number ≡ 12) × (r.place ≡ length sheet))) sheet out work ok
    (λ t. absurd (omega arith)) (λ n p l h k t. absurd (omega arith)) (λ a b f w e n p h t. inl (f, w, e, h.stands)) (λ a b t. inr (refl, refl)) (λ a b f w e x k t. absurd (omega arith))

verdict-low : (k : Known) → verdict_by k ≤ 2
verdict-low (decided true) = omega arith
verdict-low (decided false) = omega arith
verdict-low unknown = omega arith

pub eliminate-done : (sheet out work : List ℕ) → Bytes sheet → (eliminate sheet out work).number ≡ 0
    → ((eliminate sheet out work).verdict ≤ 2) × ((eliminate sheet out work).place ≡ 0) × ((eliminate sheet out work).length ≤ result_bytes)
eliminate-done sheet out work ok =
    eliminate-ends (λ (r : Result). r.number ≡ 0 → (r.verdict ≤ 2) × (r.place ≡ 0) × (r.length ≤ result_bytes)) sheet out work ok
    (λ z. absurd (omega arith)) (λ n p l h k z. absurd (omega arith)) (λ a b f w e n p h z. absurd (omega (arith, h.low))) (λ a b z. absurd (omega arith))
    (λ a b f w e x k z. (verdict-low (known (result_of f)), refl, k))

pub eliminate-refused : (sheet out work : List ℕ) → Bytes sheet → 1 ≤ (eliminate sheet out work).number → ((eliminate sheet out work).verdict ≡ 3) × ((eliminate sheet out work).length ≡ 0)
eliminate-refused sheet out work ok =
    eliminate-ends (λ (r : Result). 1 ≤ r.number → (r.verdict ≡ 3) × (r.length ≡ 0)) sheet out work ok (λ t. (refl, refl)) (λ n p l h k t. (refl, refl)) (λ a b f w e n p h t. (refl, refl)) (λ a b t. (refl, refl))
    (λ a b f w e x k t. absurd (omega arith))

-- ---- any answer: what became of the buffers

-- 1 to 9 change neither
pub eliminate-unread : (sheet out work : List ℕ) → Bytes sheet → 1 ≤ (eliminate sheet out work).number → (eliminate sheet out work).number ≤ 9
    → ((eliminate sheet out work).result ≡ out) × ((eliminate sheet out work).work ≡ work)
eliminate-unread sheet out work ok =
    eliminate-ends (λ (r : Result). 1 ≤ r.number → r.number ≤ 9 → (r.result ≡ out) × (r.work ≡ work)) sheet out work ok
    (λ s t. (refl, refl)) (λ n p l h k s t. (refl, refl)) (λ a b f w e n p h s t. absurd (omega (arith, h.low))) (λ a b s t. absurd (omega arith)) (λ a b f w e x k s t. absurd (omega arith))

-- 10 to 12 leave zeros in the first 65,536 bytes of both
pub eliminate-stopped : (sheet out work : List ℕ) → Bytes sheet → 10 ≤ (eliminate sheet out work).number
    → ((eliminate sheet out work).result ≡ cleared out) × ((eliminate sheet out work).work ≡ cleared work)
eliminate-stopped sheet out work ok =
    eliminate-ends (λ (r : Result). 10 ≤ r.number → (r.result ≡ cleared out) × (r.work ≡ cleared work)) sheet out work ok
    (λ t. absurd (omega arith)) (λ n p l h k t. absurd (omega arith)) (λ a b f w e n p h t. (refl, refl)) (λ a b t. (refl, refl)) (λ a b f w e x k t. absurd (omega arith))

-- 0 leaves the result and then zeros, and zeros in the work buffer
pub eliminate-filled : (sheet out work : List ℕ) → Bytes sheet → (eliminate sheet out work).number ≡ 0
    → (drop (eliminate sheet out work).length (eliminate sheet out work).result ≡ zeros (result_bytes - (eliminate sheet out work).length) ++ drop result_bytes out)
    × ((eliminate sheet out work).work ≡ cleared work)
eliminate-filled sheet out work ok =
    eliminate-ends (λ (r : Result). r.number ≡ 0 → (drop r.length r.result ≡ zeros (result_bytes - r.length) ++ drop result_bytes out) × (r.work ≡ cleared work)) sheet out work ok
    (λ z. absurd (omega arith)) (λ n p l h k z. absurd (omega arith)) (λ a b f w e n p h z. absurd (omega (arith, h.low))) (λ a b z. absurd (omega arith))
    (λ a b f w e x k z. (drop-append_seam (encode (result_of f)) _, refl))

cleared-past : (b : List ℕ) → drop result_bytes (cleared b) ≡ drop result_bytes b
cleared-past b = drop_at (zeros result_bytes) (drop result_bytes b) result_bytes (length-replicate {A = ℕ} result_bytes 0)

delivered-past : (g : Formula) (out work : List ℕ) → length (encode g) ≤ result_bytes → drop result_bytes (delivered g out work).result ≡ drop result_bytes out
delivered-past g out work k =
    ap (drop result_bytes) (sym (append_assoc (encode g) (zeros (result_bytes - length (encode g))) (drop result_bytes out)))
    ∙ drop_at (encode g ++ zeros (result_bytes - length (encode g))) (drop result_bytes out) result_bytes (simp (length-append, length-replicate) (omega arith))

-- no byte past the first 65,536 ever changes
pub eliminate-past : (sheet out work : List ℕ) → Bytes sheet
    → (drop result_bytes (eliminate sheet out work).result ≡ drop result_bytes out) × (drop result_bytes (eliminate sheet out work).work ≡ drop result_bytes work)
eliminate-past sheet out work ok =
    eliminate-ends (λ (r : Result). (drop result_bytes r.result ≡ drop result_bytes out) × (drop result_bytes r.work ≡ drop result_bytes work)) sheet out work ok
    (refl, refl) (λ n p l h k. (refl, refl)) (λ a b f w e n p h. (cleared-past out, cleared-past work)) (λ a b. (cleared-past out, cleared-past work))
    (λ a b f w e x k. (delivered-past (result_of f) out work k, cleared-past work))

-- ---- the test

-- a refusal of reading, 2 to 9; a quantifier, 13; values out of range, 14; or the truth of the sheet's formula, without quantifiers, above a denominator
tested-ends : (P : Trial → Type 0) (sheet : List ℕ) (w : List ℤ) → Bytes sheet
    → ((e p : ℕ) → 2 ≤ e → e ≤ 9 → p ≤ length sheet → P (refused_test e p))
    → ((f : Formula) → Fits result_levels f → sheet ≡ encode f → (p : ℕ) → QuantifierAt p f → P (refused_test 13 p))
    → P (refused_test 14 0)
    → ((f : Formula) → Fits result_levels f → sheet ≡ encode f → Free f → pos 0 <ℤ Numbers.at w 8 → P (record { number = 0; verdict = cond (true_at w f) 1 0; place = 0 }))
    → P (tested sheet w)
unfolding tested
tested-ends P sheet w ok unread quantified range done = read (reading result_bytes result_levels sheet) refl
  where
    values : (f : Formula) → Fits result_levels f → sheet ≡ encode f → Free f → (b : Bool) → allowed w ≡ b → P (cond b (record { number = 0; verdict = cond (true_at w f) 1 0; place = 0 }) (refused_test 14 0))
    values f x e q true i = done f x e q (record { lt = rw (and_both (all_in most_value w) (lt_z (pos 0) (Numbers.at w 8)) i).1 tt })
    values f x e q false i = range

    first : (f : Formula) → Fits result_levels f → sheet ≡ encode f → (q : Quantifier) → first_in f ≡ q → P (by_quantifier q (by_values w f))
    first f x e nothing i = values f x e ((nothing-free false f).0 i) (allowed w) refl
    first f x e (at p b v g) i = quantified f x e p (found-quantifier false f p b v g i)

    read : (r : Reply) → reading result_bytes result_levels sheet ≡ r → P (by_test r (formula_in result_levels sheet) w)
    read (Refused e p) q =
        let h = subst ReplyNumbered q (reading-numbered result_bytes result_levels sheet) in
        unread e p h.0 h.1 (rw q at (place-within result_bytes result_levels sheet))
    read (Done k) q =
        let x = accepted result_bytes result_levels sheet k ok q in
        rw (reads_whole result_levels sheet x.0 x.1 x.2) (first x.0 x.1 x.2 (first_in x.0) refl)

-- answer 0: there is a formula whose bytes the sheet is
pub test_read : (sheet : List ℕ) (w : List ℤ) → Bytes sheet → (tested sheet w).number ≡ 0 → FormulaOf result_levels sheet
test_read sheet w ok = tested-ends (λ (t : Trial). t.number ≡ 0 → FormulaOf result_levels sheet) sheet w ok
    (λ n p l h k z. absurd (omega arith)) (λ f x e p s z. absurd (omega arith)) (λ z. absurd (omega arith)) (λ f x e q h z. (f, x, e))

-- and of that formula f the truth
pub record TestDone (f : Formula) (w : List ℤ) (verdict : ℕ) : Type 0 where
  pub free : Free f
  pub bottom-above : pos 0 <ℤ Numbers.at w 8
  pub verdict-is : verdict ≡ cond (true_at w f) 1 0

pub test-done : (f : Formula) (sheet : List ℕ) (w : List ℤ) → Bytes sheet → Fits result_levels f → sheet ≡ encode f → (tested sheet w).number ≡ 0 → TestDone f w (tested sheet w).verdict
test-done f sheet w ok x e = tested-ends (λ (t : Trial). t.number ≡ 0 → TestDone f w t.verdict) sheet w ok
    (λ n p l h k z. absurd (omega arith)) (λ g y i p s z. absurd (omega arith)) (λ z. absurd (omega arith))
    (λ g y i q h z. let same = encode_one g f result_levels result_levels y x (sym i ∙ e) in record { free = subst Free same q; bottom-above = h; verdict-is = ap (λ (u : Formula). cond (true_at w u) 1 0) same })

-- any answer of the test: its number, its place, its verdict
pub test-number : (sheet : List ℕ) (w : List ℤ) → Bytes sheet
    → ((tested sheet w).number ≡ 0) ⊎ (((2 ≤ (tested sheet w).number) × ((tested sheet w).number ≤ 9)) ⊎ (((tested sheet w).number ≡ 13) ⊎ ((tested sheet w).number ≡ 14)))
test-number sheet w ok = tested-ends (λ (t : Trial). (t.number ≡ 0) ⊎ (((2 ≤ t.number) × (t.number ≤ 9)) ⊎ ((t.number ≡ 13) ⊎ (t.number ≡ 14)))) sheet w ok
    (λ n p l h k. inr (inl (l, h))) (λ f x e p s. inr (inr (inl refl))) (inr (inr (inr refl))) (λ f x e q h. inl refl)

pub test-place : (sheet : List ℕ) (w : List ℤ) → Bytes sheet → (tested sheet w).place ≤ length sheet
test-place sheet w ok = tested-ends (λ (t : Trial). t.place ≤ length sheet) sheet w ok
    (λ n p l h k. k) (λ f x e p s. omega (arith, quantifier-inside p f s, ap length e)) (omega arith) (λ f x e q h. omega arith)

pub test-quantifier : (sheet : List ℕ) (w : List ℤ) → Bytes sheet → (tested sheet w).number ≡ 13 → AtQuantifier result_levels sheet (tested sheet w).place
test-quantifier sheet w ok = tested-ends (λ (t : Trial). t.number ≡ 13 → AtQuantifier result_levels sheet t.place) sheet w ok
    (λ n p l h k z. absurd (omega arith)) (λ f x e p s z. (f, x, e, s)) (λ z. absurd (omega arith)) (λ f x e q h z. absurd (omega arith))

one-or-none : (b : Bool) → cond b 1 0 ≤ 1
one-or-none true = omega arith
one-or-none false = omega arith

pub test-verdict : (sheet : List ℕ) (w : List ℤ) → Bytes sheet → ((tested sheet w).number ≡ 0 → (tested sheet w).verdict ≤ 1) × (1 ≤ (tested sheet w).number → (tested sheet w).verdict ≡ 3)
test-verdict sheet w ok = tested-ends (λ (t : Trial). (t.number ≡ 0 → t.verdict ≤ 1) × (1 ≤ t.number → t.verdict ≡ 3)) sheet w ok
    (λ n p l h k. (λ z. absurd (omega arith), λ _. refl)) (λ f x e p s. (λ z. absurd (omega arith), λ _. refl)) (λ z. absurd (omega arith), λ _. refl)
    (λ f x e q h. (λ _. one-or-none (true_at w f), λ t. absurd (omega arith)))
