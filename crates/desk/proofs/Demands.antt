-- The three demands, from the bytes that C hands over to the reply and the bytes that it finds. Each is said of any reply that the promise of the call
-- (`Eliminates`, `EliminatesIn`, `CountsAlong`, `TestsAt`, `ReadsAs`, `LooksAt` of specs/Promises, which the exported functions are proved to keep) allows. That every
-- call ends, for all bytes and lengths, is part of each proof: no call has a `requires`. `Bytes sheet` says that each element of the sheet is below 256,
-- so it restricts nothing: C can hand over nothing else. Assumes nothing.
use mathlib.Core.Path.{◌≡◌, sym, ◌∙◌, ap, ap₂, subst}
use mathlib.Core.Logic.{◌⊎◌, ◌↔◌}
use mathlib.Core.List.{List, ◌++◌}
use Prim.Native.Nat.{ℕ, ◌+◌, ◌-◌, ◌≤◌, ◌<◌}
use native.Mathlib.Omega.{arith}
use lib.ListN.{length, take, drop}
use lib.IntN.{ℤ, pos}
use lib.Signed.{◌<ℤ◌}
use Rattle.reading.specs.Limits.{sheet_bytes, sheet_levels, result_bytes, result_levels}
use Rattle.reading.specs.Bytes.{Bytes, zeros}
use Rattle.reading.specs.Formula.{Formula, encode, Fits, Free}
use Rattle.reading.specs.Answers.{reading, answer_of}
use Rattle.reading.specs.Quantifiers.{AtQuantifier, look_part, look_within}
use Rattle.reading.specs.Answers.{Answer}
use Rattle.reading.specs.declared.Part as Reading
use Rattle.reading.specs.Answers.{Done}
use Rattle.reading.proofs.Trees as Trees
use Rattle.reading.proofs.Refusals as Refusals
use Rattle.reading.proofs.Whole as Whole
use Rattle.reading.proofs.Looking as Looking
use Rattle.reading.proofs.OtherLimits as OtherLimits
use Rattle.exact.specs.Numbers.{at}
use Rattle.rules.specs.Eliminate.{Result, cleared, result_of, eliminate, eliminate_in, eliminate_within, room_bytes}
use Rattle.rules.specs.Eliminate as Eliminate
use Rattle.rules.specs.Counts.{Counts}
use Rattle.rules.specs.Test.{true_at, Trial, tested, tested_within}
use Rattle.meaning.specs.Meaning.{Values, fractions, Equal, sum_of, Means}
use Rattle.rules.specs.Variables.{Closed}
use Rattle.rules.proofs.Answers as Answering
use Rattle.rules.proofs.OtherLimits as Limiting
use Rattle.rules.proofs.Counting as Counting
use Rattle.meaning.proofs.Construction as Meanings
use Rattle.meaning.proofs.Closed as Closing
use Rattle.meaning.proofs.Values as Valuing
use Rattle.meaning.proofs.Truth as Truth
use Rattle.desk.specs.Promises.{gave, gave_test, gave_place, gave_part, shortened, Eliminates, EliminatesIn, CountsAlong, TestsAt, ReadsAs, LooksAt}
use Rattle.desk.specs.declared.Reply.{Reply}
use Rattle.desk.specs.declared.Counted.{Counted}
use Rattle.desk.specs.declared.Tested.{Tested}
use Rattle.desk.specs.declared.Place.{Place}
use Rattle.desk.specs.declared.Part.{Part}

-- the definitions' records as C gets them
abbrev reply : Result → Reply
reply o = record { number = o.number; verdict = o.verdict; place = o.place; length = o.length }

abbrev counted_reply : Reply → Counts → Counted
counted_reply r c = record { number = r.number; verdict = r.verdict; place = r.place; length = r.length; steps = c.finished; terms = c.most }

abbrev test_reply : Trial → Tested
test_reply o = record { number = o.number; verdict = o.verdict; place = o.place }

abbrev place_reply : Answer → Place
place_reply o = record { number = o.number; place = o.place }

abbrev part_reply : Reading.Part → Part
part_reply o = record { at = o.at; length = o.length }

-- ==== Demand 1: a result, or a numbered refusal and its place; and the rules fix what is in every buffer afterwards

-- vb_eliminate: the numbers 0 to 12; the place lies in the sheet, and that of 10 to 12 is a quantifier of its formula, or for 12 the sheet's length;
-- verdict 0, 1 or 2 for a result of at most 65,536 bytes, 3 and length 0 for a refusal. 1 to 9 change neither buffer; 10 to 12 leave zeros in the first
-- 65,536 bytes of both; 0 leaves zeros after the result, and zeros in the work buffer; no byte past the first 65,536 ever changes.
pub record EliminateAnswers (sheet out₀ work₀ : List ℕ) (r : Reply) (out work : List ℕ) : Type 0 where
  pub number : r.number ≤ 12
  pub place : r.place ≤ length sheet
  pub quantifier : 10 ≤ r.number → AtQuantifier sheet_levels sheet r.place ⊎ ((r.number ≡ 12) × (r.place ≡ length sheet))
  pub done : r.number ≡ 0 → (r.verdict ≤ 2) × (r.place ≡ 0) × (r.length ≤ result_bytes)
  pub refused : 1 ≤ r.number → (r.verdict ≡ 3) × (r.length ≡ 0)
  pub unread : 1 ≤ r.number → r.number ≤ 9 → (out ≡ out₀) × (work ≡ work₀)
  pub stopped : 10 ≤ r.number → (out ≡ cleared out₀) × (work ≡ cleared work₀)
  pub filled : r.number ≡ 0 → (drop r.length out ≡ zeros (result_bytes - r.length) ++ drop result_bytes out₀) × (work ≡ cleared work₀)
  pub past : (drop result_bytes out ≡ drop result_bytes out₀) × (drop result_bytes work ≡ drop result_bytes work₀)

-- vb_test: 0, 2 to 9, 13, 14; the place lies in the sheet, and that of 13 is a quantifier; verdict 0 or 1, or 3 for a refusal. It has no buffer.
pub record TestAnswers (sheet : List ℕ) (t : Tested) : Type 0 where
  pub number : (t.number ≡ 0) ⊎ (((2 ≤ t.number) × (t.number ≤ 9)) ⊎ ((t.number ≡ 13) ⊎ (t.number ≡ 14)))
  pub place : t.place ≤ length sheet
  pub quantifier : t.number ≡ 13 → AtQuantifier result_levels sheet t.place
  pub verdict : (t.number ≡ 0 → t.verdict ≤ 1) × (1 ≤ t.number → t.verdict ≡ 3)

-- vb_read: 0 and 0, or 2 to 9 and a place in the sheet
pub record ReadAnswers (sheet : List ℕ) (a : Place) : Type 0 where
  pub number : ((a.number ≡ 0) × (a.place ≡ 0)) ⊎ ((2 ≤ a.number) × (a.number ≤ 9))
  pub place : a.place ≤ length sheet

-- vb_look: the part lies in the sheet
pub record LookAnswers (sheet : List ℕ) (p : Part) : Type 0 where
  pub within : p.at + p.length ≤ length sheet

module _ (sheet : List ℕ) (ok : Bytes sheet) where
  pub eliminate-answers : (out₀ work₀ out work : List ℕ) (r : Reply) → Eliminates sheet out₀ work₀ r out work → EliminateAnswers sheet out₀ work₀ r out work
  eliminate-answers out₀ work₀ out work r e = subst (λ (o : Result). EliminateAnswers sheet out₀ work₀ (reply o) o.result o.work) (sym e) (record {
    number = Answering.eliminate-number sheet out₀ work₀ ok;
    place = Answering.eliminate-place sheet out₀ work₀ ok;
    quantifier = Answering.eliminate-quantifier sheet out₀ work₀ ok;
    done = Answering.eliminate-done sheet out₀ work₀ ok;
    refused = Answering.eliminate-refused sheet out₀ work₀ ok;
    unread = Answering.eliminate-unread sheet out₀ work₀ ok;
    stopped = Answering.eliminate-stopped sheet out₀ work₀ ok;
    filled = Answering.eliminate-filled sheet out₀ work₀ ok;
    past = Answering.eliminate-past sheet out₀ work₀ ok;
  })

  pub test-answers : (w : List ℤ) (t : Tested) → TestsAt sheet w t → TestAnswers sheet t
  test-answers w t e = subst (λ (o : Trial). TestAnswers sheet (test_reply o)) (sym e) (record {
    number = Answering.test-number sheet w ok;
    place = Answering.test-place sheet w ok;
    quantifier = Answering.test-quantifier sheet w ok;
    verdict = Answering.test-verdict sheet w ok;
  })

  pub read-answers : (a : Place) → ReadsAs sheet a → ReadAnswers sheet a
  read-answers a e = subst (λ (o : Answer). ReadAnswers sheet (place_reply o)) (sym e) (record { number = Refusals.answer-numbered result_bytes result_levels sheet; place = Whole.place-within result_bytes result_levels sheet })

  pub look-answers : (p : Part) → LooksAt sheet p → LookAnswers sheet p
  look-answers p e = subst (λ (o : Reading.Part). LookAnswers sheet (part_reply o)) (sym e) (record { within = Looking.look-within sheet ok })

-- vb_count: its reply and its buffers are vb_eliminate's, so all that is said of that call is said of this one; and no step that counts has more than 64 terms
pub count-reply : (sheet out₀ work₀ out work : List ℕ) (r : Counted) → CountsAlong sheet out₀ work₀ r out work → Eliminates sheet out₀ work₀ (shortened r) out work
count-reply sheet out₀ work₀ out work r e = e.0

pub count_low : (sheet out₀ work₀ out work : List ℕ) (r : Counted) → CountsAlong sheet out₀ work₀ r out work → r.terms ≤ 64
count_low sheet out₀ work₀ out work r e = subst (λ (c : Counts). c.most ≤ 64) (sym e.1) (Counting.counted-low sheet out₀ work₀)

-- vb_eliminate_in: in a room of at least 524,288 bytes its promise is that of vb_eliminate, so whatever the room holds all that is said of that call, here
-- and below, is said of this one
pub in-room : (sheet out₀ work₀ room₀ out work room : List ℕ) (r : Reply) → room_bytes ≤ length room₀ → EliminatesIn sheet out₀ work₀ room₀ r out work room → Eliminates sheet out₀ work₀ r out work
in-room sheet out₀ work₀ room₀ out work room r h e = e.0 ∙ Answering.in-room (length room₀) sheet out₀ work₀ h

-- a shorter one is a short buffer: 1, and neither buffer changes
pub record ShortRoom (out₀ work₀ : List ℕ) (r : Reply) (out work : List ℕ) : Type 0 where
  pub number : r.number ≡ 1
  pub verdict : r.verdict ≡ 3
  pub place : r.place ≡ 0
  pub length : r.length ≡ 0
  pub buffers : (out ≡ out₀) × (work ≡ work₀)

pub short-room : (sheet out₀ work₀ room₀ out work room : List ℕ) (r : Reply) → length room₀ < room_bytes → EliminatesIn sheet out₀ work₀ room₀ r out work room → ShortRoom out₀ work₀ r out work
short-room sheet out₀ work₀ room₀ out work room r h e =
    let k = e.0 ∙ Answering.room_small (length room₀) sheet out₀ work₀ h in
    record {
      number = ap (λ (o : Result). o.number) k;
      verdict = ap (λ (o : Result). o.verdict) k;
      place = ap (λ (o : Result). o.place) k;
      length = ap (λ (o : Result). o.length) k;
      buffers = (ap (λ (o : Result). o.result) k, ap (λ (o : Result). o.work) k);
    }

-- past its first 524,288 bytes no byte of the room ever changes
pub room-past : (sheet out₀ work₀ room₀ out work room : List ℕ) (r : Reply) → EliminatesIn sheet out₀ work₀ room₀ r out work room → drop room_bytes room ≡ drop room_bytes room₀
room-past sheet out₀ work₀ room₀ out work room r e = e.1

-- ==== Demand 2: each promise is an equation with 01's definition, so any two replies that it allows are equal, and so are the buffers

one-result : (o : Result) (r s : Reply) (a b c d : List ℕ) → gave r a b ≡ o → gave s c d ≡ o → (r ≡ s) × (a ≡ c) × (b ≡ d)
one-result o r s a b c d g h = let e = g ∙ sym h in (ap reply e, ap (λ (o : Result). o.result) e, ap (λ (o : Result). o.work) e)

pub one-elimination : (sheet out₀ work₀ : List ℕ) (r s : Reply) (a b c d : List ℕ) → Eliminates sheet out₀ work₀ r a b → Eliminates sheet out₀ work₀ s c d → (r ≡ s) × (a ≡ c) × (b ≡ d)
one-elimination sheet out₀ work₀ = one-result (eliminate sheet out₀ work₀)

-- in the caller's room too, whatever it holds: two rooms of one length
pub one-elimination-in : (sheet out₀ work₀ room₀ room₁ : List ℕ) (r s : Reply) (a b c d x y : List ℕ) → length room₁ ≡ length room₀ → EliminatesIn sheet out₀ work₀ room₀ r a b x → EliminatesIn sheet out₀ work₀ room₁ s c d y
    → (r ≡ s) × (a ≡ c) × (b ≡ d)
one-elimination-in sheet out₀ work₀ room₀ room₁ r s a b c d x y l g h =
    one-result (eliminate_in (length room₀) sheet out₀ work₀) r s a b c d g.0 (h.0 ∙ ap (λ (n : ℕ). eliminate_in n sheet out₀ work₀) l)

-- and with or without it, where it is long enough
pub same-elimination : (sheet out₀ work₀ room₀ : List ℕ) (r s : Reply) (a b c d room : List ℕ) → room_bytes ≤ length room₀ → Eliminates sheet out₀ work₀ r a b → EliminatesIn sheet out₀ work₀ room₀ s c d room
    → (r ≡ s) × (a ≡ c) × (b ≡ d)
same-elimination sheet out₀ work₀ room₀ r s a b c d room l g h = one-elimination sheet out₀ work₀ r s a b c d g (in-room sheet out₀ work₀ room₀ c d room s l h)

-- with what is counted
pub one-count : (sheet out₀ work₀ : List ℕ) (r s : Counted) (a b c d : List ℕ) → CountsAlong sheet out₀ work₀ r a b → CountsAlong sheet out₀ work₀ s c d → (r ≡ s) × (a ≡ c) × (b ≡ d)
one-count sheet out₀ work₀ r s a b c d g h =
    let e = one-elimination sheet out₀ work₀ (shortened r) (shortened s) a b c d g.0 h.0 in
    (ap₂ counted_reply e.0 (g.1 ∙ sym h.1), e.1, e.2)

pub one-test : (sheet : List ℕ) (w : List ℤ) (s t : Tested) → TestsAt sheet w s → TestsAt sheet w t → s ≡ t
one-test sheet w s t g h = ap test_reply (g ∙ sym h)

pub one-reading : (sheet : List ℕ) (a b : Place) → ReadsAs sheet a → ReadsAs sheet b → a ≡ b
one-reading sheet a b g h = ap place_reply (g ∙ sym h)

pub one-look : (sheet : List ℕ) (p q : Part) → LooksAt sheet p → LooksAt sheet q → p ≡ q
one-look sheet p q g h = ap part_reply (g ∙ sym h)

-- ==== Sheets that were stored under the limits of before: 4,096 bytes and 16 levels for a sheet, 17 levels for a test, a reading and a look

abbrev bytes_before : ℕ
bytes_before = 4096

abbrev levels_before : ℕ
levels_before = 16

abbrev result_levels_before : ℕ
result_levels_before = 17

-- a sheet that was accepted gets the same number, verdict, place and length, and the same bytes in both buffers
pub stored-sheet : (sheet out₀ work₀ out work : List ℕ) (r : Reply) {k : ℕ} → reading bytes_before levels_before sheet ≡ Done k → Eliminates sheet out₀ work₀ r out work
    → gave r out work ≡ eliminate_within bytes_before levels_before sheet out₀ work₀
unfolding eliminate
stored-sheet sheet out₀ work₀ out work r was e = e ∙ sym (Limiting.stored-result bytes_before sheet_bytes levels_before sheet_levels (omega arith) (omega arith) sheet was out₀ work₀)

-- and of any sheet a desk with those limits says the same, or 2 at 0, or 8, and then its buffers are as they were
pub older-desk : (sheet out₀ work₀ out work : List ℕ) (r : Reply) → Eliminates sheet out₀ work₀ r out work → let o = eliminate_within bytes_before levels_before sheet out₀ work₀ in
    (o ≡ gave r out work) ⊎ ((o ≡ Eliminate.refused 2 0 out₀ work₀) ⊎ ((p : ℕ) × (o ≡ Eliminate.refused 8 p out₀ work₀)))
unfolding eliminate
older-desk sheet out₀ work₀ out work r e =
    subst (λ (q : Result). let o = eliminate_within bytes_before levels_before sheet out₀ work₀ in (o ≡ q) ⊎ ((o ≡ Eliminate.refused 2 0 out₀ work₀) ⊎ ((p : ℕ) × (o ≡ Eliminate.refused 8 p out₀ work₀)))) (sym e)
    (Limiting.older-result bytes_before sheet_bytes levels_before sheet_levels (omega arith) (omega arith) sheet out₀ work₀)

-- a test, a reading and a look that were accepted
module _ (sheet : List ℕ) {k : ℕ} (was : reading result_bytes result_levels_before sheet ≡ Done k) where
  pub stored-test : (w : List ℤ) (t : Tested) → TestsAt sheet w t → gave_test t ≡ tested_within result_bytes result_levels_before sheet w
  unfolding tested
  stored-test w t e = e ∙ sym (Limiting.stored-test result_bytes result_bytes result_levels_before result_levels (omega arith) (omega arith) sheet was w)

  pub stored-reading : (a : Place) → ReadsAs sheet a → gave_place a ≡ answer_of (reading result_bytes result_levels_before sheet)
  stored-reading a e = e ∙ sym (ap answer_of (OtherLimits.stored result_bytes result_bytes result_levels_before result_levels (omega arith) (omega arith) sheet was).0)

  pub stored-look : (p : Part) → LooksAt sheet p → gave_part p ≡ look_within result_bytes result_levels_before sheet
  unfolding look_part
  stored-look p e = e ∙ sym (Limiting.stored-look result_bytes result_bytes result_levels_before result_levels (omega arith) (omega arith) sheet was)

-- ==== Demand 3: what is delivered means what the sheet says, at any rational values

-- bytes are those of at most one formula within any limits
pub one-formula : (f g : Formula) (d e : ℕ) → Fits d f → Fits e g → encode f ≡ encode g → f ≡ g
one-formula = Trees.encode_one

-- and an accepted sheet's are those of one
pub a-formula : (sheet out₀ work₀ out work : List ℕ) (r : Reply) → Bytes sheet → Eliminates sheet out₀ work₀ r out work → r.number ≡ 0 → (f : Formula) × Fits sheet_levels f × (sheet ≡ encode f)
a-formula sheet out₀ work₀ out work r ok e z = Answering.eliminate-read sheet out₀ work₀ ok (sym (ap (λ (o : Result). o.number) e) ∙ z)

-- bytes of a condition within the limits of a result and without quantifiers, which holds at any values exactly where f does
pub record SameMeaning (f : Formula) (condition : List ℕ) : Type 0 where
  pub after : Formula
  pub bytes : condition ≡ encode after
  pub fits : Fits result_levels after
  pub free : Free after
  pub means : (ρ : Values) → Means after ρ ↔ Means f ρ

-- of that formula f of the sheet, where the answer is 0
module _ (f : Formula) (sheet out₀ work₀ out work : List ℕ) (r : Reply) (ok : Bytes sheet) (fits : Fits sheet_levels f) (is : sheet ≡ encode f) (gives : Eliminates sheet out₀ work₀ r out work) (z : r.number ≡ 0) where
  named : Truth.Named f
  named = Truth.fits-named sheet_levels f fits

  delivers : Answering.Delivers f sheet out₀ work₀
  delivers = Answering.eliminate-delivers f sheet out₀ work₀ ok fits is (sym (ap (λ (o : Result). o.number) gives) ∙ z)

  -- the delivered condition, the first bytes of the result buffer
  pub same-meaning : SameMeaning f (take r.length out)
  same-meaning =
      let d = delivers in
      record {
        after = result_of f;
        bytes = ap (λ (o : Result). take o.length o.result) (gives ∙ d.answer) ∙ Answering.delivered-bytes (result_of f) out₀ work₀;
        fits = d.fits;
        free = Meanings.result-free f;
        means = Meanings.result-means f named;
      }

  -- a sheet without free variables gets 1 exactly when it is true and 0 exactly when it is false
  pub closed-verdict : Closed f → (ρ : Values) → ((r.verdict ≡ 1) ↔ Means f ρ) × ((r.verdict ≡ 0) ↔ (¬ Means f ρ))
  closed-verdict shut ρ =
      subst (λ (v : ℕ). ((v ≡ 1) ↔ Means f ρ) × ((v ≡ 0) ↔ (¬ Means f ρ))) (sym (ap (λ (o : Result). o.verdict) (gives ∙ delivers.answer))) (Closing.closed-says f named shut ρ)

-- the test: an accepted sheet is the bytes of a formula too
pub a-tested-formula : (sheet : List ℕ) (w : List ℤ) (t : Tested) → Bytes sheet → TestsAt sheet w t → t.number ≡ 0 → (f : Formula) × Fits result_levels f × (sheet ≡ encode f)
a-tested-formula sheet w t ok e z = Answering.test_read sheet w ok (sym (ap (λ (o : Trial). o.number) e) ∙ z)

-- it has no quantifier, the denominator is above 0, and the verdict is 1 exactly where the formula holds at these fractions, 0 exactly where not
pub record TestMeaning (f : Formula) (w : List ℤ) (verdict : ℕ) : Type 0 where
  pub free : Free f
  pub above : pos 0 <ℤ at w 8
  pub true-is : (verdict ≡ 1) ↔ Means f (fractions w above)
  pub false-is : (verdict ≡ 0) ↔ (¬ Means f (fractions w above))

pub test-meaning : (f : Formula) (sheet : List ℕ) (w : List ℤ) (t : Tested) → Bytes sheet → Fits result_levels f → sheet ≡ encode f → TestsAt sheet w t → t.number ≡ 0 → TestMeaning f w t.verdict
test-meaning f sheet w t ok fits is e z =
    let d = Answering.test-done f sheet w ok fits is (sym (ap (λ (o : Trial). o.number) e) ∙ z) in
    let v = Meanings.verdict-says (Means f (fractions w d.bottom-above)) (true_at w f) t.verdict (ap (λ (o : Trial). o.verdict) e ∙ d.verdict-is) (Meanings.test-means f (Truth.fits-named result_levels f fits) d.free w d.bottom-above) in
    record { free = d.free; above = d.bottom-above; true-is = v.0; false-is = v.1 }

-- equal fractions give the same truth
pub equal-fractions : (f : Formula) (d : ℕ) → Fits d f → (ρ σ : Values) → Equal ρ σ → Means f ρ ↔ Means f σ
equal-fractions f d fits = Meanings.equal-fractions f (Truth.fits-named d f fits)

-- a sum compares with 0 as its top does, because its bottom is above 0
pub sum-above : (ns : List ℤ) (ρ : Values) → pos 0 <ℤ (sum_of 8 ns ρ).bottom
sum-above ns ρ = Valuing.sum-above ns ρ 8
