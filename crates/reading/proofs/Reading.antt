-- 01, 'Answers and their order': nothing past the end of the bytes is read, and no place lies there; then what one formula after the other
-- comes to, as the loop of `formula_at` reads them. Assumes nothing.
use mathlib.Core.Path.{◌≡◌, refl, sym, ◌∙◌, ap}
use mathlib.Core.List.{List}
use Prim.Native.Nat.{ℕ, zero, suc, ◌+◌, ◌-◌, ◌≤◌, ◌<◌}
use native.Mathlib.Nat.{add_assoc, add-zero}
use native.Mathlib.Numerals.{sub-one}
use native.Mathlib.Omega.{arith}
use lib.ListN.{length, take, drop, length-drop}
use lib.Seq.{drop-drop, take_all}
use Rattle.reading.specs.AnswerNumbers.{deep_nesting}
use Rattle.reading.specs.Formula.{Formula, Formulas, Label, size, follow}
use Rattle.reading.specs.Records.{Record, head, bad, opened}
use Rattle.reading.specs.Reading.{Read, joined, then, formulas_in, headed, too_deep, by_record, formula_in, good, fault}
use Rattle.reading.specs.Answers.{head_of, reply_of}
use Rattle.reading.specs.Answers.{Bad, Open}
use Rattle.reading.specs.Answers.{Reply}
use Rattle.reading.specs.Answers.{Done, Refused}
use Rattle.reading.proofs.Cases.{head_in}

-- ---- one record is as long as it says

abbrev Held : ℕ → Record → Type 0
Held n (bad e) = Unit {0}
Held n (opened l) = size l ≤ n

head-held : (s : List ℕ) → Held (length s) (head s)
head-held s = head_in (Held (length s)) s (λ e. tt) (λ c l k h m. h) (λ l k h. h) (λ b l k h. h) (λ b l k h v. h) (λ l k h v m. h)

-- ---- nothing past the end is read, and no place lies there

abbrev pub Inside : ℕ → Reply → Type 0
Inside n (Done k) = k ≤ n
Inside n (Refused e p) = p ≤ n

abbrev pub shift : ℕ → Reply → Reply
shift a (Done k) = Done (a + k)
shift a (Refused e p) = Refused e (a + p)

-- moving twice is moving by the sum
pub shift-shift : (a b : ℕ) (r : Reply) → shift a (shift b r) ≡ shift (a + b) r
shift-shift a b (Done k) = ap Done (sym (add_assoc a b k))
shift-shift a b (Refused e p) = ap (Refused e) (sym (add_assoc a b p))

shift-within : (a n : ℕ) (r : Reply) → a ≤ n → Inside (n - a) r → Inside n (shift a r)
shift-within a n (Done k) h w = omega arith
shift-within a n (Refused e p) h w = omega arith

pub reply-joined : (f : Formula) (k : ℕ) (o : Read Formulas) → reply_of (joined f k o) ≡ shift k (reply_of o)
reply-joined f k (good fs j) = refl
reply-joined f k (fault e p) = refl

pub reply-headed : (l : Label) (o : Read Formulas) → reply_of (headed l o) ≡ shift (size l) (reply_of o)
reply-headed l (good fs j) = refl
reply-headed l (fault e p) = refl

module _ (rd : List ℕ → Read Formula) (ok : (s : List ℕ) → Inside (length s) (reply_of (rd s))) where
  formulas-within : (n : ℕ) (s : List ℕ) → Inside (length s) (reply_of (formulas_in rd n s))
  unfolding formulas_in
  formulas-within zero s = omega arith
  formulas-within (suc n) s = go (rd s) (ok s) (λ k. formulas-within n (drop k s))
    where
      go : (o : Read Formula) → Inside (length s) (reply_of o) → ((k : ℕ) → Inside (length (drop k s)) (reply_of (formulas_in rd n (drop k s)))) → Inside (length s) (reply_of (then o (λ k. formulas_in rd n (drop k s))))
      go (good f k) h rest = rw (reply-joined f k (formulas_in rd n (drop k s))) (shift-within k (length s) (reply_of (formulas_in rd n (drop k s))) h (rw (length-drop k s) at (rest k)))
      go (fault e p) h rest = h

-- reading a formula stays in the bytes
pub formula-within : (d : ℕ) (s : List ℕ) → Inside (length s) (reply_of (formula_in d s))
unfolding formula_in
formula-within zero s = go (head s)
  where
    go : (r : Record) → Inside (length s) (reply_of (too_deep r))
    go (bad e) = omega arith
    go (opened l) = omega arith
formula-within (suc d) s = go (formula_in d) (formula-within d) (head s) (head-held s)
  where
    go : (rd : List ℕ → Read Formula) → ((t : List ℕ) → Inside (length t) (reply_of (rd t))) → (r : Record) → Held (length s) r → Inside (length s) (reply_of (by_record rd s r))
    go rd ok (bad e) h = omega arith
    go rd ok (opened l) h = rw (reply-headed l (formulas_in rd (follow l) (drop (size l) s))) (shift-within (size l) (length s) (reply_of (formulas_in rd (follow l) (drop (size l) s))) h (rw (length-drop (size l) s) at (formulas-within rd ok (follow l) (drop (size l) s))))

-- ---- what `formula_at` finds, by what a record says

-- a record that is refused, one that is too deep, and one that is followed by formulas
pub formula-bad : (d : ℕ) (s : List ℕ) (e : ℕ) → head_of (head s) ≡ Bad e → reply_of (formula_in d s) ≡ Refused e 0
unfolding formula_in
formula-bad zero s e h = go (head s) h
  where
    go : (r : Record) → head_of r ≡ Bad e → reply_of (too_deep r) ≡ Refused e 0
    go (bad y) h = cc
    go (opened l) h = cc
formula-bad (suc d) s e h = go (head s) h
  where
    go : (r : Record) → head_of r ≡ Bad e → reply_of (by_record (formula_in d) s r) ≡ Refused e 0
    go (bad y) h = cc
    go (opened l) h = cc

pub formula-deep : (s : List ℕ) (x a b : ℕ) → head_of (head s) ≡ Open x a b → reply_of (formula_in 0 s) ≡ Refused deep_nesting 0
unfolding formula_in
formula-deep s x a b h = go (head s) h
  where
    go : (r : Record) → head_of r ≡ Open x a b → reply_of (too_deep r) ≡ Refused deep_nesting 0
    go (bad y) h = cc
    go (opened l) h = refl

pub formula-open : (d : ℕ) (s : List ℕ) (x a b : ℕ) → (d ≡ 0 → ⊥) → head_of (head s) ≡ Open x a b → reply_of (formula_in d s) ≡ shift a (reply_of (formulas_in (formula_in (d - 1)) b (drop a s)))
unfolding formula_in
formula-open zero s x a b nz h = absurd (nz refl)
formula-open (suc d) s x a b nz h = rw (sub-one (suc d)) (go (head s) h)
  where
    go : (r : Record) → head_of r ≡ Open x a b → reply_of (by_record (formula_in d) s r) ≡ shift a (reply_of (formulas_in (formula_in d) b (drop a s)))
    go (bad e) h = cc
    go (opened l) h =
        let ea : size l ≡ a = cc in
        let eb : follow l ≡ b = cc in
        rw (← ea, ← eb) (reply-headed l (formulas_in (formula_in d) (follow l) (drop (size l) s)))

-- a record that is read lies in the bytes
pub open-within : (s : List ℕ) (x a b : ℕ) → head_of (head s) ≡ Open x a b → a ≤ length s
open-within s x a b h = go (head s) (head-held s) h
  where
    go : (r : Record) → Held (length s) r → head_of r ≡ Open x a b → a ≤ length s
    go (bad e) k h = let z : ◌≡◌ {A = ℕ} 0 1 = cc in omega arith
    go (opened l) k h = let e : size l ≡ a = cc in omega arith

-- ---- one formula after the other

module _ (rd : List ℕ → Read Formula) where
  pub formulas-done : (n : ℕ) (t : List ℕ) (k : ℕ) → reply_of (rd t) ≡ Done k → reply_of (formulas_in rd (suc n) t) ≡ shift k (reply_of (formulas_in rd n (drop k t)))
  unfolding formulas_in
  formulas-done n t k h = go (rd t) h
    where
      go : (o : Read Formula) → reply_of o ≡ Done k → reply_of (then o (λ j. formulas_in rd n (drop j t))) ≡ shift k (reply_of (formulas_in rd n (drop k t)))
      go (good f j) h = let e : j ≡ k = cc in rw e (reply-joined f k (formulas_in rd n (drop k t)))
      go (fault e p) h = cc

  pub formulas-refused : (n : ℕ) (t : List ℕ) (e p : ℕ) → reply_of (rd t) ≡ Refused e p → reply_of (formulas_in rd (suc n) t) ≡ Refused e p
  unfolding formulas_in
  formulas-refused n t e p h = go (rd t) h
    where
      go : (o : Read Formula) → reply_of o ≡ Refused e p → reply_of (then o (λ j. formulas_in rd n (drop j t))) ≡ Refused e p
      go (good f j) h = cc
      go (fault e' p') h = cc

-- what a part that starts at a and goes to the end holds
pub part-drop : (a : ℕ) (s : List ℕ) → take (length s - a) (drop a s) ≡ drop a s
part-drop a s = take_all (length s - a) (drop a s) (simp length-drop (omega arith))

-- a formula's bytes, and the place of a refusal, lie in the bytes that are read
pub done-within : (d : ℕ) (s : List ℕ) {k : ℕ} → reply_of (formula_in d s) ≡ Done k → k ≤ length s
done-within d s e = rw e at (formula-within d s)

pub refused-within : (d : ℕ) (s : List ℕ) {e p : ℕ} → reply_of (formula_in d s) ≡ Refused e p → p ≤ length s
refused-within d s h = rw h at (formula-within d s)

-- a turn of the loop: one formula is read, and the others are left
pub turn-done : (d : ℕ) (s : List ℕ) (at n i k : ℕ) (r : Reply) → i < n → r ≡ shift at (reply_of (formulas_in (formula_in d) (n - i) (drop at s))) → reply_of (formula_in d (drop at s)) ≡ Done k
    → r ≡ shift (at + k) (reply_of (formulas_in (formula_in d) (n - (i + 1)) (drop (at + k) s)))
turn-done d s at n i k r lt e h =
    let f : n - i ≡ suc (n - (i + 1)) = omega arith in
    e ∙ rw (f, formulas-done (formula_in d) (n - (i + 1)) (drop at s) k h, shift-shift, drop-drop)

pub turn-refused : (d : ℕ) (s : List ℕ) (at n i e p : ℕ) (r : Reply) → i < n → r ≡ shift at (reply_of (formulas_in (formula_in d) (n - i) (drop at s))) → reply_of (formula_in d (drop at s)) ≡ Refused e p
    → r ≡ Refused e (at + p)
turn-refused d s at n i e p r lt x h =
    let f : n - i ≡ suc (n - (i + 1)) = omega arith in
    x ∙ rw (f, formulas-refused (formula_in d) (n - (i + 1)) (drop at s) e p h)

pub turn_last : (d : ℕ) (s : List ℕ) (at n i : ℕ) (r : Reply) → n ≤ i → r ≡ shift at (reply_of (formulas_in (formula_in d) (n - i) (drop at s))) → r ≡ Done at
unfolding formulas_in
turn_last d s at n i r le x =
    let f : n - i ≡ 0 = omega arith in
    x ∙ rw f (ap Done (add-zero at))
