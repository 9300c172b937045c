-- #102: what is counted of a run, one step at a time; and that no more steps are finished than a formula has bytes. Assumes nothing.
use Prim.Native.Nat.{ℕ, zero, suc, ◌≤◌}
use mathlib.Core.Path.{◌≡◌, refl, sym, ◌∙◌, ap}
use mathlib.Core.Bool.{Bool, true, false, ◌||◌, cond}
use mathlib.Core.List.{List}
use native.Mathlib.Omega.{arith}
use lib.Dec.{ltb}
use lib.ListN.{length}
use borrow.Author.Tests.{ltb-false}
use Rattle.reading.specs.Limits.{most_terms, sheet_bytes, sheet_levels, result_bytes}
use Rattle.reading.specs.AnswerNumbers.{many_terms, big_number, long_result, done}
use Rattle.reading.specs.Formula.{Formula, Formulas, atom, not, list, quant, window, none, more, encode, encodes}
use Rattle.reading.specs.Reading.{Read, good, fault, formula_in}
use Rattle.reading.specs.Answers.{reading}
use Rattle.reading.specs.Answers.{Reply}
use Rattle.reading.specs.Answers.{Done, Refused}
use Rattle.reading.specs.Quantifiers.{Quantifier, nothing, at, last_in}
use Rattle.reading.proofs.Lengths.{not-long, list-long, quant-long, more-long}
use Rattle.reading.proofs.Places.{nothing-free}
use Rattle.rules.specs.Pushing.{push}
use Rattle.rules.specs.Points.{terms, points}
use Rattle.rules.specs.Steps.{quantifiers, all_quantifiers, step, numbers_fit, refusal}
use Rattle.rules.specs.Counts.{Counts, uncounted, larger, counted_by, counted_at, counts, counts_of, counts_by, counted, terms_at}
use Rattle.rules.proofs.Stepwise.Around.{free-zero}
use Rattle.rules.proofs.Stepwise.OneStep.{step_fewer}

-- ---- one step at a time

-- the step at a quantifier, by its refusal
abbrev stepped : ℕ → ℕ → Counts → Counts
stepped zero t c = record { finished = suc c.finished; most = larger t c.most }
stepped (suc e) t c = record { finished = 0; most = t }

-- 10 counts for nothing: its terms are more than 64
by-terms : (p : ℕ) (b : Bool) (v : ℕ) (g h : Formula) (c : Counts) → counted_by (refusal v g h) (length (terms v g)) c ≡ stepped (refusal v g h) (terms_at (at p b v g)) c
unfolding refusal
by-terms p b v g h c = go (ltb most_terms (length (terms v g))) (numbers_fit (points v (terms v g)) (push false g)) (ltb result_bytes (length (encode h)))
  where
    go : (x y z : Bool) → counted_by (cond x many_terms (cond y (cond z long_result done) big_number)) (length (terms v g)) c ≡ stepped (cond x many_terms (cond y (cond z long_result done) big_number)) (cond x 0 (length (terms v g))) c
    go true y z = refl
    go false true true = refl
    go false true false = refl
    go false false z = refl

module _ (f : Formula) (p : ℕ) (b : Bool) (v : ℕ) (g : Formula) (last : last_in f ≡ at p b v g) where
  here : terms_at (at p b v g) ≡ terms_at (last_in f)
  here = ap terms_at (sym last)

  one : counts_of f ≡ stepped (refusal v g (step f)) (terms_at (at p b v g)) (counts_of (step f))
  unfolding counts_of counts
  one =
      ap (λ (n : ℕ). counts n f) (step_fewer f p b v g last)
      ∙ ap (λ (q : Quantifier). counted_at q (step f) (counts (quantifiers (step f)) (step f))) last
      ∙ by-terms p b v g (step f) (counts (quantifiers (step f)) (step f))

  -- a step that is not refused, and one that is
  pub counts-on : refusal v g (step f) ≡ 0 → counts_of f ≡ record { finished = suc (counts_of (step f)).finished; most = larger (terms_at (last_in f)) (counts_of (step f)).most }
  counts-on r = one ∙ ap (λ (n : ℕ). stepped n (terms_at (at p b v g)) (counts_of (step f))) r ∙ ap (λ (t : ℕ). stepped 0 t (counts_of (step f))) here

  pub counts-stop : (n : ℕ) → refusal v g (step f) ≡ suc n → counts_of f ≡ record { finished = 0; most = terms_at (last_in f) }
  counts-stop n r = one ∙ ap (λ (n : ℕ). stepped n (terms_at (at p b v g)) (counts_of (step f))) r ∙ ap (λ (t : ℕ). stepped (suc n) t (counts_of (step f))) here

  -- whether it is or not, its terms are among those that count
  pub terms-most : terms_at (last_in f) ≤ (counts_of f).most
  terms-most = go (refusal v g (step f)) refl
    where
      go : (n : ℕ) → refusal v g (step f) ≡ n → terms_at (last_in f) ≤ (counts_of f).most
      go zero r = omega (arith, ap (λ (c : Counts). c.most) (counts-on r))
      go (suc n) r = omega (arith, ap (λ (c : Counts). c.most) (counts-stop n r))

-- no quantifier is left
pub counts-none : (f : Formula) → last_in f ≡ nothing → counts_of f ≡ uncounted
unfolding counts_of counts
counts-none f e = ap (λ (n : ℕ). counts n f) (free-zero f ((nothing-free true f).0 e))

-- ---- how many steps there can be

counted-few : (q : Quantifier) (g : Formula) (c : Counts) (n : ℕ) → c.finished ≤ n → (counted_at q g c).finished ≤ suc n
counted-few nothing g c n h = omega arith
counted-few (at p b x f) g c n h = go (refusal x f g)
  where
    go : (e : ℕ) → (counted_by e (length (terms x f)) c).finished ≤ suc n
    go zero = omega arith
    go (suc e) = omega arith

counts-few : (n : ℕ) (f : Formula) → (counts n f).finished ≤ n
unfolding counts
counts-few zero f = omega arith
counts-few (suc n) f = counted-few (last_in f) (step f) (counts n (step f)) n (counts-few n (step f))

mutual
  unfolding quantifiers

  quantifiers-few : (f : Formula) → quantifiers f ≤ length (encode f)
  quantifiers-few (atom c ns) = omega arith
  quantifiers-few (not f) = omega (arith, not-long f, quantifiers-few f)
  quantifiers-few (list b fs) = omega (arith, list-long b fs, all-few fs)
  quantifiers-few (quant b v f) = omega (arith, quant-long b v f, quantifiers-few f)
  quantifiers-few (window v lo hi) = omega arith

  all-few : (fs : Formulas) → all_quantifiers fs ≤ length (encodes fs)
  all-few none = omega arith
  all-few (more f fs) = omega (arith, more-long f fs, quantifiers-few f, all-few fs)

pub steps-few : (f : Formula) → (counts_of f).finished ≤ length (encode f)
unfolding counts_of
steps-few f = omega (arith, counts-few (quantifiers f) f, quantifiers-few f)

-- ---- no step that counts has more than 64 boundary terms

terms-low : (q : Quantifier) → terms_at q ≤ most_terms
terms-low nothing = omega arith
terms-low (at p b x f) = go (ltb most_terms (length (terms x f))) refl
  where
    go : (y : Bool) → ltb most_terms (length (terms x f)) ≡ y → cond y 0 (length (terms x f)) ≤ most_terms
    go true e = omega arith
    go false e = ltb-false most_terms (length (terms x f)) e

most-low : (n : ℕ) (f : Formula) → (counts n f).most ≤ most_terms
unfolding counts
most-low zero f = omega arith
most-low (suc n) f = go (last_in f) (most-low n (step f))
  where
    by : (p : ℕ) (b : Bool) (x : ℕ) (g : Formula) (c : Counts) → c.most ≤ most_terms → (e : ℕ) → (stepped e (terms_at (at p b x g)) c).most ≤ most_terms
    by p b x g c h zero = omega (arith, terms-low (at p b x g))
    by p b x g c h (suc e) = terms-low (at p b x g)

    go : (q : Quantifier) → (counts n (step f)).most ≤ most_terms → (counted_at q (step f) (counts n (step f))).most ≤ most_terms
    go nothing h = h
    go (at p b x g) h = omega (arith, ap (λ (c : Counts). c.most) (by-terms p b x g (step f) (counts n (step f))), by p b x g (counts n (step f)) h (refusal x g (step f)))

pub counted-low : (sheet out work : List ℕ) → (counted sheet out work).most ≤ most_terms
unfolding counted counts_of
counted-low sheet out work = go (ltb (length out) result_bytes || ltb (length work) result_bytes) (reading sheet_bytes sheet_levels sheet) (formula_in sheet_levels sheet)
  where
    go : (y : Bool) (r : Reply) (q : Read Formula) → (cond y uncounted (counts_by r q)).most ≤ most_terms
    go true r q = omega arith
    go false (Refused e p) q = omega arith
    go false (Done k) (good f j) = most-low (quantifiers f) f
    go false (Done k) (fault e p) = omega arith
