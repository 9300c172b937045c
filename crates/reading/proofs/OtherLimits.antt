-- 01, 'Numbers that bound the work': reading under smaller limits. Of any bytes it says the same as under the larger ones, or 2 at 0, or 8. Assumes nothing.
use mathlib.Core.Path.{◌≡◌, refl, sym, ◌∙◌, ap, subst}
use mathlib.Core.Bool.{Bool, true, false, cond}
use mathlib.Core.List.{List}
use mathlib.Core.Logic.{◌⊎◌, inl, inr}
use Prim.Native.Nat.{ℕ, zero, suc, ◌+◌, ◌≤◌}
use native.Mathlib.Omega.{arith}
use lib.Dec.{ltb}
use lib.ListN.{length, drop}
use borrow.Author.Tests.{ltb-false, le-ltb}
use Rattle.reading.specs.AnswerNumbers.{long_sheet, deep_nesting}
use Rattle.reading.specs.Formula.{Formula, Formulas, Label, size}
use Rattle.reading.specs.Records.{Record, bad, opened, head}
use Rattle.reading.specs.Reading.{Read, good, fault, joined, then, formulas_in, headed, too_deep, by_record, formula_in}
use Rattle.reading.specs.Answers.{whole_of, reading}
use Rattle.reading.specs.Answers.{Done, Refused}

-- ---- a formula, to fewer levels

-- the same, or 8 somewhere
abbrev SameOrDeep : {A : Type 0} → Read A → Read A → Type 0
SameOrDeep r q = (r ≡ q) ⊎ ((p : ℕ) × (r ≡ fault deep_nesting p))

joined-deep : (f : Formula) (k : ℕ) (r q : Read Formulas) → SameOrDeep r q → SameOrDeep (joined f k r) (joined f k q)
joined-deep f k r q (inl e) = inl (ap (joined f k) e)
joined-deep f k r q (inr x) = inr (k + x.0, ap (joined f k) x.1)

headed-deep : (l : Label) (r q : Read Formulas) → SameOrDeep r q → SameOrDeep (headed l r) (headed l q)
headed-deep l r q (inl e) = inl (ap (headed l) e)
headed-deep l r q (inr x) = inr (size l + x.0, ap (headed l) x.1)

then-deep : (r q : Read Formula) (on ahead : ℕ → Read Formulas) → SameOrDeep r q → ((k : ℕ) → SameOrDeep (on k) (ahead k)) → SameOrDeep (then r on) (then q ahead)
then-deep r q on ahead (inl e) h = subst (λ (y : Read Formula). SameOrDeep (then y on) (then q ahead)) (sym e) (same q)
  where
    same : (y : Read Formula) → SameOrDeep (then y on) (then y ahead)
    same (good f k) = joined-deep f k (on k) (ahead k) (h k)
    same (fault n p) = inl refl
then-deep r q on ahead (inr x) h = inr (x.0, ap (λ (y : Read Formula). then y on) x.1)

module _ (rd far : List ℕ → Read Formula) (h : (s : List ℕ) → SameOrDeep (rd s) (far s)) where
  formulas-deep : (n : ℕ) (s : List ℕ) → SameOrDeep (formulas_in rd n s) (formulas_in far n s)
  unfolding formulas_in
  formulas-deep zero s = inl refl
  formulas-deep (suc n) s = then-deep (rd s) (far s) (λ k. formulas_in rd n (drop k s)) (λ k. formulas_in far n (drop k s)) (h s) (λ k. formulas-deep n (drop k s))

  record-deep : (s : List ℕ) (r : Record) → SameOrDeep (by_record rd s r) (by_record far s r)
  record-deep s (bad n) = inl refl
  record-deep s (opened l) = headed-deep l _ _ (formulas-deep _ _)

levels-deep : (d e : ℕ) → d ≤ e → (s : List ℕ) → SameOrDeep (formula_in d s) (formula_in e s)
unfolding formula_in
levels-deep zero zero h s = inl refl
levels-deep zero (suc e) h s = go (head s)
  where
    go : (r : Record) → SameOrDeep (too_deep r) (by_record (formula_in e) s r)
    go (bad n) = inl refl
    go (opened l) = inr (0, refl)
levels-deep (suc d) zero h s = absurd (omega arith)
levels-deep (suc d) (suc e) h s = record-deep (formula_in d) (formula_in e) (levels-deep d e (omega arith)) s (head s)

-- ---- a whole sheet, under at most b bytes and d levels, and under c and e

-- the reply and the formula are the same; or it is 2 at 0; or 8
abbrev pub Older : ℕ → ℕ → ℕ → ℕ → List ℕ → Type 0
Older b c d e s = ((reading b d s ≡ reading c e s) × (formula_in d s ≡ formula_in e s)) ⊎ ((reading b d s ≡ Refused long_sheet 0) ⊎ ((p : ℕ) × (reading b d s ≡ Refused deep_nesting p)))

pub older : (b c d e : ℕ) → b ≤ c → d ≤ e → (s : List ℕ) → Older b c d e s
unfolding reading
older b c d e h k s = start (ltb b (length s)) refl
  where
    read : ltb b (length s) ≡ false → SameOrDeep (formula_in d s) (formula_in e s) → Older b c d e s
    read z (inl q) = inl (
      ap (λ (y : Bool). cond y (Refused long_sheet 0) (whole_of (length s) (formula_in d s))) (z ∙ sym (le-ltb c (length s) (omega (arith, ltb-false b (length s) z))))
          ∙ ap (λ (y : Read Formula). cond (ltb c (length s)) (Refused long_sheet 0) (whole_of (length s) y)) q,
      q,
    )
    read z (inr x) = inr (inr (x.0, ap (λ (y : Bool). cond y (Refused long_sheet 0) (whole_of (length s) (formula_in d s))) z ∙ ap (whole_of (length s)) x.1))

    start : (y : Bool) → ltb b (length s) ≡ y → Older b c d e s
    start true z = inr (inl (ap (λ (y : Bool). cond y (Refused long_sheet 0) (whole_of (length s) (formula_in d s))) z))
    start false z = read z (levels-deep d e k s)

-- what the smaller limits accept the larger ones accept too, and the formula is the same
pub stored : (b c d e : ℕ) → b ≤ c → d ≤ e → (s : List ℕ) {k : ℕ} → reading b d s ≡ Done k → (reading b d s ≡ reading c e s) × (formula_in d s ≡ formula_in e s)
stored b c d e h l s {k} z = go (older b c d e h l s)
  where
    go : Older b c d e s → (reading b d s ≡ reading c e s) × (formula_in d s ≡ formula_in e s)
    go (inl x) = x
    go (inr (inl y)) = let n : ◌≡◌ {A = ℕ} 0 1 = cc in absurd (omega arith)
    go (inr (inr x)) = let y = x.1 in let n : ◌≡◌ {A = ℕ} 0 1 = cc in absurd (omega arith)
