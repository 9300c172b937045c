-- #102: what is counted while an elimination is carried from one formula on its way to the next. Assumes nothing.
use Prim.Native.Nat.{ℕ, ◌+◌, ◌≤◌, ◌<◌}
use mathlib.Core.Path.{◌≡◌, sym, ◌∙◌, ap, ap₂}
use mathlib.Core.Bool.{Bool, true, ◌||◌, cond}
use mathlib.Core.Logic.{◌⊎◌, inl, inr}
use mathlib.Core.List.{List, [], append-nil}
use native.Mathlib.Omega.{arith}
use lib.Dec.{ltb}
use lib.ListN.{length}
use borrow.Author.Tests.{lt-ltb, le-ltb}
use Rattle.reading.specs.Limits.{sheet_bytes, sheet_levels, result_bytes}
use Rattle.reading.specs.Formula.{Formula, encode, Free}
use Rattle.reading.specs.Reading.{Read, good, formula_in, tree_of}
use Rattle.reading.specs.Answers.{reading}
use Rattle.reading.specs.Answers as Answers
use Rattle.reading.proofs.Laws.{reads}
use Rattle.reading.proofs.Places.{nothing-free}
use Rattle.rules.specs.Counts.{Counts, uncounted, together, counts_of, counts_by, counted}
use Rattle.rules.proofs.Counting.{counts-none, steps-few}
use Rattle.elimination.specs.Stepping.{held}
use Rattle.elimination.specs.Running.{tallied, CountsAll, CountsLeft}
use Rattle.elimination.specs.Eliminating.{Accepted, untallied}
use Rattle.elimination.proofs.running.RunLaws.{sum}
use Rattle.elimination.specs.declared.Tally.{Tally}

none_before : (c : Counts) → together uncounted c ≡ c
none_before c = ap₂ sum (omega arith) (omega arith)

-- ---- the finishing pass

pub free-none : (f : Formula) → Free f → counts_of f ≡ uncounted
free-none f h = counts-none f ((nothing-free true f).1 h)

-- ---- from one formula to the next

module _ (f : Formula) (t : Tally) (k : ℕ) (a : List ℕ) (u : Tally) (left : CountsLeft f t k a u) where
  -- the steps stay as few as they were
  pub few-from : t.steps + (counts_of f).finished ≤ result_bytes → u.steps + (counts_of (held k a)).finished ≤ result_bytes
  few-from h = omega (arith, h, ap (λ (c : Counts). c.finished) left)

-- ---- a call

pub few-sheet : (s : List ℕ) → Accepted s → 0 + (counts_of (tree_of s)).finished ≤ result_bytes
few-sheet s x = omega (arith, steps-few (tree_of s), ap length x.exactly.bytes, x.few)

abbrev by : List ℕ → Bool → Bool → Answers.Reply → Read Formula → Counts
by s x y r f = cond (x || y) uncounted (counts_by r f)

module _ (s a w : List ℕ) where
  no_result : length a < result_bytes → counted s a w ≡ uncounted
  unfolding counted
  no_result h = ap (λ (b : Bool). by s b (ltb (length w) result_bytes) (reading sheet_bytes sheet_levels s) (formula_in sheet_levels s)) (lt-ltb (length a) result_bytes h)

  module _ (l : result_bytes ≤ length a) where
    no-work : length w < result_bytes → counted s a w ≡ uncounted
    unfolding counted
    no-work h = ap₂ (λ (b c : Bool). by s b c (reading sheet_bytes sheet_levels s) (formula_in sheet_levels s)) (le-ltb (length a) result_bytes l) (lt-ltb (length w) result_bytes h)

    module _ (j : result_bytes ≤ length w) where
      pub no-reading : (n p : ℕ) → reading sheet_bytes sheet_levels s ≡ Answers.Refused n p → counted s a w ≡ uncounted
      unfolding counted
      no-reading n p e =
          ap₂ (λ (b c : Bool). by s b c (reading sheet_bytes sheet_levels s) (formula_in sheet_levels s)) (le-ltb (length a) result_bytes l) (le-ltb (length w) result_bytes j)
          ∙ ap (λ (r : Answers.Reply). counts_by r (formula_in sheet_levels s)) e

      pub counted-run : (k : ℕ) → reading sheet_bytes sheet_levels s ≡ Answers.Done k → Accepted s → (u : Tally) → CountsAll (tree_of s) untallied u → tallied u ≡ counted s a w
      unfolding counted
      counted-run k e x u c =
          let f : formula_in sheet_levels s ≡ good (tree_of s) (length (encode (tree_of s))) = ap (formula_in sheet_levels) (x.exactly.bytes ∙ sym (append-nil (encode (tree_of s)))) ∙ reads (tree_of s) sheet_levels [] x.levels in
          c ∙ none_before (counts_of (tree_of s))
          ∙ sym (ap₂ (λ (b c : Bool). by s b c (reading sheet_bytes sheet_levels s) (formula_in sheet_levels s)) (le-ltb (length a) result_bytes l) (le-ltb (length w) result_bytes j)
          ∙ ap₂ counts_by e f)

pub buffers-uncounted : (s a w : List ℕ) → (length a < result_bytes) ⊎ ((result_bytes ≤ length a) × (length w < result_bytes)) → counted s a w ≡ uncounted
buffers-uncounted s a w (inl h) = no_result s a w h
buffers-uncounted s a w (inr h) = no-work s a w h.0 h.1
