-- A loop that fills an array from the front: of n elements the first i are f of their index. Assumes nothing.
use mathlib.Core.Path.{◌≡◌, ◌∙◌}
use mathlib.Core.List.{List}
use mathlib.Core.Logic.{⊎_elim}
use Prim.Native.Nat.{ℕ, ◌+◌, ◌<◌}
use native.Mathlib.Nat as N
use native.Mathlib.Numerals.{add-one}
use lib.ListN.{length, get_or, set, length-set}
use lib.Seq.{get_or-set_same, get_or-set_other}

module _ {A : Type 0} (d : A) (f : ℕ → A) (n : ℕ) where
  pub record Filled (s : List A) (i : ℕ) : Type 0 where
    pub long : length s ≡ n
    pub at : (k : ℕ) → k < i → get_or s k d ≡ f k

  -- nothing is filled yet
  pub fill_none : {s : List A} → length s ≡ n → Filled s 0
  fill_none e = record { long = e; at = λ k h. absurd (N.not-suc-le-zero h) }

  -- one element more
  pub fill_more : {s : List A} {i : ℕ} (v : A) → i < n → Filled s i → v ≡ f i → Filled (set s i v) (i + 1)
  fill_more {s} {i} v h m e = record {
    long = length-set s i v ∙ m.long;
    at = λ k l. ⊎_elim
        (λ q. rw q (get_or-set_same s i v d (rw m.long h) ∙ e))
        (λ l. get_or-set_other s i k v d (N.ne_of_lt l) ∙ m.at k l)
        (N.eq-or-lt_of_le (N.le_of_suc-le-suc (rw (add-one i) at l)));
  }
