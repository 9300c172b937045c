-- Over a formula record by record: at p the formulas `left` are still to come, which end at n, and W holds of them. Assumes nothing.
use mathlib.Core.Path.{◌≡◌, sym, ◌∙◌, ap, subst}
use mathlib.Core.List.{List, ◌++◌}
use Prim.Native.Nat.{ℕ, ◌+◌, ◌≤◌, ◌<◌}
use native.Mathlib.Omega.{arith}
use lib.ListN.{length}
use Rattle.reading.specs.Formula.{Formula, Formulas, none, more, label_of, size, encode, encodes}
use Rattle.reading.specs.Reading.{tree_of, Begins}
use Rattle.reading.proofs.Scan.{rest_of}
use Rattle.reading.proofs.Passing.{Forest, forest_begins, forest-tree, forest-room, forest-next, forest-long, part_from}
use Rattle.reading.proofs.Lengths.{none-long, four-long, more-long, one-is}

pub record Over (s : List ℕ) (n p : ℕ) (W : Formulas → Type 0) : Type 0 where
  pub left : Formulas
  pub after : List ℕ
  pub forest : Forest s p left after
  pub ends : n ≡ p + length (encodes left)
  pub holds : W left

pub over-begins : {s : List ℕ} {n : ℕ} {W : Formulas → Type 0} → Begins s (tree_of s) → n ≡ length (encode (tree_of s)) → W (more (tree_of s) none) → Over s n 0 W
over-begins {s} b e w =
    let o = one-is (tree_of s) in
    record {
      left = more (tree_of s) none;
      after = b.rest;
      forest = record { bytes = b.bytes ∙ ap (λ (l : List ℕ). l ++ b.rest) (sym o); fits = (b.fits, tt) };
      ends = omega (arith, e, ap length o);
      holds = w;
    }

-- a turn: the part from p on begins with the formula f, whose record is taken
pub record OverStep (s : List ℕ) (n p : ℕ) (W : Formulas → Type 0) (f : Formula) : Type 1 where
  pub begins : Begins (part_from p s) f
  pub long : 4 ≤ size (label_of f)
  pub room : p + size (label_of f) ≤ length s
  pub next : {N : Formulas → Type 0} → ((gs : Formulas) → W (more f gs) → N (rest_of f gs)) → Over s n (p + size (label_of f)) N

pub over-step : {s : List ℕ} {n p : ℕ} {W : Formulas → Type 0} → Over s n p W → p < n → OverStep s n p W (tree_of (part_from p s))
over-step {s} {n} {p} {W} w h = go w.left w.forest w.ends w.holds
  where
    go : (fs : Formulas) → Forest s p fs w.after → n ≡ p + length (encodes fs) → W fs → OverStep s n p W (tree_of (part_from p s))
    go none t e k = absurd (omega (arith, e, none-long))
    go (more f gs) t e k =
        let m = forest-room t in
        subst (OverStep s n p W) (sym (forest-tree t)) (record {
          begins = forest_begins t;
          long = m.0;
          room = m.1;
          next = λ v. record { left = rest_of f gs; after = w.after; forest = forest-next t; ends = omega (arith, e, forest-long t); holds = v gs k };
        })

pub over-ends : {s : List ℕ} {n p : ℕ} {W : Formulas → Type 0} → Over s n p W → n ≤ p → W none
over-ends {s} {n} {p} {W} w h = go w.left w.ends w.holds
  where
    go : (fs : Formulas) → n ≡ p + length (encodes fs) → W fs → W none
    go none e k = k
    go (more f gs) e k = absurd (omega (arith, e, four-long f, more-long f gs))
