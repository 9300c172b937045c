-- Formulas one after the other, gone over record by record without going into them: what is left after a record. Assumes nothing.
use mathlib.Core.Path.{◌≡◌, refl, sym, ◌∙◌, ap, subst}
use mathlib.Core.List.{List, ◌++◌, append_assoc}
use Prim.Native.Nat.{ℕ, ◌+◌, ◌-◌, ◌≤◌, ◌<◌}
use native.Mathlib.Omega.{arith}
use lib.ListN.{length, take, drop, length-drop, length-append}
use lib.Seq.{drop-append_seam, drop-drop}
use Rattle.reading.specs.Limits.{tree_levels}
use Rattle.reading.specs.Formula.{Formula, Formulas, atom, not, list, quant, window, none, more, count, label_of, size, follow, record_bytes, encode, encodes, AllFit}
use Rattle.reading.specs.Reading.{tree_of, Begins}
use Rattle.reading.proofs.Laws.{record-long, size_small}
use Rattle.reading.proofs.Lengths.{encodes_more, none-long, more-long, four-long}
use Rattle.reading.proofs.Reading.{part-drop}
use Rattle.reading.proofs.Scan.{◌and◌, rest_of, apart-bytes, apart-fit, apart-range}
use Rattle.reading.proofs.Trees.{tree_is}

-- the formulas fs stand in s from p on, and u after them
pub record Forest (s : List ℕ) (p : ℕ) (fs : Formulas) (u : List ℕ) : Type 0 where
  pub bytes : drop p s ≡ encodes fs ++ u
  pub fits : AllFit tree_levels fs

and-count : (fs gs : Formulas) → count (fs and gs) ≡ count fs + count gs
and-count none gs = omega arith
and-count (more f fs) gs = omega (arith, and-count fs gs)

pub rest-count : (f : Formula) (gs : Formulas) → count (rest_of f gs) ≡ follow (label_of f) + count gs
rest-count (atom c ns) gs = omega arith
rest-count (not f) gs = omega arith
rest-count (list b fs) gs = and-count fs gs
rest-count (quant b v f) gs = omega arith
rest-count (window v lo hi) gs = omega arith

module _ {s : List ℕ} {p : ℕ} {f : Formula} {gs : Formulas} {u : List ℕ} (w : Forest s p (more f gs) u) where
  first : drop p s ≡ encode f ++ (encodes gs ++ u)
  first = w.bytes ∙ ap (λ (l : List ℕ). l ++ u) (encodes_more f gs) ∙ append_assoc (encode f) (encodes gs) u

  apart : drop p s ≡ record_bytes (label_of f) ++ (encodes (rest_of f gs) ++ u)
  apart = w.bytes ∙ ap (λ (l : List ℕ). l ++ u) (encodes_more f gs ∙ apart-bytes f gs) ∙ append_assoc (record_bytes (label_of f)) (encodes (rest_of f gs)) u

  long : length (record_bytes (label_of f)) ≡ size (label_of f)
  long = record-long (label_of f) (apart-range tree_levels f w.fits.0)

  -- the part from p on begins with the first of them
  pub forest_begins : Begins (take (length s - p) (drop p s)) f
  forest_begins = record { rest = encodes gs ++ u; bytes = part-drop p s ∙ first; fits = w.fits.0 }

  pub forest-tree : tree_of (take (length s - p) (drop p s)) ≡ f
  forest-tree = tree_is forest_begins

  -- its record lies in s
  pub forest-room : (4 ≤ size (label_of f)) × (p + size (label_of f) ≤ length s)
  forest-room =
      let n = (size_small (label_of f)).0 in
      (n, omega (arith, length-drop p s, ap length apart, length-append (record_bytes (label_of f)) (encodes (rest_of f gs) ++ u), long))

  -- after it what is left begins
  pub forest-next : Forest s (p + size (label_of f)) (rest_of f gs) u
  forest-next = record {
    bytes = sym (drop-drop (size (label_of f)) p s) ∙ ap (drop (size (label_of f))) apart ∙ rw (← long) (drop-append_seam (record_bytes (label_of f)) (encodes (rest_of f gs) ++ u));
    fits = apart-fit tree_levels f gs w.fits.0 w.fits.1;
  }

  pub forest-long : length (encodes (more f gs)) ≡ size (label_of f) + length (encodes (rest_of f gs))
  forest-long = omega (arith, ap length (encodes_more f gs ∙ apart-bytes f gs), length-append (record_bytes (label_of f)) (encodes (rest_of f gs)), long)

-- ---- the way to where they end

-- k formulas are left at p, and they end at `goal`
pub record Passing (s : List ℕ) (goal p k : ℕ) : Type 0 where
  pub left : Formulas
  pub after : List ℕ
  pub forest : Forest s p left after
  pub many : k ≡ count left
  pub ends : goal ≡ p + length (encodes left)

pub pass-begins : {s : List ℕ} {at left : ℕ} (fs : Formulas) (u : List ℕ) → drop at s ≡ encodes fs ++ u → left ≡ count fs → AllFit tree_levels fs → Passing s (at + length (encodes fs)) at left
pass-begins fs u e n w = record { left = fs; after = u; forest = record { bytes = e; fits = w }; many = n; ends = refl }

-- a turn: the part from p on begins with the formula f, whose record is taken
abbrev pub part_from : ℕ → List ℕ → List ℕ
part_from p s = take (length s - p) (drop p s)

pub record PassStep (s : List ℕ) (goal p k : ℕ) (f : Formula) : Type 0 where
  pub begins : Begins (part_from p s) f
  pub long : 4 ≤ size (label_of f)
  pub room : p + size (label_of f) ≤ length s
  pub next : Passing s goal (p + size (label_of f)) (k - 1 + follow (label_of f))

pub pass_step : {s : List ℕ} {goal p k : ℕ} → Passing s goal p k → 0 < k → PassStep s goal p k (tree_of (part_from p s))
pass_step {s} {goal} {p} {k} w h = go w.left w.forest w.many w.ends
  where
    go : (fs : Formulas) → Forest s p fs w.after → k ≡ count fs → goal ≡ p + length (encodes fs) → PassStep s goal p k (tree_of (part_from p s))
    go none x n e = absurd (omega (arith, n))
    go (more f gs) x n e =
        let r = forest-room x in
        subst (PassStep s goal p k) (sym (forest-tree x)) (record {
          begins = forest_begins x;
          long = r.0;
          room = r.1;
          next = record {
            left = rest_of f gs;
            after = w.after;
            forest = forest-next x;
            many = omega (arith, n, rest-count f gs);
            ends = omega (arith, e, forest-long x);
          };
        })

pub pass-ends : {s : List ℕ} {goal p k : ℕ} → Passing s goal p k → k ≤ 0 → p ≡ goal
pass-ends {s} {goal} {p} {k} w h = go w.left w.many w.ends
  where
    go : (fs : Formulas) → k ≡ count fs → goal ≡ p + length (encodes fs) → p ≡ goal
    go none n e = omega (arith, e, none-long)
    go (more f gs) n e = absurd (omega (arith, n))

-- each formula has four bytes at least, so they are no more than the bytes
pub pass-few : {s : List ℕ} {goal p k : ℕ} → Passing s goal p k → k ≤ length s
pass-few {s} {goal} {p} {k} w = omega (arith, w.many, few w.left, ap length w.forest.bytes, length-append (encodes w.left) w.after, length-drop p s)
  where
    few : (fs : Formulas) → count fs ≤ length (encodes fs)
    few none = omega arith
    few (more f gs) = omega (arith, few gs, four-long f, more-long f gs)
