-- Which tree stands in given bytes: at most one, and `tree_of` finds it. Levels may be added to a tree that fits. Assumes nothing.
use mathlib.Core.Path.{◌≡◌, sym, ◌∙◌, ap, ap₂}
use mathlib.Core.List.{List, [], ◌++◌, append-nil}
use Prim.Native.Nat.{ℕ, ◌+◌, ◌-◌, ◌≤◌}
use native.Mathlib.Omega.{arith}
use lib.ListN.{length}
use Rattle.reading.specs.Limits.{tree_levels}
use Rattle.reading.specs.Bytes.{Bytes}
use Rattle.reading.specs.Formula.{Formula, Formulas, encode, Fits, AllFit, atom, not, list, quant, window, none, more}
use Rattle.reading.specs.Reading.{formula_in, formula_of, tree_of, Begins, Exactly, good}
use Rattle.reading.specs.Answers.{reading}
use Rattle.reading.specs.Answers.{Done}
use Rattle.reading.proofs.Laws.{reads}
use Rattle.reading.proofs.Accepts.{accepted}

-- a formula that fits in d levels fits in more
mutual
  pub fits_more : (f : Formula) (d e : ℕ) → d ≤ e → Fits d f → Fits e f
  fits_more (atom c ns) d e h w = (omega (arith, w.0), w.1)
  fits_more (not f) d e h w = (omega (arith, w.0), fits_more f (d - 1) (e - 1) (omega arith) w.1)
  fits_more (list b fs) d e h w = (omega (arith, w.0), w.1, all_fit_more fs (d - 1) (e - 1) (omega arith) w.2)
  fits_more (quant b v f) d e h w = (omega (arith, w.0), w.1, fits_more f (d - 1) (e - 1) (omega arith) w.2)
  fits_more (window v lo hi) d e h w = (omega (arith, w.0), w.1)

  pub all_fit_more : (fs : Formulas) (d e : ℕ) → d ≤ e → AllFit d fs → AllFit e fs
  all_fit_more none d e h w = tt
  all_fit_more (more f fs) d e h w = (fits_more f d e h w.0, all_fit_more fs d e h w.1)

-- two formulas that fit and have the same bytes are the same
pub encode_one : (f g : Formula) (d e : ℕ) → Fits d f → Fits e g → encode f ≡ encode g → f ≡ g
encode_one f g d e w x h =
    let p = reads f (d + e) [] (fits_more f d (d + e) (omega arith) w) in
    let q = reads g (d + e) [] (fits_more g e (d + e) (omega arith) x) in
    let r : good f (length (encode f)) ≡ good g (length (encode g)) = sym p ∙ ap (λ (s : List ℕ). formula_in (d + e) (s ++ [])) h ∙ q in
    cc

-- reading bytes that begin with a formula finds it
pub begins-read : {s : List ℕ} {f : Formula} → Begins s f → formula_in tree_levels s ≡ good f (length (encode f))
begins-read {s} {f} b = ap (formula_in tree_levels) b.bytes ∙ reads f tree_levels b.rest b.fits

-- the tree of bytes that begin with a formula is that formula
pub tree_is : {s : List ℕ} {f : Formula} → Begins s f → tree_of s ≡ f
unfolding tree_of
tree_is b = ap formula_of (begins-read b)

-- bytes that are just a formula begin with it
pub begins : {s : List ℕ} {f : Formula} → Exactly s f → Begins s f
begins {s} {f} x = record { rest = []; bytes = x.bytes ∙ sym (append-nil (encode f)); fits = x.fits }

-- so bytes that are known to hold a formula hold `tree_of` of them
pub begins-tree : {s : List ℕ} {f : Formula} → Begins s f → Begins s (tree_of s)
begins-tree b = rw (tree_is b) b

pub exactly-tree : {s : List ℕ} {f : Formula} → Exactly s f → Exactly s (tree_of s)
exactly-tree x = rw (tree_is (begins x)) x

-- a sheet that is accepted is just the bytes of its tree, and that tree is what was read
pub accepted-exactly : (limit d : ℕ) (s : List ℕ) {k : ℕ} → d ≤ tree_levels → Bytes s → reading limit d s ≡ Done k → Exactly s (tree_of s)
accepted-exactly limit d s {k} h ok e =
    let a = accepted limit d s k ok e in
    let x : Exactly s a.0 = record { bytes = a.2; fits = fits_more a.0 d tree_levels h a.1 } in
    exactly-tree x

pub accepted-read : (limit d : ℕ) (s : List ℕ) {k : ℕ} → d ≤ tree_levels → Bytes s → reading limit d s ≡ Done k → formula_in d s ≡ good (tree_of s) (length s)
accepted-read limit d s {k} h ok e =
    let a = accepted limit d s k ok e in
    let x : Exactly s a.0 = record { bytes = a.2; fits = fits_more a.0 d tree_levels h a.1 } in
    let n : s ≡ encode a.0 ++ [] = a.2 ∙ sym (append-nil (encode a.0)) in
    ap (formula_in d) n ∙ reads a.0 d [] a.1 ∙ ap₂ good (sym (tree_is (begins x))) (sym (ap length a.2))
