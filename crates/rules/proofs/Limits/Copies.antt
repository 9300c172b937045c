-- 01, 'Copies', within the limits: a pushed formula, a copy that passes the test of 11, the list of the copies, and what the finishing pass makes
-- fit, and none has a quantifier. EQUAL under NOT opens into a list: the NOT's own level pays for that. Assumes nothing.
use Prim.Native.Nat.{ℕ, suc, ◌+◌, ◌*◌, ◌-◌, ◌≤◌, ◌<◌}
use mathlib.Core.Path.{◌≡◌, refl, ◌∙◌, ap}
use mathlib.Core.Bool as Bool
use mathlib.Core.Bool.{Bool, true, false, ◌&&◌, cond}
use mathlib.Core.List.{List, [], ◌∷◌}
use native.Mathlib.Nat.{mul-le-mul}
use native.Mathlib.Omega.{arith}
use lib.Dec.{ltb}
use lib.ListN.{length, length-append, replicate}
use lib.IntN.{ℤ, pos, negsuc, neg_ℤ, nat_abs}
use borrow.Author.Tests.{ltb-false}
use Rattle.reading.specs.Limits.{M, most_terms, result_bytes}
use Rattle.reading.specs.Formula.{Comparison, less, atmost, equal, Formula, Formulas, atom, not, list, quant, window, none, more, count, atom_l, encode, AllM, InRange, Free, AllFree}
use Rattle.exact.specs.Numbers.{at, Each, minus, single}
use Rattle.exact.specs.Divisor.{reduced}
use Rattle.exact.specs.Atoms.{holds, no_variable, Came, sure, new, settled, Spot, nowhere, atom_at, fitting}
use Rattle.exact.proofs.Sizes.{abs_neg}
use Rattle.exact.proofs.Rows.{each-zeros, each_set, all-each, each_all, each-reduced, each-minus, length-minus, length-single, all_m-each, each-all_m}
use Rattle.exact.proofs.Atoms.{Nine, atom-nine}
use Rattle.rules.specs.Pushing.{under, push_atom, push_window, push, pushs}
use Rattle.rules.specs.Lists.{Known, decided, unknown, known, sure_record, decided_by, keep, stay, closed, listed}
use Rattle.rules.specs.Copies.{atom_by, copy, copy_all, fits, fit_all}
use Rattle.rules.specs.Points.{midpoints, all_midpoints, points, terms, spot_fits}
use Rattle.rules.specs.Steps.{copies, replacement, numbers_fit, refusal}
use Rattle.rules.specs.Eliminate.{finished}
use Rattle.rules.specs.Levels.{Wide, AllWide}
use Rattle.rules.proofs.Limits.Levels.{wide-more}

-- two tests that both pass
pub and_both : (a b : Bool) → a && b ≡ true → (a ≡ true) × (b ≡ true)
and_both true b e = (refl, e)
and_both false b e = let z : ◌≡◌ {A = ℕ} 0 1 = cc in absurd (omega arith)

-- ---- rows of nine numbers in −M..M

-- each sign turned
minus-range : (c : Comparison) (l : List ℤ) → InRange (atom_l c l) → InRange (atom_l c (minus l))
minus-range c l w = (length-minus l ∙ w.0, each-all_m (minus l) (each-minus (all_m-each l w.1)))

-- the two atoms of a WINDOW
single-range : (c : Comparison) (v : ℕ) (a z : ℤ) → nat_abs a ≤ M → nat_abs z ≤ M → InRange (atom_l c (single v a z))
unfolding single
single-range c v a z h k =
    let e : Each M (replicate 9 (pos 0)) = each-zeros 9 in
    (length-single v a z, each-all_m (single v a z) (each_set 8 (record { size = k }) (each_set v (record { size = h }) e)))

-- ---- a pushed formula: atoms and lists, numbers in their ranges, at most d levels

abbrev mutual
  pub Pushed : ℕ → Formula → Type 0
  Pushed d (atom c ns) = (1 ≤ d) × InRange (atom_l c ns)
  Pushed d (not f) = ⊥
  Pushed d (list b fs) = (1 ≤ d) × (count fs < 65536) × AllPushed (d - 1) fs
  Pushed d (quant b v f) = ⊥
  Pushed d (window v lo hi) = ⊥

  pub AllPushed : ℕ → Formulas → Type 0
  AllPushed d none = Unit {0}
  AllPushed d (more f fs) = Pushed d f × AllPushed d fs

-- levels may be added
mutual
  pushed_more : (f : Formula) (d e : ℕ) → d ≤ e → Pushed d f → Pushed e f
  pushed_more (atom c ns) d e h w = (omega (arith, w.0), w.1)
  pushed_more (not f) d e h w = absurd w
  pushed_more (list b fs) d e h w = (omega (arith, w.0), w.1, all-pushed-more fs (d - 1) (e - 1) (omega arith) w.2)
  pushed_more (quant b v f) d e h w = absurd w
  pushed_more (window v lo hi) d e h w = absurd w

  all-pushed-more : (fs : Formulas) (d e : ℕ) → d ≤ e → AllPushed d fs → AllPushed e fs
  all-pushed-more none d e h w = tt
  all-pushed-more (more f fs) d e h w = (pushed_more f d e h w.0, all-pushed-more fs d e h w.1)

-- under NOT there is one level more
abbrev pub levels : Bool → ℕ → ℕ
levels false d = d
levels true d = suc d

-- an atom, a WINDOW, what stands under NOT, and a list
push-atom : (neg : Bool) (d : ℕ) (c : Comparison) (ns : List ℤ) → 1 ≤ d → InRange (atom_l c ns) → Pushed (levels neg d) (push_atom neg c ns)
push-atom false d c ns h w = (h, w)
push-atom true d less ns h w = (omega arith, minus-range less ns w)
push-atom true d atmost ns h w = (omega arith, minus-range less ns w)
push-atom true d equal ns h w = (omega arith, omega arith, ((omega arith, w), ((omega arith, minus-range less ns w), tt)))

push-window : (neg : Bool) (d v : ℕ) (lo hi : ℤ) → 2 ≤ d → nat_abs lo ≤ M → nat_abs hi ≤ M → Pushed (levels neg d) (push_window neg v lo hi)
push-window false d v lo hi h l k =
    (omega arith, omega arith, ((omega arith, single-range atmost v (negsuc 0) lo (omega arith) l), ((omega arith, single-range atmost v (pos 1) (neg_ℤ hi) (omega arith) (omega (arith, abs_neg hi))), tt)))
push-window true d v lo hi h l k =
    (omega arith, omega arith, ((omega arith, single-range less v (pos 1) (neg_ℤ lo) (omega arith) (omega (arith, abs_neg lo))), ((omega arith, single-range less v (negsuc 0) hi (omega arith) k), tt)))

push-not : (neg : Bool) (d : ℕ) (g : Formula) → 1 ≤ d → Pushed (levels (Bool.not neg) (d - 1)) g → Pushed (levels neg d) g
push-not false d g h w = pushed_more g (suc (d - 1)) d (omega arith) w
push-not true d g h w = pushed_more g (d - 1) (suc d) (omega arith) w

push-list : (neg b : Bool) (d : ℕ) (gs : Formulas) → 1 ≤ d → count gs < 65536 → AllPushed (levels neg (d - 1)) gs → Pushed (levels neg d) (list b gs)
push-list false b d gs h k w = (h, k, w)
push-list true b d gs h k w = (omega arith, k, all-pushed-more gs (suc (d - 1)) (suc d - 1) (omega arith) w)

pushs-count : (neg : Bool) (fs : Formulas) → count (pushs neg fs) ≡ count fs
unfolding push
pushs-count neg none = refl
pushs-count neg (more f fs) = ap suc (pushs-count neg fs)

mutual
  unfolding push

  -- what a wide formula without quantifiers is pushed to
  pub push-fits : (neg : Bool) (d : ℕ) (f : Formula) → Wide d f → Free f → Pushed (levels neg d) (push neg f)
  push-fits neg d (atom c ns) w h = push-atom neg d c ns w.0 w.1
  push-fits neg d (not f) w h = push-not neg d (push (Bool.not neg) f) w.0 (push-fits (Bool.not neg) (d - 1) f w.1 h)
  push-fits neg d (list b fs) w h = push-list neg (under neg b) d (pushs neg fs) w.0 (omega (arith, pushs-count neg fs, w.1)) (pushs-fits neg (d - 1) fs w.2 h)
  push-fits neg d (quant b v f) w h = absurd h
  push-fits neg d (window v lo hi) w h = push-window neg d v lo hi w.0 w.1.1.0 w.1.1.1.0

  pushs-fits : (neg : Bool) (d : ℕ) (fs : Formulas) → AllWide d fs → AllFree fs → AllPushed (levels neg d) (pushs neg fs)
  pushs-fits neg d none w h = tt
  pushs-fits neg d (more f fs) w h = (push-fits neg d f w.0 h.0, pushs-fits neg d fs w.1 h.1)

-- ---- the list rule

-- the members that stay, and the list that is left with them
stay-fits : (d : ℕ) (fs : Formulas) → AllWide d fs → AllWide d (stay fs) × (count (stay fs) ≤ count fs)
stay-fits d none w = (tt, omega arith)
stay-fits d (more f fs) w = go (known f) (stay-fits d fs w.1)
  where
    go : (k : Known) → AllWide d (stay fs) × (count (stay fs) ≤ count fs) → AllWide d (keep k f (stay fs)) × (count (keep k f (stay fs)) ≤ suc (count fs))
    go (decided v) r = (r.0, omega (arith, r.1))
    go unknown r = ((w.0, r.0), omega (arith, r.1))

closed-fits : (all : Bool) (d : ℕ) (fs : Formulas) → 1 ≤ d → count fs < 65536 → AllWide (d - 1) fs → Wide d (closed all fs)
closed-fits all d none h k w = (h, k, tt)
closed-fits all d (more f none) h k w = wide-more f (d - 1) d (omega arith) w.0
closed-fits all d (more f (more g fs)) h k w = (h, k, w)

-- a list under the rule has no more levels than the list
listed-fits : (all : Bool) (d : ℕ) (fs : Formulas) → 1 ≤ d → count fs < 65536 → AllWide (d - 1) fs → Wide d (listed all fs)
unfolding listed
listed-fits all d fs h k w = go (decided_by all fs)
  where
    go : (b : Bool) → Wide d (cond b (sure_record (Bool.not all)) (closed all (stay fs)))
    go true = (h, omega arith, tt)
    go false = let r = stay-fits (d - 1) fs w in closed-fits all d (stay fs) h (omega (arith, r.1)) r.0

-- the list rule brings no quantifier
stay-free : (fs : Formulas) → AllFree fs → AllFree (stay fs)
stay-free none w = tt
stay-free (more f fs) w = go (known f) (stay-free fs w.1)
  where
    go : (k : Known) → AllFree (stay fs) → AllFree (keep k f (stay fs))
    go (decided v) r = r
    go unknown r = (w.0, r)

closed-free : (all : Bool) (fs : Formulas) → AllFree fs → Free (closed all fs)
closed-free all none w = tt
closed-free all (more f none) w = w.0
closed-free all (more f (more g fs)) w = w

listed_free : (all : Bool) (fs : Formulas) → AllFree fs → Free (listed all fs)
unfolding listed
listed_free all fs w = go (decided_by all fs)
  where
    go : (b : Bool) → Free (cond b (sure_record (Bool.not all)) (closed all (stay fs)))
    go true = tt
    go false = closed-free all (stay fs) (stay-free fs w)

-- ---- an atom at a spot

-- decided it is a list of none; a new atom has nine numbers
came-fits : (d : ℕ) (c : Comparison) (k : Came) → 1 ≤ d → Nine k → fitting k ≡ true → Wide d (atom_by k c)
came-fits d c (sure b) h n e = (h, omega arith, tt)
came-fits d c (new ns) h n e = (h, (n, each-all_m ns (all-each M ns e)))

came-free : (c : Comparison) (k : Came) → Free (atom_by k c)
came-free c (sure b) = tt
came-free c (new ns) = tt

-- ---- a copy

copy_all-count : (q : Spot) (fs : Formulas) → count (copy_all q fs) ≡ count fs
unfolding copy
copy_all-count q none = refl
copy_all-count q (more f fs) = ap suc (copy_all-count q fs)

mutual
  unfolding copy fits

  -- the copy of a pushed formula at a spot where its numbers fit
  pub copied-fits : (q : Spot) (d : ℕ) (g : Formula) → Pushed d g → fits q g ≡ true → Wide d (copy q g)
  copied-fits q d (atom c ns) w e = came-fits d c (atom_at q c ns) w.0 (atom-nine q c ns w.1.0) e
  copied-fits q d (not f) w e = absurd w
  copied-fits q d (list b fs) w e = listed-fits b d (copy_all q fs) w.0 (omega (arith, copy_all-count q fs, w.1)) (all-copied-fits q (d - 1) fs w.2 e)
  copied-fits q d (quant b v f) w e = absurd w
  copied-fits q d (window v lo hi) w e = absurd w

  all-copied-fits : (q : Spot) (d : ℕ) (gs : Formulas) → AllPushed d gs → fit_all q gs ≡ true → AllWide d (copy_all q gs)
  all-copied-fits q d none w e = tt
  all-copied-fits q d (more f fs) w e = let z = and_both (fits q f) (fit_all q fs) e in (copied-fits q d f w.0 z.0, all-copied-fits q d fs w.1 z.1)

-- a copy of a wide formula is as wide
copy-fits : (q : Spot) (d : ℕ) (f : Formula) → Wide d f → Free f → fits q (push false f) ≡ true → Wide d (copy q (push false f))
copy-fits q d f w h e = copied-fits q d (push false f) (push-fits false d f w h) e

-- pushing and copying bring no quantifier
push-atom-free : (neg : Bool) (c : Comparison) (ns : List ℤ) → Free (push_atom neg c ns)
push-atom-free false c ns = tt
push-atom-free true less ns = tt
push-atom-free true atmost ns = tt
push-atom-free true equal ns = (tt, (tt, tt))

push-window-free : (neg : Bool) (v : ℕ) (lo hi : ℤ) → Free (push_window neg v lo hi)
push-window-free false v lo hi = (tt, (tt, tt))
push-window-free true v lo hi = (tt, (tt, tt))

mutual
  unfolding push

  pub push-free : (neg : Bool) (f : Formula) → Free f → Free (push neg f)
  push-free neg (atom c ns) h = push-atom-free neg c ns
  push-free neg (not f) h = push-free (Bool.not neg) f h
  push-free neg (list b fs) h = pushs-free neg fs h
  push-free neg (quant b v f) h = absurd h
  push-free neg (window v lo hi) h = push-window-free neg v lo hi

  pushs-free : (neg : Bool) (fs : Formulas) → AllFree fs → AllFree (pushs neg fs)
  pushs-free neg none h = tt
  pushs-free neg (more f fs) h = (push-free neg f h.0, pushs-free neg fs h.1)

mutual
  unfolding copy

  copied-free : (q : Spot) (g : Formula) → Free g → Free (copy q g)
  copied-free q (atom c ns) h = came-free c (atom_at q c ns)
  copied-free q (not f) h = h
  copied-free q (list b fs) h = listed_free b (copy_all q fs) (all-copied-free q fs h)
  copied-free q (quant b v f) h = absurd h
  copied-free q (window v lo hi) h = tt

  all-copied-free : (q : Spot) (gs : Formulas) → AllFree gs → AllFree (copy_all q gs)
  all-copied-free q none h = tt
  all-copied-free q (more f fs) h = (copied-free q f h.0, all-copied-free q fs h.1)

-- ---- the list of the copies

midpoints-long : (x : ℕ) (t : List ℤ) (us : List (List ℤ)) → length (midpoints x t us) ≡ length us
unfolding midpoints
midpoints-long x t [] = refl
midpoints-long x t (u ∷ us) = ap suc (midpoints-long x t us)

-- n terms have n (n + 1) / 2 midpoints
all-midpoints-long : (x : ℕ) (ts : List (List ℤ)) → 2 * length (all_midpoints x ts) ≡ length ts * (length ts + 1)
unfolding all_midpoints
all-midpoints-long x [] = refl
all-midpoints-long x (t ∷ ts) =
    omega (arith, length-append (midpoints x t (t ∷ ts)) (all_midpoints x ts), midpoints-long x t (t ∷ ts), all-midpoints-long x ts)

-- 64 terms have 2,082 points
points-few : (x : ℕ) (ts : List (List ℤ)) → length ts ≤ most_terms → length (points x ts) ≤ 2082
unfolding points
points-few x [] h = omega arith
points-few x (t ∷ ts) h =
    let n = length (t ∷ ts) in
    let m : n + 1 ≤ 65 = omega arith in
    let k : n * (n + 1) ≤ 64 * 65 = mul-le-mul h m in
    omega (arith, all-midpoints-long x (t ∷ ts))

-- one copy for each point
copies-count : (qs : List Spot) (g : Formula) → count (copies qs g) ≡ length qs
unfolding copies
copies-count [] g = refl
copies-count (q ∷ qs) g = ap suc (copies-count qs g)

copies-fit : (d : ℕ) (qs : List Spot) (g : Formula) → Pushed d g → numbers_fit qs g ≡ true → AllWide d (copies qs g)
unfolding copies numbers_fit
copies-fit d [] g w e = tt
copies-fit d (q ∷ qs) g w e =
    let y = and_both (spot_fits q && fits q g) (numbers_fit qs g) e in
    (copied-fits q d g w (and_both (spot_fits q) (fits q g) y.0).1, copies-fit d qs g w y.1)

all-copies-free : (qs : List Spot) (g : Formula) → Free g → AllFree (copies qs g)
unfolding copies
all-copies-free [] g h = tt
all-copies-free (q ∷ qs) g h = (copied-free q g h, all-copies-free qs g h)

-- a step that is not refused: the terms are few, the numbers and the formula after it fit
pub record NotRefused (x : ℕ) (f g : Formula) : Type 0 where
  pub few : length (terms x f) ≤ most_terms
  pub numbers : numbers_fit (points x (terms x f)) (push false f) ≡ true
  pub short : length (encode g) ≤ result_bytes

pub not-refused : (x : ℕ) (f g : Formula) → refusal x f g ≡ 0 → NotRefused x f g
unfolding refusal
not-refused x f g e = go (ltb most_terms (length (terms x f))) (numbers_fit (points x (terms x f)) (push false f)) (ltb result_bytes (length (encode g))) refl refl refl e
  where
    go : (a b c : Bool) → ltb most_terms (length (terms x f)) ≡ a → numbers_fit (points x (terms x f)) (push false f) ≡ b → ltb result_bytes (length (encode g)) ≡ c
        → cond {A = ℕ} a 10 (cond b (cond c 12 0) 11) ≡ 0 → NotRefused x f g
    go true b c p q r e = absurd (omega arith)
    go false true true p q r e = absurd (omega arith)
    go false true false p q r e = record { few = ltb-false most_terms (length (terms x f)) p; numbers = q; short = ltb-false result_bytes (length (encode g)) r }
    go false false c p q r e = absurd (omega arith)

-- the quantifier's own level pays for the list of the copies
pub replacement-fits : (b : Bool) (x d : ℕ) (f g : Formula) → Wide d (quant b x f) → Free f → NotRefused x f g → Wide d (replacement b x f)
unfolding replacement
replacement-fits b x d f g w h a =
    let qs = points x (terms x f) in
    listed-fits b d (copies qs (push false f)) w.0 (omega (arith, copies-count qs (push false f), points-few x (terms x f) a.few))
    (copies-fit (d - 1) qs (push false f) (push-fits false (d - 1) f w.2 h) a.numbers)

pub replacement-free : (b : Bool) (x : ℕ) (f : Formula) → Free f → Free (replacement b x f)
unfolding replacement
replacement-free b x f h = listed_free b (copies (points x (terms x f)) (push false f)) (all-copies-free (points x (terms x f)) (push false f) (push-free false f h))

-- ---- the finishing pass: numbers only get smaller by dividing

-- an atom that is divided
settled-fitting : (c : Comparison) (ns : List ℤ) → AllM ns → fitting (settled c ns) ≡ true
unfolding settled
settled-fitting c ns w = go (no_variable ns)
  where
    go : (b : Bool) → fitting (cond b (sure (holds c (at ns 8))) (new (reduced ns))) ≡ true
    go true = refl
    go false = each_all (each-reduced (all_m-each ns w))

mutual
  unfolding fits atom_at

  pushed-finishes : (d : ℕ) (g : Formula) → Pushed d g → fits nowhere g ≡ true
  pushed-finishes d (atom c ns) w = settled-fitting c ns w.1.1
  pushed-finishes d (not f) w = absurd w
  pushed-finishes d (list b fs) w = all-pushed-finish (d - 1) fs w.2
  pushed-finishes d (quant b v f) w = absurd w
  pushed-finishes d (window v lo hi) w = absurd w

  all-pushed-finish : (d : ℕ) (gs : Formulas) → AllPushed d gs → fit_all nowhere gs ≡ true
  all-pushed-finish d none w = refl
  all-pushed-finish d (more f fs) w = ap (λ (b : Bool). b && fit_all nowhere fs) (pushed-finishes d f w.0) ∙ all-pushed-finish d fs w.1

-- no number of the finishing pass is too big
pub finishing-fits : (d : ℕ) (f : Formula) → Wide d f → Free f → fits nowhere (push false f) ≡ true
finishing-fits d f w h = pushed-finishes d (push false f) (push-fits false d f w h)

-- what the finishing pass makes is within the limits
pub finished-fits : (d : ℕ) (f : Formula) → Wide d f → Free f → Wide d (finished f)
unfolding finished
finished-fits d f w h = copy-fits nowhere d f w h (finishing-fits d f w h)
