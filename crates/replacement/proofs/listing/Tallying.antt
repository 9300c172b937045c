-- The tally of how the members come out, one after the other, is 01's list rule over them (`ruled-close`), and it is over exactly where a member's numbers do not
-- fit. Copies of one body at many spots and members of one list at a spot are tallied alike. Assumes nothing.
use mathlib.Core.Path.{◌≡◌, refl, sym, ◌∙◌, ap, ap₂}
use mathlib.Core.Bool as Bool
use mathlib.Core.Bool.{Bool, true, false, ◌||◌, ◌&&◌, cond}
use mathlib.Core.List.{List, [], ◌∷◌, ◌++◌}
use Rattle.reading.specs.Formula.{Formula, Formulas, none, more}
use Rattle.rules.specs.Pushing.{under}
use Rattle.rules.specs.Lists.{sure_record, Known, decided, unknown, known, decides, decided_by, keep, stay, closed, listed}
use Rattle.replacement.specs.Listing.{Come, big, come_by, come_of, Tally, over, going, snoc, add, tally, close_of, close}

-- ---- the tally of many

pub tally-append : (all : Bool) (t : Tally) (cs ds : List Come) → tally all t (cs ++ ds) ≡ tally all (tally all t cs) ds
tally-append all t [] ds = refl
tally-append all t (c ∷ cs) ds = tally-append all (add all t c) cs ds

pub tally-over : (all : Bool) (cs : List Come) → tally all over cs ≡ over
tally-over all [] = refl
tally-over all (c ∷ cs) = tally-over all cs

-- ---- one member more

abbrev joins : Formulas → Formulas → Formulas
joins none hs = hs
joins (more g gs) hs = more g (joins gs hs)

joins-none : (gs : Formulas) → joins gs none ≡ gs
joins-none none = refl
joins-none (more g gs) = ap (more g) (joins-none gs)

joins-snoc : (gs : Formulas) (g : Formula) (hs : Formulas) → joins (snoc gs g) hs ≡ joins gs (more g hs)
joins-snoc none g hs = refl
joins-snoc (more f fs) g hs = ap (more f) (joins-snoc fs g hs)

or-false : (x : Bool) → (x || false) ≡ x
or-false true = refl
or-false false = refl

-- what `add` makes of a member, and what `decided_by` and `stay` say of it and of those that follow, d and s
record One (all x : Bool) (gs : Formulas) (g : Formula) (k : Known) (d : Bool) (s : Formulas) : Type 0 where
  pub y : Bool
  pub hs : Formulas
  pub is : add all (going x gs) (come_by k g) ≡ going y hs
  pub fixed : (y || d) ≡ (x || (decides all k || d))
  pub members : joins hs s ≡ joins gs (keep k g s)

one : (all x : Bool) (gs : Formulas) (g : Formula) (k : Known) (d : Bool) (s : Formulas) → One all x gs g k d s
one all true gs g (decided v) d s = record { y = true; hs = gs; is = refl; fixed = refl; members = refl }
one all false gs g (decided v) d s = record { y = under all v; hs = gs; is = refl; fixed = refl; members = refl }
one all x gs g unknown d s = record { y = x; hs = snoc gs g; is = refl; fixed = refl; members = joins-snoc gs g s }

-- ---- all of them

-- cs is how the formulas ms come out, of which all numbers fit or not: their tally is the list rule's, behind whatever was tallied before
abbrev pub Ruled : Bool → List Come → Bool → Formulas → Type 0
Ruled all cs b ms = (x : Bool) (gs : Formulas) → tally all (going x gs) cs ≡ cond b (going (x || decided_by all ms) (joins gs (stay ms))) over

pub ruled-none : (all : Bool) → Ruled all [] true none
ruled-none all x gs = ap₂ going (sym (or-false x)) (sym (joins-none gs))

pub ruled-more : (all k : Bool) (g : Formula) (cs : List Come) (b : Bool) (ms : Formulas) → Ruled all cs b ms → Ruled all (cond k (come_of g) big ∷ cs) (k && b) (more g ms)
ruled-more all true g cs b ms r x gs =
    let o = one all x gs g (known g) (decided_by all ms) (stay ms) in
    ap (λ (t : Tally). tally all t cs) o.is ∙ r o.y o.hs ∙ ap₂ (λ (d : Bool) (s : Formulas). cond b (going d s) over) o.fixed o.members
ruled-more all false g cs b ms r x gs = tally-over all cs

-- the members that stay are neither the true nor the false record
abbrev Unsettled : Formulas → Type 0
Unsettled none = Unit {0}
Unsettled (more g gs) = (known g ≡ unknown) × Unsettled gs

stay-unsettled : (fs : Formulas) → Unsettled (stay fs)
stay-unsettled none = tt
stay-unsettled (more f fs) = go (known f) refl (stay-unsettled fs)
  where
    go : (k : Known) → known f ≡ k → Unsettled (stay fs) → Unsettled (keep k f (stay fs))
    go (decided v) e h = h
    go unknown e h = (e, h)

rule-is : (all d : Bool) (s : Formulas) → Unsettled s → close_of all d s ≡ come_of (cond d (sure_record (Bool.not all)) (closed all s))
rule-is all true s k = refl
rule-is all false none k = refl
rule-is all false (more g none) k = sym (ap (λ (y : Known). come_by y g) k.0)
rule-is all false (more g (more h gs)) k = refl

pub rule-stay : (all : Bool) (ms : Formulas) → close_of all (decided_by all ms) (stay ms) ≡ come_of (listed all ms)
unfolding listed
rule-stay all ms = rule-is all (decided_by all ms) (stay ms) (stay-unsettled ms)

pub ruled-close : (all : Bool) (cs : List Come) (b : Bool) (ms : Formulas) → Ruled all cs b ms → close all (tally all (going false none) cs) ≡ cond b (come_of (listed all ms)) big
ruled-close all cs b ms r = ap (close all) (r false none) ∙ go b
  where
    go : (b : Bool) → close all (cond b (going (decided_by all ms) (stay ms)) over) ≡ cond b (come_of (listed all ms)) big
    go true = rule-stay all ms
    go false = refl
