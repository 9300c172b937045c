-- A list while it is written (01, 'Lists'): how a member comes out, what is tallied of the members, and what the code's `Open` holds of them.
use Rattle.std.specs.Prelude.{◌≡◌, ℕ, ◌+◌, ◌≤◌, ◌<◌, Bool, true, false, List, [], ◌∷◌, ◌++◌, length, take, Result, Ok, Err}
use Rattle.std.proofs.Math.Bool as Bool
use Rattle.reading.specs.Formula.{Formula, Formulas, list, none, more, count, encode, encodes}
use Rattle.rules.specs.Pushing.{under}
use Rattle.rules.specs.Lists.{Known, decided, unknown, known}
use Rattle.replacement.specs.declared.Copied.{Copied}
use Rattle.replacement.specs.declared.Came.{Came}
use Rattle.replacement.specs.declared.Came.TheVariants.{Decided, Kept}
use Rattle.replacement.specs.declared.TooBig.{TooBig}
use Rattle.replacement.specs.declared.Open.{Open}

-- how a formula comes out at a spot: true or false, a formula, or with a number outside −M..M
pub data Come : Type 0 where
  truth : Bool → Come
  kept : Formula → Come
  big : Come

-- a formula to which the list rule has been applied: the true and the false record are a truth
abbrev pub come_by : Known → Formula → Come
come_by (decided b) g = truth b
come_by unknown g = kept g

abbrev pub come_of : Formula → Come
come_of g = come_by (known g) g

-- ---- a list while its members are taken

-- a number was too big; or whether a member decided the list, and the members kept
pub data Tally : Type 0 where
  over : Tally
  going : Bool → Formulas → Tally

abbrev pub snoc : Formulas → Formula → Formulas
snoc none g = more g none
snoc (more f fs) g = more f (snoc fs g)

-- whether a list is decided once a member is v: a false one decides ALLOF, a true one ANYOF
abbrev pub hits : Bool → Bool → Bool → Bool
hits true all v = true
hits false all v = under all v

-- one member more
abbrev pub add : Bool → Tally → Come → Tally
add all over c = over
add all (going x gs) (truth v) = going (hits x all v) gs
add all (going x gs) (kept g) = going x (snoc gs g)
add all (going x gs) big = over

-- the members one after the other
abbrev pub tally : Bool → Tally → List Come → Tally
tally all t [] = t
tally all t (c ∷ cs) = tally all (add all t c) cs

-- the list rule, once all members are there
abbrev pub close_of : Bool → Bool → Formulas → Come
close_of all true gs = truth (Bool.not all)
close_of all false none = truth all
close_of all false (more g none) = kept g
close_of all false (more g (more h gs)) = kept (list all (more g (more h gs)))

abbrev pub close : Bool → Tally → Come
close all over = big
close all (going x gs) = close_of all x gs

-- ---- what is answered and what is written

abbrev pub bytes_of : Come → List ℕ
bytes_of (truth v) = []
bytes_of (kept g) = encode g
bytes_of big = []

-- the code's answers for a source of `used` bytes: true or false, and kept up to e
abbrev pub decided_as : ℕ → Bool → Result Copied TooBig
decided_as used v = Ok (record { used = used; came = Decided v })

abbrev pub kept_as : ℕ → ℕ → Result Copied TooBig
kept_as used e = Ok (record { used = used; came = Kept e })

abbrev pub copied_of : Come → ℕ → ℕ → Result Copied TooBig
copied_of (truth v) used to = decided_as used v
copied_of (kept g) used to = kept_as used (to + length (encode g))
copied_of big used to = Err (record {})

-- 01's number for each case: 11 is a reduced number outside −M..M
abbrev pub copied_no : Result Copied TooBig → ℕ
copied_no (Ok r) = 0
copied_no (Err e) = 11

-- r is the answer for c, whose source has `used` bytes; c was written at `to` over o₀, and o is there now
pub record Wrote (c : Come) (used to : ℕ) (o₀ o : List ℕ) (r : Result Copied TooBig) : Type 0 where
  pub answer : r ≡ copied_of c used to
  pub bytes : take (to + length (bytes_of c)) o ≡ take to o₀ ++ bytes_of c

-- ---- a list while it is written

abbrev pub opened_of : Bool → ℕ → Open
opened_of all start = record { all = all; start = start; end = start + 6; kept = 0; fixed = false }

abbrev pub decided_of : Open → Bool → Open
decided_of l v = record { all = l.all; start = l.start; end = l.end; kept = l.kept; fixed = hits l.fixed l.all v }

abbrev pub kept_of : Open → ℕ → Open
kept_of l e = record { all = l.all; start = l.start; end = e; kept = l.kept + 1; fixed = l.fixed }

abbrev pub taken_of : Open → Came → Open
taken_of l (Decided v) = decided_of l v
taken_of l (Kept e) = kept_of l e

-- o holds the list l, whose kept members are gs, from `to` on: six bytes for its record, then the members; before `to` stands what o₀ has
pub record At (l : Open) (gs : Formulas) (to : ℕ) (o₀ o : List ℕ) : Type 0 where
  pub from : l.start ≡ to
  pub many : l.kept ≡ count gs
  pub until : l.end ≡ to + 6 + length (encodes gs)
  pub front : take to o ≡ take to o₀
  pub body : take l.end o ≡ take (to + 6) o ++ encodes gs
  pub room : l.end ≤ length o

-- an output of n bytes has room for it
pub record Space (l : Open) (n : ℕ) : Type 0 where
  pub low : l.start + 6 ≤ l.end
  pub high : l.end ≤ n
  pub few : l.kept < 65536

-- whatever members the list has, they are closed by the list rule, and no number is too big
abbrev pub Closes : Open → ℕ → List ℕ → List ℕ → Copied → Type 0
Closes l used o o' r = (gs : Formulas) (to : ℕ) (o₀ : List ℕ) → At l gs to o₀ o → Wrote (close_of l.all l.fixed gs) used to o₀ o' (Ok r)
