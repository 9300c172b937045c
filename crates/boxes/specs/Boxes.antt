-- #102: sheets in boxes, one after the other; the line that is told of each, where the walk over them ends and why, and the totals.
use Rattle.std.specs.Prelude.{ℕ, zero, suc, ◌+◌, ◌-◌, Bool, cond, List, [], ◌∷◌, eqb, ltb, length, take, drop, Option, Some, None, Ok, Err}
use Rattle.std.specs.Prelude as Std
use Rattle.reading.specs.Limits.{result_bytes}
use Rattle.reading.specs.Bytes.{le2, zeros}
use Rattle.rules.specs.Eliminate.{Result, eliminate}
use Rattle.rules.specs.Counts.{Counts, counted}
use Rattle.boxes.specs.declared.BadBox.{BadBox}
use Rattle.elimination.specs.Verdicts.{number_of, verdict_of, length_of}
use Rattle.elimination.specs.declared.Counted.{Counted}
use Rattle.boxes.specs.declared.Line.{Line}
use Rattle.boxes.specs.declared.Totals.{Totals}

-- ---- a box: its length in two bytes, which counts the four bytes here too, then 16 in two bytes, then the sheet

abbrev pub box_kind : ℕ
box_kind = 16

-- what bytes begin with: none are left; a bad box; or a box of so many bytes
pub data Boxed : Type 0 where
  Over : Boxed
  Bad : Boxed
  Whole : ℕ → Boxed

-- what the code says of it
abbrev pub boxed : Std.Result (Option ℕ) BadBox → Boxed
boxed (Ok None) = Over
boxed (Ok (Some n)) = Whole n
boxed (Err b) = Bad

-- what the bytes s begin with: nothing where there are none; a bad box (15), which is cut short, of another kind or of a length under 4; or a box of so many bytes
unfoldable pub box_in : List ℕ → Boxed
box_in s =
    cond (eqb (length s) 0) Boxed.Over
    (cond (ltb (length s) 4) Boxed.Bad
    (cond (eqb (le2 s 2) box_kind) (cond (ltb (le2 s 0) 4) Boxed.Bad (cond (ltb (length s) (le2 s 0)) Boxed.Bad (Boxed.Whole (le2 s 0)))) Boxed.Bad))

-- the sheet in a box of n bytes
abbrev pub sheet_in : ℕ → List ℕ → List ℕ
sheet_in n s = take (n - 4) (drop 4 s)

-- ---- a line: what the elimination of the sheet answers, and what is counted of it

-- the numbers of what was counted
abbrev pub line_told : Counted → Line
line_told c = record { answer = number_of c.reply; verdict = verdict_of c.reply; steps = c.tally.steps; terms = c.tally.terms; length = length_of c.reply }

abbrev pub line_by : Result → Counts → Line
line_by o c = record { answer = o.number; verdict = o.verdict; steps = c.finished; terms = c.most; length = o.length }

-- in any buffers that are long enough it is the same
unfoldable pub line_of : List ℕ → Line
unfolding eliminate counted
line_of sheet = line_by (eliminate sheet (zeros result_bytes) (zeros result_bytes)) (counted sheet (zeros result_bytes) (zeros result_bytes))

-- ---- the walk over an input

-- all boxes are walked; or a bad box stands at that offset
pub data Ending : Type 0 where
  through : Ending
  bad_at : ℕ → Ending

pub record Season : Type 0 where
  pub lines : List Line
  pub ending : Ending

-- at the offset p the bytes s are left, and `rest` is the walk after a box of so many bytes
abbrev pub walk_at : Boxed → ℕ → List ℕ → (ℕ → Season) → Season
walk_at Boxed.Over p s rest = record { lines = []; ending = through }
walk_at Boxed.Bad p s rest = record { lines = []; ending = bad_at p }
walk_at (Boxed.Whole n) p s rest = record { lines = line_of (sheet_in n s) ∷ (rest n).lines; ending = (rest n).ending }

-- of at most n boxes
unfoldable pub walk : ℕ → ℕ → List ℕ → Season
unfolding box_in line_of
walk zero p s = record { lines = []; ending = through }
walk (suc n) p s = walk_at (box_in s) p s (λ k. walk n (p + k) (drop k s))

-- a box takes at least four bytes, so there are fewer than bytes
unfoldable pub season : List ℕ → Season
unfolding walk
season s = walk (suc (length s)) 0 s

-- ---- the totals: the boxes with answer 0, those with verdict 0, 1 and 2 among them, and the sum of their results' lengths

abbrev pub one_if : Bool → ℕ
one_if b = cond b 1 0

unfoldable pub added : Totals → Line → Totals
added t l =
    cond (eqb l.answer 0)
    (record {
      done = t.done + 1;
      no = t.no + one_if (eqb l.verdict 0);
      yes = t.yes + one_if (eqb l.verdict 1);
      free = t.free + one_if (eqb l.verdict 2);
      sum = t.sum + l.length;
    })
    t

abbrev pub nothing : Totals
nothing = record { done = 0; no = 0; yes = 0; free = 0; sum = 0 }

abbrev pub added_all : Totals → List Line → Totals
added_all t [] = t
added_all t (l ∷ ls) = added_all (added t l) ls
