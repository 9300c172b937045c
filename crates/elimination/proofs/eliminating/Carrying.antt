-- 01, 'Answers and their order': an elimination carried from one formula on its way to the next, and the answers that come before the first. Whatever
-- stands in a buffer's first 65,536 bytes, the result is the same. Assumes nothing.
use Prim.Native.Nat.{ℕ, ◌-◌, ◌≤◌, ◌<◌}
use mathlib.Core.Path.{◌≡◌, sym, ◌∙◌, ap, ap₂, subst, refl}
use mathlib.Core.Bool.{Bool, true, false, ◌||◌, cond}
use mathlib.Core.Logic.{◌⊎◌, inl, inr}
use mathlib.Core.List.{List, [], ◌++◌, append-nil}
use native.Mathlib.Omega.{arith}
use lib.Dec.{ltb}
use lib.ListN.{length, take, drop, length-append, length-drop}
use lib.Seq.{length-take-le, take_at, drop_at}
use Rattle.std.proofs.lemmas.Slice.{drop-append-drop}
use borrow.Author.Tests.{lt-ltb, le-ltb, ltb-false}
use Rattle.reading.specs.AnswerNumbers.{long_result}
use Rattle.reading.specs.Limits.{sheet_bytes, sheet_levels, result_bytes, result_levels}
use Rattle.reading.specs.Bytes.{Bytes, zeros}
use Rattle.reading.specs.Formula.{Formula, encode, Fits, Free}
use Rattle.reading.specs.Reading.{Read, good, formula_in, tree_of, Exactly}
use Rattle.reading.specs.Answers.{reading, refusal_no}
use Rattle.reading.specs.declared.Refused.{Refused}
use Rattle.reading.specs.Answers as Answers
use Rattle.std.specs.Prelude.{Ok, Err, IsOk}
use Rattle.reading.proofs.Accepts.{accepted}
use Rattle.reading.proofs.Laws.{reads}
use Rattle.reading.proofs.Places.{nothing-free}
use Rattle.reading.proofs.Trees.{fits_more, tree_is, begins, exactly-tree}
use Rattle.exact.specs.Atoms.{nowhere}
use Rattle.rules.specs.Pushing.{push}
use Rattle.rules.specs.Lists.{known}
use Rattle.rules.specs.Copies.{fits}
use Rattle.rules.specs.Levels.{Wide}
use Rattle.rules.specs.Steps.{Run, ran, halted, eliminated}
use Rattle.rules.specs.Eliminate.{Result, verdict_by, cleared, refused, delivered, finished, by_run, by_reading, eliminate, eliminate_in, room_bytes}
use Rattle.rules.proofs.Answers.{room_small, in_small}
use Rattle.rules.proofs.Limits.Levels.{fits-wide, wide_fits}
use Rattle.rules.proofs.Limits.Copies.{finishing-fits, finished-fits}
use Rattle.rules.proofs.Stepwise.Run.{eliminated-wide, run-done}
use Rattle.elimination.specs.Stepping.{held, Stands}
use Rattle.elimination.specs.Running.{Reached, RanTo}
use Rattle.elimination.specs.Finishing.{Unquantified, FinishesIn}
use Rattle.elimination.specs.Eliminating.{Accepted, Reply, Gives, Carried, Carries}
use Rattle.elimination.proofs.running.RunLaws.{held-is, stands-as, eliminated-short}
use Rattle.elimination.proofs.eliminating.Delivery.{outcome}

-- ---- a result says nothing of a buffer's first 65,536 bytes

run-same : (n : ℕ) (o : Run) (a a₀ w w₀ : List ℕ) → drop result_bytes a ≡ drop result_bytes a₀ → drop result_bytes w ≡ drop result_bytes w₀ → by_run n o a w ≡ by_run n o a₀ w₀
run-same n (halted e p) a a₀ w w₀ d h = ap₂ (λ (k l : List ℕ). refused e p (zeros result_bytes ++ k) (zeros result_bytes ++ l)) d h
run-same n (ran f) a a₀ w w₀ d h =
    ap₂ (λ (k l : List ℕ).
    cond (ltb result_bytes (length (encode (finished f)))) (refused long_result n (zeros result_bytes ++ k) (zeros result_bytes ++ l))
    (record {
      number = 0;
      verdict = verdict_by (known (finished f));
      place = 0;
      length = length (encode (finished f));
      result = encode (finished f) ++ (zeros (result_bytes - length (encode (finished f))) ++ k);
      work = zeros result_bytes ++ l;
    }))
    d h

-- an elimination of f came to a formula whose run is o, and the buffers are as they were past their first 65,536 bytes: what it gives from there on is what
-- it gives
module _ (f : Formula) (a₀ a w₀ w : List ℕ) (d : drop result_bytes a ≡ drop result_bytes a₀) (h : drop result_bytes w ≡ drop result_bytes w₀) where
  pub gives-from : (n : ℕ) (o : Run) (r : Reply) (x y : List ℕ) → eliminated f ≡ o → Gives (by_run n o a w) r x y → Gives (by_run n (eliminated f) a₀ w₀) r x y
  gives-from n o r x y e = subst (λ (q : Result). Gives q r x y) (run-same n o a a₀ w w₀ d h ∙ ap (λ (k : Run). by_run n k a₀ w₀) (sym e))

  pub carries-from : (g : Formula) (n room : ℕ) (x y : List ℕ) (q : Carried) → eliminated f ≡ eliminated g → Carries g n room a x w y q → Carries f n room a₀ x w₀ y q
  carries-from g n room x y (Ok r) e c = gives-from n (eliminated g) r x y e c
  carries-from g n room x y (Err s) e c = (record { stands = c.0.stands; wide = c.0.wide; same = e ∙ c.0.same }, c.1 ∙ d, c.2 ∙ h, c.3)

-- ---- how far an elimination came

module _ (f : Formula) (m room : ℕ) (a₀ a w₀ w : List ℕ) {q : Carried} (c : Carries f m room a₀ a w₀ w q) where
  -- to its reply
  pub carried-done : (r : Reply) → q ≡ Ok r → Gives (by_run m (eliminated f) a₀ w₀) r a w
  carried-done r e = subst (Carries f m room a₀ a w₀ w) e c

-- with 524,288 bytes always
pub carried-ok : (f : Formula) (m room : ℕ) (a₀ a w₀ w : List ℕ) (q : Carried) → Carries f m room a₀ a w₀ w q → room_bytes ≤ room → IsOk q
carried-ok f m room a₀ a w₀ w (Ok r) c h = refl
carried-ok f m room a₀ a w₀ w (Err s) c h = absurd (omega (arith, c.3))

-- ---- the finishing pass

-- with no quantifier left the run is over
free-ran : (f : Formula) → Free f → eliminated f ≡ ran f
free-ran f h = run-done f ((nothing-free true f).1 h)

module _ {f : Formula} {a₀ a : List ℕ} {n : ℕ} (s : FinishesIn f a₀ a n) (w : Fits result_levels (finished f)) where
  taken : n ≤ result_bytes → take n a ≡ encode (finished f)
  taken h = ap (λ (k : ℕ). take k a) s.answer ∙ s.bytes (omega (arith, s.answer))

  -- the result stands at the start of the buffer
  pub finished-exactly : n ≤ result_bytes → Exactly (take n a) (held n a)
  finished-exactly h = let x : Exactly (take n a) (finished f) = record { bytes = taken h; fits = w } in exactly-tree x

  -- what is given of it is the result of the run that ends in f
  given-run : (m : ℕ) (v : List ℕ) → outcome n m a v ≡ by_run m (ran f) a v
  given-run m v = go (ltb result_bytes n) refl ∙ ap (λ (k : ℕ). cond (ltb result_bytes k) long (delivered (finished f) a v)) s.answer
    where
      long : Result
      long = refused long_result m (cleared a) (cleared v)

      go : (b : Bool) → ltb result_bytes n ≡ b → cond (ltb result_bytes n) long (delivered (held n a) a v) ≡ cond (ltb result_bytes n) long (delivered (finished f) a v)
      go true e = ap (λ (b : Bool). cond b long (delivered (held n a) a v)) e ∙ sym (ap (λ (b : Bool). cond b long (delivered (finished f) a v)) e)
      go false e = ap (λ (g : Formula). cond (ltb result_bytes n) long (delivered g a v)) (held-is n a (finished f) w (taken (ltb-false result_bytes n e)))

-- given to the caller
pub ended-gives : (n₀ n : ℕ) (a₀ a w₀ w : List ℕ) (m : ℕ) (r : Reply) (x y : List ℕ) → Unquantified n₀ a₀ → FinishesIn (held n₀ a₀) a₀ a n → drop result_bytes w ≡ drop result_bytes w₀
    → Gives (outcome n m a w) r x y → Gives (by_run m (eliminated (held n₀ a₀)) a₀ w₀) r x y
ended-gives n₀ n a₀ a w₀ w m r x y u s h g =
    gives-from (held n₀ a₀) a₀ a w₀ w s.rest h m (ran (held n₀ a₀)) r x y (free-ran (held n₀ a₀) u.free) (subst (λ (q : Result). Gives q r x y) (given-run s u.levels m w) g)

-- ---- after the run

-- a run over f without a refusal leaves a formula that the finishing pass takes
pub record Left (f : Formula) (n : ℕ) (cur : List ℕ) : Type 0 where
  pub reached : Reached f n cur
  pub unquantified : Unquantified n cur

pub run-left : (f : Formula) (n room : ℕ) (cur : List ℕ) → Wide result_levels f → length (encode f) ≤ result_bytes → result_bytes ≤ length cur → RanTo f room cur (Ok (Ok n)) → Left f n cur
run-left f n room cur w h l s =
    let g = s.0 in
    let v = eliminated-wide result_levels f g w s.1 in
    let d = wide_fits g result_levels v.0 in
    let is = held-is n cur g d s.3 in
    let stands = stands-as n cur g d s.3 (omega (arith, s.2, eliminated-short f g h s.1)) l in
    record {
      reached = record { stands = stands; wide = subst (Wide result_levels) (sym is) v.0; same = s.1 ∙ sym (free-ran g v.1) ∙ ap eliminated (sym is) };
      unquantified = record {
        stands = stands;
        free = subst Free (sym is) v.1;
        numbers = ap (λ (k : Formula). fits nowhere (push false k)) is ∙ finishing-fits result_levels g v.0 v.1;
        levels = subst (λ (k : Formula). Fits result_levels (finished k)) (sym is) (wide_fits (finished g) result_levels (finished-fits result_levels g v.0 v.1));
      };
    }

-- ---- the sheet in the result buffer

pub record Pasted (s d₀ d : List ℕ) : Type 0 where
  pub stands : Stands (length s) d
  pub tree : held (length s) d ≡ tree_of s
  pub wide : Wide result_levels (held (length s) d)
  pub rest : drop result_bytes d ≡ drop result_bytes d₀

pub pasted : (s d₀ b : List ℕ) → Accepted s → result_bytes ≤ length d₀ → b ≡ s → Pasted s d₀ (b ++ drop (length s) d₀)
pasted s d₀ b a l x =
    let few = a.few in
    let d = b ++ drop (length s) d₀ in
    let t : take (length s) d ≡ encode (tree_of s) = take_at b (drop (length s) d₀) (length s) (ap length x) ∙ x ∙ a.exactly.bytes in
    let is = held-is (length s) d (tree_of s) a.exactly.fits t in
    record {
      stands = stands-as (length s) d (tree_of s) a.exactly.fits t (omega arith) (omega (arith, ap length x, length-append b (drop (length s) d₀), length-drop (length s) d₀));
      tree = is;
      wide = subst (Wide result_levels) (sym is) (fits-wide (tree_of s) sheet_levels a.levels);
      rest = drop-append-drop (length s) d₀ b result_bytes (omega arith) (ap length x);
    }

-- ---- what reading says

pub reading-accepts : (s : List ℕ) (k : ℕ) → Bytes s → reading sheet_bytes sheet_levels s ≡ Answers.Done k → Accepted s
reading-accepts s k ok e =
    let a = accepted sheet_bytes sheet_levels s k ok e in
    let x : Exactly s a.0 = record { bytes = a.2; fits = fits_more a.0 sheet_levels result_levels (omega arith) a.1 } in
    record { exactly = exactly-tree x; levels = subst (Fits sheet_levels) (sym (tree_is (begins x))) a.1; few = a.3 }

pub sheet-accepted : (s a w : List ℕ) (k : ℕ) → reading sheet_bytes sheet_levels s ≡ Answers.Done k → Accepted s → result_bytes ≤ length a → result_bytes ≤ length w
    → eliminate s a w ≡ by_run (length s) (eliminated (tree_of s)) a w
unfolding eliminate
sheet-accepted s a w k e x l m =
    let f : formula_in sheet_levels s ≡ good (tree_of s) (length (encode (tree_of s))) = ap (formula_in sheet_levels) (x.exactly.bytes ∙ sym (append-nil (encode (tree_of s)))) ∙ reads (tree_of s) sheet_levels [] x.levels in
    ap₂ (λ (b c : Bool). cond (b || c) (refused 1 0 a w) (by_reading (length s) (reading sheet_bytes sheet_levels s) (formula_in sheet_levels s) a w)) (le-ltb (length a) result_bytes l) (le-ltb (length w) result_bytes m)
    ∙ ap₂ (λ (r : Answers.Reply) (o : Read Formula). by_reading (length s) r o a w) e f

pub sheet-refused : (s a w : List ℕ) (n p : ℕ) → reading sheet_bytes sheet_levels s ≡ Answers.Refused n p → result_bytes ≤ length a → result_bytes ≤ length w → eliminate s a w ≡ refused n p a w
unfolding eliminate
sheet-refused s a w n p e l m =
    ap₂ (λ (b c : Bool). cond (b || c) (refused 1 0 a w) (by_reading (length s) (reading sheet_bytes sheet_levels s) (formula_in sheet_levels s) a w)) (le-ltb (length a) result_bytes l) (le-ltb (length w) result_bytes m)
    ∙ ap (λ (r : Answers.Reply). by_reading (length s) r (formula_in sheet_levels s) a w) e

-- a buffer that is too short
result-small : (s a w : List ℕ) → length a < result_bytes → eliminate s a w ≡ refused 1 0 a w
unfolding eliminate
result-small s a w h =
    ap (λ (b : Bool). cond (b || ltb (length w) result_bytes) (refused 1 0 a w) (by_reading (length s) (reading sheet_bytes sheet_levels s) (formula_in sheet_levels s) a w)) (lt-ltb (length a) result_bytes h)

work-small : (s a w : List ℕ) → result_bytes ≤ length a → length w < result_bytes → eliminate s a w ≡ refused 1 0 a w
unfolding eliminate
work-small s a w l h =
    ap₂ (λ (b c : Bool). cond (b || c) (refused 1 0 a w) (by_reading (length s) (reading sheet_bytes sheet_levels s) (formula_in sheet_levels s) a w)) (le-ltb (length a) result_bytes l) (lt-ltb (length w) result_bytes h)

pub buffers-small : (s a w : List ℕ) → (length a < result_bytes) ⊎ ((result_bytes ≤ length a) × (length w < result_bytes)) → eliminate s a w ≡ refused 1 0 a w
buffers-small s a w (inl h) = result-small s a w h
buffers-small s a w (inr h) = work-small s a w h.0 h.1

pub any-small : (n : ℕ) (s a w : List ℕ) → (length a < result_bytes) ⊎ (((result_bytes ≤ length a) × (length w < result_bytes)) ⊎ ((result_bytes ≤ length a) × (result_bytes ≤ length w) × (n < room_bytes)))
    → eliminate_in n s a w ≡ refused 1 0 a w
any-small n s a w (inl h) = in_small n s a w (result-small s a w h)
any-small n s a w (inr (inl h)) = in_small n s a w (work-small s a w h.0 h.1)
any-small n s a w (inr (inr h)) = room_small n s a w h.2

pub gives-no : (r : Refused) (a w : List ℕ) (o : Result) → o ≡ refused (refusal_no r.why) r.place a w → Gives o (Err r) a w
gives-no r a w o e = subst (λ (x : Result). Gives x (Err r) a w) (sym e) (refl, refl, refl, refl, refl, refl)

-- ---- the caller's room

-- the first n bytes of a room are lent and come back as p
module _ (n : ℕ) (b : List ℕ) where
  pub lent-long : n ≤ length b → n ≤ length (take n b)
  lent-long h = omega (arith, length-take-le n b h)

  pub lent-rest : (p : List ℕ) → n ≤ length b → length p ≡ length (take n b) → drop n (p ++ drop n b) ≡ drop n b
  lent-rest p h e = drop_at p (drop n b) n (e ∙ length-take-le n b h)
