-- 01, 'One step': the loop over all quantifiers. Before each turn the run of the formula in the buffer is the run of the formula at the start; a
-- turn is one step; a step that is refused or wants room, or no quantifier left, ends it. Assumes nothing.
use Prim.Native.Nat.{ℕ, zero, suc, ◌+◌, ◌≤◌, ◌<◌}
use mathlib.Core.Path.{◌≡◌, refl, sym, ◌∙◌, ap, ap₂, subst}
use mathlib.Core.Bool.{Bool, true, false}
use mathlib.Core.List.{List}
use native.Mathlib.Omega.{arith}
use lib.ListN.{length, take}
use lib.Seq.{length-take-le}
use Rattle.reading.specs.Limits.{result_bytes, result_levels}
use Rattle.reading.specs.Formula.{Formula, encode, Fits}
use Rattle.reading.specs.Reading.{Exactly}
use Rattle.reading.specs.Quantifiers.{Quantifier, nothing, at, found_of, last_in}
use Rattle.reading.proofs.Places.{nothing-free}
use Rattle.reading.proofs.Trees.{tree_is, begins, exactly-tree}
use Rattle.rules.specs.Steps.{quantifiers, step, refusal, Run, ran, halted, onward, after_step, run, eliminated}
use Rattle.rules.specs.Eliminate.{room_bytes}
use Rattle.rules.specs.Counts.{Counts, counts_of, larger, together, terms_at}
use Rattle.elimination.specs.Stepping.{held, Stands, refusal_at, Stepped, Fine, Refused, Short, stepped_of, is_short, Steps}
use Rattle.elimination.specs.Running.{Reached, RanTo}
use Rattle.std.specs.Prelude.{Option, Some, None, Ok}
use Rattle.elimination.specs.declared.Tally.{Tally}
use Rattle.rules.specs.Levels.{Wide}
use Rattle.rules.proofs.Limits.Levels.{wide_fits}
use Rattle.rules.proofs.Limits.Copies.{not-refused}
use Rattle.rules.proofs.Stepwise.Around.{free-zero}
use Rattle.rules.proofs.Stepwise.OneStep.{step-wide, step_fewer}
use Rattle.rules.proofs.Stepwise.Run.{run_on, run-stops, run-done}
use Rattle.rules.proofs.Counting.{counts-on, counts-stop, terms-most, counts-none}

-- ---- a formula at the start of a buffer

pub held-is : (n : ℕ) (b : List ℕ) (f : Formula) → Fits result_levels f → take n b ≡ encode f → held n b ≡ f
held-is n b f w e = let x : Exactly (take n b) f = record { bytes = e; fits = w } in tree_is (begins x)

pub stands-as : (n : ℕ) (b : List ℕ) (f : Formula) → Fits result_levels f → take n b ≡ encode f → n ≤ result_bytes → result_bytes ≤ length b → Stands n b
stands-as n b f w e few long = let x : Exactly (take n b) f = record { bytes = e; fits = w } in record { exactly = exactly-tree x; few = few; long = long }

pub held-long : (n : ℕ) (b : List ℕ) → Stands n b → length (encode (held n b)) ≡ n
held-long n b s = let few = s.few in let long = s.long in sym (ap length s.exactly.bytes) ∙ length-take-le n b (omega arith)

-- ---- what is counted

-- of a run that stood at f with d₀ steps and at most m₀ terms, and now stands at g with d and m
pub record Counting (f : Formula) (d₀ m₀ : ℕ) (g : Formula) (d m : ℕ) : Type 0 where
  pub steps : d + (counts_of g).finished ≡ d₀ + (counts_of f).finished
  pub terms : larger m (counts_of g).most ≡ larger m₀ (counts_of f).most

-- the numbers of a tally
abbrev pub sum : ℕ → ℕ → Counts
sum d m = record { finished = d; most = m }

-- ---- before a turn

-- the formula at the start
pub run-begins : (n : ℕ) (cur : List ℕ) → Stands n cur → Wide result_levels (held n cur) → Reached (held n cur) n cur
run-begins n cur s w = record { stands = s; wide = w; same = refl }

-- ---- a turn

fine-is : (e l m : ℕ) → Fine m ≡ stepped_of e l → (e ≡ 0) × (m ≡ l)
fine-is zero l m h = (refl, cc)
fine-is (suc e) l m h = let z : ◌≡◌ {A = ℕ} 0 1 = cc in absurd (omega arith)

refused-is : (e l m : ℕ) → Refused m ≡ stepped_of e l → (n : ℕ) × (e ≡ suc n) × (m ≡ suc n)
refused-is zero l m h = let z : ◌≡◌ {A = ℕ} 0 1 = cc in absurd (omega arith)
refused-is (suc e) l m h = (e, refl, cc)

-- the quantifier that a step is for
record Last (g : Formula) (place : ℕ) : Type 0 where
  every : Bool
  variable : ℕ
  body : Formula
  last : last_in g ≡ at place every variable body

last_of : (g : Formula) (o : ℕ) → found_of (last_in g) ≡ Some o → Last g o
last_of g o h = go (last_in g) refl
  where
    go : (q : Quantifier) → last_in g ≡ q → Last g o
    go nothing e = let z : ◌≡◌ {A = Option ℕ} None (Some o) = sym (ap found_of e) ∙ h in cc
    go (at p b v k) e =
        let z : ◌≡◌ {A = Option ℕ} (Some p) (Some o) = sym (ap found_of e) ∙ h in
        let p-is : p ≡ o = cc in
        record { every = b; variable = v; body = k; last = e ∙ ap (λ (q : ℕ). at q b v k) p-is }

-- what a step that is not refused leaves in the buffer
pub record Next (f : Formula) (before n : ℕ) (cur : List ℕ) : Type 0 where
  pub reached : Reached f n cur
  pub fewer : before ≡ suc (quantifiers (held n cur))

module _ {f : Formula} {n o : ℕ} {cur : List ℕ} {room : ℕ} {cur' work work' : List ℕ} {r : Stepped} (t : Reached f n cur) (h : found_of (last_in (held n cur)) ≡ Some o) (s : Steps (held n cur) room cur cur' work work' r) where
  here : Last (held n cur) o
  here = last_of (held n cur) o h

  number : refusal_at (last_in (held n cur)) (step (held n cur)) ≡ refusal here.variable here.body (step (held n cur))
  number = ap (λ (q : Quantifier). refusal_at q (step (held n cur))) here.last

  answer : (q : Stepped) → r ≡ q → is_short q ≡ false → q ≡ stepped_of (refusal_at (last_in (held n cur)) (step (held n cur))) (length (encode (step (held n cur))))
  answer q e k = sym e ∙ s.tried.answer (ap is_short e ∙ k)

  pub run-next : (m : ℕ) → r ≡ Fine m → length cur' ≡ length cur → Next f (quantifiers (held n cur)) m cur'
  run-next m e l =
      let g = held n cur in
      let w = here in
      let a = fine-is (refusal_at (last_in g) (step g)) (length (encode (step g))) m (answer (Fine m) e refl) in
      let x : refusal w.variable w.body (step g) ≡ 0 = sym number ∙ a.0 in
      let wide = step-wide result_levels g o w.every w.variable w.body w.last x t.wide in
      let fits = wide_fits (step g) result_levels wide in
      let bytes = s.tried.bytes (ap is_short e) a.0 in
      let long = t.stands.long in
      let is = held-is (length (encode (step g))) cur' (step g) fits bytes in
      subst (λ (k : ℕ). Next f (quantifiers g) k cur') (sym a.1)
      (record {
        reached = record {
          stands = stands-as (length (encode (step g))) cur' (step g) fits bytes (not-refused w.variable w.body (step g) x).short (omega arith);
          wide = subst (Wide result_levels) (sym is) wide;
          same = t.same ∙ run_on g o w.every w.variable w.body w.last x ∙ ap eliminated (sym is);
        };
        fewer = step_fewer g o w.every w.variable w.body w.last ∙ ap (λ (k : Formula). suc (quantifiers k)) (sym is);
      })

  pub run-stopped : (m : ℕ) → r ≡ Refused m → eliminated f ≡ halted m o
  run-stopped m e =
      let g = held n cur in
      let w = here in
      let a = refused-is (refusal_at (last_in g) (step g)) (length (encode (step g))) m (answer (Refused m) e refl) in
      t.same ∙ run-stops g o w.every w.variable w.body a.0 w.last (sym number ∙ a.1)
      ∙ ap (λ (e : ℕ). halted e o) (sym a.2)

  module _ {d₀ m₀ : ℕ} {before after : Tally} (i : after ≡ record { steps = before.steps; terms = larger before.terms (terms_at (last_in (held n cur))) }) (c : Counting f d₀ m₀ (held n cur) before.steps before.terms) where
    steps-same : after.steps ≡ before.steps
    steps-same = ap (λ (t : Tally). t.steps) i

    terms_more : after.terms ≡ larger before.terms (terms_at (last_in (held n cur)))
    terms_more = ap (λ (t : Tally). t.terms) i

    pub count_next : (j : ℕ) → r ≡ Fine j → Counting f d₀ m₀ (held j cur') (after.steps + 1) after.terms
    count_next j e =
        let g = held n cur in
        let w = here in
        let a = fine-is (refusal_at (last_in g) (step g)) (length (encode (step g))) j (answer (Fine j) e refl) in
        let x : refusal w.variable w.body (step g) ≡ 0 = sym number ∙ a.0 in
        let wide = step-wide result_levels g o w.every w.variable w.body w.last x t.wide in
        let is = ap (λ (l : ℕ). held l cur') a.1 ∙ held-is (length (encode (step g))) cur' (step g) (wide_fits (step g) result_levels wide) (s.tried.bytes (ap is_short e) a.0) in
        let one = counts-on g o w.every w.variable w.body w.last x in
        let steps-now = ap (λ (h : Formula). (counts_of h).finished) is in
        let terms-now = ap (λ (h : Formula). (counts_of h).most) is in
        record {
          steps = omega (arith, c.steps, ap (λ (y : Counts). y.finished) one, steps-now, steps-same);
          terms = omega (arith, c.terms, ap (λ (y : Counts). y.most) one, terms-now, terms_more);
        }

    pub count-stopped : (j : ℕ) → r ≡ Refused j → sum after.steps after.terms ≡ together (sum d₀ m₀) (counts_of f)
    count-stopped j e =
        let g = held n cur in
        let w = here in
        let a = refused-is (refusal_at (last_in g) (step g)) (length (encode (step g))) j (answer (Refused j) e refl) in
        let one = counts-stop g o w.every w.variable w.body w.last a.0 (sym number ∙ a.1) in
        ap₂ sum (omega (arith, c.steps, ap (λ (y : Counts). y.finished) one, steps-same)) (omega (arith, c.terms, ap (λ (y : Counts). y.most) one, terms_more))

    pub count-wants : r ≡ Short → together (sum after.steps after.terms) (counts_of (held n cur')) ≡ together (sum d₀ m₀) (counts_of f)
    count-wants e =
        let g = held n cur in
        let w = here in
        let is = ap (held n) (s.tried.again (ap is_short e)) in
        let steps-now = ap (λ (h : Formula). (counts_of h).finished) is in
        let terms-now = ap (λ (h : Formula). (counts_of h).most) is in
        ap₂ sum (omega (arith, c.steps, steps-now, steps-same)) (omega (arith, c.terms, terms-now, terms-most g o w.every w.variable w.body w.last, terms_more))

  pub run-wants : r ≡ Short → Reached f n cur' × (room < room_bytes)
  run-wants e = (subst (Reached f n) (sym (s.tried.again (ap is_short e))) t, s.roomy (ap is_short e))

-- ---- after the last turn

none_left : (q : Quantifier) → found_of q ≡ None → q ≡ nothing
none_left nothing h = refl
none_left (at p b v k) h = let z : ◌≡◌ {A = ℕ} 0 1 = cc in absurd (omega arith)

pub run-finishes : {f : Formula} {n : ℕ} {cur : List ℕ} (room : ℕ) → Reached f n cur → found_of (last_in (held n cur)) ≡ None → RanTo f room cur (Ok (Ok n))
run-finishes {f} {n} {cur} room t h =
    let g = held n cur in
    (g, t.same ∙ run-done g (none_left (last_in g) h), sym (held-long n cur t.stands), t.stands.exactly.bytes)

pub count-ends : {f : Formula} (g : Formula) {d₀ m₀ d m : ℕ} → found_of (last_in g) ≡ None → Counting f d₀ m₀ g d m → sum d m ≡ together (sum d₀ m₀) (counts_of f)
count-ends {f} g h c =
    let one = counts-none g (none_left (last_in g) h) in
    ap₂ sum (omega (arith, c.steps, ap (λ (y : Counts). y.finished) one)) (omega (arith, c.terms, ap (λ (y : Counts). y.most) one))

-- ---- what a run ends in is not too long

abbrev ShortRun : Run → Type 0
ShortRun (ran g) = length (encode g) ≤ result_bytes
ShortRun (halted e p) = Unit {0}

run_short : (n : ℕ) (f : Formula) → length (encode f) ≤ result_bytes → quantifiers f ≡ n → ShortRun (run n f)
unfolding run
run_short zero f h q = h
run_short (suc n) f h q = go (last_in f) refl (λ k z. run_short n (step f) k z)
  where
    on : (p : ℕ) (b : Bool) (v : ℕ) (g : Formula) → last_in f ≡ at p b v g → (length (encode (step f)) ≤ result_bytes → quantifiers (step f) ≡ n → ShortRun (run n (step f)))
        → (e : ℕ) → refusal v g (step f) ≡ e → ShortRun (onward e p (run n (step f)))
    on p b v g l ih zero r = ih (not-refused v g (step f) r).short (omega (arith, step_fewer f p b v g l))
    on p b v g l ih (suc e) r = tt

    go : (l : Quantifier) → last_in f ≡ l → (length (encode (step f)) ≤ result_bytes → quantifiers (step f) ≡ n → ShortRun (run n (step f))) → ShortRun (after_step l (step f) (run n (step f)))
    go nothing e ih = absurd (omega (arith, free-zero f ((nothing-free true f).0 e)))
    go (at p b v g) e ih = on p b v g e ih (refusal v g (step f)) refl

pub eliminated-short : (f g : Formula) → length (encode f) ≤ result_bytes → eliminated f ≡ ran g → length (encode g) ≤ result_bytes
unfolding eliminated
eliminated-short f g h e = subst ShortRun e (run_short (quantifiers f) f h refl)
