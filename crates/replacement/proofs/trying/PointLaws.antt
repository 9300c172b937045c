-- The points of a body one after the other: trying lists of spots that follow each other, where the copies end (`try-ends`), how far the code has come on
-- its way through the points, which the loops maintain, and the rows of the table by their number. Assumes nothing.
use mathlib.Core.Path.{◌≡◌, refl, sym, ◌∙◌, ap, ap₂, subst}
use mathlib.Core.Bool.{Bool, true, false, ◌&&◌, cond, true≢false}
use mathlib.Core.List.{List, [], ◌∷◌, ◌++◌, append_assoc}
use Prim.Native.Nat.{ℕ, zero, suc, ◌+◌, ◌-◌, ◌≤◌, ◌<◌}
use native.Mathlib.Numerals.{add-one}
use native.Mathlib.Omega.{arith}
use Rattle.std.specs.Prelude.{Result, Ok, Err}
use lib.ListN.{length, take, drop, get_or, length-drop, drop_of_length-le}
use lib.Seq.{drop-cons, take_all}
use lib.IntN.{ℤ}
use Rattle.reading.specs.Formula.{Formula, Formulas, none}
use Rattle.exact.specs.Terms.{midpoint}
use Rattle.exact.specs.Atoms.{Spot, below, above, here, spot_by, Bounded}
use Rattle.exact.specs.declared.Place.{Place}
use Rattle.exact.specs.declared.Place.TheVariants.{Below, Above, At, Nowhere}
use Rattle.exact.proofs.Rows.{each_all}
use Rattle.rules.specs.Points.{midpoints, all_midpoints, points, spot_fits}
use Rattle.rules.specs.Lists.{Known, decided, unknown, known}
use Rattle.rules.specs.Copies.{copy, fits}
use Rattle.rules.specs.Steps.{numbers_fit}
use Rattle.rules.proofs.Limits.Copies.{and_both}
use Rattle.replacement.specs.Listing.{Come, big, come_by, come_of, Tally, over, going, snoc, add, tally, opened_of}
use Rattle.replacement.specs.Copying.{came}
use Rattle.replacement.specs.Gathering.{Row, Rows, Table}
use Rattle.replacement.specs.Trying.{ends_of, Lists, Tells, Tries, try_at, try_all, Sure, Holding}
use Rattle.replacement.specs.declared.Body.{Body}
use Rattle.replacement.specs.declared.Copies.{Copies}
use Rattle.replacement.specs.declared.Unmade.{Unmade}
use Rattle.replacement.specs.declared.Unmade.TheVariants.{Big, Short}
use Rattle.replacement.proofs.listing.Members.{at-opened}
use Rattle.replacement.proofs.listing.Tallying.{tally-append, tally-over}

-- ---- the spots one after the other

try-append : (rs ss : List Spot) (p : Formula) → try_all (rs ++ ss) p ≡ try_all rs p ++ try_all ss p
try-append [] ss p = refl
try-append (q ∷ rs) ss p = ap (λ (cs : List Come). try_at q p ∷ cs) (try-append rs ss p)

tally-spots : (all : Bool) (t : Tally) (rs ss : List Spot) (p : Formula) → tally all t (try_all (rs ++ ss) p) ≡ tally all (tally all t (try_all rs p)) (try_all ss p)
tally-spots all t rs ss p = ap (tally all t) (try-append rs ss p) ∙ tally-append all t (try_all rs p) (try_all ss p)

-- numbers that fit: at the first spot and at the others; at the spots rs and at those that follow
one-fits : (q : Spot) (ss : List Spot) (p : Formula) → numbers_fit (q ∷ ss) p ≡ true → (spot_fits q ≡ true) × (fits q p ≡ true) × (numbers_fit ss p ≡ true)
unfolding numbers_fit
one-fits q ss p e = let y = and_both (spot_fits q && fits q p) (numbers_fit ss p) e in let z = and_both (spot_fits q) (fits q p) y.0 in (z.0, z.1, y.1)

fit_append : (rs ss : List Spot) (p : Formula) → numbers_fit (rs ++ ss) p ≡ true → (numbers_fit rs p ≡ true) × (numbers_fit ss p ≡ true)
unfolding numbers_fit
fit_append [] ss p e = (refl, e)
fit_append (q ∷ rs) ss p e =
    let y = and_both (spot_fits q && fits q p) (numbers_fit (rs ++ ss) p) e in
    let z = fit_append rs ss p y.1 in
    (ap (λ (a : Bool). a && numbers_fit rs p) y.0 ∙ z.0, z.1)

-- ---- where the copies end

-- a decided list stays decided, whatever members come, where no number is too big
add-sure : (all : Bool) (gs : Formulas) (q : Spot) (p : Formula) → spot_fits q ≡ true → fits q p ≡ true → (hs : Formulas) × (add all (going true gs) (try_at q p) ≡ going true hs)
unfolding came
add-sure all gs q p a b =
    let z = go (known (copy q p)) in
    (z.0, ap₂ (λ (x y : Bool). add all (going true gs) (cond x (cond y (come_of (copy q p)) big) big)) a b ∙ z.1)
  where
    go : (k : Known) → (hs : Formulas) × (add all (going true gs) (come_by k (copy q p)) ≡ going true hs)
    go (decided v) = (gs, refl)
    go unknown = (snoc gs (copy q p), refl)

tally-sure : (all : Bool) (gs : Formulas) (ss : List Spot) (p : Formula) → numbers_fit ss p ≡ true → (hs : Formulas) × (tally all (going true gs) (try_all ss p) ≡ going true hs)
tally-sure all gs [] p n = (gs, refl)
tally-sure all gs (q ∷ ss) p n =
    let f = one-fits q ss p n in
    let a = add-sure all gs q p f.0 f.1 in
    let z = tally-sure all a.0 ss p f.2 in
    (z.0, ap (λ (t : Tally). tally all t (try_all ss p)) a.1 ∙ z.1)

stops : (calm fixed : Bool) → cond calm fixed false ≡ true → (calm ≡ true) × (fixed ≡ true)
stops true fixed n = (refl, n)
stops false fixed n = absurd (true≢false (sym n))

-- said of another tally and another length
retells : (all : Bool) {t u : Tally} (b : ℕ) {m n : ℕ} (o₀ o : List ℕ) (x : Result Copies Unmade) → u ≡ t → m ≡ n → Tells all t b m o₀ o x → Tells all u b n o₀ o x
retells all {t} {u} b {m} {n} o₀ o x e f h = subst (λ (k : ℕ). Tells all u b k o₀ o x) f (subst (λ (v : Tally). Tells all v b m o₀ o x) (sym e) h)

module _ (b : ℕ) (c d : Copies) (p : Formula) (o o' : List ℕ) (rs ss : List Spot) (f : Tries b c (try_all rs p) o o' (Ok d)) where
  try-then : (o'' : List ℕ) (x : Result Copies Unmade) → length o' ≡ length o → Tries b d (try_all ss p) o' o'' x → Tries b c (try_all (rs ++ ss) p) o o'' x
  try-then o'' x m g = record { tells = λ all t o₀ l. retells all b o₀ o'' x (tally-spots all t rs ss p) m (g.tells all (tally all t (try_all rs p)) o₀ (f.tells all t o₀ l)) }

  -- where the copies end, no later spot matters
  try-ends : (calm : Bool) → ends_of d calm ≡ true → (calm ≡ true → numbers_fit ss p ≡ true) → Tries b c (try_all (rs ++ ss) p) o o' (Ok d)
  try-ends calm e n =
      record { tells = λ all t o₀ l. subst (λ (u : Tally). Lists all u d o₀ o') (sym (tally-spots all t rs ss p)) (go all o₀ (tally all t (try_all rs p)) (f.tells all t o₀ l)) }
    where
      go : (all : Bool) (o₀ : List ℕ) (u : Tally) → Lists all u d o₀ o' → Lists all (tally all u (try_all ss p)) d o₀ o'
      go all o₀ over k = absurd k
      go all o₀ (going y gs) k =
          let h = stops calm d.list.fixed e in
          let i : y ≡ true = sym k.fixed ∙ h.1 in
          let z = tally-sure all gs ss p (n h.0) in
          subst (λ (u : Tally). Lists all u d o₀ o') (sym (ap (λ (x : Bool). tally all (going x gs) (try_all ss p)) i ∙ z.1))
          (record { fixed = h.1; same = k.same; end = k.end; few = k.few; live = λ m. absurd (true≢false m) })

-- where a number was too big, or there is no room, no later spot matters either
try-stops : (b : ℕ) (c : Copies) (p : Formula) (o o' : List ℕ) (rs ss : List Spot) (e : Unmade) → Tries b c (try_all rs p) o o' (Err e) → Tries b c (try_all (rs ++ ss) p) o o' (Err e)
try-stops b c p o o' rs ss Big f = record { tells = λ all t o₀ l. tally-spots all t rs ss p ∙ ap (λ (u : Tally). tally all u (try_all ss p)) (f.tells all t o₀ l) ∙ tally-over all (try_all ss p) }
try-stops b c p o o' rs ss Short f = record { tells = f.tells }

-- ---- one spot: its own numbers fit, or one is too big

module _ (b : ℕ) (c : Copies) (q : Spot) (p : Formula) (o o' : List ℕ) (x : Result Copies Unmade) where
  pub try-fits : spot_fits q ≡ true → Tries b c (came q p ∷ []) o o' x → Tries b c (try_all (q ∷ []) p) o o' x
  try-fits e = subst (λ (z : Bool). Tries b c (cond z (came q p) big ∷ []) o o' x) (sym e)

-- the numbers of the body at the one spot fit
pub one-sure : (body : Body) (q : Spot) (p : Formula) → Sure body (q ∷ []) p → body.way.calm ≡ true → fits q p ≡ true
one-sure body q p h k = (one-fits q [] p (h k)).1

-- a place whose numbers lie in −M..M
pub place-fits : (k : Place) (x : ℕ) → Bounded k → spot_fits (spot_by k x) ≡ true
place-fits Below x b = refl
place-fits Above x b = refl
place-fits (At n) x b = each_all b
place-fits Nowhere x b = refl

-- ---- a list of the copies that holds a tally

pub opened-lists : (all : Bool) (o : List ℕ) → 6 ≤ length o → Lists all (going false none) (record { list = opened_of all 0; over = false }) o o
opened-lists all o h =
    record {
      fixed = refl;
      same = refl;
      end = omega arith;
      few = omega arith;
      live = λ n. record { written = λ e. at-opened all 0 o h; large = λ e. absurd (true≢false (sym e)) };
    }

-- ---- how far the code has come

-- of the spots ps those `done` were tried, from c to d, and qs are still before it
pub record Way (body : Body) (c d : Copies) (ps qs : List Spot) (p : Formula) (o o' : List ℕ) : Type 0 where
  pub done : List Spot
  pub split : ps ≡ done ++ qs
  pub tries : Tries body.bytes c (try_all done p) o o' (Ok d)
  pub sure : Sure body qs p
  pub holding : Holding d o'
  pub long : length o' ≡ length o

-- no spot was tried
none_tried : (b : ℕ) {c : Copies} {o : List ℕ} → Tries b c [] o o (Ok c)
none_tried b = record { tells = λ all t o₀ l. l }

pub way-start : (body : Body) {c : Copies} (ps : List Spot) (p : Formula) {o : List ℕ} → Sure body ps p → Holding c o → Way body c c ps ps p o o
way-start body ps p s h = record { done = []; split = refl; tries = none_tried body.bytes; sure = s; holding = h; long = refl }

-- the spots qs are first rs, and then ss
pub record Parts (qs rs ss : List Spot) : Type 0 where
  pub is : qs ≡ rs ++ ss

module _ {body : Body} {c d : Copies} {ps qs : List Spot} {p : Formula} {o o' : List ℕ} (w : Way body c d ps qs p o o') where
  -- the spots rs, and then nothing is left
  pub way-last : {rs : List Spot} {o'' : List ℕ} {x : Result Copies Unmade} → qs ≡ rs → Tries body.bytes d (try_all rs p) o' o'' x → Tries body.bytes c (try_all ps p) o o'' x
  way-last {rs} {o''} {x} e n =
      subst (λ (z : List Spot). Tries body.bytes c (try_all z p) o o'' x) (sym (w.split ∙ ap (λ (z : List Spot). w.done ++ z) e))
      (try-then body.bytes c d p o o' w.done rs w.tries o'' x w.long n)

  -- nothing was left
  pub way_end : qs ≡ [] → Tries body.bytes c (try_all ps p) o o' (Ok d)
  way_end e = way-last e (none_tried body.bytes)

  module _ {rs ss : List Spot} (e : Parts qs rs ss) where
    sure-parts : body.way.calm ≡ true → (numbers_fit rs p ≡ true) × (numbers_fit ss p ≡ true)
    sure-parts k = fit_append rs ss p (subst (λ (z : List Spot). numbers_fit z p ≡ true) e.is (w.sure k))

    -- what the spots rs ask for
    pub way-sure : Sure body rs p
    way-sure k = (sure-parts k).0

    -- the spots rs, and the copies go on
    pub way-more : {o'' : List ℕ} {x : Copies} → Tries body.bytes d (try_all rs p) o' o'' (Ok x) → length o'' ≡ length o' → Way body c x ps ss p o o''
    way-more {o''} {x} n m =
        let h = w.holding in
        record {
          done = w.done ++ rs;
          split = w.split ∙ ap (λ (z : List Spot). w.done ++ z) e.is ∙ sym (append_assoc w.done rs ss);
          tries = try-then body.bytes c d p o o' w.done rs w.tries o'' (Ok x) w.long n;
          sure = λ k. (sure-parts k).1;
          holding = record { all = h.all; so_far = tally h.all h.so_far (try_all rs p); before = h.before; lists = n.tells h.all h.so_far h.before h.lists };
          long = m ∙ w.long;
        }

    -- the spots rs, where the copies end, or stop
    pub way-ends : {o'' : List ℕ} {x : Copies} → Tries body.bytes d (try_all rs p) o' o'' (Ok x) → ends_of x body.way.calm ≡ true → Tries body.bytes c (try_all ps p) o o'' (Ok x)
    way-ends {o''} {x} n b = way-last e.is (try-ends body.bytes d x p o' o'' rs ss n body.way.calm b (λ k. (sure-parts k).1))

    pub way-stops : {o'' : List ℕ} {u : Unmade} → Tries body.bytes d (try_all rs p) o' o'' (Err u) → Tries body.bytes c (try_all ps p) o o'' (Err u)
    way-stops {o''} {u} n = way-last e.is (try-stops body.bytes d p o' o'' rs ss u n)

-- ---- the terms by their number

-- each is a row
pub row-at : (ts : List (List ℤ)) (i : ℕ) → i < length ts → Rows ts → Row (get_or ts i [])
row-at [] i h r = absurd (omega arith)
row-at (t ∷ ts) zero h r = r.0
row-at (t ∷ ts) (suc i) h r = row-at ts i (omega arith) r.1

pub table-from : {ts : List (List ℤ)} (i : ℕ) → Table ts → Table (take (length ts - i) (drop i ts))
table-from {ts} i t =
    let e = take_all (length ts - i) (drop i ts) (omega (arith, length-drop i ts)) in
    subst Table (sym e) (record { few = omega (arith, t.few, length-drop i ts); rows = go ts i t.rows })
  where
    go : (ts : List (List ℤ)) (i : ℕ) → Rows ts → Rows (drop i ts)
    go ts zero r = r
    go [] (suc i) r = r
    go (t ∷ ts) (suc i) r = go ts i r.1

rows-cons : (ts : List (List ℤ)) (i : ℕ) → i < length ts → drop i ts ≡ get_or ts i [] ∷ drop (i + 1) ts
rows-cons ts i h = drop-cons ts i [] h ∙ ap (λ (k : ℕ). get_or ts i [] ∷ drop k ts) (sym (add-one i))

module _ (x : ℕ) (ts : List (List ℤ)) (i : ℕ) where
  pub mid-turn : (t : List ℤ) → i < length ts → Parts (midpoints x t (drop i ts)) (here x (midpoint t (get_or ts i [])) ∷ []) (midpoints x t (drop (i + 1) ts))
  unfolding midpoints
  mid-turn t h = record { is = ap (midpoints x t) (rows-cons ts i h) }

  pub mid-end : (t : List ℤ) → length ts ≤ i → midpoints x t (drop i ts) ≡ []
  unfolding midpoints
  mid-end t h = ap (midpoints x t) (drop_of_length-le ts h)

  -- from the term i on, as the code takes them
  pub from-is : take (length ts - i) (drop i ts) ≡ drop i ts
  from-is = take_all (length ts - i) (drop i ts) (omega (arith, length-drop i ts))

  pub rows-turn : i < length ts → Parts (all_midpoints x (drop i ts)) (midpoints x (get_or ts i []) (take (length ts - i) (drop i ts))) (all_midpoints x (drop (i + 1) ts))
  unfolding all_midpoints
  rows-turn h =
      let e = rows-cons ts i h in
      record { is = ap (all_midpoints x) e ∙ ap (λ (us : List (List ℤ)). midpoints x (get_or ts i []) us ++ all_midpoints x (drop (i + 1) ts)) (sym e ∙ sym from-is) }

  pub rows_end : length ts ≤ i → all_midpoints x (drop i ts) ≡ []
  unfolding all_midpoints
  rows_end h = ap (all_midpoints x) (drop_of_length-le ts h)

module _ (x : ℕ) where
  -- with no term there is one point
  pub points_none : (ts : List (List ℤ)) → length ts ≡ 0 → points x ts ≡ below x ∷ []
  unfolding points
  points_none [] e = refl
  points_none (t ∷ ts) e = absurd (omega arith)

  pub points-some : (ts : List (List ℤ)) → 0 < length ts → Parts (points x ts) (below x ∷ []) (above x ∷ all_midpoints x ts)
  unfolding points
  points-some [] h = absurd (omega arith)
  points-some (t ∷ ts) h = record { is = refl }

  -- the first point is −∞
  pub points-first : (ts : List (List ℤ)) → (qs : List Spot) × Parts (points x ts) (below x ∷ []) qs
  points-first [] = ([], record { is = points_none [] refl })
  points-first (t ∷ ts) = (above x ∷ all_midpoints x (t ∷ ts), points-some (t ∷ ts) (omega arith))
