-- Laws of the table of boundary terms: a term that is put into it is one row more, and nothing but the number of terms decides what is answered.
-- Assumes nothing.
use mathlib.Core.Path.{◌≡◌, refl, sym, ◌∙◌, ap, subst}
use mathlib.Core.Bool.{Bool, true, false, cond, ◌||◌}
use mathlib.Core.List.{List, [], ◌∷◌, ◌++◌}
use Prim.Native.Nat.{ℕ, ◌+◌, ◌-◌, ◌≤◌, ◌<◌}
use native.Mathlib.Omega.{arith}
use Rattle.std.specs.Prelude.{Result, Ok, Err, IsErr}
use lib.Dec.{eqb}
use lib.ListN.{length, take, drop, length-append}
use lib.IntN.{ℤ}
use borrow.Author.Tests.{le-leb, lt-leb}
use Rattle.reading.specs.Limits.{most_terms, variables}
use Rattle.reading.specs.Formula.{Formula, Formulas, atom, not, list, quant, window, none, more, count, encode, Free, IsList}
use Rattle.reading.specs.Reading.{tree_of}
use Rattle.reading.proofs.Trees.{tree_is, begins-tree}
use Rattle.reading.specs.Views.{shape_of, IsAtom, IsWindow, numbers_of, members_of, window_of}
use Rattle.reading.specs.declared.Shape.TheVariants as Shape
use Rattle.reading.proofs.Lengths.{more-long}
use Rattle.reading.proofs.Walking.{Inner, inner_of, Walk, walk_start, walk_begins, walk-tree, walk-next, walk_end}
use Rattle.exact.specs.Numbers.{at, is_zero, same_row}
use Rattle.exact.specs.Terms.{term_of, bound_of}
use Rattle.std.specs.List.{list_any}
use Rattle.replacement.proofs.Outcomes.{many-refused, fine-is, full-is, fine-table}
use Rattle.replacement.specs.declared.TooMany.{TooMany}
use Rattle.rules.specs.Points.{insert, gather, gather_all}
use Rattle.replacement.specs.Gathering.{Row, Rows, Table, among, Gathers, Collected}

-- ---- whether a term is among the rows

module _ (t : List ℤ) where
  -- which is what the library's search by that test answers
  pub among-is : (us : List (List ℤ)) → list_any (λ (u : List ℤ). same_row u t) us ≡ among t us
  unfolding among
  among-is [] = refl
  among-is (u ∷ us) = go (same_row u t) (among-is us)
    where
      go : (b : Bool) → list_any (λ (v : List ℤ). same_row v t) us ≡ among t us → (b || list_any (λ (v : List ℤ). same_row v t) us) ≡ cond b true (among t us)
      go true h = refl
      go false h = h

  insert-is : (us : List (List ℤ)) → insert t us ≡ cond (among t us) us (us ++ (t ∷ []))
  unfolding insert among
  insert-is [] = refl
  insert-is (u ∷ us) = go (same_row u t) (among t us) (insert-is us)
    where
      go : (b c : Bool) → insert t us ≡ cond c us (us ++ (t ∷ [])) → u ∷ cond b us (insert t us) ≡ cond (cond b true c) (u ∷ us) (u ∷ (us ++ (t ∷ [])))
      go true c e = refl
      go false true e = ap (λ (l : List (List ℤ)). u ∷ l) e
      go false false e = ap (λ (l : List (List ℤ)). u ∷ l) e

  insert-known : (us : List (List ℤ)) → among t us ≡ true → insert t us ≡ us
  insert-known us h = insert-is us ∙ ap (λ (b : Bool). cond b us (us ++ (t ∷ []))) h

  insert-new : (us : List (List ℤ)) → among t us ≡ false → insert t us ≡ us ++ (t ∷ [])
  insert-new us h = insert-is us ∙ ap (λ (b : Bool). cond b us (us ++ (t ∷ []))) h

  pub insert-grows : (us : List (List ℤ)) → length us ≤ length (insert t us)
  insert-grows us = go (among t us) refl
    where
      go : (b : Bool) → among t us ≡ b → length us ≤ length (insert t us)
      go true e = omega (arith, ap length (insert-known us e))
      go false e = omega (arith, ap length (insert-new us e), length-append us (t ∷ []))

-- ---- the terms of a formula are never fewer than there were

pick-grows : (n : ℕ) (b : Bool) (us vs : List (List ℤ)) → n ≤ length us → n ≤ length vs → n ≤ length (cond b us vs)
pick-grows n true us vs h k = h
pick-grows n false us vs h k = k

mutual
  unfolding gather

  pub gather-grows : (x : ℕ) (f : Formula) (us : List (List ℤ)) → length us ≤ length (gather x f us)
  gather-grows x (atom c ns) us = pick-grows (length us) (is_zero (at ns x)) us (insert (term_of ns x) us) (omega arith) (insert-grows (term_of ns x) us)
  gather-grows x (not f) us = gather-grows x f us
  gather-grows x (list b fs) us = all-grows x fs us
  gather-grows x (quant b v f) us = omega arith
  gather-grows x (window v lo hi) us =
      pick-grows (length us) (eqb v x) (insert (bound_of hi) (insert (bound_of lo) us)) us (omega (arith, insert-grows (bound_of lo) us, insert-grows (bound_of hi) (insert (bound_of lo) us))) (omega arith)

  pub all-grows : (x : ℕ) (fs : Formulas) (us : List (List ℤ)) → length us ≤ length (gather_all x fs us)
  all-grows x none us = omega arith
  all-grows x (more f fs) us = omega (arith, gather-grows x f us, all-grows x fs (gather x f us))

-- ---- what is answered

rows-after : (us : List (List ℤ)) {t : List ℤ} → Rows us → Row t → Rows (us ++ (t ∷ []))
rows-after [] h k = (k, tt)
rows-after (u ∷ us) h k = (h.0, rows-after us h.1 k)

module _ {A : Type 0} (a : A) (us ts : List (List ℤ)) where
  pub collected-fine : ts ≡ us → length us ≤ most_terms → Rows ts → Collected a us ts (Ok a)
  collected-fine e h w = record { answer = sym (ap (λ (b : Bool). cond b (Ok a) (Err (record {}))) (le-leb (length us) most_terms h)); terms = λ _. e; rows = w }

  pub collected-full : {r : Result A TooMany} → IsErr r → most_terms < length us → Rows ts → Collected a us ts r
  collected-full {r} i h w = record {
    answer = many-refused r i ∙ sym (ap (λ (b : Bool). cond b (Ok a) (Err (record {}))) (lt-leb (length us) most_terms h));
    terms = λ k. absurd (omega arith);
    rows = w;
  }

-- ---- a term is added

module _ (ts : List (List ℤ)) (t : List ℤ) (w : Table ts) where
  pub add-known : among t ts ≡ true → Collected (tt {0}) (insert t ts) ts (Ok (tt {0}))
  add-known h = let e = insert-known t ts h in collected-fine (tt {0}) (insert t ts) ts (sym e) (omega (arith, ap length e, w.few)) w.rows

  new-long : among t ts ≡ false → length (insert t ts) ≡ length ts + 1
  new-long h = ap length (insert-new t ts h) ∙ length-append ts (t ∷ [])

  pub add-full : among t ts ≡ false → length ts ≡ most_terms → Collected (tt {0}) (insert t ts) ts (Err (record {}))
  add-full h e = collected-full (tt {0}) (insert t ts) ts refl (omega (arith, new-long h)) w.rows

  pub add-new : among t ts ≡ false → (length ts ≡ most_terms → ⊥) → Row t → (ts' : List (List ℤ)) → ts' ≡ ts ++ (t ∷ []) → Collected (tt {0}) (insert t ts) ts' (Ok (tt {0}))
  add-new h e k ts' q =
      let few : length ts < most_terms = omega (arith, w.few, e) in
      collected-fine (tt {0}) (insert t ts) ts' (q ∙ sym (insert-new t ts h)) (omega (arith, new-long h)) (subst Rows (sym q) (rows-after ts w.rows k))

-- ---- the terms of an atom and of a window

pub gather-atom : (x : ℕ) (us : List (List ℤ)) (f : Formula) → IsAtom f → cond (is_zero (at (numbers_of f) x)) us (insert (term_of (numbers_of f) x) us) ≡ gather x f us
unfolding gather
gather-atom x us (atom c ns) i = refl
gather-atom x us (not f) i = absurd i
gather-atom x us (list b fs) i = absurd i
gather-atom x us (quant b v f) i = absurd i
gather-atom x us (window v lo hi) i = absurd i

pub gather-window : (x : ℕ) (us : List (List ℤ)) (f : Formula) → IsWindow f → cond (eqb (window_of f).variable x) (insert (bound_of (window_of f).hi) (insert (bound_of (window_of f).lo) us)) us ≡ gather x f us
unfolding gather
gather-window x us (atom c ns) i = absurd i
gather-window x us (not f) i = absurd i
gather-window x us (list b fs) i = absurd i
gather-window x us (quant b v f) i = absurd i
gather-window x us (window v lo hi) i = refl

-- ---- a formula under NOT

gather-not : (x : ℕ) (f : Formula) (us : List (List ℤ)) → gather x (not f) us ≡ gather x f us
unfolding gather
gather-not x f us = refl

module _ {s : List ℕ} {x : ℕ} {ts : List (List ℤ)} (g : Gathers s x ts) (h : shape_of (tree_of s) ≡ Shape.Not) where
  inside : Inner s
  inside = inner_of g.begins g.free h

  inside_is : tree_of (take (length s - 4) (drop 4 s)) ≡ inside.inner
  inside_is = tree_is inside.begins

  inside-long : length (encode (tree_of s)) ≡ 4 + length (encode (tree_of (take (length s - 4) (drop 4 s))))
  inside-long = inside.long ∙ ap (λ (f : Formula). 4 + length (encode f)) (sym inside_is)

  inside-terms : gather x (tree_of s) ts ≡ gather x (tree_of (take (length s - 4) (drop 4 s))) ts
  inside-terms = ap (λ (f : Formula). gather x f ts) inside.is ∙ gather-not x inside.inner ts ∙ ap (λ (f : Formula). gather x f ts) (sym inside_is)

  pub not-gathers : Gathers (take (length s - 4) (drop 4 s)) x ts
  not-gathers = record { begins = begins-tree inside.begins; free = subst Free (sym inside_is) inside.free; low = g.low; table = g.table }

  module _ {us : List (List ℤ)} where
    pub not-used : {k : ℕ} → Collected (length (encode (tree_of (take (length s - 4) (drop 4 s))))) (gather x (tree_of (take (length s - 4) (drop 4 s))) ts) us (Ok k) → 4 + k ≤ length s
    not-used c = omega (arith, (fine-is c).1, inside-long, inside.within)

    pub not-collected : {k : ℕ} → Collected (length (encode (tree_of (take (length s - 4) (drop 4 s))))) (gather x (tree_of (take (length s - 4) (drop 4 s))) ts) us (Ok k)
        → Collected (length (encode (tree_of s))) (gather x (tree_of s) ts) us (Ok (4 + k))
    not-collected {k} c =
        let l : length (encode (tree_of s)) ≡ 4 + k = omega (arith, inside-long, (fine-is c).1) in
        subst (λ (n : ℕ). Collected (length (encode (tree_of s))) (gather x (tree_of s) ts) us (Ok n)) l
        (collected-fine _ _ us ((fine-table c).1 ∙ sym inside-terms) (omega (arith, (fine-is c).0, ap length inside-terms)) c.rows)

    pub not-full : {e : TooMany} {r : Result ℕ TooMany} → Collected (length (encode (tree_of (take (length s - 4) (drop 4 s))))) (gather x (tree_of (take (length s - 4) (drop 4 s))) ts) us (Err e)
        → IsErr r → Collected (length (encode (tree_of s))) (gather x (tree_of s) ts) us r
    not-full c i = collected-full _ _ us i (omega (arith, full-is c, ap length inside-terms)) c.rows

-- ---- the loop over the members of a list

pub record GatherTurn (s : List ℕ) (x : ℕ) (us ts : List (List ℤ)) (at left : ℕ) (fs : Formulas) : Type 0 where
  pub walk : Walk s at left fs
  pub table : Table ts
  pub whole : gather x (tree_of s) us ≡ gather_all x fs ts

abbrev pub GatherLoop : (s : List ℕ) (x : ℕ) (us ts : List (List ℤ)) (at left : ℕ) → Type 0
GatherLoop s x us ts at left = (fs : Formulas) × GatherTurn s x us ts at left fs

gather-list : (x : ℕ) (b : Bool) (fs : Formulas) (us : List (List ℤ)) → gather x (list b fs) us ≡ gather_all x fs us
unfolding gather
gather-list x b fs us = refl

gather-more : (x : ℕ) (f : Formula) (fs : Formulas) (us : List (List ℤ)) → gather_all x (more f fs) us ≡ gather_all x fs (gather x f us)
unfolding gather
gather-more x f fs us = refl

gather_none : (x : ℕ) (us : List (List ℤ)) → gather_all x none us ≡ us
unfolding gather
gather_none x us = refl

pub gather-start : {s : List ℕ} {x : ℕ} {ts : List (List ℤ)} (left : ℕ) → Gathers s x ts → IsList (tree_of s) → left ≡ count (members_of (tree_of s)) → GatherLoop s x ts ts 6 left
gather-start {s} {x} {ts} left g i e =
    let m = walk_start g.begins g.free i in
    (m.members, record { walk = subst (λ (k : ℕ). Walk s 6 k m.members) (sym (e ∙ m.many)) m.walk; table = g.table; whole = ap (λ (f : Formula). gather x f ts) m.is ∙ gather-list x m.all m.members ts })

module _ {s : List ℕ} {x : ℕ} {us ts : List (List ℤ)} {at left : ℕ} where
  pub member-gathers : (fs : Formulas) → GatherTurn s x us ts at left fs → 0 < left → x < variables → Gathers (take (length s - at) (drop at s)) x ts
  member-gathers none t h w = absurd (omega (arith, t.walk.many))
  member-gathers (more f fs) t h w = record { begins = begins-tree (walk_begins t.walk); free = subst Free (sym (walk-tree t.walk)) t.walk.free.0; low = w; table = t.table }

  member-long : {f : Formula} {fs : Formulas} → GatherTurn s x us ts at left (more f fs) → length (encode (tree_of (take (length s - at) (drop at s)))) ≡ length (encode f)
  member-long t = ap (λ (g : Formula). length (encode g)) (walk-tree t.walk)

  member-terms : {f : Formula} {fs : Formulas} → GatherTurn s x us ts at left (more f fs) → gather x (tree_of s) us ≡ gather_all x fs (gather x (tree_of (take (length s - at) (drop at s))) ts)
  member-terms {f} {fs} t = t.whole ∙ gather-more x f fs ts ∙ ap (λ (g : Formula). gather_all x fs (gather x g ts)) (sym (walk-tree t.walk))

  module _ {ts' : List (List ℤ)} (h : 0 < left) {r : Result ℕ TooMany} (c : Collected (length (encode (tree_of (take (length s - at) (drop at s))))) (gather x (tree_of (take (length s - at) (drop at s))) ts) ts' r) where
    pub member-used : {k : ℕ} → r ≡ Ok k → (fs : Formulas) → GatherTurn s x us ts at left fs → at + k ≤ length s
    member-used e none t = absurd (omega (arith, t.walk.many))
    member-used e (more f fs) t = omega (arith, (fine-is (subst (Collected _ _ ts') e c)).1, member-long t, more-long f fs, t.walk.used, t.walk.within)

    pub member-next : {k m : ℕ} → r ≡ Ok k → (fs : Formulas) → GatherTurn s x us ts at left fs → m ≡ left - 1 → GatherLoop s x us ts' (at + k) m
    member-next e none t i = absurd (omega (arith, t.walk.many))
    member-next {k} e (more f fs) t i =
        let d = subst (Collected _ _ ts') e c in
        let w = fine-table d in
        (fs, record { walk = subst (λ (j : ℕ). Walk s (at + k) j fs) (sym i) (walk-next k t.walk ((fine-is d).1 ∙ member-long t)); table = w.0; whole = member-terms t ∙ ap (gather_all x fs) (sym w.1) })

    pub member-full : {e : TooMany} {q : Result ℕ TooMany} → r ≡ Err e → IsErr q → (fs : Formulas) → GatherTurn s x us ts at left fs → Collected (length (encode (tree_of s))) (gather x (tree_of s) us) ts' q
    member-full e i none t = absurd (omega (arith, t.walk.many))
    member-full e i (more f fs) t =
        collected-full (length (encode (tree_of s))) (gather x (tree_of s) us) ts' i
        (omega (arith, full-is (subst (Collected _ _ ts') e c), all-grows x fs (gather x (tree_of (take (length s - at) (drop at s))) ts), ap length (member-terms t))) c.rows

  pub member-end : (fs : Formulas) → GatherTurn s x us ts at left fs → left ≤ 0 → Collected (length (encode (tree_of s))) (gather x (tree_of s) us) ts (Ok at)
  member-end (more f fs) t h = absurd (omega (arith, t.walk.many))
  member-end none t h =
      let e : gather x (tree_of s) us ≡ ts = t.whole ∙ gather_none x ts in
      subst (λ (k : ℕ). Collected k (gather x (tree_of s) us) ts (Ok at)) (walk_end t.walk)
      (subst (λ (vs : List (List ℤ)). Collected at vs ts (Ok at)) (sym e) (collected-fine at ts ts refl t.table.few t.table.rows))
