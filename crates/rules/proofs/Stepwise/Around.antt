-- 01, 'One step': the last quantifier in reading order is replaced, body and all; all bytes before and after it stay. A formula is what stands
-- around its last quantifier, filled with the quantifier; a step fills the same with the replacement. Assumes nothing.
use Prim.Native.Nat.{ℕ, zero, suc, ◌+◌}
use mathlib.Core.Path.{◌≡◌, refl, sym, ◌∙◌, ap}
use mathlib.Core.Bool.{Bool, true}
use mathlib.Core.List.{List, [], ◌++◌, append_assoc, append-nil}
use native.Mathlib.Omega.{arith}
use lib.ListN.{length, length-append}
use Rattle.reading.specs.Formula.{Formula, Formulas, atom, not, list, quant, window, none, more, not_l, list_l, quant_l, count, field_bytes, record_bytes, encode, encodes, Free, AllFree}
use Rattle.reading.specs.Quantifiers.{Quantifier, nothing, at, seek, seeks, last_in}
use Rattle.rules.specs.Steps.{replacement, quantifiers, all_quantifiers, if_none, step, step_in}

-- ---- none is left

-- a formula has no quantifier just where their number is 0
mutual
  unfolding quantifiers

  pub free-zero : (f : Formula) → Free f → quantifiers f ≡ 0
  free-zero (atom c ns) h = refl
  free-zero (not f) h = free-zero f h
  free-zero (list b fs) h = all-free-zero fs h
  free-zero (quant b v f) h = absurd h
  free-zero (window v lo hi) h = refl

  pub all-free-zero : (fs : Formulas) → AllFree fs → all_quantifiers fs ≡ 0
  all-free-zero none h = refl
  all-free-zero (more f fs) h = omega (arith, free-zero f h.0, all-free-zero fs h.1)

mutual
  unfolding quantifiers

  pub zero-free : (f : Formula) → quantifiers f ≡ 0 → Free f
  zero-free (atom c ns) e = tt
  zero-free (not f) e = zero-free f e
  zero-free (list b fs) e = all-zero-free fs e
  zero-free (quant b v f) e = absurd (omega arith)
  zero-free (window v lo hi) e = tt

  pub all-zero-free : (fs : Formulas) → all_quantifiers fs ≡ 0 → AllFree fs
  all-zero-free none e = tt
  all-zero-free (more f fs) e = (zero-free f (omega arith), all-zero-free fs (omega arith))

-- where there is none, the one that was found before stays the last
mutual
  unfolding seek

  pub free-seek : (cur : Quantifier) (p : ℕ) (f : Formula) → Free f → seek true cur p f ≡ cur
  free-seek cur p (atom c ns) h = refl
  free-seek cur p (not f) h = free-seek cur (p + 4) f h
  free-seek cur p (list b fs) h = all-free-seek cur (p + 6) fs h
  free-seek cur p (quant b v f) h = absurd h
  free-seek cur p (window v lo hi) h = refl

  pub all-free-seek : (cur : Quantifier) (p : ℕ) (fs : Formulas) → AllFree fs → seeks true cur p fs ≡ cur
  all-free-seek cur p none h = refl
  all-free-seek cur p (more f fs) h = all-free-seek (seek true cur p f) (p + length (encode f)) fs h.1 ∙ free-seek cur p f h.0

-- ---- what stands around a part of a formula

mutual
  pub data Around : Type 0 where
    whole : Around
    under_not : Around → Around
    under_list : Bool → Amid → Around
    under_quantifier : Bool → ℕ → Around → Around

  -- what stands around a part of one of several formulas: those before it and those after it
  pub data Amid : Type 0 where
    in_first : Around → Formulas → Amid
    in_later : Formula → Amid → Amid

abbrev mutual
  pub fill : Around → Formula → Formula
  fill whole g = g
  fill (under_not a) g = not (fill a g)
  fill (under_list b m) g = list b (fill_amid m g)
  fill (under_quantifier b v a) g = quant b v (fill a g)

  pub fill_amid : Amid → Formula → Formulas
  fill_amid (in_first a fs) g = more (fill a g) fs
  fill_amid (in_later f m) g = more f (fill_amid m g)

-- nothing after it has a quantifier
abbrev mutual
  pub Rear : Around → Type 0
  Rear whole = Unit {0}
  Rear (under_not a) = Rear a
  Rear (under_list b m) = RearAmid m
  Rear (under_quantifier b v a) = Rear a

  pub RearAmid : Amid → Type 0
  RearAmid (in_first a fs) = Rear a × AllFree fs
  RearAmid (in_later f m) = RearAmid m

-- how many formulas there are in the list
abbrev pub members : Amid → ℕ
members (in_first a fs) = suc (count fs)
members (in_later f m) = suc (members m)

pub members-are : (m : Amid) (g : Formula) → count (fill_amid m g) ≡ members m
members-are (in_first a fs) g = refl
members-are (in_later f m) g = ap suc (members-are m g)

-- the bytes before and after the part
abbrev mutual
  pub front : Around → List ℕ
  front whole = []
  front (under_not a) = record_bytes not_l ++ front a
  front (under_list b m) = record_bytes (list_l b (members m)) ++ front_amid m
  front (under_quantifier b v a) = record_bytes (quant_l b v) ++ front a

  pub front_amid : Amid → List ℕ
  front_amid (in_first a fs) = front a
  front_amid (in_later f m) = encode f ++ front_amid m

abbrev mutual
  pub rear : Around → List ℕ
  rear whole = []
  rear (under_not a) = rear a
  rear (under_list b m) = rear_amid m
  rear (under_quantifier b v a) = rear a

  pub rear_amid : Amid → List ℕ
  rear_amid (in_first a fs) = rear a ++ encodes fs
  rear_amid (in_later f m) = rear_amid m

-- one record or formula more in front
inner : (r p t : List ℕ) {s : List ℕ} → s ≡ p ++ t → r ++ s ≡ (r ++ p) ++ t
inner r p t e = ap (λ (x : List ℕ). r ++ x) e ∙ sym (append_assoc r p t)

mutual
  unfolding encode

  -- the bytes of a formula around a part of it
  pub fill-bytes : (a : Around) (g : Formula) → encode (fill a g) ≡ front a ++ (encode g ++ rear a)
  fill-bytes whole g = sym (append-nil (encode g))
  fill-bytes (under_not a) g = inner (record_bytes not_l) (front a) (encode g ++ rear a) (fill-bytes a g)
  fill-bytes (under_list b m) g =
      ap (λ (n : ℕ). record_bytes (list_l b n) ++ encodes (fill_amid m g)) (members-are m g)
      ∙ inner (record_bytes (list_l b (members m))) (front_amid m) (encode g ++ rear_amid m) (fill-amid-bytes m g)
  fill-bytes (under_quantifier b v a) g = inner (record_bytes (quant_l b v)) (front a) (encode g ++ rear a) (fill-bytes a g)

  fill-amid-bytes : (m : Amid) (g : Formula) → encodes (fill_amid m g) ≡ front_amid m ++ (encode g ++ rear_amid m)
  fill-amid-bytes (in_first a fs) g = ap (λ (x : List ℕ). x ++ encodes fs) (fill-bytes a g) ∙ simp append_assoc
  fill-amid-bytes (in_later f m) g = inner (encode f) (front_amid m) (encode g ++ rear_amid m) (fill-amid-bytes m g)

-- ---- the last quantifier

-- f is filled with its last quantifier, and stepped with its replacement; a search for the last one that begins at p finds it
pub record Last (f : Formula) (a : Around) (b : Bool) (v : ℕ) (g : Formula) : Type 0 where
  pub is : f ≡ fill a (quant b v g)
  pub stepped : step f ≡ fill a (replacement b v g)
  pub free : Free g
  pub behind : Rear a
  pub found : (cur : Quantifier) (p : ℕ) → seek true cur p f ≡ at (p + length (front a)) b v g

record LastAmid (fs : Formulas) (m : Amid) (b : Bool) (v : ℕ) (g : Formula) : Type 0 where
  is : fs ≡ fill_amid m (quant b v g)
  stepped : step_in fs ≡ fill_amid m (replacement b v g)
  free : Free g
  behind : RearAmid m
  found : (cur : Quantifier) (p : ℕ) → seeks true cur p fs ≡ at (p + length (front_amid m)) b v g

abbrev pub HasLast : Formula → Type 0
HasLast f = (a : Around) × (b : Bool) × (v : ℕ) × (g : Formula) × Last f a b v g

abbrev HasLastAmid : Formulas → Type 0
HasLastAmid fs = (m : Amid) × (b : Bool) × (v : ℕ) × (g : Formula) × LastAmid fs m b v g

-- the same quantifier at the same place
place : (b : Bool) (v : ℕ) (g : Formula) {m n : ℕ} → m ≡ n → at m b v g ≡ at n b v g
place b v g e = ap (λ (n : ℕ). at n b v g) e

-- ---- it is found in each kind of formula

not_on : {f : Formula} → HasLast f → HasLast (not f)
unfolding step seek record_bytes field_bytes
not_on l = (
  under_not l.0,
  l.1,
  l.2,
  l.3,
  record {
    is = ap not l.4.is;
    stepped = ap not l.4.stepped;
    free = l.4.free;
    behind = l.4.behind;
    found = λ cur p. l.4.found cur (p + 4) ∙ place l.1 l.2 l.3 (omega arith);
  },
)

list_on : (b : Bool) {fs : Formulas} → HasLastAmid fs → HasLast (list b fs)
unfolding step seek record_bytes field_bytes
list_on b l = (
  under_list b l.0,
  l.1,
  l.2,
  l.3,
  record {
    is = ap (list b) l.4.is;
    stepped = ap (list b) l.4.stepped;
    free = l.4.free;
    behind = l.4.behind;
    found = λ cur p. l.4.found cur (p + 6) ∙ place l.1 l.2 l.3 (omega arith);
  },
)

module _ (b : Bool) (v : ℕ) (f : Formula) where
  quant-here : quantifiers f ≡ 0 → HasLast (quant b v f)
  unfolding step seek
  quant-here e = (
    whole,
    b,
    v,
    f,
    record {
      is = refl;
      stepped = ap (λ (n : ℕ). if_none n (replacement b v f) (quant b v (step f))) e;
      free = zero-free f e;
      behind = tt;
      found = λ cur p. free-seek (at p b v f) (p + 6) f (zero-free f e) ∙ place b v f (omega arith);
    },
  )

  quant-on : (n : ℕ) → quantifiers f ≡ suc n → HasLast f → HasLast (quant b v f)
  unfolding step seek record_bytes field_bytes
  quant-on n e l = (
    under_quantifier b v l.0,
    l.1,
    l.2,
    l.3,
    record {
      is = ap (quant b v) l.4.is;
      stepped = ap (λ (n : ℕ). if_none n (replacement b v f) (quant b v (step f))) e ∙ ap (quant b v) l.4.stepped;
      free = l.4.free;
      behind = l.4.behind;
      found = λ cur p. l.4.found (at p b v f) (p + 6) ∙ place l.1 l.2 l.3 (omega arith);
    },
  )

module _ (f : Formula) (fs : Formulas) where
  more-here : all_quantifiers fs ≡ 0 → HasLast f → HasLastAmid (more f fs)
  unfolding step seek
  more-here e l = (
    in_first l.0 fs,
    l.1,
    l.2,
    l.3,
    record {
      is = ap (λ (h : Formula). more h fs) l.4.is;
      stepped = ap (λ (n : ℕ). if_none n (more (step f) fs) (more f (step_in fs))) e ∙ ap (λ (h : Formula). more h fs) l.4.stepped;
      free = l.4.free;
      behind = (l.4.behind, all-zero-free fs e);
      found = λ cur p. all-free-seek (seek true cur p f) (p + length (encode f)) fs (all-zero-free fs e) ∙ l.4.found cur p;
    },
  )

  more-on : (n : ℕ) → all_quantifiers fs ≡ suc n → HasLastAmid fs → HasLastAmid (more f fs)
  unfolding step seek
  more-on n e l = (
    in_later f l.0,
    l.1,
    l.2,
    l.3,
    record {
      is = ap (more f) l.4.is;
      stepped = ap (λ (n : ℕ). if_none n (more (step f) fs) (more f (step_in fs))) e ∙ ap (more f) l.4.stepped;
      free = l.4.free;
      behind = l.4.behind;
      found = λ cur p. l.4.found (seek true cur p f) (p + length (encode f)) ∙ place l.1 l.2 l.3 (omega (arith, length-append (encode f) (front_amid l.0)));
    },
  )

-- by the number of quantifiers in the body, and in the formulas that follow
by-body : (b : Bool) (v : ℕ) (f : Formula) (n : ℕ) → quantifiers f ≡ n → ((m : ℕ) → quantifiers f ≡ suc m → HasLast f) → HasLast (quant b v f)
by-body b v f zero e l = quant-here b v f e
by-body b v f (suc m) e l = quant-on b v f m e (l m e)

by-rest : (f : Formula) (fs : Formulas) (n m : ℕ) → quantifiers f + all_quantifiers fs ≡ suc m → all_quantifiers fs ≡ n
    → ((k : ℕ) → quantifiers f ≡ suc k → HasLast f) → ((k : ℕ) → all_quantifiers fs ≡ suc k → HasLastAmid fs) → HasLastAmid (more f fs)
by-rest f fs zero m d e l r = more-here f fs e (l m (omega arith))
by-rest f fs (suc k) m d e l r = more-on f fs k e (r k e)

mutual
  unfolding quantifiers

  pub has_last : (n : ℕ) (f : Formula) → quantifiers f ≡ suc n → HasLast f
  has_last n (atom c ns) e = absurd (omega arith)
  has_last n (not f) e = not_on (has_last n f e)
  has_last n (list b fs) e = list_on b (all-has-last n fs e)
  has_last n (quant b v f) e = by-body b v f (quantifiers f) refl (λ m h. has_last m f h)
  has_last n (window v lo hi) e = absurd (omega arith)

  all-has-last : (n : ℕ) (fs : Formulas) → all_quantifiers fs ≡ suc n → HasLastAmid fs
  all-has-last n none e = absurd (omega arith)
  all-has-last n (more f fs) e = by-rest f fs (all_quantifiers fs) n e refl (λ k h. has_last k f h) (λ k h. all-has-last k fs h)

-- the quantifier that is found, and what stands around it
pub last-is : (f : Formula) (p : ℕ) (b : Bool) (v : ℕ) (g : Formula) → last_in f ≡ at p b v g → (a : Around) × Last f a b v g × (length (front a) ≡ p)
last-is f p b v g e = go (quantifiers f) refl
  where
    go : (n : ℕ) → quantifiers f ≡ n → (a : Around) × Last f a b v g × (length (front a) ≡ p)
    go zero q =
        let z : ◌≡◌ {A = Quantifier} nothing (at p b v g) = sym (free-seek nothing 0 f (zero-free f q)) ∙ e in
        let y : ◌≡◌ {A = ℕ} 0 1 = cc in absurd (omega arith)
    go (suc n) q =
        let l = has_last n f q in
        let z : at (0 + length (front l.0)) l.1 l.2 l.3 ≡ at p b v g = sym (l.4.found nothing 0) ∙ e in
        let x : 0 + length (front l.0) ≡ p = cc in
        let i : l.1 ≡ b = cc in
        let j : l.2 ≡ v = cc in
        let k : l.3 ≡ g = cc in
        (l.0, rw (← i, ← j, ← k) l.4, omega arith)
