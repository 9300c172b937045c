-- Where the first and the last quantifier of a formula stand in its bytes, that there is none just where the formula is free of them,
-- and that the body of the last one is free of them. Assumes nothing.
use mathlib.Core.Path.{◌≡◌, refl, sym, ◌∙◌, ap, ap₂, subst}
use mathlib.Core.Logic.{◌⊎◌, inl, inr, ◌↔◌}
use mathlib.Core.List.{List, [], ◌++◌, append_assoc, append-nil}
use Prim.Native.Nat.{ℕ, ◌+◌, ◌-◌, ◌≤◌}
use native.Mathlib.Nat.{le_refl}
use native.Mathlib.Omega.{arith}
use lib.ListN.{length, drop, length-append}
use lib.Seq.{drop-append_seam}
use mathlib.Core.Bool.{Bool, true, false}
use Rattle.reading.specs.Formula.{Formula, Formulas, count, field_bytes, record_bytes, encode, encodes, Fits, AllFit, Free, AllFree, atom, not, list, quant, window, none, more, not_l, list_l, quant_l}
use Rattle.reading.specs.Quantifiers.{Quantifier, met, seek, seeks, last_in, QuantifierAt, QuantifierAtAny, nothing, at}
use Rattle.reading.proofs.Trees.{fits_more}

-- ---- where it stands

-- the bytes `part` stand in s from o on
pub record Stands (s : List ℕ) (o : ℕ) (part : List ℕ) : Type 0 where
  pub before : List ℕ
  pub after : List ℕ
  pub bytes : s ≡ before ++ (part ++ after)
  pub place : length before ≡ o

-- the parts of a part
stands-left : {s : List ℕ} {o : ℕ} (a b : List ℕ) → Stands s o (a ++ b) → Stands s o a
stands-left a b w = record { before = w.before; after = b ++ w.after; bytes = w.bytes ∙ ap (λ (x : List ℕ). w.before ++ x) (append_assoc a b w.after); place = w.place }

pub stands-right : {s : List ℕ} {o : ℕ} (a b : List ℕ) → Stands s o (a ++ b) → Stands s (o + length a) b
stands-right a b w = record {
  before = w.before ++ a;
  after = w.after;
  bytes = w.bytes ∙ ap (λ (x : List ℕ). w.before ++ x) (append_assoc a b w.after) ∙ sym (append_assoc w.before a (b ++ w.after));
  place = length-append w.before a ∙ ap (λ (n : ℕ). n + length a) w.place;
}

-- from o on the bytes are the part, and what follows it
pub stands-drop : {s : List ℕ} {o : ℕ} {part : List ℕ} (w : Stands s o part) → drop o s ≡ part ++ w.after
stands-drop {s} {o} {part} w = ap₂ drop (sym w.place) w.bytes ∙ drop-append_seam w.before (part ++ w.after)

-- a part that stands in s ends in s
pub stands-within : {s : List ℕ} {o : ℕ} {part : List ℕ} → Stands s o part → o + length part ≤ length s
stands-within {s} {o} {part} w = omega (arith, ap length w.bytes, length-append w.before (part ++ w.after), length-append part w.after, w.place)

-- a quantifier of s that is found at o, with its body: it stands there, and fits
abbrev pub Stood : ℕ → List ℕ → Quantifier → Type 0
Stood d s nothing = Unit {0}
Stood d s (at o b v f) = Stands s o (encode (quant b v f)) × Fits d (quant b v f)

met-stood : (d : ℕ) (s : List ℕ) (last : Bool) (cur new : Quantifier) → Stood d s cur → Stood d s new → Stood d s (met last cur new)
met-stood d s true cur new h k = k
met-stood d s false nothing new h k = k
met-stood d s false (at o b v f) new h k = h

module _ (d : ℕ) (s : List ℕ) (last : Bool) where
  mutual
    unfolding seek encode record_bytes field_bytes

    -- what is found in a formula of s stands in s
    pub seek-stood : (cur : Quantifier) (p : ℕ) (f : Formula) (e : ℕ) → e ≤ d → Fits e f → Stands s p (encode f) → Stood d s cur → Stood d s (seek last cur p f)
    seek-stood cur p (atom c ns) e h w x k = k
    seek-stood cur p (not f) e h w x k = seek-stood cur (p + 4) f (e - 1) (omega arith) w.1 (stands-right (record_bytes not_l) (encode f) x) k
    seek-stood cur p (list b fs) e h w x k = seeks-stood cur (p + 6) fs (e - 1) (omega arith) w.2 (stands-right (record_bytes (list_l b (count fs))) (encodes fs) x) k
    seek-stood cur p (quant b v f) e h w x k =
        seek-stood (met last cur (at p b v f)) (p + 6) f (e - 1) (omega arith) w.2 (stands-right (record_bytes (quant_l b v)) (encode f) x)
        (met-stood d s last cur (at p b v f) k (x, fits_more (quant b v f) e d h w))
    seek-stood cur p (window v lo hi) e h w x k = k

    pub seeks-stood : (cur : Quantifier) (p : ℕ) (fs : Formulas) (e : ℕ) → e ≤ d → AllFit e fs → Stands s p (encodes fs) → Stood d s cur → Stood d s (seeks last cur p fs)
    seeks-stood cur p none e h w x k = k
    seeks-stood cur p (more f fs) e h w x k =
        seeks-stood (seek last cur p f) (p + length (encode f)) fs e h w.1 (stands-right (encode f) (encodes fs) x)
        (seek-stood cur p f e h w.0 (stands-left (encode f) (encodes fs) x) k)

-- the first or last quantifier of a formula: its bytes lie between a part of the length of its place, and the rest
pub found-splits : (last : Bool) (d : ℕ) (f : Formula) → Fits d f → Stood d (encode f) (seek last nothing 0 f)
found-splits last d f w =
    seek-stood d (encode f) last nothing 0 f d (le_refl d) w (record { before = []; after = []; bytes = sym (append-nil (encode f)); place = refl }) tt

-- the same for a quantifier that is known: its bytes lie between `before`, as long as its place says, and `after`
pub splits-at : (last : Bool) (d : ℕ) (f : Formula) {o : ℕ} {b : Bool} {v : ℕ} {g : Formula} → Fits d f → seek last nothing 0 f ≡ at o b v g
    → Stands (encode f) o (encode (quant b v g)) × Fits d (quant b v g)
splits-at last d f w e = subst (Stood d (encode f)) e (found-splits last d f w)

-- ---- whether there is one

-- the last one's body has none; of the first one nothing is said but that it is there
abbrev pub Ended : Bool → Quantifier → Type 0
Ended last nothing = ⊥
Ended true (at o b v f) = Free f
Ended false (at o b v f) = Unit {0}

met-ended : (last : Bool) (cur : Quantifier) (p : ℕ) (b : Bool) (v : ℕ) (f : Formula) → Free f → Ended last (met last cur (at p b v f))
met-ended true cur p b v f h = h
met-ended false nothing p b v f h = tt
met-ended false (at o c u g) p b v f h = tt

module _ (last : Bool) where
  mutual
    unfolding seek

    -- a formula has no quantifier and what was found before stays, or one of its own is found
    seek-cases : (cur : Quantifier) (p : ℕ) (f : Formula) → ((seek last cur p f ≡ cur) × Free f) ⊎ Ended last (seek last cur p f)
    seek-cases cur p (atom c ns) = inl (refl, tt)
    seek-cases cur p (not f) = seek-cases cur (p + 4) f
    seek-cases cur p (list b fs) = seeks-cases cur (p + 6) fs
    seek-cases cur p (quant b v f) = inr (elim (seek-cases (met last cur (at p b v f)) (p + 6) f) [ inl h ↦ subst (Ended last) (sym h.0) (met-ended last cur p b v f h.1) | inr h ↦ h ])
    seek-cases cur p (window v lo hi) = inl (refl, tt)

    seeks-cases : (cur : Quantifier) (p : ℕ) (fs : Formulas) → ((seeks last cur p fs ≡ cur) × AllFree fs) ⊎ Ended last (seeks last cur p fs)
    seeks-cases cur p none = inl (refl, tt)
    seeks-cases cur p (more f fs) =
        elim (seeks-cases (seek last cur p f) (p + length (encode f)) fs) [
          | inl h ↦ elim (seek-cases cur p f) [ inl k ↦ inl (h.0 ∙ k.0, (k.1, h.1)) | inr k ↦ inr (subst (Ended last) (sym h.0) k) ]
          | inr h ↦ inr h
        ]

  mutual
    unfolding seek

    -- in a formula without quantifiers nothing is found
    free-seek : (cur : Quantifier) (p : ℕ) (f : Formula) → Free f → seek last cur p f ≡ cur
    free-seek cur p (atom c ns) h = refl
    free-seek cur p (not f) h = free-seek cur (p + 4) f h
    free-seek cur p (list b fs) h = free-seeks cur (p + 6) fs h
    free-seek cur p (quant b v f) h = absurd h
    free-seek cur p (window v lo hi) h = refl

    free-seeks : (cur : Quantifier) (p : ℕ) (fs : Formulas) → AllFree fs → seeks last cur p fs ≡ cur
    free-seeks cur p none h = refl
    free-seeks cur p (more f fs) h = free-seeks (seek last cur p f) (p + length (encode f)) fs h.1 ∙ free-seek cur p f h.0

  -- nothing is found, neither last nor first, exactly where the formula has no quantifier
  pub nothing-free : (f : Formula) → (seek last nothing 0 f ≡ nothing) ↔ Free f
  nothing-free f = (λ e. elim (seek-cases nothing 0 f) [ inl h ↦ h.1 | inr h ↦ absurd (subst (Ended last) e h) ], free-seek nothing 0 f)

-- the body of the last quantifier has none
pub last-free : (f : Formula) (o : ℕ) (b : Bool) (v : ℕ) (g : Formula) → last_in f ≡ at o b v g → Free g
last-free f o b v g e = elim (seek-cases true nothing 0 f) [
  | inl h ↦ let z : ◌≡◌ {A = Quantifier} nothing (at o b v g) = sym h.0 ∙ e in let y : ◌≡◌ {A = ℕ} 0 1 = cc in absurd (omega arith)
  | inr h ↦ subst (Ended true) e h
]

-- ---- a quantifier of the formula

-- what a search found is a quantifier of the formula that begins at p
abbrev FoundIn : ℕ → Formula → Quantifier → Type 0
FoundIn p f nothing = ⊥
FoundIn p f (at o b v g) = (p ≤ o) × QuantifierAt (o - p) f

abbrev FoundInAny : ℕ → Formulas → Quantifier → Type 0
FoundInAny p fs nothing = ⊥
FoundInAny p fs (at o b v g) = (p ≤ o) × QuantifierAtAny (o - p) fs

-- one record further out, and one member further on
found-not : (p : ℕ) (f : Formula) (q : Quantifier) → FoundIn (p + 4) f q → FoundIn p (not f) q
found-not p f nothing h = h
found-not p f (at o b v g) h = (omega arith, (omega arith, subst (λ (n : ℕ). QuantifierAt n f) (omega arith) h.1))

found-list : (p : ℕ) (b : Bool) (fs : Formulas) (q : Quantifier) → FoundInAny (p + 6) fs q → FoundIn p (list b fs) q
found-list p c fs nothing h = h
found-list p c fs (at o b v g) h = (omega arith, (omega arith, subst (λ (n : ℕ). QuantifierAtAny n fs) (omega arith) h.1))

found-quant : (p : ℕ) (b : Bool) (v : ℕ) (f : Formula) (q : Quantifier) → FoundIn (p + 6) f q → FoundIn p (quant b v f) q
found-quant p c u f nothing h = h
found-quant p c u f (at o b v g) h = (omega arith, inr (omega arith, subst (λ (n : ℕ). QuantifierAt n f) (omega arith) h.1))

found_first : (p : ℕ) (f : Formula) (fs : Formulas) (q : Quantifier) → FoundIn p f q → FoundInAny p (more f fs) q
found_first p f fs nothing h = h
found_first p f fs (at o b v g) h = (h.0, inl h.1)

found-later : (p : ℕ) (f : Formula) (fs : Formulas) (q : Quantifier) → FoundInAny (p + length (encode f)) fs q → FoundInAny p (more f fs) q
found-later p f fs nothing h = h
found-later p f fs (at o b v g) h = (omega arith, inr (omega arith, subst (λ (n : ℕ). QuantifierAtAny n fs) (omega arith) h.1))

met-found : (last : Bool) (cur : Quantifier) (p : ℕ) (b : Bool) (v : ℕ) (f : Formula) → (met last cur (at p b v f) ≡ cur) ⊎ FoundIn p (quant b v f) (met last cur (at p b v f))
met-found true cur p b v f = inr (omega arith, inl (omega arith))
met-found false nothing p b v f = inr (omega arith, inl (omega arith))
met-found false (at o c u g) p b v f = inl refl

module _ (last : Bool) where
  mutual
    unfolding seek

    seek_found : (cur : Quantifier) (p : ℕ) (f : Formula) → (seek last cur p f ≡ cur) ⊎ FoundIn p f (seek last cur p f)
    seek_found cur p (atom c ns) = inl refl
    seek_found cur p (not f) = elim (seek_found cur (p + 4) f) [ inl e ↦ inl e | inr h ↦ inr (found-not p f (seek last cur (p + 4) f) h) ]
    seek_found cur p (list b fs) = elim (seeks-found cur (p + 6) fs) [ inl e ↦ inl e | inr h ↦ inr (found-list p b fs (seeks last cur (p + 6) fs) h) ]
    seek_found cur p (quant b v f) = elim (seek_found (met last cur (at p b v f)) (p + 6) f) [
      | inl e ↦ elim (met-found last cur p b v f) [ inl k ↦ inl (e ∙ k) | inr h ↦ inr (subst (FoundIn p (quant b v f)) (sym e) h) ]
      | inr h ↦ inr (found-quant p b v f (seek last (met last cur (at p b v f)) (p + 6) f) h)
    ]
    seek_found cur p (window v lo hi) = inl refl

    seeks-found : (cur : Quantifier) (p : ℕ) (fs : Formulas) → (seeks last cur p fs ≡ cur) ⊎ FoundInAny p fs (seeks last cur p fs)
    seeks-found cur p none = inl refl
    seeks-found cur p (more f fs) = elim (seeks-found (seek last cur p f) (p + length (encode f)) fs) [
      | inl e ↦ elim (seek_found cur p f) [ inl k ↦ inl (e ∙ k) | inr h ↦ inr (found_first p f fs (seeks last (seek last cur p f) (p + length (encode f)) fs) (subst (FoundIn p f) (sym e) h)) ]
      | inr h ↦ inr (found-later p f fs (seeks last (seek last cur p f) (p + length (encode f)) fs) h)
    ]

  -- the first and the last quantifier are quantifiers of the formula
  pub found-quantifier : (f : Formula) (o : ℕ) (b : Bool) (v : ℕ) (g : Formula) → seek last nothing 0 f ≡ at o b v g → QuantifierAt o f
  found-quantifier f o b v g e = elim (seek_found nothing 0 f) [
    | inl h ↦ let z : ◌≡◌ {A = Quantifier} nothing (at o b v g) = sym h ∙ e in let y : ◌≡◌ {A = ℕ} 0 1 = cc in absurd (omega arith)
    | inr h ↦ subst (λ (n : ℕ). QuantifierAt n f) (omega arith) (subst (FoundIn 0 f) e h).1
  ]

-- a formula without quantifiers has none anywhere
mutual
  pub free-nowhere : (p : ℕ) (f : Formula) → Free f → QuantifierAt p f → ⊥
  free-nowhere p (atom c ns) h q = q
  free-nowhere p (not f) h q = free-nowhere (p - 4) f h q.1
  free-nowhere p (list b fs) h q = all-free-nowhere (p - 6) fs h q.1
  free-nowhere p (quant b v f) h q = h
  free-nowhere p (window v lo hi) h q = q

  pub all-free-nowhere : (p : ℕ) (fs : Formulas) → AllFree fs → QuantifierAtAny p fs → ⊥
  all-free-nowhere p none h q = q
  all-free-nowhere p (more f fs) h (inl q) = free-nowhere p f h.0 q
  all-free-nowhere p (more f fs) h (inr q) = all-free-nowhere (p - length (encode f)) fs h.1 q.1

-- a quantifier stands inside the formula's bytes
mutual
  unfolding encode record_bytes field_bytes

  pub quantifier-inside : (p : ℕ) (f : Formula) → QuantifierAt p f → p + 6 ≤ length (encode f)
  quantifier-inside p (atom c ns) q = absurd q
  quantifier-inside p (not f) q = omega (arith, quantifier-inside (p - 4) f q.1, q.0)
  quantifier-inside p (list b fs) q = omega (arith, all-inside (p - 6) fs q.1, q.0)
  quantifier-inside p (quant b v f) (inl e) = omega arith
  quantifier-inside p (quant b v f) (inr q) = omega (arith, quantifier-inside (p - 6) f q.1, q.0)
  quantifier-inside p (window v lo hi) q = absurd q

  all-inside : (p : ℕ) (fs : Formulas) → QuantifierAtAny p fs → p + 6 ≤ length (encodes fs)
  all-inside p none q = absurd q
  all-inside p (more f fs) (inl q) = omega (arith, quantifier-inside p f q, length-append (encode f) (encodes fs))
  all-inside p (more f fs) (inr q) = omega (arith, all-inside (p - length (encode f)) fs q.1, q.0, length-append (encode f) (encodes fs))
