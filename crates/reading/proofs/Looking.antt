-- 01, 'A sheet on disk', the public look: it is the bytes of the body of the last quantifier, a body without quantifiers, and it is empty exactly
-- where there is no quantifier or the sheet is refused. Assumes nothing.
use mathlib.Core.Path.{◌≡◌, refl, sym, ◌∙◌, ap, ap₂, subst}
use mathlib.Core.List.{List, []}
use mathlib.Core.Logic.{◌↔◌}
use Prim.Native.Nat.{ℕ, ◌+◌, ◌-◌, ◌≤◌}
use native.Mathlib.Omega.{arith}
use lib.ListN.{length, take, drop}
use lib.Seq.{take-append_seam}
use mathlib.Core.Bool.{Bool, true}
use Rattle.reading.specs.Limits.{result_bytes, result_levels, tree_levels}
use Rattle.reading.specs.Bytes.{Bytes}
use Rattle.reading.specs.Formula.{Formula, field_bytes, record_bytes, encode, Fits, Free, quant, quant_l}
use Rattle.reading.specs.Reading.{formula_in, tree_of, Begins, Exactly}
use Rattle.reading.specs.Answers.{reading}
use Rattle.reading.specs.Quantifiers.{Quantifier, seek, last_in, found_of, body_part, part_in, look_part, look, nothing, at}
use Rattle.reading.specs.Answers.{Reply}
use Rattle.reading.specs.Answers.{Done, Refused}
use Rattle.reading.specs.declared.Part.{Part}
use Rattle.reading.proofs.Lengths.{four-long}
use Rattle.reading.proofs.Trees.{fits_more, accepted-read, accepted-exactly}
use Rattle.reading.proofs.Places.{Stands, Stood, stands-right, stands-drop, stands-within, found-splits, last-free}
use Rattle.std.specs.Prelude.{Some, None}

-- ---- the quantifier that a search finds at o, and its body

pub record Body (last : Bool) (s : List ℕ) (o : ℕ) : Type 0 where
  pub every : Bool
  pub variable : ℕ
  pub body : Formula
  pub is : seek last nothing 0 (tree_of s) ≡ at o every variable body
  pub stands : Stands s o (encode (quant every variable body))
  pub fits : Fits tree_levels (quant every variable body)
  pub begins : Begins (drop (o + 6) s) body
  pub within : o + 6 + length (encode body) ≤ length s

-- where a search finds o, the record there is that of a quantifier, and its body begins six bytes later
pub body_at : (last : Bool) {s : List ℕ} {o : ℕ} → Exactly s (tree_of s) → found_of (seek last nothing 0 (tree_of s)) ≡ Some o → Body last s o
unfolding encode record_bytes field_bytes
body_at last {s} {o} x e = go (seek last nothing 0 (tree_of s)) refl (subst (λ (t : List ℕ). Stood tree_levels t (seek last nothing 0 (tree_of s))) (sym x.bytes) (found-splits last tree_levels (tree_of s) x.fits)) e
  where
    go : (q : Quantifier) → seek last nothing 0 (tree_of s) ≡ q → Stood tree_levels s q → found_of q ≡ Some o → Body last s o
    go nothing f h e = let z : ◌≡◌ {A = ℕ} 0 1 = cc in absurd (omega arith)
    go (at p b v g) f h e =
        let k : p ≡ o = cc in
        let w = subst (λ (n : ℕ). Stands s n (encode (quant b v g))) k h.0 in
        let r = stands-right (record_bytes (quant_l b v)) (encode g) w in
        record {
          every = b;
          variable = v;
          body = g;
          is = f ∙ ap (λ (n : ℕ). at n b v g) k;
          stands = w;
          fits = h.1;
          begins = record { rest = r.after; bytes = stands-drop r; fits = fits_more g (tree_levels - 1) tree_levels (omega arith) h.1.2 };
          within = stands-within r;
        }

-- ---- the part that is looked at

-- in an accepted sheet it is the body of the last quantifier
pub look-accepted : (s : List ℕ) {k : ℕ} → Bytes s → reading result_bytes result_levels s ≡ Done k → look_part s ≡ body_part (last_in (tree_of s))
unfolding look_part
look-accepted s ok h = ap₂ part_in h (accepted-read result_bytes result_levels s (omega arith) ok h)

-- in a refused sheet there is none
pub look-refused : (s : List ℕ) {n p : ℕ} → reading result_bytes result_levels s ≡ Refused n p → look_part s ≡ record { at = 0; length = 0 }
unfolding look_part
look-refused s h = ap (λ (r : Reply). part_in r (formula_in result_levels s)) h

-- nor where no quantifier is found
pub look-nothing : (q : Quantifier) → found_of q ≡ None → body_part q ≡ record { at = 0; length = 0 }
look-nothing nothing e = refl
look-nothing (at o b v f) e = let z : ◌≡◌ {A = ℕ} 0 1 = cc in absurd (omega arith)

-- where one is found, its bounds
pub look-body : {s : List ℕ} {k o : ℕ} → reading result_bytes result_levels s ≡ Done k → Bytes s → (w : Body true s o) → look_part s ≡ record { at = o + 6; length = length (encode w.body) }
look-body {s} h ok w = look-accepted s ok h ∙ ap body_part w.is

-- ---- the look

-- what is looked at lies in the sheet
pub look-within : (s : List ℕ) → Bytes s → (look_part s).at + (look_part s).length ≤ length s
look-within s ok = go (reading result_bytes result_levels s) refl
  where
    found : (q : Quantifier) {k : ℕ} → last_in (tree_of s) ≡ q → reading result_bytes result_levels s ≡ Done k → Exactly s (tree_of s) → (look_part s).at + (look_part s).length ≤ length s
    found nothing e h x = rw (look-accepted s ok h, e) (omega arith)
    found (at o b v g) e h x = let w = body_at true x (ap found_of e) in rw (look-body h ok w) w.within

    go : (r : Reply) → reading result_bytes result_levels s ≡ r → (look_part s).at + (look_part s).length ≤ length s
    go (Done k) h = found (last_in (tree_of s)) refl h (accepted-exactly result_bytes result_levels s (omega arith) ok h)
    go (Refused n p) h = rw (look-refused s h) (omega arith)

-- the look at a body that is found: its bytes
look_bytes : {s : List ℕ} {k o : ℕ} → reading result_bytes result_levels s ≡ Done k → Bytes s → (w : Body true s o) → look s ≡ encode w.body
unfolding look
look_bytes {s} h ok w =
    ap (λ (p : Part). take p.length (drop p.at s)) (look-body h ok w)
    ∙ ap (take (length (encode w.body))) w.begins.bytes
    ∙ take-append_seam (encode w.body) w.begins.rest

look_none : (s : List ℕ) → look_part s ≡ record { at = 0; length = 0 } → look s ≡ []
unfolding look
look_none s e = ap (λ (p : Part). take p.length (drop p.at s)) e

-- what the look shows: nothing, or a body without quantifiers
abbrev pub Shown : List ℕ → Reply → Quantifier → Type 0
Shown bytes (Refused n p) q = bytes ≡ []
Shown bytes (Done k) nothing = bytes ≡ []
Shown bytes (Done k) (at o b v g) = (bytes ≡ encode g) × Free g × (4 ≤ length bytes)

-- the look is the bytes of the body of the accepted tree's last quantifier, and that body has no quantifier
pub look-shows : (s : List ℕ) → Bytes s → Shown (look s) (reading result_bytes result_levels s) (last_in (tree_of s))
look-shows s ok = go (reading result_bytes result_levels s) refl
  where
    found : {k : ℕ} (q : Quantifier) → last_in (tree_of s) ≡ q → reading result_bytes result_levels s ≡ Done k → Exactly s (tree_of s) → Shown (look s) (Done k) q
    found nothing e h x = look_none s (look-accepted s ok h ∙ ap body_part e)
    found (at o b v g) e h x =
        let w = body_at true x (ap found_of e) in
        let i : w.body ≡ g = let j = sym w.is ∙ e in cc in
        let l = look_bytes h ok w ∙ ap encode i in
        (l, last-free (tree_of s) o b v g e, rw l (four-long g))

    go : (r : Reply) → reading result_bytes result_levels s ≡ r → Shown (look s) r (last_in (tree_of s))
    go (Done k) h = found (last_in (tree_of s)) refl h (accepted-exactly result_bytes result_levels s (omega arith) ok h)
    go (Refused n p) h = look_none s (look-refused s h)

-- a refused sheet, or a formula without quantifiers
abbrev pub NoneToShow : Reply → Quantifier → Type 0
NoneToShow (Refused n p) q = Unit {0}
NoneToShow (Done k) nothing = Unit {0}
NoneToShow (Done k) (at o b v g) = ⊥

-- the look is empty exactly where there is no quantifier or the sheet is refused
pub look-empty : (s : List ℕ) → Bytes s → look s ≡ [] ↔ NoneToShow (reading result_bytes result_levels s) (last_in (tree_of s))
look-empty s ok = go (reading result_bytes result_levels s) (last_in (tree_of s)) (look-shows s ok)
  where
    go : (r : Reply) (q : Quantifier) → Shown (look s) r q → look s ≡ [] ↔ NoneToShow r q
    go (Refused n p) q h = (λ _. tt, λ _. h)
    go (Done k) nothing h = (λ _. tt, λ _. h)
    go (Done k) (at o b v g) h = (λ e. omega (arith, ap length e, h.2), λ e. absurd e)
