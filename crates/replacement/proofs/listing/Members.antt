-- A list while it is written: its bytes after each member, and after the list rule. `at-taken` is the law of one member more. Assumes nothing.
use mathlib.Core.Path.{◌≡◌, refl, sym, ◌∙◌, ap, ap₂, subst}
use mathlib.Core.Bool.{Bool, true, false}
use mathlib.Core.List.{List, [], ◌++◌, append_assoc, append-nil}
use Prim.Native.Nat.{ℕ, ◌+◌, ◌-◌, ◌≤◌}
use native.Mathlib.Nat.{add-zero}
use native.Mathlib.Omega.{arith}
use Rattle.std.specs.Prelude.{Ok}
use lib.ListN.{length, take, drop, length-append}
use lib.Seq.{paste, take-add, take_at, length-take-le}
use Rattle.reading.specs.Formula.{Formula, Formulas, list, none, more, encode, encodes, count, record_bytes, field_bytes}
use Rattle.reading.proofs.Lengths.{one-is}
use Rattle.writing.specs.Writing.{lay, list_bytes}
use Rattle.replacement.specs.Listing.{Come, truth, kept, big, going, snoc, add, close_of, bytes_of, Wrote, opened_of, decided_of, kept_of, taken_of, kept_as, At}
use Rattle.replacement.specs.declared.Copied.{Copied}
use Rattle.replacement.specs.declared.Open.{Open}
use Rattle.replacement.proofs.Outcomes.{ok-is, not-ok}
use Rattle.writing.proofs.Lay.{lay-take, lay-drop, keeps, cancel}

-- ---- members and their bytes

encodes-snoc : (gs : Formulas) (g : Formula) → encodes (snoc gs g) ≡ encodes gs ++ encode g
unfolding encodes
encodes-snoc none g = append-nil (encode g)
encodes-snoc (more f fs) g = ap (λ (l : List ℕ). encode f ++ l) (encodes-snoc fs g) ∙ sym (append_assoc (encode f) (encodes fs) (encode g))

pub snoc-long : (gs : Formulas) (g : Formula) → length (encodes (snoc gs g)) ≡ length (encodes gs) + length (encode g)
snoc-long gs g = ap length (encodes-snoc gs g) ∙ length-append (encodes gs) (encode g)

count-snoc : (gs : Formulas) (g : Formula) → count (snoc gs g) ≡ count gs + 1
count-snoc none g = refl
count-snoc (more f fs) g = let h = count-snoc fs g in omega arith

-- ---- a list while it is written

pub at-opened : (all : Bool) (to : ℕ) (o : List ℕ) → to + 6 ≤ length o → At (opened_of all to) none to o o
unfolding encodes
at-opened all to o h =
    record { from = refl; many = refl; until = sym (add-zero (to + 6)); front = refl; body = sym (append-nil (take (to + 6) o)); room = h }

pub at-decided : (l : Open) (gs : Formulas) (to : ℕ) (o₀ o o' : List ℕ) (v : Bool) → At l gs to o₀ o → length o' ≡ length o → take (l.end + 0) o' ≡ take l.end o ++ [] → At (decided_of l v) gs to o₀ o'
at-decided l gs to o₀ o o' v a s e =
    let u = a.until in
    let w = a.room in
    let k : (m : ℕ) → m ≤ l.end → take m o' ≡ take m o = λ m h. keeps l.end [] o o' m e h w in
    record {
      from = a.from;
      many = a.many;
      until = u;
      front = k to (omega arith) ∙ a.front;
      body = k l.end (omega arith) ∙ a.body ∙ ap (λ (x : List ℕ). x ++ encodes gs) (sym (k (to + 6) (omega arith)));
      room = omega (arith, s, w);
    }

pub at-kept : (l : Open) (gs : Formulas) (g : Formula) (to : ℕ) (o₀ o o' : List ℕ) → At l gs to o₀ o → length o' ≡ length o → l.end + length (encode g) ≤ length o
    → take (l.end + length (encode g)) o' ≡ take l.end o ++ encode g → At (kept_of l (l.end + length (encode g))) (snoc gs g) to o₀ o'
at-kept l gs g to o₀ o o' a s q e =
    let u = a.until in
    let w = a.room in
    let k : (m : ℕ) → m ≤ l.end → take m o' ≡ take m o = λ m h. keeps l.end (encode g) o o' m e h w in
    record {
      from = a.from;
      many = ap (λ (j : ℕ). j + 1) a.many ∙ sym (count-snoc gs g);
      until = omega (arith, u, snoc-long gs g);
      front = k to (omega arith) ∙ a.front;
      body = e ∙ ap (λ (x : List ℕ). x ++ encode g) (a.body ∙ ap (λ (x : List ℕ). x ++ encodes gs) (sym (k (to + 6) (omega arith)))) ∙ append_assoc (take (to + 6) o') (encodes gs) (encode g) ∙ ap (λ (x : List ℕ). take (to + 6) o' ++ x) (sym (encodes-snoc gs g));
      room = omega (arith, s, q);
    }

-- what is known of the list l with the members gs after one more, which came out as c: it is l' now
pub record Taken (l : Open) (gs : Formulas) (to : ℕ) (o₀ o : List ℕ) (c : Come) (l' : Open) : Type 0 where
  pub members : Formulas
  pub is : add l.all (going l.fixed gs) c ≡ going l'.fixed members
  pub written : At l' members to o₀ o
  pub same : l'.all ≡ l.all
  pub few : count members ≤ count gs + 1
  pub end : l'.end ≡ l.end + length (bytes_of c)

pub at-taken : (l : Open) (gs : Formulas) (to : ℕ) (o₀ o o' : List ℕ) (c : Come) (used : ℕ) (r : Copied) → At l gs to o₀ o → length o' ≡ length o → l.end + length (bytes_of c) ≤ length o
    → Wrote c used l.end o o' (Ok r) → Taken l gs to o₀ o' c (taken_of l r.came)
at-taken l gs to o₀ o o' (truth v) used r a s q w =
    subst (λ (y : Copied). Taken l gs to o₀ o' (truth v) (taken_of l y.came)) (sym (ok-is w.answer))
    (record { members = gs; is = refl; written = at-decided l gs to o₀ o o' v a s w.bytes; same = refl; few = omega arith; end = sym (add-zero l.end) })
at-taken l gs to o₀ o o' (kept g) used r a s q w =
    subst (λ (y : Copied). Taken l gs to o₀ o' (kept g) (taken_of l y.came)) (sym (ok-is w.answer))
    (record { members = snoc gs g; is = refl; written = at-kept l gs g to o₀ o o' a s q w.bytes; same = refl; few = omega (arith, count-snoc gs g); end = refl })
at-taken l gs to o₀ o o' big used r a s q w = absurd (not-ok w.answer)

-- the bytes that an answer says were read; a refusal says nothing of them
pub used-is : (c : Come) (used to : ℕ) (o₀ o : List ℕ) (r : Copied) → Wrote c used to o₀ o (Ok r) → r.used ≡ used
used-is (truth v) used to o₀ o r w = ap (λ (y : Copied). y.used) (ok-is w.answer)
used-is (kept g) used to o₀ o r w = ap (λ (y : Copied). y.used) (ok-is w.answer)
used-is big used to o₀ o r w = absurd (not-ok w.answer)

pub wrote_after : (n : ℕ) (c : Come) (used to : ℕ) (o₀ o : List ℕ) (r : Copied) → Wrote c used to o₀ o (Ok r) → Wrote c (n + used) to o₀ o (Ok (record { used = n + r.used; came = r.came }))
wrote_after n (truth v) used to o₀ o r w = record { answer = ap (λ (y : Copied). Ok (record { used = n + y.used; came = y.came })) (ok-is w.answer); bytes = w.bytes }
wrote_after n (kept g) used to o₀ o r w = record { answer = ap (λ (y : Copied). Ok (record { used = n + y.used; came = y.came })) (ok-is w.answer); bytes = w.bytes }
wrote_after n big used to o₀ o r w = absurd (not-ok w.answer)

-- ---- the list rule

six : (all : Bool) (n : ℕ) → length (list_bytes all n) ≡ 6
unfolding list_bytes
six all n = refl

list-is : (all : Bool) (gs : Formulas) → list_bytes all (count gs) ++ encodes gs ≡ encode (list all gs)
unfolding list_bytes encode record_bytes field_bytes
list-is true gs = refl
list-is false gs = refl

pub nothing : (to : ℕ) (o₀ o : List ℕ) → take to o ≡ take to o₀ → take (to + 0) o ≡ take to o₀ ++ []
nothing to o₀ o e = ap (λ (n : ℕ). take n o) (add-zero to) ∙ e ∙ sym (append-nil (take to o₀))

module _ (l : Open) (gs : Formulas) (to used : ℕ) (o₀ o : List ℕ) (a : At l gs to o₀ o) where
  body_is : take (length (encodes gs)) (drop (to + 6) o) ≡ encodes gs
  body_is = cancel (to + 6) l.end o (encodes gs) (let u = a.until in let w = a.room in omega arith) a.until a.body

  pub closed-one : (o' : List ℕ) → l.fixed ≡ false → l.kept ≡ 1 → o' ≡ paste o l.start (drop (l.start + 6) o) (l.end - (l.start + 6))
      → Wrote (close_of l.all l.fixed gs) used to o₀ o' (kept_as used (l.end - 6))
  closed-one o' e k p =
      let u = a.until in
      let w = a.room in
      let n : l.end - (to + 6) ≡ length (encodes gs) = omega arith in
      let f : l.end - 6 ≡ to + length (encodes gs) = omega arith in
      let q : o' ≡ (take to o ++ encodes gs) ++ drop (to + length (encodes gs)) o =
      p ∙ ap (λ (m : ℕ). paste o m (drop (m + 6) o) (l.end - (m + 6))) a.from ∙ ap (paste o to (drop (to + 6) o)) n
      ∙ ap (λ (x : List ℕ). (take to o ++ x) ++ drop (to + length (encodes gs)) o) body_is in
      let h : length (take to o ++ encodes gs) ≡ to + length (encodes gs) = length-append (take to o) (encodes gs) ∙ ap (λ (m : ℕ). m + length (encodes gs)) (length-take-le to o (omega arith)) in
      let t : take (to + length (encodes gs)) o' ≡ take to o₀ ++ encodes gs =
      ap (take (to + length (encodes gs))) q ∙ take_at (take to o ++ encodes gs) (drop (to + length (encodes gs)) o) (to + length (encodes gs)) h ∙ ap (λ (x : List ℕ). x ++ encodes gs) a.front in
      subst (λ (x : Bool). Wrote (close_of l.all x gs) used to o₀ o' (kept_as used (l.end - 6))) (sym e) (go gs (sym a.many ∙ k) f t)
    where
      go : (gs : Formulas) → count gs ≡ 1 → l.end - 6 ≡ to + length (encodes gs) → take (to + length (encodes gs)) o' ≡ take to o₀ ++ encodes gs → Wrote (close_of l.all false gs) used to o₀ o' (kept_as used (l.end - 6))
      go none h f t = absurd (omega arith)
      go (more g none) h f t =
          record { answer = ap (kept_as used) (f ∙ ap (λ (b : List ℕ). to + length b) (one-is g)); bytes = subst (λ (b : List ℕ). take (to + length b) o' ≡ take to o₀ ++ b) (one-is g) t }
      go (more g (more h gs)) k f t = absurd (omega arith)

  pub closed-many : (o' : List ℕ) → l.fixed ≡ false → (l.kept ≡ 0 → ⊥) → (l.kept ≡ 1 → ⊥) → o' ≡ lay l.start (list_bytes l.all l.kept) o
      → Wrote (close_of l.all l.fixed gs) used to o₀ o' (kept_as used l.end)
  closed-many o' e k k' p =
      let u = a.until in
      let w = a.room in
      let h = list_bytes l.all (count gs) in
      let z : length h ≡ 6 = six l.all (count gs) in
      let q : o' ≡ lay to h o = p ∙ ap₂ (λ (m i : ℕ). lay m (list_bytes l.all i) o) a.from a.many in
      let f : l.end ≡ to + length (h ++ encodes gs) = omega (arith, length-append h (encodes gs)) in
      let x : take (to + 6) o' ≡ take to o₀ ++ h = ap (take (to + 6)) q ∙ sym (ap (λ (i : ℕ). take (to + i) (lay to h o)) z) ∙ lay-take to h o (omega arith) ∙ ap (λ (y : List ℕ). y ++ h) a.front in
      let y : drop (to + 6) o' ≡ drop (to + 6) o = ap (drop (to + 6)) q ∙ lay-drop to h o (to + 6) (omega arith) in
      let i : to + length (h ++ encodes gs) ≡ to + 6 + length (encodes gs) = omega (arith, length-append h (encodes gs)) in
      let t : take (to + length (h ++ encodes gs)) o' ≡ take to o₀ ++ (h ++ encodes gs) =
      ap (λ (m : ℕ). take m o') i ∙ take-add (to + 6) (length (encodes gs)) o'
      ∙ ap₂ ◌++◌ x (ap (take (length (encodes gs))) y ∙ body_is) ∙ append_assoc (take to o₀) h (encodes gs) in
      subst (λ (x : Bool). Wrote (close_of l.all x gs) used to o₀ o' (kept_as used l.end)) (sym e) (go gs (λ j. k (a.many ∙ j)) (λ j. k' (a.many ∙ j)) f t)
    where
      go : (gs : Formulas) → (count gs ≡ 0 → ⊥) → (count gs ≡ 1 → ⊥) → l.end ≡ to + length (list_bytes l.all (count gs) ++ encodes gs)
          → take (to + length (list_bytes l.all (count gs) ++ encodes gs)) o' ≡ take to o₀ ++ (list_bytes l.all (count gs) ++ encodes gs) → Wrote (close_of l.all false gs) used to o₀ o' (kept_as used l.end)
      go none k k' f t = absurd (k refl)
      go (more g none) k k' f t = absurd (k' refl)
      go (more g (more h gs)) k k' f t =
          let m = more g (more h gs) in
          record { answer = ap (kept_as used) (f ∙ ap (λ (b : List ℕ). to + length b) (list-is l.all m)); bytes = subst (λ (b : List ℕ). take (to + length b) o' ≡ take to o₀ ++ b) (list-is l.all m) t }
