-- How a pushed formula comes out at a spot, by its shape: an atom by what the arithmetic answers (`came-atom`), a list by the tally of its members (`came-list`);
-- and what is written of it. Assumes nothing.
use mathlib.Core.Path.{◌≡◌, refl, sym, ◌∙◌, ap, subst}
use mathlib.Core.Bool as Bool
use mathlib.Core.Bool.{Bool, true, false, cond}
use mathlib.Core.List.{List, [], ◌∷◌, ◌++◌}
use Prim.Native.Nat.{ℕ, ◌+◌, ◌≤◌}
use native.Mathlib.Omega.{arith}
use Rattle.std.specs.Prelude.{Result, IsErr}
use lib.ListN.{length, take}
use lib.IntN.{ℤ}
use Rattle.reading.specs.Limits.{M}
use Rattle.reading.specs.Bytes.{bytes2, int_bytes}
use Rattle.reading.specs.Formula.{Comparison, comparison_no, Formula, Formulas, atom, list, none, more, encode, record_bytes, field_bytes}
use Rattle.reading.proofs.Lengths.{atom-long}
use Rattle.reading.specs.Views.{comparison_in, comparison_case_no}
use Rattle.reading.specs.declared.Comparison as Code
use Rattle.reading.specs.declared.Comparison.TheVariants.{Less, AtMost, Equal}
use Rattle.exact.specs.Numbers.{Each, all_in}
use Rattle.exact.specs.Atoms.{Came, sure, new, Spot, atom_at, fitting, put_of}
use Rattle.exact.specs.declared.Put.{Put}
use Rattle.exact.specs.declared.Put.TheVariants.{Decided, New, Large}
use Rattle.exact.proofs.Rows.{all-each}
use Rattle.exact.proofs.Atoms.{Nine, atom-nine, put-new}
use Rattle.writing.specs.Writing.{lay, atom_bytes}
use Rattle.rules.specs.Copies.{atom_by, copy, copy_all, fits, fit_all}
use Rattle.replacement.specs.Listing.{Come, truth, kept, big, come_of, going, tally, close, decided_as, kept_as, Wrote}
use Rattle.replacement.specs.Copying.{came}
use Rattle.replacement.specs.declared.Copied.{Copied}
use Rattle.replacement.specs.declared.TooBig.{TooBig}
use Rattle.writing.proofs.Lay.{lay-take}
use Rattle.replacement.proofs.Outcomes.{big-refused}
use Rattle.replacement.proofs.listing.Members.{nothing}
use Rattle.replacement.proofs.listing.Tallying.{Ruled, ruled-none, ruled-more, ruled-close}

-- ---- an atom, by the answer of the arithmetic

abbrev pub come_as : Comparison → Put → Come
come_as c (Decided v) = truth v
come_as c (New ks) = kept (atom c ks)
come_as c (Large ks) = big

pub came-atom : (q : Spot) (c : Comparison) (ns : List ℤ) {r : Put} → r ≡ put_of (atom_at q c ns) → came q (atom c ns) ≡ come_as c r
unfolding came fits copy
came-atom q c ns e = go (atom_at q c ns) ∙ sym (ap (come_as c) e)
  where
    by : (ks : List ℤ) (b : Bool) → cond b (kept (atom c ks)) big ≡ come_as c (cond b (New ks) (Large ks))
    by ks true = refl
    by ks false = refl

    go : (a : Came) → cond (fitting a) (come_of (atom_by a c)) big ≡ come_as c (put_of a)
    go (sure true) = refl
    go (sure false) = refl
    go (new ks) = by ks (all_in M ks)

-- a new atom has nine numbers, in range
pub new-nine : (q : Spot) (c : Comparison) (ns : List ℤ) {ks : List ℤ} → length ns ≡ 9 → put_of (atom_at q c ns) ≡ New ks → length ks ≡ 9
new-nine q c ns {ks} n e = subst Nine (put-new (atom_at q c ns) e).0 (atom-nine q c ns n)

pub new-each : (q : Spot) (c : Comparison) (ns : List ℤ) {ks : List ℤ} → put_of (atom_at q c ns) ≡ New ks → Each M ks
new-each q c ns {ks} e = all-each M ks (put-new (atom_at q c ns) e).1

-- ---- a list, by its members

abbrev pub came_all : Spot → Formulas → List Come
came_all q none = []
came_all q (more p ps) = came q p ∷ came_all q ps

ruled-members : (all : Bool) (q : Spot) (ps : Formulas) → Ruled all (came_all q ps) (fit_all q ps) (copy_all q ps)
unfolding came fits copy
ruled-members all q none = ruled-none all
ruled-members all q (more p ps) = ruled-more all (fits q p) (copy q p) (came_all q ps) (fit_all q ps) (copy_all q ps) (ruled-members all q ps)

-- a list that a member has decided is so at the end, where the numbers of the other members fit
pub came-early : (all : Bool) (q : Spot) (gs ps : Formulas) → fit_all q ps ≡ true → close all (tally all (going true gs) (came_all q ps)) ≡ truth (Bool.not all)
came-early all q gs ps e = ap (close all) (subst (λ (b : Bool). Ruled all (came_all q ps) b (copy_all q ps)) e (ruled-members all q ps) true gs)

pub came-list : (q : Spot) (all : Bool) (ps : Formulas) → came q (list all ps) ≡ close all (tally all (going false none) (came_all q ps))
unfolding came fits copy
came-list q all ps = sym (ruled-close all (came_all q ps) (fit_all q ps) (copy_all q ps) (ruled-members all q ps))

-- ---- what is written

-- the same answer, said of an equal formula and an equal length
pub retold : (q : Spot) {p g : Formula} {m n to : ℕ} {o₀ o : List ℕ} {r : Result Copied TooBig} → p ≡ g → m ≡ n → Wrote (came q p) m to o₀ o r → Wrote (came q g) n to o₀ o r
retold q {p} {g} {m} {n} {to} {o₀} {o} {r} e f w = subst (λ (k : ℕ). Wrote (came q g) k to o₀ o r) f (subst (λ (y : Formula). Wrote (came q y) m to o₀ o r) e w)

pub wrote-decided : {c : Come} (v : Bool) (used to : ℕ) (o₀ o : List ℕ) → c ≡ truth v → take to o ≡ take to o₀ → Wrote c used to o₀ o (decided_as used v)
wrote-decided v used to o₀ o e f = subst (λ (c : Come). Wrote c used to o₀ o (decided_as used v)) (sym e) (record { answer = refl; bytes = nothing to o₀ o f })

pub wrote-truth : {c : Come} (v : Bool) (used to : ℕ) (o : List ℕ) → c ≡ truth v → Wrote c used to o o (decided_as used v)
wrote-truth v used to o e = wrote-decided v used to o o e refl

pub wrote-big : {c : Come} (used to : ℕ) (o₀ o : List ℕ) {r : Result Copied TooBig} → IsErr r → c ≡ big → take to o ≡ take to o₀ → Wrote c used to o₀ o r
wrote-big used to o₀ o {r} h e f = subst (λ (c : Come). Wrote c used to o₀ o r) (sym e) (record { answer = big-refused r h; bytes = nothing to o₀ o f })

kind-of : (c : Code.Comparison) → comparison_no (comparison_in c) ≡ comparison_case_no c
kind-of Less = refl
kind-of AtMost = refl
kind-of Equal = refl

atom-is : (c : Code.Comparison) (ns : List ℤ) → atom_bytes (comparison_case_no c) ns ≡ encode (atom (comparison_in c) ns)
unfolding atom_bytes encode record_bytes field_bytes
atom-is c ns = sym (ap (λ (j : ℕ). bytes2 40 ++ bytes2 j ++ int_bytes ns) (kind-of c))

pub wrote_kept : {c : Come} (g : Formula) (used to n : ℕ) (o o' : List ℕ) → c ≡ kept g → length (encode g) ≡ n → to + n ≤ length o → o' ≡ lay to (encode g) o → Wrote c used to o o' (kept_as used (to + n))
wrote_kept g used to n o o' e z w p =
    subst (λ (c : Come). Wrote c used to o o' (kept_as used (to + n))) (sym e)
    (record { answer = ap (λ (m : ℕ). kept_as used (to + m)) (sym z); bytes = ap (take (to + length (encode g))) p ∙ lay-take to (encode g) o (omega arith) })

pub wrote-atom : {y : Come} (c : Code.Comparison) (ns : List ℤ) (used to : ℕ) (o o' : List ℕ) → y ≡ kept (atom (comparison_in c) ns) → length ns ≡ 9 → to + 40 ≤ length o
    → o' ≡ lay to (atom_bytes (comparison_case_no c) ns) o → Wrote y used to o o' (kept_as used (to + 40))
wrote-atom c ns used to o o' e n w p =
    wrote_kept (atom (comparison_in c) ns) used to 40 o o' e (atom-long (comparison_in c) ns n) w (p ∙ ap (λ (x : List ℕ). lay to x o) (atom-is c ns))
