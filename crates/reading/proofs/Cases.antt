-- What reading one record can find, case by case: a refusal, or one of the five sorts of records with all that was tested. Laws about `head`
-- go by `head_in`. Assumes nothing.
use mathlib.Core.Path.{◌≡◌, refl}
use mathlib.Core.List.{List}
use Prim.Native.Nat.{ℕ, ◌≤◌}
use lib.ListN.{length}
use lib.Dec.{ltb, leb, eqb}
use borrow.Author.Tests.{ltb-false, leb-true, eqb-true}
use mathlib.Core.Bool.{Bool, true, false, cond}
use Rattle.reading.specs.Limits.{last_variable}
use Rattle.reading.specs.AnswerNumbers.{cut_short, wrong_kind, wrong_length, wrong_variable, wrong_number}
use Rattle.reading.specs.Bytes.{le2, int4, ints}
use Rattle.reading.specs.Formula.{Comparison, comparison_no, list_no, quant_no, less, atmost, equal, atom_l, not_l, list_l, quant_l, window_l}
use Rattle.reading.specs.Records.{Record, Kind, kind_of, sized, all_m, by_kind, head, bad, opened, atom_k, not_k, list_k, quant_k, window_k, unknown_k}

pick-in {ℓ} : {A : Type ℓ} (P : A → Type 0) (b : Bool) (x y : A) → (b ≡ true → P x) → (b ≡ false → P y) → P (cond b x y)
pick-in P true x y f g = f refl
pick-in P false x y f g = g refl

-- the kinds, one after the other
kind-cases : (P : Kind → Type 0) (k : ℕ) → ((c : Comparison) → k ≡ comparison_no c → P (atom_k c)) → (k ≡ 4 → P not_k) → ((b : Bool) → k ≡ list_no b → P (list_k b)) → ((b : Bool) → k ≡ quant_no b → P (quant_k b)) → (k ≡ 9 → P window_k) → P unknown_k → P (kind_of k)
unfolding kind_of
kind-cases P k at nt li qu wi un =
    let k9 = cond (eqb k 9) window_k unknown_k in
    let k8 = cond (eqb k 8) (quant_k true) k9 in
    let k7 = cond (eqb k 7) (quant_k false) k8 in
    let k6 = cond (eqb k 6) (list_k false) k7 in
    let k5 = cond (eqb k 5) (list_k true) k6 in
    let k4 = cond (eqb k 4) not_k k5 in
    let k3 = cond (eqb k 3) (atom_k equal) k4 in
    let k2 = cond (eqb k 2) (atom_k atmost) k3 in
    pick-in P (eqb k 1) (atom_k less) k2 (λ h. at less (eqb-true k 1 h)) (λ _.
    pick-in P (eqb k 2) (atom_k atmost) k3 (λ h. at atmost (eqb-true k 2 h)) (λ _.
    pick-in P (eqb k 3) (atom_k equal) k4 (λ h. at equal (eqb-true k 3 h)) (λ _.
    pick-in P (eqb k 4) not_k k5 (λ h. nt (eqb-true k 4 h)) (λ _.
    pick-in P (eqb k 5) (list_k true) k6 (λ h. li true (eqb-true k 5 h)) (λ _.
    pick-in P (eqb k 6) (list_k false) k7 (λ h. li false (eqb-true k 6 h)) (λ _.
    pick-in P (eqb k 7) (quant_k false) k8 (λ h. qu false (eqb-true k 7 h)) (λ _.
    pick-in P (eqb k 8) (quant_k true) k9 (λ h. qu true (eqb-true k 8 h)) (λ _.
    pick-in P (eqb k 9) window_k unknown_k (λ h. wi (eqb-true k 9 h)) (λ _. un)))))))))

module _ (P : Record → Type 0) (s : List ℕ) (no : (e : ℕ) → P (bad e)) where
  sized-in : (m : ℕ) (r : Record) → (le2 s 0 ≡ m → m ≤ length s → P r) → P (sized m (le2 s 0) s r)
  unfolding sized
  sized-in m r f =
      pick-in P (eqb (le2 s 0) m) (cond (ltb (length s) m) (bad cut_short) r) (bad wrong_length)
      (λ e. pick-in P (ltb (length s) m) (bad cut_short) r (λ _. no cut_short) (λ h. f (eqb-true (le2 s 0) m e) (ltb-false (length s) m h)))
      (λ _. no wrong_length)

  named_in : (r : Record) → (le2 s 4 ≤ last_variable → P r) → P (cond (leb (le2 s 4) last_variable) r (bad wrong_variable))
  named_in r f = pick-in P (leb (le2 s 4) last_variable) r (bad wrong_variable) (λ h. f (leb-true (le2 s 4) last_variable h)) (λ _. no wrong_variable)

  pub head_in : ((c : Comparison) → le2 s 0 ≡ 40 → le2 s 2 ≡ comparison_no c → 40 ≤ length s → all_m 9 4 s ≡ true → P (opened (atom_l c (ints 9 4 s))))
      → (le2 s 0 ≡ 4 → le2 s 2 ≡ 4 → 4 ≤ length s → P (opened not_l))
      → ((b : Bool) → le2 s 0 ≡ 6 → le2 s 2 ≡ list_no b → 6 ≤ length s → P (opened (list_l b (le2 s 4))))
      → ((b : Bool) → le2 s 0 ≡ 6 → le2 s 2 ≡ quant_no b → 6 ≤ length s → le2 s 4 ≤ last_variable → P (opened (quant_l b (le2 s 4))))
      → (le2 s 0 ≡ 14 → le2 s 2 ≡ 9 → 14 ≤ length s → le2 s 4 ≤ last_variable → all_m 2 6 s ≡ true → P (opened (window_l (le2 s 4) (int4 s 6) (int4 s 10))))
      → P (head s)
  unfolding head by_kind
  head_in at nt li qu wi =
      let x : Comparison → Record = λ c. opened (atom_l c (ints 9 4 s)) in
      let w = opened (window_l (le2 s 4) (int4 s 6) (int4 s 10)) in
      pick-in P (ltb (length s) 4) (bad cut_short) (by_kind (kind_of (le2 s 2)) (le2 s 0) s) (λ _. no cut_short) (λ _.
      kind-cases (λ K. P (by_kind K (le2 s 0) s)) (le2 s 2)
      (λ c k. sized-in 40 (cond (all_m 9 4 s) (x c) (bad wrong_number)) (λ l h. pick-in P (all_m 9 4 s) (x c) (bad wrong_number) (λ m. at c l k h m) (λ _. no wrong_number)))
      (λ k. sized-in 4 (opened not_l) (λ l h. nt l k h))
      (λ b k. sized-in 6 (opened (list_l b (le2 s 4))) (λ l h. li b l k h))
      (λ b k. sized-in 6 (cond (leb (le2 s 4) last_variable) (opened (quant_l b (le2 s 4))) (bad wrong_variable)) (λ l h. named_in (opened (quant_l b (le2 s 4))) (λ v. qu b l k h v)))
      (λ k. sized-in 14 (cond (leb (le2 s 4) last_variable) (cond (all_m 2 6 s) w (bad wrong_number)) (bad wrong_variable)) (λ l h. named_in (cond (all_m 2 6 s) w (bad wrong_number)) (λ v. pick-in P (all_m 2 6 s) w (bad wrong_number) (λ m. wi l k h v m) (λ _. no wrong_number))))
      (no wrong_kind))
