-- The two copies of `join`, and that they put the replacement in place of the quantifier. Assumes nothing.
use mathlib.Core.Path.{◌≡◌, refl, sym, ◌∙◌, ap, ap₂}
use mathlib.Core.Bool.{Bool, true, false, cond}
use mathlib.Core.List.{List, ◌++◌, append_assoc}
use Prim.Native.Nat.{ℕ, ◌+◌, ◌-◌, ◌≤◌, ◌<◌}
use native.Mathlib.Omega.{arith}
use lib.Dec.{ltb}
use lib.ListN.{length, take, drop, length-append, length-drop, take-append-drop}
use lib.Seq.{length-take-le, take-append-le, take_at, drop_at}
use borrow.Author.Tests.{lt-ltb, le-ltb}
use borrow.Rule.Slice.PartMut.{mid_of, put_mid, mid_len, same_len_mid, take_put, post_of}
use Rattle.std.proofs.lemmas.Slice.{take-put_mid, drop-put_mid, drop-append-drop}
use Rattle.reading.specs.Limits.{result_bytes}
use Rattle.reading.specs.Formula.{Formula}
use Rattle.replacement.specs.Replacing.{Put}
use Rattle.elimination.specs.Stepping.{Stepped, Fine, Refused, Joins, joined_end}
use Rattle.writing.proofs.Moving.{drop-take}

module _ (o r : ℕ) (cur out tail : List ℕ) where
  judged : (b : Bool) → ltb result_bytes (joined_end o r tail) ≡ b → cond {A = Stepped} b (Refused 12) (Fine (joined_end o r tail)) ≡ cond (ltb result_bytes (joined_end o r tail)) (Refused 12) (Fine (joined_end o r tail))
  judged b e = ap (λ (b : Bool). cond {A = Stepped} b (Refused 12) (Fine (joined_end o r tail))) (sym e)

  pub join-over : result_bytes < joined_end o r tail → Joins o r cur cur out tail (Refused 12)
  join-over h = record { answer = judged true (lt-ltb result_bytes (joined_end o r tail) h); bytes = λ k. absurd (omega arith); cur_rest = refl }

  module _ (h : joined_end o r tail ≤ result_bytes) (c : result_bytes ≤ length cur) (w : r ≤ length out) (x y : List ℕ) (e : x ≡ take r out) (f : y ≡ tail) where
    abbrev first : List ℕ
    first = put_mid o (o + r - o) cur x

    long : length x ≡ r
    long = ap length e ∙ length-take-le r out w

    same : length first ≡ length cur
    same = same_len_mid o (o + r - o) cur x (omega (arith, long, mid_len o (o + r) cur (omega arith)))

    pub join-fine : Joins o r cur (put_mid (o + r) (joined_end o r tail - (o + r)) first y) out tail (Fine (joined_end o r tail))
    join-fine =
        let t : length y ≡ length tail = ap length f in
        record {
          answer = judged false (le-ltb result_bytes (joined_end o r tail) h);
          bytes = λ k. take-put_mid (o + r) (joined_end o r tail - (o + r)) first y (joined_end o r tail) (omega arith) (omega (arith, same))
              ∙ ap₂ (λ (a b : List ℕ). a ++ b) (take-put_mid o (o + r - o) cur x (o + r) (omega (arith, long)) (omega arith) ∙ ap (λ (b : List ℕ). take o cur ++ b) e) f
              ∙ append_assoc (take o cur) (take r out) tail;
          cur_rest = drop-put_mid (o + r) (joined_end o r tail - (o + r)) first y result_bytes (omega arith) (omega (arith, same)) (omega arith)
              ∙ drop-put_mid o (o + r - o) cur x result_bytes (omega arith) (omega arith) (omega (arith, long));
        }

-- ---- the bytes from e on of a formula of len bytes

pub record Tail (len e : ℕ) (cur tail : List ℕ) : Type 0 where
  pub long : length tail ≡ len - e
  pub behind : tail ≡ drop e (take len cur)

pub tail-of : {len e : ℕ} {cur tail : List ℕ} → e ≤ len → len ≤ length cur → tail ≡ take (len - e) (drop e cur) → Tail len e cur tail
tail-of {len} {e} {cur} stop room start =
    record { long = ap length start ∙ length-take-le (len - e) (drop e cur) (omega (arith, length-drop e cur)); behind = start ∙ sym (drop-take e len cur stop room) }

-- ---- the work buffer, with k bytes at its start

abbrev pub after_tail : ℕ → List ℕ → List ℕ → List ℕ
after_tail k work tail = tail ++ drop k work

pub record Begun (k : ℕ) (work tail : List ℕ) : Type 0 where
  pub few : k ≤ result_bytes
  pub room : result_bytes ≤ length work
  pub long : length tail ≡ k

module _ {k : ℕ} {work tail : List ℕ} (b : Begun k work tail) where
  pub begun-front : take k (after_tail k work tail) ≡ tail
  begun-front = take_at tail (drop k work) k b.long

  pub begun-rest : drop result_bytes (after_tail k work tail) ≡ drop result_bytes work
  begun-rest = drop-append-drop k work tail result_bytes b.few b.long

  begun-long : length (after_tail k work tail) ≡ length work
  begun-long = omega (arith, b.few, b.room, b.long, length-append tail (drop k work), length-drop k work)

  -- what is behind them of a result's bytes
  pub part-long : length (mid_of k (result_bytes - k) (after_tail k work tail)) ≡ result_bytes - k
  part-long = mid_len k result_bytes (after_tail k work tail) (omega (arith, b.room, begun-long))

  -- and `out` written there
  module _ (out : List ℕ) (size : length out ≡ result_bytes - k) where
    abbrev filled : List ℕ
    filled = put_mid k (result_bytes - k) (after_tail k work tail) out

    pub filled-front : take k filled ≡ tail
    filled-front = take_put k (result_bytes - k) (after_tail k work tail) out (omega (arith, b.few, b.room, begun-long)) ∙ begun-front

    pub filled-rest : drop result_bytes filled ≡ drop result_bytes work
    filled-rest = drop-put_mid k (result_bytes - k) (after_tail k work tail) out result_bytes (omega (arith, b.few)) (omega (arith, b.few, b.room, begun-long)) size ∙ begun-rest

    pub filled_put : {g : Formula} {r : ℕ} → Put g out r → Put g (drop k filled) r
    filled_put {g} {r} p =
        record {
          short = λ s.
              let q = p.short s in (
                q.0,
                ap (take r) (drop_at (take k (after_tail k work tail)) (out ++ post_of k (result_bytes - k) (after_tail k work tail)) k (length-take-le k (after_tail k work tail) (omega (arith, b.few, b.room, begun-long))))
                    ∙ take-append-le r out _ (omega (arith, q.0, ap length q.1, ap length (take-append-drop r out), length-append (take r out) (drop r out))) ∙ q.1,
              );
          long = p.long;
        }
