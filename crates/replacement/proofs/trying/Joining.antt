-- The list of the copies: one copy more, and that a list which is over is longer than any result. Assumes nothing.
use mathlib.Core.Path.{◌≡◌, refl, sym, ◌∙◌, ap, ap₂, subst}
use mathlib.Core.Bool.{Bool, true, false, true≢false}
use mathlib.Core.List.{List, [], ◌∷◌, ◌++◌}
use Prim.Native.Nat.{ℕ, ◌+◌, ◌≤◌, ◌<◌}
use native.Mathlib.Omega.{arith}
use Rattle.std.specs.Prelude.{Result, Ok}
use lib.ListN.{length, take}
use lib.Dec.{ltb}
use borrow.Author.Tests.{ltb-true, ltb-false}
use Rattle.reading.specs.Formula.{Formula, Formulas, none, more, encode, encodes}
use Rattle.reading.specs.Limits.{result_bytes}
use Rattle.replacement.specs.Listing.{Come, truth, kept, big, bytes_of, copied_of, Wrote, Tally, over, going, snoc, hits, add, close_of, decided_of}
use Rattle.replacement.specs.Trying.{kept_by, kept_in, joined_of, Live, Stays, Lists, Tries}
use Rattle.replacement.specs.declared.Copied.{Copied}
use Rattle.replacement.specs.declared.TooBig.{TooBig}
use Rattle.replacement.proofs.Outcomes.{ok-is, not-ok}
use Rattle.replacement.specs.declared.Copies.{Copies}
use Rattle.reading.proofs.Lengths.{list-long, four-long, none-long, one-is}
use Rattle.replacement.proofs.listing.Members.{snoc-long, at-decided, at-kept}

-- ---- one copy more

module _ (all x : Bool) (gs : Formulas) (c : Copies) (o₀ o o' : List ℕ) (a : Stays all x gs c o₀ o) (s : length o' ≡ length o) where
  next-decided : (v : Bool) → take (c.list.end + 0) o' ≡ take c.list.end o ++ []
      → Stays all (hits x all v) gs (record { list = decided_of c.list v; over = c.over }) o₀ o'
  next-decided v w =
      record {
        fixed = ap₂ (λ (y z : Bool). hits y z v) a.fixed a.same;
        same = a.same;
        end = a.end;
        few = a.few;
        live = λ n. go (a.live (undecided x n));
      }
    where
      undecided : (y : Bool) → hits y all v ≡ false → y ≡ false
      undecided true n = n
      undecided false n = refl

      go : Live gs c o₀ o → Live gs (record { list = decided_of c.list v; over = c.over }) o₀ o'
      go l = record { written = λ e. at-decided c.list gs 0 o₀ o o' v (l.written e) s w; large = l.large }

  next-kept : (g : Formula) (k : Bool) → c.over ≡ k → c.list.end + length (encode g) ≤ length o → take (c.list.end + length (encode g)) o' ≡ take c.list.end o ++ encode g
      → Stays all x (snoc gs g) (kept_in k c (c.list.end + length (encode g))) o₀ o'
  next-kept g true e r w =
      record {
        fixed = a.fixed;
        same = a.same;
        end = a.end;
        few = a.few;
        live = λ n. record { written = λ m. absurd (true≢false (sym e ∙ m)); large = λ m. let l = (a.live n).large m in omega (arith, l, snoc-long gs g) };
      }
  next-kept g false e r w = go (ltb (result_bytes + 6) z) refl
    where
      z : ℕ
      z = c.list.end + length (encode g)

      go : (k : Bool) → ltb (result_bytes + 6) z ≡ k → Stays all x (snoc gs g) (kept_by k c z) o₀ o'
      go true n =
          record {
            fixed = a.fixed;
            same = a.same;
            end = a.end;
            few = a.few;
            live = λ y. let t = (a.live y).written e in record { written = λ m. absurd (true≢false m); large = λ m. omega (arith, ltb-true (result_bytes + 6) z n, t.until, snoc-long gs g) };
          }
      go false n =
          record {
            fixed = a.fixed;
            same = a.same;
            end = ltb-false (result_bytes + 6) z n;
            few = omega (arith, a.few, four-long g);
            live = λ y. record { written = λ m. at-kept c.list gs g 0 o₀ o o' ((a.live y).written e) s r w; large = λ m. absurd (true≢false (sym m)) };
          }

module _ (b : ℕ) (c : Copies) (d : Come) (used : ℕ) (o o' : List ℕ) where
  pub next-copy : (r : Copied) → c.list.end + length (bytes_of d) ≤ length o → length o' ≡ length o → Wrote d used c.list.end o o' (Ok r) → Tries b c (d ∷ []) o o' (Ok (joined_of c r.came))
  next-copy r h s w = record { tells = next }
    where
      next : (all : Bool) (t : Tally) (o₀ : List ℕ) → Lists all t c o₀ o → Lists all (add all t d) (joined_of c r.came) o₀ o'
      next all over o₀ l = absurd l
      next all (going x gs) o₀ l = go d h w.answer w.bytes
        where
          go : (e : Come) → c.list.end + length (bytes_of e) ≤ length o → ◌≡◌ {A = Result Copied TooBig} (Ok r) (copied_of e used c.list.end) → take (c.list.end + length (bytes_of e)) o' ≡ take c.list.end o ++ bytes_of e
              → Lists all (add all (going x gs) e) (joined_of c r.came) o₀ o'
          go (truth v) k i n = subst (λ (y : Copied). Lists all (add all (going x gs) (truth v)) (joined_of c y.came) o₀ o') (sym (ok-is i)) (next-decided all x gs c o₀ o o' l s v n)
          go (kept g) k i n = subst (λ (y : Copied). Lists all (add all (going x gs) (kept g)) (joined_of c y.came) o₀ o') (sym (ok-is i)) (next-kept all x gs c o₀ o o' l s g c.over refl k n)
          go big k i n = absurd (not-ok i)

-- ---- the end: a list that lives and is too long is longer than any result, as a list or as its one member

pub over-long : (all : Bool) (gs : Formulas) → result_bytes < length (encodes gs) → result_bytes < length (bytes_of (close_of all false gs))
over-long all none h = absurd (omega (arith, none-long))
over-long all (more g none) h = omega (arith, ap length (one-is g))
over-long all (more g (more k gs)) h = omega (arith, list-long all (more g (more k gs)))
