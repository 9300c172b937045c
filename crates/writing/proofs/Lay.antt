-- The laws of `lay`: what stands where, after bytes were laid over a list; and the turns of the loops that write. Assumes nothing.
use mathlib.Core.Path.{◌≡◌, refl, sym, ◌∙◌, ap, ap₂}
use mathlib.Core.Bool.{Bool}
use mathlib.Core.List.{List, [], ◌∷◌, ◌++◌, append_assoc, append-nil}
use Prim.Native.Nat.{ℕ, suc, ◌+◌, ◌-◌, ◌*◌, ◌/◌, ◌%◌, ◌≤◌, ◌<◌}
use Rattle.std.specs.Int.{to_le_bytes}
use native.Mathlib.Nat.{add-zero}
use native.Mathlib.Numerals.{add-one}
use native.Mathlib.Omega.{arith}
use lib.Dec.{T}
use lib.ListN.{length, take, drop, set, get_or, length-set, drop_of_length-le, take-append-drop}
use lib.Seq.{drop-drop, take-suc-set, drop-set-lt, take-take, take-append-le, length-take-le, take-add, drop_at, drop-cons, append_snoc}
use lib.IntN.{ℤ, pos}
use mir.Syntax.{w32}
use mir.Val.{of_z}
use borrow.Rule.Slice.PartMut.{put_mid}
use Rattle.reading.specs.Bytes.{bytes2, bytes4, int_bytes}
use Rattle.reading.specs.Formula.{list_no}
use Rattle.writing.specs.Writing.{lay, atom_bytes, list_bytes}

pub lay-append : (at : ℕ) (a b d : List ℕ) → lay at (a ++ b) d ≡ lay (at + length a) b (lay at a d)
unfolding lay
lay-append at [] b d = rw (add-zero at)
lay-append at (x ∷ a) b d = lay-append (at + 1) a b (set d at x) ∙ ap (λ (n : ℕ). lay n b (lay (at + 1) a (set d at x))) (let e : at + 1 + length a ≡ at + suc (length a) = omega arith in e)

pub length-lay : (at : ℕ) (b d : List ℕ) → length (lay at b d) ≡ length d
unfolding lay
length-lay at [] d = refl
length-lay at (x ∷ b) d = length-lay (at + 1) b (set d at x) ∙ length-set d at x

-- ---- what stands where

-- up to the end of the bytes
pub lay-take : (at : ℕ) (b d : List ℕ) → at + length b ≤ length d → take (at + length b) (lay at b d) ≡ take at d ++ b
unfolding lay
lay-take at [] d h = ap (λ (n : ℕ). take n d) (add-zero at) ∙ sym (append-nil (take at d))
lay-take at (x ∷ b) d h =
    let e : at + length (x ∷ b) ≡ at + 1 + length b = omega arith in
    let lt : at < length d = omega arith in
    let f : take (at + 1) (set d at x) ≡ take at d ++ (x ∷ []) = ap (λ (n : ℕ). take n (set d at x)) (add-one at) ∙ take-suc-set d at x lt in
    ap (λ (n : ℕ). take n (lay (at + 1) b (set d at x))) e
    ∙ lay-take (at + 1) b (set d at x) (omega (arith, length-set d at x))
    ∙ ap (λ (l : List ℕ). l ++ b) f ∙ append_snoc (take at d) x b

-- after them
pub lay-drop : (at : ℕ) (b d : List ℕ) (n : ℕ) → at + length b ≤ n → drop n (lay at b d) ≡ drop n d
unfolding lay
lay-drop at [] d n h = refl
lay-drop at (x ∷ b) d n h = lay-drop (at + 1) b (set d at x) n (omega arith) ∙ drop-set-lt n d at x (omega arith)

pub lay-whole : (at : ℕ) (b d : List ℕ) → at + length b ≤ length d → lay at b d ≡ take at d ++ (b ++ drop (at + length b) d)
lay-whole at b d h =
    sym (take-append-drop (at + length b) (lay at b d))
    ∙ ap₂ ◌++◌ (lay-take at b d h) (lay-drop at b d (at + length b) (omega arith))
    ∙ append_assoc (take at d) b (drop (at + length b) d)

-- which is what a write to that part of a slice leaves
pub lay-mid : (at n : ℕ) (b y d : List ℕ) → y ≡ b → n ≡ length b → at + length b ≤ length d → put_mid at n d y ≡ lay at b d
lay-mid at n b y d e f h =
    ap₂ (λ (x : List ℕ) (m : ℕ). put_mid at m d x) e f ∙ ap (λ (r : List ℕ). take at d ++ (b ++ r)) (drop-drop (length b) at d) ∙ sym (lay-whole at b d h)

-- over as many others
pub lay-over : (b d : List ℕ) → length b ≡ length d → lay 0 b d ≡ b
lay-over b d e = lay-whole 0 b d (omega arith) ∙ ap (λ (r : List ℕ). b ++ r) (drop_of_length-le d (omega arith)) ∙ append-nil b

-- what was written from n on left what stands before
pub keeps : (n : ℕ) (b o o' : List ℕ) (m : ℕ) → take (n + length b) o' ≡ take n o ++ b → m ≤ n → n ≤ length o → take m o' ≡ take m o
keeps n b o o' m e h k =
    sym (take-take m (n + length b) o' (omega arith)) ∙ ap (take m) e
    ∙ take-append-le m (take n o) b (omega (arith, length-take-le n o k)) ∙ take-take m n o h

-- the bytes after the first p
pub cancel : (p n : ℕ) (o b : List ℕ) → p ≤ length o → n ≡ p + length b → take n o ≡ take p o ++ b → take (length b) (drop p o) ≡ b
cancel p n o b k f e =
    sym (drop_at (take p o) (take (length b) (drop p o)) p (length-take-le p o k))
    ∙ ap (drop p) (sym (take-add p (length b) o) ∙ sym (ap (λ (m : ℕ). take m o) f) ∙ e)
    ∙ drop_at (take p o) b p (length-take-le p o k)

-- ---- bytes in a row

-- one byte more, at the place p
pub lay-turn : (b : List ℕ) (i p : ℕ) (d T : List ℕ) → i < length b → lay p (drop i b) d ≡ T → lay (p + 1) (drop (i + 1) b) (set d p (get_or b i 0)) ≡ T
unfolding lay
lay-turn b i p d T lt e =
    let f : drop i b ≡ get_or b i 0 ∷ drop (i + 1) b = drop-cons b i 0 lt ∙ ap (λ (n : ℕ). get_or b i 0 ∷ drop n b) (sym (add-one i)) in
    sym (ap (λ (l : List ℕ). lay p l d) f) ∙ e

pub bytes-turn : (b : List ℕ) (i at : ℕ) (d T : List ℕ) → i < length b → lay (at + i) (drop i b) d ≡ T → lay (at + (i + 1)) (drop (i + 1) b) (set d (at + i) (get_or b i 0)) ≡ T
bytes-turn b i at d T lt e =
    let to : at + (i + 1) ≡ at + i + 1 = omega arith in
    ap (λ (n : ℕ). lay n (drop (i + 1) b) (set d (at + i) (get_or b i 0))) to ∙ lay-turn b i (at + i) d T lt e

pub lay-end : (b : List ℕ) (i p : ℕ) (d T : List ℕ) → length b ≤ i → lay p (drop i b) d ≡ T → d ≡ T
unfolding lay
lay-end b i p d T h e = sym (ap (λ (l : List ℕ). lay p l d) (drop_of_length-le b h)) ∙ e

pub bytes-end : (b : List ℕ) (i at : ℕ) (d T : List ℕ) → length b ≤ i → lay (at + i) (drop i b) d ≡ T → d ≡ T
bytes-end b i at = lay-end b i (at + i)

-- ---- numbers in a row

pub nums-turn : (k : List ℤ) (i at : ℕ) (x : ℤ) (d d' T : List ℕ) → i < length k → x ≡ get_or k i (pos 0) → d' ≡ lay (at + 4 * i) (bytes4 (of_z w32 x)) d
    → lay (at + 4 * i) (int_bytes (drop i k)) d ≡ T → lay (at + 4 * (i + 1)) (int_bytes (drop (i + 1) k)) d' ≡ T
unfolding int_bytes
nums-turn k i at x d d' T lt ex ed e =
    let f : drop i k ≡ get_or k i (pos 0) ∷ drop (i + 1) k = drop-cons k i (pos 0) lt ∙ ap (λ (n : ℕ). get_or k i (pos 0) ∷ drop n k) (sym (add-one i)) in
    let to : at + 4 * (i + 1) ≡ at + 4 * i + 4 = omega arith in
    ap₂ (λ (n : ℕ) (l : List ℕ). lay n (int_bytes (drop (i + 1) k)) l) to (ed ∙ ap (λ (z : ℤ). lay (at + 4 * i) (bytes4 (of_z w32 z)) d) ex)
    ∙ sym (lay-append (at + 4 * i) (bytes4 (of_z w32 (get_or k i (pos 0)))) (int_bytes (drop (i + 1) k)) d) ∙ sym (ap (λ (l : List ℤ). lay (at + 4 * i) (int_bytes l) d) f) ∙ e

pub nums-end : (k : List ℤ) (i to : ℕ) (d T : List ℕ) → length k ≤ i → lay to (int_bytes (drop i k)) d ≡ T → d ≡ T
unfolding int_bytes lay
nums-end k i to d T le e = sym (ap (λ (l : List ℤ). lay to (int_bytes l) d) (drop_of_length-le k le)) ∙ e

-- ---- the four bytes of a number, the lowest first

pub four-bytes : (n : ℕ) → n < 4294967296 → to_le_bytes w32 n ≡ bytes4 n
four-bytes n h =
    let a : n % 256 ≡ n % 65536 % 256 = omega arith in
    let b : n / 256 % 256 ≡ n % 65536 / 256 = omega arith in
    let c : n / 16777216 % 256 ≡ n / 65536 / 256 = omega arith in
    cc

-- ---- a record, part by part

pub lay-two : (at : ℕ) (a b d x y : List ℕ) → x ≡ lay at a d → y ≡ lay (at + length a) b x → y ≡ lay at (a ++ b) d
lay-two at a b d x y e f = f ∙ ap (lay (at + length a) b) e ∙ sym (lay-append at a b d)

pub lay-atom : (at k : ℕ) (ns : List ℤ) (d x y z : List ℕ) → x ≡ lay at (bytes2 40) d → y ≡ lay (at + 2) (bytes2 k) x → z ≡ lay (at + 4) (int_bytes ns) y → z ≡ lay at (atom_bytes k ns) d
unfolding atom_bytes
lay-atom at k ns d x y z e f g = lay-two at (bytes2 40 ++ bytes2 k) (int_bytes ns) d y z (lay-two at (bytes2 40) (bytes2 k) d x y e f) g

pub lay-list : (at n : ℕ) (all : Bool) (m : ℕ) (d x y z : List ℕ) → m ≡ list_no all → x ≡ lay at (bytes2 6) d → y ≡ lay (at + 2) (bytes2 m) x → z ≡ lay (at + 4) (bytes2 n) y → z ≡ lay at (list_bytes all n) d
unfolding list_bytes
lay-list at n all m d x y z h e f g = lay-two at (bytes2 6 ++ bytes2 (list_no all)) (bytes2 n) d y z (lay-two at (bytes2 6) (bytes2 (list_no all)) d x y e (f ∙ ap (λ (k : ℕ). lay (at + 2) (bytes2 k) x) h)) g

-- ---- a turn of the loop that pulls a list's one member six bytes ahead, and its end

pub pull-turn : (i e : ℕ) (o T : List ℕ) → 6 ≤ i → i < e → e ≤ length o → lay (i - 6) (take (e - i) (drop i o)) o ≡ T
    → lay (i + 1 - 6) (take (e - (i + 1)) (drop (i + 1) (set o (i - 6) (get_or o i 0)))) (set o (i - 6) (get_or o i 0)) ≡ T
unfolding lay
pull-turn i e o T h lt k x =
    let a : i + 1 - 6 ≡ i - 6 + 1 = omega arith in
    let n : e - i ≡ suc (e - (i + 1)) = omega arith in
    let d : drop (i + 1) (set o (i - 6) (get_or o i 0)) ≡ drop (i + 1) o = drop-set-lt (i + 1) o (i - 6) (get_or o i 0) (omega arith) in
    let q : drop i o ≡ get_or o i 0 ∷ drop (i + 1) o = drop-cons o i 0 (omega arith) ∙ ap (λ (j : ℕ). get_or o i 0 ∷ drop j o) (sym (add-one i)) in
    ap₂ (λ (m : ℕ) (l : List ℕ). lay m (take (e - (i + 1)) l) (set o (i - 6) (get_or o i 0))) a d
    ∙ sym (ap₂ (λ (m : ℕ) (l : List ℕ). lay (i - 6) (take m l) o) n q) ∙ x

pub pull-end : (i e : ℕ) (o T : List ℕ) → e ≤ i → lay (i - 6) (take (e - i) (drop i o)) o ≡ T → o ≡ T
unfolding lay
pull-end i e o T h x = let f : e - i ≡ 0 = omega arith in rw f at x
