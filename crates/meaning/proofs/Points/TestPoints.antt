-- The heart, without arithmetic: a dense line without ends, finitely many terms on it, and the test points below all, above all and halfway
-- between each two. Each point of the line lies on the same side of every term as one of the test points does (`test_of`), and each test point as
-- some point of the line does (`point-of`). Assumes nothing.
use mathlib.Core.Path.{◌≡◌, refl, sym, ◌∙◌, ap, subst}
use mathlib.Core.Logic.{◌⊎◌, inl, inr}
use mathlib.Core.Bool.{Bool, true, false, cond}
use mathlib.Core.List.{List, [], ◌∷◌, ◌++◌}
use Rattle.exact.proofs.Order.{Sign, negative, null, positive, turn, turn-turn, Sign-discrete}

pub data Pt (A : Type 0) : Type 0 where
  low high : Pt A
  term : A → Pt A

abbrev pub Mem : {A : Type 0} → A → List A → Type 0
Mem x [] = ⊥
Mem x (y ∷ l) = (x ≡ y) ⊎ Mem x l

-- each element has P
abbrev pub Every : {A : Type 0} → (A → Type 0) → List A → Type 0
Every {A} P l = (x : A) → Mem x l → P x

-- the midpoints of one term with each of a list
abbrev pub mids : {A : Type 0} → (A → A → A) → A → List A → List (Pt A)
mids mid a [] = []
mids mid a (b ∷ l) = term (mid a b) ∷ mids mid a l

abbrev pub pairs : {A : Type 0} → (A → A → A) → List A → List (Pt A)
pairs mid [] = []
pairs mid (b ∷ l) = mids mid b (b ∷ l) ++ pairs mid l

-- −∞, +∞, then the midpoints of terms i and j, i ≤ j; with no term only −∞
abbrev pub test_points : {A : Type 0} → (A → A → A) → List A → List (Pt A)
test_points mid [] = low ∷ []
test_points mid (b ∷ l) = low ∷ high ∷ pairs mid (b ∷ l)

module _ {A : Type 0} (P : A → Type 0) where
  pub every-cons : (c : A) (l : List A) → P c → Every P l → Every P (c ∷ l)
  every-cons c l p h x (inl e) = subst P (sym e) p
  every-cons c l p h x (inr m) = h x m

  pub every-pick : (b : Bool) (k l : List A) → Every P k → Every P l → Every P (cond b k l)
  every-pick true k l h m = h
  every-pick false k l h m = m

  every_append : (k l : List A) → Every P k → Every P l → Every P (k ++ l)
  every_append [] l h m = m
  every_append (z ∷ k) l h m = every-cons z (k ++ l) (h z (inl refl)) (every_append k l (λ x n. h x (inr n)) m)

-- what −∞, +∞ and all midpoints have, every test point has
module _ {A : Type 0} (mid : A → A → A) (P : Pt A → Type 0) where
  every-mids : (a : A) (l : List A) → Every (λ b. P (term (mid a b))) l → Every P (mids mid a l)
  every-mids a [] h = λ y m. absurd m
  every-mids a (b ∷ l) h = every-cons P (term (mid a b)) (mids mid a l) (h b (inl refl)) (every-mids a l (λ c n. h c (inr n)))

  every-pairs : (l : List A) → ((a b : A) → Mem a l → Mem b l → P (term (mid a b))) → Every P (pairs mid l)
  every-pairs [] h = λ y m. absurd m
  every-pairs (b ∷ l) h =
      every_append P (mids mid b (b ∷ l)) (pairs mid l) (every-mids b (b ∷ l) (λ c n. h b c (inl refl) n)) (every-pairs l (λ a c m n. h a c (inr m) (inr n)))

  pub every-point : (l : List A) → P low → P high → ((a b : A) → Mem a l → Mem b l → P (term (mid a b))) → Every P (test_points mid l)
  every-point [] p q h = every-cons P low [] p (λ y m. absurd m)
  every-point (b ∷ l) p q h = every-cons P low (high ∷ pairs mid (b ∷ l)) p (every-cons P high (pairs mid (b ∷ l)) q (every-pairs (b ∷ l) h))

mem-left : {A : Type 0} (x : A) (k l : List A) → Mem x k → Mem x (k ++ l)
mem-left x [] l m = absurd m
mem-left x (y ∷ k) l (inl e) = inl e
mem-left x (y ∷ k) l (inr m) = inr (mem-left x k l m)

mem-right : {A : Type 0} (x : A) (k l : List A) → Mem x l → Mem x (k ++ l)
mem-right x [] l m = m
mem-right x (y ∷ k) l m = inr (mem-right x k l m)

mem-mids : {A : Type 0} (mid : A → A → A) (a b : A) (l : List A) → Mem b l → Mem (term (mid a b)) (mids mid a l)
mem-mids mid a b [] m = absurd m
mem-mids mid a b (c ∷ l) (inl e) = inl (ap (λ x. term (mid a x)) e)
mem-mids mid a b (c ∷ l) (inr m) = inr (mem-mids mid a b l m)

-- two terms of the list have their midpoint among the pairs, in one order or the other
mem-pairs : {A : Type 0} (mid : A → A → A) (a b : A) (l : List A) → Mem a l → Mem b l → Mem (term (mid a b)) (pairs mid l) ⊎ Mem (term (mid b a)) (pairs mid l)
mem-pairs mid a b [] m n = absurd m
mem-pairs mid a b (c ∷ l) (inl e) n =
    inl (mem-left _ (mids mid c (c ∷ l)) (pairs mid l) (subst (λ x. Mem (term (mid x b)) (mids mid c (c ∷ l))) (sym e) (mem-mids mid c b (c ∷ l) n)))
mem-pairs mid a b (c ∷ l) (inr m) (inl e) =
    inr (mem-left _ (mids mid c (c ∷ l)) (pairs mid l) (subst (λ x. Mem (term (mid x a)) (mids mid c (c ∷ l))) (sym e) (mem-mids mid c a (c ∷ l) (inr m))))
mem-pairs mid a b (c ∷ l) (inr m) (inr n) = elim (mem-pairs mid a b l m n) [
  | inl k ↦ inl (mem-right _ (mids mid c (c ∷ l)) (pairs mid l) k)
  | inr k ↦ inr (mem-right _ (mids mid c (c ∷ l)) (pairs mid l) k)
]

abbrev pub dir : Bool → Sign
dir true = negative
dir false = positive

tri : (d : Bool) (t : Sign) → ((t ≡ dir d) ⊎ (t ≡ null)) ⊎ (t ≡ turn (dir d))
tri true negative = inl (inl refl)
tri true null = inl (inr refl)
tri true positive = inr refl
tri false negative = inr refl
tri false null = inl (inr refl)
tri false positive = inl (inl refl)

-- X: the points of the line; A: terms that stand for points, with a midpoint of terms
pub record Line (X A : Type 0) (cmp : X → X → Sign) (ev : A → X) (Ok : A → Type 0) (mid : A → A → A) : Type 0 where
  pub anti : (x y : X) → cmp y x ≡ turn (cmp x y)
  pub trans : (x y z : X) (s : Sign) → cmp x y ≡ s → cmp y z ≡ s → cmp x z ≡ s
  pub level : (x y z : X) → cmp x y ≡ null → cmp x z ≡ cmp y z
  pub mid-l : (a b : A) → Ok a → Ok b → cmp (ev a) (ev (mid a b)) ≡ cmp (ev a) (ev b)
  pub mid-r : (a b : A) → Ok a → Ok b → cmp (ev (mid a b)) (ev b) ≡ cmp (ev a) (ev b)
  pub some : X
  pub far : Bool → X → X
  pub far-is : (d : Bool) (x : X) → cmp (far d x) x ≡ dir d

module _ (X A : Type 0) (cmp : X → X → Sign) (ev : A → X) (Ok : A → Type 0) (mid : A → A → A) (line : Line X A cmp ev Ok mid) where
  open line use {anti, trans, level, mid-l, mid-r, some, far, far-is}

  -- the side of a test point
  abbrev pub side : Pt A → A → Sign
  side low b = negative
  side high b = positive
  side (term a) b = cmp (ev a) (ev b)

  abbrev pub Agree : List A → X → Pt A → Type 0
  Agree B x y = (b : A) → Mem b B → cmp x (ev b) ≡ side y b

  self : (x : X) → cmp x x ≡ null
  self x = self' (cmp x x) (anti x x)
    where
      self' : (s : Sign) → s ≡ turn s → s ≡ null
      self' negative e = cc
      self' null e = refl
      self' positive e = cc

  back : (d : Bool) (x y : X) → cmp x y ≡ turn (dir d) → cmp y x ≡ dir d
  back d x y h = anti x y ∙ ap turn h ∙ turn-turn (dir d)

  back0 : (x y : X) → cmp x y ≡ null → cmp y x ≡ null
  back0 x y h = anti x y ∙ ap turn h

  -- a point beyond all terms, on one side
  beyond : (d : Bool) (B : List A) → (x : X) × ((b : A) → Mem b B → cmp x (ev b) ≡ dir d)
  beyond d [] = (some, λ b m. absurd m)
  beyond d (c ∷ B) = go (beyond d B)
    where
      go : (x : X) × ((b : A) → Mem b B → cmp x (ev b) ≡ dir d) → (x : X) × ((b : A) → Mem b (c ∷ B) → cmp x (ev b) ≡ dir d)
      go (x, h) = elim (tri d (cmp x (ev c))) [
        | inl (inl k) ↦ (x, every-cons (λ b. cmp x (ev b) ≡ dir d) c B k h)
        | inl (inr k) ↦ (
          far d (ev c),
          every-cons (λ b. cmp (far d (ev c)) (ev b) ≡ dir d) c B (far-is d (ev c))
              (λ b m. trans _ (ev c) _ _ (far-is d (ev c)) (level (ev c) x (ev b) (back0 x (ev c) k) ∙ h b m)),
        )
        | inr k ↦ (
          far d (ev c),
          every-cons (λ b. cmp (far d (ev c)) (ev b) ≡ dir d) c B (far-is d (ev c))
              (λ b m. trans _ (ev c) _ _ (far-is d (ev c)) (trans (ev c) x (ev b) _ (back d x (ev c) k) (h b m))),
        )
      ]

  -- the nearest term on one side of x, if any
  abbrev Best : Bool → List A → X → A → Type 0
  Best d B x l = (b : A) → Mem b B → cmp (ev b) x ≡ dir d → (cmp (ev b) (ev l) ≡ dir d) ⊎ (cmp (ev b) (ev l) ≡ null)

  abbrev Near : Bool → List A → X → Type 0
  Near d B x = ((l : A) × Mem l B × (cmp (ev l) x ≡ dir d) × Best d B x l) ⊎ ((b : A) → Mem b B → ¬ (cmp (ev b) x ≡ dir d))

  near : (d : Bool) (B : List A) (x : X) → Near d B x
  near d [] x = inr (λ b m. absurd m)
  near d (c ∷ B) x = go (Sign-discrete (cmp (ev c) x) (dir d)) (near d B x)
    where
      Tail : A → A → Type 0
      Tail l b = cmp (ev b) x ≡ dir d → (cmp (ev b) (ev l) ≡ dir d) ⊎ (cmp (ev b) (ev l) ≡ null)

      over : (l : A) → cmp (ev l) (ev c) ≡ dir d → (b : A) → Tail l b → Tail c b
      over l k b t h = elim (t h) [
        | inl e ↦ inl (trans (ev b) (ev l) (ev c) _ e k)
        | inr e ↦ inl (level (ev b) (ev l) (ev c) e ∙ k)
      ]

      cond : cmp (ev c) x ≡ dir d → (l : A) → Mem l B → cmp (ev l) x ≡ dir d → Best d B x l
          → ((cmp (ev c) (ev l) ≡ dir d) ⊎ (cmp (ev c) (ev l) ≡ null)) ⊎ (cmp (ev c) (ev l) ≡ turn (dir d)) → Near d (c ∷ B) x
      cond k l m h best (inl t) = inl (l, inr m, h, every-cons (Tail l) c B (λ _. t) best)
      cond k l m h best (inr t) = inl (c, inl refl, k, every-cons (Tail c) c B (λ _. inr (self (ev c))) (λ b m'. over l (back d (ev c) (ev l) t) b (best b m')))

      go : Dec (cmp (ev c) x ≡ dir d) → Near d B x → Near d (c ∷ B) x
      go (yes k) (inl r) = cond k r.0 r.1 r.2 r.3 (tri d (cmp (ev c) (ev r.0)))
      go (yes k) (inr f) = inl (c, inl refl, k, every-cons (Tail c) c B (λ _. inr (self (ev c))) (λ b m h. absurd (f b m h)))
      go (no n) (inl r) = inl (r.0, inr r.1, r.2, every-cons (Tail r.0) c B (λ h. absurd (n h)) r.3)
      go (no n) (inr f) = inr (every-cons (λ b. ¬ (cmp (ev b) x ≡ dir d)) c B n f)

  -- a term at x, if any
  abbrev Hit : List A → X → Type 0
  Hit B x = ((b : A) × Mem b B × (cmp (ev b) x ≡ null)) ⊎ ((b : A) → Mem b B → ¬ (cmp (ev b) x ≡ null))

  hit : (B : List A) (x : X) → Hit B x
  hit [] x = inr (λ b m. absurd m)
  hit (c ∷ B) x = go (Sign-discrete (cmp (ev c) x) null) (hit B x)
    where
      go : Dec (cmp (ev c) x ≡ null) → Hit B x → Hit (c ∷ B) x
      go (yes k) r = inl (c, inl refl, k)
      go (no n) (inl r) = inl (r.0, inr r.1, r.2)
      go (no n) (inr f) = inr (every-cons (λ b. ¬ (cmp (ev b) x ≡ null)) c B n f)

  -- not level and not on this side: on the other
  other : (d : Bool) (s : Sign) → ¬ (s ≡ null) → ¬ (s ≡ dir d) → s ≡ turn (dir d)
  other d s n m = elim (tri d s) [ inl (inl e) ↦ absurd (m e) | inl (inr e) ↦ absurd (n e) | inr e ↦ e ]

  -- between the nearest two, every term is on its own side
  between : (B : List A) (x : X) (l u y : A) → ((b : A) → Mem b B → ¬ (cmp (ev b) x ≡ null))
      → Best true B x l → Best false B x u → cmp (ev l) (ev y) ≡ negative → cmp (ev y) (ev u) ≡ negative → Agree B x (term y)
  between B x l u y none bl bu hl hu b m = go (tri true (cmp (ev b) x))
    where
      under : (cmp (ev b) (ev l) ≡ negative) ⊎ (cmp (ev b) (ev l) ≡ null) → cmp (ev b) (ev y) ≡ negative
      under (inl e) = trans (ev b) (ev l) (ev y) _ e hl
      under (inr e) = level (ev b) (ev l) (ev y) e ∙ hl

      uy : cmp (ev u) (ev y) ≡ positive
      uy = anti (ev y) (ev u) ∙ ap turn hu

      above : (cmp (ev b) (ev u) ≡ positive) ⊎ (cmp (ev b) (ev u) ≡ null) → cmp (ev b) (ev y) ≡ positive
      above (inl e) = trans (ev b) (ev u) (ev y) _ e uy
      above (inr e) = level (ev b) (ev u) (ev y) e ∙ uy

      both : (s : Sign) → cmp (ev b) x ≡ s → cmp (ev b) (ev y) ≡ s → cmp x (ev b) ≡ cmp (ev y) (ev b)
      both s p q = anti (ev b) x ∙ ap turn (p ∙ sym q) ∙ sym (anti (ev b) (ev y))

      go : ((cmp (ev b) x ≡ negative) ⊎ (cmp (ev b) x ≡ null)) ⊎ (cmp (ev b) x ≡ positive) → cmp x (ev b) ≡ cmp (ev y) (ev b)
      go (inl (inl e)) = both negative e (under (bl b m e))
      go (inl (inr e)) = absurd (none b m e)
      go (inr e) = both positive e (above (bu b m e))

  -- every point has a test point on the same side of every term
  pub test_of : (B : List A) (x : X) → ((b : A) → Mem b B → Ok b) → (y : Pt A) × Mem y (test_points mid B) × Agree B x y
  test_of [] x ok = (low, inl refl, λ b m. absurd m)
  test_of (c ∷ B) x ok = at-hit (hit (c ∷ B) x)
    where
      C : List A
      C = c ∷ B

      Out : Type 0
      Out = (y : Pt A) × Mem y (test_points mid C) × Agree C x y

      in_pairs : (y : Pt A) → Mem y (pairs mid C) → Mem y (test_points mid C)
      in_pairs y m = inr (inr m)

      twice : (b : A) → Mem (term (mid b b)) (pairs mid C) ⊎ Mem (term (mid b b)) (pairs mid C) → Mem (term (mid b b)) (pairs mid C)
      twice b (inl m) = m
      twice b (inr m) = m

      wrap : (b : A) → Mem b C → cmp (ev b) x ≡ null → Out
      wrap b m e = (
        term (mid b b),
        in_pairs _ (twice b (mem-pairs mid b b C m m)),
        λ a k. sym (level (ev b) x (ev a) e) ∙ sym (level (ev (mid b b)) (ev b) (ev a) (mid-r b b (ok b m) (ok b m) ∙ self (ev b))),
      )

      mixed : (none : (b : A) → Mem b C → ¬ (cmp (ev b) x ≡ null)) (l u : A) → Mem l C → Mem u C → cmp (ev l) x ≡ negative → cmp (ev u) x ≡ positive → Best true C x l → Best false C x u
          → Mem (term (mid l u)) (pairs mid C) ⊎ Mem (term (mid u l)) (pairs mid C) → Out
      mixed none l u ml mu hl hu bl bu (inl k) =
          let lu : cmp (ev l) (ev u) ≡ negative = trans (ev l) x (ev u) negative hl (back true (ev u) x hu) in
          (term (mid l u), in_pairs _ k, between C x l u (mid l u) none bl bu (mid-l l u (ok l ml) (ok u mu) ∙ lu) (mid-r l u (ok l ml) (ok u mu) ∙ lu))
      mixed none l u ml mu hl hu bl bu (inr k) =
          let lu : cmp (ev l) (ev u) ≡ negative = trans (ev l) x (ev u) negative hl (back true (ev u) x hu) in
          let ul : cmp (ev u) (ev l) ≡ positive = back false (ev l) (ev u) lu in (
            term (mid u l),
            in_pairs _ k,
            between C x l u (mid u l) none bl bu (back true (ev (mid u l)) (ev l) (mid-r u l (ok u mu) (ok l ml) ∙ ul)) (back true (ev u) (ev (mid u l)) (mid-l u l (ok u mu) (ok l ml) ∙ ul)),
          )

      sides : (none : (b : A) → Mem b C → ¬ (cmp (ev b) x ≡ null)) → Near true C x → Near false C x → Out
      sides none (inr f) r = (low, inl refl, λ b m. back true (ev b) x (other true _ (none b m) (f b m)))
      sides none (inl p) (inr f) = (high, inr (inl refl), λ b m. back false (ev b) x (other false _ (none b m) (f b m)))
      sides none (inl p) (inl q) = mixed none p.0 q.0 p.1 q.1 p.2 q.2 p.3 q.3 (mem-pairs mid p.0 q.0 C p.1 q.1)

      at-hit : Hit C x → Out
      at-hit (inl r) = wrap r.0 r.1 r.2
      at-hit (inr none) = sides none (near true C x) (near false C x)

  -- every test point has a point of the line on the same side of every term
  pub point-of : (B : List A) (y : Pt A) → (x : X) × Agree B x y
  point-of B low = beyond true B
  point-of B high = beyond false B
  point-of B (term a) = (ev a, λ b m. refl)
