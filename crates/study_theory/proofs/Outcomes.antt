-- Every formula is sound or has one first fault, and every call's checks pass or have one refusal. Assumes nothing.
use Rattle.std.proofs.Common.{◌≡◌, ℕ, zero, suc, ◌<◌, ◌≤◌, Bool, true, false, T, ◌≢◌, ◌⊎◌, ℤ, Some, None, Option, sym, refl, ap, ◌∙◌, subst, inl, inr, arith}
use native.Mathlib.Decide.{ℕ_discrete, dec_lt}
use Rattle.algebra.specs.Exact.{exact as exact_number}
use Rattle.algebra.proofs.Lowest.{lowest_parts_exist}
use Rattle.control.proofs.Laws.{neg-zero}
use Rattle.numbers.specs.declared.Number.{Ghosts}
use Rattle.lines.specs.Kinds.{Found, Finds}
use Rattle.lines.specs.Meaning.{holds, marked}
use Rattle.study_terms.specs.declared.faults.kinds.Below.{Below}
use Rattle.study_terms.specs.declared.faults.kinds.Below.TheVariants.{TooLarge, Marked}
use Rattle.study_terms.specs.Refusals.{Refusal, pivot_refusal}
use Rattle.study_terms.specs.Formulas.{field, Formula, known, asked, plus, minus, times, over, exact, Holds, Divides, Sound, FirstOf, FirstFault}
use Rattle.study_terms.specs.Checks.{Checks, none, test, number, pivot, each, ◌then◌, Passes, RefusedWith}

module _ {A : Type 0} (N : Ghosts A) where
  infixl 60 ◌⊕◌
  infixl 70 ◌⊗◌
  open field N use {Car, 𝟘, ◌⊕◌, ◌⊗◌, neg, inv, Pos, tri, pos_zero, not_both}

  -- no fault is met in what is sound
  pub sound_first : (f : Formula A Car) (b : Below) → Sound N f → FirstFault N f b → ⊥
  sound_first (known x) b u v = v
  sound_first (asked (holds x)) b u v = v
  sound_first (asked (marked m)) b u v = u
  sound_first (plus f g) b u v = elim v [ inl h ↦ sound_first f b u.0 h | inr (inl h) ↦ sound_first g b u.1 h.1 | inr (inr h) ↦ h.2 u.2 ]
  sound_first (minus f g) b u v = elim v [ inl h ↦ sound_first f b u.0 h | inr (inl h) ↦ sound_first g b u.1 h.1 | inr (inr h) ↦ h.2 u.2 ]
  sound_first (times f g) b u v = elim v [ inl h ↦ sound_first f b u.0 h | inr (inl h) ↦ sound_first g b u.1 h.1 | inr (inr h) ↦ h.2 u.2 ]
  sound_first (over f g) b u v = elim v [ inl h ↦ sound_first f b u.0 h | inr (inl h) ↦ sound_first g b u.1 h.1 | inr (inr h) ↦ h.2 u.2 ]

  -- of an operation
  one_first : (f g : Formula A Car) (H : Type 0) (d b : Below) → (FirstFault N f d → FirstFault N f b → d ≡ b) → (FirstFault N g d → FirstFault N g b → d ≡ b)
      → FirstOf N (Sound N f) (FirstFault N f d) (Sound N g) (FirstFault N g d) H d
      → FirstOf N (Sound N f) (FirstFault N f b) (Sound N g) (FirstFault N g b) H b → d ≡ b
  one_first f g H d b p q (inl u) (inl v) = p u v
  one_first f g H d b p q (inl u) (inr (inl v)) = absurd (sound_first f d v.0 u)
  one_first f g H d b p q (inl u) (inr (inr v)) = absurd (sound_first f d v.0 u)
  one_first f g H d b p q (inr (inl u)) (inl v) = absurd (sound_first f b u.0 v)
  one_first f g H d b p q (inr (inl u)) (inr (inl v)) = q u.1 v.1
  one_first f g H d b p q (inr (inl u)) (inr (inr v)) = absurd (sound_first g d v.1 u.1)
  one_first f g H d b p q (inr (inr u)) (inl v) = absurd (sound_first f b u.0 v)
  one_first f g H d b p q (inr (inr u)) (inr (inl v)) = absurd (sound_first g b u.1 v.1)
  one_first f g H d b p q (inr (inr u)) (inr (inr v)) = u.3 ∙ sym v.3

  one_fault : (f : Formula A Car) (d b : Below) → FirstFault N f d → FirstFault N f b → d ≡ b
  one_fault (known x) d b u v = absurd u
  one_fault (asked (holds x)) d b u v = absurd u
  one_fault (asked (marked m)) d b u v = u ∙ sym v
  one_fault (plus f g) d b u v = one_first f g _ d b (one_fault f d b) (one_fault g d b) u v
  one_fault (minus f g) d b u v = one_first f g _ d b (one_fault f d b) (one_fault g d b) u v
  one_fault (times f g) d b u v = one_first f g _ d b (one_fault f d b) (one_fault g d b) u v
  one_fault (over f g) d b u v = one_first f g _ d b (one_fault f d b) (one_fault g d b) u v

  pub not_both_ways : (d : Checks A Car) (r : Refusal) → Passes N d → RefusedWith N d r → ⊥
  not_both_ways none r p q = q
  not_both_ways (test b x) r p q = q.0 p
  not_both_ways (number l f) r p q = sound_first f q.0 p q.2
  not_both_ways (pivot n i x) r p q = q.0 p
  not_both_ways (each a b f) r p q = not_both_ways (f q.0) r (p q.0 q.1 q.2) q.4
  not_both_ways (◌then◌ c d) r p q = elim q [ inl u ↦ not_both_ways c r p.0 u | inr u ↦ not_both_ways d r p.1 u.1 ]

  pub one_refusal : (d : Checks A Car) (r q : Refusal) → RefusedWith N d r → RefusedWith N d q → r ≡ q
  one_refusal none r q s t = absurd s
  one_refusal (test b x) r q s t = s.1 ∙ sym t.1
  one_refusal (number l f) r q s t = s.1 ∙ ap l (one_fault f s.0 t.0 s.2 t.2) ∙ sym t.1
  one_refusal (pivot n i x) r q s t = s.1 ∙ sym t.1
  one_refusal (each a b f) r q s t =
      elim (ℕ_discrete s.0 t.0) [
        | yes z ↦ one_refusal (f t.0) r q (subst (λ j. RefusedWith N (f j) r) z s.4) t.4
        | no z ↦ elim (dec_lt s.0 t.0) [
          | yes l ↦ absurd (not_both_ways (f s.0) r (t.3 s.0 s.1 l) s.4)
          | no l ↦ absurd (not_both_ways (f t.0) q (s.3 t.0 t.1 (omega arith)) t.4)
        ]
      ]
  one_refusal (◌then◌ c d) r q (inl u) (inl v) = one_refusal c r q u v
  one_refusal (◌then◌ c d) r q (inl u) (inr v) = absurd (not_both_ways c r v.0 u)
  one_refusal (◌then◌ c d) r q (inr u) (inl v) = absurd (not_both_ways c q u.0 v)
  one_refusal (◌then◌ c d) r q (inr u) (inr v) = one_refusal d r q u.1 v.1

  -- it is known of every number whether the kind holds it, so that it is known of every call whether it is granted
  module _ (find : ℤ → ℤ → ℕ → Option A) (finds : Finds N.value find) where
    found : (x : Car) (o : Option A) → Found N.value x o → Holds N x ⊎ (¬ Holds N x)
    found x (Some k) h = inl (k, h)
    found x None h = inr h

    pub held_or_not : (x : Car) → Holds N x ⊎ (¬ Holds N x)
    held_or_not x =
        let t = lowest_parts_exist N.radicand x in
        subst (λ x. Holds N x ⊎ (¬ Holds N x)) t.4 (found (exact_number N.radicand t.0 t.1 t.2) (find t.0 t.1 t.2) (finds t.0 t.1 t.2 t.3))

    zero_or_not : (y : Car) → (y ≡ 𝟘) ⊎ (y ≢ 𝟘)
    zero_or_not y = elim (tri y) [
      | inl e ↦ inl e
      | inr (inl p) ↦ inr (λ e. pos_zero (subst Pos e p))
      | inr (inr p) ↦ inr (λ e. pos_zero (subst Pos (ap neg e ∙ neg-zero (field N)) p))
    ]

    divides_or_not : (x y : Car) → Divides N x y ⊎ (¬ Divides N x y)
    divides_or_not x y = elim (zero_or_not y) [
      | inl e ↦ inr (λ d. d.0 e)
      | inr n ↦ elim (held_or_not (x ⊗ inv y)) [ inl h ↦ inl (n, h) | inr h ↦ inr (λ d. h d.1) ]
    ]

    -- of an operation, by its parts
    worked : (f g : Formula A Car) (H : Type 0) → H ⊎ (¬ H) → Sound N f ⊎ ((b : Below) × FirstFault N f b) → Sound N g ⊎ ((b : Below) × FirstFault N g b)
        → (Sound N f × Sound N g × H) ⊎ ((b : Below) × FirstOf N (Sound N f) (FirstFault N f b) (Sound N g) (FirstFault N g b) H b)
    worked f g H h (inr u) v = inr (u.0, inl u.1)
    worked f g H h (inl u) (inr v) = inr (v.0, inr (inl (u, v.1)))
    worked f g H (inl h) (inl u) (inl v) = inl (u, v, h)
    worked f g H (inr h) (inl u) (inl v) = inr (TooLarge, inr (inr (u, v, h, refl)))

    sound_or_not : (f : Formula A Car) → Sound N f ⊎ ((b : Below) × FirstFault N f b)
    sound_or_not (known x) = inl tt
    sound_or_not (asked (holds x)) = inl tt
    sound_or_not (asked (marked m)) = inr (Marked m, refl)
    sound_or_not (plus f g) = worked f g _ (held_or_not (exact N f ⊕ exact N g)) (sound_or_not f) (sound_or_not g)
    sound_or_not (minus f g) = worked f g _ (held_or_not (exact N f ⊕ neg (exact N g))) (sound_or_not f) (sound_or_not g)
    sound_or_not (times f g) = worked f g _ (held_or_not (exact N f ⊗ exact N g)) (sound_or_not f) (sound_or_not g)
    sound_or_not (over f g) = worked f g _ (divides_or_not (exact N f) (exact N g)) (sound_or_not f) (sound_or_not g)

    positive_or_not : (x : Car) → Pos x ⊎ (¬ Pos x)
    positive_or_not x = elim (tri x) [
      | inl e ↦ inr (λ p. pos_zero (subst Pos e p))
      | inr (inl p) ↦ inl p
      | inr (inr n) ↦ inr (λ p. not_both x p n)
    ]

    tested : (b : Bool) → T b ⊎ (¬ T b)
    tested true = inl tt
    tested false = inr (λ t. t)

    Either : Checks A Car → Type 0
    Either d = Passes N d ⊎ ((r : Refusal) × RefusedWith N d r)

    -- the first of a range that is refused, if any is
    first_below : (a n : ℕ) (f : ℕ → Checks A Car) → ((j : ℕ) → Either (f j))
        → ((j : ℕ) → a ≤ j → j < n → Passes N (f j))
        ⊎ ((r : Refusal) × (j : ℕ) × (a ≤ j) × (j < n) × ((i : ℕ) → a ≤ i → i < j → Passes N (f i)) × RefusedWith N (f j) r)
    unfolding Either
    first_below a zero f e = inl (λ j l q. absurd (omega arith))
    first_below a (suc n) f e = elim (first_below a n f e) [
      | inr t ↦ let l = t.3 in inr (t.0, t.1, t.2, omega arith, t.4, t.5)
      | inl p ↦ elim (dec_lt n a) [
        | yes l ↦ inl (λ j q u. absurd (omega arith))
        | no l ↦ elim (e n) [
          | inl here ↦ inl (λ j q u. elim (ℕ_discrete j n) [ yes z ↦ subst (λ j. Passes N (f j)) (sym z) here | no z ↦ p j q (omega arith) ])
          | inr t ↦ inr (t.0, n, omega arith, omega arith, p, t.1)
        ]
      ]
    ]

    pub either_way : (d : Checks A Car) → Passes N d ⊎ ((r : Refusal) × RefusedWith N d r)
    unfolding Either
    either_way none = inl tt
    either_way (test b x) = elim (tested b) [ inl t ↦ inl t | inr t ↦ inr (x, (t, refl)) ]
    either_way (number l f) = elim (sound_or_not f) [ inl t ↦ inl t | inr t ↦ inr (l t.0, (t.0, refl, t.1)) ]
    either_way (pivot n i x) = elim (positive_or_not x) [ inl t ↦ inl t | inr t ↦ inr (pivot_refusal n i, (t, refl)) ]
    either_way (each a b f) = elim (first_below a b f (λ j. either_way (f j))) [ inl t ↦ inl t | inr t ↦ inr (t.0, (t.1, t.2, t.3, t.4, t.5)) ]
    either_way (◌then◌ c d) = elim (either_way c) [
      | inr t ↦ inr (t.0, inl t.1)
      | inl p ↦ elim (either_way d) [ inl q ↦ inl (p, q) | inr t ↦ inr (t.0, inr (p, t.1)) ]
    ]
