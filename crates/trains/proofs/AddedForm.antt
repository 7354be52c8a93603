-- The form of what a book adds is the sum of weight × gap² over its trains. Assumes nothing.
use Rattle.std.proofs.Common.{◌≡◌, ℕ, suc, ◌+◌, Bool, true, false, cond, eqb, List, [], ◌∷◌, ℤ, pos, ◌+ℤ◌, ◌*ℤ◌, neg_ℤ, fold, sym, refl, ap, ◌∙◌, ap₂}
use Rattle.algebra.specs.Field.{OrderedField}
use Rattle.algebra.specs.Exact.{Exact, Radicand, whole_e, zero_e, one_e, add_e, neg_e, mul_e}
use Rattle.algebra.proofs.ExactField.{exact_field, ring_of}
use Rattle.algebra.proofs.Integers.{ℤ_ring}
use Rattle.algebra.proofs.RingSolver.{◌:*◌, ◌≋◌, solve₃, solve₅}
use Rattle.control.specs.Matrix.{sum, form, join}
use Rattle.control.proofs.Forms.{form_add, form_ext}
use Rattle.control.proofs.Laws.{zero-mul}
use Rattle.control.proofs.Lists.{join_left, join_right}
use Rattle.control.proofs.Sums.{sum_ext, sum-mul, sum_none, sum_split}
use Rattle.lines.specs.Whole.{cell}
use Rattle.lines.specs.WholeLines.{whole_zero}
use Rattle.aims.proofs.Shifted.{join_at}
use Rattle.feed_types.specs.declared.types.Train.{Train}
use Rattle.trains.specs.Adding.{gap, train_cost, book_cost}
use Rattle.trains.specs.Weights.{factor, share, at_stop, weighed}
use Rattle.trains.proofs.Wholes.{whole_add, whole_mul, whole_neg}

module _ (K : OrderedField) where
  infixl 60 ◌⊕◌
  infixl 70 ◌⊗◌
  open K use {Car, 𝟘, ◌⊕◌, ◌⊗◌, mul_comm, mul_assoc}

  -- k times a product of two factors
  pub square_form : (w : ℕ) (k : Car) (f z : ℕ → Car) → form K w (λ a c. (k ⊗ f a) ⊗ f c) z ≡ k ⊗ (sum K w (λ a. f a ⊗ z a) ⊗ sum K w (λ a. f a ⊗ z a))
  square_form w k f z =
      let S = sum K w (λ a. f a ⊗ z a) in
      sum_ext K w _ (λ a. (k ⊗ S) ⊗ (f a ⊗ z a))
      (λ a h. sum_ext K w _ (λ c. (k ⊗ (f a ⊗ z a)) ⊗ (f c ⊗ z c)) (λ c l. solve₅ (ring_of K) (λ k f g y z. ((k :* f) :* g) :* y :* z ≋ (k :* (f :* y)) :* (g :* z)) tt k (f a) (f c) (z a) (z c))
      ∙ sum-mul K w (k ⊗ (f a ⊗ z a)) (λ c. f c ⊗ z c) ∙ solve₃ (ring_of K) (λ k p s. (k :* p) :* s ≋ (k :* s) :* p) tt k (f a ⊗ z a) S)
      ∙ sum-mul K w (k ⊗ S) (λ a. f a ⊗ z a) ∙ mul_assoc k S S

  pub zero_form : (w : ℕ) (A : ℕ → ℕ → Car) (z : ℕ → Car) → ((a c : ℕ) → A a c ≡ 𝟘) → form K w A z ≡ 𝟘
  zero_form w A z none = sum_none K w _ (λ a h. sum_none K w _ (λ c l. ap (λ t. t ⊗ z a ⊗ z c) (none a c) ∙ ap (λ t. t ⊗ z c) (zero-mul K (z a)) ∙ zero-mul K (z c)))

module _ {D : ℕ} (good : Radicand D) (nx first w : ℕ) (wide : w ≡ first + suc nx) (u x : ℕ → Exact D) where
  abbrev K : OrderedField
  K = exact_field D good

  abbrev z : ℕ → Exact D
  z = join first u (join nx x (λ _. one_e D))

  gap_sum : (t : Train) → sum K w (λ a. mul_e (whole_e D (factor first nx t a)) (z a)) ≡ gap good nx first t u x
  gap_sum t =
      let f = factor first nx t in
      ap (λ (k : ℕ). sum K k (λ a. mul_e (whole_e D (f a)) (z a))) wide
      ∙ sum_split K first (suc nx) (λ a. mul_e (whole_e D (f a)) (z a))
      ∙ ap₂ add_e
      (sum_ext K first _ (λ i. mul_e (whole_e D (cell t.moves i)) (u i)) (λ i h. ap₂ mul_e (ap (whole_e D) (join_left first (cell t.moves) _ i h)) (join_left first u _ i h)))
      (ap₂ add_e
      (sum_ext K nx _ (λ k. mul_e (whole_e D (cell t.late k)) (x k))
      (λ k h. ap₂ mul_e (ap (whole_e D) (join_right first (cell t.moves) _ k ∙ join_left nx (cell t.late) _ k h)) (join_right first u _ k ∙ join_left nx x _ k h)))
      (ap₂ mul_e (ap (whole_e D) (join_right first (cell t.moves) _ nx ∙ join_at nx (cell t.late) (λ _. neg_ℤ t.aim))) (join_right first u _ nx ∙ join_at nx x (λ _. one_e D))
      ∙ K.mul-one (whole_e D (neg_ℤ t.aim)) ∙ whole_neg D t.aim))
      ∙ sym (K.add_assoc _ _ (neg_e (whole_e D t.aim)))

  share_form : (t : Train) → form K w (λ a c. whole_e D (share first nx t a c)) z ≡ mul_e (whole_e D (pos t.weight)) (mul_e (gap good nx first t u x) (gap good nx first t u x))
  share_form t =
      let f = λ (a : ℕ). whole_e D (factor first nx t a) in
      form_ext K w _ (λ a c. mul_e (mul_e (whole_e D (pos t.weight)) (f a)) (f c)) z z
      (λ a c h l. whole_mul D (pos t.weight *ℤ factor first nx t a) (factor first nx t c) ∙ ap (λ (y : Exact D). mul_e y (f c)) (whole_mul D (pos t.weight) (factor first nx t a))) (λ a h. refl)
      ∙ square_form K w (whole_e D (pos t.weight)) f z
      ∙ ap (λ (y : Exact D). mul_e (whole_e D (pos t.weight)) (mul_e y y)) (gap_sum t)

  stop_form : (n : ℕ) (t : Train) → form K w (λ a c. whole_e D (at_stop n t (share first nx t a c))) z ≡ train_cost good nx first n t u x
  stop_form n t = go (eqb t.stop n)
    where
      go : (here : Bool) → form K w (λ a c. whole_e D (cond here (share first nx t a c) (pos 0))) z ≡ cond here (mul_e (whole_e D (pos t.weight)) (mul_e (gap good nx first t u x) (gap good nx first t u x))) (zero_e D)
      go true = share_form t
      go false = zero_form K w (λ a c. whole_e D (pos 0)) z (λ a c. whole_zero D)

  -- from sums that were begun
  from_form : (n : ℕ) (ts : List Train) (begun : ℕ → ℕ → ℤ) (so_far : Exact D) → form K w (λ a c. whole_e D (begun a c)) z ≡ so_far
      → form K w (λ a c. whole_e D (fold (λ s t. s +ℤ at_stop n t (share first nx t a c)) (begun a c) ts)) z ≡ fold (λ s t. add_e s (train_cost good nx first n t u x)) so_far ts
  from_form n [] begun so_far h = h
  from_form n (t ∷ ts) begun so_far h =
      from_form n ts (λ a c. begun a c +ℤ at_stop n t (share first nx t a c)) (add_e so_far (train_cost good nx first n t u x))
      (form_ext K w _ (λ a c. add_e (whole_e D (begun a c)) (whole_e D (at_stop n t (share first nx t a c)))) z z (λ a c p l. whole_add D (begun a c) (at_stop n t (share first nx t a c))) (λ a p. refl)
      ∙ form_add K w _ _ z ∙ ap₂ add_e h (stop_form n t))

  pub book_form : (n : ℕ) (ts : List Train) → form K w (λ a c. whole_e D (weighed n first nx ts a c)) z ≡ book_cost good nx first n ts u x
  book_form n ts = from_form n ts (λ _ _. pos 0) (zero_e D) (zero_form K w (λ a c. whole_e D (pos 0)) z (λ a c. whole_zero D))

-- the sums are their own mirror
pub weighed_mirror : (n first nx : ℕ) (ts : List Train) (a c : ℕ) → weighed n first nx ts a c ≡ weighed n first nx ts c a
weighed_mirror n first nx ts a c = go ts (pos 0)
  where
    share_mirror : (t : Train) → share first nx t a c ≡ share first nx t c a
    share_mirror t = solve₃ ℤ_ring (λ k f g. (k :* f) :* g ≋ (k :* g) :* f) tt (pos t.weight) (factor first nx t a) (factor first nx t c)

    go : (ts : List Train) (s : ℤ) → fold (λ s t. s +ℤ at_stop n t (share first nx t a c)) s ts ≡ fold (λ s t. s +ℤ at_stop n t (share first nx t c a)) s ts
    go [] s = refl
    go (t ∷ ts) s =
        ap (λ (v : ℤ). fold (λ s t. s +ℤ at_stop n t (share first nx t a c)) (s +ℤ at_stop n t v) ts) (share_mirror t) ∙ go ts (s +ℤ at_stop n t (share first nx t c a))
