-- How a formula is worked, one operation after the other. Assumes nothing.
use Rattle.std.proofs.Common.{◌≡◌, ℕ, zero, suc, ◌+◌, ◌<◌, ◌≤◌, ◌≢◌, IsErrAnd, MatchResult, Ok, Err, Result, sym, refl, ap, ◌∙◌, subst, ap₂, inl, inr, arith}
use native.Mathlib.Decide.{ℕ_discrete}
use Rattle.std.proofs.lemmas.Result.{err_from_is_err_and}
use Rattle.numbers.specs.declared.Number.{Ghosts}
use Rattle.numbers.specs.declared.NumberFault.{NumberFault}
use Rattle.numbers.specs.declared.NumberFault.TheVariants as fault
use Rattle.numbers.specs.Answers.{Answers, Quotient}
use Rattle.study_terms.specs.declared.faults.kinds.Below.{Below}
use Rattle.study_terms.specs.declared.faults.kinds.Below.TheVariants.{TooLarge}
use Rattle.study_terms.specs.declared.faults.kinds.StudyFault.{StudyFault}
use Rattle.study_terms.specs.declared.faults.kinds.StudyFault.TheVariants.{AnswerTooLarge}
use Rattle.study_terms.specs.Calls.{AnswerPromise}
use Rattle.study_terms.specs.Checks.{Checks, number, Passes, RefusedWith}
use Rattle.study_terms.specs.Refusals.{bare, refusal}
use Rattle.study_terms.specs.Formulas.{field, Formula, known, plus, over, sums, exact, Holds, Divides, Sound, FirstFault, Outcome}

-- equal terms make equal sums
pub sums_ext : {A C : Type 0} (s : Formula A C) (n : ℕ) (f g : ℕ → Formula A C) → ((k : ℕ) → k < n → f k ≡ g k) → sums s n f ≡ sums s n g
sums_ext s zero f g h = refl
sums_ext s (suc n) f g h = ap₂ plus (sums_ext s n f g (λ k l. h k (omega arith))) (h n (omega arith))

module _ {A : Type 0} (N : Ghosts A) where
  infixl 60 ◌⊕◌
  infixl 70 ◌⊗◌
  open field N use {Car, 𝟘, ◌⊕◌, ◌⊗◌, neg, inv}

  pub known_ok : (x : Car) (k : A) → N.value k ≡ x → Outcome N (known x) (Ok k)
  known_ok x k e = (tt, e)

  module _ (f g : Formula A Car) (a b : A) (u : Outcome N f (Ok a)) (v : Outcome N g (Ok b)) where
    pub plus_ok : (k : A) → N.value k ≡ N.value a ⊕ N.value b → Outcome N (plus f g) (Ok k)
    plus_ok k e = let x = e ∙ ap₂ ◌⊕◌ u.1 v.1 in ((u.0, v.0, (k, x)), x)

    pub over_ok : (k : A) → (N.value b ≢ 𝟘) × (N.value k ≡ N.value a ⊗ inv (N.value b)) → Outcome N (over f g) (Ok k)
    over_ok k q = let x = q.1 ∙ ap₂ (λ s t. s ⊗ inv t) u.1 v.1 in ((u.0, v.0, ((λ z. q.0 (v.1 ∙ z)), (k, x))), x)

    pub plus_err : (¬ Holds N (N.value a ⊕ N.value b)) → Outcome N (plus f g) (Err TooLarge)
    plus_err n = inr (inr (u.0, v.0, (λ h. n (h.0, h.1 ∙ sym (ap₂ ◌⊕◌ u.1 v.1))), refl))

    pub over_err : (¬ Divides N (N.value a) (N.value b)) → Outcome N (over f g) (Err TooLarge)
    over_err n = inr (inr (u.0, v.0, (λ h. n ((λ z. h.0 (sym v.1 ∙ z)), (h.1.0, h.1.1 ∙ sym (ap₂ (λ s t. s ⊗ inv t) u.1 v.1)))), refl))

  -- a number's refusal says that no value means the result, or that there is none
  pub not_held : (x : Car) (e : NumberFault) → Answers N.value x (Err e) → ¬ Holds N x
  not_held x fault.TooLarge h = h
  not_held x fault.ZeroDivisor h = absurd h

  pub not_divided : (x y : Car) (e : NumberFault) → Quotient N.value x y (Err e) → ¬ Divides N x y
  not_divided x y fault.TooLarge h = λ d. h.1 d.1
  not_divided x y fault.ZeroDivisor h = λ d. d.0 h

  -- a fault met on the way stays the first
  pub sums_fault : (s : Formula A Car) (f : ℕ → Formula A Car) (b : Below) (n k : ℕ) → k ≤ n → FirstFault N (sums s k f) b → FirstFault N (sums s n f) b
  sums_fault s f b zero k l h = let z : k ≡ 0 = omega arith in subst (λ k. FirstFault N (sums s k f) b) z h
  sums_fault s f b (suc n) k l h =
      elim (ℕ_discrete k (suc n)) [
        | yes z ↦ subst (λ k. FirstFault N (sums s k f) b) z h
        | no q ↦ inl (sums_fault s f b n k (omega arith) h)
      ]

  -- one turn of a loop that adds: the sum so far, the next term, and their sum
  pub sum_more : (s : Formula A Car) (f : ℕ → Formula A Car) (k : ℕ) (t p r : A)
      → Outcome N (sums s k f) (Ok t) → Outcome N (f k) (Ok p) → N.value r ≡ N.value t ⊕ N.value p → Outcome N (sums s (k + 1) f) (Ok r)
  sum_more s f k t p r u v e = let z : suc k ≡ k + 1 = omega arith in subst (λ n. Outcome N (sums s n f) (Ok r)) z (plus_ok (sums s k f) (f k) t p u v r e)

  -- the next term has a fault
  pub sum_term : (s : Formula A Car) (f : ℕ → Formula A Car) (k n : ℕ) (t : A) (b : Below) → k < n
      → Outcome N (sums s k f) (Ok t) → FirstFault N (f k) b → FirstFault N (sums s n f) b
  sum_term s f k n t b l u v = sums_fault s f b n (suc k) l (inr (inl (u.0, v)))

  -- the sum with the next term is not held
  pub sum_large : (s : Formula A Car) (f : ℕ → Formula A Car) (k n : ℕ) (t p : A) → k < n
      → Outcome N (sums s k f) (Ok t) → Outcome N (f k) (Ok p) → (¬ Holds N (N.value t ⊕ N.value p)) → FirstFault N (sums s n f) TooLarge
  sum_large s f k n t p l u v h = sums_fault s f TooLarge n (suc k) l (plus_err (sums s k f) (f k) t p u v h)

  -- the exit of a `?`: the fault, as the caller's enum has it
  pub exits : (f : Formula A Car) (r : Result A Below) (b : Below) → IsErrAnd r (λ y. y ≡ b) → FirstFault N f b → Outcome N f r
  exits f r b h u = let p = err_from_is_err_and r h in subst (Outcome N f) (sym p.1) (subst (FirstFault N f) (sym p.2) u)

  -- the fault below is named by a fault of the study, whatever it is
  pub named : (f : Formula A Car) (e : StudyFault) (r : Result A Below) (r' : Result A StudyFault) (P : Below → StudyFault → Type 0)
      → MatchResult r (λ x. r' ≡ Ok x) (λ b. IsErrAnd r' (P b)) → ((b : Below) (y : StudyFault) → P b y → y ≡ e) → Outcome N f r
      → MatchResult r' (λ x. Outcome N f (Ok x)) (λ y. (y ≡ e) × ((b : Below) × FirstFault N f b))
  named f e (Ok x) r' P h n u = subst (λ r. MatchResult r (λ x. Outcome N f (Ok x)) (λ y. (y ≡ e) × ((b : Below) × FirstFault N f b))) (sym h) u
  named f e (Err b) r' P h n u =
      let p = err_from_is_err_and r' h in
      subst (λ r. MatchResult r (λ x. Outcome N f (Ok x)) (λ y. (y ≡ e) × ((b : Below) × FirstFault N f b))) (sym p.1) (n b p.0 p.2, (b, u))

  -- the answer of a call whose last check is a number of this formula
  pub answered : (c : Checks A Car) (f : Formula A Car) (y : Car) → exact N f ≡ y → (Sound N f → Passes N c)
      → (RefusedWith N (number (λ _. bare 51) f) (bare 51) → RefusedWith N c (bare 51))
      → (r' : Result A StudyFault) → MatchResult r' (λ x. Outcome N f (Ok x)) (λ y. (y ≡ AnswerTooLarge) × ((b : Below) × FirstFault N f b)) → AnswerPromise N c y r'
  answered c f y e pass fail (Ok x) h = record { passes = pass h.0; answer = h.1 ∙ e }
  answered c f y e pass fail (Err t) h = subst (RefusedWith N c) (sym (ap refusal h.0)) (fail (h.1.0, refl, h.1.1))
