-- A fold whose steps commute is the same over all lists that have the same elements, each once. Assumes nothing.
use Rattle.std.proofs.Common.{◌≡◌, ◌⊎◌, List, [], ◌∷◌, fold, sym, refl, ap, ◌∙◌, subst, inl, inr, arith}
use Rattle.std.specs.List.{ContainsAt as Has}
use Rattle.feed_theory.proofs.Histories.{has_head, has_tail, has_cases}

-- no element stands twice
abbrev pub Apart : {X : Type 0} → List X → Type 0
Apart [] = Unit {0}
Apart (x ∷ xs) = (Has xs x → ⊥) × Apart xs

-- ys is xs with x put in at some place
data Put {X : Type 0} (x : X) : List X → List X → Type 0 where
  here : {xs : List X} → Put x xs (x ∷ xs)
  later : {y : X} {xs ys : List X} → Put x xs ys → Put x (y ∷ xs) (y ∷ ys)

module _ {X : Type 0} where
  taken_out : (ys : List X) (x : X) → Has ys x → (xs : List X) × Put x xs ys
  taken_out [] x (k, h, e) = absurd (omega arith)
  taken_out (y ∷ ys) x h = elim (has_cases ys y x h) [
    | inl same ↦ (ys, subst (λ (z : X). Put x ys (z ∷ ys)) same here)
    | inr rest ↦ (let p = taken_out ys x rest in (y ∷ p.0, later p.1))
  ]

  put_self : {x : X} {xs ys : List X} → Put x xs ys → Has ys x
  put_self {x} (here {xs = xs}) = has_head xs x
  put_self {x} (later {y = y} {ys = ys} p) = has_tail ys y x (put_self p)

  put_has : {x : X} {xs ys : List X} → Put x xs ys → (z : X) → Has xs z → Has ys z
  put_has {x} (here {xs = xs}) z h = has_tail xs x z h
  put_has {x} (later {y = y} {xs = xs} {ys = ys} p) z h = elim (has_cases xs y z h) [
    | inl same ↦ subst (Has (y ∷ ys)) (sym same) (has_head ys y)
    | inr rest ↦ has_tail ys y z (put_has p z rest)
  ]

  put_cases : {x : X} {xs ys : List X} → Put x xs ys → (z : X) → Has ys z → (z ≡ x) ⊎ Has xs z
  put_cases {x} (here {xs = xs}) z h = has_cases xs x z h
  put_cases {x} (later {y = y} {xs = xs} {ys = ys} p) z h = elim (has_cases ys y z h) [
    | inl same ↦ inr (subst (Has (y ∷ xs)) (sym same) (has_head xs y))
    | inr rest ↦ elim (put_cases p z rest) [ inl same ↦ inl same | inr more ↦ inr (has_tail xs y z more) ]
  ]

  put_apart : {x : X} {xs ys : List X} → Put x xs ys → Apart ys → Apart (x ∷ xs)
  put_apart here a = a
  put_apart {x} (later {y = y} {xs = xs} {ys = ys} p) a =
      let below = put_apart p a.1 in
      let new : Has (y ∷ xs) x → ⊥ = λ h. elim (has_cases xs y x h) [ inl same ↦ a.0 (subst (Has ys) same (put_self p)) | inr rest ↦ below.0 rest ] in
      (new, ((λ h. a.0 (put_has p y h)), below.1))

module _ {X Y : Type 0} (step : Y → X → Y) (commute : (s : Y) (x y : X) → step (step s x) y ≡ step (step s y) x) where
  put_fold : {x : X} {xs ys : List X} → Put x xs ys → (s : Y) → fold step s ys ≡ fold step (step s x) xs
  put_fold here s = refl
  put_fold {x} (later {y = y} {xs = xs} p) s = put_fold p (step s y) ∙ ap (λ (t : Y). fold step t xs) (commute s y x)

  pub same_fold : (xs ys : List X) → Apart xs → Apart ys → ((x : X) → Has xs x → Has ys x) → ((x : X) → Has ys x → Has xs x) → (s : Y) → fold step s xs ≡ fold step s ys
  same_fold [] [] a b to from s = refl
  same_fold [] (y ∷ ys) a b to from s = absurd (omega (arith, (from y (has_head ys y)).1))
  same_fold (x ∷ xs) ys a b to from s =
      let out = taken_out ys x (to x (has_head xs x)) in
      let apart = put_apart out.1 b in
      same_fold xs out.0 a.1 apart.1
      (λ z h. elim (put_cases out.1 z (to z (has_tail xs x z h))) [ inl same ↦ absurd (a.0 (subst (Has xs) same h)) | inr rest ↦ rest ])
      (λ z h. elim (has_cases xs x z (from z (put_has out.1 z h))) [ inl same ↦ absurd (apart.0 (subst (Has out.0) same h)) | inr rest ↦ rest ])
      (step s x)
      ∙ sym (put_fold out.1 s)
