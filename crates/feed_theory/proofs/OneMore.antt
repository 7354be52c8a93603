-- One more train in a book. Assumes nothing.
use Rattle.std.proofs.Common.{◌≡◌, ℕ, suc, ◌+◌, ◌<◌, ◌≤◌, true, ltb, ◌⊎◌, List, [], ◌∷◌, ◌++◌, length, take, is_some, Some, None, Option, sym, refl, ◌∙◌, subst, inl, inr, arith}
use Rattle.std.proofs.ByRecursion.{All-push, All-take}
use Rattle.std.proofs.lemmas.List.{get_or_append_left, get_or_push, get_or-take, length_push, length-take}
use Rattle.std.proofs.lemmas.Bool.{false≢true, lt-ltb}
use Rattle.feed_types.specs.declared.types.Sizes.{Sizes}
use Rattle.feed_types.specs.declared.types.Train.{Train}
use Rattle.feed_types.specs.Books.{at, no_train, SameTrain, Distinct, Keeps}
use Rattle.feed_types.specs.Joining.{Absent}
use Rattle.feed_types.specs.Limits.{GoodSizes, GoodTrain}
use Rattle.feed_types.specs.Reading.{size_at}

pub at_left : (ts : List Train) (t : Train) (k : ℕ) → k < length ts → at (ts ++ (t ∷ [])) k ≡ at ts k
at_left ts t k h = get_or_append_left ts (t ∷ []) no_train k h

pub at_last : (ts : List Train) (t : Train) (k : ℕ) → k ≡ length ts → at (ts ++ (t ∷ [])) k ≡ t
at_last ts t k e = get_or_push ts t no_train k (sym e)

split : (j n : ℕ) → j < n + 1 → (j < n) ⊎ (j ≡ n)
split j n h = grind arith

pub distinct_push : (ts : List Train) (t : Train) → Distinct ts → Absent ts t → Distinct (ts ++ (t ∷ []))
distinct_push ts t d absent i j lt within same = elim (split j (length ts) (omega (arith, length_push ts t))) [
  | inl jl ↦
      let il : i < length ts = omega arith in
      d i j lt jl (subst (λ (u : Train). SameTrain (at ts i) u) (at_left ts t j jl) (subst (λ (u : Train). SameTrain u (at (ts ++ (t ∷ [])) j)) (at_left ts t i il) same))
  | inr je ↦
      let il : i < length ts = omega arith in
      absent i (il, subst (λ (u : Train). SameTrain (at ts i) u) (at_last ts t j je) (subst (λ (u : Train). SameTrain u (at (ts ++ (t ∷ [])) j)) (at_left ts t i il) same))
]

-- sizes that agree are the book's
pub agreed_some : (held : Option Sizes) (s : Sizes) → is_some held ≡ true → ((i : ℕ) → i < 3 → (u : Sizes) → held ≡ Some u → size_at i u ≡ size_at i s) → held ≡ Some s
agreed_some None s e a = absurd (false≢true e)
agreed_some (Some u) s e a =
    let stops = a 0 (omega arith) u refl in
    let states = a 1 (omega arith) u refl in
    let inputs = a 2 (omega arith) u refl in
    λ i. Some (record { stops = stops i; states = states i; inputs = inputs i })

pub keeps_push : (held : Option Sizes) (s : Sizes) (ts : List Train) (t : Train) → is_some held ≡ ltb 0 (length ts) → ((i : ℕ) → i < 3 → (u : Sizes) → held ≡ Some u → size_at i u ≡ size_at i s) → GoodSizes s → GoodTrain s t → Keeps held ts → Keeps (Some s) (ts ++ (t ∷ []))
keeps_push held s [] t e a g h k = (g, (h, tt))
keeps_push held s (u ∷ us) t e a g h k =
    let same = agreed_some held s (e ∙ lt-ltb 0 (suc (length us)) (omega arith)) a in
    let kept = subst (λ (o : Option Sizes). Keeps o (u ∷ us)) same k in
    (g, All-push (GoodTrain s) (u ∷ us) t kept.1 h)

-- fewer trains
pub distinct_take : (n : ℕ) (ts : List Train) → Distinct ts → Distinct (take n ts)
distinct_take n ts d i j lt within same =
    let few : length (take n ts) ≤ n = omega (arith, length-take n ts) in
    let fits : length (take n ts) ≤ length ts = omega (arith, length-take n ts) in
    d i j lt (omega arith) (subst (λ (u : Train). SameTrain (at ts i) u) (get_or-take n ts j no_train (omega arith)) (subst (λ (u : Train). SameTrain u (at (take n ts) j)) (get_or-take n ts i no_train (omega arith)) same))

pub keeps_take : (o : Option Sizes) (n : ℕ) (ts : List Train) → Keeps o ts → Keeps o (take n ts)
keeps_take None n ts k = tt
keeps_take (Some s) n ts k = (k.0, All-take (GoodTrain s) n ts k.1)
