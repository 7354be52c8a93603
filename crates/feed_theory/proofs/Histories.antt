-- What every list of feeds leaves in a book. Assumes nothing.
use Rattle.std.proofs.Common.{◌≡◌, ℕ, zero, suc, ◌-◌, ◌<◌, ◌≤◌, ◌⊎◌, List, [], ◌∷◌, ◌++◌, length, get_or, IfOk, Some, None, Ok, Err, Result, sym, refl, ap, ◌∙◌, subst, inl, inr, arith}
use Rattle.std.specs.List.{ContainsAt as Has}
use Rattle.std.proofs.ByRecursion.{has_append_left, has_push}
use Rattle.std.proofs.lemmas.List.{get_or_append_left, get_or-append_right, get_or_default, length-append, length_push}
use Rattle.std.proofs.lemmas.Bool.{cases_lt}
use Rattle.feed_types.specs.declared.faults.FeedFault.{FeedFault}
use Rattle.feed_types.specs.declared.types.Train.{Train}
use Rattle.feed_types.specs.Books.{at, no_train, Distinct, sizes_for}
use Rattle.feed_types.specs.History.{start, granted, refused, EveryHistory, KeepsSlots, AgainNothing}
use Rattle.feed_types.specs.Joining.{Joins, again, new, Joined, none, more}
use Rattle.feed_types.specs.Reading.{Register, Agreed, Granted, Reading, size_at}
use Rattle.feed_types.specs.Text.{Feed}
use Rattle.feed_theory.proofs.Answering.{joined_distinct}
use Rattle.feed_theory.proofs.Joinings.{joined_grows}
use Rattle.feed_theory.proofs.Only.{only_answer}

-- an element of a list with one more at its end
has_split : {X : Type 0} (xs : List X) (y x : X) → Has (xs ++ (y ∷ [])) x → Has xs x ⊎ (x ≡ y)
has_split xs y x (k, h, e) = elim (cases_lt k (length xs)) [
  | inl lt ↦ inl (k, lt, λ d. sym (get_or_append_left xs (y ∷ []) d k lt) ∙ e d)
  | inr le ↦ inr (sym (e y) ∙ get_or-append_right xs (y ∷ []) (length xs) k y refl le ∙ last (omega (arith, length_push xs y)))
]
  where
    last : k ≡ length xs → get_or (y ∷ []) (k - length xs) y ≡ y
    last p = let z : k - length xs ≡ 0 = omega arith in ap (λ (n : ℕ). get_or (y ∷ []) n y) z

has_here : (ts : List Train) (t : Train) (k : ℕ) → k < length ts → at ts k ≡ t → Has ts t
has_here ts t k h e = (k, h, λ d. get_or_default ts k d no_train h ∙ e)

pub has_head : {X : Type 0} (xs : List X) (x : X) → Has (x ∷ xs) x
has_head xs x = (0, omega arith, λ d. refl)

pub has_tail : {X : Type 0} (xs : List X) (x y : X) → Has xs y → Has (x ∷ xs) y
has_tail xs x y (k, h, e) = (suc k, omega arith, e)

pub has_cases : {X : Type 0} (xs : List X) (x y : X) → Has (x ∷ xs) y → (y ≡ x) ⊎ Has xs y
has_cases xs x y (zero, h, e) = inl (sym (e y))
has_cases xs x y (suc k, h, e) = inr (k, omega arith, e)

joins_has : (b c : List Train) (t : Train) → Joins b t c → Has c t
joins_has b c t (again k h e) = has_here b t k h e
joins_has b c t (new a l) = has_push b t

joined_keeps : (ts b c : List Train) (t : Train) → Joined b ts c → Has b t → Has c t
joined_keeps ts b c t j h =
    let grows = joined_grows j in
    subst (λ (l : List Train). Has l t) (sym grows.1) (has_append_left b grows.0 t h)

-- every joined train stands in the book
pub joined_has : (ts b c : List Train) (t : Train) → Joined b ts c → Has ts t → Has c t
joined_has [] b c t j (k, h, e) = absurd (omega arith)
joined_has (u ∷ ts) b c t (more {c = x} i r) h = elim (has_cases ts u t h) [
  | inl same ↦ joined_keeps ts x c t r (subst (Has x) (sym same) (joins_has b x u i))
  | inr rest ↦ joined_has ts x c t r rest
]

-- and nothing else came into it
pub joined_only : (ts b c : List Train) (t : Train) → Joined b ts c → Has c t → Has b t ⊎ Has ts t
joined_only [] b c t none h = inl h
joined_only (u ∷ ts) b c t (more {c = x} i r) h = elim (joined_only ts x c t r h) [
  | inl old ↦ one b x u i old
  | inr rest ↦ inr (has_tail ts u t rest)
]
  where
    one : (b x : List Train) (u : Train) → Joins b u x → Has x t → Has b t ⊎ Has (u ∷ ts) t
    one b x u (again k l e) o = inl o
    one b x u (new a l) o = elim (has_split b u t o) [
      | inl before ↦ inl before
      | inr same ↦ inr (subst (Has (u ∷ ts)) (sym same) (has_head ts u))
    ]

joined_few : (ts b c : List Train) → Joined b ts c → length b ≤ 64 → length c ≤ 64
joined_few [] b c none h = h
joined_few (t ∷ ts) b c (more {c = x} i r) h = joined_few ts x c r (one b x t i h)
  where
    one : (b x : List Train) (t : Train) → Joins b t x → length b ≤ 64 → length x ≤ 64
    one b x t (again k l e) m = m
    one b x t (new a l) m = omega (arith, length_push b t)

pub every_history_lem : EveryHistory
every_history_lem fs b start = record {
  once = λ i j lt within same. omega arith;
  few = omega arith;
  all = λ f t has h. absurd (omega (arith, has.1));
  only = λ t h. absurd (omega (arith, h.1));
}
every_history_lem fs c (granted {fs = gs} {b = b} h g) =
    let before = every_history_lem gs b h in
    record {
      once = joined_distinct g.feed.trains b.trains c.trains g.joined before.once;
      few = joined_few g.feed.trains b.trains c.trains g.joined before.few;
      all = λ f t has in_f. elim (has_split gs g.feed f has) [
        | inl old ↦ joined_keeps g.feed.trains b.trains c.trains t g.joined (before.all f t old in_f)
        | inr same ↦ joined_has g.feed.trains b.trains c.trains t g.joined (subst (λ (x : Feed). Has x.trains t) same in_f)
      ];
      only = λ t has. elim (joined_only g.feed.trains b.trains c.trains t g.joined has) [
        | inl old ↦ let found = before.only t old in (found.0, has_append_left gs (g.feed ∷ []) found.0 found.1, found.2)
        | inr new' ↦ (g.feed, has_push gs g.feed, new')
      ];
    }
every_history_lem fs b (refused bs e h r) = every_history_lem fs b h

pub keeps_slots : (bs : List ℕ) (b c : Register) (r : Result ℕ FeedFault) → Reading bs b r c → KeepsSlots b c
keeps_slots bs b c (Ok n) g k h =
    let grows = joined_grows g.joined in
    (omega (arith, ap length grows.1, length-append b.trains grows.0), ap (λ (l : List Train). at l k) grows.1 ∙ get_or_append_left b.trains grows.0 no_train k h)
keeps_slots bs b c (Err e) (r, same) k h = subst (λ (x : Register). (k < length x.trains) × (at x.trains k ≡ at b.trains k)) (sym same) (h, refl)

-- trains that stand join again without a change
joined_again : (ts c : List Train) → ((t : Train) → Has ts t → Has c t) → Joined c ts c
joined_again [] c h = none
joined_again (t ∷ ts) c h =
    let here = h t (has_head ts t) in
    more (again here.0 here.1 (here.2 no_train)) (joined_again ts c (λ u in_ts. h u (has_tail ts t u in_ts)))

again_nothing : (bs : List ℕ) (b c : Register) (n : ℕ) → Distinct c.trains → Granted bs b n c → AgainNothing bs c
again_nothing bs b c n d g q e r =
    only_answer bs c d (Ok 0) c (record {
      few = g.few;
      feed = g.feed;
      good = g.good;
      is = g.is;
      agrees = own;
      joined = joined_again g.feed.trains c.trains (λ t. joined_has g.feed.trains b.trains c.trains t g.joined);
      sizes = g.sizes;
      count = omega arith;
    }) q e r
  where
    own : Agreed c g.feed.sizes
    own i l u p = ap (size_at i) (held c.trains (sym g.sizes ∙ p))
      where
        held : (ts : List Train) → sizes_for (Some g.feed.sizes) ts ≡ Some u → u ≡ g.feed.sizes
        held [] x = absurd (nothing x)
          where
            nothing : None ≡ Some u → ⊥
            nothing y = let z : ◌≡◌ {A = ℕ} 0 1 = cc in omega arith
        held (t ∷ ts) x = cc

-- of an answer that is a grant
pub granted_again : (bs : List ℕ) (b c : Register) (r : Result ℕ FeedFault) → Distinct c.trains → Reading bs b r c → IfOk r (λ _. AgainNothing bs c)
granted_again bs b c (Ok n) d g = again_nothing bs b c n d g
granted_again bs b c (Err e) d g = tt
