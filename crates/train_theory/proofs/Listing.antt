-- The trains that occur in the granted feeds are those of the book. Assumes nothing.
use Rattle.std.proofs.Common.{◌≡◌, ℕ, suc, List, [], ◌∷◌, Some, None, Ok, Err, sym, refl, ◌∙◌, subst, append-nil, arith}
use native.Mathlib.Decide.{dec_lt}
use Rattle.std.specs.List.{ContainsAt as Has}
use Rattle.std.proofs.ByRecursion.{has_get_or}
use Rattle.feed_types.specs.declared.types.Sizes.{Sizes}
use Rattle.feed_types.specs.declared.types.Train.{Train}
use Rattle.feed_types.specs.Books.{at, no_train, SameTrain, Distinct, sizes_for}
use Rattle.feed_types.specs.History.{History, start, granted, refused, Told}
use Rattle.feed_types.specs.Reading.{Register}
use Rattle.feed_types.specs.Text.{Feed}
use Rattle.feed_theory.proofs.Histories.{every_history_lem}
use Rattle.train_theory.specs.Feeding.{ReadInTurn, none, more, EachOnce}
use Rattle.train_theory.proofs.Folds.{Apart}

history : {texts : List (List ℕ)} {fs : List Feed} {r : Register} → ReadInTurn texts fs r → History fs r
history none = start
history (more h bs (Ok n) g) = granted (history h) g
history (more {fs = fs} {b = b} h bs (Err e) g) =
    subst (History _) (sym g.1) (subst (λ (l : List Feed). History l b) (sym (append-nil fs)) (refused bs e (history h) g.0))

pub told : {texts : List (List ℕ)} {fs : List Feed} {r : Register} → ReadInTurn texts fs r → Told fs r
told {fs = fs} {r = r} h = every_history_lem fs r (history h)

-- a book without sizes has no trains
pub bare : {texts : List (List ℕ)} {fs : List Feed} {r : Register} → ReadInTurn texts fs r → r.sizes ≡ None → r.trains ≡ []
bare none e = refl
bare (more {c = c} h bs (Ok n) g) e = go g.feed.sizes c.trains (sym g.sizes ∙ e)
  where
    go : (s : Sizes) (ts : List Train) → sizes_for (Some s) ts ≡ None → ts ≡ []
    go s [] p = refl
    go s (t ∷ ts) p = absurd cc
bare (more h bs (Err e) g) p =
    subst (λ (r : Register). r.sizes ≡ None → r.trains ≡ []) (sym g.1) (bare h) p

-- a stop and label tell a train of the book
one_train : (ts : List Train) (t u : Train) → Distinct ts → Has ts t → Has ts u → SameTrain t u → t ≡ u
one_train ts t u d (i, hi, ei) (j, hj, ej) same = elim (dec_lt i j) [
  | yes l ↦ absurd (d i j l hj (both i j t u (ei no_train) (ej no_train) same))
  | no p ↦ elim (dec_lt j i) [
    | yes l ↦ absurd (d j i l hi (both j i u t (ej no_train) (ei no_train) (sym same.0, sym same.1)))
    | no q ↦ (let e : i ≡ j = omega arith in sym (ei no_train) ∙ subst (λ (k : ℕ). at ts k ≡ u) (sym e) (ej no_train))
  ]
]
  where
    both : (i j : ℕ) (t u : Train) → at ts i ≡ t → at ts j ≡ u → SameTrain t u → SameTrain (at ts i) (at ts j)
    both i j t u p q s = subst (λ (x : Train). SameTrain x (at ts j)) (sym p) (subst (SameTrain t) (sym q) s)

pub distinct_apart : (ts : List Train) → Distinct ts → Apart ts
distinct_apart [] d = tt
distinct_apart (t ∷ ts) d =
    ((λ h. d 0 (suc h.0) (omega arith) (omega (arith, h.1)) (subst (SameTrain t) (sym (h.2 no_train)) (refl, refl))), distinct_apart ts (λ i j l h. d (suc i) (suc j) (omega arith) (omega arith)))

module _ (fs : List Feed) (r : Register) (book : Told fs r) where
  -- the book is such a list
  pub book_each_once : EachOnce fs r.trains
  book_each_once = record {
    once = book.once;
    given = book.only;
    all = λ f t in_fs in_f. let h = book.all f t in_fs in_f in (h.0, (h.1, subst (λ (u : Train). SameTrain u t) (sym (h.2 no_train)) (refl, refl)));
  }

  module _ (ts : List Train) (each : EachOnce fs ts) where
    pub into_book : (t : Train) → Has ts t → Has r.trains t
    into_book t h = let g = each.given t h in book.all g.0 t g.1 g.2

    pub from_book : (t : Train) → Has r.trains t → Has ts t
    from_book t h =
        let g = book.only t h in
        let s = each.all g.0 t g.1 g.2 in
        let there = has_get_or ts s.0 no_train s.1.0 in
        subst (Has ts) (one_train r.trains (at ts s.0) t book.once (into_book (at ts s.0) there) h s.1.1) there
