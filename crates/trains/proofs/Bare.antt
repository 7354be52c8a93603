-- A book without sizes has no trains. Assumes nothing.
use Rattle.std.proofs.Common.{◌≡◌, ◌<◌, T, ltb, List, [], ◌∷◌, length, is_some, None, vec_items, vec_len, sym, refl, ap, ◌∙◌, subst, arith, lt→ltb}
use Rattle.feeds.specs.Held.{held}
use Rattle.feeds.specs.declared.book.Book.{Book}
use Rattle.feed_types.specs.declared.types.Train.{Train}

no_items : (ts : List Train) → ¬ (0 < length ts) → ts ≡ []
no_items [] h = refl
no_items (t ∷ ts) h = absurd (h (omega arith))

pub bare : (b : Book) → (held b).sizes ≡ None → (held b).trains ≡ []
bare b e =
    no_items (vec_items b.trains) (λ h.
    let n : vec_len b.trains ≡ length (vec_items b.trains) = b.trains.ok.0 in
    let s : is_some b.sizes ≡ ltb 0 (vec_len b.trains) = b.sized in
    let t : T (ltb 0 (vec_len b.trains)) = lt→ltb 0 (vec_len b.trains) (omega arith) in
    subst T (sym s ∙ ap is_some e) t)
