-- The sums over a book's trains are at most 64 × 999³ in size. Assumes nothing.
use Rattle.std.proofs.Common.{◌≡◌, ℕ, zero, suc, ◌+◌, ◌*◌, ◌≤◌, List, [], ◌∷◌, length, ℤ, pos, ◌+ℤ◌, ◌*ℤ◌, neg_ℤ, nat_abs, Some, None, vec_items, vec_len, fold, Option, sym, refl, subst, arith}
use mathlib.Core.Logic.{∥∥₁_elim}
use native.Mathlib.Bridge.{le_prop}
use native.Mathlib.Decide.{dec_lt}
use Rattle.std.specs.List.{AllByRecursion}
use Rattle.std.proofs.ByRecursion.{All-get_or}
use Rattle.std.proofs.lemmas.List.{get_or_past}
use Rattle.std.proofs.lemmas.Int.{ints}
use Rattle.control.specs.Matrix.{join}
use Rattle.lines.specs.Whole.{cell}
use Rattle.std.proofs.lemmas.Bool.Decides.{nat_tests}
use Rattle.numbers.specs.Bounds.{abs_add}
use Rattle.feeds.specs.Held.{held}
use Rattle.feeds.specs.declared.book.Book.{Book}
use Rattle.feed_types.specs.Books.{Keeps}
use Rattle.feed_types.specs.Limits.{Within, GoodTrain}
use Rattle.feed_types.specs.declared.types.Sizes.{Sizes}
use Rattle.feed_types.specs.declared.types.Train.{Train}
use Rattle.trains.specs.Weights.{factor, share, at_stop, weighed, SumsFit}
use Rattle.trains.proofs.Bare.{bare}
use Rattle.trains.proofs.Factors.{abs_product}

join_all : {A : Type 0} (P : A → Type 0) (m : ℕ) (f g : ℕ → A) → ((k : ℕ) → P (f k)) → ((k : ℕ) → P (g k)) → (k : ℕ) → P (join m f g k)
join_all P zero f g p q k = q k
join_all P (suc m) f g p q zero = p 0
join_all P (suc m) f g p q (suc k) = join_all P m (λ j. f (suc j)) g (λ j. p (suc j)) q k

cell_bound : (zs : List ℤ) → AllByRecursion (Within 99) zs → (i : ℕ) → nat_abs (cell zs i) ≤ 999
cell_bound zs all i =
    elim (dec_lt i (length zs)) [
      | yes l ↦ (let h = All-get_or (Within 99) zs i (pos 0) l all in omega arith)
      | no n ↦ subst (λ (z : ℤ). nat_abs z ≤ 999) (sym (get_or_past zs i (pos 0) (omega arith))) (omega arith)
    ]

opposite_bound : (z : ℤ) → nat_abs z ≤ 999 → nat_abs (neg_ℤ z) ≤ 999
opposite_bound z h = omega (arith, ints)

module _ (s : Sizes) (n first nx a c : ℕ) where
  factor_bound : (t : Train) → GoodTrain s t → (k : ℕ) → nat_abs (factor first nx t k) ≤ 999
  factor_bound t g =
      join_all (λ z. nat_abs z ≤ 999) first (cell t.moves) (join nx (cell t.late) (λ _. neg_ℤ t.aim)) (cell_bound t.moves g.moves.small)
      (join_all (λ z. nat_abs z ≤ 999) nx (cell t.late) (λ _. neg_ℤ t.aim) (cell_bound t.late g.late.small) (λ _. opposite_bound t.aim g.aim))

  share_bound : (t : Train) → GoodTrain s t → nat_abs (at_stop n t (share first nx t a c)) ≤ 999 * 999 * 999
  share_bound t g =
      let p = abs_product (pos t.weight *ℤ factor first nx t a) (factor first nx t c) (999 * 999) 999 (abs_product (pos t.weight) (factor first nx t a) 999 999 g.weight.1 (factor_bound t g a)) (factor_bound t g c) in
      grind (arith, nat_tests)

  fold_bound : (ts : List Train) → AllByRecursion (GoodTrain s) ts → (z : ℤ) → nat_abs (fold (λ s t. s +ℤ at_stop n t (share first nx t a c)) z ts) ≤ nat_abs z + length ts * (999 * 999 * 999)
  fold_bound [] all z = omega arith
  fold_bound (t ∷ ts) all z =
      let h = fold_bound ts all.1 (z +ℤ at_stop n t (share first nx t a c)) in
      let k = abs_add z (at_stop n t (share first nx t a c)) in
      let l = share_bound t all.0 in
      omega arith

pub sums_fit : (b : Book) → SumsFit (held b).trains
sums_fit b n first nx a c = ∥∥₁_elim b.kept le_prop (go b.sizes refl)
  where
    go : (o : Option Sizes) → b.sizes ≡ o → Keeps o (vec_items b.trains) → nat_abs (weighed n first nx (vec_items b.trains) a c) ≤ 64 * (999 * 999 * 999)
    go None e k = subst (λ (ts : List Train). nat_abs (weighed n first nx ts a c) ≤ 64 * (999 * 999 * 999)) (sym (bare b e)) (omega arith)
    go (Some s) e k =
        let h = fold_bound s n first nx a c (vec_items b.trains) k.1 (pos 0) in
        let f : vec_len b.trains ≤ 64 = b.few in
        let l : vec_len b.trains ≡ length (vec_items b.trains) = b.trains.ok.0 in
        omega arith
