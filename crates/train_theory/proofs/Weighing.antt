-- Each train that occurs in the granted feeds weighs once. Assumes nothing.
use Rattle.std.proofs.Common.{◌≡◌, ℕ, List, ℤ, Option, sym, ap, ◌∙◌, subst}
use Rattle.algebra.specs.Exact.{Exact, Radicand, zero_e, add_e}
use Rattle.algebra.specs.Field.{OrderedField}
use Rattle.algebra.proofs.ExactField.{exact_field}
use Rattle.lines.specs.Kinds.{Finds}
use Rattle.feed_types.specs.declared.types.Train.{Train}
use Rattle.feed_types.specs.History.{Told}
use Rattle.feed_types.specs.Reading.{Register}
use Rattle.feed_types.specs.Text.{Feed}
use Rattle.trains.specs.Adding.{train_cost, book_cost}
use Rattle.trains.specs.Trained.{trains_line}
use Rattle.trains.proofs.Added.{trains_add}
use Rattle.train_theory.specs.Feeding.{EachOnce}
use Rattle.train_theory.specs.Layers.{trains, plus_trains}
use Rattle.train_theory.specs.Weighing.{CostsMade, TrainsWeighOnce}
use Rattle.train_theory.proofs.Folds.{same_fold}
use Rattle.train_theory.proofs.Listing.{told, bare, distinct_apart, book_each_once, into_book, from_book}
use Rattle.train_theory.proofs.Piling.{added_made, laid_lawful, piled_on, layers_made}

module _ {D : ℕ} (good : Radicand D) (nx nu n : ℕ) (u x : ℕ → Exact D) where
  abbrev K : OrderedField
  K = exact_field D good

  -- the order of the trains does not matter
  plus_commutes : (s : Exact D) (t v : Train)
      → add_e (add_e s (train_cost good nx nu n t u x)) (train_cost good nx nu n v u x) ≡ add_e (add_e s (train_cost good nx nu n v u x)) (train_cost good nx nu n t u x)
  plus_commutes s t v =
      let p = train_cost good nx nu n t u x in
      let q = train_cost good nx nu n v u x in
      K.add_assoc s p q ∙ ap (add_e s) (K.add_comm p q) ∙ sym (K.add_assoc s q p)

  same_sum : (fs : List Feed) (r : Register) → Told fs r → (ts : List Train) → EachOnce fs ts → book_cost good nx nu n r.trains u x ≡ book_cost good nx nu n ts u x
  same_sum fs r book ts each =
      same_fold (λ s t. add_e s (train_cost good nx nu n t u x)) plus_commutes r.trains ts (distinct_apart r.trains book.once) (distinct_apart ts each.once)
      (from_book fs r book ts each) (into_book fs r book ts each) (zero_e D)

pub trains_weigh_once_lem : {A : Type 0} {D : ℕ} (good : Radicand D) (value : A → Exact D) (find : ℤ → ℤ → ℕ → Option A) → Finds value find → TrainsWeighOnce good value find
trains_weigh_once_lem {A} {D} good value find finds = record {
  layers = layers_made good value find finds;
  listed = λ texts fs r read. (r.trains, book_each_once fs r (told read));
  weigh = λ texts fs r ts b ls read each lawful fits.
      let here = trains_line value find r b in
      let adds = added_made good value here b r.trains (trains_add good value find finds r b fits (bare read)) in
      let once : CostsMade good value here b (plus_trains good b ts) =
      subst (CostsMade good value here b) (λ j i n c u x. add_e (c u x) (same_sum good b.nx i n u x fs r (told read) ts each j)) adds in
      piled_on good value find (trains r) ls b (plus_trains good b ts) lawful (layers_made good value find finds ls here (laid_lawful value find (trains r) b lawful)) once;
}
