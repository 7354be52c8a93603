-- What layers make of the costs of a line. Assumes nothing.
use Rattle.std.proofs.Common.{◌≡◌, ℕ, ◌<◌, Bool, cond, List, [], ◌∷◌, ℤ, Some, None, Option, sym, refl, ap, ◌∙◌, subst}
use Rattle.algebra.specs.Exact.{Exact, Radicand}
use Rattle.control.specs.Line.{stage_cost, final_cost}
use Rattle.lines.specs.Kinds.{Finds}
use Rattle.lines.specs.Laws.{Lawful}
use Rattle.lines.specs.Meaning.{Meaning}
use Rattle.aims.specs.Aimed.{aim}
use Rattle.aims.specs.Shifting.{HeldStop}
use Rattle.aims.proofs.Aiming.{aim_states}
use Rattle.aims.proofs.Holding.{held_below as aims_held_below}
use Rattle.aims.specs.Layered.{aims_lawful}
use Rattle.aims.proofs.Shifted.{aims_shift}
use Rattle.feed_types.specs.declared.types.Sizes.{Sizes}
use Rattle.feed_types.specs.declared.types.Train.{Train}
use Rattle.feed_types.specs.Reading.{Register}
use Rattle.trains.specs.Adding.{Adds}
use Rattle.trains.specs.Trained.{weighs, counting}
use Rattle.trains.proofs.Added.{counting_add}
use Rattle.trains.proofs.Both.{held_below as trains_held_below}
use Rattle.trains.specs.Layered.{trains_lawful}
use Rattle.train_theory.specs.Layers.{Layer, aims, trains, laid, piled, Cost, plus_trains, layer_cost, piled_cost}
use Rattle.train_theory.specs.Weighing.{exact_line, CostsMade}

module _ {A : Type 0} {D : ℕ} (good : Radicand D) (value : A → Exact D) where
  -- costs made in two steps, over a line of the same sizes
  pub made_twice : (l m b : Meaning A) (f g : ℕ → ℕ → Cost D → Cost D) → m.end ≡ b.end → m.nu ≡ b.nu → ((n : ℕ) → HeldStop l n → HeldStop m n)
      → CostsMade good value l m f → CostsMade good value m b g → CostsMade good value l b (λ i n c. f i n (g i n c))
  made_twice l m b f g end nu held above below = record {
    stage = λ n u x h all.
        above.stage n u x (subst (λ (k : ℕ). n < k) (sym end) h) all
        ∙ ap (λ (i : ℕ). f i n (stage_cost (exact_line good value m) n) u x) nu
        ∙ ap (λ (c : Cost D). f b.nu n c u x) (λ j v y. below.stage n v y h (held n all) j);
    final = λ u x all.
        above.final u x (subst (HeldStop l) (sym end) all)
        ∙ ap (λ (n : ℕ). f 0 n (λ _. final_cost (exact_line good value m)) u x) end
        ∙ ap (λ (c : Cost D). f 0 b.end c u x) (λ j v y. below.final v y (held b.end all) j);
    travel = λ n u x k. above.travel n u x k ∙ below.travel n u x k;
  }

  pub added_made : (l b : Meaning A) (ts : List Train) → Adds good value l b ts → CostsMade good value l b (plus_trains good b ts)
  added_made l b ts a = record { stage = a.stage; final = λ u x all. a.final x all; travel = a.travel }

module _ {A : Type 0} {D : ℕ} (value : A → Exact D) (find : ℤ → ℤ → ℕ → Option A) where
  -- a layer keeps the sizes of the line
  laid_end : (l : Layer) (b : Meaning A) → (laid value find l b).end ≡ b.end
  laid_end (aims ts) b = refl
  laid_end (trains r) b = refl

  laid_nu : (l : Layer) (b : Meaning A) → (laid value find l b).nu ≡ b.nu
  laid_nu (aims ts) b = refl
  laid_nu (trains r) b = refl

  weighs_sized : (o : Option Sizes) (l : Layer) (b : Meaning A) → weighs o (laid value find l b) ≡ weighs o b
  weighs_sized None l b = refl
  weighs_sized (Some s) (aims ts) b = refl
  weighs_sized (Some s) (trains r) b = refl

  counting_sized : (r : Register) (l : Layer) (b : Meaning A) → counting r (laid value find l b) ≡ counting r b
  counting_sized r l b = ap (λ (v : Bool). cond v r.trains []) (weighs_sized r.sizes l b)

  -- and its laws
  pub laid_lawful : (l : Layer) (b : Meaning A) → Lawful value b → Lawful value (laid value find l b)
  laid_lawful (aims ts) b lawful = aims_lawful value find (aim ts) b lawful
  laid_lawful (trains r) b lawful = trains_lawful value find r b lawful

  -- what the top holds, every line below holds
  laid_held : (l : Layer) (b : Meaning A) → Lawful value b → (n : ℕ) → HeldStop (laid value find l b) n → HeldStop b n
  laid_held (aims ts) b lawful n all = aims_held_below value find (aim ts) b lawful n all
  laid_held (trains r) b lawful n all = trains_held_below value find r b n all

  piled_held : (ls : List Layer) (b : Meaning A) → Lawful value b → (n : ℕ) → HeldStop (piled value find ls b) n → HeldStop b n
  piled_held [] b lawful n all = all
  piled_held (l ∷ ls) b lawful n all = laid_held l b lawful n (piled_held ls (laid value find l b) (laid_lawful l b lawful) n all)

module _ {A : Type 0} {D : ℕ} (good : Radicand D) (value : A → Exact D) (find : ℤ → ℤ → ℕ → Option A) where
  -- what layers make of a cost depends on the sizes of the line alone
  layer_sized : (k l : Layer) (b : Meaning A) (i n : ℕ) (c : Cost D) → layer_cost good (laid value find l b) k i n c ≡ layer_cost good b k i n c
  layer_sized (aims ts) l b i n c = refl
  layer_sized (trains r) (aims ts) b i n c = ap (λ (us : List Train). plus_trains good b us i n c) (counting_sized value find r (aims ts) b)
  layer_sized (trains r) (trains q) b i n c = ap (λ (us : List Train). plus_trains good b us i n c) (counting_sized value find r (trains q) b)

  piled_sized : (ks : List Layer) (l : Layer) (b : Meaning A) (i n : ℕ) (c : Cost D) → piled_cost good (laid value find l b) ks i n c ≡ piled_cost good b ks i n c
  piled_sized [] l b i n c = refl
  piled_sized (k ∷ ks) l b i n c =
      piled_sized ks l b i n (layer_cost good (laid value find l b) k i n c)
      ∙ ap (piled_cost good b ks i n) (layer_sized k l b i n c)

  -- layers over a line with a layer, whose own costs are known
  pub piled_on : (l : Layer) (ls : List Layer) (b : Meaning A) (g : ℕ → ℕ → Cost D → Cost D) → Lawful value b
      → CostsMade good value (piled value find ls (laid value find l b)) (laid value find l b) (piled_cost good (laid value find l b) ls)
      → CostsMade good value (laid value find l b) b g
      → CostsMade good value (piled value find ls (laid value find l b)) b (λ i n c. piled_cost good b ls i n (g i n c))
  piled_on l ls b g lawful above below =
      let m = laid value find l b in
      let top = piled value find ls m in
      made_twice good value top m b (piled_cost good b ls) g (laid_end value find l b) (laid_nu value find l b) (piled_held value find ls m (laid_lawful value find l b lawful))
      (subst (CostsMade good value top m) (λ j i n c. piled_sized ls l b i n c j) above) below

  module _ (finds : Finds value find) where
    layer_made : (l : Layer) (b : Meaning A) → Lawful value b → CostsMade good value (laid value find l b) b (layer_cost good b l)
    layer_made (aims ts) b lawful =
        let s = aims_shift good value find finds (aim ts) b (λ n k h. aim_states ts n k h) lawful in
        record { stage = s.stage; final = λ u x all. s.final x all; travel = s.travel }
    layer_made (trains r) b lawful = added_made good value (laid value find (trains r) b) b (counting r b) (counting_add good value find finds r b)

    pub layers_made : (ls : List Layer) (b : Meaning A) → Lawful value b → CostsMade good value (piled value find ls b) b (piled_cost good b ls)
    layers_made [] b lawful = record { stage = λ n u x h all. refl; final = λ u x all. refl; travel = λ n u x k. refl }
    layers_made (l ∷ ls) b lawful =
        piled_on l ls b (layer_cost good b l) lawful (layers_made ls (laid value find l b) (laid_lawful value find l b lawful)) (layer_made l b lawful)
