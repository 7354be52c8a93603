-- The trains that occur in the granted feeds weigh on a line, each once. Assumes nothing.
--
--   exact_line good value m           the line m in exact numbers
--   CostsMade good value l b make     at every stop that the line l holds its cost is `make i n c`, where c is the cost of the line b at that stop n,
--                                     and i is how many adjustments are made there: all before the last stop, none at it; and lateness
--                                     travels as on b
--   TrainsWeighOnce good value find   of any line b that is lawful, and of any layers:
--       layers     layers over b make of its cost what each of them does in turn
--       listed     byte strings read in turn into a new book have a list of the trains that occur in the granted feeds, each once
--       weigh      where the book then fits b, b with the book over it has the cost of b plus that of the trains of such a list, whichever
--                  list it is; and with layers above the book the cost is what they make of this one
use Rattle.std.specs.Prelude.{◌≡◌, ℕ, ◌<◌, List, ℤ, Option}
use Rattle.algebra.specs.Exact.{Exact, Radicand}
use Rattle.algebra.proofs.ExactField.{exact_field}
use Rattle.control.specs.Line.{Line as ExactLine, next, stage_cost, final_cost}
use Rattle.lines.specs.Laws.{Lawful}
use Rattle.lines.specs.Meaning.{Meaning, line_of}
use Rattle.aims.specs.Shifting.{HeldStop}
use Rattle.feed_types.specs.declared.types.Train.{Train}
use Rattle.feed_types.specs.Reading.{Register}
use Rattle.feed_types.specs.Text.{Feed}
use Rattle.trains.specs.Trained.{Fits, trains_line}
use Rattle.train_theory.specs.Feeding.{ReadInTurn, EachOnce}
use Rattle.train_theory.specs.Layers.{Layer, piled, Cost, plus_trains, piled_cost}

module _ {A : Type 0} {D : ℕ} (good : Radicand D) (value : A → Exact D) where
  abbrev pub exact_line : Meaning A → ExactLine (exact_field D good)
  exact_line m = line_of (exact_field D good) value m

  pub record CostsMade (l b : Meaning A) (make : ℕ → ℕ → Cost D → Cost D) : Type 0 where
    pub stage : (n : ℕ) (u x : ℕ → Exact D) → n < b.end → HeldStop l n → stage_cost (exact_line l) n u x ≡ make b.nu n (stage_cost (exact_line b) n) u x
    pub final : (u x : ℕ → Exact D) → HeldStop l b.end → final_cost (exact_line l) x ≡ make 0 b.end (λ _. final_cost (exact_line b)) u x
    pub travel : (n : ℕ) (u x : ℕ → Exact D) (k : ℕ) → next (exact_line l) n u x k ≡ next (exact_line b) n u x k

pub record TrainsWeighOnce {A : Type 0} {D : ℕ} (good : Radicand D) (value : A → Exact D) (find : ℤ → ℤ → ℕ → Option A) : Type 0 where
  pub layers : (ls : List Layer) (b : Meaning A) → Lawful value b → CostsMade good value (piled value find ls b) b (piled_cost good b ls)
  pub listed : (texts : List (List ℕ)) (fs : List Feed) (r : Register) → ReadInTurn texts fs r → (ts : List Train) × EachOnce fs ts
  pub weigh : (texts : List (List ℕ)) (fs : List Feed) (r : Register) (ts : List Train) (b : Meaning A) (ls : List Layer)
      → ReadInTurn texts fs r → EachOnce fs ts → Lawful value b → Fits r.sizes b
      → CostsMade good value (piled value find ls (trains_line value find r b)) b (λ i n c. piled_cost good b ls i n (plus_trains good b ts i n c))
