-- What a book of trains makes of the costs, in exact numbers. Assumes nothing.
--
--   gap D nx nu t u x                   late × lateness + move × adjustments − aim of the train t
--   train_cost .. n t u x               weight × gap² where the train stands at stop n, else 0
--   book_cost .. n ts u x               the sum of these over the trains of the book, each once
--   Adds good value l b ts              the line l has the costs of the line b plus those of the trains ts, at every stop that it holds, the last one
--                                       included, where no adjustment is made; and lateness travels as on b
--   ShiftsAndAdds good value l b t ts   the line l, aims t and trains ts over the line b: its cost is that of b at the lateness less the
--                                       aims, plus that of the trains
use Rattle.std.specs.Prelude.{◌≡◌, ℕ, ◌<◌, cond, List, ℤ, pos, fold, ◌==◌}
use Rattle.algebra.specs.Exact.{Exact, Radicand, whole_e, zero_e, add_e, neg_e, mul_e}
use Rattle.algebra.proofs.ExactField.{exact_field}
use Rattle.control.specs.Line.{next, stage_cost, final_cost}
use Rattle.control.specs.Matrix.{sum}
use Rattle.aims.specs.Shifting.{HeldStop, less_aims}
use Rattle.lines.specs.Meaning.{Meaning, line_of}
use Rattle.lines.specs.Whole.{cell}
use Rattle.feed_types.specs.declared.types.Train.{Train}

module _ {D : ℕ} (good : Radicand D) (nx nu : ℕ) where
  abbrev pub gap : Train → (ℕ → Exact D) → (ℕ → Exact D) → Exact D
  gap t u x =
      add_e (add_e (sum (exact_field D good) nu (λ i. mul_e (whole_e D (cell t.moves i)) (u i))) (sum (exact_field D good) nx (λ k. mul_e (whole_e D (cell t.late k)) (x k))))
      (neg_e (whole_e D t.aim))

  abbrev pub train_cost : ℕ → Train → (ℕ → Exact D) → (ℕ → Exact D) → Exact D
  train_cost n t u x = cond (t.stop == n) (mul_e (whole_e D (pos t.weight)) (mul_e (gap t u x) (gap t u x))) (zero_e D)

  abbrev pub book_cost : ℕ → List Train → (ℕ → Exact D) → (ℕ → Exact D) → Exact D
  book_cost n ts u x = fold (λ s t. add_e s (train_cost n t u x)) (zero_e D) ts

pub record Adds {A : Type 0} {D : ℕ} (good : Radicand D) (value : A → Exact D) (l b : Meaning A) (ts : List Train) : Type 0 where
  pub stage : (n : ℕ) (u x : ℕ → Exact D) → n < b.end → HeldStop l n
      → stage_cost (line_of (exact_field D good) value l) n u x ≡ add_e (stage_cost (line_of (exact_field D good) value b) n u x) (book_cost good b.nx b.nu n ts u x)
  pub final : (x : ℕ → Exact D) → HeldStop l b.end
      → final_cost (line_of (exact_field D good) value l) x ≡ add_e (final_cost (line_of (exact_field D good) value b) x) (book_cost good b.nx 0 b.end ts (λ _. zero_e D) x)
  pub travel : (n : ℕ) (u x : ℕ → Exact D) (k : ℕ)
      → next (line_of (exact_field D good) value l) n u x k ≡ next (line_of (exact_field D good) value b) n u x k

pub record ShiftsAndAdds {A : Type 0} {D : ℕ} (good : Radicand D) (value : A → Exact D) (l b : Meaning A) (t : ℕ → ℕ → ℤ) (ts : List Train) : Type 0 where
  pub stage : (n : ℕ) (u x : ℕ → Exact D) → n < b.end → HeldStop l n
      → stage_cost (line_of (exact_field D good) value l) n u x ≡ add_e (stage_cost (line_of (exact_field D good) value b) n u (less_aims D t n x)) (book_cost good b.nx b.nu n ts u x)
  pub final : (x : ℕ → Exact D) → HeldStop l b.end
      → final_cost (line_of (exact_field D good) value l) x ≡ add_e (final_cost (line_of (exact_field D good) value b) (less_aims D t b.end x)) (book_cost good b.nx 0 b.end ts (λ _. zero_e D) x)
  pub travel : (n : ℕ) (u x : ℕ → Exact D) (k : ℕ)
      → next (line_of (exact_field D good) value l) n u x k ≡ next (line_of (exact_field D good) value b) n u x k
