-- The factors of a train, and the whole-number sums over a book. Assumes nothing.
--
--   factor first nx t a         the factor of place a of the list (adjustments, lateness, 1), whose lateness begins at `first`, in the gap of
--                               the train t: its move, its late, and minus its aim
--   share first nx t a c        what t adds to the entry a, c of the cost: weight × factor of a × factor of c
--   weighed n first nx ts a c   the sum of these over the trains of ts that stand at stop n
--   SumsFit ts                  every such sum is at most 64 × 999³ in size, so that it fits a word with room to spare
use Rattle.std.specs.Prelude.{ℕ, ◌*◌, ◌≤◌, cond, List, ℤ, pos, ◌+ℤ◌, ◌*ℤ◌, neg_ℤ, fold, ◌==◌, unsigned_abs}
use Rattle.control.specs.Matrix.{join}
use Rattle.lines.specs.Whole.{cell}
use Rattle.feed_types.specs.declared.types.Train.{Train}

abbrev pub factor : ℕ → ℕ → Train → ℕ → ℤ
factor first nx t = join first (cell t.moves) (join nx (cell t.late) (λ _. neg_ℤ t.aim))

abbrev pub share : ℕ → ℕ → Train → ℕ → ℕ → ℤ
share first nx t a c = (pos t.weight *ℤ factor first nx t a) *ℤ factor first nx t c

abbrev pub at_stop : ℕ → Train → ℤ → ℤ
at_stop n t z = cond (t.stop == n) z (pos 0)

abbrev pub weighed : ℕ → ℕ → ℕ → List Train → ℕ → ℕ → ℤ
weighed n first nx ts a c = fold (λ s t. s +ℤ at_stop n t (share first nx t a c)) (pos 0) ts

abbrev pub SumsFit : List Train → Type 0
SumsFit ts = (n first nx a c : ℕ) → unsigned_abs (weighed n first nx ts a c) ≤ 64 * (999 * 999 * 999)
