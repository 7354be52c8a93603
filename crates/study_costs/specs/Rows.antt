-- What is written into a sheet. N is a kind of number with the values A. Assumes nothing.
--
--   Filled N numbers rows   every row is that of the number at its place in a list
--   WorkedRows N f n rows   the formulas f 0, .., f (n − 1) are sound, and the first n rows are those of their numbers
use Rattle.std.specs.Prelude.{ℕ, ◌<◌, List, length, slice_index_or}
use Rattle.numbers.specs.declared.Number.{Ghosts}
use Rattle.numbers.specs.declared.Parts.{Parts}
use Rattle.study_terms.specs.Formulas.{NumberOf, Formula, exact, Sound}
use Rattle.study_terms.specs.Sheets.{blank, at, Written}

abbrev pub Filled : {A : Type 0} (N : Ghosts A) (numbers rows : List Parts) → Type 0
Filled N numbers rows = (j : ℕ) → j < length rows → Written N (at N numbers j) (slice_index_or rows j blank)

abbrev pub WorkedRows : {A : Type 0} (N : Ghosts A) → (ℕ → Formula A (NumberOf N)) → ℕ → List Parts → Type 0
WorkedRows N f n rows = (j : ℕ) → j < n → Sound N (f j) × Written N (exact N (f j)) (slice_index_or rows j blank)
