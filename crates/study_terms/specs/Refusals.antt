-- Every refusal of the study, with its number and its values. Assumes nothing.
--
--   Refusal                   a number, and values in their order
--   bare n                    the refusal n without values
--   below_values b            what lies below: nothing where a number is too large, or level, stop, row and column of a line's mark
--   pivot_refusal n i         14: the pivot of input i at stop n is not positive
--   large_refusal n t a c b   15: the number of step t at stop n, row a, column c is too large, because of b
--   refusal e                 the refusal that the fault e tells
use Rattle.std.specs.Prelude.{ℕ, List, [], ◌∷◌}
use Rattle.study_terms.specs.declared.faults.kinds.Below.{Below}
use Rattle.study_terms.specs.declared.faults.kinds.Below.TheVariants as below
use Rattle.study_terms.specs.declared.faults.kinds.StudyFault.{StudyFault}
use Rattle.study_terms.specs.declared.faults.kinds.StudyFault.TheVariants.{SizesBeyond, GainsShort, ScratchShort, PivotNotPositive, TooLarge, OtherSizes, StartLength, TrailShort, AtTheEnd, PlanTooLarge, SlipLength, AdjustmentsLength, NextTooLarge, AnswerTooLarge, BeforeTheEnd}

pub record Refusal : Type 0 where
  pub number : ℕ
  pub values : List ℕ

abbrev pub bare : ℕ → Refusal
bare n = record { number = n; values = [] }

abbrev pub below_values : Below → List ℕ
below_values below.TooLarge = []
below_values (below.Marked m) = m.level ∷ m.stop ∷ m.row ∷ m.column ∷ []

abbrev pub pivot_refusal : ℕ → ℕ → Refusal
pivot_refusal n i = record { number = 14; values = n ∷ i ∷ [] }

abbrev pub large_refusal : ℕ → ℕ → ℕ → ℕ → Below → Refusal
large_refusal n t a c b = record { number = 15; values = n ∷ t ∷ a ∷ c ∷ below_values b }

abbrev pub refusal : StudyFault → Refusal
refusal SizesBeyond = bare 11
refusal GainsShort = bare 12
refusal ScratchShort = bare 13
refusal (PivotNotPositive n i) = pivot_refusal n i
refusal (TooLarge n t a c b) = large_refusal n t a c b
refusal OtherSizes = bare 16
refusal StartLength = bare 21
refusal TrailShort = bare 22
refusal AtTheEnd = bare 31
refusal PlanTooLarge = bare 32
refusal SlipLength = bare 33
refusal AdjustmentsLength = bare 41
refusal NextTooLarge = bare 42
refusal AnswerTooLarge = bare 51
refusal BeforeTheEnd = bare 61
