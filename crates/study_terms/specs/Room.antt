-- Whether sheets have enough room. Assumes nothing.
--
--   LongSheets s gains trail r   r says that sheets of these lengths have enough room for a study of the shape s, or refuses the first that has not
use Rattle.std.specs.Prelude.{◌≡◌, ℕ, T, ◌⊎◌, Ok, Err, Result, nat_le}
use Rattle.study_terms.specs.declared.faults.kinds.StudyFault.{StudyFault}
use Rattle.study_terms.specs.Refusals.{bare, refusal}
use Rattle.study_terms.specs.Shapes.{Shape, gains_need, trail_need}

abbrev pub LongSheets : Shape → ℕ → ℕ → Result Unit StudyFault → Type 0
LongSheets s gains trail (Ok _) = T (nat_le (gains_need s) gains) × T (nat_le (trail_need s) trail)
LongSheets s gains trail (Err e) =
    ((¬ T (nat_le (gains_need s) gains)) × (refusal e ≡ bare 12))
    ⊎ (T (nat_le (gains_need s) gains) × ((¬ T (nat_le (trail_need s) trail)) × (refusal e ≡ bare 22)))
