-- The shape that the sizes of a study tell. Assumes nothing.
--
--   shape s   the last stop, and the numbers of states and inputs
use Rattle.study_terms.specs.declared.sizes.Sizes.{Sizes}
use Rattle.study_terms.specs.Shapes.{Shape}

abbrev pub shape : Sizes → Shape
shape s = record { end = s.stops; nx = s.states; nu = s.inputs }
