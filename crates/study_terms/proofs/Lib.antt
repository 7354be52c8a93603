-- Lemmas that the code and the theory of studies share.
--
--   KindRows      what the rows of a kind mean; the row of 0
--   SameShapes    shapes that the test calls the same are the same
--   TrailParts    what is read in the parts of a trail
--   Working       how a formula is worked, one operation after the other
--   FormNumbers   the exact numbers of sums, forms, the next lateness, paid and rest
--   GapNumbers    the exact numbers of gaps, plan and excess
pub mod KindRows
pub mod SameShapes
pub mod TrailParts
pub mod Working
pub mod FormNumbers
pub mod GapNumbers
