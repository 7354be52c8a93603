-- Aims: a layer by which the cost is taken at the lateness less an aim for each stop and state. Start here.
--
--   Entries    numbers worked one after the other, each a number of the kind or the end of the work with a mark
--   Aimed      the aims, the line with aims over the line below, and setting an aim
--   Shifting   what the layer makes of the costs, in exact numbers
pub mod Entries
pub mod Aimed
pub mod Shifting
-- From here on lemmas: the laws of the layer follow from them, and a term of src/ that shows a law cannot cite proofs/. They are proved; a reader need
-- not believe them.
pub mod Layered
