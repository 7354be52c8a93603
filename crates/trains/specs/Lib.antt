-- Trains: a layer that adds to a stop's cost what each train of a book weighs there. Start here.
--
--   Weights   the factors of a train, and the whole-number sums over a book
--   Trained   the line with a book of trains over the line below; when a book fits a line
--   Adding    what the layer makes of the costs, in exact numbers
pub mod Weights
pub mod Trained
pub mod Adding
-- From here on lemmas: the laws of the layer follow from them, and a term of src/ that shows a law cannot cite proofs/. They are proved; a reader need
-- not believe them.
pub mod Layered
