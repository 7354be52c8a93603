-- Lines: what a line is, what holds of every line, and the lines that are supplied. Start here.
--
--   Meaning     the sizes of a line, its level, and what stands at each place; the line in exact numbers
--   Kinds       the exact numbers that a kind holds, and the entry that an exact number makes
--   Laws        what every line keeps: places outside, F's last row, the mirror of G, the levels of marks
--   Whole       a line of whole numbers at the bottom
--   Tables      the order of a table's numbers, and the line that they give
--   Steadies    the order of a steady line's numbers, and the line that they give with a final weight
--   Opening     when numbers are opened as a line, and when they are refused
--   Sentences   what refusals print
--   Fractions   the fraction with given lowest parts
--   Roots       the number with a root that has given lowest parts
pub mod Meaning
pub mod Kinds
pub mod Laws
pub mod Whole
pub mod Tables
pub mod Steadies
pub mod Opening
pub mod Sentences
pub mod Fractions
pub mod Roots
-- From here on lemmas: the laws of the implementations follow from them, and a term of src/ that shows a law cannot cite proofs/. They are proved;
-- a reader need not believe them.
pub mod FractionsLemmas
pub mod RootsLemmas
pub mod Steadied
pub mod WholeLines
pub mod Finding
pub mod Tabled
