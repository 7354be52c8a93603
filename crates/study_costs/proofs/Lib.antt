-- Lemmas that the proofs of this crate share.
--
--   Joins          a joined list past its first part
--   SheetRows      one more row written into a sheet
--   TrailParts     where the parts of a trail end
--   TrailEntries   what begin and confirm leave in the trail
--   Tested         tests of the code are the tests of the checks
pub mod Joins
pub mod SheetRows
pub mod TrailParts
pub mod TrailEntries
pub mod Tested
