-- Lemmas that the proofs of several functions share.
--
--   Planning   the plan, worked from the last input to the first
--   Rows       what the row of an input holds, and the sum of the later ones read there
pub mod Planning
pub mod Rows
