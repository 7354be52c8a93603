-- Runs of a study, and the law that holds of every run. Start here.
--
--   Runs   stages, calls, replies, the ledger, steps and runs
--   Law    what holds of every run
pub mod Runs
pub mod Law
