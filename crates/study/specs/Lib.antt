-- The states of a study, and what its ten calls promise. Start here.
--
--   Stages     the stage that a state is, for the runs of a study
--   Promises   what each call promises
pub mod Stages
pub mod Promises
