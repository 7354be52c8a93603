-- Lists of commands, performed as a run. Start here.
--
--   Telling      the call that a command makes, and what an answer tells of its reply
--   Going        how one command leads from one state to the next
--   Performing   the run that a list of commands makes
pub mod Telling
pub mod Performing
pub mod Going
