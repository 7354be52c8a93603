-- What the calls on the trail and its costs answer.
--
--   Answered   the answers of the public calls
--   Rows       what is written into a sheet
--   Worked     how forms are worked
pub mod Answered
pub mod Rows
pub mod Worked
