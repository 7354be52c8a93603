-- A line of another crate, which tells any sizes. Start here.
--
--   bare_line end nx nu   the line of these sizes whose entries are 0 but for the 1 of F's last row
pub mod Bare
