-- How commands make a run.
--
--   Verbs          which commands a stage allows
--   Leading        how each call goes on a run
--   Performances   a list of commands that is performed makes a run
mod Verbs
mod Leading
mod Performances
