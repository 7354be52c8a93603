-- The proof of the law over runs, lowest first.
--
--   Outcomes    every call's checks pass or have one refusal
--   Pivots      what a weigh says of the pivots of the line
--   Following   a trail that follows an account
--   Keeping     what every step keeps
--   Laws        the law
pub mod Outcomes
pub mod Pivots
pub mod Following
pub mod Keeping
pub mod Laws
