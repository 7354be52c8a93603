-- What the calls over gaps answer, and what their steps answer. Start with Answered.
--
--   Answered   what proposing answers
--   Steps      what each step of them answers
pub mod Answered
pub mod Steps
