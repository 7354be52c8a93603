-- What a study is, checks, answers and leaves. Start here.
--
--   Shapes       sizes, limits, and the room that sheets need
--   Sized        the shape of the sizes that the code holds
--   Refusals     every refusal with its number and values
--   Room         whether sheets have enough room
--   Formulas     numbers to be worked, in order; what is held, and the first fault
--   Operations   what single operations are worked to
--   Checks       the checks of a call, in order; what fails first
--   Sheets       places of numbers in sheets; what a sheet means; the gains of a line
--   Weighing     weigh: its steps, its checks, and what it leaves
--   Calls        begin, propose, confirm, paid, rest, excess, close: their checks, answers, and what they leave
pub mod Shapes
pub mod Sized
pub mod Refusals
pub mod Room
pub mod Formulas
pub mod Operations
pub mod Checks
pub mod Sheets
pub mod Weighing
pub mod Calls
