-- The proofs, lowest first.
--
--   Laws          of an ordered field                     Stops        one stop as one form; OneStop
--   Sums          finite sums, search below a bound       Accounts     Account, AlongAList; a cost in parts
--   Lists         joined lists, one place changed         Plans        lists by their gaps; BestPlan
--   Order         sums of squares, comparisons            Detours      the other list of a failing pivot
--   Forms         under a map, as a block, moved          Decisions    FailingPivot
--   Elimination   forms, rows, upper half                 Residuals    ZeroResiduals
--   Gaps          gaps and variables                      UpperHalf    UpperHalf
--                                                         Proved       all theorems together; Example: the ones line
pub mod Laws
pub mod Sums
pub mod Lists
pub mod Order
pub mod Forms
pub mod Elimination
pub mod Gaps
pub mod Stops
pub mod Accounts
pub mod Plans
pub mod Detours
pub mod Decisions
pub mod Residuals
pub mod UpperHalf
pub mod Proved
pub mod Example
