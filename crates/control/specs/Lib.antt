-- The best plan along a line, over any ordered field: what the words mean, and what is proved. Start here.
--
-- A line (Line) has stops 0 to end, nu inputs (adjustments) and nx states (lateness) at each. Every statement is about a lawful line of any
-- sizes over any ordered field K, from every stop n, lateness x and list of adjustments us. Lists and matrices are functions of indices.
--
--   Matrix        sums, quadratic forms, products; lists joined and changed in one place
--   Elimination   a matrix with its first variables eliminated: pivots, factors, gaps
--   Line          lateness from stop to stop, stage cost and final cost, the cost of a list
--   Recursion     P, T, M from the last stop back; pivots, factors, value, gap, excess
--   Plan          the adjustments with given gaps; the plan has none
--   Detour        another list, where a pivot is not positive
--   Optimality    more, the same list, the cheapest list, the least cost
--   Residual      multipliers, slopes and residuals
--   Theorems      the statements
--   Ones          the worked example: next lateness u + x, cost u² + x² at each stop and x² at the last
--
--   theorem (in Theorems)   what it says                                              on the contract of      proved in proofs/
--   OneStop                 stage cost + next value = value + Σ pivot · gap²           one_stop                Stops
--   AlongAList              cost of a list = value at its start + excess               along_a_list            Accounts
--   Account, LeastAccount   paid so far + value here = value at the start + excess;    account                 Accounts, Plans
--                           with positive pivots, the same of the least costs
--   BestPlan                positive pivots: least cost = value, reached by the plan,  best_plan               Plans
--                           and every other list costs more
--   FailingPivot            a pivot not positive: no cheapest list; which case holds   failing_pivot           Detours, Decisions
--   ZeroResiduals           residuals vanish for the plan with its multipliers alone   zero_residuals          Residuals
--   UpperHalf               P, M symmetric; the upper half suffices                    upper_half              UpperHalf
--   Theory                  all of these, for every line in exact numbers              in_exact_numbers        Proved
--   OnesLine                the numbers of the worked example                          ones_line               Example
pub mod Matrix
pub mod Elimination
pub mod Line
pub mod Recursion
pub mod Plan
pub mod Detour
pub mod Optimality
pub mod Residual
pub mod Theorems
pub mod Ones
