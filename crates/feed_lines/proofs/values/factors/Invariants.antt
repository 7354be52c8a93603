use Rattle.std.proofs.Common.{length}
use Rattle.feed_theory.proofs.Words.{Filled}
use Rattle.feed_lines.proofs.values.factors.Given as goal

abbrev pub invariant-loop-k : goal.invariant-loop-k
invariant-loop-k l = Filled l.text (length l.yielded) l.out
