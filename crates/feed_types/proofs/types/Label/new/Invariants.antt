use Rattle.std.proofs.Common.{◌≡◌, ◌-◌, true, ◌++◌, take, replicate}
use Rattle.std.specs.List.{AllByRecursion}
use Rattle.feed_types.specs.Limits.{letter}
use Rattle.feed_types.proofs.types.Label.new.Given as goal

abbrev pub invariant-loop-i : goal.invariant-loop-i
invariant-loop-i l = (l.bytes ≡ take l.i l.text ++ replicate (8 - l.i) 0) × AllByRecursion (λ b. letter b ≡ true) (take l.i l.text)
