use Rattle.std.proofs.Common.{◌≡◌, ◌*◌, ◌≤◌, take, nat_abs}
use Rattle.trains.specs.Weights.{weighed}
use Rattle.trains.proofs.weights.Places.weigh.Given as goal

abbrev pub invariant-loop-t : goal.invariant-loop-t
invariant-loop-t l = record {
  so_far : l.sum ≡ weighed l.self.stop l.self.first l.self.states (take l.t-index l.trains) l.row l.column;
  bound : nat_abs l.sum ≤ l.t-index * (65535 * 32768 * 32768);
}
