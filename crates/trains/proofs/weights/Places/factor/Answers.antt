use Rattle.std.proofs.Common.{rules}
use Rattle.trains.proofs.Factors.{factor_move, factor_late, factor_aim}
use Rattle.trains.proofs.weights.Places.factor.Goals as goal

pub returns-then-place-self-clause-value : goal.returns-then-place-self-clause-value
returns-then-place-self-clause-value c = rw (factor_move c.args.self.first c.args.self.states c.args.t.now c.args.place c.if-place-self.true) (search rules)

pub returns-then-place-self-2-clause-value : goal.returns-then-place-self-2-clause-value
returns-then-place-self-2-clause-value c = rw (factor_late c.args.self.first c.args.self.states c.args.t.now c.args.place c.if-place-self.false c.if-place-self-2.true) (search rules)

pub returns-clause-value : goal.returns-clause-value
returns-clause-value c = rw (factor_aim c.args.self.first c.args.self.states c.args.t.now c.args.place c.if-place-self.false c.if-place-self-2.false) (search rules)
