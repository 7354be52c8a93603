use Rattle.std.proofs.Common.{◌≡◌, sym, subst, arith, rules}
use Rattle.std.specs.Option.{option_map}
use Rattle.std.proofs.lemmas.Result.{err_from_is_err_and}
use Rattle.feed_types.specs.declared.keys.Place.{Place}
use Rattle.feed_types.specs.Reading.{size_at}
use Rattle.feed_theory.proofs.Headers.{HeaderTo, ones, no_line_yet, whole_header}
use Rattle.feed_lines.proofs.Cursor.{size_more, size_refused}
use Rattle.feed_lines.proofs.blocks.Blocks.new.Goals as goal

pub returns-in_err-stops : goal.returns-in_err-stops
returns-in_err-stops c =
    let p = err_from_is_err_and c.from_residual.result c.from_residual.ensures.1 in
    let bs = c.args.feed.now in
    let held = c.args.held in
    let stops : c.map.result ≡ option_map (size_at 0) held = search rules in
    let none = subst (λ (q : Place). HeaderTo bs held 0 ones q) (sym c.new-lines.ensures.1) (no_line_yet bs held) in
    rw (p.1, p.2) (λ ts. size_refused bs held 0 ones c.new-lines.result _ (omega arith) c.new-lines.ensures.0 stops none (omega arith) _ c.in_err-stops.ensures ts)

pub returns-in_err-states : goal.returns-in_err-states
returns-in_err-states c =
    let p = err_from_is_err_and c.from_residual-in_err-states.result c.from_residual-in_err-states.ensures.1 in
    let bs = c.args.feed.now in
    let held = c.args.held in
    let stops : c.map.result ≡ option_map (size_at 0) held = search rules in
    let none = subst (λ (q : Place). HeaderTo bs held 0 ones q) (sym c.new-lines.ensures.1) (no_line_yet bs held) in
    let states : c.map-2.result ≡ option_map (size_at 1) held = search rules in
    let one = size_more bs held 0 ones c.new-lines.result _ (omega arith) c.new-lines.ensures.0 stops none c.in_ok-stops.stops c.size.new.lines c.in_ok-stops.ensures in
    rw (p.1, p.2) (λ ts. size_refused bs held 1 _ c.size.new.lines _ (omega arith) one.0 states one.1 (omega arith) _ c.in_err-states.ensures ts)

pub returns-in_err-inputs : goal.returns-in_err-inputs
returns-in_err-inputs c =
    let p = err_from_is_err_and c.from_residual-in_err-inputs.result c.from_residual-in_err-inputs.ensures.1 in
    let bs = c.args.feed.now in
    let held = c.args.held in
    let stops : c.map.result ≡ option_map (size_at 0) held = search rules in
    let none = subst (λ (q : Place). HeaderTo bs held 0 ones q) (sym c.new-lines.ensures.1) (no_line_yet bs held) in
    let states : c.map-2.result ≡ option_map (size_at 1) held = search rules in
    let one = size_more bs held 0 ones c.new-lines.result _ (omega arith) c.new-lines.ensures.0 stops none c.in_ok-stops.stops c.size.new.lines c.in_ok-stops.ensures in
    let inputs : c.map-3.result ≡ option_map (size_at 2) held = search rules in
    let two = size_more bs held 1 _ c.size.new.lines _ (omega arith) one.0 states one.1 c.in_ok-states.states c.size-2.new.lines c.in_ok-states.ensures in
    rw (p.1, p.2) (λ ts. size_refused bs held 2 _ c.size-2.new.lines _ (omega arith) two.0 inputs two.1 (omega arith) _ c.in_err-inputs.ensures ts)

pub returns : goal.returns
returns c =
    let bs = c.args.feed.now in
    let held = c.args.held in
    let stops : c.map.result ≡ option_map (size_at 0) held = search rules in
    let none = subst (λ (q : Place). HeaderTo bs held 0 ones q) (sym c.new-lines.ensures.1) (no_line_yet bs held) in
    let states : c.map-2.result ≡ option_map (size_at 1) held = search rules in
    let one = size_more bs held 0 ones c.new-lines.result _ (omega arith) c.new-lines.ensures.0 stops none c.in_ok-stops.stops c.size.new.lines c.in_ok-stops.ensures in
    let inputs : c.map-3.result ≡ option_map (size_at 2) held = search rules in
    let two = size_more bs held 1 _ c.size.new.lines _ (omega arith) one.0 states one.1 c.in_ok-states.states c.size-2.new.lines c.in_ok-states.ensures in
    let three = size_more bs held 2 _ c.size-2.new.lines _ (omega arith) two.0 inputs two.1 c.in_ok-inputs.inputs c.size-3.new.lines c.in_ok-inputs.ensures in
    (omega arith, three.0, whole_header bs held _ _ three.1)
