use Rattle.std.proofs.Common.{◌+◌, ◌-◌, length, take, drop, refl}
use Rattle.std.proofs.lemmas.List.{take_rest}
use Rattle.feed_theory.proofs.Lines.{no_end, no_mid, no_key, made_line}
use Rattle.feed_lines.proofs.lines.Lines.next_token.Goals as goal

pub returns-in_err-line : goal.returns-in_err-line
returns-in_err-line c = rw c.from_residual.ensures (λ k. no_end _ _ (take_rest c.args.self.now.feed.now c.args.self.now.place.at) k c.in_err-line.ensures)

pub returns-in_err-mid : goal.returns-in_err-mid
returns-in_err-mid c = rw c.from_residual-in_err-mid.ensures (λ k. no_mid _ _ (take_rest c.args.self.now.feed.now c.args.self.now.place.at) k _ c.in_ok-line.ensures c.in_err-mid.ensures)

pub returns-in_err-key : goal.returns-in_err-key
returns-in_err-key c = rw c.from_residual-in_err-key.ensures (λ k. no_key _ _ (take_rest c.args.self.now.feed.now c.args.self.now.place.at) k _ c.in_ok-line.ensures _ c.in_ok-mid.ensures c.in_err-key.ensures)

pub returns : goal.returns
returns c =
    let was = c.args.self.now in
    let made = made_line was.feed.now _ was.place _ _ c.in_ok-key.key was.inside (take_rest was.feed.now was.place.at) c.in_ok-line.ensures c.in_ok-mid.ensures c.in_ok-key.ensures in
    let value = take_rest (take c.in_ok-line.field-0 (take (length was.feed.now - was.place.at) (drop was.place.at was.feed.now))) (c.in_ok-mid.mid + 1) in
    record { same = refl; line = rw (c.new.ensures.0, c.new.ensures.1, value) made }
