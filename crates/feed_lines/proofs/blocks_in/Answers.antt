use Rattle.std.proofs.Common.{◌≡◌, ◌==◌, arith, rules}
use Rattle.std.specs.List.{count_by}
use Rattle.feed_theory.proofs.Ends.{ends_text}
use Rattle.feed_lines.proofs.blocks_in.Goals as goal

pub returns : goal.returns
returns c f g e =
    let all : c.count-lines.result ≡ count_by (λ b. b == 10) c.args.feed.now = search rules in
    omega (arith, ends_text f c.args.feed.now g e)
