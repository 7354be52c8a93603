use Rattle.std.proofs.Common.{Some, refl, ap, ◌∙◌}
use Rattle.feeds.specs.Held.{held}
use Rattle.feed_theory.proofs.Joinings.{no_block_yet, one_block_more, agreed_own}
use Rattle.feed_lines.specs.Cursor.{NextBlock}
use Rattle.feed_lines.proofs.Cursor.{next_in}
use Rattle.feeds.proofs.book.Book.join_blocks.Goals as goal

pub loop-train-init : goal.loop-train-init
loop-train-init c =
    let b = c.args.rest in
    record { same = refl; sizes = refl; joined = no_block_yet b.lines.feed.now b.sizes b.lines.place (held c.args.self.now) b.lines.inside c.requires }

pub loop-train-preserved : goal.loop-train-preserved
loop-train-preserved c =
    let bs = c.args.rest.lines.feed.now in
    let s = c.args.rest.sizes in
    let block : NextBlock c.loop-train.rest c.in-Some.train c.in-Some.line c.next_block.new.self = rw c.in-Some.is at c.in_ok-train.ensures in
    let next = next_in bs s c.loop-train.rest c.next_block.new.self c.in-Some.train c.in-Some.line c.loop-train.invariant.same c.loop-train.invariant.sizes block in
    let told = c.in_ok-join.ensures in
    record {
      same = next.0;
      sizes = next.1;
      joined = one_block_more bs s c.args.rest.lines.place c.loop-train.rest.lines.place c.next_block.new.self.lines.place (held c.args.self.now) (held c.loop-train.self) (held c.join.new.self) c.in-Some.train c.loop-train.invariant.joined next.2 told.0 (agreed_own s (held c.join.new.self) (told.1 ∙ ap Some (c.sizes.ensures ∙ next.1)));
    }
