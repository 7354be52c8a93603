use Rattle.std.proofs.Common.{vec_items, sym, ◌∙◌, subst, arith}
use mathlib.Core.Logic.{∥∥₁_map}
use Rattle.std.proofs.lemmas.Bool.{eqb-false, lt-ltb}
use Rattle.feed_types.specs.Books.{Distinct, Keeps}
use Rattle.feed_theory.proofs.OneMore.{distinct_take, keeps_take}
use Rattle.feeds.proofs.book.Book.keep_first.Goals as goal

pub invariant_of-self-else-is_empty : goal.invariant_of-self-else-is_empty
invariant_of-self-else-is_empty c =
    let was = c.args.self.now in
    let told = c.truncate.ensures in
    record {
      few = omega (arith, told.len, was.few);
      room = omega (arith, told.capacity, was.room);
      distinct = subst Distinct (sym told.items) (distinct_take c.args.count (vec_items was.trains) was.distinct);
      sized = was.sized ∙ lt-ltb 0 _ (omega (arith, told.len, eqb-false _ 0 (sym c.if-is_empty.ensures))) ∙ sym (lt-ltb 0 _ (omega (arith, eqb-false _ 0 (sym c.if-is_empty.ensures))));
      kept = ∥∥₁_map was.kept (λ k. subst (Keeps was.sizes) (sym told.items) (keeps_take was.sizes c.args.count (vec_items was.trains) k));
    }
