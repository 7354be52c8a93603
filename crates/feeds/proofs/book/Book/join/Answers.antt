use Rattle.std.proofs.Common.{ltb, Some, vec_items, sym, refl, ap, ◌∙◌, subst, arith}
use mathlib.Core.Logic.{∥∥₁_map}
use Rattle.std.proofs.lemmas.List.{get_or_default}
use Rattle.std.proofs.lemmas.Bool.{lt-ltb, true≢false}
use Rattle.feed_types.specs.Books.{no_train, Distinct, Keeps}
use Rattle.feed_types.specs.Joining.{Joins, again, new}
use Rattle.feed_types.proofs.Equal.{same_train}
use Rattle.feed_theory.proofs.OneMore.{distinct_push, agreed_some, keeps_push}
use Rattle.feeds.proofs.book.Book.join.Goals as goal

pub invariant_of-self : goal.invariant_of-self
invariant_of-self c =
    let was = c.args.self.now in
    let many = was.trains.ok.0 in
    let told = c.push_reserved.ensures in
    record {
      few = omega (arith, told.len, c.if-len-eq-MOST_TRAINS.false, c.len.ensures, was.few);
      room = omega (arith, told.capacity, was.room);
      distinct = subst Distinct (sym told.items) (distinct_push (vec_items was.trains) c.args.train was.distinct c.in-None.ensures);
      sized = sym (lt-ltb 0 _ (omega (arith, told.len)));
      kept = ∥∥₁_map was.kept (λ k. subst (Keeps (Some c.args.sizes)) (sym told.items) (keeps_push was.sizes c.args.sizes (vec_items was.trains) c.args.train (was.sized ∙ ap (ltb 0) many) c.requires.fits c.requires.good.0 c.requires.good.1 k));
    }

pub returns-then-eq : goal.returns-then-eq
returns-then-eq c =
    let was = c.args.self.now in
    let stands = c.in-Some.ensures in (
      again c.in-Some.slot stands.0 (get_or_default (vec_items was.trains) c.in-Some.slot no_train _ stands.0 ∙ sym c.index.ensures ∙ (same_train _ c.args.train).0 (sym c.eq.ensures ∙ c.if-eq.true)),
      agreed_some was.sizes c.args.sizes (was.sized ∙ lt-ltb 0 _ (omega (arith, was.trains.ok.0, stands.0))) c.requires.fits,
    )

pub returns-else-eq : goal.returns-else-eq
returns-else-eq c =
    let was = c.args.self.now in
    let stands = c.in-Some.ensures in (
      refl,
      (refl, stands, λ e. true≢false (sym ((same_train _ c.args.train).1 (c.index.ensures ∙ sym (get_or_default (vec_items was.trains) c.in-Some.slot no_train _ stands.0) ∙ e)) ∙ sym c.eq.ensures ∙ c.if-eq.false)),
    )

pub returns-else-len-eq-MOST_TRAINS : goal.returns-else-len-eq-MOST_TRAINS
returns-else-len-eq-MOST_TRAINS c =
    let was = c.args.self.now in
    (subst (Joins (vec_items was.trains) c.args.train) (sym c.push_reserved.ensures.items) (new c.in-None.ensures (omega (arith, was.trains.ok.0, c.if-len-eq-MOST_TRAINS.false, c.len.ensures, was.few))), refl)
