use Rattle.std.proofs.Common.{◌≡◌, ℕ, ◌-◌, ltb, List, length, take, vec_items, refl, ap, ◌∙◌, subst, arith}
use Rattle.std.proofs.lemmas.Result.{err_from_is_err_and}
use Rattle.std.proofs.lemmas.List.{length-append}
use Rattle.feeds.specs.Held.{held}
use Rattle.feed_types.specs.declared.keys.Place.{Place}
use Rattle.feed_types.specs.Progress.{JoinedTo, Stuck}
use Rattle.feed_types.specs.Reading.{Granted}
use Rattle.feed_theory.proofs.Joinings.{joined_grows}
use Rattle.feed_theory.proofs.Refusing.{stuck, granted, taken_back}
use Rattle.feeds.proofs.book.Book.take_in.Goals as goal

pub returns-in_err-rest : goal.returns-in_err-rest
returns-in_err-rest c =
    let p = err_from_is_err_and c.from_residual.result c.from_residual.ensures.1 in
    rw (p.1, p.2) (c.in_err-rest.ensures (vec_items c.args.self.now.trains), refl)

pub overflow_sub-result : goal.overflow_sub-result
overflow_sub-result c =
    let grows = joined_grows c.in-Ok.ensures.1.joins in
    omega (arith, c.len.ensures, c.len-before.ensures, c.args.self.now.trains.ok.0, c.join_blocks.new.self.trains.ok.0, ap length grows.1, length-append (vec_items c.args.self.now.trains) grows.0)

pub returns-in-Ok : goal.returns-in-Ok
returns-in-Ok c =
    let was = c.args.self.now in
    let now' = c.join_blocks.new.self in
    let bs = c.args.feed.now in
    let s = c.in_ok-rest.rest.sizes in
    let from = c.in_ok-rest.rest.lines.place in
    let header = c.in_ok-rest.ensures in
    let done = subst (λ (fs : List ℕ). (q : Place) × JoinedTo fs s from (held was) (held now') q × (q.at ≡ length fs)) header.1 c.in-Ok.ensures in
    let e : length (vec_items now'.trains) - length (vec_items was.trains) ≡ c.len.result - c.len-before.result = omega (arith, c.len.ensures, c.len-before.ensures, was.trains.ok.0, now'.trains.ok.0) in
    subst (λ (n : ℕ). Granted bs (held was) n (held now')) e
    (granted bs was.sizes s from done.0 (held was) (held now') header.0 refl header.2 done.1 done.2 (now'.sized ∙ ap (ltb 0) now'.trains.ok.0))

pub returns-in-Err : goal.returns-in-Err
returns-in-Err c =
    let was = c.args.self.now in
    let now' = c.join_blocks.new.self in
    let bs = c.args.feed.now in
    let s = c.in_ok-rest.rest.sizes in
    let from = c.in_ok-rest.rest.lines.place in
    let header = c.in_ok-rest.ensures in
    let left = c.keep_first.new.self in
    let done = subst (λ (fs : List ℕ). (q : Place) × JoinedTo fs s from (held was) (held now') q × Stuck fs s (held now') q c.in-Err.fault) header.1 c.in-Err.ensures in (
      stuck bs was.sizes s from done.0 (held was) (held now') header.0 refl header.2 done.1 c.in-Err.fault done.2,
      taken_back bs was.sizes s from done.0 (held was) (held now') header.0 refl header.2 done.1 (was.sized ∙ ap (ltb 0) was.trains.ok.0) (now'.sized ∙ ap (ltb 0) now'.trains.ok.0) (held left)
          (c.keep_first.ensures.trains ∙ ap (λ (n : ℕ). take n (vec_items now'.trains)) (c.len-before.ensures ∙ was.trains.ok.0)) c.keep_first.ensures.sizes,
    )
