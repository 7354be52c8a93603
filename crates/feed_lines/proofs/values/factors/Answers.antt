use Rattle.std.proofs.Common.{◌+◌, eqb, length, sym, ◌∙◌, arith, rules, tests}
use Rattle.std.proofs.lemmas.Iterator.{YieldsList-from_take}
use Rattle.feed_lines.proofs.Numbers.{counted}
use Rattle.std.proofs.lemmas.Iterator.Consumers.{YieldsList-at, YieldsList-from_enumerate, YieldsList-turn, YieldsList-end, count_from_yields_List}
use Rattle.std.proofs.lemmas.Iterator.Splits.{YieldsList-from_slice_split}
use Rattle.std.proofs.lemmas.List.FromFn.{length-enumerate_from}
use Rattle.std.proofs.lemmas.List.{length_push}
use Rattle.feed_theory.proofs.Decimals.{narrowed}
use Rattle.feed_theory.proofs.Words.{words, filled_more, filled_all, words_many, word_read, word_at}
use Rattle.feed_lines.proofs.values.factors.Goals as goal

pub returns-then-words-out : goal.returns-then-words-out
returns-then-words-out c zs many small e =
    let all = counted (words c.args.text.now) (length c.args.out.now) c.count-words.result (count_from_yields_List _ _ c.count-words.ensures.ran (YieldsList-from_take {s = c.take.result} (length c.args.out.now + 1) (YieldsList-at (cc) (YieldsList-from_slice_split {s = c.split.result} _ (λ b. eqb b 44) c.args.text.now c.split.ensures.rest c.split.ensures.done c.split.ensures.closure (λ x b q k. search (rules, tests)))) (cc))) in
    c.if-words-out.true (all.1 (words_many c.args.text.now zs (omega arith) small e ∙ many))

pub returns-in_err-out : goal.returns-in_err-out
returns-in_err-out c = rw c.from_residual.ensures (λ zs many small e.
    let turn = YieldsList-turn (YieldsList-from_enumerate {s = c.into_iter-k-iterator.result} (YieldsList-at (cc) (YieldsList-from_slice_split {s = c.split-2.result} _ (λ b. eqb b 44) c.args.text.now c.split-2.ensures.rest c.split-2.ensures.done c.split-2.ensures.closure (λ x b q k. search (rules, tests)))) (cc)) c.loop-k.yielded _ c.loop-k.yielded_by _ _ (c.in-Some.k, c.in-Some.word) c.in-Some.is c.next.ensures.steps in
    let word = word_at c.args.text.now (length c.loop-k.yielded) _ _ turn in
    word_read c.args.text.now zs (omega arith) small e (length c.loop-k.yielded) (omega (arith, word.1, words_many c.args.text.now zs (omega arith) small e)) (λ z w q. c.in_err-out.ensures (z, w, sym word.2 ∙ q)))

pub bounds-out-k : goal.bounds-out-k
bounds-out-k c =
    let all = counted (words c.args.text.now) (length c.args.out.now) c.count-words.result (count_from_yields_List _ _ c.count-words.ensures.ran (YieldsList-from_take {s = c.take.result} (length c.args.out.now + 1) (YieldsList-at (cc) (YieldsList-from_slice_split {s = c.split.result} _ (λ b. eqb b 44) c.args.text.now c.split.ensures.rest c.split.ensures.done c.split.ensures.closure (λ x b q k. search (rules, tests)))) (cc))) in
    let turn = YieldsList-turn (YieldsList-from_enumerate {s = c.into_iter-k-iterator.result} (YieldsList-at (cc) (YieldsList-from_slice_split {s = c.split-2.result} _ (λ b. eqb b 44) c.args.text.now c.split-2.ensures.rest c.split-2.ensures.done c.split-2.ensures.closure (λ x b q k. search (rules, tests)))) (cc)) c.loop-k.yielded _ c.loop-k.yielded_by _ _ (c.in-Some.k, c.in-Some.word) c.in-Some.is c.next.ensures.steps in
    let word = word_at c.args.text.now (length c.loop-k.yielded) _ _ turn in
    omega (arith, all.0 c.if-words-out.false, word.0, word.1, c.loop-k.auto.out)

pub loop-k-preserved : goal.loop-k-preserved
loop-k-preserved c =
    let all = counted (words c.args.text.now) (length c.args.out.now) c.count-words.result (count_from_yields_List _ _ c.count-words.ensures.ran (YieldsList-from_take {s = c.take.result} (length c.args.out.now + 1) (YieldsList-at (cc) (YieldsList-from_slice_split {s = c.split.result} _ (λ b. eqb b 44) c.args.text.now c.split.ensures.rest c.split.ensures.done c.split.ensures.closure (λ x b q k. search (rules, tests)))) (cc))) in
    let turn = YieldsList-turn (YieldsList-from_enumerate {s = c.into_iter-k-iterator.result} (YieldsList-at (cc) (YieldsList-from_slice_split {s = c.split-2.result} _ (λ b. eqb b 44) c.args.text.now c.split-2.ensures.rest c.split-2.ensures.done c.split-2.ensures.closure (λ x b q k. search (rules, tests)))) (cc)) c.loop-k.yielded _ c.loop-k.yielded_by _ _ (c.in-Some.k, c.in-Some.word) c.in-Some.is c.next.ensures.steps in
    let word = word_at c.args.text.now (length c.loop-k.yielded) _ _ turn in
    let read = c.in_ok-out.ensures in
    rw (length_push, word.0, narrowed c.in_ok-out.field-0 read.0)
    (filled_more c.args.text.now (length c.loop-k.yielded) c.loop-k.out c.in_ok-out.field-0 c.loop-k.invariant (omega (arith, all.0 c.if-words-out.false, word.1, c.loop-k.auto.out)) word.1 read.0 (word.2 ∙ read.1))

pub returns : goal.returns
returns c =
    let all = counted (words c.args.text.now) (length c.args.out.now) c.count-words.result (count_from_yields_List _ _ c.count-words.ensures.ran (YieldsList-from_take {s = c.take.result} (length c.args.out.now + 1) (YieldsList-at (cc) (YieldsList-from_slice_split {s = c.split.result} _ (λ b. eqb b 44) c.args.text.now c.split.ensures.rest c.split.ensures.done c.split.ensures.closure (λ x b q k. search (rules, tests)))) (cc))) in
    let end = YieldsList-end (YieldsList-from_enumerate {s = c.into_iter-k-iterator.result} (YieldsList-at (cc) (YieldsList-from_slice_split {s = c.split-2.result} _ (λ b. eqb b 44) c.args.text.now c.split-2.ensures.rest c.split-2.ensures.done c.split-2.ensures.closure (λ x b q k. search (rules, tests)))) (cc)) c.loop-k.yielded _ c.loop-k.yielded_by _ _ c.in-None.is c.next.ensures.steps in
    let many = length-enumerate_from 0 (words c.args.text.now) in
    filled_all c.args.text.now (length c.loop-k.yielded) c.loop-k.out (omega (arith, all.0 c.if-words-out.false, end.1, many, c.loop-k.auto.out)) (omega (arith, end.1, many)) c.loop-k.invariant
