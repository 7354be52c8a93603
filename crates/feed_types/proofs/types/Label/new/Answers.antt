use Rattle.std.proofs.Common.{◌≡◌, ℕ, ◌+◌, ◌-◌, true, List, ◌++◌, length, get_or, take, set, replicate, sym, ap, ◌∙◌, subst, arith}
use Rattle.std.specs.List.{AllByRecursion}
use Rattle.std.proofs.lemmas.List.{take_more, length-take-le, take_all}
use Rattle.std.proofs.ByRecursion.{All-more}
use Rattle.std.proofs.lemmas.Bool.{eqb-false}
use Rattle.feed_types.specs.Limits.{letter, unpadded, LabelText}
use Rattle.feed_types.proofs.Padding.{fill, unpadded_padded}
use Rattle.feed_types.proofs.types.Label.new.Goals as goal

pub loop-i-preserved : goal.loop-i-preserved
loop-i-preserved c =
    let bs = c.args.text.now in
    let i = c.loop-i.i in
    let lt = c.loop-i-test.true in
    let long : length (take i bs) ≡ i = length-take-le i bs (omega arith) in (
      ap (λ (l : List ℕ). set l i (get_or bs i 0)) c.loop-i.invariant.0
          ∙ fill 0 8 i (take i bs) (get_or bs i 0) (omega arith) long
          ∙ ap (λ (l : List ℕ). l ++ replicate (8 - (i + 1)) 0) (sym (take_more bs i 0 lt)),
      All-more (λ b. letter b ≡ true) bs i 0 lt c.loop-i.invariant.1 (sym c.if-not-is_letter.ensures),
    )

pub returns : goal.returns
returns c =
    let bs = c.args.text.now in
    let whole : take c.loop-i.i bs ≡ bs = take_all c.loop-i.i bs c.loop-i-test.false in
    let at_end : c.loop-i.i ≡ length bs = omega arith in
    let all : AllByRecursion (λ b. letter b ≡ true) bs = subst (AllByRecursion (λ b. letter b ≡ true)) whole c.loop-i.invariant.1 in
    let filled : c.loop-i.bytes ≡ bs ++ replicate (8 - length bs) 0 = c.loop-i.invariant.0 ∙ ap (λ (l : List ℕ). l ++ replicate (8 - c.loop-i.i) 0) whole ∙ ap (λ (n : ℕ). bs ++ replicate (8 - n) 0) at_end in
    let same : unpadded c.loop-i.bytes ≡ bs = ap unpadded filled ∙ unpadded_padded bs (8 - length bs) all in (
      record {
        text = subst LabelText (sym same) (record { some = omega (arith, eqb-false (length bs) 0 (sym c.if-is_empty.ensures)); few = c.if-text-gt8.false; letters = all });
        padded = filled ∙ ap (λ (l : List ℕ). l ++ replicate (8 - length l) 0) (sym same);
      },
      same,
    )
