use Rattle.std.proofs.Common.{ℤ, false, sym, subst, arith, MatchOption}
use Rattle.std.proofs.lemmas.Bool.{false≢true}
use Rattle.std.proofs.lemmas.Str.Pattern.{starts_char}
use Rattle.number_text.specs.Spelling.{Positive}
use Rattle.number_text.proofs.Numerals.{read_digits}
use Rattle.number_text.proofs.digits.positive.Goals as goal

pub returns : goal.returns
returns c =
    let bs = c.args.text.now in
    subst (λ o. MatchOption o ((z : ℤ) → ¬ Positive bs z) (Positive bs)) (sym c.ok.ensures.value)
    (read_digits bs c.parse.result c.if-text-gt18.false c.parse.ensures.value.0
    (λ e. false≢true ((starts_char 43 bs false c.if-starts_with.ensures.cases (omega arith) (omega arith)).1 e))
    (λ e. false≢true ((starts_char 45 bs false c.if-starts_with-2.ensures.cases (omega arith) (omega arith)).1 e)))
