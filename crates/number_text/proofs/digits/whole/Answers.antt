use Rattle.std.proofs.Common.{inl, inr, sym, ◌∙◌, arith}
use Rattle.std.proofs.lemmas.Bool.{false≢true}
use Rattle.std.proofs.lemmas.Str.Pattern.{starts_char}
use Rattle.number_text.proofs.Numerals.{carry, whole_minus, whole_positive}
use Rattle.number_text.proofs.digits.whole.Goals as goal

pub returns-then-starts_with : goal.returns-then-starts_with
returns-then-starts_with c =
    let bs = c.args.text.now in let d = starts_char 45 bs c.starts_with.result c.starts_with.ensures.cases (omega arith) (omega arith) in
    carry c.minus.result (λ z h. inr h) (λ z. whole_minus bs z (d.0 c.if-starts_with.true)) c.minus.ensures

pub returns-else-starts_with : goal.returns-else-starts_with
returns-else-starts_with c =
    let bs = c.args.text.now in let d = starts_char 45 bs c.starts_with.result c.starts_with.ensures.cases (omega arith) (omega arith) in
    carry c.positive.result (λ z h. inl h) (λ z. whole_positive bs z (λ e. false≢true (sym c.if-starts_with.false ∙ d.1 e))) c.positive.ensures
