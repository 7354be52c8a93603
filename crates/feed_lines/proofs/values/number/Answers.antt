use Rattle.std.proofs.Common.{IsUtf8, sym, ◌∙◌, subst, arith}
use Rattle.feed_theory.proofs.Partial.{utf8_kept, no_first, first_is}
use Rattle.feed_theory.proofs.Decimals.{empty_text, no_plus, leading_zero, utf8_decimal}
use Rattle.feed_lines.proofs.Numbers.{read_number}
use Rattle.feed_lines.proofs.values.number.Goals as goal
use Rattle.feed_lines.proofs.values.number.Goals.{then-first-eq43-via-then-first-eq43, then-first-eq43-via-else-first-eq43+then-text-gt1}

pub returns-in_err-first : goal.returns-in_err-first
returns-in_err-first c = rw c.from_residual.ensures (λ n h e. empty_text n (omega arith) c.args.text.now (no_first _ c.in_err-first.ensures.value) e)

pub returns-then-first-eq43 : goal.returns-then-first-eq43
returns-then-first-eq43 c n h e =
    let first = sym (first_is _ _ c.in_ok-first.ensures.value) in
    elim c.then-first-eq43.branch [
      | then-first-eq43-via-then-first-eq43 w ↦ no_plus n (omega arith) c.args.text.now (first ∙ w.if-first-eq43.true) e
      | then-first-eq43-via-else-first-eq43+then-text-gt1 w ↦ leading_zero n (omega arith) c.args.text.now (first ∙ w.if-text-gt1.true.0) w.if-text-gt1.true.1 e
    ]

pub returns-in_err-ok : goal.returns-in_err-ok
returns-in_err-ok c = rw c.from_residual-in_err-ok.ensures (λ n h e.
    let told : IsUtf8 c.args.text.now → ⊥ = rw (sym c.in_err-ok.ensures.value) at (utf8_kept c.args.text.now _ c.from_utf8.result c.from_utf8.ensures.cases) in
    told (subst IsUtf8 (sym e) (utf8_decimal n (omega arith))))

pub returns : goal.returns
returns c = rw c.ok-2.ensures.value (read_number c.args.text.now _ _ _ _ c.parse.result c.in_ok-ok.ensures.value c.from_utf8.ensures.cases c.in_ok-first.ensures.value c.if-first-eq43.false c.if-text-gt1.either c.parse.ensures.value.0)
