use Rattle.std.proofs.Common.{ℕ, T, sym, ◌∙◌, subst}
use Rattle.numbers.specs.Forms.{within}
use Rattle.numbers.specs.Lowering.{form_made, none_formed}
use Rattle.numbers.proofs.rows.fitted.Goals as goal

pub made-requires : goal.made-requires
made-requires g c =
    let row = c.reduced-row.result in
    form_made g.K.InRows.radicand g.K.InRows.SIZE c.args.raw row c.reduced-row.ensures c.requires.plain
    (subst (λ (n : ℕ). T (within n row)) c.SIZE.ensures (subst T c.if-is_within.ensures tt))

pub returns-else-is_within : goal.returns-else-is_within
returns-else-is_within g c h =
    let k = g.met.K.InRows.held h.0 in let row = c.reduced-row.result in
    none_formed g.K.InRows.radicand g.K.InRows.SIZE c.args.raw row c.reduced-row.ensures c.requires.plain
    (λ t. subst T (sym c.if-is_within.ensures) (subst (λ (n : ℕ). T (within n row)) (sym c.SIZE.ensures) t)) k.0 k.1 (k.2 ∙ h.1)
