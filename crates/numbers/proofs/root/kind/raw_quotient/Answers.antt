use Rattle.std.proofs.Common.{◌*◌, pos, ◌<ℤ◌, sym, ap, ◌∙◌, subst, lit<, w64, SFits, rules}
use Rattle.numbers.specs.Rows.{row_number}
use Rattle.numbers.specs.Roots.{root_size, root_good}
use Rattle.numbers.specs.declared.Parts.{Parts}
use Rattle.numbers.specs.Bounds.{small_words}
use Rattle.numbers.specs.RootKind.{plain}
use Rattle.numbers.specs.RootSteps.{quotient_parts, quotient_above, quotient_is, turned_size, root_sizes, root_words, root_above}
use Rattle.numbers.proofs.root.kind.raw_quotient.Goals as goal

pub times-p-requires : goal.times-p-requires
times-p-requires g c =
    let b = c.args.b.row in let up = c.turned-up.result in let r = c.conjugate_whole.result in let n = c.conjugate_whole-norm.result in
    let fn : SFits w64 n = search rules in
    let fu : SFits w64 up = search rules in
    let fr : SFits w64 r = search rules in
    small_words root_size (100 * (root_size * root_size)) up r fu fr (lit< tt)
    (turned_size up b.m n root_size (root_words b c.args.b.form).m_fits fn c.turned-up.ensures (root_sizes b c.args.b.form).m_size)
    c.conjugate_whole.ensures.bound

pub times-q-requires : goal.times-q-requires
times-q-requires g c =
    let b = c.args.b.row in let up = c.turned-up.result in let r = c.conjugate_root.result in let n = c.conjugate_whole-norm.result in
    let fn : SFits w64 n = search rules in
    let fu : SFits w64 up = search rules in
    let fr : SFits w64 r = search rules in
    small_words root_size (100 * (root_size * root_size)) up r fu fr (lit< tt)
    (turned_size up b.m n root_size (root_words b c.args.b.form).m_fits fn c.turned-up.ensures (root_sizes b c.args.b.form).m_size)
    c.conjugate_root.ensures.bound

pub times-m-requires : goal.times-m-requires
times-m-requires g c =
    let a = c.args.a.row in let n = c.conjugate_whole-norm.result in let t = c.turned.result in
    let fn : SFits w64 n = search rules in
    let ft : SFits w64 t = search rules in
    small_words root_size (100 * (root_size * root_size)) a.m t (root_words a c.args.a.form).m_fits ft (lit< tt) (root_sizes a c.args.a.form).m_size
    (turned_size t n n (100 * (root_size * root_size)) fn fn c.turned.ensures c.conjugate_whole-norm.ensures.bound)

pub returns : goal.returns
returns g c =
    let D = g.R.Radicand.radicand in let a = c.args.a.row in let b = c.args.b.row in
    let n = c.conjugate_whole-norm.result in let up = c.turned-up.result in let r₁ = c.conjugate_whole.result in let r₂ = c.conjugate_root.result in
    let t = c.turned.result in let p = c.times-p.result in let q = c.times-q.result in let m = c.times-m.result in
    let fn : SFits w64 n = search rules in
    let fu : SFits w64 up = search rules in
    let f₁ : SFits w64 r₁ = search rules in
    let f₂ : SFits w64 r₂ = search rules in
    let ft : SFits w64 t = search rules in
    let fp : SFits w64 p = search rules in
    let fq : SFits w64 q = search rules in
    let fm : SFits w64 m = search rules in
    let e = quotient_parts (pos D) a b (root_words a c.args.a.form) (root_words b c.args.b.form) n up r₁ r₂ t p q m (record {
      n_fits = fn;
      up_fits = fu;
      r₁_fits = f₁;
      r₂_fits = f₂;
      t_fits = ft;
      p_fits = fp;
      q_fits = fq;
      m_fits = fm;
      n_is = c.conjugate_whole-norm.ensures.value;
      up_is = c.turned-up.ensures;
      r₁_is = c.conjugate_whole.ensures.value;
      r₂_is = c.conjugate_root.ensures.value;
      t_is = c.turned.ensures;
      p_is = c.times-p.ensures;
      q_is = c.times-q.ensures;
      m_is = c.times-m.ensures;
    }) in
    let good = root_good g.R.Radicand.good in let f = plain D g.R.Radicand.small b.q in let above = root_above a c.args.a.form in
    record {
      above = subst (λ (z : Parts). pos 0 <ℤ z.m) (sym e) (quotient_above D good a b f c.requires above);
      value = ap (row_number D) e ∙ sym (quotient_is D good a b f c.requires above (root_above b c.args.b.form));
    }
