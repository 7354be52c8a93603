-- A lawful line is a lawful line of the theory of plans. Assumes nothing.
use Rattle.std.proofs.Common.{◌≡◌, ℕ, ◌+◌, ap, ◌∙◌}
use Rattle.algebra.specs.Exact.{Exact, Radicand}
use Rattle.algebra.proofs.ExactField.{exact_field}
use Rattle.control.specs.Line.{Lawful as ExactLawful}
use Rattle.lines.specs.Laws.{Lawful, Means}
use Rattle.lines.specs.Meaning.{Entry, Meaning, told, line_of}

module _ {A : Type 0} {D : ℕ} (good : Radicand D) (value : A → Exact D) where
  pub told_means : (e : Entry A) (x : Exact D) → Means value e x → told (exact_field D good) value e ≡ x
  told_means e x h = ap (told (exact_field D good) value) h.1.0 ∙ h.1.1

  pub exact_lawful : (m : Meaning A) → Lawful value m → ExactLawful (line_of (exact_field D good) value m)
  exact_lawful m l = record {
    stage_symmetric = λ n h a c _ _. ap (told (exact_field D good) value) (l.mirror n a c);
    final_symmetric = λ a c _ _. ap (told (exact_field D good) value) (l.mirror m.end a c);
    last_row = λ n c h i. told_means (m.F n m.nx c) _ (l.last_row n c h i);
    corner = λ n h. told_means (m.F n m.nx (m.nu + m.nx)) _ (l.corner n h);
  }
