-- Numbers with a root are a kind: their rows, and the laws of a number. Assumes nothing.
use Rattle.std.specs.Prelude.{◌≡◌, ℕ, ◌+◌, ◌*◌, ◌≤◌, T, ◌≢◌, ℤ, unsigned_abs}
use Rattle.std.proofs.Math.Path.{refl}
use Rattle.std.proofs.Common.{arith, lit≤}
use mathlib.Core.HLevel.{is_prop→PathP}
use Rattle.std.proofs.Math.Dec.{T_prop}
use Rattle.algebra.specs.Exact.{zero_e, whole_e}
use Rattle.algebra.specs.Laws.{Plain}
use Rattle.numbers.specs.Answers.{Held}
use Rattle.numbers.specs.Rows.{row_number, Row}
use Rattle.numbers.specs.Steps.{Room}
use Rattle.numbers.specs.Forms.{has_form, Formed, HoldsExactly}
use Rattle.numbers.specs.Roots.{root_size, Under, root_reading}
use Rattle.numbers.specs.declared.Parts.{Parts}
use Rattle.numbers.specs.declared.root.Root.{Root}
use Rattle.numbers.specs.RowKinds as Kind

pub plain : (D : ℕ) → Under D → (q : ℤ) → Plain D q
plain D u q e = absurd (omega arith)

pub room : (D : ℕ) → Under D → Room ((D + 1) * (root_size * root_size))
room D u = let h = u.1 in omega arith

module _ (X : Type 0) (D : ℕ) (u : Under D) where
  abbrev pub row_of : Root X → Parts
  row_of k = k.row

  pub formed : (k : Root X) → Formed D root_size (row_of k)
  formed k = (k.form, plain D u k.row.q)

  pub of : (r : Parts) → Formed D root_size r → Root X
  of r f = record { row = r; radicand = record {}; form = f.0 }

  pub of_row : (r : Parts) (f : Formed D root_size r) → row_of (of r f) ≡ r
  unfolding of
  of_row r f = refl

  pub same : (a b : Root X) → row_number D (row_of a) ≡ row_number D (row_of b) → a ≡ b
  same a b e =
      let rows = Kind.same_rows D root_size row_of formed a b e in
      λ i. record { row = rows i; radicand = record {}; form = is_prop→PathP (λ i. T (has_form root_size (rows i))) (λ i. T_prop (has_form root_size (rows i))) a.form b.form i }

  pub written : (k : Root X) → Row D (row_of k) (row_number D (row_of k))
  written k = Kind.written D root_size row_of formed k

  pub back : (k : Root X) → root_reading D (row_of k) ≡ row_number D (row_of k)
  back k = Kind.read_formed D (has_form root_size (row_of k)) (row_of k) k.form

  pub blank : (row : Parts) → ((k : Root X) → row_of k ≢ row) → root_reading D row ≡ zero_e D
  blank row n = Kind.read_other D (has_form root_size row) row (λ t. n (of row (t, plain D u row.q)) (of_row row (t, plain D u row.q)))

  pub holds_exactly : HoldsExactly D root_size (λ (k : Root X). row_number D (row_of k))
  holds_exactly = Kind.holds_exactly D root_size row_of formed of of_row

  pub wholes : (w : ℤ) → unsigned_abs w ≤ 9999 → Held (λ (k : Root X). row_number D (row_of k)) (whole_e D w)
  wholes = Kind.wholes_held D root_size row_of formed of of_row (lit≤ tt)
