-- Which value of a kind a row in lowest parts is read as. Assumes nothing.
use Rattle.std.proofs.Common.{◌≡◌, ℕ, ◌≢◌, List, ℤ, sym, ap, ◌∙◌, inl, inr, arith}
use Rattle.algebra.specs.Exact.{Exact}
use Rattle.algebra.specs.Laws.{Plain}
use Rattle.numbers.specs.Answers.{Held}
use Rattle.numbers.specs.Rows.{row_number, Row}
use Rattle.numbers.specs.Forms.{LowestOf}
use Rattle.numbers.specs.declared.Parts.{Parts}
use Rattle.numbers.specs.Lowering.{row_unique}
use Rattle.number_text.specs.Spelling.{Spells}

-- a number without a root is spelled without one
pub spelled_plain : (D : ℕ) (bs : List ℕ) (p q : ℤ) (m : ℕ) → Spells D bs p q m → Plain D q
spelled_plain D bs p q m (inl h) e = h.1
spelled_plain D bs p q m (inr h) e = absurd (let k = h.5 in omega arith)

module _ {A : Type 0} {D : ℕ} (value : A → Exact D) (parts : A → Parts) (reading : Parts → Exact D)
    (same : (a b : A) → value a ≡ value b → a ≡ b) (form : (k : A) → Row D (parts k) (value k)) (back : (k : A) → reading (parts k) ≡ value k)
    (raw row : Parts) (l : LowestOf raw row) (k : A) where
  pub read_means : parts k ≡ row → value k ≡ row_number D raw
  read_means e = sym (form k).means ∙ ap (row_number D) e ∙ l.same D

  pub not_held : Plain D raw.q → value k ≡ reading row → parts k ≢ row → ¬ Held value (row_number D raw)
  not_held f e n (k', h) =
      let r : parts k' ≡ row = row_unique D (parts k') row (form k').above l.above (form k').lowest (l.lowest D f) ((form k').means ∙ h ∙ sym (l.same D)) in
      let v : value k ≡ value k' = e ∙ ap reading (sym r) ∙ back k' in
      n (ap parts (same k k' v) ∙ r)
