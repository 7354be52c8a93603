use Rattle.std.proofs.Common.{◌≡◌, ℕ, ◌<◌, ◌||◌, Bool, true, false, List, [], ◌∷◌, ◌++◌, take, drop, ℤ, refl, sym, ap, ap₂, ◌∙◌, subst, subst₂, arith, eqb, inl, inr, T, eqb→eq, take-append-drop, w64, SFits, rules}
use Rattle.std.proofs.lemmas.Bool.{false≢true}
use Rattle.std.proofs.lemmas.Int.{to_z-of_z}
use Rattle.std.specs.Char.{char_set_contains}
use Rattle.std.specs.Str.{NoCharPasses}
use Rattle.std.specs.Str.Pattern.{HasCharAt}
use Rattle.std.proofs.lemmas.Str.Pattern.{drop_at_char}
use Rattle.number_text.specs.Spelling.{Whole, Step, Sum, Beside}
use Rattle.number_text.specs.Readings.{PairAnswer}
use Rattle.number_text.proofs.Splits.{Either, no_char_lacks}
use Rattle.number_text.proofs.Shapes.{sum_sign, sum_beside}
use Rattle.number_text.proofs.marks.sum.Goals as goal

-- the test for a sign
abbrev sign : ℕ → Bool
sign = char_set_contains (43 ∷ (45 ∷ []))

is_sign : (c : ℕ) → sign c ≡ true → Either 43 45 c
is_sign c e = go (eqb 43 c) (eqb 45 c) refl refl e
  where
    go : (a b : Bool) → eqb 43 c ≡ a → eqb 45 c ≡ b → sign c ≡ true → Either 43 45 c
    go true b f g e = inl (sym (eqb→eq 43 c (subst T (sym f) tt)))
    go false true f g e = inr (sym (eqb→eq 45 c (subst T (sym g) tt)))
    go false false f g e = absurd (false≢true (sym (ap₂ (λ a b. a || (b || false)) f g) ∙ e))

pub returns-in_err-rfind : goal.returns-in_err-rfind
returns-in_err-rfind c =
    let bs = c.args.text.now in let n = c.in_err-rfind.ensures.cases sign (λ _. refl) in
    subst (PairAnswer (Sum bs)) (sym c.from_residual.ensures)
    (λ p q. sum_sign bs p q (no_char_lacks sign 43 bs n (omega arith) refl) (no_char_lacks sign 45 bs n (omega arith) refl))

-- cut at the last sign
cut : (bs : List ℕ) (i j : ℕ) → NoCharPasses sign (drop j bs) → (ch : ℕ) × (sign ch ≡ true) × HasCharAt ch bs i j → (p q : ℤ) → Sum bs p q → Beside (take i bs) (drop i bs) p q
cut bs i j n (ch, t, at) p q h =
    let o = is_sign ch t in
    let low : ch < 128 = elim o [ inl e ↦ omega arith | inr e ↦ omega arith ] in
    let e = drop_at_char ch bs i j at low in
    let b = sum_beside bs (take i bs) (drop j bs) ch p q (sym (take-append-drop i bs) ∙ ap (λ x. take i bs ++ x) e) o
    (no_char_lacks sign 43 (drop j bs) n (omega arith) refl) (no_char_lacks sign 45 (drop j bs) n (omega arith) refl) h in
    subst (λ x. Beside (take i bs) x p q) (sym e) b

pub returns-in_err-whole : goal.returns-in_err-whole
returns-in_err-whole c =
    let bs = c.args.text.now in let i = c.in_ok-rfind.field-0 in let h = c.in_ok-rfind.ensures.cases in let k = h.1 sign (λ _. refl) in
    subst (PairAnswer (Sum bs)) (sym c.from_residual-in_err-whole.ensures)
    (λ p q s. c.in_err-whole.ensures p (subst (λ x. Whole x p) (sym c.split_at.ensures.front) (cut bs i h.0 k.0 k.1 p q s).0))

pub returns-in_err-step : goal.returns-in_err-step
returns-in_err-step c =
    let bs = c.args.text.now in let i = c.in_ok-rfind.field-0 in let h = c.in_ok-rfind.ensures.cases in let k = h.1 sign (λ _. refl) in
    subst (PairAnswer (Sum bs)) (sym c.from_residual-in_err-step.ensures)
    (λ p q s. c.in_err-step.ensures q (subst (λ x. Step x q) (sym c.split_at.ensures.back) (cut bs i h.0 k.0 k.1 p q s).1))

pub returns : goal.returns
returns c =
    let bs = c.args.text.now in let i = c.in_ok-rfind.field-0 in
    let fp : SFits w64 c.in_ok-whole.field-0 = search rules in
    let fq : SFits w64 c.in_ok-step.field-0 = search rules in (
      take i bs,
      drop i bs,
      sym (take-append-drop i bs),
      (subst₂ Whole c.split_at.ensures.front (sym (to_z-of_z w64 c.in_ok-whole.field-0 fp)) c.in_ok-whole.ensures, subst₂ Step c.split_at.ensures.back (sym (to_z-of_z w64 c.in_ok-step.field-0 fq)) c.in_ok-step.ensures),
    )
