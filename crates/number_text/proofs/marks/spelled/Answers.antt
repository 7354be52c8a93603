use Rattle.std.proofs.Common.{◌≡◌, ℕ, ◌≢◌, List, get_or, Some, None, Option, inl, inr, sym, ap, ◌∙◌, arith, w64}
use Rattle.std.proofs.lemmas.Bool.{false≢true}
use Rattle.std.proofs.lemmas.Int.{to_z-of_z}
use Rattle.std.proofs.lemmas.Str.Pattern.{starts_char}
use Rattle.numbers.specs.declared.Parts.{Parts}
use Rattle.number_text.specs.Spelling.{Plain}
use Rattle.number_text.specs.Readings.{PlainAnswer, RootedAnswer, Found}
use Rattle.number_text.proofs.Unique.{plain_head}
use Rattle.number_text.proofs.marks.spelled.Goals as goal

-- what begins with a parenthesis has a root or is no number
rooted_found : (D : ℕ) (bs : List ℕ) (r : Option Parts) → get_or bs 0 0 ≡ 40 → RootedAnswer D bs r → Found D bs r
rooted_found D bs None e n = λ p q m. elim [ inl h ↦ plain_head bs p m h.0 e | inr h ↦ n p q m h ]
rooted_found D bs (Some row) e h = (h.0, inr h.1)

-- and what does not is plain or none
plain_found : (D : ℕ) (bs : List ℕ) (r : Option Parts) → get_or bs 0 0 ≢ 40 → PlainAnswer (Plain bs) r → Found D bs r
plain_found D bs None e n = λ p q m. elim [ inl h ↦ n p m h.0 | inr h ↦ e (ap (λ l. get_or l 0 0) h.2) ]
plain_found D bs (Some row) e h = (h.0, inl (h.2, h.1))

pub returns-then-starts_with : goal.returns-then-starts_with
returns-then-starts_with c D e =
    let bs = c.args.text.now in let d = starts_char 40 bs c.starts_with.result c.starts_with.ensures.cases (omega arith) (omega arith) in
    rooted_found D bs c.rooted.result (d.0 c.if-starts_with.true) (c.rooted.ensures D (to_z-of_z w64 c.args.d c.ranges.d ∙ e))

pub returns-else-starts_with : goal.returns-else-starts_with
returns-else-starts_with c D e =
    let bs = c.args.text.now in let d = starts_char 40 bs c.starts_with.result c.starts_with.ensures.cases (omega arith) (omega arith) in
    plain_found D bs c.plain.result (λ k. false≢true (sym c.if-starts_with.false ∙ d.1 k)) c.plain.ensures
