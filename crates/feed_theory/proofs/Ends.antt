-- How many lines a text has. Assumes nothing.
use Rattle.std.proofs.Common.{◌==◌, ◌≡◌, ℕ, suc, ◌+◌, ◌*◌, Bool, cond, List, [], ◌∷◌, ◌++◌, length, refl, ap, ◌∙◌, arith}
use Rattle.std.specs.Str.Iter.{LacksByte}
use Rattle.std.specs.List.{AllByRecursion, count_by}
use Rattle.std.proofs.lemmas.List.Sums.{sum_by-cons, sum_by-append}
use Rattle.std.proofs.lemmas.Bool.{ne_eqb}
use Rattle.feed_types.specs.Text.{Feed, Good, lines, run_on, text}
use Rattle.feed_theory.proofs.Starting.{lines_long}
use Rattle.feed_theory.proofs.Unique.{Ended, ended_lines}

-- how many bytes end a line
abbrev ends : List ℕ → ℕ
ends bs = count_by (λ b. b == 10) bs

ends_append : (xs ys : List ℕ) → ends (xs ++ ys) ≡ ends xs + ends ys
ends_append xs ys = sum_by-append (λ b. cond (b == 10) 1 0) xs ys

ends_none : (w : List ℕ) → LacksByte 10 w → ends w ≡ 0
ends_none [] h = refl
ends_none (b ∷ w) h = sum_by-cons (λ b. cond (b == 10) 1 0) b w ∙ ap (λ (t : Bool). cond t 1 0 + ends w) (ne_eqb b 10 (h 0 (omega arith))) ∙ (let rest = ends_none w (λ k l. h (suc k) (omega arith)) in omega arith)

ends_line : (l : List ℕ) → Ended l → ends l ≡ 1
ends_line l e = ap ends e.is ∙ ends_append e.front (10 ∷ []) ∙ (let none' = ends_none e.front e.plain in omega arith)

ends_run_on : (ls : List (List ℕ)) → AllByRecursion Ended ls → ends (run_on ls) ≡ length ls
ends_run_on [] h = refl
ends_run_on (l ∷ ls) h =
    let one = ends_line l h.0 in
    let rest = ends_run_on ls h.1 in
    ends_append l (run_on ls) ∙ omega arith

pub ends_text : (f : Feed) (bs : List ℕ) → Good f → bs ≡ text f → count_by (λ b. b == 10) bs ≡ 3 + 6 * length f.trains
ends_text f bs g e = ap ends e ∙ ends_run_on (lines f) (ended_lines f g) ∙ lines_long f
