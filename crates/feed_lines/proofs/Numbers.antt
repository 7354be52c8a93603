-- Bytes read as a number through their text. Assumes nothing.
use Rattle.std.proofs.Common.{◌≡◌, ℕ, ◌+◌, ◌*◌, ◌/◌, ◌%◌, ◌^◌, ◌<◌, ◌≤◌, List, [], ◌∷◌, ◌++◌, length, take, get_or, Option, Some, None, IfSome, Result, MatchOption, MatchResult, Bor, IsUtf8, ◌⊎◌, decimal, sym, ap, ◌∙◌, subst, arith}
use Rattle.std.proofs.lemmas.Fmt.{decimal_digit, decimal_step}
use Rattle.std.proofs.lemmas.List.{length-take}
use Rattle.std.specs.List.{slice_get}
use Rattle.std.specs.Result.{result_ok}
use Rattle.std.specs.Str.Parse.{ParsesUnsigned}
use Rattle.feed_theory.proofs.Partial.{utf8_kept}
use Rattle.feed_theory.proofs.Decimals.{parsed}

-- the text has the bytes that it was made from
pub kept_text : {E : Type 0} (bs : List ℕ) (F : E → Type 0) (u : Result (Bor (List ℕ)) E) (s : Bor (List ℕ)) → Some s ≡ result_ok u → MatchResult u (λ t. (t.now ≡ bs) × IsUtf8 bs) (λ e. (IsUtf8 bs → ⊥) × F e) → s.now ≡ bs
kept_text bs F u s e m = subst (λ (o : Option (Bor (List ℕ))). MatchOption o (IsUtf8 bs → ⊥) (λ t. t.now ≡ bs)) (sym e) (utf8_kept bs F u m)

-- what `parse` makes of the text, where no plus and no needless zero is in front
pub read_number : {E G : Type 0} (bs : List ℕ) (F : E → Type 0) (u : Result (Bor (List ℕ)) E) (s : Bor (List ℕ)) (first : ℕ) (r : Result ℕ G) → Some s ≡ result_ok u → MatchResult u (λ t. (t.now ≡ bs) × IsUtf8 bs) (λ e. (IsUtf8 bs → ⊥) × F e)
    → Some first ≡ slice_get bs 0 → (first ≡ 43 → ⊥) → ((first ≡ 48) × (length bs ≤ 1)) ⊎ (first ≡ 48 → ⊥) → ParsesUnsigned 16 10 s.now r
    → MatchOption (result_ok r) ((n : ℕ) → n < 2 ^ 16 → bs ≡ decimal n → ⊥) (λ n. (n < 2 ^ 16) × (bs ≡ decimal n))
read_number bs F u s first r e m is plain lone h = parsed bs s.now first r (kept_text bs F u s e m) is plain lone h

-- one digit, and two of which the first is not 0, are what `decimal` writes of their number
pub one_digit : (bs : List ℕ) (d : ℕ) → 1 ≤ length bs → length bs < 2 → d ≤ 9 → get_or bs 0 0 ≡ 48 + d → bs ≡ decimal d
one_digit [] d l m h e = absurd (omega arith)
one_digit (x ∷ []) d l m h e = (λ i. e i ∷ []) ∙ sym (decimal_digit d (omega arith))
one_digit (x ∷ y ∷ bs) d l m h e = absurd (omega arith)

pub two_digits : (bs : List ℕ) (a b : ℕ) → 2 ≤ length bs → length bs < 3 → a ≤ 9 → b ≤ 9 → (get_or bs 0 0 ≡ 48 → ⊥) → get_or bs 0 0 ≡ 48 + a → get_or bs 1 0 ≡ 48 + b → bs ≡ decimal (a * 10 + b)
two_digits [] a b l m h k z e f = absurd (omega arith)
two_digits (x ∷ []) a b l m h k z e f = absurd (omega arith)
two_digits (x ∷ y ∷ []) a b l m h k z e f =
    let above : 0 < a = omega (arith, z, e) in
    let tens : (a * 10 + b) / 10 ≡ a = omega arith in
    let ones : (a * 10 + b) % 10 ≡ b = omega arith in
    let written : decimal a ++ ((48 + b) ∷ []) ≡ (48 + a) ∷ (48 + b) ∷ [] = ap (λ (ds : List ℕ). ds ++ ((48 + b) ∷ [])) (decimal_digit a (omega arith)) in
    (λ i. e i ∷ f i ∷ []) ∙ sym (decimal_step (a * 10 + b) (omega arith) (omega arith) ∙ (λ i. decimal (tens i) ++ ((48 + ones i) ∷ [])) ∙ written)
two_digits (x ∷ y ∷ w ∷ bs) a b l m h k z e f = absurd (omega arith)

-- the same of a digit that is read
pub one_written : (bs : List ℕ) (o : Option ℕ) → 1 ≤ length bs → length bs < 2 → IfSome o (λ d. (d ≤ 9) × (get_or bs 0 0 ≡ 48 + d)) → IfSome o (λ n. (n ≤ 99) × (bs ≡ decimal n))
one_written bs (Some d) l m h = (omega (arith, h.0), one_digit bs d l m h.0 h.1)
one_written bs None l m h = tt

-- a list counted no further than one item over n has n items where the count is n, and only there
pub counted : (ws : List (List ℕ)) (n c : ℕ) → c ≡ length (take (n + 1) ws) → (c ≡ n → length ws ≡ n) × (length ws ≡ n → c ≡ n)
counted ws n c e = let l = length-take (n + 1) ws in (λ h. omega (arith, l, e, h), λ h. omega (arith, l, e, h))
