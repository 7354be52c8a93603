-- Rows that are filled from the front, and labels without their padding. Assumes nothing.
use Rattle.std.proofs.Common.{unwrap_or, eqb, Bool, cond, not, ◌≡◌, ℕ, zero, suc, ◌+◌, ◌-◌, ◌<◌, true, List, [], ◌∷◌, ◌++◌, length, take, set, replicate, sym, refl, ap, ◌∙◌, append_assoc, arith}
use Rattle.std.proofs.lemmas.List.{set_at}
use Rattle.std.proofs.lemmas.Bool.{false≢true, ne_eqb}
use Rattle.std.specs.List.{AllByRecursion, position, position_or_len, before_first}
use Rattle.std.proofs.lemmas.Grind.{common_steps}
use Rattle.feed_types.specs.Limits.{letter, unpadded}

-- one more element takes the place of the first filler
pub fill : {A : Type 0} (z : A) (room i : ℕ) (xs : List A) (a : A) → i < room → length xs ≡ i → set (xs ++ replicate (room - i) z) i a ≡ (xs ++ a ∷ []) ++ replicate (room - (i + 1)) z
fill {A} z room i xs a h e =
    let n : room - i ≡ suc (room - (i + 1)) = omega arith in
    ap (λ (m : ℕ). set (xs ++ replicate m z) i a) n ∙ set_at xs z (replicate (room - (i + 1)) z) a i e ∙ sym (append_assoc xs (a ∷ []) (replicate (room - (i + 1)) z))

no_letters : (n : ℕ) → unpadded (replicate n 0) ≡ []
no_letters zero = refl
no_letters (suc n) = refl

pub unpadded_padded : (bs : List ℕ) (n : ℕ) → AllByRecursion (λ b. letter b ≡ true) bs → unpadded (bs ++ replicate n 0) ≡ bs
unpadded_padded [] n h = no_letters n
unpadded_padded (zero ∷ bs) n h = absurd (false≢true h.0)
unpadded_padded (suc b ∷ bs) n h = ap (λ l. suc b ∷ l) (unpadded_padded bs n h.1)

before_zero : (bs : List ℕ) → before_first (λ b. eqb b 0) bs ≡ unpadded bs
before_zero [] = refl
before_zero (zero ∷ bs) = grind arith
before_zero (suc b ∷ bs) =
    let n = position_or_len (λ b. eqb b 0) bs in
    let one : position_or_len (λ b. eqb b 0) (suc b ∷ bs) ≡ suc n = ap (λ (t : Bool). cond (not t) (1 + n) 0) (ne_eqb (suc b) 0 (λ e. omega (arith, e))) ∙ omega arith in
    ap (λ (m : ℕ). take m (suc b ∷ bs)) one ∙ ap (λ (l : List ℕ). suc b ∷ l) (before_zero bs)

-- a label's letters are its bytes up to the first 0, or all of them
pub unpadded_first : (bs : List ℕ) (n : ℕ) → length bs ≡ n → take (unwrap_or (position (λ b. eqb b 0) bs) n) bs ≡ unpadded bs
unpadded_first bs n e = let front = before_zero bs in grind (arith, common_steps)
