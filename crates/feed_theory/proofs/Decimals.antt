-- What it takes for a text to be the decimal of a number. Assumes nothing.
use Rattle.std.proofs.Common.{Some, ◌⊎◌, ⊎_elim, subst, MatchOption, Result, Ok, Err, IsUtf8, ◌≡◌, ℕ, zero, suc, ◌+◌, ◌-◌, ◌*◌, ◌^◌, ◌<◌, ◌≤◌, true, ◌&&◌, List, [], ◌∷◌, length, get_or, drop, ℤ, pos, negsuc, nat_abs, decimal, sym, ap, ◌∙◌, arith, w8, w16, SFits, to_z, of_z, rules}
use mir.Syntax.{Width}
use mir.Val.{hbits}
use Rattle.std.proofs.lemmas.Int.{to_z-of_z}
use Rattle.std.specs.Str.Iter.{LacksByte}
use Rattle.std.specs.Char.{is_ascii_digit}
use Rattle.std.specs.Int.{IsInRange}
use Rattle.std.specs.Fmt.{signed_decimal}
use Rattle.std.specs.Str.{all_ascii_digits}
use Rattle.std.proofs.lemmas.Str.Parse.{IsNumeralModel, numerals_by_fold, not_in_digits, parse_plain}
use Rattle.std.specs.Str.Parse.{ParsesUnsigned}
use Rattle.std.proofs.lemmas.Str.{IsUtf8-from_ascii}
use Rattle.std.specs.List.{slice_get}
use Rattle.feed_theory.proofs.Cuts.{lacks_cons}
use Rattle.feed_theory.proofs.Partial.{first_is}
use Rattle.std.proofs.lemmas.Fmt.{digits_decimal, decimal-digits_value, decimal_nonempty, decimal_digit, first_decimal, parse-decimal, IsAscii-decimal}
use Rattle.std.specs.Result.{result_ok}
use Rattle.std.proofs.lemmas.Bool.{true≢false}

abbrev pub read_on : ℕ → List ℕ → ℕ
read_on n [] = n
read_on n (c ∷ cs) = read_on (n * 10 + (c - 48)) cs

own : IsNumeralModel (λ ds. all_ascii_digits ds ≡ true) (read_on 0)
own = numerals_by_fold _ (search rules) read_on (search rules)

pub empty_text : (m : ℕ) → m < 2 ^ 64 → (bs : List ℕ) → length bs ≡ 0 → bs ≡ decimal m → ⊥
empty_text m w bs z e = omega (arith, decimal_nonempty m w, ap length e)

pub leading_zero : (m : ℕ) → m < 2 ^ 64 → (bs : List ℕ) → get_or bs 0 0 ≡ 48 → 1 < length bs → bs ≡ decimal m → ⊥
leading_zero zero w bs z l e = omega (arith, ap length (e ∙ decimal_digit 0 (omega arith)))
leading_zero (suc m) w bs z l e = omega (arith, first_decimal (suc m) (omega arith) w, ap (λ (ds : List ℕ). get_or ds 0 0) e)

pub utf8_decimal : (m : ℕ) → m < 2 ^ 64 → IsUtf8 (decimal m)
utf8_decimal m w = IsUtf8-from_ascii (decimal m) (IsAscii-decimal m w)

-- what `parse` makes of a text with no plus and no needless zero in front
pub parsed : {E : Type 0} (bs text : List ℕ) (first : ℕ) (r : Result ℕ E) → text ≡ bs → Some first ≡ slice_get bs 0 → (first ≡ 43 → ⊥) → ((first ≡ 48) × (length bs ≤ 1)) ⊎ (first ≡ 48 → ⊥) → ParsesUnsigned 16 10 text r
    → MatchOption (result_ok r) ((n : ℕ) → n < 2 ^ 16 → bs ≡ decimal n → ⊥) (λ n. (n < 2 ^ 16) × (bs ≡ decimal n))
parsed {E} bs text first r same is plain lone h = go r (subst (λ (t : List ℕ). ParsesUnsigned 16 10 t r) same h)
  where
    head : get_or bs 0 0 ≡ first
    head = sym (first_is bs first is)

    go : (q : Result ℕ E) → ParsesUnsigned 16 10 bs q → MatchOption (result_ok q) ((n : ℕ) → n < 2 ^ 16 → bs ≡ decimal n → ⊥) (λ n. (n < 2 ^ 16) × (bs ≡ decimal n))
    go (Ok x) k =
        let p = parse_plain own {E = E} 16 bs (Ok x) k (λ e. plain (sym head ∙ e)) in
        let short : get_or bs 0 0 ≡ 48 → length bs ≡ 1 = λ z. ⊎_elim (λ q. omega (arith, q.1, p.0.1)) (λ q. absurd (q (sym head ∙ z))) lone in
        (omega (arith, p.0.2, p.1), sym (decimal-digits_value own bs p.0.0 p.0.1 short (omega (arith, p.0.2))) ∙ ap decimal (sym p.1))
    go (Err x) k = λ n w e. let other : Err x ≡ Ok n = parse-decimal {E = E} 16 n bs (Err x) w (omega arith) e k in cc

-- one with a minus in front writes a negative number, if what follows writes a positive one
first_digit : (bs : List ℕ) → 0 < length bs → all_ascii_digits bs ≡ true → get_or bs 0 0 ≡ 45 → ⊥
first_digit [] l d e = omega arith
first_digit (b ∷ bs) l d e = true≢false (sym d ∙ ap (λ (c : ℕ). is_ascii_digit c && all_ascii_digits bs) e)

pub minus_none : (bs : List ℕ) (most : ℕ) → most < 2 ^ 64 → get_or bs 0 0 ≡ 45 → ((n : ℕ) → 0 < n → n ≤ most → drop 1 bs ≡ decimal n → ⊥) → (z : ℤ) → nat_abs z ≤ most → bs ≡ signed_decimal z → ⊥
minus_none bs most w minus none' (pos n) h e = first_digit (decimal n) (decimal_nonempty n (omega arith)) (digits_decimal own n (omega arith)) (ap (λ (l : List ℕ). get_or l 0 0) (sym e) ∙ minus)
minus_none bs most w minus none' (negsuc n) h e = none' (suc n) (omega arith) h (ap (λ (l : List ℕ). drop 1 l) e)

-- no other byte than digits and the minus stands in a number
pub decimal_lacks : (n c : ℕ) → n < 2 ^ 64 → (IsInRange 48 57 c → ⊥) → LacksByte c (decimal n)
decimal_lacks n c w h k within e = not_in_digits own (decimal n) c (digits_decimal own n w) h k within e

pub no_plus : (m : ℕ) → m < 2 ^ 64 → (bs : List ℕ) → get_or bs 0 0 ≡ 43 → bs ≡ decimal m → ⊥
no_plus m w bs p e = decimal_lacks m 43 w (λ d. omega (arith, d.0)) 0 (decimal_nonempty m w) (ap (λ (ds : List ℕ). get_or ds 0 0) (sym e) ∙ p)

pub signed_lacks : (z : ℤ) (c : ℕ) → nat_abs z ≤ 999 → (c ≡ 45 → ⊥) → (IsInRange 48 57 c → ⊥) → LacksByte c (signed_decimal z)
signed_lacks (pos n) c w m h = decimal_lacks n c (omega arith) h
signed_lacks (negsuc n) c w m h = lacks_cons c 45 (decimal (suc n)) (λ e. m (sym e)) (decimal_lacks (suc n) c (omega arith) h)

-- small numbers pass through their casts
fits_from_within : (w : Width) (n : ℕ) (z : ℤ) → n < 2 ^ hbits w → nat_abs z ≤ n → SFits w z
fits_from_within w n (pos m) h k = record { sfits = omega arith }
fits_from_within w n (negsuc m) h k = record { sfits = omega arith }

pub narrowed : (z : ℤ) → nat_abs z ≤ 99 → to_z w8 (of_z w8 (to_z w16 (of_z w16 z))) ≡ z
narrowed z h = ap (λ y. to_z w8 (of_z w8 y)) (to_z-of_z w16 z (fits_from_within w16 99 z (omega arith) h)) ∙ to_z-of_z w8 z (fits_from_within w8 99 z (omega arith) h)

pub kept_wide : (z : ℤ) → nat_abs z ≤ 999 → to_z w16 (of_z w16 z) ≡ z
kept_wide z h = to_z-of_z w16 z (fits_from_within w16 999 z (omega arith) h)
