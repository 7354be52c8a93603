-- Numbers as text. Assumes nothing.
--
--   root_sign           the bytes of √
--   with_sign q         a whole number with its sign, + or −, always written
--   plain_text p m      the text of p/m: p alone where m is 1
--   root_text D p q m   the text of (p + q√D)/m with every part written
--   number_text D row   the text of a row: plain where q is 0, else with the root
--   fault_text e        the text of a refusal, with its number
use Rattle.std.specs.Prelude.{ℕ, suc, Bool, false, cond, List, [], ◌∷◌, ◌++◌, ℤ, pos, negsuc, decimal, ◌==◌, codes}
use Rattle.std.specs.Fmt.{signed_decimal}
use Rattle.numbers.specs.declared.Parts.{Parts}
use Rattle.numbers.specs.declared.NumberFault.{NumberFault}
use Rattle.numbers.specs.declared.NumberFault.TheVariants.{TooLarge, ZeroDivisor}

abbrev pub root_sign : List ℕ
root_sign = 226 ∷ 136 ∷ 154 ∷ []

abbrev pub with_sign : ℤ → List ℕ
with_sign (pos n) = 43 ∷ decimal n
with_sign (negsuc n) = 45 ∷ decimal (suc n)

-- z is the natural number n
abbrev pub is : ℤ → ℕ → Bool
is (pos k) n = k == n
is (negsuc k) n = false

abbrev pub plain_text : ℤ → ℤ → List ℕ
plain_text p m = cond (is m 1) (signed_decimal p) (signed_decimal p ++ (47 ∷ signed_decimal m))

abbrev pub root_text : ℤ → ℤ → ℤ → ℤ → List ℕ
root_text d p q m = 40 ∷ (signed_decimal p ++ (with_sign q ++ (root_sign ++ (signed_decimal d ++ (41 ∷ (47 ∷ signed_decimal m))))))

abbrev pub number_text : ℤ → Parts → List ℕ
number_text d row = cond (is row.q 0) (plain_text row.p row.m) (root_text d row.p row.q row.m)

abbrev pub fault_text : NumberFault → List ℕ
fault_text TooLarge = codes "refused 1: the number is too large for its kind"
fault_text ZeroDivisor = codes "refused 2: the divisor is 0"
