-- How a number is spelled: as `p`, as `p/m`, or as `(p+q√D)/m`. Assumes nothing.
--
--   Natural bs n        the bytes are 1 to 18 digits, and n is the number that they write
--   Positive bs z       the same, as a whole number z
--   Minus bs z          a − and then the digits of a number whose opposite is z
--   Whole bs z          a whole number: digits, with a − in front where it is negative
--   Step bs z           a whole number with its sign, + or −, always in front
--   Over t u p m        t is p, and u is m, which is not 0
--   Plain bs p m        the bytes are p alone, and m is 1, or they are p, a slash, and m, which is not 0
--   Beside t u p q      t is p, and u is q with its sign
--   Sum bs p q          the bytes are p and then q with its sign
--   UnderRoot bs n      the bytes are √ and n
--   Inside D bs p q     the bytes are p, q with its sign, √ and D
--   Below bs m          the bytes are `)/` and m, which is not 0
--   Rooted D bs p q m   the bytes are `(p+q√D)/m`, for a D above 0 and an m that is not 0
--   Spells D bs p q m   the bytes spell (p + q√D)/m in one of the three ways
use Rattle.std.specs.Prelude.{◌≡◌, ℕ, ◌<◌, ◌≤◌, ◌⊎◌, List, ◌∷◌, ◌++◌, length, ℤ, pos, neg_ℤ}
use Rattle.std.specs.Str.Parse.{AllDigits, digits_value}
use Rattle.numbers.specs.Texts.{root_sign}

pub record Natural (bs : List ℕ) (n : ℕ) : Type 0 where
  pub digits : AllDigits 10 bs
  pub some : 0 < length bs
  pub few : length bs ≤ 18
  pub is : n ≡ digits_value 10 bs

abbrev pub Positive : List ℕ → ℤ → Type 0
Positive bs z = (n : ℕ) × Natural bs n × (z ≡ pos n)

abbrev pub Minus : List ℕ → ℤ → Type 0
Minus bs z = (ds : List ℕ) × (bs ≡ 45 ∷ ds) × ((n : ℕ) × Natural ds n × (z ≡ neg_ℤ (pos n)))

abbrev pub Whole : List ℕ → ℤ → Type 0
Whole bs z = Positive bs z ⊎ Minus bs z

abbrev pub Step : List ℕ → ℤ → Type 0
Step bs z = ((ds : List ℕ) × (bs ≡ 43 ∷ ds) × Positive ds z) ⊎ Minus bs z

abbrev pub Over : List ℕ → List ℕ → ℤ → ℕ → Type 0
Over t u p m = Whole t p × Natural u m × (0 < m)

abbrev pub Plain : List ℕ → ℤ → ℕ → Type 0
Plain bs p m =
    (Whole bs p × (m ≡ 1))
    ⊎ ((t : List ℕ) × (u : List ℕ) × (bs ≡ t ++ (47 ∷ u)) × Over t u p m)

abbrev pub Beside : List ℕ → List ℕ → ℤ → ℤ → Type 0
Beside t u p q = Whole t p × Step u q

abbrev pub Sum : List ℕ → ℤ → ℤ → Type 0
Sum bs p q = (t : List ℕ) × (u : List ℕ) × (bs ≡ t ++ u) × Beside t u p q

abbrev pub UnderRoot : List ℕ → ℕ → Type 0
UnderRoot bs n = (u : List ℕ) × (bs ≡ root_sign ++ u) × Natural u n

abbrev pub Inside : ℕ → List ℕ → ℤ → ℤ → Type 0
Inside D bs p q = (t : List ℕ) × (u : List ℕ) × (bs ≡ t ++ u) × Sum t p q × UnderRoot u D

abbrev pub Below : List ℕ → ℕ → Type 0
Below bs m = (u : List ℕ) × (bs ≡ 41 ∷ (47 ∷ u)) × Natural u m × (0 < m)

abbrev pub Rooted : ℕ → List ℕ → ℤ → ℤ → ℕ → Type 0
Rooted D bs p q m = (t : List ℕ) × (u : List ℕ) × (bs ≡ 40 ∷ (t ++ u)) × Inside D t p q × Below u m × (0 < D)

abbrev pub Spells : ℕ → List ℕ → ℤ → ℤ → ℕ → Type 0
Spells D bs p q m = (Plain bs p m × (q ≡ pos 0)) ⊎ Rooted D bs p q m
