-- Keys are lower-case letters, and each is spelt in its own way. Assumes nothing.
use Rattle.std.proofs.Common.{◌≡◌, ℕ, ◌+◌, ◌<◌, ◌≤◌, Bool, true, cond, ◌&&◌, eqb, leb, List, [], ◌∷◌, IsUtf8, sym, refl, ap, ◌∙◌, arith}
use Rattle.std.specs.Str.Iter.{LacksByte}
use Rattle.std.specs.List.{AllByRecursion}
use Rattle.std.proofs.ByRecursion.{IsAscii-from_all, All-get_or, All-weaker}
use Rattle.std.proofs.lemmas.Bool.{and_parts, leb-true}
use Rattle.std.proofs.lemmas.Str.{IsUtf8-from_ascii}
use Rattle.feed_types.specs.declared.keys.Key.{Key}
use Rattle.feed_types.specs.declared.keys.Key.TheVariants as key
use Rattle.feed_types.specs.Tokens.{spelt}

abbrev lowers : List ℕ → Bool
lowers [] = true
lowers (b ∷ bs) = (leb 97 b && leb b 122) && lowers bs

abbrev Lower : ℕ → Type 0
Lower b = (97 ≤ b) × (b ≤ 122)

all_lower : (bs : List ℕ) → lowers bs ≡ true → AllByRecursion Lower bs
all_lower [] h = tt
all_lower (b ∷ bs) h =
    let p = and_parts (leb 97 b && leb b 122) (lowers bs) h in
    let q = and_parts (leb 97 b) (leb b 122) p.0 in
    ((leb-true 97 b q.0, leb-true b 122 q.1), all_lower bs p.1)

spelt_lowers : (k : Key) → lowers (spelt k) ≡ true
spelt_lowers key.Stops = refl
spelt_lowers key.States = refl
spelt_lowers key.Inputs = refl
spelt_lowers key.Train = refl
spelt_lowers key.Stop = refl
spelt_lowers key.Weight = refl
spelt_lowers key.Late = refl
spelt_lowers key.Move = refl
spelt_lowers key.Aim = refl

spelt_lower : (k : Key) → AllByRecursion Lower (spelt k)
spelt_lower k = all_lower (spelt k) (spelt_lowers k)

pub spelt_lacks : (k : Key) (c : ℕ) → c < 97 → LacksByte c (spelt k)
spelt_lacks k c h i within e = omega (arith, All-get_or Lower (spelt k) i 0 within (spelt_lower k))

pub spelt_utf8 : (k : Key) → IsUtf8 (spelt k)
spelt_utf8 k = IsUtf8-from_ascii (spelt k) (IsAscii-from_all (spelt k) (All-weaker Lower (λ b. b < 128) (λ b h. omega arith) (spelt k) (spelt_lower k)))

-- the bytes of a key add up to a number of its own
abbrev tally : List ℕ → ℕ
tally [] = 0
tally (b ∷ bs) = b + tally bs

abbrev tallied : ℕ → Key
tallied n =
    cond (eqb n 569) key.Stops (cond (eqb n 660) key.States (cond (eqb n 675) key.Inputs (cond (eqb n 542) key.Train (cond (eqb n 454) key.Stop (cond (eqb n 648) key.Weight (cond (eqb n 422) key.Late (cond (eqb n 439) key.Move key.Aim)))))))

tallied_spelt : (k : Key) → tallied (tally (spelt k)) ≡ k
tallied_spelt key.Stops = refl
tallied_spelt key.States = refl
tallied_spelt key.Inputs = refl
tallied_spelt key.Train = refl
tallied_spelt key.Stop = refl
tallied_spelt key.Weight = refl
tallied_spelt key.Late = refl
tallied_spelt key.Move = refl
tallied_spelt key.Aim = refl

pub same_from_spelt : (j k : Key) → spelt j ≡ spelt k → j ≡ k
same_from_spelt j k e = sym (tallied_spelt j) ∙ ap (λ (bs : List ℕ). tallied (tally bs)) e ∙ tallied_spelt k
