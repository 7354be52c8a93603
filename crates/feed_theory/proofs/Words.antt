-- A value parted at its commas, and the numbers that its parts write. Assumes nothing.
use Rattle.std.proofs.Common.{◌≡◌, ℕ, zero, suc, ◌+◌, ◌-◌, ◌^◌, ◌<◌, ◌≤◌, false, eqb, List, [], ◌∷◌, ◌++◌, map, length, get_or, take, drop, set, replicate, ℤ, pos, negsuc, sym, refl, ap, ◌∙◌, subst, arith}
use lib.Signed.{mag}
use Rattle.std.proofs.lemmas.List.FromFn.{length-enumerate_from, get_or-enumerate_from}
use Rattle.std.specs.List.{enumerate_from, join_with_byte, slice_split, All, AllByRecursion}
use Rattle.std.proofs.lemmas.List.Splits.{slice_split_at, slice_split_none, join_with_byte-slice_split}
use Rattle.std.specs.Str.Iter.{LacksByte}
use Rattle.std.specs.Fmt.{signed_decimal}
use Rattle.std.proofs.lemmas.Fmt.{signed_decimal_injective}
use Rattle.std.proofs.ByRecursion.{All-append, All-get_or, All-push}
use Rattle.std.proofs.lemmas.List.{drop-replicate, take_at, get_or_default, get_or-map, length-map, length-append, map_push, take_more, take_more_set, take_all, length-replicate}
use Rattle.std.proofs.lemmas.Bool.{ne_eqb}
use Rattle.feed_types.specs.Limits.{Within, Factors}
use Rattle.feed_types.specs.Text.{commas}
use Rattle.feed_theory.proofs.Decimals.{signed_lacks}

-- the parts of a value between its commas
abbrev pub words : List ℕ → List (List ℕ)
words bs = slice_split (λ b. eqb b 44) bs

no_commas : (w : List ℕ) → LacksByte 44 w → All (λ b. eqb b 44 ≡ false) w
no_commas w l k d h = ne_eqb (get_or w k d) 44 (λ e. l k h (get_or_default w k 0 d h ∙ e))

words_cut : (w bs : List ℕ) → LacksByte 44 w → words (w ++ (44 ∷ bs)) ≡ w ∷ words bs
words_cut w bs l = slice_split_at (λ b. eqb b 44) w 44 bs (no_commas w l) refl

words_last : (w : List ℕ) → LacksByte 44 w → words w ≡ w ∷ []
words_last w l = slice_split_none (λ b. eqb b 44) w (no_commas w l)

pub words_commas : (zs : List ℤ) → 0 < length zs → AllByRecursion (Within 99) zs → words (commas zs) ≡ map signed_decimal zs
words_commas [] h a = absurd (omega arith)
words_commas (z ∷ []) h a = words_last (signed_decimal z) (signed_lacks z 44 (omega (arith, a.0)) (λ e. omega arith) (λ d. omega (arith, d.0)))
words_commas (z ∷ y ∷ zs) h a =
    words_cut (signed_decimal z) (commas (y ∷ zs)) (signed_lacks z 44 (omega (arith, a.0)) (λ e. omega arith) (λ d. omega (arith, d.0)))
    ∙ ap (λ (l : List (List ℕ)). signed_decimal z ∷ l) (words_commas (y ∷ zs) (omega arith) a.1)

-- the first k words of a text are read into zs
pub record Filled (text : List ℕ) (k : ℕ) (zs : List ℤ) : Type 0 where
  pub small : AllByRecursion (Within 99) (take k zs)
  pub reads : map signed_decimal (take k zs) ≡ take k (words text)

pub filled_more : (text : List ℕ) (k : ℕ) (zs : List ℤ) (z : ℤ) → Filled text k zs → k < length zs → k < length (words text) → Within 99 z → get_or (words text) k [] ≡ signed_decimal z → Filled text (k + 1) (set zs k z)
filled_more text k zs z f inside lt w e = record {
  small = subst (AllByRecursion (Within 99)) (sym pushed) (All-push (Within 99) (take k zs) z f.small w);
  reads = ap (map signed_decimal) pushed ∙ map_push signed_decimal (take k zs) z ∙ (λ i. f.reads i ++ (sym e i ∷ [])) ∙ sym (take_more (words text) k [] lt);
}
  where
    pushed : take (k + 1) (set zs k z) ≡ take k zs ++ (z ∷ [])
    pushed = take_more_set zs k z inside

pub filled_all : (text : List ℕ) (k : ℕ) (zs : List ℤ) → length zs ≡ k → length (words text) ≡ k → Filled text k zs → AllByRecursion (Within 99) zs × (text ≡ commas zs)
filled_all text k zs e h f = (
  subst (AllByRecursion (Within 99)) (take_all k zs (omega arith)) f.small,
  sym (join_with_byte-slice_split 44 text) ∙ ap (join_with_byte 44) (sym (take_all k (words text) (omega arith)) ∙ sym f.reads ∙ ap (map signed_decimal) (take_all k zs (omega arith))),
)

-- a text that factors write has their words
module _ (text : List ℕ) (zs : List ℤ) (some : 0 < length zs) (small : AllByRecursion (Within 99) zs) (e : text ≡ commas zs) where
  words_are : words text ≡ map signed_decimal zs
  words_are = ap words e ∙ words_commas zs some small

  pub words_many : length (words text) ≡ length zs
  words_many = ap length words_are ∙ length-map zs signed_decimal

  pub word_read : (k : ℕ) → k < length zs → ((z : ℤ) → Within 99 z → get_or (words text) k [] ≡ signed_decimal z → ⊥) → ⊥
  word_read k lt none' = none' (get_or zs k (pos 0)) (All-get_or (Within 99) zs k (pos 0) lt small) (ap (λ (l : List (List ℕ)). get_or l k []) words_are ∙ get_or-map signed_decimal zs k (pos 0) [] lt)

-- factors are told by their text
pub same_from_commas : (xs ys : List ℤ) → 0 < length xs → 0 < length ys → AllByRecursion (Within 99) xs → AllByRecursion (Within 99) ys → commas xs ≡ commas ys → xs ≡ ys
same_from_commas xs ys hx hy ax ay e = same xs ys ax ay (sym (words_commas xs hx ax) ∙ ap words e ∙ words_commas ys hy ay)
  where
    mag_small : (z : ℤ) → Within 99 z → mag z < 2 ^ 63
    mag_small (pos n) h = omega arith
    mag_small (negsuc n) h = omega arith

    same : (us vs : List ℤ) → AllByRecursion (Within 99) us → AllByRecursion (Within 99) vs → map signed_decimal us ≡ map signed_decimal vs → us ≡ vs
    same [] [] au av p = refl
    same [] (v ∷ vs) au av p = absurd (omega (arith, ap length p))
    same (u ∷ us) [] au av p = absurd (omega (arith, ap length p))
    same (u ∷ us) (v ∷ vs) au av p =
        let head = signed_decimal_injective u v (mag_small u au.0) (mag_small v av.0) (ap (λ (l : List (List ℕ)). get_or l 0 []) p) in
        let tail = same us vs au.1 av.1 (ap (drop 1) p) in
        λ i. head i ∷ tail i

-- one word, by its index
pub word_at : (text : List ℕ) (i k : ℕ) (w : List ℕ) → (i < length (enumerate_from 0 (words text))) × ((k, w) ≡ get_or (enumerate_from 0 (words text)) i (k, w)) → (k ≡ i) × (i < length (words text)) × (get_or (words text) i [] ≡ w)
word_at text i k w (h, e) =
    let inside : i < length (words text) = omega (arith, h, length-enumerate_from 0 (words text)) in
    let p = e ∙ get_or-enumerate_from 0 (words text) i (k, w) inside in
    (ap (λ (x : ℕ × List ℕ). x.0) p ∙ omega arith, inside, get_or_default (words text) i [] w inside ∙ sym (ap (λ (x : ℕ × List ℕ). x.1) p))

-- zeros past the factors that are read
pub padded : (n room : ℕ) (zs : List ℤ) → length zs ≡ n → n ≤ room → AllByRecursion (Within 99) zs → Factors n room (zs ++ drop n (replicate room (pos 0))) × (take n (zs ++ drop n (replicate room (pos 0))) ≡ zs)
padded n room zs e h small = (
  record {
    long = length-append zs _ ∙ omega (arith, e, ap length rest, length-replicate (room - n) (pos 0));
    small = All-append (Within 99) zs (drop n (replicate room (pos 0))) small (subst (AllByRecursion (Within 99)) (sym rest) (zeros (room - n)));
    padded = ap (λ (l : List ℤ). zs ++ l) rest ∙ ap (λ (l : List ℤ). l ++ replicate (room - n) (pos 0)) (sym front);
  },
  front,
)
  where
    rest : drop n (replicate room (pos 0)) ≡ replicate (room - n) (pos 0)
    rest = drop-replicate n room (pos 0)

    front : take n (zs ++ drop n (replicate room (pos 0))) ≡ zs
    front = take_at zs (drop n (replicate room (pos 0))) n e

    zeros : (m : ℕ) → AllByRecursion (Within 99) (replicate m (pos 0))
    zeros zero = tt
    zeros (suc m) = (omega arith, zeros m)
