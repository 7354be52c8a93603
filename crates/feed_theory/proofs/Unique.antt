-- A text has its lines in one way, and lines have their sizes and trains in one way. Assumes nothing.
use Rattle.std.proofs.Common.{◌≡◌, ℕ, zero, suc, ◌-◌, ◌*◌, ◌^◌, ◌<◌, ◌≤◌, true, List, [], ◌∷◌, ◌++◌, length, get_or, take, drop, replicate, ℤ, pos, negsuc, decimal, sym, refl, ap, ◌∙◌, subst, append_assoc, append-nil, arith}
use lib.Signed.{mag}
use Rattle.std.specs.List.{flat_map, AllByRecursion}
use Rattle.std.specs.Str.Iter.{LacksByte}
use Rattle.std.specs.Fmt.{signed_decimal}
use Rattle.std.proofs.lemmas.Fmt.{decimal_injective, signed_decimal_injective}
use Rattle.std.proofs.ByRecursion.{All-get_or, All-take, All-append}
use Rattle.std.proofs.lemmas.List.{length-append, length-take-le}
use Rattle.std.proofs.lemmas.Bool.{false≢true}
use Rattle.feed_types.specs.declared.keys.Key.{Key}
use Rattle.feed_types.specs.declared.keys.Key.TheVariants as key
use Rattle.feed_types.specs.declared.types.Label.{Label}
use Rattle.feed_types.specs.declared.types.Sizes.{Sizes}
use Rattle.feed_types.specs.declared.types.Train.{Train}
use Rattle.feed_types.specs.Limits.{GoodSizes, GoodTrain, GoodLabel, Factors, Within, letter, name}
use Rattle.feed_types.specs.Reading.{block_keys}
use Rattle.feed_types.specs.Text.{Feed, Good, header, block, commas, line, lines, run_on}
use Rattle.feed_types.specs.Tokens.{spelt}
use Rattle.feed_theory.proofs.BlockLines.{same_from_line}
use Rattle.feed_theory.proofs.Cuts.{same_cut, lacks_append, lacks_cons}
use Rattle.feed_theory.proofs.Decimals.{decimal_lacks, signed_lacks}
use Rattle.feed_theory.proofs.Keys.{spelt_lacks}
use Rattle.feed_theory.proofs.Words.{same_from_commas}

-- a line ends with its only byte 10
pub record Ended (l : List ℕ) : Type 0 where
  pub front : List ℕ
  pub plain : LacksByte 10 front
  pub is : l ≡ front ++ (10 ∷ [])

pub ended_line : (k : Key) (v : List ℕ) → LacksByte 10 v → Ended (line (spelt k) v)
ended_line k v h = record {
  front = spelt k ++ (61 ∷ v);
  plain = lacks_append 10 (spelt k) (61 ∷ v) (spelt_lacks k 10 (omega arith)) (lacks_cons 10 61 v (λ e. omega arith) h);
  is = sym (append_assoc (spelt k) (61 ∷ v) (10 ∷ []));
}

-- the end of the first line
pub first_end : (l : List ℕ) (ls : List (List ℕ)) (r : List ℕ) (h : Ended l) → run_on (l ∷ ls) ++ r ≡ h.front ++ (10 ∷ (run_on ls ++ r))
first_end l ls r h = ap (λ (w : List ℕ). (w ++ run_on ls) ++ r) h.is ∙ simp append_assoc

-- lines are told by what they run on to
pub same_lines : (ls ms : List (List ℕ)) (r q : List ℕ) → AllByRecursion Ended ls → AllByRecursion Ended ms → length ls ≡ length ms → run_on ls ++ r ≡ run_on ms ++ q → (ls ≡ ms) × (r ≡ q)
same_lines [] [] r q al am n e = (refl, e)
same_lines [] (m ∷ ms) r q al am n e = absurd (omega arith)
same_lines (l ∷ ls) [] r q al am n e = absurd (omega arith)
same_lines (l ∷ ls) (m ∷ ms) r q (x, al) (y, am) n e =
    let cut = same_cut 10 x.front y.front (run_on ls ++ r) (run_on ms ++ q) x.plain y.plain (sym (first_end l ls r x) ∙ e ∙ first_end m ms q y) in
    let rest = same_lines ls ms r q al am (omega arith) cut.1 in
    let head = x.is ∙ ap (λ (w : List ℕ). w ++ (10 ∷ [])) cut.0 ∙ sym y.is in
    ((λ i. head i ∷ rest.0 i), rest.1)

some_bytes : (l : List ℕ) (ls : List (List ℕ)) → Ended l → 0 < length (run_on (l ∷ ls))
some_bytes l ls h = omega (arith, length-append l (run_on ls), ap length h.is, length-append h.front (10 ∷ []))

-- and so is how many there are
pub same_count : (ls ms : List (List ℕ)) → AllByRecursion Ended ls → AllByRecursion Ended ms → run_on ls ≡ run_on ms → length ls ≡ length ms
same_count [] [] al am e = refl
same_count [] (m ∷ ms) al am e = absurd (omega (arith, some_bytes m ms am.0, ap length e))
same_count (l ∷ ls) [] al am e = absurd (omega (arith, some_bytes l ls al.0, ap length e))
same_count (l ∷ ls) (m ∷ ms) al am e =
    let cut = same_cut 10 al.0.front am.0.front (run_on ls ++ []) (run_on ms ++ []) al.0.plain am.0.plain (sym (first_end l ls [] al.0) ∙ append-nil (run_on (l ∷ ls)) ∙ e ∙ sym (append-nil (run_on (m ∷ ms))) ∙ first_end m ms [] am.0) in
    ap suc (same_count ls ms al.1 am.1 (sym (append-nil (run_on ls)) ∙ cut.1 ∙ append-nil (run_on ms)))

-- no value has a byte 10
name_lacks : (bs : List ℕ) → AllByRecursion (λ b. letter b ≡ true) bs → LacksByte 10 bs
name_lacks bs h k within e = not_letter (sym (All-get_or (λ b. letter b ≡ true) bs k 0 within h) ∙ ap letter e)
  where
    not_letter : true ≡ letter 10 → ⊥
    not_letter p = false≢true (sym p)

commas_lacks : (zs : List ℤ) → AllByRecursion (Within 99) zs → LacksByte 10 (commas zs)
commas_lacks [] h k within e = omega arith
commas_lacks (z ∷ []) h k within e = signed_lacks z 10 (omega (arith, h.0)) (λ e. omega arith) (λ d. omega (arith, d.0)) k within e
commas_lacks (z ∷ y ∷ zs) h k within e =
    lacks_append 10 (signed_decimal z) (44 ∷ commas (y ∷ zs)) (signed_lacks z 10 (omega (arith, h.0)) (λ e. omega arith) (λ d. omega (arith, d.0)))
    (lacks_cons 10 44 (commas (y ∷ zs)) (λ e. omega arith) (commas_lacks (y ∷ zs) h.1)) k within e

pub count_lacks : (n : ℕ) → n ≤ 999 → LacksByte 10 (decimal n)
count_lacks n h = decimal_lacks n 10 (omega arith) (λ d. omega (arith, d.0))

ended_header : (s : Sizes) → GoodSizes s → AllByRecursion Ended (header s)
unfolding header
ended_header s g = (
  ended_line key.Stops _ (count_lacks s.stops (omega (arith, g.stops.1))),
  (
    ended_line key.States _ (count_lacks s.states (omega (arith, g.states.1))),
    (ended_line key.Inputs _ (count_lacks s.inputs (omega (arith, g.inputs.1))), tt),
  ),
)

pub ended_block : (s : Sizes) (t : Train) → GoodSizes s → GoodTrain s t → AllByRecursion Ended (block s t)
unfolding block
ended_block s t g h = (
  ended_line key.Train _ (name_lacks (name t.label) h.label.text.letters),
  (
    ended_line key.Stop _ (count_lacks t.stop (omega (arith, h.stop, g.stops.1))),
    (
      ended_line key.Weight _ (count_lacks t.weight h.weight.1),
      (
        ended_line key.Late _ (commas_lacks (take s.states t.late) (All-take (Within 99) s.states t.late h.late.small)),
        (
          ended_line key.Move _ (commas_lacks (take s.inputs t.moves) (All-take (Within 99) s.inputs t.moves h.moves.small)),
          (ended_line key.Aim _ (signed_lacks t.aim 10 h.aim (λ e. omega arith) (λ d. omega (arith, d.0))), tt),
        ),
      ),
    ),
  ),
)

-- each line of a block has its key, and no second end
pub keyed_block : (s : Sizes) (t : Train) (i : ℕ) → GoodSizes s → GoodTrain s t → i < 6 → (v : List ℕ) × LacksByte 10 v × (get_or (block s t) i [] ≡ line (spelt (get_or block_keys i key.Aim)) v)
unfolding block
keyed_block s t zero g h l = (_, name_lacks (name t.label) h.label.text.letters, refl)
keyed_block s t (suc zero) g h l = (_, count_lacks t.stop (omega (arith, h.stop, g.stops.1)), refl)
keyed_block s t (suc (suc zero)) g h l = (_, count_lacks t.weight h.weight.1, refl)
keyed_block s t (suc (suc (suc zero))) g h l = (_, commas_lacks (take s.states t.late) (All-take (Within 99) s.states t.late h.late.small), refl)
keyed_block s t (suc (suc (suc (suc zero)))) g h l = (_, commas_lacks (take s.inputs t.moves) (All-take (Within 99) s.inputs t.moves h.moves.small), refl)
keyed_block s t (suc (suc (suc (suc (suc zero))))) g h l = (_, signed_lacks t.aim 10 h.aim (λ e. omega arith) (λ d. omega (arith, d.0)), refl)
keyed_block s t (suc (suc (suc (suc (suc (suc i)))))) g h l = absurd (omega arith)

pub ended_lines : (f : Feed) → Good f → AllByRecursion Ended (lines f)
unfolding lines
ended_lines f g = All-append Ended (header f.sizes) (flat_map (block f.sizes) f.trains) (ended_header f.sizes g.sizes) (blocks f.trains g.trains)
  where
    blocks : (ts : List Train) → AllByRecursion (GoodTrain f.sizes) ts → AllByRecursion Ended (flat_map (block f.sizes) ts)
    blocks [] h = tt
    blocks (t ∷ ts) h = All-append Ended (block f.sizes t) (flat_map (block f.sizes) ts) (ended_block f.sizes t g.sizes h.0) (blocks ts h.1)

-- a train is told by its block
module _ (s : Sizes) (g : GoodSizes s) where
  same_label : (l m : Label) → GoodLabel l → GoodLabel m → name l ≡ name m → l ≡ m
  same_label l m gl gm e =
      let bytes = gl.padded ∙ ap (λ (n : List ℕ). n ++ replicate (8 - length n) 0) e ∙ sym gm.padded in
      λ i. record { bytes = bytes i }

  same_factors : (n room : ℕ) (xs ys : List ℤ) → 1 ≤ n → n ≤ room → Factors n room xs → Factors n room ys → commas (take n xs) ≡ commas (take n ys) → xs ≡ ys
  same_factors n room xs ys low high fx fy e =
      let front = same_from_commas (take n xs) (take n ys) (omega (arith, length-take-le n xs (omega (arith, fx.long)))) (omega (arith, length-take-le n ys (omega (arith, fy.long)))) (All-take (Within 99) n xs fx.small) (All-take (Within 99) n ys fy.small) e in
      fx.padded ∙ ap (λ (l : List ℤ). l ++ replicate (room - n) (pos 0)) front ∙ sym fy.padded

  mag_small : (z : ℤ) → Within 999 z → mag z < 2 ^ 63
  mag_small (pos n) h = omega arith
  mag_small (negsuc n) h = omega arith

  pub same_train : (t u : Train) → GoodTrain s t → GoodTrain s u → block s t ≡ block s u → t ≡ u
  unfolding block
  same_train t u gt gu e = λ i. record { stop = stop i; label = label i; weight = weight i; late = late i; moves = moves i; aim = aim i }
    where
      at : (i : ℕ) → get_or (block s t) i [] ≡ get_or (block s u) i []
      at i = ap (λ (l : List (List ℕ)). get_or l i []) e

      label : t.label ≡ u.label
      label = same_label t.label u.label gt.label gu.label (same_from_line (spelt key.Train) _ _ (at 0))

      stop : t.stop ≡ u.stop
      stop = decimal_injective t.stop u.stop (omega (arith, gt.stop, g.stops.1)) (omega (arith, gu.stop, g.stops.1)) (same_from_line (spelt key.Stop) _ _ (at 1))

      weight : t.weight ≡ u.weight
      weight = decimal_injective t.weight u.weight (omega (arith, gt.weight.1)) (omega (arith, gu.weight.1)) (same_from_line (spelt key.Weight) _ _ (at 2))

      late : t.late ≡ u.late
      late = same_factors s.states 4 t.late u.late g.states.0 g.states.1 gt.late gu.late (same_from_line (spelt key.Late) _ _ (at 3))

      moves : t.moves ≡ u.moves
      moves = same_factors s.inputs 3 t.moves u.moves g.inputs.0 g.inputs.1 gt.moves gu.moves (same_from_line (spelt key.Move) _ _ (at 4))

      aim : t.aim ≡ u.aim
      aim = signed_decimal_injective t.aim u.aim (mag_small t.aim gt.aim) (mag_small u.aim gu.aim) (same_from_line (spelt key.Aim) _ _ (at 5))

  -- blocks in a row
  blocks_long : (ts : List Train) → length (flat_map (block s) ts) ≡ 6 * length ts
  unfolding block
  blocks_long [] = refl
  blocks_long (t ∷ ts) = omega (arith, blocks_long ts)

  first_block : (j : ℕ) (t u : Train) (xs ys : List (List ℕ)) → take (6 * suc j) (block s t ++ xs) ≡ take (6 * suc j) (block s u ++ ys) → (block s t ≡ block s u) × (take (6 * j) xs ≡ take (6 * j) ys)
  unfolding block
  first_block j t u xs ys e =
      let six : 6 * suc j ≡ suc (suc (suc (suc (suc (suc (6 * j)))))) = omega arith in
      let e' = subst (λ (n : ℕ). take n (block s t ++ xs) ≡ take n (block s u ++ ys)) six e in
      (ap (take 6) e', ap (drop 6) e')

  pub same_trains : (j : ℕ) (ts us : List Train) → j ≤ length ts → j ≤ length us → AllByRecursion (GoodTrain s) ts → AllByRecursion (GoodTrain s) us → take (6 * j) (flat_map (block s) ts) ≡ take (6 * j) (flat_map (block s) us) → take j ts ≡ take j us
  same_trains zero ts us hj hk at au e = refl
  same_trains (suc j) [] us hj hk at au e = absurd (omega arith)
  same_trains (suc j) (t ∷ ts) [] hj hk at au e = absurd (omega arith)
  same_trains (suc j) (t ∷ ts) (u ∷ us) hj hk at au e =
      let cut = first_block j t u (flat_map (block s) ts) (flat_map (block s) us) e in
      let head = same_train t u at.0 au.0 cut.0 in
      let tail = same_trains j ts us (omega arith) (omega arith) at.1 au.1 cut.1 in
      λ i. head i ∷ tail i
