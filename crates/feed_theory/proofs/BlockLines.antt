-- A block read line by line. Assumes nothing.
use Rattle.std.proofs.Common.{◌≡◌, ℕ, zero, suc, ◌+◌, ◌-◌, ◌<◌, ◌≤◌, List, [], ◌∷◌, ◌++◌, length, get_or, take, drop, replicate, ℤ, pos, decimal, sym, refl, ap, ◌∙◌, subst, append_assoc, append-nil, add-zero, arith, lit≤}
use Rattle.std.specs.Fmt.{signed_decimal}
use Rattle.std.specs.List.{AllByRecursion}
use Rattle.std.proofs.lemmas.Fmt.{decimal_injective}
use Rattle.std.proofs.ByRecursion.{All-take}
use Rattle.feed_theory.proofs.Words.{same_from_commas}
use Rattle.std.proofs.lemmas.List.{length-take-le, append_cancel_left, append_cancel_right, take_more, take-replicate, replicate-append-replicate, length-replicate}
use Rattle.feed_types.specs.declared.faults.FeedFault.{FeedFault}
use Rattle.feed_types.specs.declared.faults.FeedFault.TheVariants.{TooLong, NoLine, BadValue, OtherSize, OtherValues, BookFull}
use Rattle.feed_types.specs.declared.keys.Key.{Key}
use Rattle.feed_types.specs.declared.keys.Key.TheVariants as key
use Rattle.feed_types.specs.declared.keys.Place.{Place}
use Rattle.feed_types.specs.declared.types.Label.{Label}
use Rattle.feed_types.specs.declared.types.Sizes.{Sizes}
use Rattle.feed_types.specs.declared.types.Train.{Train}
use Rattle.feed_types.specs.Blocks.{NextLine, BadBlock, ReadBlock}
use Rattle.feed_types.specs.Fields.{Counts, Lists, AllZero, Integers, BadLine}
use Rattle.feed_types.specs.Limits.{GoodSizes, GoodTrain, GoodLabel, LabelText, Factors, Within, name}
use Rattle.feed_types.specs.Reading.{block_keys}
use Rattle.feed_types.specs.Text.{block, commas, line, run_on}
use Rattle.feed_types.specs.Tokens.{spelt, InFeed, LineAt}

pub run_on_append : (ls ms : List (List ℕ)) → run_on (ls ++ ms) ≡ run_on ls ++ run_on ms
run_on_append [] ms = refl
run_on_append (l ∷ ls) ms = ap (λ (r : List ℕ). l ++ r) (run_on_append ls ms) ∙ sym (append_assoc l (run_on ls) (run_on ms))

-- a line of a key tells its value
pub same_from_line : (k v w : List ℕ) → line k v ≡ line k w → v ≡ w
same_from_line k v w e = append_cancel_right v w (10 ∷ []) (ap (drop 1) (append_cancel_left k (61 ∷ (v ++ (10 ∷ []))) (61 ∷ (w ++ (10 ∷ []))) e))

-- the first i lines of the block at p are those of t, and q is the place after them
pub record ReadsTo (s : Sizes) (bs : List ℕ) (p : Place) (i : ℕ) (t : Train) (q : Place) : Type 0 where
  pub good : GoodTrain s t
  pub begins : drop p.at bs ≡ run_on (take i (block s t)) ++ drop q.at bs
  pub number : q.line ≡ p.line + i
  pub below : p.at + i ≤ q.at
  pub next : InFeed bs q

block_long : (s : Sizes) (t : Train) → length (block s t) ≡ 6
unfolding block
block_long s t = refl

pub one_line_more : (s : Sizes) (bs : List ℕ) (p q r : Place) (i : ℕ) (t u : Train) (k : Key) (v : List ℕ) → i < 6 → ReadsTo s bs p i t q → LineAt bs q k v r → GoodTrain s u → take i (block s u) ≡ take i (block s t) → get_or (block s u) i [] ≡ line (spelt k) v → ReadsTo s bs p (i + 1) u r
one_line_more s bs p q r i t u k v h before l good same at = record {
  good = good;
  begins = before.begins ∙ ap (λ (x : List ℕ). run_on (take i (block s t)) ++ x) l.whole ∙ sym (append_assoc (run_on (take i (block s t))) (line (spelt k) v) (drop r.at bs)) ∙ ap (λ (x : List ℕ). x ++ drop r.at bs) (sym front);
  number = omega (arith, l.number, before.number);
  below = omega (arith, l.below, before.below);
  next = l.next;
}
  where
    front : run_on (take (i + 1) (block s u)) ≡ run_on (take i (block s t)) ++ line (spelt k) v
    front = ap run_on (take_more (block s u) i [] (omega (arith, block_long s u)))
        ∙ run_on_append (take i (block s u)) (get_or (block s u) i [] ∷ [])
        ∙ (λ j. run_on (same j) ++ (at j ++ []))
        ∙ ap (λ (x : List ℕ). run_on (take i (block s t)) ++ x) (append-nil (line (spelt k) v))

-- what refuses a line refuses it where less is allowed
bad_weaker : (k : Key) (A B : List ℕ → Type 0) (rest : List ℕ) (n : ℕ) (e : FeedFault) → ((v : List ℕ) → B v → A v) → BadLine k A rest n e → BadLine k B rest n e
bad_weaker k A B rest n TooLong h b = b
bad_weaker k A B rest n (NoLine m) h b = b
bad_weaker k A B rest n (BadValue m) h b = (b.0, record { value = b.1.value; more = b.1.more; plain = b.1.plain; begins = b.1.begins; broken = λ x. b.1.broken (h b.1.value x) })
bad_weaker k A B rest n (OtherSize m) h b = b
bad_weaker k A B rest n (OtherValues m l) h b = b
bad_weaker k A B rest n (BookFull m) h b = b

pub refused_line : (s : Sizes) (bs : List ℕ) (p q : Place) (i : ℕ) (t : Train) (A : List ℕ → Type 0) (e : FeedFault) → i < 6 → ReadsTo s bs p i t q → ((v : List ℕ) → NextLine s t i v → A v) → BadLine (get_or block_keys i key.Aim) A (drop q.at bs) q.line e → BadBlock s (drop p.at bs) p.line e
refused_line s bs p q i t A e h before allows bad = record {
  i = i;
  inside = h;
  train = t;
  good = before.good;
  left = drop q.at bs;
  begins = before.begins;
  bad = subst (λ (n : ℕ). BadLine (get_or block_keys i key.Aim) (NextLine s t i) (drop q.at bs) n e) before.number (bad_weaker (get_or block_keys i key.Aim) A (NextLine s t i) (drop q.at bs) q.line e allows bad);
}

-- what follows in the blocks of trains within the limits
module _ (s : Sizes) (t : Train) where
  pub next_label : (v : List ℕ) → NextLine s t 0 v → LabelText v
  unfolding block
  next_label v n = subst LabelText (same_from_line (spelt key.Train) _ v n.next) n.good.label.text

  pub next_stop : (v : List ℕ) → NextLine s t 1 v → Counts 0 s.stops v
  unfolding block
  next_stop v n = (n.train.stop, omega arith, n.good.stop, sym (same_from_line (spelt key.Stop) _ v n.next))

  pub next_weight : (v : List ℕ) → NextLine s t 2 v → Counts 1 999 v
  unfolding block
  next_weight v n = (n.train.weight, n.good.weight.0, n.good.weight.1, sym (same_from_line (spelt key.Weight) _ v n.next))

  pub next_late : (v : List ℕ) → NextLine s t 3 v → Lists s.states 4 (λ _. Unit {0}) v
  unfolding block
  next_late v n = (n.train.late, n.good.late, tt, sym (same_from_line (spelt key.Late) _ v n.next))

  pub next_move : s.stops ≤ 24 → t.stop ≤ s.stops → (v : List ℕ) → NextLine s t 4 v → Lists s.inputs 3 (λ zs. t.stop ≡ s.stops → AllZero zs) v
  unfolding block
  next_move limit stop v n = (
    n.train.moves,
    n.good.moves,
    (λ e. n.good.last (decimal_injective n.train.stop t.stop (omega (arith, n.good.stop)) (omega arith) (same_from_line (spelt key.Stop) _ _ (ap (λ (l : List (List ℕ)). get_or l 1 []) n.same)) ∙ e)),
    sym (same_from_line (spelt key.Move) _ v n.next),
  )

  pub next_aim : (v : List ℕ) → NextLine s t 5 v → Integers 999 v
  unfolding block
  next_aim v n = (n.train.aim, n.good.aim, sym (same_from_line (spelt key.Aim) _ v n.next))

-- factors that are all 0
pub zeros : (n room : ℕ) → n ≤ room → Factors n room (replicate room (pos 0))
zeros n room h = record {
  long = length-replicate room (pos 0);
  small = none room;
  padded = ap (λ (m : ℕ). replicate m (pos 0)) (omega arith) ∙ sym (replicate-append-replicate n (room - n) (pos 0)) ∙ ap (λ (l : List ℤ). l ++ replicate (room - n) (pos 0)) (sym (take-replicate n room (pos 0) h));
}
  where
    none : (m : ℕ) → AllByRecursion (Within 99) (replicate m (pos 0))
    none zero = tt
    none (suc m) = (omega arith, none m)

abbrev pub label_a : Label
label_a = record { bytes = 65 ∷ replicate 7 0 }

good_a : GoodLabel label_a
good_a = record { text = record { some = lit≤ tt; few = lit≤ tt; letters = (refl, tt) }; padded = refl }

-- a train of which only some lines are read yet
abbrev pub unread : Label → ℕ → ℕ → List ℤ → List ℤ → Train
unread l stop weight late moves = record { stop = stop; label = l; weight = weight; late = late; moves = moves; aim = pos 0 }

abbrev pub no_late : List ℤ
no_late = replicate 4 (pos 0)

abbrev pub no_moves : List ℤ
no_moves = replicate 3 (pos 0)

pub still : AllZero no_moves
still = (refl, (refl, (refl, tt)))

pub none_read : (s : Sizes) (bs : List ℕ) (p : Place) → GoodSizes s → InFeed bs p → ReadsTo s bs p 0 (unread label_a 0 1 no_late no_moves) p
none_read s bs p g h = record {
  good = record { label = good_a; stop = omega arith; weight = (omega arith, omega arith); late = zeros s.states 4 g.states.1; moves = zeros s.inputs 3 g.inputs.1; last = λ _. still; aim = omega arith };
  begins = refl;
  number = sym (add-zero p.line);
  below = omega arith;
  next = h;
}

-- the six lines, one after the other
module _ (s : Sizes) (bs : List ℕ) (p : Place) (g : GoodSizes s) (h : InFeed bs p) where
  pub read_label : (l : Label) (q : Place) → GoodLabel l → LineAt bs p key.Train (name l) q → ReadsTo s bs p 1 (unread l 0 1 no_late no_moves) q
  unfolding block
  read_label l q good at =
      one_line_more s bs p p q 0 (unread label_a 0 1 no_late no_moves) (unread l 0 1 no_late no_moves) key.Train (name l) (omega arith) (none_read s bs p g h) at
      (record { label = good; stop = omega arith; weight = (omega arith, omega arith); late = zeros s.states 4 g.states.1; moves = zeros s.inputs 3 g.inputs.1; last = λ _. still; aim = omega arith }) refl refl

  module _ (l : Label) (n : ℕ) where
    pub read_stop : (q r : Place) → n ≤ s.stops → ReadsTo s bs p 1 (unread l 0 1 no_late no_moves) q → LineAt bs q key.Stop (decimal n) r → ReadsTo s bs p 2 (unread l n 1 no_late no_moves) r
    unfolding block
    read_stop q r small before at =
        one_line_more s bs p q r 1 (unread l 0 1 no_late no_moves) (unread l n 1 no_late no_moves) key.Stop (decimal n) (omega arith) before at
        (record { label = before.good.label; stop = small; weight = (omega arith, omega arith); late = zeros s.states 4 g.states.1; moves = zeros s.inputs 3 g.inputs.1; last = λ _. still; aim = omega arith }) refl refl

    module _ (w : ℕ) where
      pub read_weight : (q r : Place) → 1 ≤ w → w ≤ 999 → ReadsTo s bs p 2 (unread l n 1 no_late no_moves) q → LineAt bs q key.Weight (decimal w) r → ReadsTo s bs p 3 (unread l n w no_late no_moves) r
      unfolding block
      read_weight q r low high before at =
          one_line_more s bs p q r 2 (unread l n 1 no_late no_moves) (unread l n w no_late no_moves) key.Weight (decimal w) (omega arith) before at
          (record { label = before.good.label; stop = before.good.stop; weight = (low, high); late = zeros s.states 4 g.states.1; moves = zeros s.inputs 3 g.inputs.1; last = λ _. still; aim = omega arith }) refl refl

      module _ (xs : List ℤ) where
        pub read_late : (q r : Place) → Factors s.states 4 xs → ReadsTo s bs p 3 (unread l n w no_late no_moves) q → LineAt bs q key.Late (commas (take s.states xs)) r → ReadsTo s bs p 4 (unread l n w xs no_moves) r
        unfolding block
        read_late q r fine before at =
            one_line_more s bs p q r 3 (unread l n w no_late no_moves) (unread l n w xs no_moves) key.Late (commas (take s.states xs)) (omega arith) before at
            (record { label = before.good.label; stop = before.good.stop; weight = before.good.weight; late = fine; moves = zeros s.inputs 3 g.inputs.1; last = λ _. still; aim = omega arith }) refl refl

        pub read_moves : (ys : List ℤ) (q r : Place) → Factors s.inputs 3 ys → (n ≡ s.stops → AllZero ys) → ReadsTo s bs p 4 (unread l n w xs no_moves) q → LineAt bs q key.Move (commas (take s.inputs ys)) r → ReadsTo s bs p 5 (unread l n w xs ys) r
        unfolding block
        read_moves ys q r fine rest before at =
            one_line_more s bs p q r 4 (unread l n w xs no_moves) (unread l n w xs ys) key.Move (commas (take s.inputs ys)) (omega arith) before at
            (record { label = before.good.label; stop = before.good.stop; weight = before.good.weight; late = before.good.late; moves = fine; last = rest; aim = omega arith }) refl refl

        pub read_aim : (ys : List ℤ) (z : ℤ) (q r : Place) → Within 999 z → ReadsTo s bs p 5 (unread l n w xs ys) q → LineAt bs q key.Aim (signed_decimal z) r → ReadBlock bs p s (record { stop = n; label = l; weight = w; late = xs; moves = ys; aim = z }) r
        unfolding block
        read_aim ys z q r fine before at =
            let all = one_line_more s bs p q r 5 (unread l n w xs ys) (record { stop = n; label = l; weight = w; late = xs; moves = ys; aim = z }) key.Aim (signed_decimal z) (omega arith) before at
            (record { label = before.good.label; stop = before.good.stop; weight = before.good.weight; late = before.good.late; moves = before.good.moves; last = before.good.last; aim = fine }) refl refl in
            record { good = all.good; whole = all.begins; number = all.number; below = omega (arith, all.below); next = all.next }

zeros_are : (zs : List ℤ) (n : ℕ) → length zs ≡ n → AllZero zs → zs ≡ replicate n (pos 0)
zeros_are zs n e h = go zs h ∙ ap (λ (m : ℕ). replicate m (pos 0)) e
  where
    go : (zs : List ℤ) → AllZero zs → zs ≡ replicate (length zs) (pos 0)
    go [] h = refl
    go (z ∷ zs) h = λ i. h.0 i ∷ go zs h.1 i

-- moves that are not all 0 are no moves of a train at the last stop
pub moves_refused : (s : Sizes) (bs : List ℕ) (p q r : Place) (t : Train) (ys : List ℤ) → GoodSizes s → t.stop ≡ s.stops → ReadsTo s bs p 4 t q → Factors s.inputs 3 ys → LineAt bs q key.Move (commas (take s.inputs ys)) r → (ys ≡ no_moves → ⊥) → BadBlock s (drop p.at bs) p.line (BadValue q.line)
moves_refused s bs p q r t ys g last before mine at other =
    refused_line s bs p q 4 t (Lists s.inputs 3 (λ zs. t.stop ≡ s.stops → AllZero zs)) (BadValue q.line) (omega arith) before (next_move s t g.stops.1 before.good.stop) (
      refl,
      record {
        value = commas (take s.inputs ys);
        more = drop r.at bs;
        plain = at.plain;
        begins = at.whole;
        broken = λ h.
            let front = same_from_commas (take s.inputs h.0) (take s.inputs ys) (long h.0 h.1) (long ys mine) (All-take (Within 99) s.inputs h.0 h.1.small) (All-take (Within 99) s.inputs ys mine.small) (sym h.3) in
            other (mine.padded ∙ ap (λ (l : List ℤ). l ++ replicate (3 - s.inputs) (pos 0)) (sym front) ∙ sym h.1.padded ∙ zeros_are h.0 3 h.1.long (h.2 last));
      },
    )
  where
    long : (zs : List ℤ) → Factors s.inputs 3 zs → 0 < length (take s.inputs zs)
    long zs f = omega (arith, length-take-le s.inputs zs (omega (arith, f.long, g.inputs.1)), g.inputs.0)
