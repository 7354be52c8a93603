-- A refused block refuses its feed. Assumes nothing.
use Rattle.std.proofs.Common.{◌≡◌, ℕ, suc, ◌+◌, ◌-◌, ◌*◌, ◌/◌, ◌%◌, ◌<◌, ◌≤◌, false, cond, ltb, ◌≢◌, List, [], ◌∷◌, ◌++◌, length, get_or, take, drop, is_some, Some, None, Option, sym, refl, ap, ◌∙◌, subst, inl, inr, append_assoc, append-nil, arith}
use Rattle.std.specs.List.{flat_map}
use Rattle.std.proofs.ByRecursion.{All-push, All-get_or}
use Rattle.std.proofs.lemmas.List.{length-append, length-drop, length_push, take_at, drop_all}
use Rattle.std.proofs.lemmas.Bool.{le-ltb, lt-ltb, true≢false}
use Rattle.feed_types.specs.declared.faults.FeedFault.{FeedFault}
use Rattle.feed_types.specs.declared.faults.FeedFault.TheVariants.{TooLong, NoLine, BadValue, OtherSize, OtherValues, BookFull}
use Rattle.feed_types.specs.declared.keys.Key.{Key}
use Rattle.feed_types.specs.declared.keys.Key.TheVariants as key
use Rattle.feed_types.specs.declared.keys.Place.{Place}
use Rattle.feed_types.specs.declared.types.Sizes.{Sizes}
use Rattle.feed_types.specs.declared.types.Train.{Train}
use Rattle.feed_types.specs.Blocks.{NextLine, BadBlock, ReadBlock, ReadHeader}
use Rattle.feed_types.specs.Books.{at, no_train, sizes_for}
use Rattle.feed_types.specs.Joining.{Joined, NotJoined, Stands, Absent}
use Rattle.feed_types.specs.Limits.{GoodTrain}
use Rattle.feed_types.specs.Progress.{JoinedTo, Unread, Unjoined, Stuck}
use Rattle.feed_types.specs.Reading.{Register, Granted, Refused, Before, Starts, Agreed, AtBlock, block_keys, header_keys, key_at}
use Rattle.feed_types.specs.Text.{Feed, Good, header, block, line, lines, run_on}
use Rattle.std.specs.Str.Iter.{LacksByte}
use Rattle.feed_types.specs.Tokens.{spelt, HasNoLine}
use Rattle.feed_theory.proofs.BlockLines.{run_on_append}
use Rattle.feed_theory.proofs.Joinings.{joined_grows}
use Rattle.feed_theory.proofs.OneMore.{at_last, agreed_some}
use Rattle.feed_theory.proofs.Starting.{lines_long, lines_push, block_line, block_front, next_of, same_sizes}

pub key_in_block : (j i : ℕ) → i < 6 → key_at (3 + (6 * j + i)) ≡ get_or block_keys i key.Aim
key_in_block j i h =
    ap (λ t. cond t (get_or header_keys (3 + (6 * j + i)) key.Aim) (get_or block_keys ((3 + (6 * j + i) - 3) % 6) key.Aim)) (le-ltb (3 + (6 * j + i)) 3 (omega arith))
    ∙ ap (λ (n : ℕ). get_or block_keys n key.Aim) place
  where
    place : (3 + (6 * j + i) - 3) % 6 ≡ i
    place = omega arith

no_sizes : (o : Option Sizes) → is_some o ≡ false → o ≡ None
no_sizes None e = refl
no_sizes (Some s) e = absurd (true≢false e)

-- the sizes of a book after a feed of sizes s
sizes_now : (c : Register) (s : Sizes) → is_some c.sizes ≡ ltb 0 (length c.trains) → Agreed c s → c.sizes ≡ sizes_for (Some s) c.trains
sizes_now c s e a = go c.trains refl
  where
    go : (ts : List Train) → c.trains ≡ ts → c.sizes ≡ sizes_for (Some s) ts
    go [] p = no_sizes c.sizes (e ∙ ap (λ (l : List Train). ltb 0 (length l)) p)
    go (t ∷ ts) p = agreed_some c.sizes s (e ∙ lt-ltb 0 (length c.trains) (omega (arith, ap length p))) a

take_exact : {A : Type 0} (n i : ℕ) (xs ys : List A) → length xs ≡ n → take (n + i) (xs ++ ys) ≡ xs ++ take i ys
take_exact n i xs ys e = subst (λ (m : ℕ). take (m + i) (xs ++ ys) ≡ xs ++ take i ys) e (go i xs ys)
  where
    go : {A : Type 0} (k : ℕ) (us vs : List A) → take (length us + k) (us ++ vs) ≡ us ++ take k vs
    go k [] vs = ap (λ (m : ℕ). take m vs) (omega arith)
    go k (u ∷ us) vs = ap (λ (m : ℕ). take m (u ∷ (us ++ vs))) next ∙ ap (λ (l : List _). u ∷ l) (go k us vs)
      where
        next : suc (length us) + k ≡ suc (length us + k)
        next = omega arith

whole_block : (s : Sizes) (t : Train) → block s t ≡ take 6 (block s t)
unfolding block
whole_block s t = refl

-- the header and the blocks that are joined, as a feed
module _ (bs : List ℕ) (held : Option Sizes) (s : Sizes) (p q : Place) (b c : Register) (few : length bs ≤ 8192) (same : b.sizes ≡ held) (h : ReadHeader bs held s p) (j : JoinedTo bs s p b c q) where
  pub feed : Feed
  feed = record { sizes = s; trains = j.trains }

  agreed : Agreed b s
  agreed i l u e = h.agrees i l u (sym same ∙ e)

  pub good_feed : Good feed
  unfolding feed
  good_feed = record { sizes = h.good; trains = j.good }

  pub read_so_far : bs ≡ run_on (lines feed) ++ drop q.at bs
  unfolding feed lines
  read_so_far = h.whole ∙ ap (λ (l : List ℕ). run_on (header s) ++ l) j.begins ∙ sym (append_assoc (run_on (header s)) (run_on (flat_map (block s) j.trains)) (drop q.at bs)) ∙ ap (λ (l : List ℕ). l ++ drop q.at bs) (sym (run_on_append (header s) (flat_map (block s) j.trains)))

  many : ℕ
  many = length j.trains

  -- with one more train
  wider : Train → Feed
  wider t = record { sizes = s; trains = j.trains ++ (t ∷ []) }

  good_wider : (t : Train) → GoodTrain s t → Good (wider t)
  unfolding wider
  good_wider t g = record { sizes = h.good; trains = All-push (GoodTrain s) j.trains t j.good g }

  front : (t : Train) (i : ℕ) → take (3 + (6 * many + i)) (lines (wider t)) ≡ lines feed ++ take i (block s t)
  unfolding wider many feed
  front t i =
      ap (take (3 + (6 * many + i))) (lines_push s j.trains t)
      ∙ ap (λ (n : ℕ). take n (lines feed ++ block s t)) (omega arith)
      ∙ take_exact (3 + 6 * many) i (lines feed) (block s t) (lines_long feed)

  starts : (t : Train) (i : ℕ) (left : List ℕ) → GoodTrain s t → i ≤ 6 → drop q.at bs ≡ run_on (take i (block s t)) ++ left → Starts bs (3 + (6 * many + i)) (wider t) left
  unfolding wider many
  starts t i left g l e = record {
    good = good_wider t g;
    many = omega (arith, lines_long (wider t), length_push j.trains t);
    whole = read_so_far ∙ ap (λ (x : List ℕ). run_on (lines feed) ++ x) e ∙ sym (append_assoc (run_on (lines feed)) (run_on (take i (block s t))) left) ∙ ap (λ (x : List ℕ). x ++ left) (sym (run_on_append (lines feed) (take i (block s t)))) ∙ ap (λ (x : List (List ℕ)). run_on x ++ left) (sym (front t i));
  }

  before : (t : Train) (i : ℕ) → i < 6 → Before b (3 + (6 * many + i)) (wider t)
  unfolding wider many
  before t i l = record {
    sizes = λ k _ three. agreed k three;
    after = c.trains;
    joined = subst (λ (ts : List Train). Joined b.trains ts c.trains) (sym (ap (λ (n : ℕ). take n (j.trains ++ (t ∷ []))) whole ∙ take_at j.trains (t ∷ []) (length j.trains) refl)) j.joins;
  }
    where
      whole : (3 + (6 * length j.trains + i) - 3) / 6 ≡ length j.trains
      whole = omega arith

  number : (m i : ℕ) → m ≡ q.line + i → m ≡ suc (3 + (6 * many + i))
  unfolding many
  number m i e = omega (arith, j.number, h.number)

  -- no good feed goes on with such a line
  follows : (t : Train) (i : ℕ) (v left more : List ℕ) (g : Feed) → GoodTrain s t → i < 6 → Starts bs (3 + (6 * many + i)) (wider t) left → left ≡ line (spelt (get_or block_keys i key.Aim)) v ++ more → LacksByte 10 v → Starts bs (suc (3 + (6 * many + i))) g more → NextLine s t i v
  unfolding wider many
  follows t i v left more g good l st e plain sg =
      let next = next_of bs (3 + (6 * many + i)) (wider t) g (get_or block_keys i key.Aim) v left more more st e plain sg in
      let sizes : g.sizes ≡ s = same_sizes (3 + (6 * many + i)) g (wider t) sg.good st.good next.0 (omega arith) in
      let long : length j.trains < length g.trains = omega (arith, lines_long g, sg.many) in
      let mine : length j.trains < length (j.trains ++ (t ∷ [])) = omega (arith, length_push j.trains t) in
      record {
        train = at g.trains (length j.trains);
        good = subst (λ (u : Sizes). GoodTrain u (at g.trains (length j.trains))) sizes (All-get_or (GoodTrain g.sizes) g.trains (length j.trains) no_train long sg.good.trains);
        same = ap (λ (u : Sizes). take i (block u (at g.trains (length j.trains)))) (sym sizes) ∙ sym (block_front g (length j.trains) i long (omega arith)) ∙ ap (drop (3 + 6 * length j.trains)) next.0 ∙ block_front (wider t) (length j.trains) i mine (omega arith) ∙ ap (λ (u : Train). take i (block s u)) (at_last j.trains t (length j.trains) refl);
        next = ap (λ (u : Sizes). get_or (block u (at g.trains (length j.trains))) i []) (sym sizes) ∙ sym (block_line g (length j.trains) i long l) ∙ next.1;
      }

  some_left : (t : Train) (i : ℕ) (left : List ℕ) → q.at < length bs → drop q.at bs ≡ run_on (take i (block s t)) ++ left → i ≡ 0 → left ≢ []
  some_left t i left l e zero' nil = omega (arith, length-drop q.at bs, ap length (e ∙ ap (λ (n : ℕ). run_on (take n (block s t)) ++ left) zero' ∙ nil))

  unread : (e : FeedFault) → Unread bs s q e → Refused bs b e
  unfolding many
  unread e u = go e u.bad
    where
      k : ℕ → ℕ
      k i = 3 + (6 * many + i)

      go : (e : FeedFault) → BadBlock s (drop q.at bs) q.line e → Refused bs b e
      go TooLong d = absurd d.bad
      go (NoLine m) d = (
        few,
        (
          k d.i,
          number m d.i d.bad.0,
          record {
            feed = wider d.train;
            rest = d.left;
            starts = starts d.train d.i d.left d.good (omega (arith, d.inside)) d.begins;
            before = before d.train d.i d.inside;
            missing = subst (λ (x : Key). HasNoLine (spelt x) d.left) (sym (key_in_block many d.i d.inside)) d.bad.1;
            goes_on = λ ends. some_left d.train d.i d.left u.more d.begins (omega (arith, ends.1, d.inside));
          },
        ),
      )
      go (BadValue m) d = (
        few,
        (
          k d.i,
          number m d.i d.bad.0,
          record {
            feed = wider d.train;
            rest = d.left;
            starts = starts d.train d.i d.left d.good (omega (arith, d.inside)) d.begins;
            before = before d.train d.i d.inside;
            value = d.bad.1.value;
            more = d.bad.1.more;
            plain = d.bad.1.plain;
            begins = d.bad.1.begins ∙ ap (λ (x : Key). line (spelt x) d.bad.1.value ++ d.bad.1.more) (sym (key_in_block many d.i d.inside));
            broken = λ g sg. d.bad.1.broken (follows d.train d.i d.bad.1.value d.left d.bad.1.more g d.good d.inside (starts d.train d.i d.left d.good (omega (arith, d.inside)) d.begins) d.bad.1.begins d.bad.1.plain sg);
          },
        ),
      )
      go (OtherSize m) d = absurd d.bad
      go (OtherValues m l) d = absurd d.bad
      go (BookFull m) d = absurd d.bad

  at_block : (u : Train) (r : Place) → ReadBlock bs q s u r → AtBlock bs b (8 + 6 * many) many
  unfolding wider many
  at_block u r m = record {
    feed = wider u;
    rest = drop r.at bs;
    last = refl;
    starts = subst (λ (n : ℕ). Starts bs n (wider u) (drop r.at bs)) (omega arith) (starts u 6 (drop r.at bs) m.good (omega arith) (m.whole ∙ ap (λ (l : List (List ℕ)). run_on l ++ drop r.at bs) (whole_block s u)));
    sizes = agreed;
    after = c.trains;
    joined = subst (λ (ts : List Train). Joined b.trains ts c.trains) (sym (take_at j.trains (u ∷ []) (length j.trains) refl)) j.joins;
  }

  unjoined : (e : FeedFault) → Unjoined bs s c q e → Refused bs b e
  unfolding wider many at_block
  unjoined e u = go e u.why
    where
      its : at (j.trains ++ (u.train ∷ [])) (length j.trains) ≡ u.train
      its = at_last j.trains u.train (length j.trains) refl

      go : (e : FeedFault) → NotJoined c.trains u.train (q.line + 5) e → Refused bs b e
      go TooLong d = absurd d
      go (NoLine m) d = absurd d
      go (BadValue m) d = absurd d
      go (OtherSize m) d = absurd d
      go (OtherValues m slot) d = (few, (8 + 6 * many, many, omega (arith, d.0, j.number, h.number), at_block u.train u.next u.read, subst (Stands c.trains slot) (sym its) d.1, λ e. d.2 (e ∙ its)))
      go (BookFull m) d = (few, (8 + 6 * many, many, omega (arith, d.0, j.number, h.number), at_block u.train u.next u.read, subst (Absent c.trains) (sym its) d.1, d.2))

  pub stuck : (e : FeedFault) → Stuck bs s c q e → Refused bs b e
  stuck e (inl u) = unread e u
  stuck e (inr u) = unjoined e u

  -- a feed that is read to its end
  pub granted : q.at ≡ length bs → is_some c.sizes ≡ ltb 0 (length c.trains) → Granted bs b (length c.trains - length b.trains) c
  unfolding feed
  granted e sized = record {
    few = few;
    feed = feed;
    good = good_feed;
    is = read_so_far ∙ ap (λ (l : List ℕ). run_on (lines feed) ++ l) (drop_all q.at bs (omega arith)) ∙ append-nil (run_on (lines feed));
    agrees = agreed;
    joined = j.joins;
    sizes = sizes_now c s sized j.agreed;
    count = omega (arith, ap length grows.1, length-append b.trains grows.0);
  }
    where
      grows : (news : List Train) × (c.trains ≡ b.trains ++ news)
      grows = joined_grows j.joins

  -- what is left of it when its new trains are forgotten
  pub taken_back : is_some b.sizes ≡ ltb 0 (length b.trains) → is_some c.sizes ≡ ltb 0 (length c.trains) → (d : Register) → d.trains ≡ take (length b.trains) c.trains → d.sizes ≡ sizes_for c.sizes d.trains → d ≡ b
  taken_back bsized csized d et es = λ i. record { sizes = sizes i; trains = trains i }
    where
      grows : (news : List Train) × (c.trains ≡ b.trains ++ news)
      grows = joined_grows j.joins

      trains : d.trains ≡ b.trains
      trains = et ∙ ap (take (length b.trains)) grows.1 ∙ take_at b.trains grows.0 (length b.trains) refl

      own : (ts : List Train) → b.trains ≡ ts → sizes_for c.sizes ts ≡ b.sizes
      own [] e = sym (no_sizes b.sizes (bsized ∙ ap (λ (l : List Train). ltb 0 (length l)) e))
      own (t ∷ ts) e =
          agreed_some c.sizes s (csized ∙ lt-ltb 0 (length c.trains) (omega (arith, ap length grows.1, length-append b.trains grows.0, ap length e))) j.agreed
          ∙ sym (agreed_some b.sizes s (bsized ∙ lt-ltb 0 (length b.trains) (omega (arith, ap length e))) agreed)

      sizes : d.sizes ≡ b.sizes
      sizes = es ∙ ap (sizes_for c.sizes) trains ∙ own b.trains refl
