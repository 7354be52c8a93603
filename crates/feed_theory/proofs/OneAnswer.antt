-- A refusal names the first line that fails, and no other answer fits. Assumes nothing.
use Rattle.std.proofs.Common.{◌≡◌, ℕ, zero, suc, ◌+◌, ◌-◌, ◌*◌, ◌/◌, ◌%◌, ◌<◌, ◌≤◌, ◌≢◌, List, [], ◌∷◌, ◌++◌, length, get_or, take, drop, decimal, sym, refl, ap, ◌∙◌, subst, inl, inr, append-nil, add-one, arith}
use Rattle.std.specs.Str.Iter.{LacksByte}
use Rattle.std.proofs.ByRecursion.{All-get_or}
use Rattle.std.proofs.lemmas.List.{length-append, length-drop, take_more, drop-take, get_or-drop, same_from_push}
use Rattle.std.proofs.lemmas.Bool.{cases_lt, cases_order}
use Rattle.feed_types.specs.declared.types.Train.{Train}
use Rattle.feed_types.specs.Books.{at, no_train, Distinct}
use Rattle.feed_types.specs.Joining.{Stands, Absent, Joins, again, new, Joined, none, more}
use Rattle.feed_types.specs.Limits.{GoodTrain}
use Rattle.feed_types.specs.Reading.{Register, Starts, LacksLine, BreaksRule, HasOtherSize, AtBlock, train_of, MayEnd, key_at, size_at}
use Rattle.feed_types.specs.Text.{Feed, Good, line, lines, run_on}
use Rattle.feed_types.specs.Tokens.{spelt}
use Rattle.feed_theory.proofs.Answering.{Reach, reach_less, whole_trains, joined_same, joined_distinct, stands_same, same_slot}
use Rattle.feed_theory.proofs.Refusing.{key_in_block}
use Rattle.feed_theory.proofs.Starting.{lines_long, header_line, block_line, starts_less, starts_same, next_of, same_size}
use Rattle.feed_theory.proofs.Unique.{count_lacks, keyed_block}

-- every line of a good feed has its key
pub keyed_line : (f : Feed) (k : ℕ) → Good f → k < length (lines f) → (v : List ℕ) × LacksByte 10 v × (get_or (lines f) k [] ≡ line (spelt (key_at k)) v)
keyed_line f k g h = elim (cases_lt k 3) [
  | inl lt ↦ (decimal (size_at k f.sizes), count_lacks (size_at k f.sizes) (small k), header_line f k lt)
  | inr le ↦
      let i : ℕ = (k - 3) % 6 in
      let j : ℕ = (k - 3) / 6 in
      let place : 3 + (6 * j + i) ≡ k = omega arith in
      let inside : i < 6 = omega arith in
      let long : j < length f.trains = omega (arith, lines_long f) in
      let found = keyed_block f.sizes (at f.trains j) i g.sizes (All-get_or (GoodTrain f.sizes) f.trains j no_train long g.trains) inside in
      (found.0, found.1, ap (λ (n : ℕ). get_or (lines f) n []) (sym place) ∙ block_line f j i long inside ∙ found.2 ∙ ap (λ x. line (spelt x) found.0) (sym (key_in_block j i inside) ∙ ap key_at place))
]
  where
    small : (n : ℕ) → size_at n f.sizes ≤ 999
    small zero = omega (arith, g.sizes.stops.1)
    small (suc zero) = omega (arith, g.sizes.states.1)
    small (suc (suc n)) = omega (arith, g.sizes.inputs.1)

-- what follows the first k lines, where there is one more
pub next_line_lem : (bs : List ℕ) (k : ℕ) (f g : Feed) (r q : List ℕ) → Starts bs k f r → Starts bs (suc k) g q → r ≡ get_or (lines g) k [] ++ q
next_line_lem bs k f g r q s t =
    (starts_same bs k f g r (run_on (drop k (take (suc k) (lines g))) ++ q) s (starts_less bs k (suc k) g q (omega arith) t)).1
    ∙ ap (λ (l : List (List ℕ)). run_on l ++ q) last
    ∙ ap (λ (l : List ℕ). l ++ q) (append-nil (get_or (lines g) k []))
  where
    last : drop k (take (suc k) (lines g)) ≡ get_or (lines g) k [] ∷ []
    last = ap (λ (n : ℕ). drop k (take n (lines g))) (sym (add-one k)) ∙ drop-take k 1 (lines g) ∙ one (drop k (lines g)) refl
      where
        one : (l : List (List ℕ)) → drop k (lines g) ≡ l → take 1 l ≡ get_or (lines g) k [] ∷ []
        one [] e = absurd (omega (arith, t.many, length-drop k (lines g), ap length e))
        one (x ∷ xs) e = ap (λ (y : List ℕ). y ∷ []) (sym (ap (λ (m : List (List ℕ)). get_or m 0 []) e) ∙ get_or-drop k (lines g) 0 [] ∙ ap (λ (n : ℕ). get_or (lines g) n []) (omega arith))

pub some_line : (key v q : List ℕ) → line key v ++ q ≢ []
some_line key v q e = omega (arith, ap length e, length-append (line key v) q, length-append key (61 ∷ (v ++ (10 ∷ []))))

-- nothing refuses the first k lines, and something refuses the next
pub record Broken (bs : List ℕ) (b : Register) (k : ℕ) : Type 0 where
  pub reach : Reach bs b k
  pub stops : Reach bs b (suc k) → ⊥
  pub goes_on : MayEnd k → reach.rest ≢ []

module _ (bs : List ℕ) (b : Register) (d : Distinct b.trains) where
  pub lacks_broken : (k : ℕ) → LacksLine bs b k → Broken bs b k
  lacks_broken k l = record {
    reach = record { feed = l.feed; rest = l.rest; starts = l.starts; before = l.before };
    stops = λ r.
        let keyed = keyed_line r.feed k r.starts.good r.starts.many in
        l.missing keyed.0 r.rest keyed.1 (next_line_lem bs k l.feed r.feed l.rest r.rest l.starts r.starts ∙ ap (λ (x : List ℕ). x ++ r.rest) keyed.2);
    goes_on = l.goes_on;
  }

  -- a good feed that goes on as the text does
  pub good_next : (k : ℕ) (l : BreaksRule bs b k) (g : Feed) (q : List ℕ) → Starts bs (suc k) g q → ⊥
  good_next k l g q s = l.broken g (subst (Starts bs (suc k) g) (next_of bs k l.feed g (key_at k) l.value l.rest l.more q l.starts l.begins l.plain s).2 s)

  pub rule_broken : (k : ℕ) → BreaksRule bs b k → Broken bs b k
  rule_broken k l = record {
    reach = record { feed = l.feed; rest = l.rest; starts = l.starts; before = l.before };
    stops = λ r. good_next k l r.feed r.rest r.starts;
    goes_on = λ _ e. some_line (spelt (key_at k)) l.value l.more (sym l.begins ∙ e);
  }

  pub size_broken : (k : ℕ) → HasOtherSize bs b k → Broken bs b k
  size_broken k l = record {
    reach = record { feed = l.feed; rest = _; starts = starts_less bs k (suc k) l.feed l.rest (omega arith) l.starts; before = l.before };
    stops = λ r. l.differs (r.before.sizes k (omega arith) l.of_header l.held l.has ∙ sym (same_size (suc k) k l.feed r.feed l.starts.good r.starts.good (starts_same bs (suc k) l.feed r.feed l.rest r.rest l.starts r.starts).0 (omega arith) l.of_header));
    goes_on = λ m. absurd (omega (arith, m.0, l.of_header));
  }

  joined_last : (ts : List Train) (t : Train) (x c : List Train) → Joined x (ts ++ (t ∷ [])) c → (y : List Train) × Joined x ts y × Joins y t c
  joined_last [] t x c (more i none) = (x, none, i)
  joined_last (u ∷ ts) t x c (more {c = z} i r) =
      let rest = joined_last ts t z c r in
      (rest.0, more i rest.1, rest.2)

  -- joining goes on past a block only if its train joins
  block_joins : (k j : ℕ) (a : AtBlock bs b k j) → Reach bs b (suc k) → (c : List Train) × Joins a.after (train_of a) c
  block_joins k j a r =
      let both = (starts_same bs (suc k) a.feed r.feed a.rest r.rest a.starts r.starts).0 in
      let trains = whole_trains (suc k) a.feed r.feed a.starts.good r.starts.good (omega (arith, a.last)) a.starts.many r.starts.many both in
      let count : (suc k - 3) / 6 ≡ j + 1 = omega (arith, a.last) in
      let long : j < length a.feed.trains = omega (arith, lines_long a.feed, a.starts.many, a.last) in
      let all : Joined b.trains (take j a.feed.trains ++ (train_of a ∷ [])) r.before.after =
      subst (λ (ts : List Train). Joined b.trains ts r.before.after) (sym trains ∙ ap (λ (n : ℕ). take n a.feed.trains) count ∙ take_more a.feed.trains j no_train long) r.before.joined in
      let parts = joined_last (take j a.feed.trains) (train_of a) b.trains r.before.after all in
      (r.before.after, subst (λ (x : List Train). Joins x (train_of a) r.before.after) (joined_same (take j a.feed.trains) b.trains parts.0 a.after parts.1 a.joined) parts.2)

  block_reach : (k j : ℕ) → AtBlock bs b k j → Reach bs b k
  block_reach k j a = record {
    feed = a.feed;
    rest = _;
    starts = starts_less bs k (suc k) a.feed a.rest (omega arith) a.starts;
    before = record { sizes = λ i _ three. a.sizes i three; after = a.after; joined = subst (λ (n : ℕ). Joined b.trains (take n a.feed.trains) a.after) whole a.joined };
  }
    where
      whole : j ≡ (k - 3) / 6
      whole = omega (arith, a.last)

  pub after_distinct : (k j : ℕ) (a : AtBlock bs b k j) → Distinct a.after
  after_distinct k j a = joined_distinct (take j a.feed.trains) b.trains a.after a.joined d

  clash : (ts c : List Train) (t : Train) (slot : ℕ) → Distinct ts → Stands ts slot t → at ts slot ≢ t → Joins ts t c → ⊥
  clash ts c t slot dis s ne (again k h e) = ne (ap (at ts) (same_slot ts t slot k dis s (stands_same ts t k h e)) ∙ e)
  clash ts c t slot dis s ne (new a l) = a slot s

  full : (ts c : List Train) (t : Train) → Absent ts t → length ts ≡ 64 → Joins ts t c → ⊥
  full ts c t a n (again k h e) = a k (stands_same ts t k h e)
  full ts c t a n (new a' l) = omega arith

  pub values_broken : (k j slot : ℕ) (a : AtBlock bs b k j) → Stands a.after slot (train_of a) → at a.after slot ≢ train_of a → Broken bs b k
  values_broken k j slot a s ne = record {
    reach = block_reach k j a;
    stops = λ r. let joins = block_joins k j a r in clash a.after joins.0 (train_of a) slot (after_distinct k j a) s ne joins.1;
    goes_on = λ m. absurd (omega (arith, m.1, a.last));
  }

  pub full_broken : (k j : ℕ) (a : AtBlock bs b k j) → Absent a.after (train_of a) → length a.after ≡ 64 → Broken bs b k
  full_broken k j a s n = record {
    reach = block_reach k j a;
    stops = λ r. let joins = block_joins k j a r in full a.after joins.0 (train_of a) s n joins.1;
    goes_on = λ m. absurd (omega (arith, m.1, a.last));
  }

  -- the line that fails is one
  pub same_line : (k m : ℕ) → Broken bs b k → Broken bs b m → k ≡ m
  same_line k m x y = elim (cases_order k m) [
    | inl e ↦ e
    | inr (inl lt) ↦ absurd (x.stops (reach_less bs b (suc k) m lt y.reach))
    | inr (inr gt) ↦ absurd (y.stops (reach_less bs b (suc m) k gt x.reach))
  ]

  -- two refusals at one block are about one train in one book
  pub same_block : (k i j : ℕ) (x : AtBlock bs b k i) (y : AtBlock bs b k j) → (x.after ≡ y.after) × (train_of x ≡ train_of y)
  same_block k i j x y = (joined_same (take i x.feed.trains) b.trains x.after y.after x.joined (subst (λ (ts : List Train). Joined b.trains ts y.after) (sym parts.0) y.joined), parts.1)
    where
      same : i ≡ j
      same = omega (arith, x.last, y.last)

      lines' : take (suc k) (lines x.feed) ≡ take (suc k) (lines y.feed)
      lines' = (starts_same bs (suc k) x.feed y.feed x.rest y.rest x.starts y.starts).0

      count : (suc k - 3) / 6 ≡ i + 1
      count = omega (arith, x.last)

      count' : (suc k - 3) / 6 ≡ j + 1
      count' = omega (arith, y.last)

      trains : take ((suc k - 3) / 6) x.feed.trains ≡ take ((suc k - 3) / 6) y.feed.trains
      trains = whole_trains (suc k) x.feed y.feed x.starts.good y.starts.good (omega (arith, x.last)) x.starts.many y.starts.many lines'

      parts : (take i x.feed.trains ≡ take j y.feed.trains) × (train_of x ≡ train_of y)
      parts = same_from_push (take i x.feed.trains) (take j y.feed.trains) (train_of x) (train_of y)
          (sym (take_more x.feed.trains i no_train (omega (arith, lines_long x.feed, x.starts.many, x.last)))
          ∙ ap (λ (n : ℕ). take n x.feed.trains) (sym count)
          ∙ trains
          ∙ ap (λ (n : ℕ). take n y.feed.trains) count'
          ∙ take_more y.feed.trains j no_train (omega (arith, lines_long y.feed, y.starts.many, y.last)))
