-- The one answer, by cases. Assumes nothing.
use Rattle.std.proofs.Common.{◌≡◌, ℕ, suc, ◌-◌, ◌/◌, ◌<◌, ◌≤◌, ◌≢◌, List, [], ◌++◌, length, take, drop, Some, Ok, Err, Result, sym, refl, ap, ◌∙◌, subst, subst₂, inl, inr, append-nil, arith}
use Rattle.std.proofs.lemmas.List.{take_all}
use Rattle.std.proofs.lemmas.Bool.{cases_lt, cases_order}
use Rattle.feed_types.specs.declared.faults.FeedFault.{FeedFault}
use Rattle.feed_types.specs.declared.faults.FeedFault.TheVariants.{TooLong, NoLine, BadValue, OtherSize, OtherValues, BookFull}
use Rattle.feed_types.specs.declared.types.Train.{Train}
use Rattle.feed_types.specs.Books.{at, Distinct, sizes_for}
use Rattle.feed_types.specs.History.{OnlyAnswer}
use Rattle.feed_types.specs.Joining.{Stands, Absent, Joined}
use Rattle.feed_types.specs.Reading.{Register, Starts, LacksLine, BreaksRule, AtBlock, train_of, Granted, Refused, Reading}
use Rattle.feed_types.specs.Text.{Feed, lines, run_on}
use Rattle.feed_theory.proofs.Answering.{Reach, reach_less, one_text_lem, joined_same, joined_less, same_slot}
use Rattle.feed_theory.proofs.OneAnswer.{Broken, lacks_broken, rule_broken, size_broken, values_broken, full_broken, good_next, same_line, same_block, after_distinct, next_line_lem, some_line, keyed_line}
use Rattle.feed_theory.proofs.Starting.{lines_long, starts_less, starts_same}

module _ (bs : List ℕ) (b : Register) (d : Distinct b.trains) where
  -- where a refusal stops
  broken : (e : FeedFault) → Refused bs b e → length bs ≤ 8192 → (k : ℕ) × Broken bs b k
  broken TooLong r few = absurd (omega arith)
  broken (NoLine n) (l, (k, e, x)) few = (k, lacks_broken bs b d k x)
  broken (BadValue n) (l, (k, e, x)) few = (k, rule_broken bs b d k x)
  broken (OtherSize n) (l, (k, e, x)) few = (k, size_broken bs b d k x)
  broken (OtherValues n slot) (l, (k, j, e, a, s, ne)) few = (k, values_broken bs b d k j slot a s ne)
  broken (BookFull n) (l, (k, j, e, a, s, m)) few = (k, full_broken bs b d k j a s m)

  number : (k m n p : ℕ) → Broken bs b k → Broken bs b m → n ≡ suc k → p ≡ suc m → n ≡ p
  number k m n p x y e f = e ∙ ap suc (same_line bs b d k m x y) ∙ sym f

  -- a line that a good feed has is not missing, and its value breaks no rule
  not_missing : (k m : ℕ) (f : Feed) (q : List ℕ) → (x : LacksLine bs b k) → Broken bs b m → k ≡ m → Starts bs (suc m) f q → ⊥
  not_missing k m f q x y e s =
      let s' = subst (λ (n : ℕ). Starts bs (suc n) f q) (sym e) s in
      let keyed = keyed_line f k s'.good s'.many in
      x.missing keyed.0 q keyed.1 (next_line_lem bs k x.feed f x.rest q x.starts s' ∙ ap (λ (l : List ℕ). l ++ q) keyed.2)

  not_broken : (k m : ℕ) (f : Feed) (q : List ℕ) → BreaksRule bs b k → k ≡ m → Starts bs (suc m) f q → ⊥
  not_broken k m f q x e s = good_next bs b d k x f q (subst (λ (n : ℕ). Starts bs (suc n) f q) (sym e) s)

  missing_rule : (k m : ℕ) → LacksLine bs b k → BreaksRule bs b m → k ≡ m → ⊥
  missing_rule k m x y e =
      let y' = subst (BreaksRule bs b) (sym e) y in
      x.missing y'.value y'.more y'.plain ((starts_same bs k x.feed y'.feed x.rest y'.rest x.starts y'.starts).1 ∙ y'.begins)

  stands_absent : (k m i j slot : ℕ) (x : AtBlock bs b k i) (y : AtBlock bs b m j) → k ≡ m → Stands x.after slot (train_of x) → Absent y.after (train_of y) → ⊥
  stands_absent k m i j slot x y e st ab = go k e x st
    where
      go : (n : ℕ) → n ≡ m → (z : AtBlock bs b n i) → Stands z.after slot (train_of z) → ⊥
      go n f z s =
          let moved = subst (λ (q : ℕ). (z' : AtBlock bs b q i) × Stands z'.after slot (train_of z')) f (z, s) in
          let same = same_block bs b d m i j moved.0 y in
          ab slot (subst₂ (λ (ts : List Train) (t : Train). Stands ts slot t) same.0 same.1 moved.1)

  same_values : (n p s t k m i j : ℕ) → n ≡ suc k → p ≡ suc m → (x : AtBlock bs b k i) → Stands x.after s (train_of x) → at x.after s ≢ train_of x → (y : AtBlock bs b m j) → Stands y.after t (train_of y) → at y.after t ≢ train_of y → OtherValues n s ≡ OtherValues p t
  same_values n p s t k m i j e e' x st ne y st' ne' = λ v. OtherValues (lines' v) (slots v)
    where
      x_broken : Broken bs b k
      x_broken = values_broken bs b d k i s x st ne

      y_broken : Broken bs b m
      y_broken = values_broken bs b d m j t y st' ne'

      lines' : n ≡ p
      lines' = number k m n p x_broken y_broken e e'

      slots : s ≡ t
      slots =
          let moved = subst (λ (q : ℕ). (z : AtBlock bs b q i) × Stands z.after s (train_of z)) (same_line bs b d k m x_broken y_broken) (x, st) in
          let same = same_block bs b d m i j moved.0 y in
          same_slot y.after (train_of y) s t (after_distinct bs b d m j y) (subst₂ (λ (ts : List Train) (u : Train). Stands ts s u) same.0 same.1 moved.1) st'

  same_fault : (e f : FeedFault) → length bs ≤ 8192 → Refused bs b e → Refused bs b f → e ≡ f
  same_fault TooLong f few r q = absurd (omega arith)
  same_fault (NoLine n) TooLong few r q = absurd (omega arith)
  same_fault (NoLine n) (NoLine p) few (l, (k, e, x)) (l', (m, e', y)) = ap NoLine (number k m n p (lacks_broken bs b d k x) (lacks_broken bs b d m y) e e')
  same_fault (NoLine n) (BadValue p) few (l, (k, e, x)) (l', (m, e', y)) = absurd (missing_rule k m x y (same_line bs b d k m (lacks_broken bs b d k x) (rule_broken bs b d m y)))
  same_fault (NoLine n) (OtherSize p) few (l, (k, e, x)) (l', (m, e', y)) = absurd (not_missing k m y.feed y.rest x (size_broken bs b d m y) (same_line bs b d k m (lacks_broken bs b d k x) (size_broken bs b d m y)) y.starts)
  same_fault (NoLine n) (OtherValues p s) few (l, (k, e, x)) (l', (m, j, e', a, st, ne)) = absurd (not_missing k m a.feed a.rest x (values_broken bs b d m j s a st ne) (same_line bs b d k m (lacks_broken bs b d k x) (values_broken bs b d m j s a st ne)) a.starts)
  same_fault (NoLine n) (BookFull p) few (l, (k, e, x)) (l', (m, j, e', a, ab, c)) = absurd (not_missing k m a.feed a.rest x (full_broken bs b d m j a ab c) (same_line bs b d k m (lacks_broken bs b d k x) (full_broken bs b d m j a ab c)) a.starts)
  same_fault (BadValue n) TooLong few r q = absurd (omega arith)
  same_fault (BadValue n) (NoLine p) few (l, (k, e, x)) (l', (m, e', y)) = absurd (missing_rule m k y x (same_line bs b d m k (lacks_broken bs b d m y) (rule_broken bs b d k x)))
  same_fault (BadValue n) (BadValue p) few (l, (k, e, x)) (l', (m, e', y)) = ap BadValue (number k m n p (rule_broken bs b d k x) (rule_broken bs b d m y) e e')
  same_fault (BadValue n) (OtherSize p) few (l, (k, e, x)) (l', (m, e', y)) = absurd (not_broken k m y.feed y.rest x (same_line bs b d k m (rule_broken bs b d k x) (size_broken bs b d m y)) y.starts)
  same_fault (BadValue n) (OtherValues p s) few (l, (k, e, x)) (l', (m, j, e', a, st, ne)) = absurd (not_broken k m a.feed a.rest x (same_line bs b d k m (rule_broken bs b d k x) (values_broken bs b d m j s a st ne)) a.starts)
  same_fault (BadValue n) (BookFull p) few (l, (k, e, x)) (l', (m, j, e', a, ab, c)) = absurd (not_broken k m a.feed a.rest x (same_line bs b d k m (rule_broken bs b d k x) (full_broken bs b d m j a ab c)) a.starts)
  same_fault (OtherSize n) TooLong few r q = absurd (omega arith)
  same_fault (OtherSize n) (NoLine p) few (l, (k, e, x)) (l', (m, e', y)) = absurd (not_missing m k x.feed x.rest y (size_broken bs b d k x) (same_line bs b d m k (lacks_broken bs b d m y) (size_broken bs b d k x)) x.starts)
  same_fault (OtherSize n) (BadValue p) few (l, (k, e, x)) (l', (m, e', y)) = absurd (not_broken m k x.feed x.rest y (same_line bs b d m k (rule_broken bs b d m y) (size_broken bs b d k x)) x.starts)
  same_fault (OtherSize n) (OtherSize p) few (l, (k, e, x)) (l', (m, e', y)) = ap OtherSize (number k m n p (size_broken bs b d k x) (size_broken bs b d m y) e e')
  same_fault (OtherSize n) (OtherValues p s) few (l, (k, e, x)) (l', (m, j, e', a, st, ne)) = absurd (omega (arith, same_line bs b d k m (size_broken bs b d k x) (values_broken bs b d m j s a st ne), x.of_header, a.last))
  same_fault (OtherSize n) (BookFull p) few (l, (k, e, x)) (l', (m, j, e', a, ab, c)) = absurd (omega (arith, same_line bs b d k m (size_broken bs b d k x) (full_broken bs b d m j a ab c), x.of_header, a.last))
  same_fault (OtherValues n s) TooLong few r q = absurd (omega arith)
  same_fault (OtherValues n s) (NoLine p) few (l, (k, j, e, a, st, ne)) (l', (m, e', y)) = absurd (not_missing m k a.feed a.rest y (values_broken bs b d k j s a st ne) (same_line bs b d m k (lacks_broken bs b d m y) (values_broken bs b d k j s a st ne)) a.starts)
  same_fault (OtherValues n s) (BadValue p) few (l, (k, j, e, a, st, ne)) (l', (m, e', y)) = absurd (not_broken m k a.feed a.rest y (same_line bs b d m k (rule_broken bs b d m y) (values_broken bs b d k j s a st ne)) a.starts)
  same_fault (OtherValues n s) (OtherSize p) few (l, (k, j, e, a, st, ne)) (l', (m, e', y)) = absurd (omega (arith, same_line bs b d m k (size_broken bs b d m y) (values_broken bs b d k j s a st ne), y.of_header, a.last))
  same_fault (OtherValues n s) (OtherValues p t) few (l, (k, i, e, a, st, ne)) (l', (m, j, e', a', st', ne')) = same_values n p s t k m i j e e' a st ne a' st' ne'
  same_fault (OtherValues n s) (BookFull p) few (l, (k, i, e, a, st, ne)) (l', (m, j, e', a', ab, c)) = absurd (stands_absent k m i j s a a' (same_line bs b d k m (values_broken bs b d k i s a st ne) (full_broken bs b d m j a' ab c)) st ab)
  same_fault (BookFull n) TooLong few r q = absurd (omega arith)
  same_fault (BookFull n) (NoLine p) few (l, (k, j, e, a, ab, c)) (l', (m, e', y)) = absurd (not_missing m k a.feed a.rest y (full_broken bs b d k j a ab c) (same_line bs b d m k (lacks_broken bs b d m y) (full_broken bs b d k j a ab c)) a.starts)
  same_fault (BookFull n) (BadValue p) few (l, (k, j, e, a, ab, c)) (l', (m, e', y)) = absurd (not_broken m k a.feed a.rest y (same_line bs b d m k (rule_broken bs b d m y) (full_broken bs b d k j a ab c)) a.starts)
  same_fault (BookFull n) (OtherSize p) few (l, (k, j, e, a, ab, c)) (l', (m, e', y)) = absurd (omega (arith, same_line bs b d m k (size_broken bs b d m y) (full_broken bs b d k j a ab c), y.of_header, a.last))
  same_fault (BookFull n) (OtherValues p s) few (l, (k, i, e, a, ab, c)) (l', (m, j, e', a', st, ne)) = absurd (stands_absent m k j i s a' a (same_line bs b d m k (values_broken bs b d m j s a' st ne) (full_broken bs b d k i a ab c)) st ab)
  same_fault (BookFull n) (BookFull p) few (l, (k, i, e, a, ab, c)) (l', (m, j, e', a', ab', c')) = ap BookFull (number k m n p (full_broken bs b d k i a ab c) (full_broken bs b d m j a' ab' c') e e')

  -- a granted feed has its lines and nothing else
  ended : (n : ℕ) (c : Register) (g : Granted bs b n c) → Starts bs (length (lines g.feed)) g.feed []
  ended n c g = record {
    good = g.good;
    many = omega arith;
    whole = g.is ∙ ap run_on (sym (take_all (length (lines g.feed)) (lines g.feed) (omega arith))) ∙ sym (append-nil (run_on (take (length (lines g.feed)) (lines g.feed))));
  }

  -- it reaches its end
  granted_reach : (n : ℕ) (c : Register) (g : Granted bs b n c) (k : ℕ) → k ≤ length (lines g.feed) → Reach bs b k
  granted_reach n c g k h = record {
    feed = g.feed;
    rest = run_on (drop k (take (length (lines g.feed)) (lines g.feed))) ++ [];
    starts = starts_less bs k (length (lines g.feed)) g.feed [] h (ended n c g);
    before =
        let part = joined_less ((k - 3) / 6) g.feed.trains b.trains c.trains g.joined in
        record { sizes = λ i _ three. g.agrees i three; after = part.0; joined = part.1 };
  }

  not_both : (n : ℕ) (c : Register) (e : FeedFault) → Granted bs b n c → Refused bs b e → ⊥
  not_both n c e g r =
      let stop = broken e r g.few in
      let k = stop.0 in
      let at_end : Reach bs b (length (lines g.feed)) = granted_reach n c g (length (lines g.feed)) (omega arith) in
      elim (cases_order k (length (lines g.feed))) [
        | inl same ↦
            let whole = ended n c g in
            stop.1.goes_on (omega (arith, same, lines_long g.feed), omega (arith, same, lines_long g.feed))
            (starts_same bs k stop.1.reach.feed g.feed stop.1.reach.rest [] stop.1.reach.starts (subst (λ (m : ℕ). Starts bs m g.feed []) (sym same) whole)).1
        | inr (inl lt) ↦ stop.1.stops (granted_reach n c g (suc k) lt)
        | inr (inr gt) ↦
            let more = reach_less bs b (suc (length (lines g.feed))) k gt stop.1.reach in
            let keyed = keyed_line more.feed (length (lines g.feed)) more.starts.good more.starts.many in
            some_line _ keyed.0 more.rest (sym (next_line_lem bs (length (lines g.feed)) g.feed more.feed [] more.rest (ended n c g) more.starts ∙ ap (λ (l : List ℕ). l ++ more.rest) keyed.2))
      ]

  same_granted : (n m : ℕ) (c e : Register) → Granted bs b n c → Granted bs b m e → (m ≡ n) × (e ≡ c)
  same_granted n m c e g h = (omega (arith, g.count, h.count, ap length trains), λ i. record { sizes = sizes i; trains = trains i })
    where
      feed : h.feed ≡ g.feed
      feed = one_text_lem h.feed g.feed h.good g.good (sym h.is ∙ g.is)

      trains : e.trains ≡ c.trains
      trains = joined_same g.feed.trains b.trains e.trains c.trains (subst (λ (f : Feed). Joined b.trains f.trains e.trains) feed h.joined) g.joined

      sizes : e.sizes ≡ c.sizes
      sizes = h.sizes ∙ (λ i. sizes_for (Some (feed i).sizes) (trains i)) ∙ sym g.sizes

  pub only_answer : (r : Result ℕ FeedFault) (c : Register) → Reading bs b r c → OnlyAnswer bs b r c
  only_answer (Ok n) c g (Ok m) e h =
      let same = same_granted n m c e g h in
      (ap Ok same.0, same.1)
  only_answer (Ok n) c g (Err f) e h = absurd (not_both n c f g h.0)
  only_answer (Err f) c h (Ok n) e g = absurd (not_both n e f g h.0)
  only_answer (Err f) c h (Err g) e k = (ap Err (faults f g h.0 k.0), k.1 ∙ sym h.1)
    where
      faults : (f g : FeedFault) → Refused bs b f → Refused bs b g → g ≡ f
      faults f g x y = elim (cases_lt 8192 (length bs)) [
        | inl long ↦ long_fault g long y ∙ sym (long_fault f long x)
        | inr short ↦ same_fault g f short y x
      ]
        where
          long_fault : (e : FeedFault) → 8192 < length bs → Refused bs b e → e ≡ TooLong
          long_fault TooLong l r = refl
          long_fault (NoLine n) l r = absurd (omega (arith, r.0))
          long_fault (BadValue n) l r = absurd (omega (arith, r.0))
          long_fault (OtherSize n) l r = absurd (omega (arith, r.0))
          long_fault (OtherValues n s) l r = absurd (omega (arith, r.0))
          long_fault (BookFull n) l r = absurd (omega (arith, r.0))
