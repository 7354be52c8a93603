-- A header read line by line. Assumes nothing.
use Rattle.std.specs.Option.{option_map}
use Rattle.std.proofs.Common.{Some, None, ◌≡◌, ℕ, zero, suc, ◌+◌, ◌-◌, ◌/◌, ◌<◌, ◌≤◌, List, [], ◌∷◌, ◌++◌, length, take, drop, decimal, Option, sym, refl, ap, ◌∙◌, subst, append_assoc, append-nil, add-one, arith, lit≤}
use native.Mathlib.Decide.{ℕ_discrete}
use Rattle.feed_types.specs.declared.faults.FeedFault.{FeedFault}
use Rattle.feed_types.specs.declared.faults.FeedFault.TheVariants.{TooLong, NoLine, BadValue, OtherSize, OtherValues, BookFull}
use Rattle.feed_types.specs.declared.keys.Place.{Place}
use Rattle.feed_types.specs.declared.types.Sizes.{Sizes}
use Rattle.feed_types.specs.declared.types.Train.{Train}
use Rattle.feed_types.specs.Blocks.{IsHeld, ReadSize, BadSize, ReadHeader}
use Rattle.feed_types.specs.Joining.{Joined, none}
use Rattle.feed_types.specs.Limits.{GoodSizes}
use Rattle.feed_types.specs.Reading.{Register, Refused, Before, key_at, size_at}
use Rattle.feed_types.specs.Text.{header, line, run_on}
use Rattle.feed_types.specs.Tokens.{spelt, InFeed}
use Rattle.feed_theory.proofs.BlockLines.{run_on_append, same_from_line}
use Rattle.feed_theory.proofs.Starting.{bare, header_starts, header_line, next_of}

abbrev pub limit : ℕ → ℕ
limit zero = 24
limit (suc zero) = 4
limit (suc (suc i)) = 3

-- s with n as size i
abbrev pub put : ℕ → ℕ → Sizes → Sizes
put zero n s = record { stops = n; states = s.states; inputs = s.inputs }
put (suc zero) n s = record { stops = s.stops; states = n; inputs = s.inputs }
put (suc (suc i)) n s = record { stops = s.stops; states = s.states; inputs = n }

good_size : (s : Sizes) (i : ℕ) → GoodSizes s → (1 ≤ size_at i s) × (size_at i s ≤ limit i)
good_size s zero g = g.stops
good_size s (suc zero) g = g.states
good_size s (suc (suc i)) g = g.inputs

good_put : (s : Sizes) (i n : ℕ) → GoodSizes s → 1 ≤ n → n ≤ limit i → GoodSizes (put i n s)
good_put s zero n g l h = record { stops = (l, h); states = g.states; inputs = g.inputs }
good_put s (suc zero) n g l h = record { stops = g.stops; states = (l, h); inputs = g.inputs }
good_put s (suc (suc i)) n g l h = record { stops = g.stops; states = g.states; inputs = (l, h) }

size_put : (s : Sizes) (i n : ℕ) → size_at i (put i n s) ≡ n
size_put s zero n = refl
size_put s (suc zero) n = refl
size_put s (suc (suc i)) n = refl

size_kept : (s : Sizes) (i n k : ℕ) → k < i → i < 3 → size_at k (put i n s) ≡ size_at k s
size_kept s zero n k h j = absurd (omega arith)
size_kept s (suc zero) n zero h j = refl
size_kept s (suc zero) n (suc k) h j = absurd (omega arith)
size_kept s (suc (suc i)) n zero h j = refl
size_kept s (suc (suc i)) n (suc zero) h j = refl
size_kept s (suc (suc i)) n (suc (suc k)) h j = absurd (omega arith)

header_put : (s : Sizes) (i n : ℕ) → i < 3 → take (suc i) (header (put i n s)) ≡ take i (header s) ++ (line (spelt (key_at i)) (decimal n) ∷ [])
unfolding header
header_put s zero n h = refl
header_put s (suc zero) n h = refl
header_put s (suc (suc zero)) n h = refl
header_put s (suc (suc (suc i))) n h = absurd (omega arith)

-- the first i lines of the header are those of s, and q is the place after them
pub record HeaderTo (bs : List ℕ) (held : Option Sizes) (i : ℕ) (s : Sizes) (q : Place) : Type 0 where
  pub good : GoodSizes s
  pub agrees : (k : ℕ) → k < i → IsHeld held k (size_at k s)
  pub begins : bs ≡ run_on (take i (header s)) ++ drop q.at bs
  pub number : q.line ≡ suc i
  pub next : InFeed bs q

abbrev pub ones : Sizes
ones = record { stops = 1; states = 1; inputs = 1 }

pub no_line_yet : (bs : List ℕ) (held : Option Sizes) → HeaderTo bs held 0 ones (record { line = 1; at = 0 })
no_line_yet bs held = record {
  good = record { stops = (lit≤ tt, lit≤ tt); states = (lit≤ tt, lit≤ tt); inputs = (lit≤ tt, lit≤ tt) };
  agrees = λ k h. absurd (omega arith);
  begins = refl;
  number = refl;
  next = record { within = omega arith; lines = omega arith };
}

run_put : (s : Sizes) (i n : ℕ) (rest more : List ℕ) → i < 3 → rest ≡ line (spelt (key_at i)) (decimal n) ++ more → run_on (take i (header s)) ++ rest ≡ run_on (take (suc i) (header (put i n s))) ++ more
run_put s i n rest more h e =
    ap (λ (l : List ℕ). run_on (take i (header s)) ++ l) e
    ∙ sym (append_assoc (run_on (take i (header s))) (line (spelt (key_at i)) (decimal n)) more)
    ∙ ap (λ (l : List ℕ). (run_on (take i (header s)) ++ l) ++ more) (sym (append-nil (line (spelt (key_at i)) (decimal n))))
    ∙ ap (λ (l : List ℕ). l ++ more) (sym (run_on_append (take i (header s)) (line (spelt (key_at i)) (decimal n) ∷ [])))
    ∙ ap (λ (l : List (List ℕ)). run_on l ++ more) (sym (header_put s i n h))

agrees_put : (held : Option Sizes) (s : Sizes) (i n : ℕ) → i < 3 → ((k : ℕ) → k < i → IsHeld held k (size_at k s)) → (k : ℕ) → k < i → IsHeld held k (size_at k (put i n s))
agrees_put held s i n h a k lt u e = a k lt u e ∙ sym (size_kept s i n k lt h)

pub one_size_more : (bs : List ℕ) (held : Option Sizes) (i n : ℕ) (s : Sizes) (q r : Place) → i < 3 → HeaderTo bs held i s q → ReadSize bs q (key_at i) (limit i) (option_map (size_at i) held) n r → HeaderTo bs held (suc i) (put i n s) r
one_size_more bs held i n s q r h t m = record {
  good = good_put s i n t.good m.low m.high;
  agrees = agrees;
  begins = t.begins ∙ run_put s i n (drop q.at bs) (drop r.at bs) h m.line.whole;
  number = m.line.number ∙ ap (λ (l : ℕ). l + 1) t.number ∙ add-one (suc i);
  next = m.line.next;
}
  where
    agrees : (k : ℕ) → k < suc i → IsHeld held k (size_at k (put i n s))
    agrees k lt u e = go (ℕ_discrete k i)
      where
        go : Dec (k ≡ i) → size_at k u ≡ size_at k (put i n s)
        go (yes same) = subst (λ (j : ℕ). size_at j u ≡ size_at j (put i n s)) (sym same) (m.agrees (size_at i u) (ap (option_map (size_at i)) e) ∙ sym (size_put s i n))
        go (no other) = agrees_put held s i n h t.agrees k (omega arith) u e

-- a size of the book is that of its sizes
book_size : (held : Option Sizes) (i m : ℕ) → option_map (size_at i) held ≡ Some m → (u : Sizes) × (held ≡ Some u) × (size_at i u ≡ m)
book_size None i m e = cc
book_size (Some u) i m e = (u, refl, cc)

module _ (bs : List ℕ) (held : Option Sizes) (i : ℕ) (s : Sizes) (q : Place) (h : i < 3) (few : length bs ≤ 8192) (t : HeaderTo bs held i s q) (ts : List Train) where
  abbrev book : Register
  book = record { sizes = held; trains = ts }

  before : (u : Sizes) → ((k : ℕ) → k < i → IsHeld held k (size_at k u)) → Before book i (bare u)
  before u a = record { sizes = λ k lt _ v e. a k lt v e; after = ts; joined = subst (λ (l : List Train). Joined ts l ts) (nothing ((i - 3) / 6)) none }
    where
      nothing : (n : ℕ) → ◌≡◌ {A = List Train} [] (take n [])
      nothing zero = refl
      nothing (suc n) = refl

  pub bad_size : (e : FeedFault) → BadSize (key_at i) (limit i) (option_map (size_at i) held) (drop q.at bs) q.line e → Refused bs book e
  bad_size TooLong b = absurd b
  bad_size (NoLine m) b = (
    few,
    (
      i,
      b.0 ∙ t.number,
      record {
        feed = bare s;
        rest = drop q.at bs;
        starts = header_starts bs i s (drop q.at bs) t.good (omega arith) t.begins;
        before = before s t.agrees;
        missing = b.1;
        goes_on = λ g. absurd (omega (arith, g.0));
      },
    ),
  )
  bad_size (BadValue m) b = (
    few,
    (
      i,
      b.0 ∙ t.number,
      record {
        feed = bare s;
        rest = drop q.at bs;
        starts = header_starts bs i s (drop q.at bs) t.good (omega arith) t.begins;
        before = before s t.agrees;
        value = b.1.value;
        more = b.1.more;
        plain = b.1.plain;
        begins = b.1.begins;
        broken = λ g st.
            let next = next_of bs i (bare s) g (key_at i) b.1.value (drop q.at bs) b.1.more b.1.more (header_starts bs i s (drop q.at bs) t.good (omega arith) t.begins) b.1.begins b.1.plain st in
            let fine = good_size g.sizes i st.good.sizes in
            b.1.broken (size_at i g.sizes, fine.0, fine.1, same_from_line (spelt (key_at i)) b.1.value (decimal (size_at i g.sizes)) (sym next.1 ∙ header_line g i h));
      },
    ),
  )
  bad_size (OtherSize m) b = (
    few,
    (
      i,
      b.0 ∙ t.number,
      record {
        feed = bare (put i b.1.size s);
        rest = b.1.more;
        starts = header_starts bs (suc i) (put i b.1.size s) b.1.more (good_put s i b.1.size t.good b.1.low b.1.high) (omega arith) (t.begins ∙ run_put s i b.1.size (drop q.at bs) b.1.more h b.1.begins);
        before = before (put i b.1.size s) (agrees_put held s i b.1.size h t.agrees);
        of_header = h;
        held = (book_size held i b.1.other b.1.has).0;
        has = (book_size held i b.1.other b.1.has).1;
        differs = λ e. b.1.differs (sym (book_size held i b.1.other b.1.has).2 ∙ e ∙ size_put s i b.1.size);
      },
    ),
  )
  bad_size (OtherValues m l) b = absurd b
  bad_size (BookFull m) b = absurd b

pub whole_header : (bs : List ℕ) (held : Option Sizes) (s : Sizes) (q : Place) → HeaderTo bs held 3 s q → ReadHeader bs held s q
unfolding header
whole_header bs held s q t = record { good = t.good; agrees = t.agrees; whole = t.begins; number = t.number; next = t.next }
