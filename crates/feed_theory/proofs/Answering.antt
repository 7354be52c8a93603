-- Reading a feed into a book has one answer. Assumes nothing.
use Rattle.std.proofs.Common.{◌≡◌, ℕ, zero, suc, ◌+◌, ◌-◌, ◌*◌, ◌/◌, ◌<◌, ◌≤◌, List, [], ◌∷◌, ◌++◌, length, take, drop, sym, refl, ap, ◌∙◌, subst, inl, inr, arith}
use Rattle.std.specs.List.{flat_map, AllByRecursion}
use Rattle.std.proofs.lemmas.List.{take_all, take-take, drop-take}
use Rattle.std.proofs.lemmas.Bool.{cases_order}
use Rattle.feed_types.specs.declared.types.Sizes.{Sizes}
use Rattle.feed_types.specs.declared.types.Train.{Train}
use Rattle.feed_types.specs.Books.{at, Distinct}
use Rattle.feed_types.specs.History.{OneText}
use Rattle.feed_types.specs.Joining.{Stands, Joins, again, new, Joined, none, more}
use Rattle.feed_types.specs.Limits.{GoodTrain}
use Rattle.feed_types.specs.Reading.{Register, Starts, Before}
use Rattle.feed_types.specs.Text.{Feed, Good, header, block, lines, run_on}
use Rattle.feed_theory.proofs.OneMore.{distinct_push}
use Rattle.feed_theory.proofs.Starting.{lines_long, starts_less, same_sizes}
use Rattle.feed_theory.proofs.Unique.{ended_lines, same_count, same_lines, same_trains}

-- lines tell the trains of their whole blocks
drop_three : (f : Feed) (n : ℕ) → take n (flat_map (block f.sizes) f.trains) ≡ drop 3 (take (3 + n) (lines f))
unfolding lines header
drop_three f n = sym (drop-take 3 n (lines f))

pub whole_trains : (k : ℕ) (f g : Feed) → Good f → Good g → 3 ≤ k → k ≤ length (lines f) → k ≤ length (lines g) → take k (lines f) ≡ take k (lines g) → take ((k - 3) / 6) f.trains ≡ take ((k - 3) / 6) g.trains
whole_trains k f g gf gg h kf kg e = go (same_sizes k f g gf gg e h)
  where
    j : ℕ
    j = (k - 3) / 6

    shorter : take (3 + 6 * j) (lines f) ≡ take (3 + 6 * j) (lines g)
    shorter = sym (take-take (3 + 6 * j) k (lines f) fits) ∙ ap (take (3 + 6 * j)) e ∙ take-take (3 + 6 * j) k (lines g) fits
      where
        fits : 3 + 6 * ((k - 3) / 6) ≤ k
        fits = omega arith

    go : f.sizes ≡ g.sizes → take j f.trains ≡ take j g.trains
    go s =
        same_trains g.sizes gg.sizes j f.trains g.trains (omega (arith, lines_long f)) (omega (arith, lines_long g))
        (subst (λ (u : Sizes). AllByRecursion (GoodTrain u) f.trains) s gf.trains) gg.trains
        (ap (λ (u : Sizes). take (6 * j) (flat_map (block u) f.trains)) (sym s) ∙ drop_three f (6 * j) ∙ ap (drop 3) shorter ∙ sym (drop_three g (6 * j)))

pub one_text_lem : OneText
one_text_lem f g gf gg e =
    let count = same_count (lines f) (lines g) (ended_lines f gf) (ended_lines g gg) e in
    let same = (same_lines (lines f) (lines g) [] [] (ended_lines f gf) (ended_lines g gg) count (ap (λ (l : List ℕ). l ++ []) e)).0 in
    let cut : take (length (lines f)) (lines f) ≡ take (length (lines f)) (lines g) = ap (take (length (lines f))) same in
    let sizes = same_sizes (length (lines f)) f g gf gg cut (omega (arith, lines_long f)) in
    let all : (x : Feed) → length (lines x) ≡ length (lines f) → take ((length (lines f) - 3) / 6) x.trains ≡ x.trains = λ x l. take_all ((length (lines f) - 3) / 6) x.trains (omega (arith, lines_long x, l)) in
    let trains = sym (all f refl) ∙ whole_trains (length (lines f)) f g gf gg (omega (arith, lines_long f)) (omega arith) (omega (arith, count)) cut ∙ all g (sym count) in
    λ i. record { sizes = sizes i; trains = trains i }

-- joining has one outcome
pub same_slot : (ts : List Train) (t : Train) (k l : ℕ) → Distinct ts → Stands ts k t → Stands ts l t → k ≡ l
same_slot ts t k l d sk sl = elim (cases_order k l) [
  | inl e ↦ e
  | inr (inl lt) ↦ absurd (d k l lt sl.0 (sk.1.0 ∙ sym sl.1.0, sk.1.1 ∙ sym sl.1.1))
  | inr (inr gt) ↦ absurd (d l k gt sk.0 (sl.1.0 ∙ sym sk.1.0, sl.1.1 ∙ sym sk.1.1))
]

pub stands_same : (ts : List Train) (t : Train) (k : ℕ) → k < length ts → at ts k ≡ t → Stands ts k t
stands_same ts t k h e = (h, (ap (λ (u : Train). u.stop) e, ap (λ (u : Train). u.label) e))

pub joins_same : (b c d : List Train) (t : Train) → Joins b t c → Joins b t d → c ≡ d
joins_same b c d t (again k h e) (again l i f) = refl
joins_same b c d t (again k h e) (new a l) = absurd (a k (stands_same b t k h e))
joins_same b c d t (new a l) (again k h e) = absurd (a k (stands_same b t k h e))
joins_same b c d t (new a l) (new a' l') = refl

pub joined_same : (ts b c d : List Train) → Joined b ts c → Joined b ts d → c ≡ d
joined_same [] b c d none none = refl
joined_same (t ∷ ts) b c d (more {c = x} i r) (more {c = y} j s) = joined_same ts y c d (subst (λ (l : List Train). Joined l ts c) (joins_same b x y t i j) r) s

pub joins_distinct : (b c : List Train) (t : Train) → Joins b t c → Distinct b → Distinct c
joins_distinct b c t (again k h e) d = d
joins_distinct b c t (new a l) d = distinct_push b t d a

pub joined_distinct : (ts b c : List Train) → Joined b ts c → Distinct b → Distinct c
joined_distinct [] b c none d = d
joined_distinct (t ∷ ts) b c (more {c = x} i r) d = joined_distinct ts x c r (joins_distinct b x t i d)

-- the first trains join too
pub joined_less : (n : ℕ) (ts b c : List Train) → Joined b ts c → (d : List Train) × Joined b (take n ts) d
joined_less zero ts b c j = (b, none)
joined_less (suc n) [] b c j = (b, none)
joined_less (suc n) (t ∷ ts) b c (more {c = x} i r) =
    let rest = joined_less n ts x c r in
    (rest.0, more i rest.1)

-- nothing refuses the first k lines
pub record Reach (bs : List ℕ) (b : Register) (k : ℕ) : Type 0 where
  pub feed : Feed
  pub rest : List ℕ
  pub starts : Starts bs k feed rest
  pub before : Before b k feed

pub before_less : (b : Register) (k m : ℕ) (f : Feed) → k ≤ m → Before b m f → Before b k f
before_less b k m f h p =
    let part = joined_less ((k - 3) / 6) (take ((m - 3) / 6) f.trains) b.trains p.after p.joined in
    record {
      sizes = λ i lt three. p.sizes i (omega arith) three;
      after = part.0;
      joined = subst (λ (ts : List Train). Joined b.trains ts part.0) (take-take ((k - 3) / 6) ((m - 3) / 6) f.trains fewer) part.1;
    }
  where
    fewer : (k - 3) / 6 ≤ (m - 3) / 6
    fewer = omega arith

pub reach_less : (bs : List ℕ) (b : Register) (k m : ℕ) → k ≤ m → Reach bs b m → Reach bs b k
reach_less bs b k m h r = record {
  feed = r.feed;
  rest = run_on (drop k (take m (lines r.feed))) ++ r.rest;
  starts = starts_less bs k m r.feed r.rest h r.starts;
  before = before_less b k m r.feed h r.before;
}
