-- The first lines of a feed, and the one that follows them. Assumes nothing.
use Rattle.std.proofs.Common.{◌≡◌, ℕ, zero, suc, ◌+◌, ◌*◌, ◌^◌, ◌<◌, ◌≤◌, List, [], ◌∷◌, ◌++◌, length, get_or, take, drop, decimal, sym, refl, ap, ◌∙◌, append_assoc, append-nil, add-one, arith}
use Rattle.std.specs.List.{flat_map}
use Rattle.std.specs.Str.Iter.{LacksByte}
use Rattle.std.proofs.lemmas.Fmt.{decimal_injective}
use Rattle.std.proofs.ByRecursion.{All-take, All-append}
use Rattle.std.proofs.lemmas.List.{length-append, length-take-le, take-append-le, take-append-drop, take-take, take_more, same_from_push, drop-take, get_or-drop, get_or-take, get_or_append_left, flat_map_more}
use Rattle.feed_types.specs.declared.keys.Key.{Key}
use Rattle.feed_types.specs.declared.types.Sizes.{Sizes}
use Rattle.feed_types.specs.declared.types.Train.{Train}
use Rattle.feed_types.specs.Books.{at}
use Rattle.feed_types.specs.Limits.{GoodSizes}
use Rattle.feed_types.specs.Reading.{Starts, key_at, size_at}
use Rattle.feed_types.specs.Text.{Feed, Good, header, block, line, lines, run_on}
use Rattle.feed_types.specs.Tokens.{spelt}
use Rattle.feed_theory.proofs.BlockLines.{run_on_append, same_from_line}
use Rattle.feed_theory.proofs.Unique.{Ended, ended_line, ended_lines, same_lines}

header_long : (s : Sizes) → length (header s) ≡ 3
unfolding header
header_long s = refl

pub lines_header : (f : Feed) (i : ℕ) → i ≤ 3 → take i (lines f) ≡ take i (header f.sizes)
unfolding lines
lines_header f i h = take-append-le i (header f.sizes) (flat_map (block f.sizes) f.trains) (omega (arith, header_long f.sizes))

pub lines_some : (f : Feed) → 3 ≤ length (lines f)
unfolding lines
lines_some f = omega (arith, length-append (header f.sizes) (flat_map (block f.sizes) f.trains), header_long f.sizes)

-- a feed of sizes alone
abbrev pub bare : Sizes → Feed
bare s = record { sizes = s; trains = [] }

pub good_bare : (s : Sizes) → GoodSizes s → Good (bare s)
good_bare s g = record { sizes = g; trains = tt }

pub header_starts : (bs : List ℕ) (i : ℕ) (s : Sizes) (rest : List ℕ) → GoodSizes s → i ≤ 3 → bs ≡ run_on (take i (header s)) ++ rest → Starts bs i (bare s) rest
header_starts bs i s rest g h e = record {
  good = good_bare s g;
  many = omega (arith, lines_some (bare s));
  whole = e ∙ ap (λ (l : List (List ℕ)). run_on l ++ rest) (sym (lines_header (bare s) i h));
}

pub header_line : (f : Feed) (i : ℕ) → i < 3 → get_or (lines f) i [] ≡ line (spelt (key_at i)) (decimal (size_at i f.sizes))
unfolding lines header
header_line f zero h = refl
header_line f (suc zero) h = refl
header_line f (suc (suc zero)) h = refl
header_line f (suc (suc (suc i))) h = absurd (omega arith)

-- the first k lines of a text that starts with more of them
pub starts_less : (bs : List ℕ) (k m : ℕ) (f : Feed) (rest : List ℕ) → k ≤ m → Starts bs m f rest → Starts bs k f (run_on (drop k (take m (lines f))) ++ rest)
starts_less bs k m f rest h s = record {
  good = s.good;
  many = omega (arith, s.many);
  whole = s.whole ∙ ap (λ (l : List (List ℕ)). run_on l ++ rest) (sym (take-append-drop k (take m (lines f)))) ∙ ap (λ (l : List ℕ). l ++ rest) (run_on_append (take k (take m (lines f))) (drop k (take m (lines f)))) ∙ append_assoc (run_on (take k (take m (lines f)))) (run_on (drop k (take m (lines f)))) rest ∙ ap (λ (l : List (List ℕ)). run_on l ++ (run_on (drop k (take m (lines f))) ++ rest)) (take-take k m (lines f) h);
}

-- two feeds that a text starts with have these lines in common
pub starts_same : (bs : List ℕ) (k : ℕ) (f g : Feed) (r q : List ℕ) → Starts bs k f r → Starts bs k g q → (take k (lines f) ≡ take k (lines g)) × (r ≡ q)
starts_same bs k f g r q s t =
    same_lines (take k (lines f)) (take k (lines g)) r q (All-take Ended k (lines f) (ended_lines f s.good)) (All-take Ended k (lines g) (ended_lines g t.good))
    (length-take-le k (lines f) s.many ∙ sym (length-take-le k (lines g) t.many)) (sym s.whole ∙ t.whole)

-- the line that follows the first k
pub next_of : (bs : List ℕ) (k : ℕ) (f g : Feed) (key : Key) (value rest more q : List ℕ) → Starts bs k f rest → rest ≡ line (spelt key) value ++ more → LacksByte 10 value → Starts bs (suc k) g q → (take k (lines g) ≡ take k (lines f)) × (get_or (lines g) k [] ≡ line (spelt key) value) × (q ≡ more)
next_of bs k f g key value rest more q s e plain t = (parts.0, parts.1, sym both.1)
  where
    new : List (List ℕ)
    new = take k (lines f) ++ (line (spelt key) value ∷ [])

    long : length new ≡ length (take (suc k) (lines g))
    long = length-append (take k (lines f)) (line (spelt key) value ∷ []) ∙ ap (λ (n : ℕ). n + 1) (length-take-le k (lines f) s.many) ∙ add-one k ∙ sym (length-take-le (suc k) (lines g) t.many)

    runs : run_on new ++ more ≡ run_on (take (suc k) (lines g)) ++ q
    runs = ap (λ (l : List ℕ). l ++ more) (run_on_append (take k (lines f)) (line (spelt key) value ∷ [])) ∙ append_assoc (run_on (take k (lines f))) (line (spelt key) value ++ []) more ∙ ap (λ (l : List ℕ). run_on (take k (lines f)) ++ (l ++ more)) (append-nil (line (spelt key) value)) ∙ ap (λ (l : List ℕ). run_on (take k (lines f)) ++ l) (sym e) ∙ sym s.whole ∙ t.whole

    both : (new ≡ take (suc k) (lines g)) × (more ≡ q)
    both = same_lines new (take (suc k) (lines g)) more q
        (All-append Ended (take k (lines f)) (line (spelt key) value ∷ []) (All-take Ended k (lines f) (ended_lines f s.good)) (ended_line key value plain, tt))
        (All-take Ended (suc k) (lines g) (ended_lines g t.good)) long runs

    parts : (take k (lines g) ≡ take k (lines f)) × (get_or (lines g) k [] ≡ line (spelt key) value)
    parts = same_from_push (take k (lines g)) (take k (lines f)) (get_or (lines g) k []) (line (spelt key) value) (sym (take_more (lines g) k [] t.many) ∙ ap (λ (n : ℕ). take n (lines g)) (add-one k) ∙ sym both.0)

-- lines by place
blocks_long : (s : Sizes) (ts : List Train) → length (flat_map (block s) ts) ≡ 6 * length ts
unfolding block
blocks_long s [] = refl
blocks_long s (t ∷ ts) = omega (arith, blocks_long s ts)

pub lines_long : (f : Feed) → length (lines f) ≡ 3 + 6 * length f.trains
unfolding lines
lines_long f = omega (arith, length-append (header f.sizes) (flat_map (block f.sizes) f.trains), header_long f.sizes, blocks_long f.sizes f.trains)

pub lines_push : (s : Sizes) (ts : List Train) (t : Train) → lines (record { sizes = s; trains = ts ++ (t ∷ []) }) ≡ lines (record { sizes = s; trains = ts }) ++ block s t
unfolding lines
lines_push s ts t = ap (λ (l : List (List ℕ)). header s ++ l) (sym (flat_map_more (block s) [] ts t)) ∙ sym (append_assoc (header s) (flat_map (block s) ts) (block s t))

blocks_at : (s : Sizes) (j : ℕ) (ts : List Train) → j < length ts → (more : List (List ℕ)) × (drop (6 * j) (flat_map (block s) ts) ≡ block s (at ts j) ++ more)
unfolding block
blocks_at s j [] h = absurd (omega arith)
blocks_at s zero (t ∷ ts) h = (flat_map (block s) ts, refl)
blocks_at s (suc j) (t ∷ ts) h =
    let six : 6 * suc j ≡ suc (suc (suc (suc (suc (suc (6 * j)))))) = omega arith in
    let rest = blocks_at s j ts (omega arith) in
    (rest.0, ap (λ (n : ℕ). drop n (block s t ++ flat_map (block s) ts)) six ∙ rest.1)

pub lines_at : (f : Feed) (j : ℕ) → j < length f.trains → (more : List (List ℕ)) × (drop (3 + 6 * j) (lines f) ≡ block f.sizes (at f.trains j) ++ more)
unfolding lines header
lines_at f j h =
    let three : 3 + 6 * j ≡ suc (suc (suc (6 * j))) = omega arith in
    let rest = blocks_at f.sizes j f.trains h in
    (rest.0, ap (λ (n : ℕ). drop n (lines f)) three ∙ rest.1)

block_long : (s : Sizes) (t : Train) → length (block s t) ≡ 6
unfolding block
block_long s t = refl

-- line i of block j, and the lines before it
pub block_line : (f : Feed) (j i : ℕ) → j < length f.trains → i < 6 → get_or (lines f) (3 + (6 * j + i)) [] ≡ get_or (block f.sizes (at f.trains j)) i []
block_line f j i h k =
    let rest = lines_at f j h in
    ap (λ (n : ℕ). get_or (lines f) n []) (omega arith) ∙ sym (get_or-drop (3 + 6 * j) (lines f) i []) ∙ ap (λ (l : List (List ℕ)). get_or l i []) rest.1 ∙ get_or_append_left (block f.sizes (at f.trains j)) rest.0 [] i (omega (arith, block_long f.sizes (at f.trains j)))

pub block_front : (f : Feed) (j i : ℕ) → j < length f.trains → i ≤ 6 → drop (3 + 6 * j) (take (3 + (6 * j + i)) (lines f)) ≡ take i (block f.sizes (at f.trains j))
block_front f j i h k =
    let rest = lines_at f j h in
    ap (λ (n : ℕ). drop (3 + 6 * j) (take n (lines f))) (omega arith) ∙ drop-take (3 + 6 * j) i (lines f) ∙ ap (take i) rest.1 ∙ take-append-le i (block f.sizes (at f.trains j)) rest.0 (omega (arith, block_long f.sizes (at f.trains j)))

-- what the first lines tell
pub same_size : (k i : ℕ) (f g : Feed) → Good f → Good g → take k (lines f) ≡ take k (lines g) → i < k → i < 3 → size_at i f.sizes ≡ size_at i g.sizes
same_size k i f g gf gg e lt h =
    decimal_injective (size_at i f.sizes) (size_at i g.sizes) (small f i gf h) (small g i gg h)
    (same_from_line (spelt (key_at i)) _ _ (sym (header_line f i h) ∙ sym (get_or-take k (lines f) i [] lt) ∙ ap (λ (l : List (List ℕ)). get_or l i []) e ∙ get_or-take k (lines g) i [] lt ∙ header_line g i h))
  where
    small : (x : Feed) (n : ℕ) → Good x → n < 3 → size_at n x.sizes < 2 ^ 64
    small x zero gx l = omega (arith, gx.sizes.stops.1)
    small x (suc zero) gx l = omega (arith, gx.sizes.states.1)
    small x (suc (suc n)) gx l = omega (arith, gx.sizes.inputs.1)

pub same_sizes : (k : ℕ) (f g : Feed) → Good f → Good g → take k (lines f) ≡ take k (lines g) → 3 ≤ k → f.sizes ≡ g.sizes
same_sizes k f g gf gg e h =
    let stops = same_size k 0 f g gf gg e (omega arith) (omega arith) in
    let states = same_size k 1 f g gf gg e (omega arith) (omega arith) in
    let inputs = same_size k 2 f g gf gg e (omega arith) (omega arith) in
    λ i. record { stops = stops i; states = states i; inputs = inputs i }
