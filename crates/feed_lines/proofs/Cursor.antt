-- The lines of a header and of a block, read one after the other from a feed. Assumes nothing.
use Rattle.std.specs.Option.{option_map}
use Rattle.std.proofs.Common.{◌≡◌, ℕ, suc, ◌<◌, ◌≤◌, Bool, true, false, not, List, length, get_or, take, drop, Option, ℤ, decimal, Decides, refl, sym, ap, ◌∙◌, subst, subst₂, arith}
use Rattle.std.specs.Fmt.{signed_decimal}
use Rattle.std.specs.Cmp.Lexicographic.{pointwise}
use Rattle.std.specs.Ordering.{int_eq}
use Rattle.std.proofs.lemmas.Bool.{true≢false, not-false}
use Rattle.std.proofs.lemmas.Bool.Decides.{not_from_Decides, Decides-int_eq}
use Rattle.std.proofs.lemmas.Slice.Eq.{slice_eq-Decides}
use Rattle.feed_types.specs.declared.faults.FeedFault.{FeedFault}
use Rattle.feed_types.specs.declared.types.Sizes.{Sizes}
use Rattle.feed_types.specs.declared.types.Train.{Train}
use Rattle.feed_types.specs.declared.keys.Key.{Key}
use Rattle.feed_types.specs.declared.keys.Key.TheVariants as key
use Rattle.feed_types.specs.Blocks.{ReadSize, BadSize, BadBlock, NextLine, ReadBlock}
use Rattle.feed_types.specs.Fields.{AllZero, BadLine}
use Rattle.feed_types.specs.Tokens.{LineAt}
use Rattle.feed_types.specs.declared.faults.FeedFault.TheVariants.{BadValue}
use Rattle.feed_types.specs.declared.types.Label.{Label}
use Rattle.feed_types.specs.Limits.{GoodLabel, Factors, Within, name}
use Rattle.feed_types.specs.Text.{commas}
use Rattle.feed_theory.proofs.BlockLines.{ReadsTo, refused_line, unread, label_a, no_late, no_moves, still, none_read, read_label, read_stop, read_weight, read_late, read_moves, read_aim, moves_refused}
use Rattle.feed_types.specs.Reading.{Refused, key_at, size_at, block_keys}
use Rattle.feed_theory.proofs.Headers.{HeaderTo, limit, put, one_size_more, bad_size}
use Rattle.feed_lines.specs.declared.blocks.Blocks.{Blocks}
use Rattle.feed_lines.specs.declared.lines.Lines.{Lines}
use Rattle.feed_lines.specs.Cursor.{left, Passes, NextBlock}

-- size i of a header is read, or refused, at the cursor l in the feed bs
module _ (bs : List ℕ) (held : Option Sizes) (i : ℕ) (s : Sizes) (l : Lines) (o : Option ℕ) (h : i < 3) (e : l.feed.now ≡ bs) (p : o ≡ option_map (size_at i) held) (t : HeaderTo bs held i s l.place) where
  pub size_more : (n : ℕ) (m : Lines) → (m.feed.now ≡ l.feed.now) × ReadSize l.feed.now l.place (key_at i) (limit i) o n m.place → (m.feed.now ≡ bs) × HeaderTo bs held (suc i) (put i n s) m.place
  size_more n m r = (r.0 ∙ e, one_size_more bs held i n s l.place m.place h t (subst₂ (λ (fs : List ℕ) (q : Option ℕ). ReadSize fs l.place (key_at i) (limit i) q n m.place) e p r.1))

  pub size_refused : length bs ≤ 8192 → (f : FeedFault) → BadSize (key_at i) (limit i) o (left l) l.place.line f → (ts : List Train) → Refused bs (record { sizes = held; trains = ts }) f
  size_refused few f b ts = bad_size bs held i s l.place h few t ts f (subst₂ (λ (fs : List ℕ) (q : Option ℕ). BadSize (key_at i) (limit i) q (drop l.place.at fs) l.place.line f) e p b)

-- there is a line left
pub not_done : (l : Lines) (r : Bool) → Decides r (l.place.at ≡ length l.feed.now) → r ≡ false → l.place.at < length l.feed.now
not_done l r d e = let ne : l.place.at ≡ length l.feed.now → ⊥ = not_from_Decides r d e in omega (arith, l.inside.within, ne)

-- the first i lines of the next block of b are those of t, and l is at the line after them
pub record Reads (b : Blocks) (i : ℕ) (t : Train) (l : Lines) : Type 0 where
  pub same : l.feed.now ≡ b.lines.feed.now
  pub lines : ReadsTo b.sizes b.lines.feed.now b.lines.place i t l.place

took : (bs : List ℕ) (l m : Lines) (k : Key) (v : List ℕ) → l.feed.now ≡ bs → Passes l k v m → (m.feed.now ≡ bs) × LineAt bs l.place k v m.place
took bs l m k v e p = (p.same ∙ e, subst (λ (fs : List ℕ). LineAt fs l.place k v m.place) e p.line)

module _ (b : Blocks) where
  pub none_yet : Reads b 0 (unread label_a 0 1 no_late no_moves) b.lines
  none_yet = record { same = refl; lines = none_read b.sizes b.lines.feed.now b.lines.place b.good b.lines.inside }

  -- the lines of the next block, each read after those above it
  module _ {x : Label} {l₁ : Lines} (label : GoodLabel x × Passes b.lines key.Train (name x) l₁) where
    pub label_read : Reads b 1 (unread x 0 1 no_late no_moves) l₁
    label_read =
        let at = took _ b.lines l₁ _ _ refl label.1 in
        record { same = at.0; lines = read_label b.sizes _ b.lines.place b.good b.lines.inside x l₁.place label.0 at.1 }

    module _ {last n : ℕ} {l₂ : Lines} (is_last : last ≡ b.sizes.stops) (stop : (0 ≤ n) × (n ≤ last) × Passes l₁ key.Stop (decimal n) l₂) where
      pub stop_read : Reads b 2 (unread x n 1 no_late no_moves) l₂
      stop_read =
          let at = took _ l₁ l₂ _ _ label_read.same stop.2 in
          record { same = at.0; lines = read_stop b.sizes _ b.lines.place b.good b.lines.inside x n l₁.place l₂.place (subst (λ (m : ℕ). n ≤ m) is_last stop.1) label_read.lines at.1 }

      module _ {w : ℕ} {l₃ : Lines} (weight : (1 ≤ w) × (w ≤ 999) × Passes l₂ key.Weight (decimal w) l₃) where
        pub weight_read : Reads b 3 (unread x n w no_late no_moves) l₃
        weight_read =
            let at = took _ l₂ l₃ _ _ stop_read.same weight.2 in
            record { same = at.0; lines = read_weight b.sizes _ b.lines.place b.good b.lines.inside x n w l₂.place l₃.place weight.0 weight.1 stop_read.lines at.1 }

        module _ {xs : List ℤ} {l₄ : Lines} (late : Factors b.sizes.states 4 xs × Passes l₃ key.Late (commas (take b.sizes.states xs)) l₄) where
          pub late_read : Reads b 4 (unread x n w xs no_moves) l₄
          late_read =
              let at = took _ l₃ l₄ _ _ weight_read.same late.1 in
              record { same = at.0; lines = read_late b.sizes _ b.lines.place b.good b.lines.inside x n w xs l₃.place l₄.place late.0 weight_read.lines at.1 }

          module _ {ys : List ℤ} {l₅ : Lines} (moves : Factors b.sizes.inputs 3 ys × Passes l₄ key.Move (commas (take b.sizes.inputs ys)) l₅) where
            pub moves_bad : n ≡ last → (ys ≡ no_moves → ⊥) → BadBlock b.sizes (left b.lines) b.lines.place.line (BadValue l₄.place.line)
            moves_bad at_last other = moves_refused b.sizes _ b.lines.place l₄.place l₅.place _ ys b.good (at_last ∙ is_last) late_read.lines moves.0 (took _ l₄ l₅ _ _ late_read.same moves.1).1 other

            module _ (rest : n ≡ last → ys ≡ no_moves) where
              pub moves_read : Reads b 5 (unread x n w xs ys) l₅
              moves_read =
                  let at = took _ l₄ l₅ _ _ late_read.same moves.1 in
                  record { same = at.0; lines = read_moves b.sizes _ b.lines.place b.good b.lines.inside x n w xs ys l₄.place l₅.place moves.0 (λ e. subst AllZero (sym (rest (e ∙ sym is_last))) still) late_read.lines at.1 }

              pub aim_read : {z : ℤ} {l₆ : Lines} → Within 999 z × Passes l₅ key.Aim (signed_decimal z) l₆ → (l₆.feed.now ≡ b.lines.feed.now) × ReadBlock b.lines.feed.now b.lines.place b.sizes (record { stop = n; label = x; weight = w; late = xs; moves = ys; aim = z }) l₆.place
              aim_read {z} {l₆} aim =
                  let at = took _ l₅ l₆ _ _ moves_read.same aim.1 in
                  (at.0, read_aim b.sizes _ b.lines.place b.good b.lines.inside x n w xs ys z l₅.place l₆.place aim.0 moves_read.lines at.1)

  -- a line is refused after these
  pub refused_at : (i : ℕ) (t : Train) (l : Lines) (A : List ℕ → Type 0) (f : FeedFault) → i < 6 → Reads b i t l → ((v : List ℕ) → NextLine b.sizes t i v → A v) → BadLine (get_or block_keys i key.Aim) A (left l) l.place.line f → BadBlock b.sizes (left b.lines) b.lines.place.line f
  refused_at i t l A f h r a d = refused_line b.sizes _ b.lines.place l.place i t A f h r.lines a (subst (λ (fs : List ℕ). BadLine (get_or block_keys i key.Aim) A (drop l.place.at fs) l.place.line f) r.same d)

-- the moves are 0 at the last stop, where they are compared
pub moves_at_last : {n last : ℕ} {ys : List ℤ} (r : Bool) → r ≡ not (pointwise int_eq ys no_moves) → r ≡ false → n ≡ last → ys ≡ no_moves
moves_at_last {n} {last} {ys} r e f at_last = (slice_eq-Decides Decides-int_eq ys no_moves _ refl).0 (not-false _ (sym e ∙ f))

pub moves_other : {ys : List ℤ} (r : Bool) → r ≡ not (pointwise int_eq ys no_moves) → r ≡ true → ys ≡ no_moves → ⊥
moves_other {ys} r e t same = true≢false (sym t ∙ e ∙ ap not ((slice_eq-Decides Decides-int_eq ys no_moves _ refl).1 same))

-- the next block of b, in the feed bs of the sizes s
pub next_in : (bs : List ℕ) (s : Sizes) (b c : Blocks) (t : Train) (n : ℕ) → b.lines.feed.now ≡ bs → b.sizes ≡ s → NextBlock b t n c → (c.lines.feed.now ≡ bs) × (c.sizes ≡ s) × ReadBlock bs b.lines.place s t c.lines.place
next_in bs s b c t n e z h = (h.same ∙ e, h.sizes ∙ z, subst₂ (λ (fs : List ℕ) (u : Sizes). ReadBlock fs b.lines.place u t c.lines.place) e z h.read)
