-- Trains joined one after the other. Assumes nothing.
use Rattle.std.proofs.Common.{◌≡◌, ℕ, List, [], ◌∷◌, ◌++◌, drop, Some, sym, refl, ap, ◌∙◌, append_assoc, append-nil, add-zero, arith}
use Rattle.std.specs.List.{flat_map}
use Rattle.std.proofs.ByRecursion.{All-push}
use Rattle.std.proofs.lemmas.List.{length_push, flat_map_more}
use Rattle.feed_types.specs.declared.keys.Place.{Place}
use Rattle.feed_types.specs.declared.types.Sizes.{Sizes}
use Rattle.feed_types.specs.declared.types.Train.{Train}
use Rattle.feed_types.specs.Blocks.{ReadBlock}
use Rattle.feed_types.specs.Joining.{Joins, again, new, Joined, none, more}
use Rattle.feed_types.specs.Limits.{GoodTrain}
use Rattle.feed_types.specs.Progress.{JoinedTo}
use Rattle.feed_types.specs.Reading.{Register, Agreed, size_at}
use Rattle.feed_types.specs.Text.{block, run_on}
use Rattle.feed_types.specs.Tokens.{InFeed}
use Rattle.feed_theory.proofs.BlockLines.{run_on_append}

pub joined_push : {b c d : List Train} {t : Train} {ts : List Train} → Joined b ts c → Joins c t d → Joined b (ts ++ (t ∷ [])) d
joined_push none j = more j none
joined_push (more i r) j = more i (joined_push r j)

-- a book only grows at its end
pub joins_grows : {b c : List Train} {t : Train} → Joins b t c → (news : List Train) × (c ≡ b ++ news)
joins_grows (again {b = b} k h e) = ([], sym (append-nil b))
joins_grows (new {t = t} a h) = (t ∷ [], refl)

pub joined_grows : {b c : List Train} {ts : List Train} → Joined b ts c → (news : List Train) × (c ≡ b ++ news)
joined_grows (none {b = b}) = ([], sym (append-nil b))
joined_grows (more {b = b} j r) =
    let first = joins_grows j in
    let rest = joined_grows r in
    (first.0 ++ rest.0, rest.1 ∙ ap (λ (l : List Train). l ++ rest.0) first.1 ∙ append_assoc b first.0 rest.0)

pub no_block_yet : (bs : List ℕ) (s : Sizes) (p : Place) (b : Register) → InFeed bs p → Agreed b s → JoinedTo bs s p b b p
no_block_yet bs s p b h a = record { trains = []; good = tt; begins = refl; number = sym (add-zero p.line); next = h; joins = none; agreed = a }

pub one_block_more : (bs : List ℕ) (s : Sizes) (p q r : Place) (b c d : Register) (t : Train) → JoinedTo bs s p b c q → ReadBlock bs q s t r → Joins c.trains t d.trains → Agreed d s → JoinedTo bs s p b d r
one_block_more bs s p q r b c d t j m joins a = record {
  trains = j.trains ++ (t ∷ []);
  good = All-push (GoodTrain s) j.trains t j.good m.good;
  begins = j.begins ∙ ap (λ (l : List ℕ). run_on (flat_map (block s) j.trains) ++ l) m.whole ∙ sym (append_assoc (run_on (flat_map (block s) j.trains)) (run_on (block s t)) (drop r.at bs)) ∙ ap (λ (l : List ℕ). l ++ drop r.at bs) (sym (run_on_append (flat_map (block s) j.trains) (block s t)) ∙ ap run_on (flat_map_more (block s) [] j.trains t));
  number = omega (arith, j.number, m.number, length_push j.trains t);
  next = m.next;
  joins = joined_push j.joins joins;
  agreed = a;
}

-- sizes of its own agree with a feed's
pub agreed_own : (s : Sizes) (d : Register) → d.sizes ≡ Some s → Agreed d s
agreed_own s d e i h u f = ap (size_at i) (same_some u s (sym f ∙ e))
  where
    same_some : (u v : Sizes) → Some u ≡ Some v → u ≡ v
    same_some u v p = cc
