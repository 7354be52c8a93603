-- One line of a feed, by the two bytes that part it. Assumes nothing.
use Rattle.std.proofs.Common.{None, Some, ◌==◌, ◌≡◌, ℕ, ◌+◌, ◌<◌, List, ◌∷◌, ◌++◌, length, take, drop, sym, refl, ap, ◌∙◌, append_assoc, arith}
use Rattle.std.specs.List.{position}
use Rattle.std.specs.Str.Iter.{LacksByte}
use Rattle.std.proofs.lemmas.List.{length-take-le, drop-drop, length-drop, take_at}
use Rattle.feed_types.specs.declared.keys.Key.{Key}
use Rattle.feed_types.specs.declared.keys.Place.{Place}
use Rattle.feed_types.specs.Text.{line}
use Rattle.feed_types.specs.Tokens.{spelt, IsKey, InFeed, LineAt, HasNoLine}
use Rattle.feed_theory.proofs.Cuts.{first_cut, first_at, lacks_drop, lacks_append, lacks_cons}
use Rattle.feed_theory.proofs.Keys.{spelt_lacks}

-- the line's end, and its `=`
pub line_end : (key value more : List ℕ) → line key value ++ more ≡ (key ++ (61 ∷ value)) ++ (10 ∷ more)
line_end key value more = simp append_assoc

-- what is found in a line
pub record Parted (bs : List ℕ) (end mid : ℕ) (key : List ℕ) : Type 0 where
  pub ends : position (λ b. b == 10) bs ≡ Some end
  pub parts : position (λ b. b == 61) (take end bs) ≡ Some mid
  pub front : take mid (take end bs) ≡ key

pub parted : (bs : List ℕ) (k : Key) (value more : List ℕ) → LacksByte 10 value → bs ≡ line (spelt k) value ++ more → Parted bs (length (spelt k ++ (61 ∷ value))) (length (spelt k)) (spelt k)
parted bs k value more lv e =
    let key = spelt k in
    let lacks = lacks_append 10 key (61 ∷ value) (spelt_lacks k 10 (omega arith)) (lacks_cons 10 61 value (λ p. omega arith) lv) in
    record {
      ends = ap (position (λ b. b == 10)) (e ∙ line_end key value more) ∙ first_at 10 (key ++ (61 ∷ value)) more lacks;
      parts = ap (λ (l : List ℕ). position (λ b. b == 61) (take (length (key ++ (61 ∷ value))) l)) (e ∙ line_end key value more) ∙ ap (position (λ b. b == 61)) (take_at (key ++ (61 ∷ value)) (10 ∷ more) _ refl) ∙ first_at 61 key value (spelt_lacks k 61 (omega arith));
      front = ap (take (length key)) (ap (take (length (key ++ (61 ∷ value)))) (e ∙ line_end key value more) ∙ take_at (key ++ (61 ∷ value)) (10 ∷ more) _ refl) ∙ take_at key (61 ∷ value) _ refl;
    }

-- what is not found
module _ (bs left : List ℕ) (same : left ≡ bs) (k : Key) where
  pub no_end : None ≡ position (λ b. b == 10) left → HasNoLine (spelt k) bs
  no_end n value more lacks e =
      let p = parted left k value more lacks (same ∙ e) in
      let t : None ≡ Some _ = n ∙ p.ends in cc

  module _ (end : ℕ) (found : Some end ≡ position (λ b. b == 10) left) where
    pub no_mid : None ≡ position (λ b. b == 61) (take end left) → HasNoLine (spelt k) bs
    no_mid n value more lacks e =
        let p = parted left k value more lacks (same ∙ e) in
        let at : Some end ≡ Some _ = found ∙ p.ends in
        let t : None ≡ Some _ = n ∙ ap (λ (i : ℕ). position (λ b. b == 61) (take i left)) (cc) ∙ p.parts in cc

    pub no_key : (mid : ℕ) → Some mid ≡ position (λ b. b == 61) (take end left) → (IsKey (take mid (take end left)) → ⊥) → HasNoLine (spelt k) bs
    no_key mid q n value more lacks e =
        let p = parted left k value more lacks (same ∙ e) in
        let at : Some end ≡ Some (length (spelt k ++ (61 ∷ value))) = found ∙ p.ends in
        let end' : end ≡ length (spelt k ++ (61 ∷ value)) = cc in
        let mid' : Some mid ≡ Some (length (spelt k)) = q ∙ ap (λ (i : ℕ). position (λ b. b == 61) (take i left)) end' ∙ p.parts in
        n (k, (λ i. take (go mid' i) (take (end' i) left)) ∙ p.front)
      where
        go : {m n : ℕ} → Some m ≡ Some n → m ≡ n
        go e = cc

-- a line from what is found
pub made_line : (bs left : List ℕ) (p : Place) (end mid : ℕ) (k : Key) → InFeed bs p → left ≡ drop p.at bs → Some end ≡ position (λ b. b == 10) left → Some mid ≡ position (λ b. b == 61) (take end left) → take mid (take end left) ≡ spelt k
    → LineAt bs p k (drop (mid + 1) (take end left)) (record { line = p.line + 1; at = p.at + length (take end left) + 1 })
made_line bs left p end mid k inside same e m front = record {
  whole = sym same ∙ ends.1 ∙ ap (λ (l : List ℕ). l ++ (10 ∷ drop (end + 1) left)) (mids.1 ∙ ap (λ (l : List ℕ). l ++ (61 ∷ drop (mid + 1) (take end left))) front) ∙ sym (line_end (spelt k) (drop (mid + 1) (take end left)) (drop (end + 1) left)) ∙ ap (λ (l : List ℕ). line (spelt k) (drop (mid + 1) (take end left)) ++ l) rest;
  plain = lacks_drop 10 (mid + 1) (take end left) ends.2;
  number = refl;
  below = omega arith;
  next = record { within = omega (arith, ends.0, long, ap length same, length-drop p.at bs); lines = omega (arith, inside.lines) };
}
  where
    ends : (end < length left) × (left ≡ take end left ++ (10 ∷ drop (end + 1) left)) × LacksByte 10 (take end left)
    ends = first_cut 10 left end (sym e)

    mids : (mid < length (take end left)) × (take end left ≡ take mid (take end left) ++ (61 ∷ drop (mid + 1) (take end left))) × LacksByte 61 (take mid (take end left))
    mids = first_cut 61 (take end left) mid (sym m)

    long : length (take end left) ≡ end
    long = length-take-le end left (omega (arith, ends.0))

    rest : drop (end + 1) left ≡ drop (p.at + length (take end left) + 1) bs
    rest = ap (drop (end + 1)) same ∙ drop-drop (end + 1) p.at bs ∙ ap (λ (n : ℕ). drop n bs) (omega (arith, long))
