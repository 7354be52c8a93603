-- Lists cut at a byte that stands nowhere before the cut, or nowhere after it. Assumes nothing.
use Rattle.std.proofs.Common.{◌≡◌, ℕ, zero, suc, ◌+◌, ◌<◌, ◌≤◌, ◌≢◌, ◌⊎◌, Bool, true, List, [], ◌∷◌, ◌++◌, length, get_or, take, drop, Some, None, Option, Bor, MatchOption, sym, refl, ap, ◌∙◌, subst, ap₂, inl, inr, arith}
use Rattle.std.proofs.Math.Seq.{drop-append_seam}
use Rattle.std.specs.Str.{NoCharPasses}
use Rattle.std.specs.Str.Pattern.{FindsText}
use Rattle.std.proofs.lemmas.Bool.{false≢true}
use Rattle.std.proofs.lemmas.Str.{NoCharPasses-byte}
use Rattle.std.proofs.lemmas.Str.Pattern.{split_text_parts}

-- the byte c does not stand in the list
abbrev pub Lacks : ℕ → List ℕ → Type 0
Lacks c [] = Unit {0}
Lacks c (x ∷ xs) = (x ≢ c) × Lacks c xs

abbrev pub Either : ℕ → ℕ → ℕ → Type 0
Either a b c = (c ≡ a) ⊎ (c ≡ b)

-- byte by byte
pub lacks_from : (c : ℕ) (l : List ℕ) → ((i : ℕ) → i < length l → get_or l i 0 ≢ c) → Lacks c l
lacks_from c [] h = tt
lacks_from c (x ∷ l) h = (h 0 (omega arith), lacks_from c l (λ i p. h (suc i) (omega arith)))

pub lacks_at : (c : ℕ) (l : List ℕ) → Lacks c l → (i : ℕ) → i < length l → get_or l i 0 ≢ c
lacks_at c [] h i p = absurd (omega arith)
lacks_at c (x ∷ l) h zero p = h.0
lacks_at c (x ∷ l) h (suc i) p = lacks_at c l h.1 i (omega arith)

-- of characters that pass a test, no ASCII one stands in a text with none that passes
pub no_char_lacks : (k : ℕ → Bool) (c : ℕ) (bs : List ℕ) → NoCharPasses k bs → c < 128 → k c ≡ true → Lacks c bs
no_char_lacks k c bs h low t = lacks_from c bs (λ i p e. let below : get_or bs i 0 < 128 = omega arith in false≢true (sym (NoCharPasses-byte k bs i h p below) ∙ ap k e ∙ t))

pub either_lacks : (a b c : ℕ) (l : List ℕ) → Either a b c → Lacks a l → Lacks b l → Lacks c l
either_lacks a b c l (inl e) h k = subst (λ x. Lacks x l) (sym e) h
either_lacks a b c l (inr e) h k = subst (λ x. Lacks x l) (sym e) k

-- the first c of a list cuts it in one way
pub split_unique : (c : ℕ) (l l' r r' : List ℕ) → Lacks c l → Lacks c l' → l ++ (c ∷ r) ≡ l' ++ (c ∷ r') → (l ≡ l') × (r ≡ r')
split_unique c [] [] r r' h k e = (refl, cc)
split_unique c [] (z ∷ l') r r' h k e = absurd (k.0 (cc))
split_unique c (z ∷ l) [] r r' h k e = absurd (h.0 (cc))
split_unique c (z ∷ l) (z' ∷ l') r r' h k e =
    let w : z ≡ z' = cc in
    let u = split_unique c l l' r r' h.1 k.1 (cc) in
    (ap₂ ◌∷◌ w u.0, u.1)

-- a list with a c in it does not lack it
pub has_not_lacks : (c : ℕ) (l r : List ℕ) → Lacks c (l ++ (c ∷ r)) → ⊥
has_not_lacks c [] r h = h.0 refl
has_not_lacks c (x ∷ l) r h = has_not_lacks c l r h.1

pub lacks_append : (c : ℕ) (l r : List ℕ) → Lacks c l → Lacks c r → Lacks c (l ++ r)
lacks_append c [] r h k = k
lacks_append c (x ∷ l) r h k = (h.0, lacks_append c l r h.1 k)

-- the last a or b of a list cuts it in one way too
pub last_unique : (a b c c' : ℕ) (l l' r r' : List ℕ) → Either a b c → Either a b c' → Lacks a r → Lacks b r → Lacks a r' → Lacks b r' → l ++ (c ∷ r) ≡ l' ++ (c' ∷ r') → (l ≡ l') × (c ≡ c') × (r ≡ r')
last_unique a b c c' [] [] r r' x y h h₂ k k₂ e = (refl, cc, cc)
last_unique a b c c' [] (z ∷ l') r r' x y h h₂ k k₂ e = let t : r ≡ l' ++ (c' ∷ r') = cc in absurd (has_not_lacks c' l' r' (subst (Lacks c') t (either_lacks a b c' r y h h₂)))
last_unique a b c c' (z ∷ l) [] r r' x y h h₂ k k₂ e = let t : r' ≡ l ++ (c ∷ r) = cc in absurd (has_not_lacks c l r (subst (Lacks c) t (either_lacks a b c r' x k k₂)))
last_unique a b c c' (z ∷ l) (z' ∷ l') r r' x y h h₂ k k₂ e =
    let w : z ≡ z' = cc in
    let t : l ++ (c ∷ r) ≡ l' ++ (c' ∷ r') = cc in
    let u = last_unique a b c c' l l' r r' x y h h₂ k k₂ t in
    (ap₂ ◌∷◌ w u.0, u.1, u.2)

pub append_same : (l r r' : List ℕ) → l ++ r ≡ l ++ r' → r ≡ r'
append_same [] r r' e = e
append_same (x ∷ l) r r' e = append_same l r r' (cc)

-- ---- `split_once` at a text
abbrev pub IsTextSplit : List ℕ → List ℕ → Option (Bor (List ℕ) × Bor (List ℕ)) → Type 0
IsTextSplit p bs r = MatchOption r (FindsText p bs None)
    (λ x. (i : ℕ) × (j : ℕ) × FindsText p bs (Some (i, j)) × (x.0.now ≡ take i bs) × (x.1.now ≡ drop j bs) × (i ≤ j) × (length x.0.now ≡ i) × (length x.1.now + j ≡ length bs))

-- two places of c, of which the second is the first of its list
nearer : (c : ℕ) (x a r r' : List ℕ) → Lacks c a → x ++ (c ∷ r) ≡ a ++ (c ∷ r') → ((x ≡ a) × (r ≡ r')) ⊎ (length a < length x)
nearer c [] [] r r' h e = inl (refl, cc)
nearer c [] (y ∷ a) r r' h e = absurd (h.0 (cc))
nearer c (z ∷ x) [] r r' h e = inr (omega arith)
nearer c (z ∷ x) (y ∷ a) r r' h e =
    let w : z ≡ y = cc in
    let t : x ++ (c ∷ r) ≡ a ++ (c ∷ r') = cc in
    elim (nearer c x a r r' h.1 t) [ inl k ↦ inl (ap₂ ◌∷◌ w k.0, k.1) | inr k ↦ inr (omega arith) ]

-- a text that begins with c, after bytes without a c, is where the split is
pub text_after : (c : ℕ) (p bs a u : List ℕ) (r : Option (Bor (List ℕ) × Bor (List ℕ))) → IsTextSplit (c ∷ p) bs r → bs ≡ a ++ (c ∷ (p ++ u)) → Lacks c a → MatchOption r ⊥ (λ x. (x.0.now ≡ a) × (x.1.now ≡ u))
text_after c p bs a u None h e l = split_text_parts (c ∷ p) bs None h a u e
text_after c p bs a u (Some x) h e l =
    elim (nearer c x.0.now a (p ++ x.1.now) (p ++ u) l (sym (split_text_parts (c ∷ p) bs (Some x) h) ∙ e)) [
      | inl k ↦ (k.0, append_same p x.1.now u k.1)
      | inr k ↦ absurd (h.2.0 (length a) (let n = h.6 in omega arith) u (ap (drop (length a)) e ∙ drop-append_seam a (c ∷ (p ++ u))))
    ]
