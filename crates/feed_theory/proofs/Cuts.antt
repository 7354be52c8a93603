-- A list cut at the first of a byte. Assumes nothing.
use Rattle.std.proofs.Common.{None, Bool, cond, not, Some, ◌==◌, take, ◌≡◌, ℕ, zero, suc, ◌+◌, ◌<◌, List, [], ◌∷◌, ◌++◌, length, get_or, drop, sym, refl, ap, ◌∙◌, arith}
use Rattle.std.specs.List.{position, position_or_len}
use Rattle.std.proofs.lemmas.List.Quantifiers.{position-Some}
use Rattle.std.specs.Str.Iter.{LacksByte}
use Rattle.std.proofs.lemmas.List.{get_or-drop, get_or-take, drop_more, length-append, length-drop, length-take-le, take-append-drop}
use Rattle.std.proofs.lemmas.Bool.{eqb-true, eqb-false, eq-eqb, ne_eqb, lt-ltb}

-- the same list cut twice at its first c
pub same_cut : (c : ℕ) (w v xs ys : List ℕ) → LacksByte c w → LacksByte c v → w ++ (c ∷ xs) ≡ v ++ (c ∷ ys) → (w ≡ v) × (xs ≡ ys)
same_cut c [] [] xs ys lw lv e = (refl, ap (drop 1) e)
same_cut c [] (b ∷ v) xs ys lw lv e = absurd (lv 0 (omega arith) (sym (ap (λ (l : List ℕ). get_or l 0 0) e)))
same_cut c (b ∷ w) [] xs ys lw lv e = absurd (lw 0 (omega arith) (ap (λ (l : List ℕ). get_or l 0 0) e))
same_cut c (a ∷ w) (b ∷ v) xs ys lw lv e =
    let rest = same_cut c w v xs ys (λ k h. lw (suc k) (omega arith)) (λ k h. lv (suc k) (omega arith)) (ap (drop 1) e) in
    ((λ i. ap (λ (l : List ℕ). get_or l 0 0) e i ∷ rest.0 i), rest.1)

-- what stands before the first c, and after it
pub first_cut : (c : ℕ) (bs : List ℕ) (i : ℕ) → position (λ b. b == c) bs ≡ Some i → (i < length bs) × (bs ≡ take i bs ++ (c ∷ drop (i + 1) bs)) × LacksByte c (take i bs)
first_cut c bs i e =
    let p = position-Some (λ b. b == c) bs i 0 e in (
      p.0,
      sym (take-append-drop i bs) ∙ ap (λ (l : List ℕ). take i bs ++ l) (drop_more bs i 0 p.0 ∙ ap (λ (b : ℕ). b ∷ drop (i + 1) bs) (eqb-true _ c p.1)),
      λ k within q. eqb-false _ c (p.2 k (omega (arith, within, length-take-le i bs (omega (arith, p.0))))) (sym (get_or-take i bs k 0 (omega (arith, within, length-take-le i bs (omega (arith, p.0))))) ∙ q),
    )

-- a cut that is known tells the index
pub first_at : (c : ℕ) (w xs : List ℕ) → LacksByte c w → position (λ b. b == c) (w ++ (c ∷ xs)) ≡ Some (length w)
first_at c w xs l =
    let all = first w l in
    ap (λ (t : Bool). cond t (Some (position_or_len (λ b. b == c) (w ++ (c ∷ xs)))) None) (lt-ltb _ _ (omega (arith, all, length-append w (c ∷ xs)))) ∙ ap Some all
  where
    first : (v : List ℕ) → LacksByte c v → position_or_len (λ b. b == c) (v ++ (c ∷ xs)) ≡ length v
    first [] h = ap (λ (t : Bool). cond (not t) (1 + position_or_len (λ b. b == c) xs) 0) (eq-eqb c c refl)
    first (b ∷ v) h = ap (λ (t : Bool). cond (not t) (1 + position_or_len (λ b. b == c) (v ++ (c ∷ xs))) 0) (ne_eqb b c (h 0 (omega arith))) ∙ omega (arith, first v (λ k g. h (suc k) (omega arith)))

pub lacks_drop : (c n : ℕ) (w : List ℕ) → LacksByte c w → LacksByte c (drop n w)
lacks_drop c n w l k h e = l (n + k) (omega (arith, h, length-drop n w)) (sym (get_or-drop n w k 0) ∙ e)

-- both parts lack the byte
pub lacks_append : (c : ℕ) (w v : List ℕ) → LacksByte c w → LacksByte c v → LacksByte c (w ++ v)
lacks_append c [] v lw lv k h e = lv k h e
lacks_append c (b ∷ w) v lw lv zero h e = lw 0 (omega arith) e
lacks_append c (b ∷ w) v lw lv (suc k) h e = lacks_append c w v (λ j l. lw (suc j) (omega arith)) lv k (omega arith) e

pub lacks_cons : (c b : ℕ) (v : List ℕ) → (b ≡ c → ⊥) → LacksByte c v → LacksByte c (b ∷ v)
lacks_cons c b v ne lv zero h e = ne e
lacks_cons c b v ne lv (suc k) h e = lv k (omega arith) e
