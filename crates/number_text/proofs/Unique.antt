-- A text spells one triple at most. Assumes nothing.
use Rattle.std.proofs.Common.{◌≡◌, ℕ, ◌<◌, ◌≢◌, List, [], ◌∷◌, ◌++◌, length, get_or, ℤ, sym, refl, ap, ◌∙◌, subst, ap₂, inl, inr, arith}
use Rattle.number_text.specs.Spelling.{Natural, Whole, Step, Plain, Sum, Inside, Below, Rooted, Spells}
use Rattle.number_text.proofs.Splits.{Lacks, split_unique, last_unique, has_not_lacks}
use Rattle.number_text.proofs.Numerals.{natural_unique, whole_unique, step_unique, whole_lacks, first_is_digit}
use Rattle.number_text.proofs.Shapes.{no_slash, no_root, step_tail, sum_lacks, inside_lacks, below_unique}

one_slash : (bs t u : List ℕ) (p p' : ℤ) → Whole bs p → bs ≡ t ++ (47 ∷ u) → ⊥
one_slash bs t u p p' w e = has_not_lacks 47 t u (subst (Lacks 47) e (whole_lacks 47 bs p no_slash (omega arith) w))

plain_unique : (bs : List ℕ) (p p' : ℤ) (m m' : ℕ) → Plain bs p m → Plain bs p' m' → (p ≡ p') × (m ≡ m')
plain_unique bs p p' m m' (inl h) (inl k) = (whole_unique bs p p' h.0 k.0, h.1 ∙ sym k.1)
plain_unique bs p p' m m' (inl h) (inr (t, u, e, o)) = absurd (one_slash bs t u p p' h.0 e)
plain_unique bs p p' m m' (inr (t, u, e, o)) (inl k) = absurd (one_slash bs t u p' p k.0 e)
plain_unique bs p p' m m' (inr (t, u, e, o)) (inr (t', u', e', o')) =
    let l = whole_lacks 47 t p no_slash (omega arith) o.0 in
    let l' = whole_lacks 47 t' p' no_slash (omega arith) o'.0 in
    let s = split_unique 47 t t' u u' l l' (sym e ∙ e') in
    (whole_unique t p p' o.0 (subst (λ x. Whole x p') (sym s.0) o'.0), natural_unique u m m' o.1 (subst (λ x. Natural x m') (sym s.1) o'.1))

sum_unique : (bs : List ℕ) (p q p' q' : ℤ) → Sum bs p q → Sum bs p' q' → (p ≡ p') × (q ≡ q')
sum_unique bs p q p' q' (t, u, e, (w, s)) (t', u', e', (w', s')) =
    let b = step_tail u q s in let b' = step_tail u' q' s' in
    let all : t ++ (b.0 ∷ b.1) ≡ t' ++ (b'.0 ∷ b'.1) = ap (λ x. t ++ x) (sym b.2) ∙ sym e ∙ e' ∙ ap (λ x. t' ++ x) b'.2 in
    let x = last_unique 43 45 b.0 b'.0 t t' b.1 b'.1 b.3 b'.3 b.4 b.5 b'.4 b'.5 all in
    let same_u : u ≡ u' = b.2 ∙ ap₂ ◌∷◌ x.1 x.2 ∙ sym b'.2 in
    (whole_unique t p p' w (subst (λ x. Whole x p') (sym x.0) w'), step_unique u q q' s (subst (λ x. Step x q') (sym same_u) s'))

inside_unique : (D : ℕ) (bs : List ℕ) (p q p' q' : ℤ) → Inside D bs p q → Inside D bs p' q' → (p ≡ p') × (q ≡ q')
inside_unique D bs p q p' q' (t, u, e, s, (v, f, n)) (t', u', e', s', (v', f', n')) =
    let l = sum_lacks 226 t p q no_root (omega arith) (omega arith) s in
    let l' = sum_lacks 226 t' p' q' no_root (omega arith) (omega arith) s' in
    let all : t ++ (226 ∷ (136 ∷ (154 ∷ v))) ≡ t' ++ (226 ∷ (136 ∷ (154 ∷ v'))) = ap (λ x. t ++ x) (sym f) ∙ sym e ∙ e' ∙ ap (λ x. t' ++ x) f' in
    let x = split_unique 226 t t' (136 ∷ (154 ∷ v)) (136 ∷ (154 ∷ v')) l l' all in
    sum_unique t p q p' q' s (subst (λ y. Sum y p' q') (sym x.0) s')

rooted_unique : (D : ℕ) (bs : List ℕ) (p q p' q' : ℤ) (m m' : ℕ) → Rooted D bs p q m → Rooted D bs p' q' m' → (p ≡ p') × (q ≡ q') × (m ≡ m')
rooted_unique D bs p q p' q' m m' (t, u, e, s, b, d) (t', u', e', s', b', d') =
    let l = inside_lacks D t p q s in let l' = inside_lacks D t' p' q' s' in
    let tl : t ++ u ≡ t' ++ u' = cc in
    let all : t ++ (41 ∷ (47 ∷ b.0)) ≡ t' ++ (41 ∷ (47 ∷ b'.0)) = ap (λ x. t ++ x) (sym b.1) ∙ tl ∙ ap (λ x. t' ++ x) b'.1 in
    let x = split_unique 41 t t' (47 ∷ b.0) (47 ∷ b'.0) l l' all in
    let same_u : u ≡ u' = b.1 ∙ ap (λ y. 41 ∷ y) x.1 ∙ sym b'.1 in
    let i = inside_unique D t p q p' q' s (subst (λ y. Inside D y p' q') (sym x.0) s') in
    (i.0, i.1, below_unique u m m' b (subst (λ y. Below y m') (sym same_u) b'))

-- a plain text does not begin with a parenthesis
whole_head : (bs : List ℕ) (p : ℤ) → Whole bs p → get_or bs 0 0 ≢ 40
whole_head bs p (inl h) e = let d = first_is_digit bs h.0 h.1 in omega arith
whole_head bs p (inr (ds, e, h)) z = let f : get_or bs 0 0 ≡ 45 = ap (λ l. get_or l 0 0) e in omega arith

head_append : (t u : List ℕ) → 0 < length t → get_or (t ++ u) 0 0 ≡ get_or t 0 0
head_append [] u l = absurd (omega arith)
head_append (x ∷ t) u l = refl

whole_some : (t : List ℕ) (p : ℤ) → Whole t p → 0 < length t
whole_some t p (inl h) = h.1.some
whole_some t p (inr h) = subst (λ x. 0 < length x) (sym h.1) (omega arith)

pub plain_head : (bs : List ℕ) (p : ℤ) (m : ℕ) → Plain bs p m → get_or bs 0 0 ≢ 40
plain_head bs p m (inl h) e = whole_head bs p h.0 e
plain_head bs p m (inr (t, u, f, o)) e = whole_head t p o.0 (sym (head_append t (47 ∷ u) (whole_some t p o.0)) ∙ ap (λ l. get_or l 0 0) (sym f) ∙ e)

pub spells_unique : (D : ℕ) (bs : List ℕ) (p q p' q' : ℤ) (m m' : ℕ) → Spells D bs p q m → Spells D bs p' q' m' → (p ≡ p') × (q ≡ q') × (m ≡ m')
spells_unique D bs p q p' q' m m' (inl h) (inl k) = let u = plain_unique bs p p' m m' h.0 k.0 in (u.0, h.1 ∙ sym k.1, u.1)
spells_unique D bs p q p' q' m m' (inl h) (inr k) = absurd (plain_head bs p m h.0 (ap (λ l. get_or l 0 0) k.2))
spells_unique D bs p q p' q' m m' (inr h) (inl k) = absurd (plain_head bs p' m' k.0 (ap (λ l. get_or l 0 0) h.2))
spells_unique D bs p q p' q' m m' (inr h) (inr k) = rooted_unique D bs p q p' q' m m' h k
