-- The three ways to spell a number, by where their marks stand. Assumes nothing.
use Rattle.std.proofs.Common.{◌≡◌, ℕ, ◌+◌, ◌<◌, ◌≢◌, List, [], ◌∷◌, ◌++◌, length, drop, ℤ, Some, None, Bor, sym, refl, ap, ◌∙◌, subst, ap₂, inl, inr, arith}
use Rattle.std.specs.Str.Pattern.{FindsCharPrefix}
use Rattle.std.proofs.lemmas.Str.Pattern.{IsSplitOnceResult, split_after, split_parts, split_text_parts, strip_prefix_char}
use Rattle.std.specs.Int.{IsInRange}
use Rattle.numbers.specs.Texts.{root_sign}
use Rattle.number_text.specs.Spelling.{Natural, Whole, Step, Over, Plain, Beside, Sum, Inside, Below, Rooted}
use Rattle.number_text.proofs.Splits.{Lacks, Either, has_not_lacks, lacks_append, lacks_at, either_lacks, last_unique, append_same, IsTextSplit, text_after}
use Rattle.number_text.proofs.Numerals.{natural_unique, natural_lacks, whole_lacks, step_lacks}

pub no_slash : IsInRange 48 57 47 → ⊥
no_slash h = omega arith

-- ---- p and p/m
-- where the text has no slash, and where it has one
pub plain_whole : (bs : List ℕ) → IsSplitOnceResult 47 bs None → (p : ℤ) (m : ℕ) → Plain bs p m → Whole bs p × (m ≡ 1)
plain_whole bs c p m (inl h) = h
plain_whole bs c p m (inr (t, u, e, o)) = absurd (split_after 47 bs t u None c (omega arith) e (lacks_at 47 t (whole_lacks 47 t p no_slash (omega arith) o.0)))

pub plain_over : (bs : List ℕ) (x : Bor (List ℕ) × Bor (List ℕ)) → IsSplitOnceResult 47 bs (Some x) → (p : ℤ) (m : ℕ) → Plain bs p m → Over x.0.now x.1.now p m
plain_over bs x c p m (inl h) = absurd (has_not_lacks 47 x.0.now x.1.now (subst (Lacks 47) (split_parts 47 bs (Some x) c (omega arith)).0 (whole_lacks 47 bs p no_slash (omega arith) h.0)))
plain_over bs x c p m (inr (t, u, e, o)) =
    let s = split_after 47 bs t u (Some x) c (omega arith) e (lacks_at 47 t (whole_lacks 47 t p no_slash (omega arith) o.0)) in
    (subst (λ l. Whole l p) (sym s.0) o.0, subst (λ l. Natural l m) (sym s.1) o.1, o.2)

-- ---- p and q
no_plus : IsInRange 48 57 43 → ⊥
no_plus h = omega arith

no_minus : IsInRange 48 57 45 → ⊥
no_minus h = omega arith

-- after its sign, a step has no sign
pub step_tail : (u : List ℕ) (q : ℤ) → Step u q → (c : ℕ) × (r : List ℕ) × (u ≡ c ∷ r) × Either 43 45 c × Lacks 43 r × Lacks 45 r
step_tail u q (inl (ds, e, h)) = (43, ds, e, inl refl, natural_lacks 43 ds h.0 no_plus h.1, natural_lacks 45 ds h.0 no_minus h.1)
step_tail u q (inr (ds, e, h)) = (45, ds, e, inr refl, natural_lacks 43 ds h.0 no_plus h.1, natural_lacks 45 ds h.0 no_minus h.1)

pub sum_beside : (bs l r : List ℕ) (c : ℕ) (p q : ℤ) → bs ≡ l ++ (c ∷ r) → Either 43 45 c → Lacks 43 r → Lacks 45 r → Sum bs p q → Beside l (c ∷ r) p q
sum_beside bs l r c p q e o m n (t, u, e', (w, s)) =
    let k = step_tail u q s in
    let x = last_unique 43 45 c k.0 l t r k.1 o k.3 m n k.4 k.5 (sym e ∙ e' ∙ ap (λ z. t ++ z) k.2) in
    (subst (λ z. Whole z p) (sym x.0) w, subst (λ z. Step z q) (k.2 ∙ sym (ap₂ ◌∷◌ x.1 x.2)) s)

pub sum_sign : (bs : List ℕ) (p q : ℤ) → Lacks 43 bs → Lacks 45 bs → ¬ Sum bs p q
sum_sign bs p q m n (t, u, e, (w, s)) =
    let k = step_tail u q s in
    has_not_lacks k.0 t k.1 (subst (Lacks k.0) (e ∙ ap (λ z. t ++ z) k.2) (either_lacks 43 45 k.0 bs k.3 m n))

-- ---- √ and D
root_lacks : (c : ℕ) → c ≢ 226 → c ≢ 136 → c ≢ 154 → Lacks c root_sign
root_lacks c x y z = ((λ e. x (sym e)), ((λ e. y (sym e)), ((λ e. z (sym e)), tt)))

pub sum_lacks : (c : ℕ) (t : List ℕ) (p q : ℤ) → (IsInRange 48 57 c → ⊥) → c ≢ 45 → c ≢ 43 → Sum t p q → Lacks c t
sum_lacks c t p q d m k (a, b, e, (w, s)) = subst (Lacks c) (sym e) (lacks_append c a b (whole_lacks c a p d m w) (step_lacks c b q d m k s))

pub no_root : IsInRange 48 57 226 → ⊥
no_root h = omega arith

pub below_unique : (bs : List ℕ) (m m' : ℕ) → Below bs m → Below bs m' → m ≡ m'
below_unique bs m m' (u, e, h, n) (u', e', h', n') = natural_unique u m m' h (subst (λ x. Natural x m') (append_same (41 ∷ (47 ∷ [])) u' u (sym e' ∙ e)) h')

-- ---- the whole form
no_close : IsInRange 48 57 41 → ⊥
no_close h = omega arith

pub inside_lacks : (D : ℕ) (t : List ℕ) (p q : ℤ) → Inside D t p q → Lacks 41 t
inside_lacks D t p q (a, b, e, s, (v, f, n)) =
    subst (Lacks 41) (sym e)
    (lacks_append 41 a b (sum_lacks 41 a p q no_close (omega arith) (omega arith) s)
    (subst (Lacks 41) (sym f) (lacks_append 41 root_sign v (root_lacks 41 (omega arith) (omega arith) (omega arith)) (natural_lacks 41 v D no_close n))))

-- where the marks stand in `p+q√D)/m`
pub record Marks (D : ℕ) (rest : List ℕ) (p q : ℤ) (m : ℕ) : Type 0 where
  pub inside : List ℕ
  pub above : List ℕ
  pub root : List ℕ
  pub below : List ℕ
  pub close : rest ≡ inside ++ (41 ∷ (47 ∷ below))
  pub first_close : Lacks 41 inside
  pub under : inside ≡ above ++ (226 ∷ (136 ∷ (154 ∷ root)))
  pub first_under : Lacks 226 above
  pub sum : Sum above p q
  pub radicand : Natural root D
  pub divisor : Natural below m
  pub above_zero : 0 < m
  pub some_root : 0 < D

pub rooted_marks : (D : ℕ) (bs rest : List ℕ) (p q : ℤ) (m : ℕ) → bs ≡ 40 ∷ rest → Rooted D bs p q m → Marks D rest p q m
rooted_marks D bs rest p q m b (t, u, e, s, (v, f, n, o), d) =
    let tl : rest ≡ t ++ u = cc in
    record {
      inside = t;
      above = s.0;
      root = s.4.0;
      below = v;
      close = tl ∙ ap (λ x. t ++ x) f;
      first_close = inside_lacks D t p q s;
      under = s.2 ∙ ap (λ x. s.0 ++ x) s.4.1;
      first_under = sum_lacks 226 s.0 p q no_root (omega arith) (omega arith) s.3;
      sum = s.3;
      radicand = s.4.2;
      divisor = n;
      above_zero = o;
      some_root = d;
    }

-- the parenthesis taken off and the two splits meet the marks
module _ (D : ℕ) (bs : List ℕ) (rest : Bor (List ℕ)) (o : (n : ℕ) × FindsCharPrefix 40 bs (Some n) × (rest.now ≡ drop n bs) × (length rest.now + n ≡ length bs)) (p q : ℤ) (m : ℕ) where
  open_mark : bs ≡ 40 ∷ rest.now
  open_mark = strip_prefix_char 40 bs (Some rest) o (omega arith)

  pub no_close_mark : IsTextSplit (41 ∷ (47 ∷ [])) rest.now None → ¬ Rooted D bs p q m
  no_close_mark c h = let k = rooted_marks D bs rest.now p q m open_mark h in text_after 41 (47 ∷ []) rest.now k.inside k.below None c k.close k.first_close

  module _ (x : Bor (List ℕ) × Bor (List ℕ)) (c : IsTextSplit (41 ∷ (47 ∷ [])) rest.now (Some x)) where
    pub no_root_mark : IsTextSplit root_sign x.0.now None → ¬ Rooted D bs p q m
    no_root_mark d h =
        let k = rooted_marks D bs rest.now p q m open_mark h in
        let s = text_after 41 (47 ∷ []) rest.now k.inside k.below (Some x) c k.close k.first_close in
        text_after 226 (136 ∷ (154 ∷ [])) x.0.now k.above k.root None d (s.0 ∙ k.under) k.first_under

    pub rooted_parts : (y : Bor (List ℕ) × Bor (List ℕ)) → IsTextSplit root_sign x.0.now (Some y) → Rooted D bs p q m
        → Sum y.0.now p q × Natural y.1.now D × Natural x.1.now m × (0 < m) × (0 < D)
    rooted_parts y d h =
        let k = rooted_marks D bs rest.now p q m open_mark h in
        let s = text_after 41 (47 ∷ []) rest.now k.inside k.below (Some x) c k.close k.first_close in
        let r = text_after 226 (136 ∷ (154 ∷ [])) x.0.now k.above k.root (Some y) d (s.0 ∙ k.under) k.first_under in
        (subst (λ l. Sum l p q) (sym r.0) k.sum, subst (λ l. Natural l D) (sym r.1) k.radicand, subst (λ l. Natural l m) (sym s.1) k.divisor, k.above_zero, k.some_root)

    pub parts_rooted : (y : Bor (List ℕ) × Bor (List ℕ)) → IsTextSplit root_sign x.0.now (Some y) → Sum y.0.now p q → Natural y.1.now D → Natural x.1.now m → 0 < m → 0 < D → Rooted D bs p q m
    parts_rooted y d s n k l z = (
      x.0.now,
      41 ∷ (47 ∷ x.1.now),
      open_mark ∙ ap (λ l. 40 ∷ l) (split_text_parts (41 ∷ (47 ∷ [])) rest.now (Some x) c),
      (y.0.now, root_sign ++ y.1.now, split_text_parts root_sign x.0.now (Some y) d, s, (y.1.now, refl, n)),
      (x.1.now, refl, k, l),
      z,
    )
