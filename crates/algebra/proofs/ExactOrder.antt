-- Exact numbers are an ordered field. Assumes nothing.
use Rattle.std.proofs.Common.{◌≡◌, ℕ, zero, suc, ◌*◌, ◌<◌, ◌≤◌, Bool, ◌&&◌, ◌||◌, T, ◌≢◌, ◌⊎◌, pos, nat_abs, sym, refl, ap, ◌∙◌, subst, inl, inr, arith, eqb→eq, lt→ltb}
use Rattle.std.proofs.Math.Facts.{or_yes}
use Rattle.algebra.specs.Ring.{Ordered, Inverses}
use Rattle.algebra.specs.Rational.{ℚ, 0ℚ, 1ℚ, over, whole, addℚ, negq, mulℚ, invℚ, Posℚ}
use Rattle.algebra.specs.Exact.{Exact, Radicand, root_part, zero_e, one_e, add_e, neg_e, mul_e, norm_e, inv_e, above, null, positive_e, PosE}
use Rattle.algebra.proofs.RingSolver.{◌:+◌, ◌:*◌, ◌:-◌, :neg, ◌≋◌, mul_nil, neg-zero, solve₃, solve₄}
use Rattle.algebra.proofs.Rational.{ℚ_ring, ℚ_ordered, ℚ_inverses, is_zero, sign_is, over_is, nat_zero}
use Rattle.algebra.proofs.Integers.{abs_zero}
use Rattle.algebra.proofs.Irrational.{irrational, floor}
use Rattle.algebra.proofs.ExactRing.{exact_ring, Pairs, both, both_inj, both_zero, both_one, both_add, both_neg, both_mul, flat_zero, kept, zero-mul}
use Rattle.algebra.proofs.Booleans.{or_left, or_right, and_split, and_join}
use Rattle.algebra.proofs.OrderedRing as Ord
use Rattle.algebra.proofs.QuadraticOrder as Quad

null_zero : (a : ℚ) → T (null a) → a ≡ 0ℚ
null_zero a t = is_zero a (abs_zero a.num (eqb→eq (nat_abs a.num) 0 t))

zero_null : (a : ℚ) → a ≡ 0ℚ → T (null a)
zero_null a e = subst (λ z. T (null z)) (sym e) tt

whole_pos : (n : ℕ) → 0 < n → Posℚ (whole n)
unfolding whole
whole_pos n h = sign_is (over (pos n) 1) (pos n) 1 (omega arith) (over_is (pos n) 1 (omega arith)) (lt→ltb 0 n h)

whole_zero : (n : ℕ) → whole n ≡ 0ℚ → n ≡ 0
whole_zero zero e = refl
whole_zero (suc n) e = absurd (Ord.pos_ne ℚ_ring ℚ_ordered (whole (suc n)) (whole_pos (suc n) (omega arith)) e)

module _ (D : ℕ) (good : Radicand D) where
  d : ℚ
  d = whole D

  pub dn : Posℚ (whole D) ⊎ (whole D ≡ 0ℚ)
  dn = go D
    where
      go : (n : ℕ) → Posℚ (whole n) ⊎ (whole n ≡ 0ℚ)
      go zero = inr nat_zero
      go (suc n) = inl (whole_pos (suc n) (omega arith))

  pub irr : Posℚ (whole D) → (a b : ℚ) → mulℚ a a ≡ mulℚ (whole D) (mulℚ b b) → b ≡ 0ℚ
  irr h a b e = elim good [
    | inl z ↦ absurd (Ord.pos_ne ℚ_ring ℚ_ordered (whole D) h (ap whole z ∙ nat_zero))
    | inr n ↦
        let f : (k : ℕ) × (k * k ≤ D) × (D < suc k * suc k) = floor D in
        let k : ℕ = f.0 in
        let ne : k * k ≢ D = n k in
        let le : k * k ≤ D = f.1 in
        irrational k D (omega arith) f.2 a b e
  ]

  abbrev pub Pos₂ : ℚ × ℚ → Type 0
  Pos₂ p = Quad.Pos₂ ℚ_ring ℚ_ordered ℚ_inverses (whole D) p.0 p.1

  abbrev pub N : ℚ → ℚ → ℚ
  N a b = Quad.norm ℚ_ring ℚ_ordered ℚ_inverses (whole D) a b

  pub flat : (x : Exact D) → whole D ≡ 0ℚ → x.im ≡ 0ℚ
  flat x e = flat_zero x (whole_zero D e)

  no_plus : (a b : ℚ) → Posℚ (N a b) → a ≡ 0ℚ → ⊥
  no_plus a b h e =
      Ord.not_zero_sum ℚ_ring ℚ_ordered (N a b) (mulℚ (whole D) (mulℚ b b)) h (Quad.square ℚ_ring ℚ_ordered ℚ_inverses (whole D) dn b)
      (solve₃ ℚ_ring (λ a b d. a :* a :- d :* (b :* b) :+ d :* (b :* b) ≋ a :* a) tt a b (whole D) ∙ ap (mulℚ a) e ∙ mul_nil ℚ_ring a)

  no_minus : (a b : ℚ) → Posℚ (negq (N a b)) → b ≡ 0ℚ → ⊥
  no_minus a b h e =
      Ord.not_zero_sum ℚ_ring ℚ_ordered (negq (N a b)) (mulℚ a a) h (Ord.square_nonneg ℚ_ring ℚ_ordered a)
      (solve₃ ℚ_ring (λ a b d. :neg (a :* a :- d :* (b :* b)) :+ a :* a ≋ d :* (b :* b)) tt a b (whole D) ∙ ap (λ z. mulℚ (whole D) (mulℚ b z)) e ∙ ap (mulℚ (whole D)) (mul_nil ℚ_ring b) ∙ mul_nil ℚ_ring (whole D))

  -- the three cases as two
  pub to₂ : (x : Exact D) → PosE x → Pos₂ (both x)
  unfolding PosE positive_e norm_e
  to₂ x t = elim (or_yes (c₁ || c₂) c₃ t) [
    | inl u ↦ elim (or_yes c₁ c₂ u) [
      | inl v ↦ first v
      | inr v ↦ inl ((and_split (above a) (above (negq b)) (and_split (above a && above (negq b)) (above (N a b)) v).0).0, (and_split (above a && above (negq b)) (above (N a b)) v).1)
    ]
    | inr v ↦ inr ((and_split (above (negq a)) (above b) (and_split (above (negq a) && above b) (above (negq (N a b))) v).0).1, (and_split (above (negq a) && above b) (above (negq (N a b))) v).1)
  ]
    where
      a : ℚ
      a = x.re

      b : ℚ
      b = x.im

      c₁ : Bool
      c₁ = (above a || null a) && (above b || null b) && (above a || above b)

      c₂ : Bool
      c₂ = above a && above (negq b) && above (N a b)

      c₃ : Bool
      c₃ = above (negq a) && above b && above (negq (N a b))

      first : T ((above a || null a) && (above b || null b) && (above a || above b)) → Pos₂ (a, b)
      first v =
          let s = and_split ((above a || null a) && (above b || null b)) (above a || above b) v in
          let r = and_split (above a || null a) (above b || null b) s.0 in
          elim (ℚ_ordered.tri (N a b)) [
            | inl n ↦ elim (or_yes (above a) (null a) r.0) [ inl h ↦ inl (h, n) | inr z ↦ absurd (no_plus a b n (null_zero a z)) ]
            | inr (inl e) ↦
                let z = Quad.zero-norm ℚ_ring ℚ_ordered ℚ_inverses (whole D) dn irr a b (flat x) e in
                absurd (elim (or_yes (above a) (above b) s.1) [ inl h ↦ subst Posℚ z.0 h | inr h ↦ subst Posℚ z.1 h ])
            | inr (inr n) ↦ elim (or_yes (above b) (null b) r.1) [ inl h ↦ inr (h, n) | inr z ↦ absurd (no_minus a b n (null_zero b z)) ]
          ]

  pub from₂ : (x : Exact D) → Pos₂ (both x) → PosE x
  unfolding PosE positive_e norm_e
  from₂ x t = elim t [
    | inl h ↦ elim (ℚ_ordered.tri b) [
      | inl k ↦ first (or_left (above a) (null a) h.0) (or_left (above b) (null b) k) (or_left (above a) (above b) h.0)
      | inr (inl e) ↦ first (or_left (above a) (null a) h.0) (or_right (above b) (null b) (zero_null b e)) (or_left (above a) (above b) h.0)
      | inr (inr k) ↦ or_left (c₁ || c₂) c₃ (or_right c₁ c₂ (and_join (above a && above (negq b)) (above (N a b)) (and_join (above a) (above (negq b)) h.0 k) h.1))
    ]
    | inr h ↦ elim (ℚ_ordered.tri a) [
      | inl k ↦ first (or_left (above a) (null a) k) (or_left (above b) (null b) h.0) (or_left (above a) (above b) k)
      | inr (inl e) ↦ first (or_right (above a) (null a) (zero_null a e)) (or_left (above b) (null b) h.0) (or_right (above a) (above b) h.0)
      | inr (inr k) ↦ or_right (c₁ || c₂) c₃ (and_join (above (negq a) && above b) (above (negq (N a b))) (and_join (above (negq a)) (above b) k h.0) h.1)
    ]
  ]
    where
      a : ℚ
      a = x.re

      b : ℚ
      b = x.im

      c₁ : Bool
      c₁ = (above a || null a) && (above b || null b) && (above a || above b)

      c₂ : Bool
      c₂ = above a && above (negq b) && above (N a b)

      c₃ : Bool
      c₃ = above (negq a) && above b && above (negq (N a b))

      first : T (above a || null a) → T (above b || null b) → T (above a || above b) → T (c₁ || c₂ || c₃)
      first r s u = or_left (c₁ || c₂) c₃ (or_left c₁ c₂ (and_join ((above a || null a) && (above b || null b)) (above a || above b) (and_join (above a || null a) (above b || null b) r s) u))

  abbrev pub exact_ordered : Ordered (exact_ring D)
  exact_ordered = record {
    Pos = PosE;
    tri = λ x. elim (Quad.pos₂_tri ℚ_ring ℚ_ordered ℚ_inverses (whole D) dn irr x.re x.im (flat x)) [
      | inl h ↦ inl (from₂ x h)
      | inr (inl e) ↦ inr (inl (both_inj D x (zero_e D) ((λ i. (e.0 i, e.1 i)) ∙ sym (both_zero D))))
      | inr (inr h) ↦ inr (inr (from₂ (neg_e x) (subst Pos₂ (sym (both_neg D x)) h)))
    ];
    not_zero = λ h. elim (subst Pos₂ (both_zero D) (to₂ (zero_e D) h)) [ inl k ↦ k.0 | inr k ↦ k.0 ];
    pos_add = λ x y h k. from₂ (add_e x y) (subst Pos₂ (sym (both_add D x y)) (Quad.pos₂_add ℚ_ring ℚ_ordered ℚ_inverses (whole D) dn irr x.re x.im y.re y.im (to₂ x h) (to₂ y k)));
    pos_mul = λ x y h k. from₂ (mul_e x y) (subst Pos₂ (sym (both_mul D x y)) (Quad.pos₂_mul ℚ_ring ℚ_ordered ℚ_inverses (whole D) dn x.re x.im y.re y.im (to₂ x h) (to₂ y k)));
  }

  both_inv : (x : Exact D) → both (inv_e x) ≡ (mulℚ x.re (invℚ (N x.re x.im)), mulℚ (negq x.im) (invℚ (N x.re x.im)))
  unfolding inv_e norm_e
  both_inv x = λ i. (mulℚ x.re (invℚ (N x.re x.im)), kept D (mulℚ (negq x.im) (invℚ (N x.re x.im))) (λ e. ap (λ z. mulℚ z (invℚ (N x.re x.im))) (ap negq (flat_zero x e) ∙ neg-zero ℚ_ring) ∙ zero-mul (invℚ (N x.re x.im))) i)

  norm_ne : (x : Exact D) → x ≢ zero_e D → N x.re x.im ≢ 0ℚ
  norm_ne x h e =
      let z = Quad.zero-norm ℚ_ring ℚ_ordered ℚ_inverses (whole D) dn irr x.re x.im (flat x) e in
      h (both_inj D x (zero_e D) ((λ i. (z.0 i, z.1 i)) ∙ sym (both_zero D)))

  pub mul-inv : (x : Exact D) → x ≢ zero_e D → mul_e x (inv_e x) ≡ one_e D
  mul-inv x h =
      let a = x.re in let b = x.im in let n = invℚ (N a b) in
      let one : mulℚ (N a b) n ≡ 1ℚ = ℚ_inverses.mul-inv (N a b) (norm_ne x h) in
      let left : addℚ (mulℚ a (mulℚ a n)) (mulℚ (whole D) (mulℚ b (mulℚ (negq b) n))) ≡ 1ℚ =
      solve₄ ℚ_ring (λ a b n d. a :* (a :* n) :+ d :* (b :* (:neg b :* n)) ≋ (a :* a :- d :* (b :* b)) :* n) tt a b n (whole D) ∙ one in
      let right : addℚ (mulℚ a (mulℚ (negq b) n)) (mulℚ b (mulℚ a n)) ≡ 0ℚ =
      solve₃ ℚ_ring (λ a b n. a :* (:neg b :* n) :+ b :* (a :* n) ≋ a :- a) tt a b n ∙ ℚ_ring.add-neg a in
      both_inj D (mul_e x (inv_e x)) (one_e D) (both_mul D x (inv_e x) ∙ ap ((Pairs D).mul (both x)) (both_inv x) ∙ (λ i. (left i, right i)) ∙ sym (both_one D))

  pub inv-zero : inv_e (zero_e D) ≡ zero_e D
  inv-zero =
      let n = invℚ (N 0ℚ (root_part D 0ℚ)) in
      both_inj D (inv_e (zero_e D)) (zero_e D)
      (both_inv (zero_e D) ∙ (λ i. (zero-mul n i, (ap (λ z. mulℚ (negq z) n) (kept D 0ℚ (λ e. refl)) ∙ ap (λ z. mulℚ z n) (neg-zero ℚ_ring) ∙ zero-mul n) i)) ∙ sym (both_zero D))

  abbrev pub exact_inverses : Inverses (exact_ring D)
  exact_inverses = record { inv = inv_e; mul-inv = mul-inv; inv-zero = inv-zero }
