-- Numbers a + b√d over an ordered field: when they are positive, and that sums and products of positives are. Assumes nothing.
use Rattle.std.proofs.Common.{◌≡◌, ◌≢◌, ◌⊎◌, sym, ap, ◌∙◌, subst, ap₂, inl, inr}
use Rattle.algebra.specs.Ring.{Ring, Ordered, Inverses}
use Rattle.algebra.proofs.RingSolver.{◌:+◌, ◌:*◌, ◌:-◌, :neg, ◌≋◌, equal, mul_nil, neg-zero, solve₂, solve₃, solve₄, solve₅, solve₇}
use Rattle.algebra.proofs.OrderedRing as Ord

module _ (R : Ring) (O : Ordered R) (I : Inverses R) (d : R.car) where
  open R use {car, zero as 𝟘, one as 𝟙, nat, add as ◌⊕◌, mul as ◌⊗◌, neg as ⊖, add-neg, add-zero, mul_comm, mul-one, add_comm, nat_zero, nat_suc}
  open O use {Pos, tri, not_zero, pos_add, pos_mul}
  open I use {inv, mul-inv}

  infixl 60 ◌⊕◌
  infixl 70 ◌⊗◌
  -- the norm a² − d·b²
  abbrev pub norm : car → car → car
  norm a b = a ⊗ a ⊕ ⊖ (d ⊗ (b ⊗ b))

  abbrev pub Pos₂ : car → car → Type 0
  Pos₂ a b = (Pos a × Pos (norm a b)) ⊎ (Pos b × Pos (⊖ (norm a b)))

  pub norm_ne : (a b : car) → Pos₂ a b → norm a b ≢ 𝟘
  norm_ne a b (inl h) e = not_zero (subst Pos e h.1)
  norm_ne a b (inr h) e = not_zero (subst Pos (ap ⊖ e ∙ neg-zero R) h.1)

  module _ (dn : Ord.Nonneg R O d) where
    pub square : (x : car) → Ord.Nonneg R O (d ⊗ (x ⊗ x))
    square x = Ord.nonneg_mul R O d (x ⊗ x) dn (Ord.square_nonneg R O x)

    d_pos : (a b : car) → Pos b → Pos (⊖ (norm a b)) → Pos d
    d_pos a b h k =
        Ord.unscale R O (b ⊗ b) d (pos_mul b b h h)
        (subst Pos (solve₃ R (λ a b d. :neg (a :* a :- d :* (b :* b)) :+ a :* a ≋ b :* b :* d) tt a b d) (Ord.add_nonneg R O (⊖ (norm a b)) (a ⊗ a) k (Ord.square_nonneg R O a)))

    norm-mul : (a b p q : car) → norm a b ⊗ norm p q ≡ norm (a ⊗ p ⊕ d ⊗ (b ⊗ q)) (a ⊗ q ⊕ b ⊗ p)
    norm-mul a b p q = solve₅ R (λ a b p q d. (a :* a :- d :* (b :* b)) :* (p :* p :- d :* (q :* q)) ≋ (a :* p :+ d :* (b :* q)) :* (a :* p :+ d :* (b :* q)) :- d :* ((a :* q :+ b :* p) :* (a :* q :+ b :* p))) tt a b p q d

    times : (x y : car) → Ord.Nonneg R O x → Pos y → Ord.Nonneg R O (x ⊗ y)
    times x y h k = Ord.nonneg_mul R O x y h (inl k)

    case_11 : (a b p q : car) → Pos a → Pos (norm a b) → Pos p → Pos (norm p q) → Pos (a ⊗ p ⊕ d ⊗ (b ⊗ q))
    case_11 a b p q ha na hp np = Ord.root R O (a ⊗ p) (d ⊗ (b ⊗ q)) (pos_mul a p ha hp)
        (subst Pos (solve₅ R (λ a b p q d. (a :* a :- d :* (b :* b)) :* (p :* p) :+ d :* (b :* b) :* (p :* p :- d :* (q :* q)) ≋ a :* p :* (a :* p) :- d :* (b :* q) :* (d :* (b :* q))) tt a b p q d)
        (Ord.add_nonneg R O (norm a b ⊗ (p ⊗ p)) (d ⊗ (b ⊗ b) ⊗ norm p q) (pos_mul (norm a b) (p ⊗ p) na (pos_mul p p hp hp)) (times (d ⊗ (b ⊗ b)) (norm p q) (square b) np)))

    case_22 : (a b p q : car) → Pos b → Pos (⊖ (norm a b)) → Pos q → Pos (⊖ (norm p q)) → Pos (a ⊗ p ⊕ d ⊗ (b ⊗ q))
    case_22 a b p q hb na hq np =
        let d0 = d_pos a b hb na in
        subst Pos (add_comm (d ⊗ (b ⊗ q)) (a ⊗ p)) (Ord.root R O (d ⊗ (b ⊗ q)) (a ⊗ p) (pos_mul d (b ⊗ q) d0 (pos_mul b q hb hq))
        (subst Pos (solve₅ R (λ a b p q d. :neg (a :* a :- d :* (b :* b)) :* (d :* (q :* q)) :+ a :* a :* :neg (p :* p :- d :* (q :* q)) ≋ d :* (b :* q) :* (d :* (b :* q)) :- a :* p :* (a :* p)) tt a b p q d)
        (Ord.add_nonneg R O (⊖ (norm a b) ⊗ (d ⊗ (q ⊗ q))) (a ⊗ a ⊗ ⊖ (norm p q)) (pos_mul (⊖ (norm a b)) (d ⊗ (q ⊗ q)) na (pos_mul d (q ⊗ q) d0 (pos_mul q q hq hq))) (times (a ⊗ a) (⊖ (norm p q)) (Ord.square_nonneg R O a) np))))

    case_12 : (a b p q : car) → Pos a → Pos (norm a b) → Pos q → Pos (⊖ (norm p q)) → Pos (a ⊗ q ⊕ b ⊗ p)
    case_12 a b p q ha na hq np =
        let d0 = d_pos p q hq np in
        Ord.root R O (a ⊗ q) (b ⊗ p) (pos_mul a q ha hq) (Ord.unscale R O d (a ⊗ q ⊗ (a ⊗ q) ⊕ ⊖ (b ⊗ p ⊗ (b ⊗ p))) d0
        (subst Pos (solve₅ R (λ a b p q d. (a :* a :- d :* (b :* b)) :* (d :* (q :* q)) :+ d :* (b :* b) :* :neg (p :* p :- d :* (q :* q)) ≋ d :* (a :* q :* (a :* q) :- b :* p :* (b :* p))) tt a b p q d)
        (Ord.add_nonneg R O (norm a b ⊗ (d ⊗ (q ⊗ q))) (d ⊗ (b ⊗ b) ⊗ ⊖ (norm p q)) (pos_mul (norm a b) (d ⊗ (q ⊗ q)) na (pos_mul d (q ⊗ q) d0 (pos_mul q q hq hq))) (times (d ⊗ (b ⊗ b)) (⊖ (norm p q)) (square b) np))))

    -- a product of positives
    pub pos₂_mul : (a b p q : car) → Pos₂ a b → Pos₂ p q → Pos₂ (a ⊗ p ⊕ d ⊗ (b ⊗ q)) (a ⊗ q ⊕ b ⊗ p)
    pos₂_mul a b p q (inl h) (inl k) = inl (case_11 a b p q h.0 h.1 k.0 k.1, subst Pos (norm-mul a b p q) (pos_mul (norm a b) (norm p q) h.1 k.1))
    pos₂_mul a b p q (inl h) (inr k) = inr (case_12 a b p q h.0 h.1 k.0 k.1, subst Pos (solve₂ R (λ x y. x :* :neg y ≋ :neg (x :* y)) tt (norm a b) (norm p q) ∙ ap ⊖ (norm-mul a b p q)) (pos_mul (norm a b) (⊖ (norm p q)) h.1 k.1))
    pos₂_mul a b p q (inr h) (inl k) = inr (subst Pos (solve₄ R (λ a b p q. p :* b :+ q :* a ≋ a :* q :+ b :* p) tt a b p q) (case_12 p q a b k.0 k.1 h.0 h.1), subst Pos (solve₂ R (λ x y. :neg x :* y ≋ :neg (x :* y)) tt (norm a b) (norm p q) ∙ ap ⊖ (norm-mul a b p q)) (pos_mul (⊖ (norm a b)) (norm p q) h.1 k.1))
    pos₂_mul a b p q (inr h) (inr k) = inl (case_22 a b p q h.0 h.1 k.0 k.1, subst Pos (solve₂ R (λ x y. :neg x :* :neg y ≋ x :* y) tt (norm a b) (norm p q) ∙ norm-mul a b p q) (pos_mul (⊖ (norm a b)) (⊖ (norm p q)) h.1 k.1))

    one_pos : (x : car) → Pos x → Pos 𝟙
    one_pos x h = Ord.unscale R O x 𝟙 h (subst Pos (sym (mul-one x)) h)

    norm-inv : (a b n : car) → norm a b ⊗ n ≡ 𝟙 → norm (a ⊗ n) (⊖ b ⊗ n) ≡ n
    norm-inv a b n e = solve₄ R (λ a b n d. a :* n :* (a :* n) :- d :* (:neg b :* n :* (:neg b :* n)) ≋ n :* ((a :* a :- d :* (b :* b)) :* n)) tt a b n d ∙ ap (λ z. n ⊗ z) e ∙ mul-one n

    pos₂_inv : (a b n : car) → Pos₂ a b → norm a b ⊗ n ≡ 𝟙 → Pos₂ (a ⊗ n) (⊖ b ⊗ n)
    pos₂_inv a b n (inl h) e =
        let m = Ord.unscale R O (norm a b) n h.1 (subst Pos (sym e) (one_pos a h.0)) in
        inl (pos_mul a n h.0 m, subst Pos (sym (norm-inv a b n e)) m)
    pos₂_inv a b n (inr h) e =
        let m = Ord.unscale R O (⊖ (norm a b)) (⊖ n) h.1 (subst Pos (sym e ∙ solve₂ R (λ x y. x :* y ≋ :neg x :* :neg y) tt (norm a b) n) (one_pos b h.0)) in
        inr (subst Pos (solve₂ R (λ x y. x :* :neg y ≋ :neg x :* y) tt b n) (pos_mul b (⊖ n) h.0 m), subst Pos (ap ⊖ (sym (norm-inv a b n e))) m)

    module _ (irrational : Pos d → (a b : car) → a ⊗ a ≡ d ⊗ (b ⊗ b) → b ≡ 𝟘) where
      pos₂_one : (p q : car) → Pos₂ p q → Pos₂ (𝟙 ⊕ p) q
      pos₂_one p q (inl h) =
          let o = one_pos p h.0 in
          inl (
            pos_add 𝟙 p o h.0,
            subst Pos (solve₄ R (λ o p q d. p :* p :- d :* (q :* q) :+ (o :* o :+ (o :* p :+ o :* p)) ≋ (o :+ p) :* (o :+ p) :- d :* (q :* q)) tt 𝟙 p q d)
                (pos_add (norm p q) (𝟙 ⊗ 𝟙 ⊕ (𝟙 ⊗ p ⊕ 𝟙 ⊗ p)) h.1 (pos_add (𝟙 ⊗ 𝟙) (𝟙 ⊗ p ⊕ 𝟙 ⊗ p) (pos_mul 𝟙 𝟙 o o) (pos_add (𝟙 ⊗ p) (𝟙 ⊗ p) (pos_mul 𝟙 p o h.0) (pos_mul 𝟙 p o h.0)))),
          )
      pos₂_one p q (inr h) = elim (tri (norm (𝟙 ⊕ p) q)) [
        | inl n ↦
            let o = one_pos q h.0 in
            let s = pos_add (norm (𝟙 ⊕ p) q ⊕ ⊖ (norm p q)) (𝟙 ⊗ 𝟙) (pos_add (norm (𝟙 ⊕ p) q) (⊖ (norm p q)) n h.1) (pos_mul 𝟙 𝟙 o o) in
            inl (Ord.unscale R O (𝟙 ⊕ 𝟙) (𝟙 ⊕ p) (pos_add 𝟙 𝟙 o o) (subst Pos (solve₄ R (λ o p q d. (o :+ p) :* (o :+ p) :- d :* (q :* q) :- (p :* p :- d :* (q :* q)) :+ o :* o ≋ (o :+ o) :* (o :+ p)) tt 𝟙 p q d) s), n)
        | inr (inl e) ↦ absurd (Ord.pos_ne R O q h.0 (irrational (d_pos p q h.0 h.1) (𝟙 ⊕ p) q (equal R ((𝟙 ⊕ p) ⊗ (𝟙 ⊕ p)) (d ⊗ (q ⊗ q)) e)))
        | inr (inr n) ↦ inr (h.0, n)
      ]

      -- a sum of positives: x + y = x·(1 + y/x)
      pub pos₂_add : (a b p q : car) → Pos₂ a b → Pos₂ p q → Pos₂ (a ⊕ p) (b ⊕ q)
      pos₂_add a b p q h k =
          let n = inv (norm a b) in
          let e : norm a b ⊗ n ≡ 𝟙 = mul-inv (norm a b) (norm_ne a b h) in
          let u = a ⊗ n in let v = ⊖ b ⊗ n in
          let P = u ⊗ p ⊕ d ⊗ (v ⊗ q) in let Q = u ⊗ q ⊕ v ⊗ p in
          let t = pos₂_one P Q (pos₂_mul u v p q (pos₂_inv a b n h e) k) in
          let s = pos₂_mul a b (𝟙 ⊕ P) Q h t in
          let left : a ⊗ (𝟙 ⊕ P) ⊕ d ⊗ (b ⊗ Q) ≡ a ⊗ 𝟙 ⊕ (norm a b ⊗ n) ⊗ p =
          solve₇ R (λ a b n p q d o. a :* (o :+ (a :* n :* p :+ d :* (:neg b :* n :* q))) :+ d :* (b :* (a :* n :* q :+ :neg b :* n :* p)) ≋ a :* o :+ (a :* a :- d :* (b :* b)) :* n :* p) tt a b n p q d 𝟙 in
          let right : a ⊗ Q ⊕ b ⊗ (𝟙 ⊕ P) ≡ b ⊗ 𝟙 ⊕ (norm a b ⊗ n) ⊗ q =
          solve₇ R (λ a b n p q d o. a :* (a :* n :* q :+ :neg b :* n :* p) :+ b :* (o :+ (a :* n :* p :+ d :* (:neg b :* n :* q))) ≋ b :* o :+ (a :* a :- d :* (b :* b)) :* n :* q) tt a b n p q d 𝟙 in
          let finish : (z w : car) → z ⊗ 𝟙 ⊕ (norm a b ⊗ n) ⊗ w ≡ z ⊕ w = λ z w. ap₂ (λ s t. s ⊕ t ⊗ w) (mul-one z) e ∙ ap (λ s. z ⊕ s) (mul_comm 𝟙 w ∙ mul-one w) in
          subst (λ z. Pos₂ z (b ⊕ q)) (left ∙ finish a p) (subst (λ z. Pos₂ (a ⊗ (𝟙 ⊕ P) ⊕ d ⊗ (b ⊗ Q)) z) (right ∙ finish b q) s)

      pub zero-norm : (a b : car) → (d ≡ 𝟘 → b ≡ 𝟘) → norm a b ≡ 𝟘 → (a ≡ 𝟘) × (b ≡ 𝟘)
      zero-norm a b flat e =
          let eq : a ⊗ a ≡ d ⊗ (b ⊗ b) = equal R (a ⊗ a) (d ⊗ (b ⊗ b)) e in
          let b0 : b ≡ 𝟘 = elim dn [ inl h ↦ irrational h a b eq | inr z ↦ flat z ] in
          let sq : a ⊗ a ≡ 𝟘 = eq ∙ ap (λ z. d ⊗ (b ⊗ z)) b0 ∙ ap (λ z. d ⊗ z) (mul_nil R b) ∙ mul_nil R d in
          (elim (Ord.zero? R O a) [ inl z ↦ z | inr n ↦ absurd (Ord.mul_ne R O a a n n sq) ], b0)

      pub pos₂_tri : (a b : car) → (d ≡ 𝟘 → b ≡ 𝟘) → Pos₂ a b ⊎ (((a ≡ 𝟘) × (b ≡ 𝟘)) ⊎ Pos₂ (⊖ a) (⊖ b))
      pos₂_tri a b flat =
          let same : norm a b ≡ norm (⊖ a) (⊖ b) = solve₃ R (λ a b d. a :* a :- d :* (b :* b) ≋ :neg a :* :neg a :- d :* (:neg b :* :neg b)) tt a b d in
          elim (tri (norm a b)) [
            | inl n ↦ elim (tri a) [
              | inl h ↦ inl (inl (h, n))
              | inr (inl e) ↦ absurd (Ord.not_zero_sum R O (norm a b) (d ⊗ (b ⊗ b)) n (square b) (solve₃ R (λ a b d. a :* a :- d :* (b :* b) :+ d :* (b :* b) ≋ a :* a) tt a b d ∙ ap (λ z. a ⊗ z) e ∙ mul_nil R a))
              | inr (inr h) ↦ inr (inr (inl (h, subst Pos same n)))
            ]
            | inr (inl e) ↦ inr (inl (zero-norm a b flat e))
            | inr (inr n) ↦ elim (tri b) [
              | inl h ↦ inl (inr (h, n))
              | inr (inl e) ↦ absurd (Ord.not_zero_sum R O (⊖ (norm a b)) (a ⊗ a) n (Ord.square_nonneg R O a) (solve₃ R (λ a b d. :neg (a :* a :- d :* (b :* b)) :+ a :* a ≋ d :* (b :* b)) tt a b d ∙ ap (λ z. d ⊗ (b ⊗ z)) e ∙ ap (λ z. d ⊗ z) (mul_nil R b) ∙ mul_nil R d))
              | inr (inr h) ↦ inr (inr (inr (h, subst Pos (ap ⊖ same) n)))
            ]
          ]
