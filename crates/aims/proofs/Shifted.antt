-- The line with aims has the costs of the line below, taken at the lateness less the aims. Assumes nothing.
use Rattle.std.proofs.Common.{◌≡◌, ℕ, zero, suc, ◌+◌, ◌-◌, ◌<◌, ◌≤◌, min, max, eqb, ℤ, pos, Option, sym, refl, ap, ◌∙◌, subst, ap₂, arith}
use native.Mathlib.Decide.{dec_lt}
use Rattle.algebra.specs.Exact.{Exact, Radicand, whole_e, zero_e, one_e, add_e, neg_e, mul_e}
use Rattle.algebra.specs.Field.{OrderedField}
use Rattle.algebra.proofs.ExactField.{exact_field}
use Rattle.control.specs.Line.{next, stage_cost, final_cost}
use Rattle.control.specs.Matrix.{sum, apply, form, join}
use Rattle.control.proofs.Laws.{mul-zero, zero-add, neg-zero, neg-add}
use Rattle.control.proofs.Lists.{join_left, join_right}
use Rattle.control.proofs.Sums.{sum_ext, sum_none, sum_split}
use Rattle.lines.specs.Kinds.{Finds, entry_of}
use Rattle.lines.specs.Laws.{Lawful, place_mark}
use Rattle.lines.specs.Meaning.{Entry, holds, marked, Meaning, order, InG, told}
use Rattle.lines.specs.declared.faults.Mark.{Mark}
use Rattle.lines.specs.Finding.{entry_cases, held, not_held}
use Rattle.std.proofs.lemmas.Bool.Decides.{nat_tests}
use Rattle.lines.specs.WholeLines.{when, unless, whole_zero}
use Rattle.aims.specs.Aimed.{column, corner, bordered, aims_line, raised, states_aimed}
use Rattle.aims.specs.Entries.{after, less, times_whole}
use Rattle.aims.specs.Shifting.{HeldStop, less_aims, Shifts}
use Rattle.aims.specs.Layered.{aims_lawful}
use Rattle.aims.proofs.ShiftedForm.{shifted_form}

-- ---- what a held entry was worked from
pub after_held : {A : Type 0} (x : Entry A) (f : A → Entry A) (k : A) → after x f ≡ holds k → (s : A) × ((x ≡ holds s) × (f s ≡ holds k))
after_held (holds s) f k h = (s, (refl, h))
after_held (marked m) f k h = absurd cc

pub entry_value : {A : Type 0} {D : ℕ} (value : A → Exact D) (find : ℤ → ℤ → ℕ → Option A) → Finds value find → (m : Mark) (x : Exact D) (k : A) → entry_of find m x ≡ holds k → value k ≡ x
entry_value {A} {D} value find finds m x k h =
    elim (entry_cases value find finds x m) [
      | held j e v ↦ (let same : holds k ≡ holds j = sym h ∙ e in let q : k ≡ j = cc in ap value q ∙ v)
      | not_held e n ↦ (let same : holds k ≡ marked m = sym h ∙ e in absurd cc)
    ]

-- the place after the first m of a joined list
pub join_at : {A : Type 0} (m : ℕ) (f g : ℕ → A) → join m f g m ≡ g 0
join_at zero f g = refl
join_at (suc m) f g = join_at m (λ j. f (suc j)) g

module _ {A : Type 0} {D : ℕ} (good : Radicand D) (value : A → Exact D) (find : ℤ → ℤ → ℕ → Option A) (finds : Finds value find) (t : ℕ → ℕ → ℤ) (b : Meaning A) where
  abbrev K : OrderedField
  K = exact_field D good

  abbrev T_of : Entry A → Exact D
  T_of = told K value

  abbrev t_e : ℕ → ℕ → Exact D
  t_e n j = whole_e D (t n j)

  -- s − k × t
  less_value : (m : Mark) (s k r : A) (w : ℤ) → less value find m s k w ≡ holds r → value r ≡ add_e (value s) (neg_e (mul_e (value k) (whole_e D w)))
  less_value m s k r w h =
      let p = after_held (times_whole value find m k w) _ r h in
      let v = after_held (entry_of find m (whole_e D w)) _ p.0 p.1.0 in
      entry_value value find finds m (add_e (value s) (neg_e (value p.0))) r p.1.1
      ∙ ap (λ (x : Exact D). add_e (value s) (neg_e x)) (entry_value value find finds m (mul_e (value k) (value v.0)) p.0 v.1.1 ∙ ap (mul_e (value k)) (entry_value value find finds m (whole_e D w) v.0 v.1.0))

  module _ (m : Mark) (n last first : ℕ) where
    -- what the first j states take from row a
    abbrev taken : ℕ → ℕ → Exact D
    taken a j = sum K j (λ i. mul_e (T_of (b.G n a (first + i))) (t_e n i))

    minus_more : (x p q : Exact D) → add_e (add_e x (neg_e p)) (neg_e q) ≡ add_e x (neg_e (add_e p q))
    minus_more x p q = K.add_assoc x (neg_e p) (neg_e q) ∙ ap (add_e x) (sym (neg-add K p q))

    minus_none : (x : Exact D) → add_e x (neg_e (zero_e D)) ≡ x
    minus_none x = ap (add_e x) (neg-zero K) ∙ K.add-zero x

    column_value : (a j : ℕ) (k : A) → column value find t b m n a last first j ≡ holds k → value k ≡ add_e (T_of (b.G n a last)) (neg_e (taken a j))
    column_value a zero k h = sym (ap T_of h) ∙ sym (minus_none (T_of (b.G n a last)))
    column_value a (suc j) k h =
        let s = after_held (column value find t b m n a last first j) _ k h in
        let e = after_held (b.G n a (first + j)) _ k s.1.1 in
        less_value m s.0 e.0 k (t n j) e.1.1
        ∙ ap₂ (λ (x y : Exact D). add_e x (neg_e (mul_e y (t_e n j)))) (column_value a j s.0 s.1.0) (sym (ap T_of e.1.0))
        ∙ minus_more (T_of (b.G n a last)) (taken a j) (mul_e (T_of (b.G n a (first + j))) (t_e n j))

    -- the new entry of state i and the constant
    abbrev new : ℕ → Exact D
    new i = add_e (T_of (b.G n (first + i) last)) (neg_e (taken (first + i) (states_aimed b.nx)))

    abbrev pairs : ℕ → Exact D
    pairs j = sum K j (λ i. mul_e (add_e (new i) (T_of (b.G n (first + i) last))) (t_e n i))

    corner_value : (j : ℕ) (k : A) → corner value find t b m n last first j ≡ holds k → value k ≡ add_e (T_of (b.G n last last)) (neg_e (pairs j))
    corner_value zero k h = sym (ap T_of h) ∙ sym (minus_none (T_of (b.G n last last)))
    corner_value (suc j) k h =
        let s = after_held (corner value find t b m n last first j) _ k h in
        let c = after_held (column value find t b m n (first + j) last first (states_aimed b.nx)) _ k s.1.1 in
        let o = after_held (b.G n (first + j) last) _ k c.1.1 in
        let p = after_held (entry_of find m (add_e (value c.0) (value o.0))) _ k o.1.1 in
        less_value m s.0 p.0 k (t n j) p.1.1
        ∙ ap₂ (λ (x y : Exact D). add_e x (neg_e (mul_e y (t_e n j)))) (corner_value j s.0 s.1.0)
        (entry_value value find finds m (add_e (value c.0) (value o.0)) p.0 p.1.0
        ∙ ap₂ add_e (column_value (first + j) (states_aimed b.nx) c.0 c.1.0) (sym (ap T_of o.1.0)))
        ∙ minus_more (T_of (b.G n last last)) (pairs j) (mul_e (add_e (new j) (T_of (b.G n (first + j) last))) (t_e n j))

  -- ---- the layer's places at a stop whose constant stands at w
  module _ (n w first : ℕ) (size : order b n ≡ suc w) (begins : w ≡ first + b.nx) where
    abbrev here : Meaning A
    here = aims_line value find t b

    abbrev own : ℕ → ℕ → Mark
    own a c = place_mark (raised b.level) n a c

    abbrev count : ℕ
    count = states_aimed b.nx

    at_border : (a : ℕ) → a ≤ w → here.G n a w ≡ bordered value find t b (own a w) n a w
    at_border a h =
        let hi : max a w ≡ w = omega arith in
        let lo : min a w ≡ a = omega arith in
        when (eqb (suc (max a w)) (order b n)) (bordered value find t b (own (min a w) (max a w)) n (min a w) (max a w)) (b.G n a w) (grind (arith, nat_tests))
        ∙ ap₂ (λ (l g : ℕ). bordered value find t b (own l g) n l g) lo hi

    offset : w - b.nx ≡ first
    offset = omega arith

    at_column : (a : ℕ) → a < w → here.G n a w ≡ column value find t b (own a w) n a w first count
    at_column a h =
        at_border a (omega arith)
        ∙ unless (eqb a w) (corner value find t b (own a w) n w (w - b.nx) count) (column value find t b (own a w) n a w (w - b.nx) count) (grind (arith, nat_tests))
        ∙ ap (λ (f : ℕ). column value find t b (own a w) n a w f count) offset

    at_corner : here.G n w w ≡ corner value find t b (own w w) n w first count
    at_corner =
        at_border w (omega arith)
        ∙ when (eqb w w) (corner value find t b (own w w) n w (w - b.nx) count) (column value find t b (own w w) n w w (w - b.nx) count) (grind (arith, nat_tests))
        ∙ ap (λ (f : ℕ). corner value find t b (own w w) n w f count) offset

    at_inner : (a c : ℕ) → a < w → c < w → here.G n a c ≡ b.G n a c
    at_inner a c h l = grind (arith, nat_tests)

    module _ (four : (k : ℕ) → 4 ≤ k → t n k ≡ pos 0) (lawful : Lawful value b) (u x : ℕ → Exact D) (all : HeldStop here n) where
      abbrev s : ℕ → Exact D
      s = join first (λ _. zero_e D) (t_e n)

      abbrev z : (ℕ → Exact D) → ℕ → Exact D
      z y = join first u (join b.nx y (λ _. one_e D))

      -- a sum against the shift is one over the states that have aims
      shift_sum : (f : ℕ → Exact D) → sum K w (λ c. mul_e (f c) (s c)) ≡ sum K count (λ j. mul_e (f (first + j)) (t_e n j))
      shift_sum f =
          ap (λ (k : ℕ). sum K k (λ c. mul_e (f c) (s c))) begins
          ∙ sum_split K first b.nx (λ c. mul_e (f c) (s c))
          ∙ ap₂ add_e (sum_none K first _ (λ k l. ap (mul_e (f k)) (join_left first (λ _. zero_e D) (t_e n) k l) ∙ mul-zero K (f k)))
          (sum_ext K b.nx _ (λ j. mul_e (f (first + j)) (t_e n j)) (λ k l. ap (mul_e (f (first + k))) (join_right first (λ _. zero_e D) (t_e n) k)) ∙ few (λ j. mul_e (f (first + j)) (t_e n j)) (λ k l. ap (mul_e (f (first + k))) (ap (whole_e D) (four k l) ∙ whole_zero D) ∙ mul-zero K (f (first + k))))
          ∙ zero-add K (sum K count (λ j. mul_e (f (first + j)) (t_e n j)))
        where
          few : (g : ℕ → Exact D) → ((k : ℕ) → 4 ≤ k → g k ≡ zero_e D) → sum K b.nx g ≡ sum K count g
          few g none =
              let e : b.nx ≡ count + (b.nx - count) = omega arith in
              ap (λ (k : ℕ). sum K k g) e
              ∙ sum_split K count (b.nx - count) g
              ∙ ap (add_e (sum K count g)) (sum_none K (b.nx - count) (λ k. g (count + k)) (λ k l. none (count + k) (omega arith)))
              ∙ K.add-zero (sum K count g)

      -- the constant is 1, and the lateness is shifted
      constant_one : (y : ℕ → Exact D) → z y w ≡ one_e D
      constant_one y = ap (z y) begins ∙ join_right first u (join b.nx y (λ _. one_e D)) b.nx ∙ join_at b.nx y (λ _. one_e D)

      shifted : (a : ℕ) → a < w → z (less_aims D t n x) a ≡ add_e (z x a) (neg_e (s a))
      shifted a h =
          elim (dec_lt a first) [
            | yes l ↦ join_left first u _ a l ∙ sym (ap₂ (λ (p q : Exact D). add_e p (neg_e q)) (join_left first u _ a l) (join_left first (λ _. zero_e D) (t_e n) a l) ∙ ap (add_e (u a)) (neg-zero K) ∙ K.add-zero (u a))
            | no p ↦ (let e : first + (a - first) ≡ a = omega arith in subst (λ (k : ℕ). z (less_aims D t n x) k ≡ add_e (z x k) (neg_e (s k))) e (state (a - first) (omega arith)))
          ]
        where
          state : (k : ℕ) → k < b.nx → z (less_aims D t n x) (first + k) ≡ add_e (z x (first + k)) (neg_e (s (first + k)))
          state k l =
              join_right first u _ k ∙ join_left b.nx (less_aims D t n x) (λ _. one_e D) k l
              ∙ sym (ap₂ (λ (p q : Exact D). add_e p (neg_e q)) (join_right first u _ k ∙ join_left b.nx x (λ _. one_e D) k l) (join_right first (λ _. zero_e D) (t_e n) k))

      abbrev B : ℕ → ℕ → Exact D
      B a c = T_of (here.G n a c)

      abbrev A₀ : ℕ → ℕ → Exact D
      A₀ a c = T_of (b.G n a c)

      inside : (a c : ℕ) → a ≤ w → c ≤ w → InG here n a c
      inside a c h l = (omega arith, omega arith)

      column_is : (a : ℕ) → a < w → B a w ≡ add_e (A₀ a w) (neg_e (apply K w A₀ s a))
      column_is a h =
          let k = all a w (inside a w (omega arith) (omega arith)) in
          ap T_of k.1 ∙ column_value (own a w) n w first a count k.0 (sym (at_column a h) ∙ k.1)
          ∙ ap (λ (y : Exact D). add_e (A₀ a w) (neg_e y)) (sym (shift_sum (λ c. A₀ a c)))

      corner_is : B w w ≡ add_e (A₀ w w) (neg_e (sum K w (λ k. mul_e (add_e (B k w) (A₀ k w)) (s k))))
      corner_is =
          let k = all w w (inside w w (omega arith) (omega arith)) in
          ap T_of k.1 ∙ corner_value (own w w) n w first count k.0 (sym at_corner ∙ k.1)
          ∙ ap (λ (y : Exact D). add_e (A₀ w w) (neg_e y))
          (sum_ext K count _ _ (λ j l. ap (λ (y : Exact D). mul_e (add_e y (A₀ (first + j) w)) (t_e n j)) (sym (column_is (first + j) (omega arith) ∙ ap (λ (y : Exact D). add_e (A₀ (first + j) w) (neg_e y)) (shift_sum (λ c. A₀ (first + j) c)))))
          ∙ sym (shift_sum (λ k. add_e (B k w) (A₀ k w))))

      pub form_at : form K (suc w) B (z x) ≡ form K (suc w) A₀ (z (less_aims D t n x))
      form_at =
          shifted_form K w A₀ B (z x) s (z (less_aims D t n x))
          (λ a c h l. ap T_of (lawful.mirror n a c)) (λ a c h l. ap T_of ((aims_lawful value find t b lawful).mirror n a c))
          (constant_one x) (constant_one (less_aims D t n x)) shifted
          (λ a c h l. ap T_of (at_inner a c h l)) column_is corner_is

  pub aims_shift : ((n k : ℕ) → 4 ≤ k → t n k ≡ pos 0) → Lawful value b → Shifts good value (aims_line value find t b) b t
  unfolding stage_cost final_cost next
  aims_shift four lawful = record {
    stage = λ n u x h all. let e : suc (b.nu + b.nx) ≡ b.nu + suc b.nx = omega arith in
        subst (λ (w : ℕ). form K w (λ a c. T_of ((aims_line value find t b).G n a c)) (join b.nu u (join b.nx x (λ _. one_e D))) ≡ form K w (λ a c. T_of (b.G n a c)) (join b.nu u (join b.nx (less_aims D t n x) (λ _. one_e D)))) e
        (form_at n (b.nu + b.nx) b.nu (grind (arith, nat_tests)) refl (four n) lawful u x all);
    final = λ x all.
        form_at b.end b.nx 0
        (grind (arith, nat_tests)) (omega arith) (four b.end) lawful (λ _. zero_e D) x all;
    travel = λ n u x k. refl;
  }
