-- The line with trains has the costs of the line below plus those of the trains. Assumes nothing.
use Rattle.std.proofs.Common.{◌≡◌, ℕ, suc, ◌+◌, ◌-◌, ◌<◌, min, max, Bool, true, false, cond, ◌&&◌, T, ltb, [], ℤ, Some, None, Option, sym, refl, ap, ◌∙◌, subst, ap₂, arith}
use Rattle.algebra.specs.Exact.{Exact, Radicand, whole_e, zero_e, one_e, add_e}
use Rattle.algebra.specs.Field.{OrderedField}
use Rattle.algebra.proofs.ExactField.{exact_field}
use Rattle.control.specs.Line.{next, stage_cost, final_cost}
use Rattle.control.specs.Matrix.{form, join}
use Rattle.control.proofs.Forms.{form_add, form_ext}
use Rattle.lines.specs.Kinds.{Finds, entry_of}
use Rattle.lines.specs.Laws.{place_mark}
use Rattle.lines.specs.Meaning.{Entry, Meaning, order, told}
use Rattle.std.proofs.lemmas.Bool.Decides.{nat_tests}
use Rattle.lines.specs.WholeLines.{when, unless}
use Rattle.aims.specs.Aimed.{raised}
use Rattle.aims.specs.Shifting.{HeldStop}
use Rattle.aims.proofs.Holding.{ordered}
use Rattle.aims.proofs.Shifted.{after_held, entry_value}
use Rattle.feed_types.specs.declared.types.Sizes.{Sizes}
use Rattle.feed_types.specs.Reading.{Register}
use Rattle.trains.specs.Adding.{book_cost, Adds}
use Rattle.trains.specs.Trained.{weighs, Fits, counting, added, trains_line}
use Rattle.trains.specs.Weights.{weighed}
use Rattle.trains.proofs.AddedForm.{book_form, weighed_mirror}

module _ {A : Type 0} {D : ℕ} (good : Radicand D) (value : A → Exact D) (find : ℤ → ℤ → ℕ → Option A) (finds : Finds value find) (r : Register) (b : Meaning A) where
  abbrev K : OrderedField
  K = exact_field D good

  abbrev T_of : Entry A → Exact D
  T_of = told K value

  abbrev here : Meaning A
  here = trains_line value find r b

  module _ (counts : T (weighs r.sizes b)) (n w first : ℕ) (size : order b n ≡ w) (wide : w ≡ first + suc b.nx) (u x : ℕ → Exact D) (all : HeldStop here n) where
    abbrev z : ℕ → Exact D
    z = join first u (join b.nx x (λ _. one_e D))

    entry_is : (a c : ℕ) → a < w → c < w → T_of (here.G n a c) ≡ add_e (T_of (b.G n a c)) (whole_e D (weighed n first b.nx r.trains a c))
    entry_is a c h l =
        let m = place_mark (raised b.level) n (min a c) (max a c) in
        let total = weighed n (order b n - suc b.nx) b.nx r.trains (min a c) (max a c) in
        let begins : order b n - suc b.nx ≡ first = omega arith in
        let inside : max a c < order b n = omega arith in
        let k = all a c (omega arith, omega arith) in
        let e = sym (when (weighs r.sizes b && ltb (max a c) (order b n)) (added value find r b m (b.G n a c) total) (b.G n a c) (grind (arith, nat_tests))) ∙ k.1 in
        let y = after_held (b.G n a c) _ k.0 e in
        let v = after_held (entry_of find m (whole_e D total)) _ k.0 y.1.1 in
        ap T_of k.1 ∙ entry_value value find finds m (add_e (value y.0) (value v.0)) k.0 v.1.1
        ∙ ap₂ add_e (sym (ap T_of y.1.0))
        (entry_value value find finds m (whole_e D total) v.0 v.1.0 ∙ ap (whole_e D) (ap (λ (f : ℕ). weighed n f b.nx r.trains (min a c) (max a c)) begins ∙ ordered (weighed n first b.nx r.trains) (weighed_mirror n first b.nx r.trains) a c))

    pub form_at : form K w (λ a c. T_of (here.G n a c)) z ≡ add_e (form K w (λ a c. T_of (b.G n a c)) z) (book_cost good b.nx first n r.trains u x)
    form_at =
        form_ext K w _ (λ a c. add_e (T_of (b.G n a c)) (whole_e D (weighed n first b.nx r.trains a c))) z z entry_is (λ a h. refl)
        ∙ form_add K w _ _ z
        ∙ ap (add_e (form K w (λ a c. T_of (b.G n a c)) z)) (book_form good b.nx first w wide u x n r.trains)

  stage_order : (n : ℕ) → n < b.end → order b n ≡ b.nu + suc b.nx
  stage_order n h = grind (arith, nat_tests)

  last_order : order b b.end ≡ suc b.nx
  last_order = grind (arith, nat_tests)

  counted : T (weighs r.sizes b) → Adds good value here b r.trains
  unfolding stage_cost final_cost next
  counted counts = record {
    stage = λ n u x h all. form_at counts n (b.nu + suc b.nx) b.nu (stage_order n h) refl u x all;
    final = λ x all. form_at counts b.end (suc b.nx) 0 last_order (omega arith) (λ _. zero_e D) x all;
    travel = λ n u x k. refl;
  }

  -- where the book does not weigh nothing is added
  unweighed : weighs r.sizes b ≡ false → Adds good value here b []
  unfolding stage_cost final_cost next
  unweighed off = record {
    stage = λ n u x h all. same n (b.nu + suc b.nx) _ ∙ sym (K.add-zero _);
    final = λ x all. same b.end (suc b.nx) _ ∙ sym (K.add-zero _);
    travel = λ n u x k. refl;
  }
    where
      same : (n w : ℕ) (z : ℕ → Exact D) → form K w (λ a c. T_of (here.G n a c)) z ≡ form K w (λ a c. T_of (b.G n a c)) z
      same n w z = form_ext K w _ _ z z (λ a c h l. ap T_of (unless (weighs r.sizes b && ltb (max a c) (order b n)) _ (b.G n a c) (grind (arith, nat_tests)))) (λ a h. refl)

  -- any book adds the trains that count
  pub counting_add : Adds good value here b (counting r b)
  counting_add = go (weighs r.sizes b) refl
    where
      go : (x : Bool) → weighs r.sizes b ≡ x → Adds good value here b (cond x r.trains [])
      go true e = counted (subst T (sym e) tt)
      go false e = unweighed e

  pub trains_add : Fits r.sizes b → (r.sizes ≡ None → r.trains ≡ []) → Adds good value here b r.trains
  trains_add fits bare = subst (Adds good value here b) (all_count r.sizes refl fits) counting_add
    where
      all_count : (o : Option Sizes) → r.sizes ≡ o → Fits o b → counting r b ≡ r.trains
      all_count None e f = ap (λ (p : Option Sizes). cond (weighs p b) r.trains []) e ∙ sym (bare e)
      all_count (Some s) e f = ap (λ (v : Bool). cond v r.trains []) (ap (λ (p : Option Sizes). weighs p b) e ∙ f)
