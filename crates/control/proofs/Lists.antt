-- What a joined list holds, and a list with one place changed. Assumes nothing.
use mathlib.Core.Path.{◌≡◌, refl, sym, ap, ◌∙◌, fun_ext}
use mathlib.Core.Logic.{◌≢◌}
use Prim.Native.Nat.{ℕ, zero, suc, ◌+◌, ◌<◌}
use native.Mathlib.Omega.{arith}
use Rattle.control.specs.Matrix.{join, put}

module _ {A : Type 0} where
  pub join_left : (m : ℕ) (f g : ℕ → A) (k : ℕ) → k < m → join m f g k ≡ f k
  join_left zero f g k l = absurd (omega arith)
  join_left (suc m) f g zero l = refl
  join_left (suc m) f g (suc k) l = join_left m (λ j. f (suc j)) g k (omega arith)

  pub join_right : (m : ℕ) (f g : ℕ → A) (k : ℕ) → join m f g (m + k) ≡ g k
  join_right zero f g k = ap g (omega arith)
  join_right (suc m) f g k =
      let e : suc m + k ≡ suc (m + k) = omega arith in
      ap (join (suc m) f g) e ∙ join_right m (λ j. f (suc j)) g k

  join_ext_at : (m : ℕ) (f h g : ℕ → A) → ((k : ℕ) → k < m → f k ≡ h k) → (k : ℕ) → join m f g k ≡ join m h g k
  join_ext_at zero f h g e k = refl
  join_ext_at (suc m) f h g e zero = e 0 (omega arith)
  join_ext_at (suc m) f h g e (suc k) = join_ext_at m (λ j. f (suc j)) (λ j. h (suc j)) g (λ j l. e (suc j) (omega arith)) k

  pub join_ext : (m : ℕ) (f h g : ℕ → A) → ((k : ℕ) → k < m → f k ≡ h k) → join m f g ≡ join m h g
  join_ext m f h g e = fun_ext (join_ext_at m f h g e)

  join_self_at : (m : ℕ) (z g : ℕ → A) → ((k : ℕ) → z (m + k) ≡ g k) → (k : ℕ) → join m z g k ≡ z k
  join_self_at zero z g h k = sym (h k) ∙ ap z (omega arith)
  join_self_at (suc m) z g h zero = refl
  join_self_at (suc m) z g h (suc k) =
      join_self_at m (λ j. z (suc j)) g (λ j. let e : suc (m + j) ≡ suc m + j = omega arith in ap z e ∙ h j) k

  pub join_self : (m : ℕ) (z g : ℕ → A) → ((k : ℕ) → z (m + k) ≡ g k) → join m z g ≡ z
  join_self m z g h = fun_ext (join_self_at m z g h)

  pub put_same : (i : ℕ) (v : A) (z : ℕ → A) → put i v z i ≡ v
  put_same zero v z = refl
  put_same (suc i) v z = put_same i v (λ j. z (suc j))

  pub put_other : (i : ℕ) (v : A) (z : ℕ → A) (k : ℕ) → k ≢ i → put i v z k ≡ z k
  put_other zero v z zero h = absurd (h refl)
  put_other zero v z (suc k) h = refl
  put_other (suc i) v z zero h = refl
  put_other (suc i) v z (suc k) h = put_other i v (λ j. z (suc j)) k (λ e. h (ap suc e))
