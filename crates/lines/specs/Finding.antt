-- What a kind holds is found: every exact number has lowest parts, and the answer of an operation is the entry that its result makes. Assumes nothing.
use Rattle.std.specs.Prelude.{◌≡◌, ℕ, zero, suc, ◌*◌, ◌<◌, ℤ, pos, ◌*ℤ◌, Some, None, Ok, Err, Option, Result, MatchResult, unsigned_abs}
use Rattle.std.proofs.Math.Path.{refl, sym, ap}
use Rattle.std.proofs.Common.{◌∙◌, subst, arith, eqb→eq}
use Rattle.std.proofs.Math.Nat as NatL
use Rattle.algebra.specs.Exact.{Exact, exact}
use Rattle.algebra.specs.Laws.{Plain, LowestParts}
use Rattle.algebra.proofs.RingSolver.{◌:*◌, lit, ◌≋◌, solve₁, solve₃}
use Rattle.algebra.proofs.Integers.{ℤ_ring, abs_zero}
use Rattle.algebra.proofs.Rational.{agree, over_is, den_pos}
use Rattle.algebra.proofs.ExactRing.{parts_equal}
use Rattle.algebra.proofs.Triples.{re_exact, im_exact}
use Rattle.algebra.proofs.Lowest.{parts_lowest, parts_same}
use Rattle.numbers.specs.Answers.{Held, Answers}
use Rattle.numbers.specs.declared.NumberFault.{NumberFault}
use Rattle.numbers.specs.declared.NumberFault.TheVariants.{TooLarge, ZeroDivisor}
use Rattle.lines.specs.declared.faults.Mark.{Mark}
use Rattle.lines.specs.declared.faults.Placed.{Placed}
use Rattle.lines.specs.Kinds.{Found, Finds, lowest_parts, look_up, kept, entry_of, Worked}
use Rattle.lines.specs.Laws.{Means}
use Rattle.lines.specs.Meaning.{Entry, holds, marked}

-- ---- every exact number has lowest parts
module _ {D : ℕ} (x : Exact D) where
  abbrev above : ℤ
  above = x.re.num *ℤ pos x.im.den

  abbrev under_root_lem : ℤ
  under_root_lem = x.im.num *ℤ pos x.re.den

  abbrev below : ℕ
  below = x.re.den * x.im.den

  below_pos : 0 < below
  below_pos = NatL.mul-pos (den_pos x.re) (den_pos x.im)

plain : (D : ℕ) (x : Exact D) → Plain D (under_root_lem x)
plain zero x e = ap (λ (z : ℤ). z *ℤ pos x.re.den) (abs_zero x.im.num (eqb→eq (unsigned_abs x.im.num) 0 x.flat)) ∙ solve₁ ℤ_ring (λ a. lit 0 :* a ≋ lit 0) tt (pos x.re.den)
plain (suc D) x e = absurd (omega (arith, e))

same_exact : {D : ℕ} (x : Exact D) → exact D (above x) (under_root_lem x) (below x) ≡ x
same_exact {D} x =
    parts_equal (exact D (above x) (under_root_lem x) (below x)) x
    (re_exact D (above x) (under_root_lem x) (below x)
    ∙ agree _ x.re (above x) x.re.num (below x) x.re.den (below_pos x) (den_pos x.re) (over_is (above x) (below x) (below_pos x)) refl
    (solve₃ ℤ_ring (λ a b c. a :* b :* c ≋ a :* (c :* b)) tt x.re.num (pos x.im.den) (pos x.re.den)))
    (im_exact D (above x) (under_root_lem x) (below x) (below_pos x) (plain D x)
    ∙ agree _ x.im (under_root_lem x) x.im.num (below x) x.im.den (below_pos x) (den_pos x.im) (over_is (under_root_lem x) (below x) (below_pos x)) refl
    (solve₃ ℤ_ring (λ a b c. a :* b :* c ≋ a :* (b :* c)) tt x.im.num (pos x.re.den) (pos x.im.den)))

lowest_is : {D : ℕ} (x : Exact D) → LowestParts D (lowest_parts x).p (lowest_parts x).q (lowest_parts x).m
unfolding lowest_parts
lowest_is {D} x = parts_lowest D (above x) (under_root_lem x) (below x) (below_pos x) (plain D x)

lowest_same : {D : ℕ} (x : Exact D) → exact D (lowest_parts x).p (lowest_parts x).q (lowest_parts x).m ≡ x
unfolding lowest_parts
lowest_same {D} x = parts_same D (above x) (under_root_lem x) (below x) (below_pos x) ∙ same_exact x

-- ---- answers are entries
module _ {A : Type 0} {D : ℕ} (value : A → Exact D) (find : ℤ → ℤ → ℕ → Option A) (finds : Finds value find) where
  pub found : (x : Exact D) → Found value x (look_up find x)
  found x = subst (λ y. Found value y (look_up find x)) (lowest_same x) (finds (lowest_parts x).p (lowest_parts x).q (lowest_parts x).m (lowest_is x))

  pub entry_held : (x : Exact D) (m : Mark) (k : A) → ((a b : A) → value a ≡ value b → a ≡ b) → value k ≡ x → entry_of find m x ≡ holds k
  unfolding entry_of
  entry_held x m k same e = go (look_up find x) (found x)
    where
      go : (o : Option A) → Found value x o → kept m o ≡ holds k
      go (Some j) f = ap holds (same j k (f ∙ sym e))
      go None f = absurd (f (k, e))

  pub entry_none : (x : Exact D) (m : Mark) → ¬ Held value x → entry_of find m x ≡ marked m
  unfolding entry_of
  entry_none x m n = go (look_up find x) (found x)
    where
      go : (o : Option A) → Found value x o → kept m o ≡ marked m
      go (Some j) f = absurd (n (j, f))
      go None f = refl

  -- an entry is a number that means x, or the mark
  pub data EitherWay (x : Exact D) (m : Mark) (e : Entry A) : Type 0 where
    held : (k : A) → e ≡ holds k → value k ≡ x → EitherWay x m e
    not_held : e ≡ marked m → ¬ Held value x → EitherWay x m e

  pub entry_cases : (x : Exact D) (m : Mark) → EitherWay x m (entry_of find m x)
  unfolding entry_of
  entry_cases x m = go (look_up find x) (found x)
    where
      go : (o : Option A) → Found value x o → EitherWay x m (kept m o)
      go (Some j) f = held j refl f
      go None f = not_held refl f

  pub entry_means : (x : Exact D) (m : Mark) → Held value x → Means value (entry_of find m x) x
  unfolding entry_of
  entry_means x m (k, e) = go (look_up find x) (found x)
    where
      go : (o : Option A) → Found value x o → Means value (kept m o) x
      go (Some j) f = (j, (refl, f))
      go None f = absurd (f (k, e))

  -- what an operation answered, with the mark of its place
  pub worked : ((a b : A) → value a ≡ value b → a ≡ b) → (x : Exact D) (m : Mark) (r : Result A NumberFault) (o : Result A Placed)
      → Answers value x r → MatchResult r (λ k. o ≡ Ok k) (λ e. o ≡ Err (record { fault = e; mark = m })) → Worked find m x o
  worked same x m (Ok k) o h e = subst (λ (z : Result A Placed). Worked find m x z) (sym e) (entry_held x m k same h)
  worked same x m (Err TooLarge) o h e = subst (λ (z : Result A Placed). Worked find m x z) (sym e) (entry_none x m h, refl)
  worked same x m (Err ZeroDivisor) o h e = absurd h
