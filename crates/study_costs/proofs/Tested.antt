-- Tests of the code are the tests of the checks. Assumes nothing.
use Rattle.std.proofs.Common.{◌≡◌, ℕ, ◌≤◌, Bool, true, T, eqb, leb, sym, ◌∙◌, subst, le→leb}
use lib.Dec.{eqb_refl}

-- a sheet that is not shorter than the room worked out for it
pub long_enough : (worked need n : ℕ) → worked ≡ need → worked ≤ n → T (leb need n)
long_enough worked need n e l = subst (λ k. T (leb k n)) e (le→leb worked n l)

-- a list of the length that is asked for
pub just_long : (n need : ℕ) → n ≡ need → T (eqb n need)
just_long n need e = subst (λ k. T (eqb n k)) e (eqb_refl n)

-- a test that was told to be true
pub told_true : (told test : Bool) → told ≡ test → told ≡ true → T test
told_true told test e t = subst T (sym t ∙ e) tt
