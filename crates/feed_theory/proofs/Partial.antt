-- What `ok()` keeps of bytes read as text, and the first item of a list. Assumes nothing.
use Rattle.std.proofs.Common.{◌≡◌, ℕ, List, [], ◌∷◌, length, get_or, Some, None, Ok, Err, Result, MatchOption, MatchResult, Bor, IsUtf8, refl}
use Rattle.std.specs.List.{slice_get}
use Rattle.std.specs.Result.{result_ok}

pub utf8_kept : {E : Type 0} (bs : List ℕ) (F : E → Type 0) (r : Result (Bor (List ℕ)) E) → MatchResult r (λ s. (s.now ≡ bs) × IsUtf8 bs) (λ e. (IsUtf8 bs → ⊥) × F e) → MatchOption (result_ok r) (IsUtf8 bs → ⊥) (λ s. s.now ≡ bs)
utf8_kept bs F (Ok x) m = m.0
utf8_kept bs F (Err e) m = m.0

pub no_first : (bs : List ℕ) → None ≡ slice_get bs 0 → length bs ≡ 0
no_first [] e = refl
no_first (b ∷ bs) e = cc

pub first_is : (bs : List ℕ) (b : ℕ) → Some b ≡ slice_get bs 0 → b ≡ get_or bs 0 0
first_is [] b e = cc
first_is (c ∷ bs) b e = cc
