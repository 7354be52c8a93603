-- Digits and the numbers that they write. Assumes nothing.
use Rattle.std.proofs.Common.{◌≡◌, ℕ, ◌^◌, ◌<◌, ◌≤◌, ◌≢◌, List, [], ◌∷◌, length, get_or, ℤ, pos, neg_ℤ, Ok, Err, Result, Some, None, Option, sym, refl, ap, ◌∙◌, subst, inl, inr, arith, w64, MatchOption}
use Rattle.std.specs.Str.Parse.{AllDigits, digits_value, ParsesSigned}
use Rattle.std.specs.Result.{OkIff, result_ok}
use Rattle.std.specs.Int.{IsInRange}
use Rattle.std.proofs.lemmas.Str.Parse.{IsNumeralModel, numerals_by_value, tells_digits, digits_value_short, digit_from_value, digit_at, parse_signed_plain}
use Rattle.number_text.specs.Spelling.{Natural, Positive, Minus, Whole, Step}
use Rattle.number_text.proofs.Splits.{Lacks}

own : IsNumeralModel (AllDigits 10) (digits_value 10)
own = numerals_by_value (AllDigits 10) tells_digits

pub value_bound : (ds : List ℕ) (k : ℕ) → AllDigits 10 ds → length ds ≤ k → digits_value 10 ds < 10 ^ k
value_bound ds k d h = digits_value_short own ds k d h

-- what is no digit does not stand among digits
pub digits_lack : (c : ℕ) (ds : List ℕ) → (IsInRange 48 57 c → ⊥) → AllDigits 10 ds → Lacks c ds
digits_lack c [] n d = tt
digits_lack c (x ∷ xs) n d = (λ e. n (subst (IsInRange 48 57) e (digit_from_value x d.0)), digits_lack c xs n d.1)

pub natural_lacks : (c : ℕ) (bs : List ℕ) (n : ℕ) → (IsInRange 48 57 c → ⊥) → Natural bs n → Lacks c bs
natural_lacks c bs n k h = digits_lack c bs k h.digits

minus_lacks : (c : ℕ) (bs : List ℕ) (z : ℤ) → (IsInRange 48 57 c → ⊥) → c ≢ 45 → Minus bs z → Lacks c bs
minus_lacks c bs z k m (ds, e, h) = subst (Lacks c) (sym e) ((λ e. m (sym e)), natural_lacks c ds h.0 k h.1)

pub whole_lacks : (c : ℕ) (bs : List ℕ) (z : ℤ) → (IsInRange 48 57 c → ⊥) → c ≢ 45 → Whole bs z → Lacks c bs
whole_lacks c bs z k m (inl h) = natural_lacks c bs h.0 k h.1
whole_lacks c bs z k m (inr h) = minus_lacks c bs z k m h

pub step_lacks : (c : ℕ) (bs : List ℕ) (z : ℤ) → (IsInRange 48 57 c → ⊥) → c ≢ 45 → c ≢ 43 → Step bs z → Lacks c bs
step_lacks c bs z k m p (inl (ds, e, h)) = subst (Lacks c) (sym e) ((λ e. p (sym e)), natural_lacks c ds h.0 k h.1)
step_lacks c bs z k m p (inr h) = minus_lacks c bs z k m h

-- ---- one number for each text
pub natural_unique : (bs : List ℕ) (n n' : ℕ) → Natural bs n → Natural bs n' → n ≡ n'
natural_unique bs n n' h k = h.is ∙ sym k.is

pub first_is_digit : (bs : List ℕ) (n : ℕ) → Natural bs n → IsInRange 48 57 (get_or bs 0 0)
first_is_digit bs n h = digit_at bs 0 h.digits h.some

pub natural_no_sign : (c : ℕ) (bs ds : List ℕ) (n : ℕ) → (IsInRange 48 57 c → ⊥) → Natural bs n → bs ≡ c ∷ ds → ⊥
natural_no_sign c bs ds n k h e = k (subst (IsInRange 48 57) (ap (λ l. get_or l 0 0) e) (first_is_digit bs n h))

no_minus : IsInRange 48 57 45 → ⊥
no_minus h = omega arith

pub positive_unique : (bs : List ℕ) (z z' : ℤ) → Positive bs z → Positive bs z' → z ≡ z'
positive_unique bs z z' (n, h, v) (n', h', v') = v ∙ ap pos (natural_unique bs n n' h h') ∙ sym v'

pub tail_same : (c : ℕ) (bs ds ds' : List ℕ) → bs ≡ c ∷ ds → bs ≡ c ∷ ds' → ds ≡ ds'
tail_same c bs ds ds' e e' = cc

minus_unique : (bs : List ℕ) (z z' : ℤ) → Minus bs z → Minus bs z' → z ≡ z'
minus_unique bs z z' (ds, e, (n, h, v)) (ds', e', (n', h', v')) =
    v ∙ ap (λ k. neg_ℤ (pos k)) (natural_unique ds n n' h (subst (λ l. Natural l n') (sym (tail_same 45 bs ds ds' e e')) h')) ∙ sym v'

pub whole_unique : (bs : List ℕ) (z z' : ℤ) → Whole bs z → Whole bs z' → z ≡ z'
whole_unique bs z z' (inl h) (inl k) = positive_unique bs z z' h k
whole_unique bs z z' (inl h) (inr k) = absurd (natural_no_sign 45 bs k.0 h.0 no_minus h.1 k.1)
whole_unique bs z z' (inr h) (inl k) = absurd (natural_no_sign 45 bs h.0 k.0 no_minus k.1 h.1)
whole_unique bs z z' (inr h) (inr k) = minus_unique bs z z' h k

other_sign : (bs ds ds' : List ℕ) → bs ≡ 43 ∷ ds → bs ≡ 45 ∷ ds' → ⊥
other_sign bs ds ds' e e' = let a : ◌≡◌ {A = ℕ} 43 45 = ap (λ l. get_or l 0 0) (sym e ∙ e') in omega arith

pub step_unique : (bs : List ℕ) (z z' : ℤ) → Step bs z → Step bs z' → z ≡ z'
step_unique bs z z' (inl (ds, e, h)) (inl (ds', e', h')) = positive_unique ds z z' h (subst (λ l. Positive l z') (sym (tail_same 43 bs ds ds' e e')) h')
step_unique bs z z' (inl h) (inr k) = absurd (other_sign bs h.0 k.0 h.1 k.1)
step_unique bs z z' (inr h) (inl k) = absurd (other_sign bs k.0 h.0 k.1 h.1)
step_unique bs z z' (inr h) (inr k) = minus_unique bs z z' h k

-- what `parse` gives, for at most 18 digits
pub read_digits : {E : Type 0} (bs : List ℕ) (r : Result ℤ E) → length bs ≤ 18 → ParsesSigned w64 10 bs r → get_or bs 0 0 ≢ 43 → get_or bs 0 0 ≢ 45 → MatchOption (result_ok r) ((z : ℤ) → ¬ Positive bs z) (Positive bs)
read_digits bs r l h p m = go r (parse_signed_plain own w64 bs r h p m)
  where
    go : {E : Type 0} (r : Result ℤ E) → OkIff r (AllDigits 10 bs × (0 < length bs) × (digits_value 10 bs < 2 ^ 63)) (pos (digits_value 10 bs)) → MatchOption (result_ok r) ((z : ℤ) → ¬ Positive bs z) (Positive bs)
    go (Ok z) (h, e) = (digits_value 10 bs, record { digits = h.0; some = h.1; few = l; is = refl }, e)
    go (Err e) h = λ z (n, k, _). h (k.digits, k.some, (let b = value_bound bs 18 k.digits l in omega arith))

-- an answer for P is one for Q where the two are the same
pub carry : {P Q : ℤ → Type 0} (r : Option ℤ) → ((z : ℤ) → P z → Q z) → ((z : ℤ) → Q z → P z) → MatchOption r ((z : ℤ) → ¬ P z) P → MatchOption r ((z : ℤ) → ¬ Q z) Q
carry None f g h = λ z q. h z (g z q)
carry (Some z) f g h = f z h

-- ---- by the first byte
module _ (bs : List ℕ) (z : ℤ) where
  pub whole_minus : get_or bs 0 0 ≡ 45 → Whole bs z → Minus bs z
  whole_minus e (inl h) = absurd (no_minus (subst (IsInRange 48 57) e (first_is_digit bs h.0 h.1)))
  whole_minus e (inr h) = h

  pub whole_positive : get_or bs 0 0 ≢ 45 → Whole bs z → Positive bs z
  whole_positive n (inl h) = h
  whole_positive n (inr h) = absurd (n (ap (λ l. get_or l 0 0) h.1))

  pub step_positive : (ds : List ℕ) → bs ≡ 43 ∷ ds → Step bs z → Positive ds z
  step_positive ds e (inl (ds', e', h)) = subst (λ l. Positive l z) (tail_same 43 bs ds' ds e' e) h
  step_positive ds e (inr h) = absurd (other_sign bs ds h.0 e h.1)

  pub step_minus : ((ds : List ℕ) → bs ≢ (43 ∷ ds)) → Step bs z → Minus bs z
  step_minus n (inl h) = absurd (n h.0 h.1)
  step_minus n (inr h) = h

pub minus_digits : (bs ds : List ℕ) (z : ℤ) → bs ≡ 45 ∷ ds → Minus bs z → (y : ℤ) × Positive ds y
minus_digits bs ds z e (ds', e', (n, h, _)) = (pos n, (n, subst (λ l. Natural l n) (tail_same 45 bs ds' ds e' e) h, refl))
