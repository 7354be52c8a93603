-- Rows written into a sheet, one after the other or in a part of it. N is a kind of number with the values A. Assumes nothing.
--
--   Entered N numbers n from was now   the first n numbers of a list stand in the sheet from a place on, and the other rows are as they were
--   Zeroed from to was now             the rows from one place on before another are zero, and the others are as they were
use Rattle.std.proofs.Common.{◌≡◌, ℕ, ◌+◌, ◌-◌, ◌<◌, ◌≤◌, List, ◌++◌, length, get_or, set, take, drop, replicate, Ok, sym, ap, ◌∙◌, subst, arith, length-drop, rules}
use native.Mathlib.Decide.{ℕ_discrete}
use borrow.Rule.Slice.PartMut.{put_mid}
use Rattle.std.proofs.lemmas.List.{get_or_append_left, get_or-set_same, get_or-set_other, length-take-le, places}
use Rattle.numbers.specs.declared.Number.{Ghosts}
use Rattle.numbers.specs.declared.Parts.{Parts}
use Rattle.study_terms.specs.Formulas.{NumberOf, Formula, exact, Sound, Outcome}
use Rattle.study_terms.specs.Sheets.{blank, zero_row, at, Written}
use Rattle.study_costs.specs.Rows.{Filled, WorkedRows}

pub record Entered {A : Type 0} (N : Ghosts A) (numbers : List Parts) (n from : ℕ) (was now : List Parts) : Type 0 where
  pub rows : (j : ℕ) → j < n → Written N (at N numbers j) (get_or now (from + j) blank)
  pub before : (t : ℕ) → t < from → get_or now t blank ≡ get_or was t blank
  pub after : (t : ℕ) → from + n ≤ t → get_or now t blank ≡ get_or was t blank

pub record Zeroed (from to : ℕ) (was now : List Parts) : Type 0 where
  pub rows : (t : ℕ) → from ≤ t → t < to → get_or now t blank ≡ zero_row
  pub before : (t : ℕ) → t < from → get_or now t blank ≡ get_or was t blank
  pub after : (t : ℕ) → to ≤ t → get_or now t blank ≡ get_or was t blank

-- what holds of the rows so far and of the next one
pub row_more : (P : ℕ → Parts → Type 0) (n : ℕ) (rows : List Parts) (row : Parts) → n < length rows
    → ((k : ℕ) → k < n → P k (get_or rows k blank)) → P n row → (k : ℕ) → k < n + 1 → P k (get_or (set rows n row) k blank)
row_more P n rows row l h p k q = elim (ℕ_discrete k n) [
  | yes z ↦ subst (λ k. P k (get_or (set rows n row) k blank)) (sym z) (subst (P n) (sym (get_or-set_same rows n row blank l)) p)
  | no d ↦ subst (P k) (sym (get_or-set_other rows n k row blank d)) (h k (omega arith))
]

-- the length of a part that was lent
pub lent : (from to : ℕ) (was part : List Parts) → from ≤ to → to ≤ length was → length part ≡ length (take (to - from) (drop from was)) → length part ≡ to - from
lent from to was part l h e =
    let m : to - from ≤ length (drop from was) = omega (arith, length-drop from was) in
    e ∙ length-take-le (to - from) (drop from was) m

-- numbers that were entered in a part of a sheet, or at its front
pub entered : {A : Type 0} (N : Ghosts A) (numbers : List Parts) (from to n : ℕ) (was part : List Parts) → from + n ≡ to → to ≤ length was
    → length part ≡ length (take (to - from) (drop from was)) → Filled N numbers part → Entered N numbers n from was (put_mid from (to - from) was part)
entered N numbers from to n was part s h e f =
    let long = lent from to was part (omega arith) h e in
    record {
      rows = λ j k.
          let p : get_or (put_mid from (to - from) was part) (from + j) blank ≡ get_or part j blank = grind (arith, places) in
          subst (Written N (at N numbers j)) (sym p) (f j (omega arith));
      before = λ t k. search (rules, places);
      after = λ t k. search (rules, places);
    }

pub entered_front : {A : Type 0} (N : Ghosts A) (numbers : List Parts) (n : ℕ) (was part : List Parts) → n ≤ length was
    → length part ≡ length (take n was) → Filled N numbers part → Entered N numbers n 0 was (part ++ drop n was)
entered_front N numbers n was part h e f =
    let long : length part ≡ n = e ∙ length-take-le n was h in
    record {
      rows = λ j k.
          let z : 0 + j ≡ j = omega arith in
          let p = ap (λ i. get_or (part ++ drop n was) i blank) z ∙ get_or_append_left part (drop n was) blank j (omega arith) in
          subst (Written N (at N numbers j)) (sym p) (f j (omega arith));
      before = λ t k. absurd (omega arith);
      after = λ t k.
          let a : n ≤ t = omega arith in
          search (rules, places);
    }

-- zeros that were written in a part of a sheet
pub zeroed : (from to : ℕ) (was part : List Parts) → from ≤ to → to ≤ length was → part ≡ replicate (length (take (to - from) (drop from was))) zero_row
    → Zeroed from to was (put_mid from (to - from) was part)
zeroed from to was part l h e =
    let m : to - from ≤ length (drop from was) = omega (arith, length-drop from was) in
    let z : part ≡ replicate (to - from) zero_row = e ∙ ap (λ n. replicate n zero_row) (length-take-le (to - from) (drop from was) m) in
    record {
      rows = λ t g k. grind (arith, places, z);
      before = λ t k. search (rules, places);
      after = λ t k. search (rules, places);
    }

pub worked_more : {A : Type 0} (N : Ghosts A) (f : ℕ → Formula A (NumberOf N)) (n : ℕ) (rows : List Parts) (k : A) (row : Parts) → n < length rows
    → WorkedRows N f n rows → Outcome N (f n) (Ok k) → row ≡ N.parts k → WorkedRows N f (n + 1) (set rows n row)
worked_more N f n rows k row l w u e = row_more (λ j r. Sound N (f j) × Written N (exact N (f j)) r) n rows row l w (u.0, (k, u.1, e))

-- rows that were worked at the front of a list
pub worked_front : {A : Type 0} (N : Ghosts A) (f : ℕ → Formula A (NumberOf N)) (n : ℕ) (rows rest : List Parts) → n ≤ length rows
    → WorkedRows N f n rows → WorkedRows N f n (rows ++ rest)
worked_front N f n rows rest l w j h =
    let old = w j h in
    let e = get_or_append_left rows rest blank j (omega arith) in
    (old.0, subst (Written N (exact N (f j))) (sym e) old.1)
