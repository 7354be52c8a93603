-- What reading a text answers. Assumes nothing.
--
--   Reads D value bs r       r is the value that means the number spelled, or 'not held' where none does, or 'no number' where
--                            the bytes spell none
--   Short row                each part has at most 18 digits
--   ReadsBack D parts bs r   where bs is the text of a value with short parts, r is that value
--   PlainAnswer P r          r is a row p, 0, m of which P holds, or none where P holds of none
--   PairAnswer P r           r is a pair of which P holds, or none where P holds of none
--   RootedAnswer D bs r      r is the parts that the bytes spell with a root, or none where they spell none so
--   Found D bs r             r is the parts that the bytes spell, or none where they spell none
--   fault_text e             the text of a refusal
use Rattle.std.specs.Prelude.{◌≡◌, ℕ, ◌^◌, ◌<◌, List, ℤ, pos, ◌<ℤ◌, Some, None, Ok, Err, Option, Result, unsigned_abs, codes}
use Rattle.algebra.specs.Exact.{Exact, exact}
use Rattle.numbers.specs.Answers.{Held}
use Rattle.numbers.specs.Texts.{number_text}
use Rattle.numbers.specs.declared.Parts.{Parts}
use Rattle.number_text.specs.Spelling.{Rooted, Spells}
use Rattle.number_text.specs.declared.TextFault.{TextFault}
use Rattle.number_text.specs.declared.TextFault.TheVariants.{NotANumber, NotHeld}

abbrev pub NoneSpelled : ℕ → List ℕ → Type 0
NoneSpelled D bs = (p q : ℤ) (m : ℕ) → ¬ Spells D bs p q m

abbrev pub PlainAnswer : (ℤ → ℕ → Type 0) → Option Parts → Type 0
PlainAnswer P None = (p : ℤ) (m : ℕ) → ¬ P p m
PlainAnswer P (Some row) = (pos 0 <ℤ row.m) × (row.q ≡ pos 0) × P row.p (unsigned_abs row.m)

abbrev pub PairAnswer : (ℤ → ℤ → Type 0) → Option (ℤ × ℤ) → Type 0
PairAnswer P None = (p q : ℤ) → ¬ P p q
PairAnswer P (Some z) = P z.0 z.1

abbrev pub RootedAnswer : ℕ → List ℕ → Option Parts → Type 0
RootedAnswer D bs None = (p q : ℤ) (m : ℕ) → ¬ Rooted D bs p q m
RootedAnswer D bs (Some row) = (pos 0 <ℤ row.m) × Rooted D bs row.p row.q (unsigned_abs row.m)

abbrev pub Found : ℕ → List ℕ → Option Parts → Type 0
Found D bs None = NoneSpelled D bs
Found D bs (Some row) = (pos 0 <ℤ row.m) × Spells D bs row.p row.q (unsigned_abs row.m)

abbrev pub Reads : {A : Type 0} (D : ℕ) → (A → Exact D) → List ℕ → Result A TextFault → Type 0
Reads D value bs (Ok k) = (p : ℤ) × (q : ℤ) × (m : ℕ) × Spells D bs p q m × (value k ≡ exact D p q m)
Reads D value bs (Err NotHeld) = (p : ℤ) × (q : ℤ) × (m : ℕ) × Spells D bs p q m × (¬ Held value (exact D p q m))
Reads D value bs (Err NotANumber) = NoneSpelled D bs

abbrev pub Short : Parts → Type 0
Short row = (unsigned_abs row.p < 10 ^ 18) × (unsigned_abs row.q < 10 ^ 18) × (unsigned_abs row.m < 10 ^ 18)

abbrev pub ReadsBack : {A : Type 0} (D : ℕ) → (A → Parts) → List ℕ → Result A TextFault → Type 0
ReadsBack {A} D parts bs r = (k : A) → bs ≡ number_text (pos D) (parts k) → Short (parts k) → r ≡ Ok k

abbrev pub fault_text : TextFault → List ℕ
fault_text NotANumber = codes "the text spells no number"
fault_text NotHeld = codes "the number is not one of its kind"
