-- What every line keeps. Assumes nothing.
--
--   Means value e x      the exact number x stands at the place, as a number of the kind
--   Lawful value m       places outside mean 0, F's last row keeps the constant 1, G is its own mirror, marks included
--   place_mark l n r c   the mark of level l at stop n, row r, column c
--   F_mark m n k c       the mark that the line itself puts at a place of F: of its own level, and naming the place
--   G_mark m n a c       the same of G: of the place and its mirror it names the one above the diagonal
--   Marks m e            the mark e stands at some place of the line
--   Unmarked m           the line has no mark
--   OwnOrBelow m b       each mark of the line is its own mark of that place, or, whole, one of the line b below
--   Levelled m           a line at the bottom has level 0, and all its marks are its own; a layer has one level more than the line below,
--                        but at most 255, and each of its marks is its own or passed up whole from below
use Rattle.std.specs.Prelude.{◌≡◌, ℕ, suc, ◌+◌, ◌<◌, min, max, ◌⊎◌}
use Rattle.algebra.specs.Exact.{Exact, zero_e, one_e}
use Rattle.lines.specs.declared.faults.Mark.{Mark}
use Rattle.lines.specs.Meaning.{Entry, holds, marked, Meaning, InF, InG}

abbrev pub Means : {A : Type 0} {D : ℕ} → (A → Exact D) → Entry A → Exact D → Type 0
Means {A} value e x = (k : A) × ((e ≡ holds k) × (value k ≡ x))

pub record Lawful {A : Type 0} {D : ℕ} (value : A → Exact D) (m : Meaning A) : Type 0 where
  pub outside_F : (n k c : ℕ) → (InF m n k c → ⊥) → Means value (m.F n k c) (zero_e D)
  pub outside_G : (n a c : ℕ) → (InG m n a c → ⊥) → Means value (m.G n a c) (zero_e D)
  pub last_row : (n c : ℕ) → n < m.end → c < m.nu + m.nx → Means value (m.F n m.nx c) (zero_e D)
  pub corner : (n : ℕ) → n < m.end → Means value (m.F n m.nx (m.nu + m.nx)) (one_e D)
  pub mirror : (n a c : ℕ) → m.G n a c ≡ m.G n c a

abbrev pub place_mark : ℕ → ℕ → ℕ → ℕ → Mark
place_mark l n r c = record { level = l; stop = n; row = r; column = c }

abbrev pub F_mark : {A : Type 0} → Meaning A → ℕ → ℕ → ℕ → Mark
F_mark m n k c = place_mark m.level n k c

abbrev pub G_mark : {A : Type 0} → Meaning A → ℕ → ℕ → ℕ → Mark
G_mark m n a c = place_mark m.level n (min a c) (max a c)

pub data Marks {A : Type 0} (m : Meaning A) (e : Mark) : Type 0 where
  in_F : (n k c : ℕ) → m.F n k c ≡ marked e → Marks m e
  in_G : (n a c : ℕ) → m.G n a c ≡ marked e → Marks m e

abbrev pub Unmarked : {A : Type 0} → Meaning A → Type 0
Unmarked m = (e : Mark) → Marks m e → ⊥

pub record Own {A : Type 0} (m : Meaning A) : Type 0 where
  pub marks_F : (n k c : ℕ) (e : Mark) → m.F n k c ≡ marked e → e ≡ F_mark m n k c
  pub marks_G : (n a c : ℕ) (e : Mark) → m.G n a c ≡ marked e → e ≡ G_mark m n a c

pub record OwnOrBelow {A : Type 0} (m b : Meaning A) : Type 0 where
  pub marks_F : (n k c : ℕ) (e : Mark) → m.F n k c ≡ marked e → (e ≡ F_mark m n k c) ⊎ Marks b e
  pub marks_G : (n a c : ℕ) (e : Mark) → m.G n a c ≡ marked e → (e ≡ G_mark m n a c) ⊎ Marks b e

pub data Levelled {A : Type 0} : Meaning A → Type 0 where
  bottom : {m : Meaning A} → m.level ≡ 0 → Own m → Levelled m
  layer : {m b : Meaning A} → Levelled b → m.level ≡ min 255 (suc b.level) → OwnOrBelow m b → Levelled m
