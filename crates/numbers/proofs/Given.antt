-- What the form of a row gives. Assumes nothing.
use Rattle.std.proofs.Common.{ℕ, ◌+◌, ◌*◌, ◌≤◌, ℤ, pos, nat_abs, ◌<ℤ◌, w64, SFits, to_z, of_z}
use Rattle.numbers.specs.Steps.{Room, Small}
use Rattle.numbers.specs.Forms.{Formed}
use Rattle.numbers.specs.declared.Parts.{Parts}
use Rattle.numbers.specs.Lowering.{form_above}
use Rattle.numbers.specs.Bounds.{small_words}
use Rattle.numbers.specs.RowSums.{Words, words, form_sizes, square_room}
use Rattle.numbers.proofs.RowProducts.{square_room'}

-- a part that fits a word and is so large at most
pub record Part (size : ℕ) (x : ℤ) : Type 0 where
  pub fits : SFits w64 x
  pub size_is : nat_abs x ≤ size

pub record Given (size : ℕ) (row : Parts) : Type 0 where
  pub p : Part size row.p
  pub q : Part size row.q
  pub m : Part size row.m
  pub fits : Words row
  pub above : pos 0 <ℤ row.m

pub given : (D size : ℕ) (row : Parts) → Room ((D + 1) * (size * size)) → Formed D size row → Given size row
given D size row room f =
    let s = form_sizes size row f.0 in
    let w = words size row (square_room size (square_room' D size room)) s in
    record {
      p = record { fits = w.p_fits; size_is = s.p_size };
      q = record { fits = w.q_fits; size_is = s.q_size };
      m = record { fits = w.m_fits; size_is = s.m_size };
      fits = w;
      above = form_above size row f.0;
    }

-- two rows of the form, whose parts have room for their products
pub record Pair (size : ℕ) (a b : Parts) : Type 0 where
  pub left : Given size a
  pub right : Given size b
  pub room : Room (size * size)

pub pair : (D size : ℕ) (a b : Parts) → Room ((D + 1) * (size * size)) → Formed D size a → Formed D size b → Pair size a b
pair D size a b room f g = record { left = given D size a room f; right = given D size b room g; room = square_room' D size room }

-- the product of two such parts has room, as they are passed in words
pub product_room : {A B : ℕ} {x y : ℤ} → Part A x → Part B y → Room (A * B) → Small (to_z w64 (of_z w64 x)) (to_z w64 (of_z w64 y))
product_room {A} {B} {x} {y} a b r = small_words A B x y a.fits b.fits r a.size_is b.size_is
