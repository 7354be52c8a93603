-- The aims, and the line with aims over the line below. Assumes nothing.
--
--   aim ts n k                   the aim of state k at stop n, of the lists ts: one of four for each of the stops 0 to 24, and 0 elsewhere
--   raised l                     the level of a layer over a line of level l: one more, but at most 255
--   column .. n a last first j   the entry of row a and of the constant's column `last`, less the first j states' entries times their aims;
--                                the states' columns begin at `first`
--   corner .. n last first j     the constant's own entry, less (new + old entry of the state and the constant) × aim of the first j states
--   aims_line value find t b     the line with the aims t over the line b: G's last row and column change, all else is as below
--   Settable b n k v             an aim v may be set at stop n for state k: n is at most N and 24, k is below nx and 4, v is within ±999
--   Replaced ts ts' n k v        the aims ts' are ts with v at stop n, state k
--   aim_fault f                  the number of the refusal: 6
use Rattle.std.specs.Prelude.{◌≡◌, ℕ, zero, suc, ◌+◌, ◌-◌, ◌<◌, ◌≤◌, min, max, cond, ◌&&◌, ◌≢◌, ◌⊎◌, List, [], ℤ, pos, Option, ◌==◌, nat_lt, slice_index_or, unsigned_abs}
use Rattle.algebra.specs.Exact.{Exact, add_e}
use Rattle.lines.specs.Kinds.{entry_of}
use Rattle.lines.specs.Laws.{place_mark}
use Rattle.lines.specs.Meaning.{Entry, Meaning, order}
use Rattle.lines.specs.Whole.{cell}
use Rattle.lines.specs.declared.faults.Mark.{Mark}
use Rattle.aims.specs.declared.faults.AimFault.{AimFault}
use Rattle.aims.specs.declared.faults.AimFault.TheVariants.{BadAim}
use Rattle.aims.specs.Entries.{after, less}

abbrev pub aim : List (List ℤ) → ℕ → ℕ → ℤ
aim ts n k = cond (nat_lt n 25 && nat_lt k 4) (cell (slice_index_or ts n []) k) (pos 0)

abbrev pub raised : ℕ → ℕ
raised l = min 255 (suc l)

abbrev pub states_aimed : ℕ → ℕ
states_aimed nx = min nx 4

module _ {A : Type 0} {D : ℕ} (value : A → Exact D) (find : ℤ → ℤ → ℕ → Option A) (t : ℕ → ℕ → ℤ) (b : Meaning A) where
  -- s less the entry of row a and state j times its aim
  abbrev pub column_less : Mark → ℕ → ℕ → ℕ → ℕ → A → Entry A
  column_less m n a first j s = after (b.G n a (first + j)) (λ e. less value find m s e (t n j))

  abbrev pub column : Mark → ℕ → ℕ → ℕ → ℕ → ℕ → Entry A
  column m n a last first zero = b.G n a last
  column m n a last first (suc j) = after (column m n a last first j) (column_less m n a first j)

  -- s less the new and the old entry of state j and the constant, times its aim
  abbrev pub corner_less : Mark → ℕ → ℕ → ℕ → ℕ → A → Entry A
  corner_less m n last first j s =
      after (column m n (first + j) last first (states_aimed b.nx)) (λ new.
      after (b.G n (first + j) last) (λ old.
      after (entry_of find m (add_e (value new) (value old))) (λ both. less value find m s both (t n j))))

  abbrev pub corner : Mark → ℕ → ℕ → ℕ → ℕ → Entry A
  corner m n last first zero = b.G n last last
  corner m n last first (suc j) = after (corner m n last first j) (corner_less m n last first j)

  -- of a place in the constant's row or column, by its row above the diagonal
  abbrev pub bordered : Mark → ℕ → ℕ → ℕ → Entry A
  bordered m n a last =
      cond (a == last) (corner m n last (last - b.nx) (states_aimed b.nx)) (column m n a last (last - b.nx) (states_aimed b.nx))

  abbrev pub aims_line : Meaning A
  aims_line = record {
    end = b.end;
    nx = b.nx;
    nu = b.nu;
    level = raised b.level;
    F = b.F;
    G = λ n a c.
        cond (suc (max a c) == order b n)
        (bordered (place_mark (raised b.level) n (min a c) (max a c)) n (min a c) (max a c))
        (b.G n a c);
  }

pub record Settable {A : Type 0} (b : Meaning A) (n k : ℕ) (v : ℤ) : Type 0 where
  pub stop : (n ≤ b.end) × (n ≤ 24)
  pub state : (k < b.nx) × (k < 4)
  pub size : unsigned_abs v ≤ 999

pub record Replaced (ts ts' : List (List ℤ)) (n k : ℕ) (v : ℤ) : Type 0 where
  pub here : aim ts' n k ≡ v
  pub elsewhere : (i j : ℕ) → (i ≢ n) ⊎ (j ≢ k) → aim ts' i j ≡ aim ts i j

abbrev pub aim_fault : AimFault → ℕ
aim_fault BadAim = 6
