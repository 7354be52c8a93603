-- What holds of every run of a study, in exact numbers, from the line and the ledger alone. N is a kind of number with the values A, m the line
-- of the run. Assumes nothing.
--
--   late m a               the lateness where the account a stands
--   confirmed_cost m a     the cost of the confirmed stops
--   confirmed_excess m a   the sum over the confirmed adjustments of pivot × gap²
--   AccountLaw m v a       what holds of the account a in the world v, from begin until abandon or close
--   Granted r              the reply r is none of a refusal
--   WorldLaw m v           what holds in the world v
--   Decided N              every call's checks pass or are refused, not both, and with one refusal only: so a call is granted exactly where no
--                          refusal is named
--   Accepts m              a weigh that ends in acceptance or in the refusal of a pivot accepts exactly when some start has one list of
--                          adjustments cheaper than all others
--   StudyLaw N m find      all of this, of every run; and a train that stands in several feeds weighs once: for every list of byte strings read
--                          in turn into a new book, granted or refused, the trains layer over every line, under any pile of layers, adds the
--                          weight of each stop and label of the granted feeds once. `find` is the kind's search for the value of a number
use Rattle.std.specs.Prelude.{◌≡◌, ℕ, ◌<◌, ◌≤◌, ◌≢◌, ◌⊎◌, ◌↔◌, List, ℤ, Option}
use Rattle.control.specs.Line.{Line, lateness}
use Rattle.control.specs.Line as line
use Rattle.control.specs.Recursion as recursion
use Rattle.control.specs.Plan.{plan}
use Rattle.control.specs.Optimality.{Cheapest, LeastCost}
use Rattle.numbers.specs.declared.Number.{Ghosts}
use Rattle.numbers.specs.declared.Parts.{Parts}
use Rattle.lines.specs.Meaning.{Meaning}
use Rattle.train_theory.specs.Weighing.{TrainsWeighOnce}
use Rattle.study_terms.specs.declared.faults.kinds.StudyFault.{StudyFault}
use Rattle.study_terms.specs.Shapes.{Shape, shape_of}
use Rattle.study_terms.specs.Refusals.{Refusal, pivot_refusal, refusal}
use Rattle.study_terms.specs.Formulas.{field}
use Rattle.study_terms.specs.Checks.{Checks, Passes, RefusedWith}
use Rattle.study_terms.specs.Sheets.{at, exact_line, Gains}
use Rattle.study_terms.specs.Weighing.{weigh_checks}
use Rattle.study_theory.specs.Runs.{new, weighed, underway, ordered, Account, empty, entered, Call, propose, paid, rest, excess, Reply, done, told, wrote, refused, World, Asks, Step, Run}

abbrev pub Granted : {A : Type 0} → Reply A → Type 0
Granted done = Unit {0}
Granted (told x) = Unit {0}
Granted (wrote slip) = Unit {0}
Granted (refused e) = ⊥

module _ {A : Type 0} (N : Ghosts A) where
  infixl 60 ◌⊕◌
  open field N use {Car, ◌⊕◌}

  pub record Decided : Type 0 where
    pub either : (d : Checks A Car) → Passes N d ⊎ ((r : Refusal) × RefusedWith N d r)
    pub not_both : (d : Checks A Car) (r : Refusal) → Passes N d → RefusedWith N d r → ⊥
    pub one_refusal : (d : Checks A Car) (r q : Refusal) → RefusedWith N d r → RefusedWith N d q → r ≡ q

  module _ (m : Meaning A) where
    abbrev pub late : Account Car → ℕ → Car
    late a = lateness (exact_line N m) 0 a.made a.start a.stop

    abbrev pub confirmed_cost : Account Car → Car
    confirmed_cost a = line.paid (exact_line N m) a.stop 0 a.made a.start

    abbrev pub confirmed_excess : Account Car → Car
    confirmed_excess a = recursion.excess (exact_line N m) a.stop 0 a.made a.start

    pub record AccountLaw (v : World N) (a : Account Car) : Type 0 where
      pub inside : a.stop ≤ m.end
      pub balance : (here start : Car) → LeastCost (exact_line N m) a.stop (late a) here → LeastCost (exact_line N m) 0 a.start start
          → confirmed_cost a ⊕ here ≡ start ⊕ confirmed_excess a
      pub least_here : (y : Car) × LeastCost (exact_line N m) a.stop (late a) y
      pub least_at_start : (y : Car) × LeastCost (exact_line N m) 0 a.start y
      pub says_paid : (w : World N) (x : A) → Step N m v w paid (told x) → N.value x ≡ confirmed_cost a
      pub says_rest : (w : World N) (x : A) → Step N m v w rest (told x) → LeastCost (exact_line N m) a.stop (late a) (N.value x)
      pub says_excess : (w : World N) (x : A) → Step N m v w excess (told x) → N.value x ≡ confirmed_excess a
      pub says_plan : (w : World N) (slip slip' : List Parts) → Step N m v w (propose slip) (wrote slip')
          → (i : ℕ) → i < m.nu → at N slip' i ≡ plan (exact_line N m) a.stop (late a) 0 i

    pub record WorldLaw (v : World N) : Type 0 where
      pub no_account : (v.stage ≡ new) ⊎ ((s : Shape) × (v.stage ≡ weighed s)) → v.ledger ≡ empty
      pub one_account : (s : Shape) (k : ℕ) → (v.stage ≡ underway s k) ⊎ (v.stage ≡ ordered s k)
          → (a : Account Car) × (v.ledger ≡ entered a) × (a.stop ≡ k) × (s ≡ shape_of m)
      pub account : (a : Account Car) → v.ledger ≡ entered a → AccountLaw v a
      pub gains : v.stage ≢ new → Gains N m v.gains
      pub best : v.stage ≢ new → (n : ℕ) (x : ℕ → Car) → n ≤ m.end → Cheapest (exact_line N m) n x (plan (exact_line N m) n x)
      pub granted : (w : World N) (c : Call) (r : Reply A) → Step N m v w c r → Granted r
          → (d : Checks A Car) → Asks N m v.gains v.trail v.stage c d → Passes N d
      pub refusals : (w : World N) (c : Call) (e : StudyFault) → Step N m v w c (refused e)
          → (other : Meaning A) × (gains : List Parts) × (trail : List Parts) × (d : Checks A Car) × Asks N other gains trail v.stage c d × RefusedWith N d (refusal e)

    abbrev pub Accepts : Type 0
    Accepts =
        (g h : ℕ) → Passes N (weigh_checks N m g h) ⊎ ((n : ℕ) × (i : ℕ) × RefusedWith N (weigh_checks N m g h) (pivot_refusal n i))
        → Passes N (weigh_checks N m g h) ↔ ((x : ℕ → Car) × (us : ℕ → ℕ → Car) × Cheapest (exact_line N m) 0 x us)

    pub record StudyLaw (find : ℤ → ℤ → ℕ → Option A) : Type 0 where
      pub every_run : (h : List (Call × Reply A)) (v : World N) → Run N m h v → WorldLaw v
      pub decided : Decided
      pub accepts : Accepts
      pub trains : TrainsWeighOnce N.good N.value find
