-- What every step keeps, and so every run. Assumes nothing.
--
--   Inv v   where a study stands in a run: what holds of its gains sheet, its trail and its ledger at each stage
use Rattle.std.proofs.Common.{◌≡◌, ℕ, suc, ◌<◌, ◌≤◌, not, T, eqb, ◌≢◌, List, refl, ap, subst, ap₂, arith, eq-eqb}
use Rattle.control.specs.Line.{Line}
use Rattle.control.specs.Recursion.{PositivePivots}
use Rattle.numbers.specs.declared.Number.{Ghosts}
use Rattle.lines.specs.Meaning.{Meaning}
use Rattle.study_terms.specs.Shapes.{Shape, shape_of}
use Rattle.study_terms.specs.Formulas.{field}
use Rattle.study_terms.specs.Sheets.{at, exact_line, Gains}
use Rattle.study_terms.specs.Calls.{BeginGranted, ConfirmGranted}
use Rattle.study_terms.proofs.KindRows.{Laws}
use Rattle.study_theory.specs.Runs.{new, weighed, underway, ordered, Account, begun, confirmed, empty, entered, extended, Call, Reply, World, Step, weighs, begins, proposes, confirms, withdraws, tells_paid, tells_rest, tells_excess, abandons, closes, refuses_weigh, refuses, Run, fresh, step}
use Rattle.study_theory.proofs.Pivots.{positive_pivots}
use Rattle.study_theory.proofs.Following.{Follows, follows_begin, follows_confirm}

pub not_end : (k n : ℕ) → T (not (eqb k n)) → k ≢ n
not_end k n h e = subst (λ b. T (not b)) (eq-eqb k n e) h

module _ {A : Type 0} (N : Ghosts A) (laws : Laws N) (m : Meaning A) where
  open field N use {Car}
  open m use {end, nx, nu}

  abbrev L : Line (field N)
  L = exact_line N m

  abbrev s : Shape
  s = shape_of m

  -- after a granted weigh
  pub record WeighedSo (v : World N) : Type 0 where
    pub positive : PositivePivots L 0
    pub gains : Gains N m v.gains

  -- with the account a
  pub record EnteredSo (v : World N) (a : Account Car) : Type 0 where
    pub ledger : v.ledger ≡ entered a
    pub trail : Follows N laws m v.trail a
    pub sheet : WeighedSo v

  pub data Inv (v : World N) : Type 0 where
    is_new : v.stage ≡ new → v.ledger ≡ empty → Inv v
    is_weighed : v.stage ≡ weighed s → v.ledger ≡ empty → WeighedSo v → Inv v
    is_underway : (a : Account Car) → v.stage ≡ underway s a.stop → a.stop ≤ end → EnteredSo v a → Inv v
    is_ordered : (a : Account Car) → v.stage ≡ ordered s a.stop → a.stop < end → EnteredSo v a → Inv v

  -- stages differ
  from_new_lem : (v : World N) → Inv v → v.stage ≡ new → v.ledger ≡ empty
  from_new_lem v (is_new e l) h = l
  from_new_lem v (is_weighed e l w) h = l
  from_new_lem v (is_underway a e l w) h = let z : ◌≡◌ {A = ℕ} 0 1 = cc in absurd (omega arith)
  from_new_lem v (is_ordered a e l w) h = let z : ◌≡◌ {A = ℕ} 0 1 = cc in absurd (omega arith)

  pub from_weighed_lem : (v : World N) (t : Shape) → Inv v → v.stage ≡ weighed t → (t ≡ s) × WeighedSo v
  from_weighed_lem v t (is_new e l) h = let z : ◌≡◌ {A = ℕ} 0 1 = cc in absurd (omega arith)
  from_weighed_lem v t (is_weighed e l w) h = ((cc), w)
  from_weighed_lem v t (is_underway a e l w) h = let z : ◌≡◌ {A = ℕ} 0 1 = cc in absurd (omega arith)
  from_weighed_lem v t (is_ordered a e l w) h = let z : ◌≡◌ {A = ℕ} 0 1 = cc in absurd (omega arith)

  pub from_underway_lem : (v : World N) (t : Shape) (k : ℕ) → Inv v → v.stage ≡ underway t k
      → (a : Account Car) × (t ≡ s) × (k ≡ a.stop) × (a.stop ≤ end) × EnteredSo v a
  from_underway_lem v t k (is_new e l) h = let z : ◌≡◌ {A = ℕ} 0 1 = cc in absurd (omega arith)
  from_underway_lem v t k (is_weighed e l w) h = let z : ◌≡◌ {A = ℕ} 0 1 = cc in absurd (omega arith)
  from_underway_lem v t k (is_underway a e l w) h = (a, (cc), (cc), l, w)
  from_underway_lem v t k (is_ordered a e l w) h = let z : ◌≡◌ {A = ℕ} 0 1 = cc in absurd (omega arith)

  pub from_ordered_lem : (v : World N) (t : Shape) (k : ℕ) → Inv v → v.stage ≡ ordered t k
      → (a : Account Car) × (t ≡ s) × (k ≡ a.stop) × (a.stop < end) × EnteredSo v a
  from_ordered_lem v t k (is_new e l) h = let z : ◌≡◌ {A = ℕ} 0 1 = cc in absurd (omega arith)
  from_ordered_lem v t k (is_weighed e l w) h = let z : ◌≡◌ {A = ℕ} 0 1 = cc in absurd (omega arith)
  from_ordered_lem v t k (is_underway a e l w) h = let z : ◌≡◌ {A = ℕ} 0 1 = cc in absurd (omega arith)
  from_ordered_lem v t k (is_ordered a e l w) h = (a, (cc), (cc), l, w)

  keeps : (v w : World N) (c : Call) (r : Reply A) → Inv v → Step N m v w c r → Inv w
  keeps v _ _ _ i (weighs e h) = is_weighed refl (from_new_lem v i e) (record { positive = positive_pivots N m h.passes.1; gains = h.sheet })
  keeps v _ _ _ i (begins {s = t} {start = start} {trail' = trail'} e h) =
      let w = from_weighed_lem v t i e in
      is_underway (begun N (at N start)) (ap (λ t. underway t 0) w.0) (omega arith) (record {
        ledger = refl;
        trail = follows_begin N laws m start v.trail trail' (subst (λ t. BeginGranted N t start v.trail trail') w.0 h);
        sheet = record { positive = w.1.positive; gains = w.1.gains };
      })
  keeps v _ _ _ i (proposes {s = t} {k = k} e h) =
      let w = from_underway_lem v t k i e in
      let n = not_end k t.end h.passes.0 in
      let z = w.2 in
      let l = w.3 in
      let q : t.end ≡ end = ap (λ (t : Shape). t.end) w.1 in
      is_ordered w.0 (ap₂ ordered w.1 w.2) (omega arith) (record { ledger = w.4.ledger; trail = w.4.trail; sheet = record { positive = w.4.sheet.positive; gains = w.4.sheet.gains } })
  keeps v _ _ _ i (confirms {s = t} {k = k} {made = made} {trail' = trail'} e h) =
      let w = from_ordered_lem v t k i e in
      let l = w.3 in
      let z = w.2 in
      is_underway (confirmed w.0 (at N made)) (ap₂ (λ t k. underway t (suc k)) w.1 w.2) (omega arith) (record {
        ledger = ap (λ g. extended g (at N made)) w.4.ledger;
        trail = follows_confirm N laws m made v.trail trail' w.0
            (subst (λ k. ConfirmGranted N s m k made v.trail trail') w.2 (subst (λ t. ConfirmGranted N t m k made v.trail trail') w.1 h)) w.4.trail;
        sheet = record { positive = w.4.sheet.positive; gains = w.4.sheet.gains };
      })
  keeps v _ _ _ i (withdraws {s = t} {k = k} e) =
      let w = from_ordered_lem v t k i e in
      let l = w.3 in
      is_underway w.0 (ap₂ underway w.1 w.2) (omega arith) (record { ledger = w.4.ledger; trail = w.4.trail; sheet = record { positive = w.4.sheet.positive; gains = w.4.sheet.gains } })
  keeps v _ _ _ i (tells_paid e h) = i
  keeps v _ _ _ i (tells_rest e h) = i
  keeps v _ _ _ i (tells_excess e h) = i
  keeps v _ _ _ i (abandons {s = t} {k = k} e) =
      let w = from_underway_lem v t k i e in
      is_weighed (ap weighed w.1) refl (record { positive = w.4.sheet.positive; gains = w.4.sheet.gains })
  keeps v _ _ _ i (closes {s = t} {k = k} e h) =
      let w = from_underway_lem v t k i e in
      is_weighed (ap weighed w.1) refl (record { positive = w.4.sheet.positive; gains = w.4.sheet.gains })
  keeps v _ _ _ i (refuses_weigh line e h) = is_new e (from_new_lem v i e)
  keeps v _ _ _ i (refuses line gains trail h q) = i

  pub run_keeps : (h : List (Call × Reply A)) (v : World N) → Run N m h v → Inv v
  run_keeps _ _ (fresh gains trail) = is_new refl refl
  run_keeps _ w (step {v = v} {c = c} {r = r} run st) = keeps v w c r (run_keeps _ v run) st
