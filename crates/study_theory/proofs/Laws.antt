-- The law over the runs of a study. Assumes nothing.
use Rattle.std.proofs.Common.{◌≡◌, ℕ, ◌+◌, ◌<◌, ◌≤◌, ◌≢◌, ◌⊎◌, List, length, ℤ, Option, sym, ap, ◌∙◌, subst, ap₂, inl, inr, arith}
use Rattle.control.specs.Line.{Line, Lawful}
use Rattle.control.specs.Recursion.{value, PositivePivots}
use Rattle.control.specs.Plan.{plan, solve}
use Rattle.control.specs.Optimality.{LeastCost}
use Rattle.control.proofs.Plans.{best_plan_lem, least_account}
use Rattle.numbers.specs.declared.Number.{Ghosts}
use Rattle.numbers.specs.declared.Parts.{Parts}
use Rattle.lines.specs.Kinds.{Finds}
use Rattle.lines.specs.Meaning.{Meaning}
use Rattle.train_theory.proofs.Weighing.{trains_weigh_once_lem}
use Rattle.study_terms.specs.declared.faults.kinds.StudyFault.{StudyFault}
use Rattle.study_terms.specs.Shapes.{Shape, shape_of}
use Rattle.study_terms.specs.Refusals.{refusal}
use Rattle.study_terms.specs.Formulas.{field}
use Rattle.study_terms.specs.Checks.{Checks, Passes, RefusedWith}
use Rattle.study_terms.specs.Sheets.{at, exact_line, gains_at, x_at}
use Rattle.study_terms.specs.Weighing.{by_a_test, by_a_step, WeighRefused, weigh_checks}
use Rattle.study_terms.specs.Calls.{planned, paid_at, rest_at, excess_at, begin_checks, propose_checks, confirm_checks, paid_checks, rest_checks, excess_checks, close_checks}
use Rattle.study_terms.proofs.KindRows.{Laws, written_reads}
use Rattle.study_theory.specs.Runs.{new, weighed, underway, ordered, Account, empty, entered, Call, propose, paid, rest, excess, Reply, told, wrote, refused, World, Asks, asks_weigh, asks_begin, asks_propose, asks_confirm, asks_withdraw, asks_paid, asks_rest, asks_excess, asks_abandon, asks_close, Step, weighs, begins, proposes, confirms, withdraws, tells_paid, tells_rest, tells_excess, abandons, closes, refuses_weigh, refuses}
use Rattle.study_theory.specs.Law.{Granted, late, confirmed_cost, confirmed_excess, AccountLaw, WorldLaw, StudyLaw}
use Rattle.study_theory.proofs.Outcomes.{not_both_ways, one_refusal, either_way}
use Rattle.study_theory.proofs.Pivots.{accepts}
use Rattle.study_theory.proofs.Following.{value_same, solve_same, paid_is, rest_is, plan_is, excess_is}
use Rattle.study_theory.proofs.Keeping.{not_end, Inv, is_new, is_weighed, is_underway, is_ordered, WeighedSo, EnteredSo, from_underway_lem, run_keeps}

module _ {A : Type 0} (N : Ghosts A) (laws : Laws N) (m : Meaning A) where
  infixl 60 ◌⊕◌
  open field N use {Car, 𝟘, ◌⊕◌}
  open m use {end, nx, nu}

  abbrev L : Line (field N)
  L = exact_line N m

  abbrev s : Shape
  s = shape_of m

  -- a granted call's checks, on the line and sheets of the run, pass
  granted_passes : (v w : World N) (c : Call) (r : Reply A) → Step N m v w c r → Granted r → (d : Checks A Car) → Asks N m v.gains v.trail v.stage c d → Passes N d
  granted_passes v _ _ _ (weighs e h) g _ (asks_weigh z) = h.passes
  granted_passes v _ _ _ (begins {s = t} {start = start} e h) g _ (asks_begin {s = p} z) =
      let q : t ≡ p = cc in subst (λ t. Passes N (begin_checks N t (length start) (length v.trail))) q h.passes
  granted_passes v _ _ _ (proposes {s = t} {k = k} {slip = slip} e h) g _ (asks_propose {s = p} {k = n} z) =
      let q : t ≡ p = cc in
      let o : k ≡ n = cc in
      subst (λ k. Passes N (propose_checks N p k v.gains v.trail (length slip))) o
      (subst (λ t. Passes N (propose_checks N t k v.gains v.trail (length slip))) q h.passes)
  granted_passes v _ _ _ (confirms {s = t} {k = k} {made = made} e h) g _ (asks_confirm {s = p} {k = n} z) =
      let q : t ≡ p = cc in
      let o : k ≡ n = cc in
      subst (λ k. Passes N (confirm_checks N p m k made v.trail)) o
      (subst (λ t. Passes N (confirm_checks N t m k made v.trail)) q h.passes)
  granted_passes v _ _ _ (withdraws e) g _ (asks_withdraw z) = tt
  granted_passes v _ _ _ (tells_paid {s = t} {k = k} e h) g _ (asks_paid {s = p} {k = n} z) =
      let q : t ≡ p = cc in
      let o : k ≡ n = cc in
      subst (λ k. Passes N (paid_checks N p m k v.trail)) o
      (subst (λ t. Passes N (paid_checks N t m k v.trail)) q h.passes)
  granted_passes v _ _ _ (tells_rest {s = t} {k = k} e h) g _ (asks_rest {s = p} {k = n} z) =
      let q : t ≡ p = cc in
      let o : k ≡ n = cc in
      subst (λ k. Passes N (rest_checks N p k v.gains v.trail)) o
      (subst (λ t. Passes N (rest_checks N t k v.gains v.trail)) q h.passes)
  granted_passes v _ _ _ (tells_excess {s = t} {k = k} e h) g _ (asks_excess {s = p} {k = n} z) =
      let q : t ≡ p = cc in
      let o : k ≡ n = cc in
      subst (λ k. Passes N (excess_checks N p k v.gains v.trail)) o
      (subst (λ t. Passes N (excess_checks N t k v.gains v.trail)) q h.passes)
  granted_passes v _ _ _ (abandons e) g _ (asks_abandon z) = tt
  granted_passes v _ _ _ (closes {s = t} {k = k} e h) g _ (asks_close {s = p} {k = n} z) =
      let q : t ≡ p = cc in
      let o : k ≡ n = cc in
      subst (λ k. Passes N (close_checks N p k)) o (subst (λ t. Passes N (close_checks N t k)) q h)
  granted_passes v _ _ _ (refuses_weigh line e h) g d a = absurd g
  granted_passes v _ _ _ (refuses line gains trail h q) g d a = absurd g

  refused_weigh : (line : Meaning A) (e : StudyFault) (gains gains' scratch scratch' : List Parts) → WeighRefused N line (refusal e) gains gains' scratch scratch'
      → RefusedWith N (weigh_checks N line (length gains) (length scratch)) (refusal e)
  refused_weigh line e gains gains' scratch scratch' (by_a_test h p q) = inl h
  refused_weigh line e gains gains' scratch scratch' (by_a_step p h b c) = inr (p, h)

  refusal_checks : (v w : World N) (c : Call) (e : StudyFault) → Step N m v w c (refused e)
      → (other : Meaning A) × (gains : List Parts) × (trail : List Parts) × (d : Checks A Car) × Asks N other gains trail v.stage c d × RefusedWith N d (refusal e)
  refusal_checks v _ _ _ (refuses_weigh line {scratch = scratch} {scratch' = scratch'} {gains' = gains'} {e = e} z h) =
      (line, v.gains, v.trail, _, asks_weigh z, refused_weigh line e v.gains gains' scratch scratch' h)
  refusal_checks v _ _ _ (refuses line gains trail {d = d} a h) = (line, gains, trail, d, a, h)

  module _ (lawful : Lawful L) where
    least : PositivePivots L 0 → (n : ℕ) (x : ℕ → Car) → n ≤ end → LeastCost L n x (value L n x)
    least p n x l =
        let b = best_plan_lem L lawful n x l (λ k i h q t. p k i (omega arith) q t) in
        record { list = plan L n x; cheapest = b.plan_cheapest; its_cost = sym b.plan_cost }

    module _ (v : World N) (a : Account Car) (l : a.stop ≤ end) (h : EnteredSo N laws m v a) where
      positive : PositivePivots L 0
      positive = h.sheet.positive

      near : (j : ℕ) → j < nx → x_at N s v.trail a.stop j ≡ late N m a j
      near j q = h.trail.x a.stop j (omega arith) q

      -- the account of the ledger is the one that the stage speaks of
      said : (t : Shape) (k : ℕ) → Inv N laws m v → v.stage ≡ underway t k → (t ≡ s) × (k ≡ a.stop)
      said t k i e =
          let w = from_underway_lem N laws m v t k i e in
          let z : w.0 ≡ a = (let p = w.4.ledger in let q = h.ledger in cc) in
          (w.1, w.2 ∙ ap (λ (a : Account Car). a.stop) z)

      module _ (i : Inv N laws m v) where
        says_paid : (w : World N) (x : A) → Step N m v w paid (told x) → N.value x ≡ confirmed_cost N m a
        says_paid _ x (tells_paid {s = t} {k = k} e g) =
            let z = said t k i e in
            g.answer ∙ ap₂ (λ t k. paid_at N t m v.trail k) z.0 z.1 ∙ paid_is N laws m v.trail a h.trail

        says_rest : (w : World N) (x : A) → Step N m v w rest (told x) → LeastCost L a.stop (late N m a) (N.value x)
        says_rest _ x (tells_rest {s = t} {k = k} e g) =
            let z = said t k i e in
            let y : N.value x ≡ value L a.stop (late N m a) =
            g.answer ∙ ap₂ (λ t k. rest_at N t v.gains v.trail k) z.0 z.1 ∙ rest_is N laws m v.gains h.sheet.gains v.trail a.stop l
            ∙ value_same N laws m a.stop _ _ near in
            subst (LeastCost L a.stop (late N m a)) (sym y) (least positive a.stop (late N m a) l)

        says_excess : (w : World N) (x : A) → Step N m v w excess (told x) → N.value x ≡ confirmed_excess N m a
        says_excess _ x (tells_excess {s = t} {k = k} e g) =
            let z = said t k i e in
            g.answer ∙ ap₂ (λ t k. excess_at N t v.gains v.trail k) z.0 z.1 ∙ excess_is N laws m v.gains h.sheet.gains v.trail a l h.trail

        says_plan : (w : World N) (slip slip' : List Parts) → Step N m v w (propose slip) (wrote slip') → (j : ℕ) → j < nu → at N slip' j ≡ plan L a.stop (late N m a) 0 j
        says_plan _ slip slip' (proposes {s = t} {k = k} e g) j q =
            let z = said t k i e in
            let n = not_end k t.end g.passes.0 in
            let ee : t.end ≡ end = ap (λ (t : Shape). t.end) z.0 in
            let en : t.nu ≡ nu = ap (λ (t : Shape). t.nu) z.0 in
            let ek = z.1 in
            let o : a.stop ≡ a.stop + 0 = omega arith in
            written_reads N laws _ _ (g.plan j (omega arith))
            ∙ ap₂ (λ t k. planned N t (gains_at N t v.gains k) (x_at N t v.trail k) j) z.0 z.1
            ∙ ap (λ (f : ℕ → Car). f j) (plan_is N laws m v.gains h.sheet.gains a.stop (x_at N s v.trail a.stop) (omega arith))
            ∙ ap (λ (f : ℕ → Car). f j) (solve_same N laws m a.stop _ _ near)
            ∙ ap (λ k. solve L k (λ _. 𝟘) (late N m a) j) o

        account_law : AccountLaw N m v a
        account_law = record {
          inside = l;
          balance = λ here start p q.
              let z : 0 + a.stop ≡ a.stop = omega arith in
              least_account L lawful a.stop 0 a.made a.start (omega arith) positive here start (subst (λ k. LeastCost L k (late N m a) here) (sym z) p) q;
          least_here = (value L a.stop (late N m a), least positive a.stop (late N m a) l);
          least_at_start = (value L 0 a.start, least positive 0 a.start (omega arith));
          says_paid = says_paid;
          says_rest = says_rest;
          says_excess = says_excess;
          says_plan = says_plan;
        }

    -- the stage's part of the law
    account_of : (v : World N) → Inv N laws m v → (a : Account Car) → v.ledger ≡ entered a → AccountLaw N m v a
    account_of v (is_new e l) a h = let z : ◌≡◌ {A = ℕ} 0 1 = cc in absurd (omega arith)
    account_of v (is_weighed e l w) a h = let z : ◌≡◌ {A = ℕ} 0 1 = cc in absurd (omega arith)
    account_of v (is_underway b e l w) a h =
        let z : b ≡ a = (let p = w.ledger in cc) in subst (AccountLaw N m v) z (account_law v b l w (is_underway b e l w))
    account_of v (is_ordered b e l w) a h =
        let z : b ≡ a = (let p = w.ledger in cc) in subst (AccountLaw N m v) z (account_law v b (omega arith) w (is_ordered b e l w))

    sheet_of : (v : World N) → Inv N laws m v → v.stage ≢ new → WeighedSo N laws m v
    sheet_of v (is_new e l) h = absurd (h e)
    sheet_of v (is_weighed e l w) h = w
    sheet_of v (is_underway a e l w) h = w.sheet
    sheet_of v (is_ordered a e l w) h = w.sheet

    no_account : (v : World N) → Inv N laws m v → (v.stage ≡ new) ⊎ ((t : Shape) × (v.stage ≡ weighed t)) → v.ledger ≡ empty
    no_account v (is_new e l) h = l
    no_account v (is_weighed e l w) h = l
    no_account v (is_underway a e l w) (inl h) = let z : ◌≡◌ {A = ℕ} 0 1 = cc in absurd (omega arith)
    no_account v (is_underway a e l w) (inr (t, h)) = let z : ◌≡◌ {A = ℕ} 0 1 = cc in absurd (omega arith)
    no_account v (is_ordered a e l w) (inl h) = let z : ◌≡◌ {A = ℕ} 0 1 = cc in absurd (omega arith)
    no_account v (is_ordered a e l w) (inr (t, h)) = let z : ◌≡◌ {A = ℕ} 0 1 = cc in absurd (omega arith)

    one_account : (v : World N) → Inv N laws m v → (t : Shape) (k : ℕ) → (v.stage ≡ underway t k) ⊎ (v.stage ≡ ordered t k)
        → (a : Account Car) × (v.ledger ≡ entered a) × (a.stop ≡ k) × (t ≡ s)
    one_account v (is_new e l) t k (inl h) = let z : ◌≡◌ {A = ℕ} 0 1 = cc in absurd (omega arith)
    one_account v (is_new e l) t k (inr h) = let z : ◌≡◌ {A = ℕ} 0 1 = cc in absurd (omega arith)
    one_account v (is_weighed e l w) t k (inl h) = let z : ◌≡◌ {A = ℕ} 0 1 = cc in absurd (omega arith)
    one_account v (is_weighed e l w) t k (inr h) = let z : ◌≡◌ {A = ℕ} 0 1 = cc in absurd (omega arith)
    one_account v (is_underway a e l w) t k (inl h) = (a, w.ledger, (cc), (cc))
    one_account v (is_underway a e l w) t k (inr h) = let z : ◌≡◌ {A = ℕ} 0 1 = cc in absurd (omega arith)
    one_account v (is_ordered a e l w) t k (inl h) = let z : ◌≡◌ {A = ℕ} 0 1 = cc in absurd (omega arith)
    one_account v (is_ordered a e l w) t k (inr h) = (a, w.ledger, (cc), (cc))

    world_law : (v : World N) → Inv N laws m v → WorldLaw N m v
    world_law v i = record {
      no_account = no_account v i;
      one_account = one_account v i;
      account = account_of v i;
      gains = λ h. (sheet_of v i h).gains;
      best = λ h n x l. (best_plan_lem L lawful n x l (λ k j p q t. (sheet_of v i h).positive k j (omega arith) q t)).plan_cheapest;
      granted = granted_passes v;
      refusals = refusal_checks v;
    }

    pub study_law : (find : ℤ → ℤ → ℕ → Option A) → Finds N.value find → StudyLaw N m find
    study_law find finds = record {
      every_run = λ h v run. world_law v (run_keeps N laws m h v run);
      decided = record { either = either_way N find finds; not_both = not_both_ways N; one_refusal = one_refusal N };
      accepts = accepts N m lawful;
      trains = trains_weigh_once_lem N.good N.value find finds;
    }
