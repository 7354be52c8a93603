-- Whole runs of a study: its calls one after the other, each granted or refused, and the ledger that the statements keep. N is a kind of number
-- with the values A, m the line of the run. Assumes nothing.
--
--   Stage                            where a study is: new, weighed, underway at a stop, ordered at a stop
--   Account                          a start, how many stops are confirmed since (stop), and the adjustments made at each (made)
--   Ledger                           empty, or an account that is entered; it is told the arguments of calls and whether they were granted, and nothing else
--   begun N x                        the account that begins with the start x; confirmed a u: with the adjustments u at one stop more
--   Call                             one of the ten calls with its arguments other than the line, the gains sheet and the trail
--   Reply                            done, the number told, the slip written, or the fault of a refusal
--   World N                          stage, gains sheet, trail and ledger
--   Asks N m gains trail stage c d   in this stage the call c may be made, and with this line and these sheets it makes the checks d
--   Allowed stage c                  in this stage the call c may be made
--   Step N m v w c r                 the call c, replied to by r, leads from the world v to w. Granted calls share the line m, the gains sheet and the trail
--                                    of the run; a refused one may have got a line and sheets of its own, and is refused by its checks on these
--   Run N m h v                      the steps of h, the newest first, lead from a new study to v
use Rattle.std.specs.Prelude.{◌≡◌, ℕ, suc, List, [], ◌∷◌, length}
use Rattle.control.specs.Matrix.{put}
use Rattle.numbers.specs.declared.Number.{Ghosts}
use Rattle.numbers.specs.declared.Parts.{Parts}
use Rattle.lines.specs.Meaning.{Meaning}
use Rattle.study_terms.specs.declared.faults.kinds.StudyFault.{StudyFault}
use Rattle.study_terms.specs.Shapes.{Shape, shape_of}
use Rattle.study_terms.specs.Refusals.{refusal}
use Rattle.study_terms.specs.Formulas.{field}
use Rattle.study_terms.specs.Checks.{Checks, none, Passes, RefusedWith}
use Rattle.study_terms.specs.Sheets.{at}
use Rattle.study_terms.specs.Weighing.{weigh_checks, WeighGranted, WeighRefused}
use Rattle.study_terms.specs.Calls.{begin_checks, propose_checks, confirm_checks, paid_checks, rest_checks, excess_checks, close_checks, BeginGranted, ProposeGranted, ConfirmGranted, AnswerGranted, paid_at, rest_at, excess_at}

pub data Stage : Type 0 where
  new : Stage
  weighed : Shape → Stage
  underway : Shape → ℕ → Stage
  ordered : Shape → ℕ → Stage

pub record Account (C : Type 0) : Type 0 where
  pub start : ℕ → C
  pub stop : ℕ
  pub made : ℕ → ℕ → C

pub data Ledger (C : Type 0) : Type 0 where
  empty : Ledger C
  entered : Account C → Ledger C

abbrev pub confirmed : {C : Type 0} → Account C → (ℕ → C) → Account C
confirmed a u = record { start = a.start; stop = suc a.stop; made = put a.stop u a.made }

-- with the adjustments of one stop more
abbrev pub extended : {C : Type 0} → Ledger C → (ℕ → C) → Ledger C
extended empty u = empty
extended (entered a) u = entered (confirmed a u)

pub data Call : Type 0 where
  weigh : (scratch : List Parts) → Call
  begin : (start : List Parts) → Call
  propose : (slip : List Parts) → Call
  confirm : (made : List Parts) → Call
  withdraw paid rest excess abandon close : Call

pub data Reply (A : Type 0) : Type 0 where
  done : Reply A
  told : A → Reply A
  wrote : List Parts → Reply A
  refused : StudyFault → Reply A

pub record WorldOf (C : Type 0) : Type 0 where
  pub stage : Stage
  pub gains : List Parts
  pub trail : List Parts
  pub ledger : Ledger C

pub data Allowed (stage : Stage) : Call → Type 0 where
  may_weigh : {scratch : List Parts} → stage ≡ new → Allowed stage (weigh scratch)
  may_begin : {start : List Parts} {s : Shape} → stage ≡ weighed s → Allowed stage (begin start)
  may_propose : {slip : List Parts} {s : Shape} {k : ℕ} → stage ≡ underway s k → Allowed stage (propose slip)
  may_confirm : {made : List Parts} {s : Shape} {k : ℕ} → stage ≡ ordered s k → Allowed stage (confirm made)
  may_withdraw : {s : Shape} {k : ℕ} → stage ≡ ordered s k → Allowed stage withdraw
  may_ask_paid : {s : Shape} {k : ℕ} → stage ≡ underway s k → Allowed stage paid
  may_ask_rest : {s : Shape} {k : ℕ} → stage ≡ underway s k → Allowed stage rest
  may_ask_excess : {s : Shape} {k : ℕ} → stage ≡ underway s k → Allowed stage excess
  may_abandon : {s : Shape} {k : ℕ} → stage ≡ underway s k → Allowed stage abandon
  may_close : {s : Shape} {k : ℕ} → stage ≡ underway s k → Allowed stage close

module _ {A : Type 0} (N : Ghosts A) where
  open field N use {Car, 𝟘}

  abbrev pub World : Type 0
  World = WorldOf Car

  abbrev pub begun : (ℕ → Car) → Account Car
  begun x = record { start = x; stop = 0; made = λ _ _. 𝟘 }

  pub data Asks (m : Meaning A) (gains trail : List Parts) (stage : Stage) : Call → Checks A Car → Type 0 where
    asks_weigh : {scratch : List Parts} → stage ≡ new → Asks m gains trail stage (weigh scratch) (weigh_checks N m (length gains) (length scratch))
    asks_begin : {start : List Parts} {s : Shape} → stage ≡ weighed s → Asks m gains trail stage (begin start) (begin_checks N s (length start) (length trail))
    asks_propose : {slip : List Parts} {s : Shape} {k : ℕ} → stage ≡ underway s k → Asks m gains trail stage (propose slip) (propose_checks N s k gains trail (length slip))
    asks_confirm : {made : List Parts} {s : Shape} {k : ℕ} → stage ≡ ordered s k → Asks m gains trail stage (confirm made) (confirm_checks N s m k made trail)
    asks_withdraw : {s : Shape} {k : ℕ} → stage ≡ ordered s k → Asks m gains trail stage withdraw none
    asks_paid : {s : Shape} {k : ℕ} → stage ≡ underway s k → Asks m gains trail stage paid (paid_checks N s m k trail)
    asks_rest : {s : Shape} {k : ℕ} → stage ≡ underway s k → Asks m gains trail stage rest (rest_checks N s k gains trail)
    asks_excess : {s : Shape} {k : ℕ} → stage ≡ underway s k → Asks m gains trail stage excess (excess_checks N s k gains trail)
    asks_abandon : {s : Shape} {k : ℕ} → stage ≡ underway s k → Asks m gains trail stage abandon none
    asks_close : {s : Shape} {k : ℕ} → stage ≡ underway s k → Asks m gains trail stage close (close_checks N s k)

  module _ (m : Meaning A) where
    pub data Step (v : World) : World → Call → Reply A → Type 0 where
      weighs : {scratch scratch' gains' : List Parts} → v.stage ≡ new → WeighGranted N m v.gains gains' scratch scratch'
          → Step v (record { stage = weighed (shape_of m); gains = gains'; trail = v.trail; ledger = v.ledger }) (weigh scratch) done
      begins : {s : Shape} {start trail' : List Parts} → v.stage ≡ weighed s → BeginGranted N s start v.trail trail'
          → Step v (record { stage = underway s 0; gains = v.gains; trail = trail'; ledger = entered (begun (at N start)) }) (begin start) done
      proposes : {s : Shape} {k : ℕ} {slip slip' : List Parts} → v.stage ≡ underway s k → ProposeGranted N s k v.gains v.trail slip slip'
          → Step v (record { stage = ordered s k; gains = v.gains; trail = v.trail; ledger = v.ledger }) (propose slip) (wrote slip')
      confirms : {s : Shape} {k : ℕ} {made trail' : List Parts} → v.stage ≡ ordered s k → ConfirmGranted N s m k made v.trail trail'
          → Step v (record { stage = underway s (suc k); gains = v.gains; trail = trail'; ledger = extended v.ledger (at N made) }) (confirm made) done
      withdraws : {s : Shape} {k : ℕ} → v.stage ≡ ordered s k
          → Step v (record { stage = underway s k; gains = v.gains; trail = v.trail; ledger = v.ledger }) withdraw done
      tells_paid : {s : Shape} {k : ℕ} {x : A} → v.stage ≡ underway s k → AnswerGranted N (paid_checks N s m k v.trail) (paid_at N s m v.trail k) x → Step v v paid (told x)
      tells_rest : {s : Shape} {k : ℕ} {x : A} → v.stage ≡ underway s k
          → AnswerGranted N (rest_checks N s k v.gains v.trail) (rest_at N s v.gains v.trail k) x → Step v v rest (told x)
      tells_excess : {s : Shape} {k : ℕ} {x : A} → v.stage ≡ underway s k
          → AnswerGranted N (excess_checks N s k v.gains v.trail) (excess_at N s v.gains v.trail k) x → Step v v excess (told x)
      abandons : {s : Shape} {k : ℕ} → v.stage ≡ underway s k
          → Step v (record { stage = weighed s; gains = v.gains; trail = v.trail; ledger = empty }) abandon done
      closes : {s : Shape} {k : ℕ} → v.stage ≡ underway s k → Passes N (close_checks N s k)
          → Step v (record { stage = weighed s; gains = v.gains; trail = v.trail; ledger = empty }) close done
      -- a weigh that is refused on the gains sheet of the run leaves it as it was, or zero
      refuses_weigh : (line : Meaning A) {scratch scratch' gains' : List Parts} {e : StudyFault} → v.stage ≡ new → WeighRefused N line (refusal e) v.gains gains' scratch scratch'
          → Step v (record { stage = v.stage; gains = gains'; trail = v.trail; ledger = v.ledger }) (weigh scratch) (refused e)
      -- a call that is refused on whatever line and sheets it got; the run is as it was
      refuses : (line : Meaning A) (gains trail : List Parts) {c : Call} {d : Checks A Car} {e : StudyFault}
          → Asks line gains trail v.stage c d → RefusedWith N d (refusal e) → Step v v c (refused e)

    pub data Run : List (Call × Reply A) → World → Type 0 where
      fresh : (gains trail : List Parts) → Run [] (record { stage = new; gains = gains; trail = trail; ledger = empty })
      step : {h : List (Call × Reply A)} {v w : World} {c : Call} {r : Reply A} → Run h v → Step v w c r → Run ((c, r) ∷ h) w
