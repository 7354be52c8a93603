-- How each call, granted or refused, goes on a run. Assumes nothing.
use Rattle.std.proofs.Common.{◌≡◌, ℕ, List, ◌++◌, length, take, drop, ◌∙◌, Ok, Err, Result, sym, refl, ap, subst, inl, inr, MatchResult}
use Rattle.std.proofs.lemmas.List.{take_at}
use Rattle.numbers.specs.declared.Number.{Ghosts}
use Rattle.numbers.specs.declared.Parts.{Parts}
use Rattle.lines.specs.Meaning.{Meaning}
use Rattle.study_terms.specs.declared.faults.kinds.StudyFault.{StudyFault}
use Rattle.study_terms.specs.Formulas.{NumberOf}
use Rattle.study_terms.specs.Checks.{Checks, RefusedWith}
use Rattle.study_terms.specs.Refusals.{refusal}
use Rattle.study_terms.specs.Sized.{shape}
use Rattle.study_terms.specs.Calls.{AnswerGranted, AnswerPromise}
use Rattle.study_theory.specs.Runs.{Stage, Call, Reply, Ledger, World, Allowed, Asks, Step, refuses}
use Rattle.study_theory.specs.Runs as runs
use Rattle.study.specs.declared.states.Underway.{Underway}
use Rattle.study.specs.Stages.{underway_stage}
use Rattle.study_runs.specs.declared.performing.Study.{Study}
use Rattle.study_runs.specs.declared.commands.Command.{Command}
use Rattle.study_runs.specs.declared.answers.Answer.{Answer}
use Rattle.study_runs.specs.declared.answers.Answer.TheVariants.{Stands, Told, Refused, NotNow}
use Rattle.study_runs.specs.Telling.{Makes, Tells, name_of}
use Rattle.study_runs.specs.Performing.{Steps}
use Rattle.study_runs.specs.Going.{stage_of, Stood, world, Goes}

module _ {A : Type 0} (N : Ghosts A) (m : Meaning A) where
  -- a step, where the command and the stage after it are known by equations
  pub goes_on : (command d : Command) (a : Answer A) (stage stage' target : Stage) (gains gains' trail trail' : List Parts) (c : Call) (r : Reply A)
      → command ≡ d → stage' ≡ target → Makes d c
      → ((l : Ledger (NumberOf N)) → (l' : Ledger (NumberOf N)) × Step N m (world N stage gains trail l) (world N target gains' trail' l') c r × Tells (world N target gains' trail' l') a r)
      → Goes N m command a stage stage' gains gains' trail trail'
  goes_on command d a stage stage' target gains gains' trail trail' c r ec es made f =
      inl (λ l.
      let t = f l in (
        t.0,
        subst (λ st. Steps N m command a (world N stage gains trail l) (world N st gains' trail' t.0)) (sym es) (record {
          call = c;
          reply = r;
          makes = subst (λ d. Makes d c) (sym ec) made;
          step = t.1;
          tells = t.2;
        }),
      ))

  -- a step to a stop, which the answer tells
  pub goes_stands : (command d : Command) (stage target : Stage) (u : Underway A) (study : Study A) (a : Answer A) (gains trail trail' : List Parts) (c : Call)
      → command ≡ d → underway_stage u ≡ target → Makes d c → Stood u trail' study a
      → ((l : Ledger (NumberOf N)) → (l' : Ledger (NumberOf N)) × Step N m (world N stage gains trail l) (world N target gains trail' l') c runs.done)
      → Goes N m command a stage (stage_of study) gains gains trail trail'
  goes_stands command d stage target u study a gains trail trail' c ec es made st f =
      subst (λ a. Goes N m command a stage (stage_of study) gains gains trail trail') (sym st.1.1)
      (goes_on command d (Stands u.at.stop st.1.0) stage (stage_of study) target gains gains trail trail' c runs.done ec (ap stage_of st.0 ∙ es) made
      (λ l. let t = f l in (t.0, t.1, (refl, (shape u.at.sizes, sym es, st.1.2)))))

  -- a refusal hands the study and its sheets back
  pub goes_refused : (command d : Command) (stage stage' : Stage) (gains gains' trail trail' : List Parts) (c : Call) (e : StudyFault) (checks : Checks A (NumberOf N))
      → command ≡ d → stage' ≡ stage → gains' ≡ gains → trail' ≡ trail → Makes d c
      → Asks N m gains trail stage c checks → RefusedWith N checks (refusal e)
      → Goes N m command (Refused e) stage stage' gains gains' trail trail'
  goes_refused command d stage stage' gains gains' trail trail' c e checks ec es eg et made asks r =
      subst (λ t. Goes N m command (Refused e) stage stage' gains gains' trail t) (sym et)
      (subst (λ g. Goes N m command (Refused e) stage stage' gains g trail trail) (sym eg)
      (goes_on command d (Refused e) stage stage' stage gains gains trail trail c (runs.refused e) ec es made (λ l. (l, refuses m gains trail asks r, refl))))

  -- a command that the stage does not allow
  pub goes_not : (command : Command) (stage : Stage) (gains trail : List Parts)
      → ((c : Call) → Makes command c → Allowed stage c → ⊥) → Goes N m command (NotNow (name_of stage)) stage stage gains gains trail trail
  goes_not command stage gains trail n = inr (refl, refl, refl, λ l. record { not_allowed = n; told = refl })

  -- a question, answered or refused
  pub goes_asked : (command d : Command) (stage : Stage) (gains trail : List Parts) (c : Call) (checks : Checks A (NumberOf N)) (y : NumberOf N) (answer : Result A StudyFault) (a : Answer A)
      → command ≡ d → Makes d c → Asks N m gains trail stage c checks
      → ((x : A) → AnswerGranted N checks y x → (l : Ledger (NumberOf N)) → Step N m (world N stage gains trail l) (world N stage gains trail l) c (runs.told x))
      → AnswerPromise N checks y answer → MatchResult answer (λ x. a ≡ Told x) (λ e. a ≡ Refused e) → Goes N m command a stage stage gains gains trail trail
  goes_asked command d stage gains trail c checks y (Ok x) a ec made asks f h e =
      subst (λ a. Goes N m command a stage stage gains gains trail trail) (sym e)
      (goes_on command d (Told x) stage stage stage gains gains trail trail c (runs.told x) ec refl made (λ l. (l, f x h l, refl)))
  goes_asked command d stage gains trail c checks y (Err q) a ec made asks f h e =
      subst (λ a. Goes N m command a stage stage gains gains trail trail) (sym e)
      (goes_refused command d stage stage gains gains trail trail c q checks ec refl refl refl made asks h)

  -- the same, of a stage and sheets that are known by equations
  pub goes_in : (command : Command) (a : Answer A) (stage study stage' : Stage) (gains g gains' g' trail t trail' t' : List Parts)
      → study ≡ stage → g ≡ gains → g' ≡ gains' → t ≡ trail → t' ≡ trail' → Goes N m command a study stage' g g' t t' → Goes N m command a stage stage' gains gains' trail trail'
  goes_in command a stage study stage' gains g gains' g' trail t trail' t' es eg eg' et et' h =
      subst (λ x. Goes N m command a x stage' gains gains' trail trail') es
      (subst (λ x. Goes N m command a study stage' x gains' trail trail') eg
      (subst (λ x. Goes N m command a study stage' g x trail trail') eg'
      (subst (λ x. Goes N m command a study stage' g g' x trail') et
      (subst (λ x. Goes N m command a study stage' g g' t x) et' h))))

-- a sheet that was lent as a slice, and written
pub written_back : (len : ℕ) (old now : List Parts) → len ≡ length old → length now ≡ length old → now ≡ take len (now ++ drop (length now) old)
written_back len old now e l = sym (take_at now _ len (l ∙ sym e))
