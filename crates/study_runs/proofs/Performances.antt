-- A list of commands that is performed makes a run. Assumes nothing.
use Rattle.std.proofs.Common.{List, [], ◌∷◌, ◌++◌, sym, subst, inl, inr}
use Rattle.numbers.specs.declared.Number.{Ghosts}
use Rattle.numbers.specs.declared.Parts.{Parts}
use Rattle.lines.specs.Meaning.{Meaning}
use Rattle.study_terms.specs.Formulas.{NumberOf}
use Rattle.study_theory.specs.Runs.{Stage, Call, Reply, Ledger, World, Run, fresh, step}
use Rattle.study_runs.specs.declared.commands.Command.{Command}
use Rattle.study_runs.specs.declared.answers.Answer.{Answer}
use Rattle.study_runs.specs.Performing.{Performed, started, stepped, skipped}
use Rattle.study_runs.specs.Going.{world, Goes}

module _ {A : Type 0} (N : Ghosts A) (m : Meaning A) where
  pub performed_run : (cs : List Command) (answers : List (Answer A)) (h : List (Call × Reply A)) (v : World N) → Performed N m cs answers h v → Run N m h v
  performed_run _ _ _ _ (started gains trail) = fresh gains trail
  performed_run _ _ _ _ (stepped {cs = cs} {answers = answers} {h = h} {v = v} p s) = step (performed_run cs answers h v p) s.step
  performed_run _ _ _ _ (skipped {cs = cs} {answers = answers} {h = h} {v = v} p s) = performed_run cs answers h v p

  -- the commands so far led to a world with this stage and these sheets
  abbrev pub SoFar : List Command → List (Answer A) → Stage → List Parts → List Parts → Type 0
  SoFar cs answers stage gains trail = (h : List (Call × Reply A)) × (l : Ledger (NumberOf N)) × Performed N m cs answers h (world N stage gains trail l)

  pub more : (cs : List Command) (answers : List (Answer A)) (command : Command) (a : Answer A) (stage stage' : Stage) (gains gains' trail trail' : List Parts)
      → SoFar cs answers stage gains trail → Goes N m command a stage stage' gains gains' trail trail' → SoFar (cs ++ (command ∷ [])) (answers ++ (a ∷ [])) stage' gains' trail'
  more cs answers command a stage stage' gains gains' trail trail' (h, l, p) (inl f) = let t = f l in ((t.1.call, t.1.reply) ∷ h, t.0, stepped p t.1)
  more cs answers command a stage stage' gains gains' trail trail' (h, l, p) (inr (es, eg, et, f)) =
      subst (λ st. SoFar (cs ++ (command ∷ [])) (answers ++ (a ∷ [])) st gains' trail') (sym es)
      (subst (λ g. SoFar (cs ++ (command ∷ [])) (answers ++ (a ∷ [])) stage g trail') (sym eg)
      (subst (λ t. SoFar (cs ++ (command ∷ [])) (answers ++ (a ∷ [])) stage gains t) (sym et) (h, l, skipped p (f l))))
