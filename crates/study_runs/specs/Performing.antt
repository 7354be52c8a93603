-- The run that a list of commands makes. N is a kind of number with the values A, m the line. Assumes nothing.
--
--   Performed N m cs answers h v   the commands cs were answered by `answers`, one each in order, from a new study: each command that the stage allows
--                                  made one step of the run h, with its own arguments, and its answer tells the reply; each other command made no
--                                  call, is no step, and was answered 'not now' with the name of the stage. The run led to the world v
--   Steps N m c a v w              the command c makes one step, with its own arguments, from the world v to w, and the answer a tells the reply
--   Skips N m c a v                the stage of the world v does not allow the command c, and the answer a is 'not now' with its name
--   WholeRun N m cs answers        some run of the line is performed by cs and answers
use Rattle.std.specs.Prelude.{◌≡◌, List, [], ◌∷◌, ◌++◌}
use Rattle.numbers.specs.declared.Number.{Ghosts}
use Rattle.numbers.specs.declared.Parts.{Parts}
use Rattle.lines.specs.Meaning.{Meaning}
use Rattle.study_theory.specs.Runs.{Call, Reply, World, Ledger, empty, Allowed, Step, Run}
use Rattle.study_theory.specs.Runs as runs
use Rattle.study_runs.specs.declared.commands.Command.{Command}
use Rattle.study_runs.specs.declared.answers.Answer.{Answer}
use Rattle.study_runs.specs.declared.answers.Answer.TheVariants.{NotNow}
use Rattle.study_runs.specs.Telling.{Makes, Tells, name_of}

module _ {A : Type 0} (N : Ghosts A) (m : Meaning A) where
  -- one step, which the answer tells
  pub record Steps (command : Command) (a : Answer A) (v w : World N) : Type 0 where
    pub call : Call
    pub reply : Reply A
    pub makes : Makes command call
    pub step : Step N m v w call reply
    pub tells : Tells w a reply

  -- the stage does not allow the command
  pub record Skips (command : Command) (a : Answer A) (v : World N) : Type 0 where
    pub not_allowed : (c : Call) → Makes command c → Allowed v.stage c → ⊥
    pub told : a ≡ NotNow (name_of v.stage)

  pub data Performed : List Command → List (Answer A) → List (Call × Reply A) → World N → Type 0 where
    started : (gains trail : List Parts) → Performed [] [] [] (record { stage = runs.new; gains = gains; trail = trail; ledger = empty })
    stepped : {cs : List Command} {answers : List (Answer A)} {h : List (Call × Reply A)} {v w : World N} {command : Command} {a : Answer A}
        → Performed cs answers h v → (s : Steps command a v w) → Performed (cs ++ (command ∷ [])) (answers ++ (a ∷ [])) ((s.call, s.reply) ∷ h) w
    skipped : {cs : List Command} {answers : List (Answer A)} {h : List (Call × Reply A)} {v : World N} {command : Command} {a : Answer A}
        → Performed cs answers h v → Skips command a v → Performed (cs ++ (command ∷ [])) (answers ++ (a ∷ [])) h v

  pub record WholeRun (cs : List Command) (answers : List (Answer A)) : Type 0 where
    pub history : List (Call × Reply A)
    pub world : World N
    pub performed : Performed cs answers history world
    pub run : Run N m history world
