use Rattle.std.proofs.Common.{◌≡◌, ◌≤◌, length, take, vec_items, vec_len, vec_capacity}
use Rattle.study_runs.specs.Going.{stage_of}
use Rattle.study_runs.proofs.Performances.{SoFar}
use Rattle.study_runs.proofs.running.run_commands.Given as goal

-- the commands so far are performed, and there is room for the answers to the others
abbrev pub invariant-loop-command : goal.invariant-loop-command
invariant-loop-command g l =
    SoFar g.L.Number.Number (g.L.Line.meaning l.line) (take l.command-index l.commands) (vec_items l.answers) (stage_of l.study) (vec_items l.sheets.gains) (vec_items l.sheets.trail)
    × (vec_len l.answers ≡ l.command-index) × (length l.commands ≤ vec_capacity l.answers)
