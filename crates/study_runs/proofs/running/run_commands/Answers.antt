use Rattle.std.proofs.Common.{◌≡◌, suc, ◌+◌, ◌<◌, ◌≤◌, [], ◌∷◌, ◌++◌, length, take, vec_items, vec_len, sym, ap, ◌∙◌, subst, arith, take_all, take-suc}
use Rattle.study_theory.specs.Runs.{empty}
use Rattle.study_runs.specs.declared.commands.Command.{Command}
use Rattle.study_runs.specs.Performing.{Performed, started}
use Rattle.study_runs.specs.Going.{stage_of, world}
use Rattle.study_runs.proofs.Performances.{SoFar, more, performed_run}
use Rattle.study_runs.proofs.running.run_commands.Goals as goal

pub loop-command-init : goal.loop-command-init
loop-command-init g c =
    let N = g.L.Number.Number in
    let m = g.L.Line.meaning c.args.line.now in
    let e = c.requires.none in
    let len : vec_len c.args.answers.now ≡ 0 = c.args.answers.now.ok.0 ∙ ap length e in (
      subst (λ v. SoFar N m [] v (Rattle.study_theory.specs.Runs.new) (vec_items c.args.sheets.now.gains) (vec_items c.args.sheets.now.trail)) (sym e) ([], empty, started (vec_items c.args.sheets.now.gains) (vec_items c.args.sheets.now.trail)),
      len,
      c.requires.room,
    )

pub loop-command-preserved : goal.loop-command-preserved
loop-command-preserved g c =
    let N = g.L.Number.Number in
    let m = g.L.Line.meaning c.args.line.now in
    let cs = c.args.commands.now in
    let k = c.loop-command.command-index in
    let command = c.command-item.result in
    let i = c.loop-command.invariant in
    let inside : k < length cs = omega arith in
    let z : suc k ≡ k + 1 = omega arith in
    let one : take (k + 1) cs ≡ take k cs ++ (command ∷ []) =
    ap (λ n. take n cs) (sym z) ∙ take-suc cs k command inside ∙ ap (λ (d : Command). take k cs ++ (d ∷ [])) (sym c.command-item.is) in
    let r = c.perform_one-next in
    let push = c.push_reserved.ensures in
    let long = push.len in
    let cap = push.capacity in
    let room = i.2 in (
      subst (λ t. SoFar N m t (vec_items c.push_reserved.new.self) (stage_of r.result.0) (vec_items r.new.sheets.gains) (vec_items r.new.sheets.trail)) (sym one)
          (subst (λ v. SoFar N m (take k cs ++ (command ∷ [])) v (stage_of r.result.0) (vec_items r.new.sheets.gains) (vec_items r.new.sheets.trail)) (sym push.items)
          (more N m (take k cs) (vec_items c.loop-command.answers) command r.result.1 (stage_of c.loop-command.study) (stage_of r.result.0) (vec_items c.loop-command.sheets.gains) (vec_items r.new.sheets.gains) (vec_items c.loop-command.sheets.trail) (vec_items r.new.sheets.trail) i.0 r.ensures)),
      long ∙ ap (λ n. n + 1) i.1,
      omega arith,
    )

pub returns : goal.returns
returns g c =
    let N = g.L.Number.Number in
    let m = g.L.Line.meaning c.args.line.now in
    let i = c.loop-command.invariant in
    let past : length c.args.commands.now ≤ c.loop-command.command-index = omega arith in
    let p : Performed N m c.args.commands.now (vec_items c.loop-command.answers) i.0.0 (world N (stage_of c.loop-command.study) (vec_items c.loop-command.sheets.gains) (vec_items c.loop-command.sheets.trail) i.0.1) =
    subst (λ t. Performed N m t (vec_items c.loop-command.answers) i.0.0 (world N (stage_of c.loop-command.study) (vec_items c.loop-command.sheets.gains) (vec_items c.loop-command.sheets.trail) i.0.1)) (take_all _ c.args.commands.now past) i.0.2 in
    record { history = i.0.0; world = _; performed = p; run = performed_run N m _ _ _ _ p }
