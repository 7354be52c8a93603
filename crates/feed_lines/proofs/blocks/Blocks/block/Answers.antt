use Rattle.std.proofs.Common.{◌≡◌, ℕ, ℤ, sym, refl, subst, lit<}
use Rattle.std.proofs.lemmas.Result.{err_from_is_err_and}
use Rattle.feed_types.specs.Fields.{Counts, BadLine}
use Rattle.feed_types.specs.declared.faults.FeedFault.TheVariants.{BadValue}
use Rattle.feed_types.specs.declared.keys.Key.TheVariants as key
use Rattle.feed_types.specs.Blocks.{ReadBlock, BadBlock}
use Rattle.feed_lines.specs.Cursor.{left}
use Rattle.feed_theory.proofs.BlockLines.{next_label, next_stop, next_weight, next_late, next_move, next_aim, no_moves}
use Rattle.feed_theory.proofs.Decimals.{kept_wide}
use Rattle.feed_lines.proofs.Cursor.{none_yet, label_read, stop_read, weight_read, late_read, moves_read, moves_bad, aim_read, refused_at, moves_at_last, moves_other}
use Rattle.feed_lines.proofs.blocks.Blocks.block.Goals as goal
use Rattle.feed_lines.proofs.blocks.Blocks.block.Goals.{else-stop-last-via-then-stop-last+else-ne, else-stop-last-via-else-stop-last}

pub returns-in_err-label : goal.returns-in_err-label
returns-in_err-label c =
    let u = err_from_is_err_and c.from_residual.result c.from_residual.ensures.1 in
    let b = c.args.self.now in
    rw (u.1, u.2) (refl, refused_at b 0 _ b.lines _ _ (lit< tt) (none_yet b) (next_label b.sizes _) c.in_err-label.ensures)

pub returns-in_err-stop : goal.returns-in_err-stop
returns-in_err-stop c =
    let u = err_from_is_err_and c.from_residual-in_err-stop.result c.from_residual-in_err-stop.ensures.1 in
    let b = c.args.self.now in
    let bad = subst (λ (m : ℕ). BadLine key.Stop (Counts 0 m) (left c.label.new.self) c.label.new.self.place.line c.in_err-stop.field-0.0) c.from-last.ensures c.in_err-stop.ensures in
    rw (u.1, u.2) (refl, refused_at b 1 _ c.label.new.self _ _ (lit< tt) (label_read b c.in_ok-label.ensures) (next_stop b.sizes _) bad)

pub returns-in_err-weight : goal.returns-in_err-weight
returns-in_err-weight c =
    let u = err_from_is_err_and c.from_residual-in_err-weight.result c.from_residual-in_err-weight.ensures.1 in
    let b = c.args.self.now in
    let read = stop_read b c.in_ok-label.ensures c.from-last.ensures c.in_ok-stop.ensures in
    rw (u.1, u.2) (refl, refused_at b 2 _ c.count.new.self _ _ (lit< tt) read (next_weight b.sizes _) c.in_err-weight.ensures)

pub returns-in_err-late : goal.returns-in_err-late
returns-in_err-late c =
    let u = err_from_is_err_and c.from_residual-in_err-late.result c.from_residual-in_err-late.ensures.1 in
    let b = c.args.self.now in
    let read = weight_read b c.in_ok-label.ensures c.from-last.ensures c.in_ok-stop.ensures c.in_ok-weight.ensures in
    rw (u.1, u.2) (refl, refused_at b 3 _ c.count-2.new.self _ _ (lit< tt) read (next_late b.sizes _) c.in_err-late.ensures)

pub returns-in_err-moves : goal.returns-in_err-moves
returns-in_err-moves c =
    let u = err_from_is_err_and c.from_residual-in_err-moves.result c.from_residual-in_err-moves.ensures.1 in
    let b = c.args.self.now in
    let read = late_read b c.in_ok-label.ensures c.from-last.ensures c.in_ok-stop.ensures c.in_ok-weight.ensures c.in_ok-late.ensures in
    rw (u.1, u.2) (refl, refused_at b 4 _ c.factors.new.self _ _ (lit< tt) read (λ v n. let q = next_move b.sizes _ b.good.stops.1 read.lines.good.stop v n in (q.0, q.1, tt, q.3)) c.in_err-moves.ensures)

pub returns-then-ne : goal.returns-then-ne
returns-then-ne c =
    let b = c.args.self.now in
    let bad = moves_bad b c.in_ok-label.ensures c.from-last.ensures c.in_ok-stop.ensures c.in_ok-weight.ensures c.in_ok-late.ensures c.in_ok-moves.ensures c.if-stop-last.true (moves_other _ c.ne.ensures c.if-ne.true) in
    (refl, subst (λ (n : ℕ). BadBlock b.sizes (left b.lines) b.lines.place.line (BadValue n)) (sym c.line-line.ensures) bad)

pub returns-in_err-aim : goal.returns-in_err-aim
returns-in_err-aim c =
    let u = err_from_is_err_and c.from_residual-in_err-aim.result c.from_residual-in_err-aim.ensures.1 in
    let b = c.args.self.now in
    let still : c.in_ok-stop.stop ≡ c.from-last.result → c.in_ok-moves.moves ≡ no_moves = λ e. elim c.else-stop-last.branch [
      | else-stop-last-via-then-stop-last+else-ne w ↦ moves_at_last _ w.ne.ensures w.if-ne.false e
      | else-stop-last-via-else-stop-last w ↦ absurd (w.if-stop-last.false e)
    ] in
    let read = moves_read b c.in_ok-label.ensures c.from-last.ensures c.in_ok-stop.ensures c.in_ok-weight.ensures c.in_ok-late.ensures c.in_ok-moves.ensures still in
    rw (u.1, u.2) (refl, refused_at b 5 _ c.factors-2.new.self _ _ (lit< tt) read (next_aim b.sizes _) c.in_err-aim.ensures)

pub returns : goal.returns
returns c =
    let b = c.args.self.now in
    let still : c.in_ok-stop.stop ≡ c.from-last.result → c.in_ok-moves.moves ≡ no_moves = λ e. elim c.else-stop-last.branch [
      | else-stop-last-via-then-stop-last+else-ne w ↦ moves_at_last _ w.ne.ensures w.if-ne.false e
      | else-stop-last-via-else-stop-last w ↦ absurd (w.if-stop-last.false e)
    ] in
    let read = aim_read b c.in_ok-label.ensures c.from-last.ensures c.in_ok-stop.ensures c.in_ok-weight.ensures c.in_ok-late.ensures c.in_ok-moves.ensures still c.in_ok-aim.ensures in
    (read.0, refl, subst (λ (z : ℤ). ReadBlock b.lines.feed.now b.lines.place b.sizes (record { stop = c.in_ok-stop.stop; label = c.in_ok-label.label; weight = c.in_ok-weight.weight; late = c.in_ok-late.late; moves = c.in_ok-moves.moves; aim = z }) c.integer.new.self.place) (sym (kept_wide c.in_ok-aim.aim c.in_ok-aim.ensures.0)) read.1)
