use Rattle.lines.proofs.Theory.{exact_lawful}
use Rattle.lines.proofs.line.every_line_is_lawful.Goals as goal

pub returns : goal.returns
returns g c = λ l. exact_lawful g.L.Number.Number.good g.L.Number.Number.value (g.L.Line.meaning l) (g.met.L.Line.lawful l)
