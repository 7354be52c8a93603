-- What refusals print. Assumes nothing.
--
--   mark_text m     `mark` and the level, stop, row and column of m
--   fault_text f    the sentence of a marked place that was asked, with the number of the refusal and the mark
--   open_text f     the sentence of numbers that are not opened, with the number of the refusal
use Rattle.std.specs.Prelude.{List, ℕ, ◌++◌, codes, decimal}
use Rattle.lines.specs.declared.faults.Mark.{Mark}
use Rattle.lines.specs.declared.faults.LineFault.{LineFault}
use Rattle.lines.specs.declared.faults.OpenFault.{OpenFault}
use Rattle.lines.specs.declared.faults.OpenFault.TheVariants.{BadHeader, BadLength, BadEntry}

abbrev pub mark_text : Mark → List ℕ
mark_text m = codes "mark " ++ (decimal m.level ++ (codes " " ++ (decimal m.stop ++ (codes " " ++ (decimal m.row ++ (codes " " ++ decimal m.column))))))

abbrev pub fault_text : LineFault → List ℕ
fault_text f = codes "refused 1 at " ++ (mark_text f.mark ++ codes ": the number there is too large for its kind")

abbrev pub open_text : OpenFault → List ℕ
open_text BadHeader = codes "refused 3: the header is missing, or a size is outside its limits"
open_text BadLength = codes "refused 4: there are more or fewer numbers than the header asks for"
open_text (BadEntry i) = codes "refused 5 at index " ++ (decimal i ++ codes ": the number is beyond 9999 in size")
