use Rattle.std.proofs.Common.{◌≡◌, ℕ, ◌≢◌, List, ℤ, pos, nat_abs, Ok, Err, Some, Option, sym, ◌∙◌, subst, w64, SFits, to_z, of_z, rules}
use Rattle.std.proofs.lemmas.Int.{to_z-of_z}
use Rattle.numbers.specs.Answers.{Held}
use Rattle.numbers.specs.Rows.{row_number}
use Rattle.numbers.specs.Forms.{LowestOf}
use Rattle.number_text.specs.declared.TextFault.TheVariants.{NotHeld}
use Rattle.numbers.specs.declared.Parts.{Parts}
use Rattle.number_text.specs.Spelling.{Spells}
use Rattle.number_text.specs.Readings.{Reads, Found}
use Rattle.number_text.proofs.Held.{spelled_plain, read_means, not_held}
use Rattle.number_text.proofs.Printed.{reads_back}
use Rattle.number_text.proofs.read_number.Goals as goal

pub returns-in_err-raw : goal.returns-in_err-raw
returns-in_err-raw g c =
    let r : Reads g.N.Number.radicand g.N.Number.value c.args.text.now c.from_residual.result = search rules in
    record { reads = r; back = λ k. reads_back g.N.Number.value g.N.Number.parts g.met.N.Number.small g.met.N.Number.same g.met.N.Number.form c.args.text.now c.from_residual.result r k }

-- what the text spells, under the radicand as the kind gives it
spells : (D : ℕ) (d : ℤ) (bs : List ℕ) (r : Option Parts) (raw : Parts) → ((D : ℕ) → to_z w64 (of_z w64 d) ≡ pos D → Found D bs r) → SFits w64 d → d ≡ pos D → r ≡ Some raw → Spells D bs raw.p raw.q (nat_abs raw.m)
spells D d bs r raw h f e k = (subst (Found D bs) k (h D (to_z-of_z w64 d f ∙ e))).1

pub returns-then-same_parts : goal.returns-then-same_parts
returns-then-same_parts g c =
    let D = g.N.Number.radicand in let bs = c.args.text.now in let laws = g.met.N.Number in
    let raw = c.in_ok-raw.raw in let row = c.in_ok-row.row in let k = c.read-number.result in
    let f : SFits w64 c.under_root.result = search rules in
    let e : c.spelled.result ≡ Some raw = search rules in
    let l : LowestOf raw row = search rules in
    let same : c.row.result ≡ row = search rules in
    let s = spells D c.under_root.result bs c.spelled.result raw c.spelled.ensures f c.under_root.ensures e in
    let v : g.N.Number.value k ≡ row_number D raw =
    read_means g.N.Number.value g.N.Number.parts g.N.Number.reading laws.same laws.form laws.back raw row l k (sym c.row.ensures ∙ same) in
    record { reads = (raw.p, raw.q, nat_abs raw.m, s, v); back = λ j. reads_back g.N.Number.value g.N.Number.parts laws.small laws.same laws.form bs (Ok k) (raw.p, raw.q, nat_abs raw.m, s, v) j }

pub returns-else-same_parts : goal.returns-else-same_parts
returns-else-same_parts g c =
    let D = g.N.Number.radicand in let bs = c.args.text.now in let laws = g.met.N.Number in
    let raw = c.in_ok-raw.raw in let row = c.in_ok-row.row in let k = c.read-number.result in
    let f : SFits w64 c.under_root.result = search rules in
    let e : c.spelled.result ≡ Some raw = search rules in
    let l : LowestOf raw row = search rules in
    let other : c.row.result ≢ row = search rules in
    let s = spells D c.under_root.result bs c.spelled.result raw c.spelled.ensures f c.under_root.ensures e in
    let v : ¬ Held g.N.Number.value (row_number D raw) =
    not_held g.N.Number.value g.N.Number.parts g.N.Number.reading laws.same laws.form laws.back raw row l k
    (spelled_plain D bs raw.p raw.q (nat_abs raw.m) s) c.read-number.ensures (λ x. other (c.row.ensures ∙ x)) in
    record { reads = (raw.p, raw.q, nat_abs raw.m, s, v); back = λ j. reads_back g.N.Number.value g.N.Number.parts laws.small laws.same laws.form bs (Err NotHeld) (raw.p, raw.q, nat_abs raw.m, s, v) j }
