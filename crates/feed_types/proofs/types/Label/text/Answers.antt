use Rattle.std.proofs.Common.{◌≡◌, ℕ, eqb, Option, unwrap_or, length, take, ap, ◌∙◌, rules, tests}
use Rattle.std.specs.List.{position}
use Rattle.std.proofs.lemmas.Iterator.{YieldsList-from_slice}
use Rattle.std.proofs.lemmas.Iterator.Search.{position_from_yields_List}
use Rattle.feed_types.proofs.Padding.{unpadded_first}
use Rattle.feed_types.proofs.types.Label.text.Goals as goal

pub returns : goal.returns
returns c =
    let bs = c.args.self.now.bytes in
    let found : c.position.result ≡ position (λ b. eqb b 0) bs = position_from_yields_List (λ b. eqb b 0) _ _ c.position.result c.position.ensures.ran (YieldsList-from_slice bs cc) (λ x b q k. search (rules, tests)) in
    let long : length bs ≡ 8 = search rules in
    ap (λ (n : ℕ). take n bs) (c.unwrap_or-end.ensures ∙ ap (λ (o : Option ℕ). unwrap_or o 8) found) ∙ unpadded_first bs 8 long
