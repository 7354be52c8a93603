use Rattle.std.proofs.Common.{◌≡◌, ℕ, ◌+◌, ◌-◌, ◌<◌, List, length, drop, ℤ, pos, Some, None, Option, MatchOption, sym, ◌∙◌, subst, arith, rules, length-drop}
use borrow.Author.Tests.{tests}
use Rattle.std.specs.List.{AllWithin, HoldsAt}
use Rattle.std.proofs.lemmas.Iterator.{IsFirst-from_position, YieldsList-from_slice}
use Rattle.std.proofs.lemmas.List.{take_all}
use Rattle.std.proofs.lemmas.Grind.{common_steps}
use Rattle.lines.specs.Opening.{FirstBeyond}
use Rattle.lines.specs.Whole.{Small, SmallFrom, cell}
use Rattle.lines.proofs.reading.first_beyond.Goals as goal

module _ (zs : List ℤ) (j : ℕ) where
  none_beyond : AllWithin Small (drop j zs) 0 (length (drop j zs)) → SmallFrom j zs
  none_beyond h i l = (let p = h (i - j) (pos 0) in grind (arith, common_steps))

  beyond : (i : ℕ) → i < length (drop j zs) → ¬ Small (cell (drop j zs) i) → AllWithin Small (drop j zs) 0 i → FirstBeyond j zs (j + i)
  beyond i l p h = record {
    from = omega arith;
    inside = omega (arith, length-drop j zs);
    beyond = grind (arith, common_steps);
    before = λ k m n. let q = h (k - j) (pos 0) in grind (arith, common_steps);
  }

  moved : (r s : Option ℕ) → MatchOption r (AllWithin Small (drop j zs) 0 (length (drop j zs))) (λ i. (i < length (drop j zs)) × HoldsAt (λ z. ¬ Small z) (drop j zs) i × AllWithin Small (drop j zs) 0 i)
      → MatchOption r (s ≡ None) (λ i. s ≡ Some (j + i)) → MatchOption s (SmallFrom j zs) (FirstBeyond j zs)
  moved None s h e = subst (λ o. MatchOption o (SmallFrom j zs) (FirstBeyond j zs)) (sym e) (none_beyond h)
  moved (Some i) s h e = subst (λ o. MatchOption o (SmallFrom j zs) (FirstBeyond j zs)) (sym e) (beyond i h.0 (h.1 (pos 0)) h.2)

pub returns : goal.returns
returns c =
    let zs = c.args.numbers.now in
    let rest = take_all (length zs - c.args.from) (drop c.args.from zs) (omega (arith, length-drop c.args.from zs)) in
    moved zs c.args.from c.position.result c.map.result
    (IsFirst-from_position _ _ _ (λ z. ¬ Small z) Small c.position.ensures.ran (YieldsList-from_slice (drop c.args.from zs) (c.iter.ensures.rest ∙ rest)) (λ x q k. search (rules, tests)) (λ x q k. search (rules, tests)))
    (search rules)
