-- What is read in the parts of a trail. N is a kind of number with the values A, s the shape of the study. Assumes nothing.
use Rattle.std.proofs.Common.{◌≡◌, ℕ, ◌+◌, List, drop, ap, ◌∙◌, arith}
use mathlib.Core.Path.{fun_ext}
use Rattle.std.proofs.lemmas.List.{get_or-drop}
use Rattle.numbers.specs.declared.Number.{Ghosts}
use Rattle.numbers.specs.declared.Parts.{Parts}
use Rattle.study_terms.specs.Shapes.{Shape}
use Rattle.study_terms.specs.Sheets.{blank, at, x_place, u_place, x_at, u_at}

module _ {A : Type 0} (N : Ghosts A) where
  -- the numbers of a sheet from a place on
  pub at_drop : (sheet : List Parts) (from j : ℕ) → at N (drop from sheet) j ≡ at N sheet (from + j)
  at_drop sheet from j = ap N.reading (get_or-drop from sheet j blank)

  module _ (s : Shape) (trail : List Parts) (n : ℕ) (part : List Parts) where
    pub lateness_read : part ≡ drop (x_place s n 0) trail → at N part ≡ x_at N s trail n
    lateness_read p =
        fun_ext (λ j.
        let e : x_place s n 0 + j ≡ x_place s n j = omega arith in
        ap (λ t. at N t j) p ∙ at_drop trail (x_place s n 0) j ∙ ap (at N trail) e)

    pub adjustments_read : part ≡ drop (u_place s n 0) trail → at N part ≡ u_at N s trail n
    adjustments_read p =
        fun_ext (λ i.
        let e : u_place s n 0 + i ≡ u_place s n i = omega arith in
        ap (λ t. at N t i) p ∙ at_drop trail (u_place s n 0) i ∙ ap (at N trail) e)
