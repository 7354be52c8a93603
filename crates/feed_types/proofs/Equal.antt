-- What `==` says of two labels and of two trains: whether they are the same, padding and all. Assumes nothing.
use Rattle.std.proofs.Common.{◌≡◌, ◌==◌, ◌&&◌, Decides, refl, ap}
use Rattle.std.specs.Cmp.Lexicographic.{pointwise}
use Rattle.std.specs.Ordering.{int_eq}
use Rattle.std.proofs.lemmas.Slice.Eq.{slice_eq-Decides}
use Rattle.std.proofs.lemmas.Bool.Decides.{Decides-eqb, Decides-int_eq, Decides-like, Decides-and}
use Rattle.feed_types.specs.declared.types.Label.{Label}
use Rattle.feed_types.specs.declared.types.Train.{Train}

pub same_label : (l m : Label) → Decides (pointwise ◌==◌ l.bytes m.bytes) (l ≡ m)
same_label l m = Decides-like _ (λ e i. record { bytes = e i }) (ap (λ (x : Label). x.bytes)) (slice_eq-Decides Decides-eqb l.bytes m.bytes _ refl)

pub same_train : (t u : Train) → Decides ((t.stop == u.stop) && (pointwise ◌==◌ t.label.bytes u.label.bytes && ((t.weight == u.weight) && (pointwise int_eq t.late u.late && (pointwise int_eq t.moves u.moves && int_eq t.aim u.aim))))) (t ≡ u)
same_train t u = Decides-like _
    (λ e i. record { stop = e.0 i; label = e.1.0 i; weight = e.1.1.0 i; late = e.1.1.1.0 i; moves = e.1.1.1.1.0 i; aim = e.1.1.1.1.1 i })
    (λ e. (ap (λ (x : Train). x.stop) e, (ap (λ (x : Train). x.label) e, (ap (λ (x : Train). x.weight) e, (ap (λ (x : Train). x.late) e, (ap (λ (x : Train). x.moves) e, ap (λ (x : Train). x.aim) e))))))
    (Decides-and _ _ (Decides-eqb t.stop u.stop) (Decides-and _ _ (same_label t.label u.label) (Decides-and _ _ (Decides-eqb t.weight u.weight) (Decides-and _ _ (slice_eq-Decides Decides-int_eq t.late u.late _ refl) (Decides-and _ _ (slice_eq-Decides Decides-int_eq t.moves u.moves _ refl) (Decides-int_eq t.aim u.aim))))))
