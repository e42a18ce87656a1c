-- All columns of a type are looked at.
use Rattle.std.proofs.Common.{ℕ, zero, suc, ◌≤◌, List, [], ◌∷◌, length, drop, arith}
use Rattle.fx_types.specs.Types.{Shape, column_list}
use Rattle.fx_types.specs.TypeView.{columns_view}
use Rattle.fx_types.specs.Rising.{AreNamesRising}
use Rattle.fx_types.specs.declared.types.Ty.{Ty}
use Rattle.fx_semantics.proofs.Lawful.{AreInner, lawful_by}
use Rattle.fx_semantics.specs.Sound.{AreLawfulColumns}
use Rattle.fx_value.proofs.Unions.{rises_list}

none_left : (items : List (List ℕ × Ty)) (i : ℕ) → length items ≤ i → AreInner (column_list (columns_view (drop i items)))
none_left [] zero l = tt
none_left [] (suc i) l = tt
none_left (c ∷ items) zero l = absurd (omega arith)
none_left (c ∷ items) (suc i) l = none_left items i (omega arith)

pub all_seen : (cs : List (List ℕ × Shape)) (items : List (List ℕ × Ty)) (i : ℕ) → length items ≤ i → AreNamesRising cs → (AreInner (column_list (columns_view (drop i items))) → AreInner (column_list cs)) → AreLawfulColumns (column_list cs)
all_seen cs items i l r go = lawful_by (column_list cs) (rises_list cs r) (go (none_left items i l))
