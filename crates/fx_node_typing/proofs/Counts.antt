-- How many columns there are.
use Rattle.std.proofs.Common.{◌≡◌, ◌⊎◌, inl, inr, ℕ, suc, ◌≤◌, nat_le, ◌&&◌, List, [], ◌∷◌, length, refl, ap}
use Rattle.std.proofs.lemmas.Bool.{le-leb}
use Rattle.fx_types.specs.Types.{Shape, column_list}
use Rattle.fx_types.specs.TypeView.{shape}
use Rattle.fx_types.specs.declared.types.Ty.{Ty}
use Rattle.fx_types.specs.declared.types.Ty.TheVariants.{Rec, Tab}
use Rattle.fx_typing.specs.Builds.{columns_count, is_narrow, are_narrow}

pub count_length : (cs : List (List ℕ × Shape)) → columns_count (column_list cs) ≡ length cs
count_length [] = refl
count_length (c ∷ cs) = ap suc (count_length cs)

few : (cs : List (List ℕ × Shape)) → length cs ≤ 64 → are_narrow (column_list cs) ≡ (nat_le (columns_count (column_list cs)) 64 && are_narrow (column_list cs))
few cs h = rw (count_length cs) (rw (le-leb (length cs) 64 h) refl)

-- a record or a table of few columns
pub narrow_by : (t : Ty) (cs : List (List ℕ × Shape)) → (t ≡ Rec cs) ⊎ (t ≡ Tab cs) → length cs ≤ 64 → are_narrow (column_list cs) ≡ is_narrow (shape t)
narrow_by t cs (inl e) h = rw e (few cs h)
narrow_by t cs (inr e) h = rw e (few cs h)
