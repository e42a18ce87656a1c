-- Columns that are told in pairs.
use Rattle.std.proofs.Common.{◌≡◌, ℕ, ◌-◌, ◌≤◌, List, [], ◌∷◌, length, map, take, drop, get_or, true, Option, Some, None, is_some, option_map, Ok, sym, ap, ◌∙◌, arith}
use Rattle.fx_types.specs.Types.{Shape, ColumnList}
use Rattle.fx_core.specs.ColumnLists.{field_in, with_renamed}
use Rattle.fx_typing.specs.Local.{Piece, label}
use Rattle.fx_typing.specs.Details.{or_stuck, stuck_renamed, unless_there}
use Rattle.fx_call_typing.proofs.InTurn.{behind_pair}

pair_split : {A B : Type 0} (f : A → B) (xs : List A) (a b : A) → 2 ≤ length xs → a ≡ get_or xs 0 a → b ≡ get_or xs 1 b →
    map f xs ≡ f a ∷ f b ∷ map f (take (length xs - 2) (drop 2 xs))
pair_split f [] a b h p q = absurd (omega arith)
pair_split f (x ∷ []) a b h p q = absurd (omega arith)
pair_split f (x ∷ y ∷ xs) a b h p q =
    ap (λ z. f z ∷ f y ∷ map f xs) (sym p) ∙ ap (λ z. f a ∷ f z ∷ map f xs) (sym q)
    ∙ ap (λ ys. f a ∷ f b ∷ map f ys) (sym (behind_pair x y xs))

-- one column under a new name
pub renamed_step : {A : Type 0} (f : A → Piece) (xs : List A) (a b : A) (x y : List ℕ) (t : Shape) (cs ds : ColumnList) →
    2 ≤ length xs → a ≡ get_or xs 0 a → b ≡ get_or xs 1 b → f a ≡ label x → f b ≡ label y → field_in x cs ≡ Some t → with_renamed x y cs ≡ Ok ds →
    stuck_renamed (map f (take (length xs - 2) (drop 2 xs))) ds ≡ stuck_renamed (map f xs) cs
renamed_step f xs a b x y t cs ds h p q e k g w =
    let rest = map f (take (length xs - 2) (drop 2 xs)) in
    sym (ap (λ ps. stuck_renamed ps cs) (pair_split f xs a b h p q)
    ∙ ap (λ z. stuck_renamed (z ∷ f b ∷ rest) cs) e
    ∙ ap (λ z. stuck_renamed (label x ∷ z ∷ rest) cs) k
    ∙ ap (λ o. unless_there o x (or_stuck (with_renamed x y cs) y (stuck_renamed rest))) g
    ∙ ap (λ r. or_stuck r y (stuck_renamed rest)) w)

-- a column that is there has a type
pub known : {A : Type 0} (f : A → Shape) (r : Option A) (o : Option Shape) → option_map f r ≡ o → is_some r ≡ true → (t : Shape) × (o ≡ Some t)
known f None o e h = absurd cc
known f (Some a) o e h = (f a, sym e)
