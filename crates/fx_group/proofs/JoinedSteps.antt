-- One more field of a record beside another, and one more row of a group.
use Rattle.std.proofs.Common.{◌≡◌, ℕ, List, [], ◌∷◌, ◌++◌, map, None, refl, ap, sym, subst, ◌∙◌, append_assoc, append-nil}
use Rattle.std.specs.Prelude.{flat_map}
use Rattle.std.specs.List.{All}
use Rattle.std.proofs.lemmas.List.Elements.{All-head, All-tail}
use Rattle.fx_types.specs.Lookup.{item_named}
use Rattle.fx_types.specs.Rising.{AreNamesRising}
use Rattle.fx_types.specs.ValueView.{fields_view, view}
use Rattle.fx_types.specs.Values.{Data}
use Rattle.fx_types.specs.declared.values.Value.{Value}
use Rattle.fx_types.specs.declared.values.Value.TheVariants.{Tab}
use Rattle.fx_tables.specs.Groups.{IsApart, rows_under, value_of, with_fields}
use Rattle.fx_tables.specs.TableRows.{rows_in, table_of}
use Rattle.fx_value.specs.Columns.{Row, fields_without, with_field}
use Rattle.fx_group.proofs.Records.{free_rest, rows_back}

pub joined_more : (left rest : List (List ℕ × Value)) (n : List ℕ) (v : Value) (r wider all : Row) → left ≡ (n, v) ∷ rest → wider ≡ with_field n (view v) r →
    with_fields (fields_view left) r ≡ all → with_fields (fields_view rest) wider ≡ all
joined_more left rest n v r wider all e w h = ap (with_fields (fields_view rest)) w ∙ sym (ap (λ z. with_fields (fields_view z) r) e) ∙ h

pub rest_rises : (left rest : List (List ℕ × Value)) (n : List ℕ) (v : Value) → left ≡ (n, v) ∷ rest → AreNamesRising (fields_view left) → AreNamesRising (fields_view rest)
rest_rises left rest n v e h = let P : List (List ℕ × Value) → Type 0 = λ z. AreNamesRising (fields_view z) in (subst P e h).1

pub first_free : (left rest : List (List ℕ × Value)) (n : List ℕ) (v : Value) (r : Row) → left ≡ (n, v) ∷ rest → IsApart r (fields_view left) → item_named n r ≡ None
first_free left rest n v r e h =
    let P : List (List ℕ × Value) → Type 0 = λ z. IsApart r (fields_view z) in
    All-head (λ f. item_named f.0 r ≡ None) (n, view v) (fields_view rest) (subst P e h)

pub rest_free : (left rest : List (List ℕ × Value)) (n : List ℕ) (v : Value) (r wider : Row) → left ≡ (n, v) ∷ rest → wider ≡ with_field n (view v) r →
    AreNamesRising (fields_view left) → IsApart r (fields_view left) → IsApart wider (fields_view rest)
rest_free left rest n v r wider e w rises h =
    let P : List (List ℕ × Value) → Type 0 = λ z. IsApart r (fields_view z) in
    let Q : List (List ℕ × Value) → Type 0 = λ z. AreNamesRising (fields_view z) in
    let Free : Row → Type 0 = λ z. IsApart z (fields_view rest) in
    subst Free (sym w) (free_rest (n, view v) (fields_view rest) r (subst Q e rises).0 (All-tail (λ f. item_named f.0 r ≡ None) (n, view v) (fields_view rest) (subst P e h)))

-- the rows of one more group
pub groups_more : (g : List ℕ) (done : List Row) (r : Row) (rest left all new : List Row) → left ≡ r ∷ rest → new ≡ done ++ rows_under g r →
    done ++ flat_map (rows_under g) left ≡ all → new ++ flat_map (rows_under g) rest ≡ all
groups_more g done r rest left all new e w h =
    ap (λ z. z ++ flat_map (rows_under g) rest) w ∙ append_assoc done (rows_under g r) (flat_map (rows_under g) rest) ∙ sym (ap (λ z. done ++ flat_map (rows_under g) z) e) ∙ h

-- a group's rows, of which none is put yet
pub group_first : (g : List ℕ) (r others : Row) (d : Data) (inner done : List Row) → d ≡ value_of g r → d ≡ table_of inner → others ≡ fields_without g r →
    done ++ map (λ s. with_fields s others) inner ≡ done ++ rows_under g r
group_first g r others d inner done v t o =
    let rows = sym (rows_back inner) ∙ ap rows_in (sym t ∙ v) in
    λ i. done ++ map (λ s. with_fields s (o i)) (rows i)

pub group_free : (g : List ℕ) (r others : Row) (d : Data) (inner : List Row) → d ≡ value_of g r → d ≡ table_of inner → others ≡ fields_without g r →
    All (IsApart (fields_without g r)) (rows_in (value_of g r)) → All (IsApart others) inner
group_free g r others d inner v t o h =
    let rows = sym (rows_back inner) ∙ ap rows_in (sym t ∙ v) in
    subst (λ z. All (IsApart z) inner) (sym o) (subst (All (IsApart (fields_without g r))) (sym rows) h)

-- what is no table has no rows
pub no_rows : (v : Value) → ((rows : List Row) → v ≡ Tab rows → ⊥) → rows_in (view v) ≡ []
no_rows (Tab rows) h = absurd (h rows refl)
no_rows v h = refl

pub none_more : (g : List ℕ) (r : Row) (v : Value) (done : List Row) → view v ≡ value_of g r → ((rows : List Row) → v ≡ Tab rows → ⊥) → done ≡ done ++ rows_under g r
none_more g r v done e h =
    let none = sym (no_rows v h) ∙ ap rows_in e in
    sym (append-nil done) ∙ ap (λ zs. done ++ map (λ s. with_fields s (fields_without g r)) zs) none
