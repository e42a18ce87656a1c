-- What is made of the buckets: a row for each key.
use Rattle.std.proofs.Common.{◌≡◌, ℕ, List, [], ◌∷◌, map, length, None, refl, sym, ap, subst, ◌∙◌, bytes_eq}
use Rattle.std.specs.List.{All, filter, list_any}
use Rattle.std.proofs.lemmas.List.{length-map}
use Rattle.std.proofs.lemmas.List.Elements.{All-head, All-map, All-tail, All-weaker}
use Rattle.fx_types.specs.Lookup.{item_named}
use Rattle.fx_types.specs.ValueView.{view}
use Rattle.fx_types.specs.Values.{Data}
use Rattle.fx_types.specs.declared.values.Value.{Value}
use Rattle.fx_tables.proofs.ColumnSteps.{lacks_filter}
use Rattle.fx_tables.specs.ColumnCalls.{without_columns}
use Rattle.fx_tables.specs.Groups.{grouped_row, firsts_of, is_same_key, key_of}
use Rattle.fx_tables.specs.TableRows.{table_of}
use Rattle.fx_value.specs.Columns.{LacksColumn, Row, fields_only, rows_with_column, with_field}
use Rattle.fx_group.specs.Buckets.{HoldsGroups, group_by, has_same_bytes, items_of}
use Rattle.fx_group.specs.declared.buckets.Buckets.{Buckets}
use Rattle.fx_group.proofs.Bytes.{BytesTell, filter_alike, firsts_told}
use Rattle.fx_group.proofs.Firsts.{all_firsts}

abbrev table_under : List (List ℕ) → List Row → Data
table_under ns rows = table_of (without_columns ns rows)

rows_made : (ns : List (List ℕ)) (g : List ℕ) (rows fs : List Row) → All (λ f. All (λ s. has_same_bytes ns f s ≡ is_same_key (key_of ns f) (key_of ns s)) rows) fs →
    rows_with_column g (map (fields_only ns) fs) (map (table_under ns) (map (group_by (has_same_bytes ns) rows) fs)) ≡ map (grouped_row ns g rows) fs
rows_made ns g rows [] h = refl
rows_made ns g rows (f ∷ fs) h =
    let P = λ (x : Row). All (λ s. has_same_bytes ns x s ≡ is_same_key (key_of ns x) (key_of ns s)) rows in
    let here = filter_alike (λ s. has_same_bytes ns f s) (λ s. is_same_key (key_of ns f) (key_of ns s)) rows (All-head P f fs h) in
    let rest = rows_made ns g rows fs (All-tail P f fs h) in
    (λ i. grouped_from (here i) ∷ rest i)
  where
    grouped_from : List Row → Row
    grouped_from zs = with_field g (table_under ns zs) (fields_only ns f)

-- the first rows of the buckets with their key alone, each beside the table of its group
pub rows_grouped : (ns : List (List ℕ)) (g : List ℕ) (b : Buckets) (rows : List Row) (shown made : List Row) (tables : List Data) → HoldsGroups ns b rows → BytesTell ns rows →
    shown ≡ map (fields_only ns) b.firsts.items → tables ≡ map (λ z. table_of (without_columns ns z)) (items_of b.groups.items) → made ≡ rows_with_column g shown tables →
    made ≡ map (grouped_row ns g rows) (firsts_of ns rows)
rows_grouped ns g b rows shown made tables h tell s t m =
    let same = has_same_bytes ns in
    let firsts = h.firsts_are ∙ firsts_told ns rows tell in
    let P = λ (x : Row). All (λ z. same x z ≡ is_same_key (key_of ns x) (key_of ns z)) rows in
    let told : All P b.firsts.items = subst (All P) (sym h.firsts_are) (all_firsts P same rows tell) in
    m ∙ (λ i. rows_with_column g (s i) ((t ∙ ap (map (table_under ns)) h.groups_are) i))
    ∙ rows_made ns g rows b.firsts.items told ∙ ap (map (grouped_row ns g rows)) firsts

-- no first row has a column of the new name, also with its key alone
pub shown_lack : (ns : List (List ℕ)) (g : List ℕ) (b : Buckets) (rows shown : List Row) → HoldsGroups ns b rows → LacksColumn g rows → shown ≡ map (fields_only ns) b.firsts.items → LacksColumn g shown
shown_lack ns g b rows shown h lacks s =
    let P = λ (r : Row). item_named g r ≡ None in
    let firsts : All P b.firsts.items = subst (All P) (sym h.firsts_are) (all_firsts P (has_same_bytes ns) rows lacks) in
    let only = All-weaker P (λ r. P (fields_only ns r)) (λ r e. lacks_filter g (λ f. list_any (bytes_eq f.0) ns) r e) b.firsts.items firsts in
    subst (All P) (sym s) (All-map P (fields_only ns) b.firsts.items only)

pub as_long : (ns : List (List ℕ)) (b : Buckets) (rows shown : List Row) (tables : List Value) → HoldsGroups ns b rows → shown ≡ map (fields_only ns) b.firsts.items →
    map view tables ≡ map (λ z. table_of (without_columns ns z)) (items_of b.groups.items) → length tables ≡ length shown
as_long ns b rows shown tables h s t =
    sym (length-map tables view) ∙ ap length t ∙ length-map (items_of b.groups.items) (table_under ns) ∙ ap length h.groups_are ∙ length-map b.firsts.items (group_by (has_same_bytes ns) rows)
    ∙ sym (ap length s ∙ length-map b.firsts.items (fields_only ns))
