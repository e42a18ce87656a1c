-- The plain form of a value, as `view` prints it.
use Rattle.std.specs.Prelude.{ℕ, List, [], ◌∷◌, ◌++◌, Bool, true, false, ◌==◌, if◌then◌else◌, codes}
use Rattle.std.specs.Prelude.{flat_map, encode_utf8_all}
use Rattle.fx_types.specs.declared.faults.Kind.{Kind}
use Rattle.fx_types.specs.Faults.{kind_name}
use Rattle.fx_types.specs.Values.{Data, blank, number, text, boolean, date, rec, tab, fault}
use Rattle.fx_types.specs.Values.{FieldList, no_fields, field, RowList, no_rows, row}
use Rattle.fx_number.specs.Spelling.{text_of}
use Rattle.fx_types.specs.DateText.{date_text}

-- a character, and a quote twice
abbrev pub double_quote_doubled : ℕ → List ℕ
double_quote_doubled c = if c == 34 then 34 ∷ 34 ∷ [] else c ∷ []

-- a text between quotes, with its own quotes doubled
abbrev pub quoted_text : List ℕ → List ℕ
quoted_text cs = 34 ∷ (encode_utf8_all (flat_map double_quote_doubled cs) ++ 34 ∷ [])

abbrev pub truth_text : Bool → List ℕ
truth_text true = codes "true"
truth_text false = codes "false"

-- an error shows its kind alone
abbrev pub error_text : Kind → List ℕ
error_text kind = codes "Error(" ++ (kind_name kind ++ codes ")")

-- a comma and a space, where something stands before
abbrev pub comma_if : Bool → List ℕ
comma_if later = if later then codes ", " else []

-- the plain form, in bytes: a record has its fields as `name: value`, a table its rows as records,
-- an error its kind
abbrev mutual
  pub plain_text : Data → List ℕ
  plain_text blank = codes "Blank()"
  plain_text (number z) = text_of z
  plain_text (text cs) = quoted_text cs
  plain_text (boolean b) = truth_text b
  plain_text (date z) = date_text z
  plain_text (rec fs) = 123 ∷ fields_text false fs
  plain_text (tab rs) = 91 ∷ rows_text false rs
  plain_text (fault k cs) = error_text k

  -- with the closing brace
  pub fields_text : Bool → FieldList → List ℕ
  fields_text later no_fields = 125 ∷ []
  fields_text later (field n d fs) = comma_if later
      ++ (encode_utf8_all n ++ (codes ": " ++ (plain_text d ++ fields_text true fs)))

  -- with the closing bracket
  pub rows_text : Bool → RowList → List ℕ
  rows_text later no_rows = 93 ∷ []
  rows_text later (row fs rs) = comma_if later
      ++ (123 ∷ (fields_text false fs ++ rows_text true rs))
