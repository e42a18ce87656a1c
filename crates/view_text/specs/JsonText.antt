-- Values as JSON.
use Rattle.std.specs.Prelude.{ℕ, ◌/◌, ◌%◌, ℤ, pos, negsuc, suc, List, ◌==◌, if◌then◌else◌, codes}
use Rattle.std.specs.Prelude.{encode_utf8_all, unsigned_abs, neg_ℤ}
use Rattle.serde_json.specs.Data as json
use Rattle.serde_json.specs.Data.{object, array, string, member, no_members, Members, item}
use Rattle.serde_json.specs.Data.{no_items, Items}
use Rattle.serde_json.specs.Find.{of_integer}
use Rattle.fx_types.specs.Values.{Data, blank, number, text, boolean, date, rec, tab, fault}
use Rattle.fx_types.specs.Values.{FieldList, no_fields, field, RowList, no_rows, row}
use Rattle.fx_types.specs.declared.faults.Kind.{Kind}
use Rattle.fx_number.specs.Spelling.{text_of}
use Rattle.fx_types.specs.DateText.{date_text}
use Rattle.fx_types.specs.Faults.{kind_name}

-- an object of one member
abbrev pub tagged : List ℕ → json.Data → json.Data
tagged key d = object (member key d no_members)

-- a number that is whole, of so many ten-thousandths
abbrev pub whole_units : ℤ → ℤ
whole_units (pos n) = pos (n / 10000)
whole_units (negsuc n) = neg_ℤ (pos (suc n / 10000))

-- a whole number is a JSON number, and another stands as its text in `{"n":".."}`
abbrev pub number_data : ℤ → json.Data
number_data z =
    if unsigned_abs z % 10000 == 0 then json.number (of_integer (whole_units z))
    else tagged (codes "n") (string (text_of z))

-- an error has its kind and its message
abbrev pub error_data : Kind → List ℕ → json.Data
error_data kind message = tagged (codes "e")
    (object (member (codes "kind") (string (kind_name kind))
    (member (codes "message") (string (encode_utf8_all message)) no_members)))

-- the JSON of a value: the fields of a record and of a row by rising names, the rows as plain
-- objects
abbrev mutual
  pub value_data : Data → json.Data
  value_data blank = json.null
  value_data (number z) = number_data z
  value_data (text cs) = string (encode_utf8_all cs)
  value_data (boolean b) = json.boolean b
  value_data (date z) = tagged (codes "d") (string (date_text z))
  value_data (rec fs) = tagged (codes "r") (object (fields_data fs))
  value_data (tab rs) = array (rows_data rs)
  value_data (fault k cs) = error_data k cs

  pub fields_data : FieldList → Members
  fields_data no_fields = no_members
  fields_data (field n d fs) = member (encode_utf8_all n) (value_data d) (fields_data fs)

  pub rows_data : RowList → Items
  rows_data no_rows = no_items
  rows_data (row fs rs) = item (object (fields_data fs)) (rows_data rs)
