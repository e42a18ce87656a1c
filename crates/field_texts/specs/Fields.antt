-- Values as fields of a text of records, both ways.
use Rattle.std.specs.Prelude.{◌≡◌, ◌≢◌, ℕ, true, false, List, [], ◌∷◌, codes}
use Rattle.std.specs.Prelude.{encode_utf8_all, Option, Some, None, option_map}
use Rattle.fx_number.specs.Spelling.{text_of}
use Rattle.fx_types.specs.DateText.{date_text}
use Rattle.fx_types.specs.Types.{Shape, numbers, texts, booleans, dates}
use Rattle.fx_types.specs.Values.{Data, blank, number, text, boolean, date}
use Rattle.fx_types.specs.Words.{scalars_of}
use Rattle.fx_value.specs.Fits.{fits_in}
use Rattle.fx_value.specs.Keys.{IsProper}
use Rattle.fx_value.specs.Order.{IsScalar}
use Rattle.field_texts.specs.Spelled.{spelled_day, spelled_number, spelled_truth}

-- the field of a value: blank is empty, a text is itself
abbrev pub field_of : Data → List ℕ
field_of (number z) = text_of z
field_of (text cs) = encode_utf8_all cs
field_of (boolean true) = codes "true"
field_of (boolean false) = codes "false"
field_of (date z) = date_text z
field_of d = []

-- what a field that isn't empty spells in a column of a type
abbrev pub spelled_in : Shape → List ℕ → Option Data
spelled_in numbers s = option_map number (spelled_number s)
spelled_in texts s = Some (text (scalars_of s))
spelled_in booleans s = option_map boolean (spelled_truth s)
spelled_in dates s = option_map date (spelled_day s)
spelled_in t s = None

-- THE value that a field spells in a column of a type, where it spells one: an empty field is blank
abbrev pub value_of : Shape → List ℕ → Option Data
value_of t [] = Some blank
value_of t (c ∷ cs) = spelled_in t (c ∷ cs)

-- THE LAW: the field of a scalar is read back in a column that it fits, but for the empty text,
-- whose field is that of blank
abbrev pub FieldsReadBack : Type 0
FieldsReadBack = (t : Shape) (d : Data) → IsScalar d → IsProper d → fits_in d t ≡ true → d ≢ text []
    → value_of t (field_of d) ≡ Some d
