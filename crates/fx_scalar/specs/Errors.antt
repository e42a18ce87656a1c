-- Errors as records, and the errors that records tell.
use Rattle.std.specs.Prelude.{◌≡◌, ℕ, List, codes, unwrap_or, encode_utf8_all}
use Rattle.fx_types.specs.declared.faults.Kind.{Kind}
use Rattle.fx_types.specs.declared.faults.Kind.TheVariants.{Custom}
use Rattle.fx_types.specs.Faults.{kind_name}
use Rattle.fx_types.specs.Types.{texts}
use Rattle.fx_types.specs.Values.{Data, blank, text, rec, fault, no_fields, field}
use Rattle.fx_value.specs.Coercion.{IsCoerced, field_or_blank}
use Rattle.fx_core.specs.Literals.{error_kind}
use Rattle.fx_scalar.specs.Arguments.{text_in}

-- an error as a record of its kind's name and its message
abbrev pub fault_record : Kind → List ℕ → Data
fault_record k cs = rec (field (codes "Kind") (text (kind_name k))
    (field (codes "Message") (text cs) no_fields))

-- the kind of an error that a text names, and Custom where it names none
abbrev pub error_kind_named : List ℕ → Kind
error_kind_named cs = unwrap_or (error_kind (encode_utf8_all cs)) Custom

-- the error of a kind and a message, as texts: the first error of the two, and else the error that
-- they tell
abbrev pub error_of : Data → Data → Data
error_of (fault k cs) m = fault k cs
error_of k (fault j cs) = fault j cs
error_of k m = fault (error_kind_named (text_in k)) (text_in m)

-- the error that a record tells by its fields Kind and Message, as texts; a missing field is blank,
-- and a blank record tells neither
abbrev pub IsErrorOf : Data → Data → Type 0
IsErrorOf (rec fs) v =
    (k : Data) × (m : Data)
    × IsCoerced (field_or_blank (codes "Kind") fs) texts k
    × IsCoerced (field_or_blank (codes "Message") fs) texts m
    × (v ≡ error_of k m)
IsErrorOf d v = v ≡ error_of blank blank

-- the record of an error tells that error
abbrev pub RecordsTell : Type 0
RecordsTell = (k : Kind) (cs : List ℕ) → IsErrorOf (fault_record k cs) (fault k cs)
