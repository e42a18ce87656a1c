-- Errors as records, and the fields that tell errors.
use Rattle.std.proofs.Common.{◌≡◌, ℕ, List, [], ◌∷◌, Bool, true, false, Some, None, refl}
use Rattle.std.specs.Str.{chars}
use Rattle.std.specs.Prelude.{bytes_eq, if◌then◌else◌}
use Rattle.fx_types.specs.declared.faults.Kind.TheVariants.{Div0, Numeric, InvalidArgument, NotFound, MissingRequired, ConstraintViolated, QuotaExceeded, Validation, Custom}
use Rattle.fx_types.specs.Lookup.{item_named}
use Rattle.fx_types.specs.Types.{blanks, numbers, texts, booleans, dates}
use Rattle.fx_types.specs.Values.{Data, blank, text, field_list}
use Rattle.fx_types.specs.ValueView.{view}
use Rattle.fx_types.specs.declared.faults.Kind.{Kind}
use Rattle.fx_types.specs.declared.values.Value.{Value}
use Rattle.fx_types.specs.declared.values.Value.TheVariants.{Blank, Number, Text, Boolean, Date, Rec, Tab, Fault}
use Rattle.fx_value.specs.Coercion.{CanCoerce, same, field_or_blank}
use Rattle.fx_types.specs.Faults.{kind_name}
use Rattle.fx_scalar.specs.Errors.{RecordsTell}

-- a value without parts can be coerced to a text
pub text_coercion : (v : Value) → ((fs : List (List ℕ × Data)) → v ≡ Rec fs → ⊥) → ((rs : List (List (List ℕ × Data))) → v ≡ Tab rs → ⊥) → CanCoerce (view v) texts
text_coercion Blank r t = record { from = blanks; fitting = refl; coercion = tt }
text_coercion (Number x) r t = record { from = numbers; fitting = refl; coercion = tt }
text_coercion (Text x) r t = record { from = texts; fitting = refl; coercion = same }
text_coercion (Boolean x) r t = record { from = booleans; fitting = refl; coercion = tt }
text_coercion (Date x) r t = record { from = dates; fitting = refl; coercion = tt }
text_coercion (Rec x) r t = absurd (r x refl)
text_coercion (Tab x) r t = absurd (t x refl)
text_coercion (Fault x) r t = record { from = blanks; fitting = refl; coercion = tt }

-- the name of a kind is spelled by its bytes
pub kind_characters : (k : Kind) → chars (kind_name k) ≡ kind_name k
unfolding chars
kind_characters Div0 = refl
kind_characters Numeric = refl
kind_characters InvalidArgument = refl
kind_characters NotFound = refl
kind_characters MissingRequired = refl
kind_characters ConstraintViolated = refl
kind_characters QuotaExceeded = refl
kind_characters Validation = refl
kind_characters Custom = refl

-- the value under a name that was found, and that of a name that was not
pub value_found : (n : List ℕ) (fs : List (List ℕ × Data)) (d : Data) → Some d ≡ item_named n fs → field_or_blank n (field_list fs) ≡ d
value_found n [] d e = absurd cc
value_found n (f ∷ fs) d e = by (bytes_eq f.0 n) (value_found n fs d) e
  where
    by : (b : Bool) → (Some d ≡ item_named n fs → field_or_blank n (field_list fs) ≡ d) → Some d ≡ (if b then Some f.1 else item_named n fs) →
        (if b then f.1 else field_or_blank n (field_list fs)) ≡ d
    by true r e = cc
    by false r e = r e

pub none_found : (n : List ℕ) (fs : List (List ℕ × Data)) → None ≡ item_named n fs → field_or_blank n (field_list fs) ≡ blank
none_found n [] e = refl
none_found n (f ∷ fs) e = by (bytes_eq f.0 n) (none_found n fs) e
  where
    by : (b : Bool) → (None ≡ item_named n fs → field_or_blank n (field_list fs) ≡ blank) → None ≡ (if b then Some f.1 else item_named n fs) →
        (if b then f.1 else field_or_blank n (field_list fs)) ≡ blank
    by true r e = absurd cc
    by false r e = r e

pub records_tell : RecordsTell
unfolding lib.Utf8.encode
records_tell Div0 cs = (text (kind_name Div0), text cs, refl, refl, refl)
records_tell Numeric cs = (text (kind_name Numeric), text cs, refl, refl, refl)
records_tell InvalidArgument cs = (text (kind_name InvalidArgument), text cs, refl, refl, refl)
records_tell NotFound cs = (text (kind_name NotFound), text cs, refl, refl, refl)
records_tell MissingRequired cs = (text (kind_name MissingRequired), text cs, refl, refl, refl)
records_tell ConstraintViolated cs = (text (kind_name ConstraintViolated), text cs, refl, refl, refl)
records_tell QuotaExceeded cs = (text (kind_name QuotaExceeded), text cs, refl, refl, refl)
records_tell Validation cs = (text (kind_name Validation), text cs, refl, refl, refl)
records_tell Custom cs = (text (kind_name Custom), text cs, refl, refl, refl)
