-- What is written in a field is read back.
use Rattle.std.proofs.Common.{◌≡◌, ◌≢◌, ℕ, true, false, List, [], ◌∷◌, Some, refl, ap, sym, subst, ◌∙◌}
use Rattle.std.specs.Prelude.{ℤ, encode_utf8_all, option_and_then, option_map}
use Rattle.std.specs.Str.{all_scalars, chars}
use Rattle.std.proofs.lemmas.Str.{chars-encodes}
use Rattle.fx_number.specs.Decimal.{IsInRange}
use Rattle.fx_number.specs.Spelling.{text_of}
use Rattle.fx_number.proofs.LeftToRight.{spelled-Spells}
use Rattle.fx_number.proofs.Written.{Spells-text_of}
use Rattle.fx_types.specs.DateText.{date_text}
use Rattle.fx_types.specs.Types.{Shape, numbers, texts, booleans, dates}
use Rattle.fx_types.specs.Values.{blank, number, text, boolean, date, rec, tab, fault}
use Rattle.field_texts.specs.Fields.{FieldsReadBack, spelled_in, value_of}
use Rattle.field_texts.specs.Spelled.{spelled_number, units_in_range}
use Rattle.field_texts.proofs.Days.{is_spelled}
use Rattle.field_texts.proofs.Numbers.{range_some}

not_empty : (t : Shape) (s : List ℕ) → s ≢ [] → value_of t s ≡ spelled_in t s
not_empty t [] h = absurd (h refl)
not_empty t (c ∷ cs) h = refl

number_back : (z : ℤ) → IsInRange z → spelled_number (text_of z) ≡ Some z
number_back z h = ap (option_and_then units_in_range) (spelled-Spells (text_of z) z (Spells-text_of z h)) ∙ range_some z h

-- an empty text spells no number
has_digits : (z : ℤ) → IsInRange z → text_of z ≢ []
has_digits z h = λ e. let k : spelled_number [] ≡ Some z = subst (λ s. spelled_number s ≡ Some z) e (number_back z h) in absurd cc

has_bytes : (cs : List ℕ) → all_scalars cs ≡ true → text cs ≢ text [] → encode_utf8_all cs ≢ []
unfolding chars
has_bytes cs h n = λ e. n (ap text (sym (chars-encodes cs h) ∙ ap chars e))

pub back : FieldsReadBack
back t blank s p f n = refl
back numbers (number z) s p f n = not_empty numbers (text_of z) (has_digits z p) ∙ ap (option_map number) (number_back z p)
back texts (text cs) s p f n = not_empty texts (encode_utf8_all cs) (has_bytes cs p n) ∙ ap (λ x. Some (text x)) (chars-encodes cs p)
back booleans (boolean true) s p f n = refl
back booleans (boolean false) s p f n = refl
back dates (date z) s p f n = ap (option_map date) (is_spelled z (date_text z) p refl)
back t (rec fs) s p f n = absurd s
back t (tab rs) s p f n = absurd s
back t (fault k cs) s p f n = absurd s
back t d s p f n = absurd cc
