-- Which values come to a coercion, and what stays as it is.
use Rattle.std.proofs.Common.{◌≡◌, ℕ, ℤ, List, Some, Bool, true, refl}
use Rattle.fx_types.specs.Types.{Shape, blanks, numbers, texts, booleans, dates, records, tables, no_columns}
use Rattle.fx_types.specs.TypeView.{shape}
use Rattle.fx_types.specs.Values.{Data, blank, number, text, boolean, date, fault, rec, tab}
use Rattle.fx_types.specs.ValueView.{view}
use Rattle.fx_types.specs.declared.types.Ty.{Ty}
use Rattle.fx_types.specs.declared.types.Ty.TheVariants.{Blank as BlankTy, Number as NumberTy, Text as TextTy, Boolean as BooleanTy, Date as DateTy, Rec as RecTy, Tab as TabTy}
use Rattle.fx_types.specs.declared.values.Value.{Value}
use Rattle.fx_types.specs.declared.values.Value.TheVariants.{Blank, Number, Text, Boolean, Date, Rec, Tab, Fault}
use Rattle.fx_value.specs.Coercion.{Widens, same, joined, CanWiden, CanCoerce, HasCoercion, IsCoerced}
use Rattle.fx_value.specs.Fits.{fits_in}
use Rattle.fx_value.specs.Join.{join_of}
use Rattle.fx_value.proofs.Unions.{blanks_join}
use Rattle.fx_value.proofs.Widenings.{widens_alike}

-- the pairs of types that have a coercion, by their kinds
abbrev pub IsPair : Shape → Shape → Type 0
IsPair blanks t = Unit {0}
IsPair s blanks = Unit {0}
IsPair numbers numbers = Unit {0}
IsPair numbers texts = Unit {0}
IsPair numbers booleans = Unit {0}
IsPair texts texts = Unit {0}
IsPair texts numbers = Unit {0}
IsPair booleans booleans = Unit {0}
IsPair booleans texts = Unit {0}
IsPair booleans numbers = Unit {0}
IsPair dates dates = Unit {0}
IsPair dates texts = Unit {0}
IsPair (records bs) (records cs) = Unit {0}
IsPair (tables bs) (tables cs) = Unit {0}
IsPair _ _ = ⊥

pair_of : (s t : Shape) → HasCoercion s t → IsPair s t
pair_of blanks t h = tt
pair_of numbers blanks h = tt
pair_of numbers numbers h = tt
pair_of numbers texts h = tt
pair_of numbers booleans h = tt
pair_of numbers t h = let l : t ≡ numbers = widens_alike numbers t h in cc
pair_of texts blanks h = tt
pair_of texts texts h = tt
pair_of texts numbers h = tt
pair_of texts t h = let l : t ≡ texts = widens_alike texts t h in cc
pair_of booleans blanks h = tt
pair_of booleans booleans h = tt
pair_of booleans texts h = tt
pair_of booleans numbers h = tt
pair_of booleans t h = let l : t ≡ booleans = widens_alike booleans t h in cc
pair_of dates blanks h = tt
pair_of dates dates h = tt
pair_of dates texts h = tt
pair_of dates t h = let l : t ≡ dates = widens_alike dates t h in cc
pair_of (records bs) blanks h = tt
pair_of (records bs) (records cs) h = tt
pair_of (records bs) t h = let l = (widens_alike (records bs) t h).1 in cc
pair_of (tables bs) blanks h = tt
pair_of (tables bs) (tables cs) h = tt
pair_of (tables bs) t h = let l = (widens_alike (tables bs) t h).1 in cc

-- the kind of type of a value
abbrev pub own_type : Data → Shape
own_type blank = blanks
own_type (fault k cs) = blanks
own_type (number z) = numbers
own_type (text cs) = texts
own_type (boolean b) = booleans
own_type (date z) = dates
own_type (rec fs) = records no_columns
own_type (tab rs) = tables no_columns

comes_by : (d : Data) (s t : Shape) → fits_in d s ≡ true → IsPair s t → IsPair (own_type d) t
comes_by blank s t f p = tt
comes_by (fault k cs) s t f p = tt
comes_by (number z) numbers t f p = p
comes_by (number z) _ t f p = cc
comes_by (text cs) texts t f p = p
comes_by (text cs) _ t f p = cc
comes_by (boolean b) booleans t f p = p
comes_by (boolean b) _ t f p = cc
comes_by (date z) dates t f p = p
comes_by (date z) _ t f p = cc
comes_by (rec fs) (records bs) blanks f p = tt
comes_by (rec fs) (records bs) (records cs) f p = tt
comes_by (rec fs) (records bs) _ f p = absurd p
comes_by (rec fs) _ t f p = cc
comes_by (tab rs) (tables bs) blanks f p = tt
comes_by (tab rs) (tables bs) (tables cs) f p = tt
comes_by (tab rs) (tables bs) _ f p = absurd p
comes_by (tab rs) _ t f p = cc

comes : (d : Data) (t : Shape) → CanCoerce d t → IsPair (own_type d) t
comes d t can = comes_by d can.from t can.fitting (pair_of can.from t can.coercion)

-- coerced to t, and fitting it
abbrev pub Comes : Data → Shape → Data → Type 0
Comes d t w = IsCoerced d t w × (fits_in w t ≡ true)

pub stays_number : (v : Value) → ((x : Bool) → v ≡ Boolean x → ⊥) → ((x : List ℕ) → v ≡ Text x → ⊥) → CanCoerce (view v) numbers → Comes (view v) numbers (view v)
stays_number Blank b w can = (refl, refl)
stays_number (Fault f) b w can = (refl, refl)
stays_number (Number n) b w can = (refl, refl)
stays_number (Boolean x) b w can = absurd (b x refl)
stays_number (Text x) b w can = absurd (w x refl)
stays_number (Date x) b w can = absurd (comes (date x) numbers can)
stays_number (Rec x) b w can = absurd (comes (view (Rec x)) numbers can)
stays_number (Tab x) b w can = absurd (comes (view (Tab x)) numbers can)

pub stays_text : (v : Value) → ((x : ℤ) → v ≡ Number x → ⊥) → ((x : Bool) → v ≡ Boolean x → ⊥) → ((x : ℤ) → v ≡ Date x → ⊥) → CanCoerce (view v) texts → Comes (view v) texts (view v)
stays_text Blank n b d can = (refl, refl)
stays_text (Fault f) n b d can = (refl, refl)
stays_text (Text x) n b d can = (refl, refl)
stays_text (Number x) n b d can = absurd (n x refl)
stays_text (Boolean x) n b d can = absurd (b x refl)
stays_text (Date x) n b d can = absurd (d x refl)
stays_text (Rec x) n b d can = absurd (comes (view (Rec x)) texts can)
stays_text (Tab x) n b d can = absurd (comes (view (Tab x)) texts can)

pub stays_boolean : (v : Value) → ((x : ℤ) → v ≡ Number x → ⊥) → CanCoerce (view v) booleans → Comes (view v) booleans (view v)
stays_boolean Blank n can = (refl, refl)
stays_boolean (Fault f) n can = (refl, refl)
stays_boolean (Boolean x) n can = (refl, refl)
stays_boolean (Number x) n can = absurd (n x refl)
stays_boolean (Text x) n can = absurd (comes (text x) booleans can)
stays_boolean (Date x) n can = absurd (comes (date x) booleans can)
stays_boolean (Rec x) n can = absurd (comes (view (Rec x)) booleans can)
stays_boolean (Tab x) n can = absurd (comes (view (Tab x)) booleans can)

-- to dates, records and tables values widen
abbrev pub IsWide : Shape → Type 0
IsWide dates = Unit {0}
IsWide (records cs) = Unit {0}
IsWide (tables cs) = Unit {0}
IsWide _ = ⊥

pub is_wide : (t : Ty) → (t ≡ BlankTy → ⊥) → (t ≡ NumberTy → ⊥) → (t ≡ TextTy → ⊥) → (t ≡ BooleanTy → ⊥) → IsWide (shape t)
is_wide BlankTy a b c d = a refl
is_wide NumberTy a b c d = b refl
is_wide TextTy a b c d = c refl
is_wide BooleanTy a b c d = d refl
is_wide DateTy a b c d = tt
is_wide (RecTy cs) a b c d = tt
is_wide (TabTy cs) a b c d = tt

widens_by : (s t : Shape) → IsWide t → HasCoercion s t → Widens s t
widens_by blanks t i h = joined blanks t t same (blanks_join t)
widens_by s (records cs) i h = h
widens_by s (tables cs) i h = h
widens_by s dates i h = h
widens_by s _ i h = absurd i

pub can_widen : (d : Data) (t : Shape) → IsWide t → CanCoerce d t → CanWiden d t
can_widen d t i can = record { from = can.from; fitting = can.fitting; widens = widens_by can.from t i can.coercion }

-- what a type widens to, it has a coercion to
has : (s t : Shape) → Widens s t → HasCoercion s t
has blanks t w = tt
has s blanks w = tt
has numbers texts w = tt
has numbers booleans w = tt
has booleans texts w = tt
has booleans numbers w = tt
has dates texts w = tt
has texts numbers w = tt
has s t w = w

pub join_takes_both : (s u t : Shape) → join_of s u ≡ Some t → (d : Data) → fits_in d s ≡ true → CanCoerce d t
join_takes_both s u t e d f = record { from = s; fitting = f; coercion = has s t (joined s u t same e) }
