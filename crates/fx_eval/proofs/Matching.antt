-- Values of types that are compared.
use Rattle.std.proofs.Common.{◌≡◌, ℕ, ℤ, List, Bool, true, refl, subst}
use Rattle.fx_types.specs.Types.{Shape, blanks, numbers, texts, booleans, dates, records, tables}
use Rattle.fx_types.specs.Values.{Data, blank, number, text, boolean, date, rec, tab, fault}
use Rattle.fx_eval.specs.Parts.{IsComparable}
use Rattle.fx_scalar.specs.LazyForms.{CanMatch}
use Rattle.fx_typing.specs.Ways.{is_comparable, is_scalar}
use Rattle.fx_value.specs.Fits.{fits_in}

number_type : (x : ℤ) (u : Shape) → fits_in (number x) u ≡ true → u ≡ numbers
number_type x blanks h = absurd cc
number_type x numbers h = refl
number_type x texts h = absurd cc
number_type x booleans h = absurd cc
number_type x dates h = absurd cc
number_type x (records cs) h = absurd cc
number_type x (tables cs) h = absurd cc

beside_number : (x : ℤ) (k : Shape) (d : Data) → is_comparable numbers k ≡ true → fits_in d k ≡ true → CanMatch (number x) d
beside_number x blanks blank e h = tt
beside_number x blanks (number y) e h = absurd cc
beside_number x blanks (text ds) e h = absurd cc
beside_number x blanks (boolean c) e h = absurd cc
beside_number x blanks (date y) e h = absurd cc
beside_number x blanks (rec fs) e h = absurd cc
beside_number x blanks (tab rs) e h = absurd cc
beside_number x blanks (fault q ms) e h = tt
beside_number x numbers blank e h = tt
beside_number x numbers (number y) e h = tt
beside_number x numbers (text ds) e h = absurd cc
beside_number x numbers (boolean c) e h = absurd cc
beside_number x numbers (date y) e h = absurd cc
beside_number x numbers (rec fs) e h = absurd cc
beside_number x numbers (tab rs) e h = absurd cc
beside_number x numbers (fault q ms) e h = tt
beside_number x texts d e h = absurd cc
beside_number x booleans d e h = absurd cc
beside_number x dates d e h = absurd cc
beside_number x (records cs) d e h = absurd cc
beside_number x (tables cs) d e h = absurd cc

text_type : (x : List ℕ) (u : Shape) → fits_in (text x) u ≡ true → u ≡ texts
text_type x blanks h = absurd cc
text_type x numbers h = absurd cc
text_type x texts h = refl
text_type x booleans h = absurd cc
text_type x dates h = absurd cc
text_type x (records cs) h = absurd cc
text_type x (tables cs) h = absurd cc

beside_text : (x : List ℕ) (k : Shape) (d : Data) → is_comparable texts k ≡ true → fits_in d k ≡ true → CanMatch (text x) d
beside_text x blanks blank e h = tt
beside_text x blanks (number y) e h = absurd cc
beside_text x blanks (text ds) e h = absurd cc
beside_text x blanks (boolean c) e h = absurd cc
beside_text x blanks (date y) e h = absurd cc
beside_text x blanks (rec fs) e h = absurd cc
beside_text x blanks (tab rs) e h = absurd cc
beside_text x blanks (fault q ms) e h = tt
beside_text x numbers d e h = absurd cc
beside_text x texts blank e h = tt
beside_text x texts (number y) e h = absurd cc
beside_text x texts (text ds) e h = tt
beside_text x texts (boolean c) e h = absurd cc
beside_text x texts (date y) e h = absurd cc
beside_text x texts (rec fs) e h = absurd cc
beside_text x texts (tab rs) e h = absurd cc
beside_text x texts (fault q ms) e h = tt
beside_text x booleans d e h = absurd cc
beside_text x dates d e h = absurd cc
beside_text x (records cs) d e h = absurd cc
beside_text x (tables cs) d e h = absurd cc

boolean_type : (x : Bool) (u : Shape) → fits_in (boolean x) u ≡ true → u ≡ booleans
boolean_type x blanks h = absurd cc
boolean_type x numbers h = absurd cc
boolean_type x texts h = absurd cc
boolean_type x booleans h = refl
boolean_type x dates h = absurd cc
boolean_type x (records cs) h = absurd cc
boolean_type x (tables cs) h = absurd cc

beside_boolean : (x : Bool) (k : Shape) (d : Data) → is_comparable booleans k ≡ true → fits_in d k ≡ true → CanMatch (boolean x) d
beside_boolean x blanks blank e h = tt
beside_boolean x blanks (number y) e h = absurd cc
beside_boolean x blanks (text ds) e h = absurd cc
beside_boolean x blanks (boolean c) e h = absurd cc
beside_boolean x blanks (date y) e h = absurd cc
beside_boolean x blanks (rec fs) e h = absurd cc
beside_boolean x blanks (tab rs) e h = absurd cc
beside_boolean x blanks (fault q ms) e h = tt
beside_boolean x numbers d e h = absurd cc
beside_boolean x texts d e h = absurd cc
beside_boolean x booleans blank e h = tt
beside_boolean x booleans (number y) e h = absurd cc
beside_boolean x booleans (text ds) e h = absurd cc
beside_boolean x booleans (boolean c) e h = tt
beside_boolean x booleans (date y) e h = absurd cc
beside_boolean x booleans (rec fs) e h = absurd cc
beside_boolean x booleans (tab rs) e h = absurd cc
beside_boolean x booleans (fault q ms) e h = tt
beside_boolean x dates d e h = absurd cc
beside_boolean x (records cs) d e h = absurd cc
beside_boolean x (tables cs) d e h = absurd cc

date_type : (x : ℤ) (u : Shape) → fits_in (date x) u ≡ true → u ≡ dates
date_type x blanks h = absurd cc
date_type x numbers h = absurd cc
date_type x texts h = absurd cc
date_type x booleans h = absurd cc
date_type x dates h = refl
date_type x (records cs) h = absurd cc
date_type x (tables cs) h = absurd cc

beside_date : (x : ℤ) (k : Shape) (d : Data) → is_comparable dates k ≡ true → fits_in d k ≡ true → CanMatch (date x) d
beside_date x blanks blank e h = tt
beside_date x blanks (number y) e h = absurd cc
beside_date x blanks (text ds) e h = absurd cc
beside_date x blanks (boolean c) e h = absurd cc
beside_date x blanks (date y) e h = absurd cc
beside_date x blanks (rec fs) e h = absurd cc
beside_date x blanks (tab rs) e h = absurd cc
beside_date x blanks (fault q ms) e h = tt
beside_date x numbers d e h = absurd cc
beside_date x texts d e h = absurd cc
beside_date x booleans d e h = absurd cc
beside_date x dates blank e h = tt
beside_date x dates (number y) e h = absurd cc
beside_date x dates (text ds) e h = absurd cc
beside_date x dates (boolean c) e h = absurd cc
beside_date x dates (date y) e h = tt
beside_date x dates (rec fs) e h = absurd cc
beside_date x dates (tab rs) e h = absurd cc
beside_date x dates (fault q ms) e h = tt
beside_date x (records cs) d e h = absurd cc
beside_date x (tables cs) d e h = absurd cc

scalar_beside : (u k : Shape) → is_comparable u k ≡ true → is_scalar k ≡ true
scalar_beside blanks blanks e = refl
scalar_beside blanks numbers e = refl
scalar_beside blanks texts e = refl
scalar_beside blanks booleans e = refl
scalar_beside blanks dates e = refl
scalar_beside blanks (records ds) e = absurd cc
scalar_beside blanks (tables ds) e = absurd cc
scalar_beside numbers blanks e = refl
scalar_beside numbers numbers e = refl
scalar_beside numbers texts e = refl
scalar_beside numbers booleans e = refl
scalar_beside numbers dates e = refl
scalar_beside numbers (records ds) e = absurd cc
scalar_beside numbers (tables ds) e = absurd cc
scalar_beside texts blanks e = refl
scalar_beside texts numbers e = refl
scalar_beside texts texts e = refl
scalar_beside texts booleans e = refl
scalar_beside texts dates e = refl
scalar_beside texts (records ds) e = absurd cc
scalar_beside texts (tables ds) e = absurd cc
scalar_beside booleans blanks e = refl
scalar_beside booleans numbers e = refl
scalar_beside booleans texts e = refl
scalar_beside booleans booleans e = refl
scalar_beside booleans dates e = refl
scalar_beside booleans (records ds) e = absurd cc
scalar_beside booleans (tables ds) e = absurd cc
scalar_beside dates blanks e = refl
scalar_beside dates numbers e = refl
scalar_beside dates texts e = refl
scalar_beside dates booleans e = refl
scalar_beside dates dates e = refl
scalar_beside dates (records ds) e = absurd cc
scalar_beside dates (tables ds) e = absurd cc
scalar_beside (records cs) blanks e = refl
scalar_beside (records cs) numbers e = refl
scalar_beside (records cs) texts e = refl
scalar_beside (records cs) booleans e = refl
scalar_beside (records cs) dates e = refl
scalar_beside (records cs) (records ds) e = absurd cc
scalar_beside (records cs) (tables ds) e = absurd cc
scalar_beside (tables cs) blanks e = refl
scalar_beside (tables cs) numbers e = refl
scalar_beside (tables cs) texts e = refl
scalar_beside (tables cs) booleans e = refl
scalar_beside (tables cs) dates e = refl
scalar_beside (tables cs) (records ds) e = absurd cc
scalar_beside (tables cs) (tables ds) e = absurd cc

scalar_before : (u k : Shape) → is_comparable u k ≡ true → is_scalar u ≡ true
scalar_before blanks blanks e = refl
scalar_before blanks numbers e = refl
scalar_before blanks texts e = refl
scalar_before blanks booleans e = refl
scalar_before blanks dates e = refl
scalar_before blanks (records ds) e = refl
scalar_before blanks (tables ds) e = refl
scalar_before numbers blanks e = refl
scalar_before numbers numbers e = refl
scalar_before numbers texts e = refl
scalar_before numbers booleans e = refl
scalar_before numbers dates e = refl
scalar_before numbers (records ds) e = refl
scalar_before numbers (tables ds) e = refl
scalar_before texts blanks e = refl
scalar_before texts numbers e = refl
scalar_before texts texts e = refl
scalar_before texts booleans e = refl
scalar_before texts dates e = refl
scalar_before texts (records ds) e = refl
scalar_before texts (tables ds) e = refl
scalar_before booleans blanks e = refl
scalar_before booleans numbers e = refl
scalar_before booleans texts e = refl
scalar_before booleans booleans e = refl
scalar_before booleans dates e = refl
scalar_before booleans (records ds) e = refl
scalar_before booleans (tables ds) e = refl
scalar_before dates blanks e = refl
scalar_before dates numbers e = refl
scalar_before dates texts e = refl
scalar_before dates booleans e = refl
scalar_before dates dates e = refl
scalar_before dates (records ds) e = refl
scalar_before dates (tables ds) e = refl
scalar_before (records cs) blanks e = absurd cc
scalar_before (records cs) numbers e = absurd cc
scalar_before (records cs) texts e = absurd cc
scalar_before (records cs) booleans e = absurd cc
scalar_before (records cs) dates e = absurd cc
scalar_before (records cs) (records ds) e = absurd cc
scalar_before (records cs) (tables ds) e = absurd cc
scalar_before (tables cs) blanks e = absurd cc
scalar_before (tables cs) numbers e = absurd cc
scalar_before (tables cs) texts e = absurd cc
scalar_before (tables cs) booleans e = absurd cc
scalar_before (tables cs) dates e = absurd cc
scalar_before (tables cs) (records ds) e = absurd cc
scalar_before (tables cs) (tables ds) e = absurd cc

beside_blank : (k : Shape) (d : Data) → is_scalar k ≡ true → fits_in d k ≡ true → CanMatch blank d
beside_blank k blank e h = tt
beside_blank k (number y) e h = tt
beside_blank k (text ds) e h = tt
beside_blank k (boolean c) e h = tt
beside_blank k (date y) e h = tt
beside_blank blanks (rec fs) e h = absurd cc
beside_blank numbers (rec fs) e h = absurd cc
beside_blank texts (rec fs) e h = absurd cc
beside_blank booleans (rec fs) e h = absurd cc
beside_blank dates (rec fs) e h = absurd cc
beside_blank (records cs) (rec fs) e h = absurd cc
beside_blank (tables cs) (rec fs) e h = absurd cc
beside_blank blanks (tab rs) e h = absurd cc
beside_blank numbers (tab rs) e h = absurd cc
beside_blank texts (tab rs) e h = absurd cc
beside_blank booleans (tab rs) e h = absurd cc
beside_blank dates (tab rs) e h = absurd cc
beside_blank (records cs) (tab rs) e h = absurd cc
beside_blank (tables cs) (tab rs) e h = absurd cc
beside_blank k (fault q ms) e h = tt

pub can_match : (w d : Data) (u k : Shape) → IsComparable w u → fits_in d k ≡ true → is_comparable u k ≡ true → CanMatch w d
can_match (number x) d u k p h e = beside_number x k d (subst (λ (z : Shape). is_comparable z k ≡ true) (number_type x u p) e) h
can_match (text x) d u k p h e = beside_text x k d (subst (λ (z : Shape). is_comparable z k ≡ true) (text_type x u p) e) h
can_match (boolean x) d u k p h e = beside_boolean x k d (subst (λ (z : Shape). is_comparable z k ≡ true) (boolean_type x u p) e) h
can_match (date x) d u k p h e = beside_date x k d (subst (λ (z : Shape). is_comparable z k ≡ true) (date_type x u p) e) h
can_match blank d u k p h e = beside_blank k d (scalar_beside u k e) h
can_match (fault q ms) d u k p h e = absurd p
can_match (rec fs) d blanks k p h e = absurd cc
can_match (rec fs) d numbers k p h e = absurd cc
can_match (rec fs) d texts k p h e = absurd cc
can_match (rec fs) d booleans k p h e = absurd cc
can_match (rec fs) d dates k p h e = absurd cc
can_match (rec fs) d (records cs) k p h e = let f : is_scalar (records cs) ≡ true = scalar_before (records cs) k e in absurd cc
can_match (rec fs) d (tables cs) k p h e = absurd cc
can_match (tab rs) d blanks k p h e = absurd cc
can_match (tab rs) d numbers k p h e = absurd cc
can_match (tab rs) d texts k p h e = absurd cc
can_match (tab rs) d booleans k p h e = absurd cc
can_match (tab rs) d dates k p h e = absurd cc
can_match (tab rs) d (records cs) k p h e = absurd cc
can_match (tab rs) d (tables cs) k p h e = let f : is_scalar (tables cs) ≡ true = scalar_before (tables cs) k e in absurd cc
