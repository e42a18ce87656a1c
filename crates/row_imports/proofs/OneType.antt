-- The values of one column are of one type.
use Rattle.std.proofs.Common.{◌≡◌, ℕ, true, List, refl, subst}
use Rattle.fx_types.specs.Types.{Shape, blanks, numbers, texts, booleans, dates, records, tables}
use Rattle.fx_types.specs.Values.{Data, blank, number, text, boolean, date, rec, tab, fault}
use Rattle.fx_value.specs.Order.{AreOfOneType, IsScalar}
use Rattle.fx_value.specs.Fits.{fits_in}
use Rattle.std.specs.Prelude.{Bool}

number_shape : (z : _) (t : Shape) → fits_in (number z) t ≡ true → t ≡ numbers
number_shape z blanks h = absurd cc
number_shape z numbers h = refl
number_shape z texts h = absurd cc
number_shape z booleans h = absurd cc
number_shape z dates h = absurd cc
number_shape z (records cs) h = absurd cc
number_shape z (tables cs) h = absurd cc

text_shape : (cs : List ℕ) (t : Shape) → fits_in (text cs) t ≡ true → t ≡ texts
text_shape z blanks h = absurd cc
text_shape z numbers h = absurd cc
text_shape z texts h = refl
text_shape z booleans h = absurd cc
text_shape z dates h = absurd cc
text_shape z (records cs) h = absurd cc
text_shape z (tables cs) h = absurd cc

boolean_shape : (b : Bool) (t : Shape) → fits_in (boolean b) t ≡ true → t ≡ booleans
boolean_shape z blanks h = absurd cc
boolean_shape z numbers h = absurd cc
boolean_shape z texts h = absurd cc
boolean_shape z booleans h = refl
boolean_shape z dates h = absurd cc
boolean_shape z (records cs) h = absurd cc
boolean_shape z (tables cs) h = absurd cc

date_shape : (z : _) (t : Shape) → fits_in (date z) t ≡ true → t ≡ dates
date_shape z blanks h = absurd cc
date_shape z numbers h = absurd cc
date_shape z texts h = absurd cc
date_shape z booleans h = absurd cc
date_shape z dates h = refl
date_shape z (records cs) h = absurd cc
date_shape z (tables cs) h = absurd cc

pub one_type : (a b : Data) (t : Shape) → IsScalar a → IsScalar b → fits_in a t ≡ true → fits_in b t ≡ true → AreOfOneType a b
one_type (rec fs) b t p q h k = absurd p
one_type (tab rs) b t p q h k = absurd p
one_type (fault e cs) b t p q h k = absurd p
one_type blank b t p q h k = q
one_type (number z) b t p q h k = by b q (subst (λ s. fits_in b s ≡ true) (number_shape z t h) k)
  where
    by : (b : Data) → IsScalar b → fits_in b numbers ≡ true → AreOfOneType (number z) b
    by blank q k = tt
    by (number w) q k = tt
    by (text w) q k = absurd cc
    by (boolean w) q k = absurd cc
    by (date w) q k = absurd cc
    by (rec w) q k = absurd q
    by (tab w) q k = absurd q
    by (fault e w) q k = absurd q
one_type (text z) b t p q h k = by b q (subst (λ s. fits_in b s ≡ true) (text_shape z t h) k)
  where
    by : (b : Data) → IsScalar b → fits_in b texts ≡ true → AreOfOneType (text z) b
    by blank q k = tt
    by (number w) q k = absurd cc
    by (text w) q k = tt
    by (boolean w) q k = absurd cc
    by (date w) q k = absurd cc
    by (rec w) q k = absurd q
    by (tab w) q k = absurd q
    by (fault e w) q k = absurd q
one_type (boolean z) b t p q h k = by b q (subst (λ s. fits_in b s ≡ true) (boolean_shape z t h) k)
  where
    by : (b : Data) → IsScalar b → fits_in b booleans ≡ true → AreOfOneType (boolean z) b
    by blank q k = tt
    by (number w) q k = absurd cc
    by (text w) q k = absurd cc
    by (boolean w) q k = tt
    by (date w) q k = absurd cc
    by (rec w) q k = absurd q
    by (tab w) q k = absurd q
    by (fault e w) q k = absurd q
one_type (date z) b t p q h k = by b q (subst (λ s. fits_in b s ≡ true) (date_shape z t h) k)
  where
    by : (b : Data) → IsScalar b → fits_in b dates ≡ true → AreOfOneType (date z) b
    by blank q k = tt
    by (number w) q k = absurd cc
    by (text w) q k = absurd cc
    by (boolean w) q k = absurd cc
    by (date w) q k = tt
    by (rec w) q k = absurd q
    by (tab w) q k = absurd q
    by (fault e w) q k = absurd q
