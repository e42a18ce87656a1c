-- What is told goes on, and what is counted with it.
use Rattle.std.proofs.Common.{◌≡◌, ℤ, List, Option, Some, None, refl, sym, subst}
use Rattle.std.specs.Prelude.{IfSome}
use Rattle.fx_base.specs.Silence.{MayFallSilent}
use Rattle.fx_base.specs.Telling.{Stays}
use Rattle.fx_core.specs.declared.schema.Schema.{Schema}
use Rattle.row_keeper.specs.Tables.{Tables, shapes_of}
use Rattle.row_counts.specs.Right.{AreCounted, AreOf, HaveProperRows}

-- what holds of tables that are told goes on to hold
pub goes_on : (lost : Type 0) (P : Tables → Tables → Type 0) (Q R : Tables → Type 0) (a b : Option Tables) → MayFallSilent lost P a b → ((s t : Tables) → a ≡ Some s → P s t → Q s → R t) → IfSome a Q → IfSome b R
goes_on lost P Q R None None g step q = tt
goes_on lost P Q R None (Some b) g step q = absurd cc
goes_on lost P Q R (Some a) None g step q = tt
goes_on lost P Q R (Some a) (Some b) g step q = step a b refl g q

-- tables that stay
pub stays_on : (lost : Type 0) (Q : Tables → Type 0) (a b : Option Tables) → MayFallSilent lost Stays a b → IfSome a Q → IfSome b Q
stays_on lost Q a b g q = goes_on lost Stays Q Q a b g (λ s t e p h. subst Q (sym p) h) q

pub counted_stays : (lost : Type 0) (schema schema' : Option Schema) (counted counted' : List (List (List ℤ))) (a b : Option Tables) → MayFallSilent lost Stays a b → schema' ≡ schema → counted' ≡ counted
    → AreCounted schema counted a → AreCounted schema' counted' b
counted_stays lost schema schema' counted counted' a b g e f h =
    subst (λ (s : Option Schema). AreCounted s counted' b) (sym e) (subst (λ c. AreCounted schema c b) (sym f) (record {
      right = stays_on lost (AreOf counted) a b g h.right;
      rows = h.rows;
      complete = h.complete;
      proper = stays_on lost (HaveProperRows (shapes_of schema)) a b g h.proper;
    }))
