-- What sources may give, by their types and by what is told of them.
use Rattle.std.specs.Prelude.{◌≡◌, true, Option, Some, None}
use Rattle.fx_types.specs.Types.{Shape}
use Rattle.fx_types.specs.Values.{Data}
use Rattle.fx_core.specs.declared.sources.Source.{Source}
use Rattle.fx_value.specs.Fits.{fits_in}

-- a source of a type gives what fits it, and one without a type gives nothing
abbrev pub FitsIn : Option Shape → Data → Type 0
FitsIn (Some t) v = fits_in v t ≡ true
FitsIn None v = ⊥

-- where values are told, it is the told one
abbrev pub IsTold : Option (Source → Data) → Source → Data → Type 0
IsTold (Some values) s v = v ≡ values s
IsTold None s v = Unit {0}

abbrev pub Gives : (Source → Option Shape) → Option (Source → Data) → Source → Data → Type 0
Gives types told s v = FitsIn (types s) v × IsTold told s v
