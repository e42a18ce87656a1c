-- The kinds of errors by their names.
use Rattle.std.specs.Prelude.{ℕ, List, codes}
use Rattle.fx_types.specs.declared.faults.Kind.{Kind}
use Rattle.fx_types.specs.declared.faults.Kind.TheVariants.{Div0, Numeric, InvalidArgument}
use Rattle.fx_types.specs.declared.faults.Kind.TheVariants.{NotFound, MissingRequired}
use Rattle.fx_types.specs.declared.faults.Kind.TheVariants.{ConstraintViolated, QuotaExceeded}
use Rattle.fx_types.specs.declared.faults.Kind.TheVariants.{Validation, Custom}

-- the name of a kind
abbrev pub kind_name : Kind → List ℕ
kind_name Div0 = codes "Div0"
kind_name Numeric = codes "Numeric"
kind_name InvalidArgument = codes "InvalidArgument"
kind_name NotFound = codes "NotFound"
kind_name MissingRequired = codes "MissingRequired"
kind_name ConstraintViolated = codes "ConstraintViolated"
kind_name QuotaExceeded = codes "QuotaExceeded"
kind_name Validation = codes "Validation"
kind_name Custom = codes "Custom"
