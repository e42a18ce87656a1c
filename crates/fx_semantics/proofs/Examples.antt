-- Values of small trees, worked out by hand.
use Rattle.std.proofs.Common.{[], ◌∷◌, true, false, refl}
use Rattle.std.specs.Prelude.{pos, codes}
use Rattle.fx_types.specs.declared.faults.Kind.TheVariants.{Div0}
use Rattle.fx_types.specs.Values.{blank, number, text, boolean, tab, fault, no_fields, field, no_rows, row}
use Rattle.fx_core.specs.declared.functions.Form.TheVariants as form
use Rattle.fx_core.specs.declared.functions.Fun.TheVariants as fun
use Rattle.fx_core.specs.Term.{Term, of, nil, cons, const, caught, dot, over}
use Rattle.fx_core.specs.Term as top
use Rattle.fx_semantics.specs.Around.{Around}
use Rattle.fx_scalar.specs.Errors.{fault_record}
use Rattle.fx_semantics.specs.Fresh.{IsValue}

abbrev pub error : Term
error = of (const (fault Div0 [])) nil

-- If(false, 1) is blank
pub no_branch : (a : Around) → IsValue a (of (top.form form.If) (cons (of (const (boolean false)) nil) (cons (of (const (number (pos 10000))) nil) nil))) blank
no_branch a = (boolean false, refl, refl)

-- IfError(1/0, FirstError.Kind) is "Div0"
pub caught_kind : (a : Around) → IsValue a (of (top.form form.IfError) (cons error (cons (of (dot (codes "Kind")) (cons (of caught nil) nil)) nil))) (text (codes "Div0"))
caught_kind a = (fault Div0 [], refl, (fault_record Div0 [], refl, refl))

-- true || 1/0 is true: the error isn't reached
pub not_reached : (a : Around) → IsValue a (of (top.form form.Any) (cons (of (const (boolean true)) nil) (cons error nil))) (boolean true)
not_reached a = (boolean true, refl, refl)

-- Filter of no rows never asks its condition, and over one row it answers the condition's error
pub no_rows_kept : (a : Around) → IsValue a (of (over fun.Filter) (cons (of (const (tab no_rows)) nil) (cons error nil))) (tab no_rows)
no_rows_kept a = (tab no_rows, refl, ([], tt, refl))

pub condition_fails : (a : Around) → IsValue a (of (over fun.Filter) (cons (of (const (tab (row (field (codes "Value") (number (pos 10000)) no_fields) no_rows))) nil) (cons error nil))) (fault Div0 [])
condition_fails a = (tab (row (field (codes "Value") (number (pos 10000)) no_fields) no_rows), refl, (fault Div0 [] ∷ [], ((fault Div0 [] ∷ [], (refl, tt), refl), tt), refl))
