-- A code of scopes, by which proofs tell them apart.
use Rattle.std.specs.Prelude.{ℕ, List, Bool, Option, refl}
use Rattle.std.specs.Coded.{Coded, code_by, coded×, coded_bool, coded_list, coded_option, coded_ℕ}
use Rattle.fx_types.specs.TypeCode.{shape_code}
use Rattle.fx_types.specs.Types.{Shape}
use Rattle.fx_typing.specs.Meaning.{Scope}

abbrev pub scope_code : Coded Scope
scope_code =
    code_by (Shape × (Option (List ℕ) × Bool))
    (coded× shape_code (coded× (coded_option (coded_list coded_ℕ)) coded_bool))
    (λ s. (s.row_type, (s.alias, s.counted)))
    (λ p. record { row_type = p.0; alias = p.1.0; counted = p.1.1 }) (λ _. refl)
