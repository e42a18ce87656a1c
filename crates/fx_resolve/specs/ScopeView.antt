-- What a scope is seen as.
use Rattle.fx_types.specs.TypeView.{shape}
use Rattle.fx_typing.specs.Meaning as meaning
use Rattle.fx_resolve.specs.declared.scopes.Scope.{Scope}

abbrev pub scope : Scope → meaning.Scope
scope s = record { row_type = shape s.row_type; alias = s.alias; counted = s.counted }
