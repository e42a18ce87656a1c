-- What is seen as where a node stands.
use Rattle.std.specs.Prelude.{List}
use Rattle.fx_typing.specs.Parts.{Setting}
use Rattle.fx_typing.specs.Meaning as meaning
use Rattle.fx_resolve.specs.declared.settings.Stand.{Stand}
use Rattle.fx_resolve.specs.PlanView.{grant}

-- the scopes around a node, with what is known beside them
abbrev pub setting : List meaning.Scope → Stand → Setting
setting ss s = record { scopes = ss; catches = s.catches; grant = grant s.grant }
