-- Tables that fit a schema.
use Rattle.std.specs.Prelude.{Option, IfSome}
use Rattle.fx_core.specs.declared.schema.Schema.{Schema}
use Rattle.row_keeper.specs.Tables.{AreStatesOf, Tables}

-- where tables are told, each is one of its shape: its rows fit, by rising numbers
abbrev pub AreSound : Schema → Option Tables → Type 0
AreSound schema told = IfSome told (λ (t : Tables). AreStatesOf schema.tables t.states)
