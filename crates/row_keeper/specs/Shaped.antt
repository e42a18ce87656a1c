-- What a keeper is shaped by, and what becomes of that in a transaction.
use Rattle.std.specs.Prelude.{◌≡◌, Option, Some, IfSome}
use Rattle.fx_core.specs.declared.schema.Schema.{Schema}
use Rattle.row_keeper.specs.declared.rows.Reshaped.{Reshaped}
use Rattle.row_keeper.specs.declared.rows.Reshaped.TheVariants.{Done, Broken}

-- the schema now, if any, and the one as the transaction began; between two transactions both are
-- one
pub record Shaped : Type 0 where
  pub now : Option Schema
  pub then : Option Schema

-- shaped by a schema, as the transaction began too
abbrev pub by : Schema → Shaped
by s = record { now = Some s; then = Some s }

-- a transaction begins, or ends with its changes
abbrev pub steady : Shaped → Shaped
steady x = record { now = x.now; then = x.now }

-- a transaction ends without its changes
abbrev pub gone_back : Shaped → Shaped
gone_back x = record { now = x.then; then = x.then }

-- tables have moved to a schema, or a rule broke and none has
abbrev pub shaped_so : Schema → Reshaped → Shaped → Shaped
shaped_so s Done x = record { now = Some s; then = x.then }
shaped_so s (Broken k r) x = x

-- where it still has a shape, it is the one that it had
abbrev pub StaysOrEnds : Shaped → Shaped → Type 0
StaysOrEnds a b = IfSome b.now (λ _. b ≡ a)
