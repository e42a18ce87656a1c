-- The shape of a keeper after the end of a transaction.
use Rattle.std.proofs.Common.{◌≡◌, ◌∙◌, Bool, true, false, Option, None, ap, refl}
use Rattle.std.specs.Prelude.{cond}
use Rattle.fx_core.specs.declared.schema.Schema.{Schema}
use Rattle.row_keeper.specs.Shaped.{Shaped, gone_back, steady}
use Rattle.sql_keeper.specs.View.{schema_then}

-- one schema, now and then
abbrev both : Option Schema → Shaped
both s = record { now = s; then = s }

ended_both : (with_changes : Bool) (x y : Option Schema) → both (cond with_changes x y) ≡ cond with_changes (steady (record { now = x; then = y })) (gone_back (record { now = x; then = y }))
ended_both true x y = refl
ended_both false x y = refl

pub ended_shape : (with_changes : Bool) (schema after : Option Schema) (was later : Option (Option Schema)) → later ≡ None → after ≡ cond with_changes schema (schema_then schema was)
    → record { now = after; then = schema_then after later } ≡ cond with_changes (steady (record { now = schema; then = schema_then schema was })) (gone_back (record { now = schema; then = schema_then schema was }))
ended_shape with_changes schema after was later n e =
    ap (λ (o : Option (Option Schema)). record { now = after; then = schema_then after o }) n ∙ ap both e ∙ ended_both with_changes schema (schema_then schema was)
