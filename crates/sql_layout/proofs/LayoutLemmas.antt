-- The parts of a schema make it.
use Rattle.std.proofs.Common.{◌≡◌, [], ◌∙◌, ap, refl, sym}
use Rattle.std.specs.Fmt.{digits}
use Rattle.sqlite.specs.Schema.{Schema}
use Rattle.sql_meanings.specs.Schema.{kept_schema}
use Rattle.sql_layout.specs.Plain.{kept_indexes, kept_tables}

-- these are the tables after the four statements that make them
kept_is : record { tables = kept_tables; indexes = kept_indexes; views = [] } ≡ kept_schema
unfolding digits
kept_is = refl

pub all_kept : (s : Schema) → s.tables ≡ kept_tables → s.indexes ≡ kept_indexes → s.views ≡ [] → s ≡ kept_schema
all_kept s t i v = ap (λ ts. record { tables = ts; indexes = s.indexes; views = s.views }) t ∙ ap (λ is. record { tables = kept_tables; indexes = is; views = s.views }) i
    ∙ ap (λ vs. record { tables = kept_tables; indexes = kept_indexes; views = vs }) v ∙ kept_is

pub tables_of_kept : (s : Schema) → s ≡ kept_schema → s.tables ≡ kept_tables
tables_of_kept s same = ap (λ (t : Schema). t.tables) (same ∙ sym kept_is)

pub indexes_of_kept : (s : Schema) → s ≡ kept_schema → s.indexes ≡ kept_indexes
indexes_of_kept s same = ap (λ (t : Schema). t.indexes) (same ∙ sym kept_is)
