-- What is said of rows as texts of records, and of imports that were accepted.
use Rattle.std.specs.Prelude.{ℕ, ◌-◌, Bool, nat_lt, List, take, length, codes, option_map}
use Rattle.std.specs.Prelude.{slice_get, unwrap_or}
use Rattle.serde_json.specs.Data as json
use Rattle.serde_json.specs.Data.{member, no_members, object, unsigned}
use Rattle.serde_json.specs.Written.{compact_text}
use Rattle.app_wire.specs.ReplyBytes.{reply}
use Rattle.fx_core.specs.declared.schema.Column.{Column}
use Rattle.row_queries.specs.declared.rows.Row.{Row}
use Rattle.row_files.specs.Pages.{page_text}
use Rattle.row_imports.specs.declared.imports.Counts.{Counts}

-- the number of the last of these rows, or the one after which they were asked for
abbrev pub last_shown : ℕ → List Row → ℕ
last_shown after rows = unwrap_or
    (option_map (λ (r : Row). r.id) (slice_get rows (length rows - 1))) after

-- `{"csv":..,"last":..,"more":..}`
abbrev pub page_data : List Column → ℕ → List Row → Bool → json.Data
page_data columns after rows more = object
    (member (codes "csv") (json.string (page_text columns rows))
    (member (codes "last") (json.number (unsigned (last_shown after rows)))
    (member (codes "more") (json.boolean more) no_members)))

-- what is shown of the rows of greater numbers: at most a page, and whether there are more
abbrev pub page_reply : List Column → ℕ → List Row → List ℕ
page_reply columns after rows = reply 200 (compact_text
    (page_data columns after (take 1000 rows) (nat_lt 1000 (length rows))))

-- `{"added":..,"changed":..,"seq":..}`
abbrev pub counts_data : ℕ → Counts → json.Data
counts_data seq c = object (member (codes "added") (json.number (unsigned c.added))
    (member (codes "changed") (json.number (unsigned c.changed))
    (member (codes "seq") (json.number (unsigned seq)) no_members)))

-- what is said of an import that was accepted
abbrev pub counts_reply : ℕ → Counts → List ℕ
counts_reply seq c = reply 200 (compact_text (counts_data seq c))
