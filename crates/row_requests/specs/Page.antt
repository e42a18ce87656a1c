-- Rows shown.
use Rattle.std.specs.Prelude.{◌≡◌, ℕ, ◌+◌, ◌≤◌, Bool, nat_lt, List, ◌∷◌, map, take, length, codes}
use Rattle.std.specs.Prelude.{encode_utf8_all, Option, Some, None, IfSome}
use Rattle.std.specs.List.{filter}
use Rattle.serde_json.specs.Data as json
use Rattle.serde_json.specs.Data.{Members, array, member, no_members, object, put, unsigned}
use Rattle.serde_json.specs.View.{items_of}
use Rattle.serde_json.specs.Written.{compact_text}
use Rattle.app_wire.specs.ReplyBytes.{reply}
use Rattle.fx_base.specs.Silence.{MayFallSilent}
use Rattle.fx_types.specs.Values.{Data}
use Rattle.fx_core.specs.declared.schema.Column.{Column}
use Rattle.fx_core.specs.declared.schema.TableShape.{TableShape}
use Rattle.row_queries.specs.declared.rows.Row.{Row}
use Rattle.row_keeper.specs.Tables.{Tables, columns_at, state_at}
use Rattle.view_text.specs.JsonText.{value_data}
use Rattle.row_requests.specs.Changes.{table_index}
use Rattle.numbered_requests.specs.Replies.{plain, refusal_reply}

-- the most rows of a page
abbrev pub most_rows : ℕ
most_rows = 100

-- the values of columns under their names, beside other members, by rising keys
abbrev pub with_values : List Column → List Data → Members → Members
with_values (c ∷ cs) (d ∷ ds) ms = with_values cs ds
    (put (encode_utf8_all c.name) (value_data d) ms)
with_values cs ds ms = ms

-- a row, with its number under `ID`
abbrev pub row_shown : List Column → Row → json.Data
row_shown columns r = object (with_values columns r.cells
    (member (codes "ID") (json.number (unsigned r.id)) no_members))

-- `{"more":..,"rows":[..]}`
abbrev pub page_data : List Column → List Row → Bool → json.Data
page_data columns rows more = object (member (codes "more") (json.boolean more)
    (member (codes "rows") (array (items_of (map (row_shown columns) rows))) no_members))

-- the rows of greater numbers
abbrev pub past : ℕ → List Row → List Row
past after rows = filter (λ (r : Row). nat_lt after r.id) rows

-- what is shown of the rows of greater numbers: at most a page, and whether there are more
abbrev pub page_reply : List Column → List Row → List ℕ
page_reply columns rows = reply 200 (compact_text
    (page_data columns (take most_rows rows) (nat_lt most_rows (length rows))))

-- these are the rows of greater numbers as far as they are shown, and nothing changes
abbrev pub Shows : ℕ → ℕ → List ℕ → List Column → Tables → Tables → Type 0
Shows k after said columns a b = (said ≡ page_reply columns (past after (state_at a.states k).rows))
    × (b ≡ a)

-- some rows are shown
abbrev pub IsPageReply : List Column → List ℕ → Type 0
IsPageReply columns said = (rows : List Row) × (said ≡ page_reply columns rows)

-- the table at a place: what it says is a page, and where the tables are told it is theirs
abbrev pub ShowsTable : Type 0 → List TableShape → Option ℕ → ℕ → Option Tables → List ℕ
    → Option Tables → Type 0
ShowsTable lost shapes None after tables said tables'
    = (said ≡ refusal_reply (plain 21)) × (tables' ≡ tables)
ShowsTable lost shapes (Some k) after tables said tables' =
    MayFallSilent lost (Shows k after said (columns_at shapes k)) tables tables'
    × IsPageReply (columns_at shapes k) said

-- THE route
abbrev pub ShowsPage : Type 0 → List TableShape → List ℕ → ℕ → Option Tables → List ℕ
    → Option Tables → Type 0
ShowsPage lost shapes name after tables said tables'
    = ShowsTable lost shapes (table_index name shapes) after tables said tables'

-- how many rows are visited: where the tables are told, none but those of greater numbers
abbrev pub VisitsTable : Option ℕ → ℕ → Option Tables → ℕ → ℕ → Type 0
VisitsTable None after told before now = now ≡ before
VisitsTable (Some k) after told before now = IfSome told
    (λ (t : Tables). now ≤ before + length (past after (state_at t.states k).rows))

abbrev pub VisitsPage : List TableShape → List ℕ → ℕ → Option Tables → ℕ → ℕ → Type 0
VisitsPage shapes name after told before now = VisitsTable (table_index name shapes) after told
    before now

-- the check that calls no keeper is passed
abbrev pub ReachesPage : List TableShape → List ℕ → Type 0
ReachesPage shapes name = (k : ℕ) × (table_index name shapes ≡ Some k)
