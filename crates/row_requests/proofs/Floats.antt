-- No float stands in what is written here.
use Rattle.std.proofs.Common.{◌≡◌, ℕ, Bool, true, false, List, [], ◌∷◌, map, refl, unsigned_abs, ◌%◌, ◌||◌}
use Rattle.std.specs.Prelude.{◌==◌, codes, encode_utf8_all}
use Rattle.std.specs.Cmp.Lexicographic.{slice_cmp}
use Rattle.std.specs.Ordering.{match_ordering, nat_cmp}
use Rattle.std.specs.declared.cmp.Ordering.{Ordering}
use Rattle.std.specs.declared.cmp.Ordering.TheVariants.{Less, Equal, Greater}
use Rattle.fx_number.specs.Spelling.{text_of}
use Rattle.serde_json.specs.Data as json
use Rattle.serde_json.specs.Data.{Members, member, no_members, put, unsigned}
use Rattle.serde_json.specs.View.{items_of}
use Rattle.serde_json.specs.Written.{has_float, items_have_float, members_have_float}
use Rattle.serde_json.specs.Find.{of_integer}
use Rattle.std.proofs.lemmas.Bool.{or_from}
use Rattle.fx_types.specs.Values.{Data, blank, number, text, boolean, date, rec, tab, fault}
use Rattle.fx_core.specs.declared.schema.Column.{Column}
use Rattle.fx_value.specs.Order.{IsScalar}
use Rattle.row_queries.specs.TableRows.{AreCellsOf}
use Rattle.row_queries.specs.declared.rows.Row.{Row}
use Rattle.view_text.specs.JsonText.{tagged, value_data, whole_units}
use Rattle.view_text.proofs.Floats.{either_has_none, integer_has_none}
use Rattle.row_requests.specs.DeskRows.{accepted_data, ids_data}
use Rattle.row_requests.specs.Page.{page_data, row_shown, with_values}
use Rattle.row_requests.specs.PageRows.{AreShown}

scalar_has_none : (d : Data) → IsScalar d → has_float (value_data d) ≡ false
scalar_has_none blank h = refl
scalar_has_none (number z) h = either_has_none (unsigned_abs z % 10000 == 0) (json.number (of_integer (whole_units z))) (tagged (codes "n") (json.string (text_of z))) (integer_has_none (whole_units z)) refl
scalar_has_none (text cs) h = refl
scalar_has_none (boolean b) h = refl
scalar_has_none (date z) h = refl
scalar_has_none (rec fs) h = absurd h
scalar_has_none (tab rs) h = absurd h
scalar_has_none (fault k cs) h = absurd h

first_false : (a b : Bool) → (a || b) ≡ false → a ≡ false
first_false true b h = h
first_false false b h = refl

second_false : (a b : Bool) → (a || b) ≡ false → b ≡ false
second_false true b h = absurd cc
second_false false b h = h

put_has_none : (k : List ℕ) (d : json.Data) (ms : Members) → has_float d ≡ false → members_have_float ms ≡ false → members_have_float (put k d ms) ≡ false
put_has_none k d no_members h e = or_from (has_float d) false h refl
put_has_none k d (member l x ms) h e = by (slice_cmp nat_cmp k l) (put_has_none k d ms h (second_false (has_float x) (members_have_float ms) e))
  where
    by : (o : Ordering) → members_have_float (put k d ms) ≡ false
        → members_have_float (match_ordering o (member k d (member l x ms)) (member l d ms) (member l x (put k d ms))) ≡ false
    by Less rest = or_from (has_float d) (members_have_float (member l x ms)) h e
    by Equal rest = or_from (has_float d) (members_have_float ms) h (second_false (has_float x) (members_have_float ms) e)
    by Greater rest = or_from (has_float x) (members_have_float (put k d ms)) (first_false (has_float x) (members_have_float ms) e) rest

values_have_none : (columns : List Column) (cells : List Data) (ms : Members) → AreCellsOf columns cells → members_have_float ms ≡ false → members_have_float (with_values columns cells ms) ≡ false
values_have_none [] [] ms h e = e
values_have_none [] (d ∷ ds) ms h e = absurd h
values_have_none (c ∷ cs) [] ms h e = absurd h
values_have_none (c ∷ cs) (d ∷ ds) ms h e =
    values_have_none cs ds (put (encode_utf8_all c.name) (value_data d) ms) h.2 (put_has_none (encode_utf8_all c.name) (value_data d) ms (scalar_has_none d h.0) e)

rows_have_none : (columns : List Column) (rows : List Row) → AreShown columns rows → items_have_float (items_of (map (row_shown columns) rows)) ≡ false
rows_have_none columns [] h = refl
rows_have_none columns (r ∷ rows) h =
    or_from (has_float (row_shown columns r)) (items_have_float (items_of (map (row_shown columns) rows)))
    (values_have_none columns r.cells (member (codes "ID") (json.number (unsigned r.id)) no_members) h.0 refl) (rows_have_none columns rows h.1)

pub page_has_none : (columns : List Column) (rows : List Row) (more : Bool) → AreShown columns rows → has_float (page_data columns rows more) ≡ false
page_has_none columns rows more h = or_from (items_have_float (items_of (map (row_shown columns) rows))) false (rows_have_none columns rows h) refl

ids_have_none : (ids : List ℕ) → items_have_float (items_of (map ids_data ids)) ≡ false
ids_have_none [] = refl
ids_have_none (id ∷ ids) = ids_have_none ids

pub accepted_has_none : (seq : ℕ) (ids : List ℕ) → has_float (accepted_data seq ids) ≡ false
accepted_has_none seq ids = or_from (items_have_float (items_of (map ids_data ids))) false (ids_have_none ids) refl
