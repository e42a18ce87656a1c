-- The batch of a page is the cells of its rows.
use Rattle.std.proofs.Common.{◌≡◌, ◌∙◌, ℕ, ◌+◌, ◌-◌, ◌≤◌, ◌==◌, true, false, not, cond, nat_lt, List, [], ◌∷◌, length, map, Option, Some, None, refl, sym, ap, ap₂, subst, arith}
use Rattle.std.specs.Prelude.{encode_utf8_all, option_map, unwrap_or, IsSome, Ok}
use Rattle.std.specs.List.{AllByRecursion, position}
use Rattle.std.specs.Str.{all_scalars}
use Rattle.std.proofs.lemmas.Bool.{eq-eqb, false≢true}
use Rattle.std.proofs.lemmas.Bool.Decides.{nat_tests}
use Rattle.std.proofs.lemmas.List.{length-map}
use Rattle.std.proofs.lemmas.Option.{slice_get_within}
use Rattle.std.proofs.lemmas.Str.{chars-encodes}
use Rattle.csv.specs.Reading.{strip_bom}
use Rattle.fx_types.specs.Words.{scalars_of}
use Rattle.fx_core.specs.declared.schema.Column.{Column}
use Rattle.field_texts.specs.Fields.{field_of}
use Rattle.row_queries.specs.TableRows.{value_at}
use Rattle.row_queries.specs.declared.rows.Row.{Row}
use Rattle.row_files.specs.Batches.{IsBatchOf, batch_in, batch_of, batch_with, column_at, count_refusal, header_of, key_place, lacking_key, length_refusal, lines_of, numbers_of, refused_name}
use Rattle.row_files.specs.Ends.{and_then, unless}
use Rattle.row_files.specs.Laws.{AreKeys, AreNamed, AreTold, PagesReadBack, batch_of_rows, numbers_from}
use Rattle.row_files.specs.Pages.{names_of, page_text, row_fields}
use Rattle.row_files.specs.Records.{AreRecordsOf, Fields, records_text}
use Rattle.row_files.specs.declared.ends.BatchEnd.TheVariants.{Refused}
use Rattle.row_files.specs.declared.ends.ImportRule.TheVariants as rule
use Rattle.row_files.proofs.Places.{all_numbers, key_among, name, no_bad, place_from, position_none}
use Rattle.row_files.proofs.PlainStarts.{record_plain}
use Rattle.row_files.proofs.Reading.{HasField, written_is_read}
use Rattle.row_files.proofs.Told.{all_new, as_many, lines_back}

-- ---- the records

has_field : (fs : Fields) → 1 ≤ length fs → HasField fs
has_field [] h = absurd (omega (arith, h))
has_field (f ∷ fs) h = tt

row_width : (columns : List Column) (r : Row) → AreTold columns r.cells → length (row_fields r) ≡ length columns
row_width columns r t = length-map r.cells field_of ∙ as_many columns r.cells t.fit

rows_have : (columns : List Column) (rows : List Row) → 1 ≤ length columns → AllByRecursion (λ (r : Row). AreTold columns r.cells) rows → AllByRecursion HasField (map row_fields rows)
rows_have columns [] h t = tt
rows_have columns (r ∷ rs) h t = (has_field (row_fields r) (subst (λ n. 1 ≤ n) (sym (row_width columns r t.0)) h), rows_have columns rs h t.1)

names_width : (columns : List Column) → length (names_of columns) ≡ length columns
names_width columns = length-map columns (λ (c : Column). encode_utf8_all c.name)

plain_page : (columns : List Column) (rows : List Row) → 1 ≤ length columns → AreNamed columns → strip_bom (page_text columns rows) ≡ page_text columns rows
plain_page [] rows h n = absurd (omega (arith, h))
plain_page (c ∷ cs) rows h n = record_plain c.name (names_of cs) n.plain (records_text (map row_fields rows))

pub page_records : (columns : List Column) (rows : List Row) → 1 ≤ length columns → AreNamed columns → AllByRecursion (λ (r : Row). AreTold columns r.cells) rows
    → AreRecordsOf (page_text columns rows) (names_of columns ∷ map row_fields rows)
page_records columns rows h n t =
    written_is_read (names_of columns ∷ map row_fields rows) (has_field (names_of columns) (subst (λ k. 1 ≤ k) (sym (names_width columns)) h), rows_have columns rows h t) (plain_page columns rows h n)

-- ---- the header

names_back : (columns : List Column) → AllByRecursion (λ (c : Column). all_scalars c.name ≡ true) columns → map scalars_of (names_of columns) ≡ map name columns
names_back [] h = refl
names_back (c ∷ cs) h = ap₂ (λ n ns. n ∷ ns) (chars-encodes c.name h.0) (names_back cs h.1)

header_back : (columns : List Column) (key : ℕ) (c : Column) → column_at columns key ≡ Some c → AreNamed columns → header_of columns key (map scalars_of (names_of columns)) ≡ Ok (numbers_from 1 columns)
header_back columns key c at n =
    let there : lacking_key (column_at columns key) (map name columns) ≡ None =
    ap (λ o. lacking_key o (map name columns)) at ∙ ap (λ b. cond b None (Some c.name)) (key_among columns key c at) in
    ap (header_of columns key) (names_back columns n.texts)
    ∙ ap₂ (λ o p. unless (refused_name o) (unless (refused_name p) (Ok (numbers_of columns (map name columns))))) (no_bad columns [] columns refl n.distinct) there
    ∙ ap Ok (all_numbers columns [] columns refl n.distinct)

-- ---- lengths and counts

widths : (columns : List Column) (rows : List Row) → AllByRecursion (λ (r : Row). AreTold columns r.cells) rows → AllByRecursion (λ (r : Fields). not (length r == length (names_of columns)) ≡ false) (map row_fields rows)
widths columns [] t = tt
widths columns (r ∷ rs) t = (ap not (eq-eqb (length (row_fields r)) (length (names_of columns)) (row_width columns r t.0 ∙ sym (names_width columns))), widths columns rs t.1)

no_odd : (columns : List Column) (rows : List Row) → AllByRecursion (λ (r : Row). AreTold columns r.cells) rows → length_refusal (length (names_of columns)) (map row_fields rows) ≡ None
no_odd columns rows t = ap (option_map (λ i. Refused (i + 1) [] rule.Csv)) (position_none (λ (r : Fields). not (length r == length (names_of columns))) (map row_fields rows) (widths columns rows t))

few : (n : ℕ) → n ≤ 1000 → nat_lt 1000 n ≡ false
few n h = grind (arith, nat_tests, h)

-- ---- the batch

key_stands : (columns : List Column) (key : ℕ) (c : Column) → 1 ≤ key → column_at columns key ≡ Some c → key_place key (numbers_from 1 columns) ≡ key - 1
key_stands columns key c h at =
    let k : 1 + (key - 1) ≡ key = omega (arith, h) in
    ap (λ (o : Option ℕ). unwrap_or o 0) (ap (λ n. position (λ m. m == n) (numbers_from 1 columns)) (sym k) ∙ place_from columns 1 (key - 1) (slice_get_within columns (key - 1) c at))

pub batch_back : (columns : List Column) (key : ℕ) (rows : List Row) (c : Column) → 1 ≤ key → column_at columns key ≡ Some c → AreNamed columns → AllByRecursion (λ (r : Row). AreTold columns r.cells) rows
    → AreKeys (map (λ (r : Row). value_at r.cells (key - 1)) rows) → length rows ≤ 1000
    → batch_of columns key (names_of columns ∷ map row_fields rows) ≡ Ok (batch_of_rows columns rows)
batch_back columns key rows c h at n t k w =
    let lines : lines_of columns key (numbers_from 1 columns) [] (map row_fields rows) ≡ Ok (map (λ (r : Row). r.cells) rows) =
    lines_back columns key (numbers_from 1 columns) (key - 1) (key_stands columns key c h at) refl [] rows t k (all_new columns key (numbers_from 1 columns) (key - 1) (key_stands columns key c h at) refl rows) in
    let count : count_refusal (length (map row_fields rows)) ≡ None = ap (λ b. cond b (Some (Refused 1001 [] rule.Long)) None) (few (length (map row_fields rows)) (subst (λ m. m ≤ 1000) (sym (length-map rows row_fields)) w)) in
    ap₂ (λ o r. unless o (and_then r (batch_in columns key (map row_fields rows)))) (no_odd columns rows t) (header_back columns key c at n)
    ∙ ap₂ (λ o r. unless o (and_then r (batch_with (numbers_from 1 columns)))) count lines

pub pages_law : PagesReadBack
pages_law columns key rows h some n t k w = by (column_at columns key) refl some
  where
    by : (o : Option Column) → column_at columns key ≡ o → IsSome o → IsBatchOf columns key (page_text columns rows) (Ok (batch_of_rows columns rows))
    by None e s = absurd (false≢true s)
    by (Some c) e s =
        (names_of columns ∷ map row_fields rows, page_records columns rows (omega (arith, slice_get_within columns (key - 1) c e)) n t, batch_back columns key rows c h e n t k w)
