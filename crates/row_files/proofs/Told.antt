-- Rows whose fields are read back as lines.
use Rattle.std.proofs.Common.{◌≡◌, ◌≢◌, ◌∙◌, ℕ, suc, ◌+◌, ◌||◌, Bool, true, false, cond, List, [], ◌∷◌, ◌++◌, length, map, Option, Some, None, refl, sym, ap, ap₂, append_assoc}
use Rattle.std.specs.Prelude.{option_map, unwrap_or, Ok, Err}
use Rattle.std.specs.List.{AllByRecursion, list_any}
use Rattle.std.specs.Ordering.{is_eq}
use Rattle.std.proofs.lemmas.List.{append-nil}
use Rattle.fx_types.specs.TypeView.{shape}
use Rattle.fx_types.specs.Values.{Data, blank, number, text, boolean, date, rec, tab, fault}
use Rattle.fx_core.specs.declared.schema.Column.{Column}
use Rattle.fx_value.specs.Keys.{IsProper}
use Rattle.fx_value.specs.Order.{order}
use Rattle.field_texts.specs.Fields.{field_of}
use Rattle.field_texts.proofs.ReadBack.{back}
use Rattle.row_queries.specs.TableRows.{AreCellsOf, value_at}
use Rattle.row_queries.specs.declared.rows.Row.{Row}
use Rattle.row_files.specs.Batches.{cell_of, cells_of, column_at, has_key, key_place, key_refusal, key_rule, line_of, lines_of, name_at}
use Rattle.row_files.specs.Ends.{and_then, unless}
use Rattle.row_files.specs.Laws.{AreKeys, AreTold, numbers_from}
use Rattle.row_files.specs.Pages.{row_fields}
use Rattle.row_files.specs.declared.ends.BatchEnd.TheVariants.{Refused}
use Rattle.row_files.specs.declared.ends.ImportRule.TheVariants as rule
use Rattle.row_files.proofs.Places.{column_mid, one_more, longer}

pub as_many : (cs : List Column) (ds : List Data) → AreCellsOf cs ds → length ds ≡ length cs
as_many [] [] h = refl
as_many (c ∷ cs) (d ∷ ds) h = ap suc (as_many cs ds h.2)
as_many [] (d ∷ ds) h = absurd h
as_many (c ∷ cs) [] h = absurd h

-- the fields of cells are read back
pub cells_back : (columns front rest : List Column) (at : ℕ) (ds : List Data) → columns ≡ front ++ rest → AreCellsOf rest ds → AllByRecursion IsProper ds → AllByRecursion (λ (d : Data). d ≢ text []) ds
    → cells_of columns at (numbers_from (length front + 1) rest) (map field_of ds) ≡ Ok ds
cells_back columns front [] at [] e h p t = refl
cells_back columns front [] at (d ∷ ds) e h p t = absurd h
cells_back columns front (c ∷ rest) at [] e h p t = absurd h
cells_back columns front (c ∷ rest) at (d ∷ ds) e h p t =
    let here : cell_of (column_at columns (length front + 1)) at (field_of d) ≡ Ok d =
    ap (λ o. cell_of o at (field_of d)) (column_mid columns front c rest e)
    ∙ ap (λ (o : Option Data). unwrap_or (option_map Ok o) (Err (Refused at c.name rule.Kind))) (back (shape c.ty) d h.0 p.0 h.1 t.0) in
    let others = ap (λ k. cells_of columns at (numbers_from (k + 1) rest) (map field_of ds)) (sym (longer front c)) ∙ cells_back columns (front ++ c ∷ []) rest at ds (one_more front c rest columns e) h.2 p.1 t.1 in
    ap₂ (λ r s. and_then r (λ x. and_then s (λ xs. Ok (x ∷ xs)))) here others

-- a key that isn't blank, and that no line before has
key_fine : (place : ℕ) (before : List (List Data)) (d : Data) → d ≢ blank → list_any (has_key place d) before ≡ false → key_rule place before d ≡ None
key_fine place before blank n h = absurd (n refl)
key_fine place before (number z) n h = ap (λ b. cond b (Some rule.Twice) None) h
key_fine place before (text cs) n h = ap (λ b. cond b (Some rule.Twice) None) h
key_fine place before (boolean b) n h = ap (λ b. cond b (Some rule.Twice) None) h
key_fine place before (date z) n h = ap (λ b. cond b (Some rule.Twice) None) h
key_fine place before (rec fs) n h = ap (λ b. cond b (Some rule.Twice) None) h
key_fine place before (tab rs) n h = ap (λ b. cond b (Some rule.Twice) None) h
key_fine place before (fault k cs) n h = ap (λ b. cond b (Some rule.Twice) None) h

module _ (columns : List Column) (key : ℕ) (numbers : List ℕ) (place : ℕ) (at_place : key_place key numbers ≡ place) (all : numbers ≡ numbers_from 1 columns) where
  line_back : (before : List (List Data)) (ds : List Data) → AreTold columns ds → value_at ds place ≢ blank → list_any (has_key place (value_at ds place)) before ≡ false
      → line_of columns key numbers before (map field_of ds) ≡ Ok ds
  line_back before ds t n h =
      let cells : cells_of columns (length before + 1) numbers (map field_of ds) ≡ Ok ds =
      ap (λ ks. cells_of columns (length before + 1) ks (map field_of ds)) all ∙ cells_back columns [] columns (length before + 1) ds refl t.fit t.proper t.texts in
      let fine : key_refusal columns key numbers (length before + 1) before ds ≡ None =
      ap (λ k. option_map (Refused (length before + 1) (name_at columns key)) (key_rule k before (value_at ds k))) at_place
      ∙ ap (option_map (Refused (length before + 1) (name_at columns key))) (key_fine place before (value_at ds place) n h) in
      ap (λ r. and_then r (λ line. unless (key_refusal columns key numbers (length before + 1) before line) (Ok line))) cells
      ∙ ap (λ o. unless o (Ok ds)) fine

  -- no line before has the key of a row
  abbrev pub AreNew : List (List Data) → List Row → Type 0
  AreNew before [] = Unit {0}
  AreNew before (r ∷ rs) = (list_any (has_key place (value_at r.cells place)) before ≡ false) × AreNew before rs

  any_more : (p : List Data → Bool) (before : List (List Data)) (line : List Data) → list_any p before ≡ false → p line ≡ false → list_any p (before ++ line ∷ []) ≡ false
  any_more p [] line h k = ap (λ b. b || false) k
  any_more p (x ∷ xs) line h k = by (p x) (list_any p xs) h refl refl (λ g. any_more p xs line g k)
    where
      by : (a b : Bool) → (a || b) ≡ false → p x ≡ a → list_any p xs ≡ b → (list_any p xs ≡ false → list_any p (xs ++ line ∷ []) ≡ false) → list_any p (x ∷ (xs ++ line ∷ [])) ≡ false
      by true b e f g more = absurd cc
      by false b e f g more = ap₂ (λ a b. a || b) f (more (g ∙ e))

  still_new : (before : List (List Data)) (line : List Data) (rs : List Row) → AreNew before rs → list_any (λ (e : Data). is_eq (order (value_at line place) e)) (map (λ (r : Row). value_at r.cells place) rs) ≡ false → AreNew (before ++ line ∷ []) rs
  still_new before line [] h k = tt
  still_new before line (r ∷ rs) h k = by (is_eq (order (value_at line place) (value_at r.cells place))) (list_any (λ (e : Data). is_eq (order (value_at line place) e)) (map (λ (r : Row). value_at r.cells place) rs)) k refl refl (still_new before line rs h.1)
    where
      by : (a b : Bool) → (a || b) ≡ false → is_eq (order (value_at line place) (value_at r.cells place)) ≡ a → list_any (λ (e : Data). is_eq (order (value_at line place) e)) (map (λ (r : Row). value_at r.cells place) rs) ≡ b
          → (list_any (λ (e : Data). is_eq (order (value_at line place) e)) (map (λ (r : Row). value_at r.cells place) rs) ≡ false → AreNew (before ++ line ∷ []) rs) → AreNew (before ++ line ∷ []) (r ∷ rs)
      by true b e f g more = absurd cc
      by false b e f g more = (any_more (has_key place (value_at r.cells place)) before line h.0 f, more (g ∙ e))

  pub lines_back : (before : List (List Data)) (rs : List Row) → AllByRecursion (λ (r : Row). AreTold columns r.cells) rs → AreKeys (map (λ (r : Row). value_at r.cells place) rs) → AreNew before rs
      → lines_of columns key numbers before (map row_fields rs) ≡ Ok (before ++ map (λ (r : Row). r.cells) rs)
  lines_back before [] t k n = ap Ok (sym (append-nil before))
  lines_back before (r ∷ rs) t k n =
      ap (λ x. and_then x (λ line. lines_of columns key numbers (before ++ line ∷ []) (map row_fields rs))) (line_back before r.cells t.0 k.0 n.0)
      ∙ lines_back (before ++ r.cells ∷ []) rs t.1 k.2 (still_new before r.cells rs n.1 k.1)
      ∙ ap Ok (append_assoc before (r.cells ∷ []) (map (λ (r : Row). r.cells) rs))

  pub all_new : (rs : List Row) → AreNew [] rs
  all_new [] = tt
  all_new (r ∷ rs) = (refl, all_new rs)
