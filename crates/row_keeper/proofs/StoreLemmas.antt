-- The tables of a store against its schema, and what calls make of them.
use Rattle.std.proofs.Common.{◌≡◌, ◌⊎◌, inl, inr, ⊎_elim, ℕ, zero, suc, ◌+◌, ◌==◌, ◌<◌, ◌≤◌, List, [], ◌∷◌, map, length, take, refl, sym, ap, ap₂, ◌∙◌, arith, Bool, true, false, cond, ◌||◌, Option, None, Some, Result, Ok, Err, subst}
use Rattle.std.specs.Prelude.{slice_index_or, IfNone, IfSome, IsSomeAnd, IfOk, OnErr, set, slice_get, unwrap_or}
use Rattle.std.specs.List.{AllByRecursion, filter, list_any}
use Rattle.std.specs.List.Sorted.{IsPermutation, IsSorted}
use Rattle.std.specs.Ordering.{is_lt, nat_cmp}
use Rattle.std.proofs.lemmas.Bool.Decides.{nat_tests}
use Rattle.std.proofs.lemmas.List.{length-map, map-set, set-get_or}
use Rattle.std.proofs.lemmas.List.Elements.{All-filter, All-from_recursion, All-take, recursion_from_All}
use Rattle.std.proofs.lemmas.List.Sorted.{All-permutation, IsPermutation-refl, length_permutation}
use Rattle.std.proofs.lemmas.Option.{get_or_from_slice_get}
use Rattle.std.proofs.Math.Seq.{map-set_same}
use Rattle.std.proofs.lemmas.Bool.{or_right}
use Rattle.fx_types.specs.Values.{Data}
use Rattle.fx_core.specs.Lawful.{IsColumnType, IsLawfulSchema, IsLawfulTable}
use Rattle.fx_core.specs.declared.schema.Column.{Column}
use Rattle.fx_core.specs.declared.schema.Schema.{Schema}
use Rattle.fx_core.specs.declared.schema.TableShape.{TableShape}
use Rattle.row_queries.specs.Queries.{AreAsked, IsIndexed, IsQuery, lies, row_order}
use Rattle.row_queries.specs.Ranges.{HoldEveryKey}
use Rattle.row_queries.specs.TableRows.{AreCellsOf, AreInIdOrder, IsRowOf, rows_at}
use Rattle.row_queries.specs.declared.queries.Query.{Query}
use Rattle.row_queries.specs.declared.rows.Row.{Row}
use Rattle.row_keeper.specs.Changes.{Inserts, IsInserted, IsReplaced, Removes, Replaces, Shapes}
use Rattle.row_keeper.specs.Covered.{covered_of, covers, indexed_from}
use Rattle.row_keeper.specs.Kept.{IsKept, IsOfSchema, columns_kept, columns_shaped, empty_table, kept_then, schema_then}
use Rattle.row_keeper.specs.OneTable.{ChangesAt, PutsNew, PutsOver, TakesOut, view_restored, view_settled, with_now}
use Rattle.row_keeper.specs.Pages.{AreFirstRows}
use Rattle.row_keeper.specs.RowRules.{rule_in}
use Rattle.row_keeper.specs.Sameness.{HasColumnTypes}
use Rattle.row_keeper.specs.Sound.{IsSoundTable, IsSoundRow, IsSoundState}
use Rattle.row_keeper.specs.TableView.{TableView, states_now, states_then}
use Rattle.row_keeper.specs.Tables.{AreStatesOf, IsStateOf, TableState, Tables, all_rows, columns_at, columns_in, filled_tables, has_id, no_rows, rows_of_tables, shapes_of, state_at, with_cells, with_row, with_state, without_row}
use Rattle.row_keeper.specs.declared.rows.Put.{Put}
use Rattle.row_keeper.specs.declared.store.Aside.{Aside}
use Rattle.row_keeper.specs.declared.rows.Put.TheVariants.{Id, NoRow, Refused}
use Rattle.row_keeper.proofs.PutLemmas.{names}
use Rattle.row_keeper.proofs.RowLists.{order_less}
use Rattle.row_keeper.proofs.RuleLemmas.{indexed_covered}

-- ---- what stands at a place
pub at_map : {X Y : Type 0} (f : X → Y) (xs : List X) (i : ℕ) (x : X) → slice_get xs i ≡ Some x → slice_get (map f xs) i ≡ Some (f x)
at_map f [] i x h = absurd cc
at_map f (y ∷ ys) zero x h = let e : y ≡ x = cc in ap (λ z. Some (f z)) e
at_map f (y ∷ ys) (suc i) x h = at_map f ys i x h

pub set_same : {X : Type 0} (xs : List X) (i : ℕ) (x : X) → slice_get xs i ≡ Some x → set xs i x ≡ xs
set_same xs i x h = ap (set xs i) (sym (get_or_from_slice_get xs i x x h)) ∙ set-get_or xs i x

-- ---- a table and its shape
columns_of_shape : (shapes : List TableShape) (i : ℕ) (cs : List Column) → slice_get (columns_shaped shapes) i ≡ Some cs → columns_at shapes i ≡ cs
columns_of_shape [] i cs h = absurd cc
columns_of_shape (s ∷ ss) zero cs h = cc
columns_of_shape (s ∷ ss) (suc i) cs h = columns_of_shape ss i cs h

pub columns_there : (tables : List TableView) (shapes : List TableShape) (i : ℕ) (t : TableView) → columns_kept tables ≡ columns_shaped shapes → slice_get tables i ≡ Some t → columns_at shapes i ≡ t.columns
columns_there tables shapes i t e h = columns_of_shape shapes i t.columns (ap (λ l. slice_get l i) (sym e) ∙ at_map (λ (x : TableView). x.columns) tables i t h)

pub fit_there : (P : List Column → Type 0) (tables : List TableView) (shapes : List TableShape) (i : ℕ) → columns_kept tables ≡ columns_shaped shapes
    → IsSomeAnd (slice_get shapes i) (λ (t : TableShape). P t.columns) → IsSomeAnd (slice_get tables i) (λ (t : TableView). P t.columns)
fit_there P [] [] i e h = h
fit_there P [] (s ∷ ss) i e h = absurd cc
fit_there P (t ∷ ts) [] i e h = absurd cc
fit_there P (t ∷ ts) (s ∷ ss) zero e h = let q : s.columns ≡ t.columns = cc in subst P q h
fit_there P (t ∷ ts) (s ∷ ss) (suc i) e h = fit_there P ts ss i (let q : columns_kept ts ≡ columns_shaped ss = cc in q) h

pub within : (tables : List TableView) (shapes : List TableShape) (i : ℕ) (s : TableShape) → columns_kept tables ≡ columns_shaped shapes → slice_get shapes i ≡ Some s → i < length tables
within [] [] i s e h = absurd cc
within [] (x ∷ ss) i s e h = absurd cc
within (t ∷ ts) [] i s e h = absurd cc
within (t ∷ ts) (x ∷ ss) zero s e h = omega arith
within (t ∷ ts) (x ∷ ss) (suc i) s e h = let q = within ts ss i s (let p : columns_kept ts ≡ columns_shaped ss = cc in p) h in omega (arith, q)

state_there : (tables : List TableView) (i : ℕ) (t : TableView) → slice_get tables i ≡ Some t → state_at (states_now tables) i ≡ t.now
state_there tables i t h = ap (λ o. unwrap_or o no_rows) (at_map (λ (x : TableView). x.now) tables i t h)

-- ---- one table changes
abbrev Keeps : TableView → TableView → Type 0
Keeps a b = (b.columns ≡ a.columns) × (b.then ≡ a.then)

moved : (a b : TableView) (s : TableState) → b ≡ with_now a s → Keeps a b
moved a b s h = (ap (λ (t : TableView). t.columns) h, ap (λ (t : TableView). t.then) h)

stayed : (a b : TableView) → b ≡ a → Keeps a b
stayed a b h = (ap (λ (t : TableView). t.columns) h, ap (λ (t : TableView). t.then) h)

new_keeps : (all : ℕ) (cells : List Data) (put : Put) (a b : TableView) → PutsNew all cells put a b → Keeps a b
new_keeps all cells (Id id) a b h = moved a b _ h.2
new_keeps all cells NoRow a b h = absurd h
new_keeps all cells (Refused r) a b h = stayed a b h.1

over_keeps : (all id : ℕ) (cells : List Data) (put : Put) (a b : TableView) → PutsOver all id cells put a b → Keeps a b
over_keeps all id cells (Id n) a b h = moved a b _ h.3
over_keeps all id cells NoRow a b h = stayed a b h.1
over_keeps all id cells (Refused r) a b h = stayed a b h.2

out_keeps : (id : ℕ) (was : Bool) (a b : TableView) → TakesOut id was a b → Keeps a b
out_keeps id true a b h = moved a b _ h.1
out_keeps id false a b h = stayed a b h.1

module _ (tables tables' : List TableView) (place : ℕ) (before after : TableView) (there : slice_get tables place ≡ Some before) (stands : tables' ≡ set tables place after) where
  unseen : {Y : Type 0} (f : TableView → Y) → f after ≡ f before → map f tables' ≡ map f tables
  unseen f same = ap (map f) stands ∙ map-set_same f tables place after before (same ∙ ap f (sym (get_or_from_slice_get tables place before before there)))

  unchanged : after ≡ before → tables' ≡ tables
  unchanged same = stands ∙ ap (set tables place) same ∙ set_same tables place before there

  now_changed : (f : TableState → TableState) → after ≡ with_now before (f before.now) → states_now tables' ≡ set (states_now tables) place (f (state_at (states_now tables) place))
  now_changed f is =
      ap states_now stands ∙ map-set (λ (t : TableView). t.now) tables place after
      ∙ ap (set (states_now tables) place) (ap (λ (t : TableView). t.now) is ∙ ap f (sym (state_there tables place before there)))

-- the tables as the transaction began stay, where those that are there have the rows of then
pub then_stays : (tables tables' : List TableView) (aside : Option Aside) → states_then tables' ≡ states_then tables → states_then (kept_then tables' aside) ≡ states_then (kept_then tables aside)
then_stays tables tables' None h = h
then_stays tables tables' (Some a) h = refl

-- the store stays whole, and its tables as the transaction began stay
pub stays_kept : {T E : Type 0} (P : T → TableView → TableView → Type 0) → ((x : T) (a b : TableView) → P x a b → Keeps a b) → (schema : Option Schema) (place : ℕ) (tables tables' : List TableView) (aside : Option Aside) (is_begun : Bool) (r : Result T E)
    → IfOk r (λ x. ChangesAt place (P x) tables tables') → OnErr r (tables' ≡ tables) → is_begun ≡ true → IsKept schema tables aside is_begun → IsKept schema tables' aside is_begun × (states_then (kept_then tables' aside) ≡ states_then (kept_then tables aside))
stays_kept P keeps schema place tables tables' aside is_begun (Err e) ok err begun k =
    (subst (λ l. IsKept schema l aside is_begun) (sym err) k, ap (λ l. states_then (kept_then l aside)) err)
stays_kept P keeps schema place tables tables' aside is_begun (Ok x) ok err begun k =
    let same = keeps x ok.before ok.after ok.goes in (
      (let q : IsKept schema tables' aside is_begun = record {
        columns = unseen tables tables' place ok.before ok.after ok.is_there ok.stands (λ (t : TableView). t.columns) same.0 ∙ k.columns;
        lawful = k.lawful;
        apart = k.apart;
        alone = k.alone;
        still = λ e. absurd (let z : true ≡ false = sym begun ∙ e in cc);
      } in q),
      then_stays tables tables' aside (unseen tables tables' place ok.before ok.after ok.is_there ok.stands (λ (t : TableView). t.then) same.1),
    )

pub insert_kept : {E : Type 0} (all : ℕ) (cells : List Data) (schema : Option Schema) (place : ℕ) (tables tables' : List TableView) (aside : Option Aside) (is_begun : Bool) (r : Result Put E)
    → IfOk r (λ put. ChangesAt place (PutsNew all cells put) tables tables') → OnErr r (tables' ≡ tables) → is_begun ≡ true → IsKept schema tables aside is_begun → IsKept schema tables' aside is_begun × (states_then (kept_then tables' aside) ≡ states_then (kept_then tables aside))
insert_kept all cells = stays_kept (PutsNew all cells) (new_keeps all cells)

pub replace_kept : {E : Type 0} (all id : ℕ) (cells : List Data) (schema : Option Schema) (place : ℕ) (tables tables' : List TableView) (aside : Option Aside) (is_begun : Bool) (r : Result Put E)
    → IfOk r (λ put. ChangesAt place (PutsOver all id cells put) tables tables') → OnErr r (tables' ≡ tables) → is_begun ≡ true → IsKept schema tables aside is_begun → IsKept schema tables' aside is_begun × (states_then (kept_then tables' aside) ≡ states_then (kept_then tables aside))
replace_kept all id cells = stays_kept (PutsOver all id cells) (over_keeps all id cells)

pub remove_kept : {E : Type 0} (id : ℕ) (schema : Option Schema) (place : ℕ) (tables tables' : List TableView) (aside : Option Aside) (is_begun : Bool) (r : Result Bool E)
    → IfOk r (λ was. ChangesAt place (TakesOut id was) tables tables') → OnErr r (tables' ≡ tables) → is_begun ≡ true → IsKept schema tables aside is_begun → IsKept schema tables' aside is_begun × (states_then (kept_then tables' aside) ≡ states_then (kept_then tables aside))
remove_kept id = stays_kept (TakesOut id) (out_keeps id)

-- ---- what the calls answer
module _ (schema : Option Schema) (tables tables' : List TableView) (place : ℕ) (same : columns_kept tables ≡ columns_shaped (shapes_of schema)) where
  abbrev told : List TableView → Tables
  told ts = record { kept = schema; states = states_now ts }

  rule_there : (t : TableView) (id : Option ℕ) (cells : List Data) → slice_get tables place ≡ Some t
      → rule_in (columns_at (shapes_of schema) place) (state_at (states_now tables) place) (all_rows (states_now tables)) id cells ≡ rule_in t.columns t.now (all_rows (states_now tables)) id cells
  rule_there t id cells h = ap₂ (λ cs s. rule_in cs s (all_rows (states_now tables)) id cells) (columns_there tables (shapes_of schema) place t same h) (state_there tables place t h)

  has_there : (id : ℕ) (t : TableView) → slice_get tables place ≡ Some t → list_any (has_id id) (state_at (states_now tables) place).rows ≡ list_any (has_id id) t.now.rows
  has_there id t h = ap (λ (s : TableState). list_any (has_id id) s.rows) (state_there tables place t h)

  changed : (f : TableState → TableState) (before after : TableView) → slice_get tables place ≡ Some before → after ≡ with_now before (f before.now) → tables' ≡ set tables place after
      → told tables' ≡ with_state (told tables) place (f (state_at (states_now tables) place))
  changed f before after there is stands = ap (λ l. let x : Tables = record { kept = schema; states = l } in x) (now_changed tables tables' place before after there stands f is)

  same_told : (before after : TableView) → slice_get tables place ≡ Some before → after ≡ before → tables' ≡ set tables place after → told tables' ≡ told tables
  same_told before after there is stands = ap told (unchanged tables tables' place before after there stands is)

  pub inserts : (cells : List Data) (put : Put) → ChangesAt place (PutsNew (all_rows (states_now tables)) cells put) tables tables' → Inserts (columns_at (shapes_of schema) place) place cells put (told tables) (told tables')
  inserts cells (Id id) c = (
    rule_there c.before None cells c.is_there ∙ c.goes.0,
    c.goes.1 ∙ ap (λ (s : TableState). s.last + 1) (sym (state_there tables place c.before c.is_there)),
    changed (with_row cells) c.before c.after c.is_there c.goes.2 c.stands,
  )
  inserts cells NoRow c = absurd c.goes
  inserts cells (Refused r) c = (rule_there c.before None cells c.is_there ∙ c.goes.0, same_told c.before c.after c.is_there c.goes.1 c.stands)

  pub inserted : (cells : List Data) (put : Put) → ChangesAt place (PutsNew (all_rows (states_now tables)) cells put) tables tables' → IsInserted (columns_at (shapes_of schema) place) put
  inserted cells (Id id) c = let e = c.goes.1 in omega (arith, e)
  inserted cells NoRow c = absurd c.goes
  inserted cells (Refused r) c = names (columns_at (shapes_of schema) place) (state_at (states_now tables) place) (all_rows (states_now tables)) None cells r (rule_there c.before None cells c.is_there ∙ c.goes.0)

  pub replaces : (id : ℕ) (cells : List Data) (put : Put) → ChangesAt place (PutsOver (all_rows (states_now tables)) id cells put) tables tables' → Replaces (columns_at (shapes_of schema) place) place id cells put (told tables) (told tables')
  replaces id cells (Id n) c = (
    c.goes.0,
    has_there id c.before c.is_there ∙ c.goes.1,
    rule_there c.before (Some id) cells c.is_there ∙ c.goes.2,
    changed (with_cells id cells) c.before c.after c.is_there c.goes.3 c.stands,
  )
  replaces id cells NoRow c = (has_there id c.before c.is_there ∙ c.goes.0, same_told c.before c.after c.is_there c.goes.1 c.stands)
  replaces id cells (Refused r) c = (has_there id c.before c.is_there ∙ c.goes.0, rule_there c.before (Some id) cells c.is_there ∙ c.goes.1, same_told c.before c.after c.is_there c.goes.2 c.stands)

  pub replaced : (id : ℕ) (cells : List Data) (put : Put) → ChangesAt place (PutsOver (all_rows (states_now tables)) id cells put) tables tables' → IsReplaced (columns_at (shapes_of schema) place) id put
  replaced id cells (Id n) c = c.goes.0
  replaced id cells NoRow c = tt
  replaced id cells (Refused r) c = names (columns_at (shapes_of schema) place) (state_at (states_now tables) place) (all_rows (states_now tables)) (Some id) cells r (rule_there c.before (Some id) cells c.is_there ∙ c.goes.1)

  pub removes : (id : ℕ) (was : Bool) → ChangesAt place (TakesOut id was) tables tables' → Removes place id was (told tables) (told tables')
  removes id true c = (has_there id c.before c.is_there ∙ c.goes.0, changed (without_row id) c.before c.after c.is_there c.goes.1 c.stands)
  removes id false c = (has_there id c.before c.is_there ∙ c.goes.0, same_told c.before c.after c.is_there c.goes.1 c.stands)

-- ---- a transaction ends
pub settled_now : (tables : List TableView) → states_now (map view_settled tables) ≡ states_now tables
settled_now [] = refl
settled_now (t ∷ ts) = ap (λ l. t.now ∷ l) (settled_now ts)

pub settled_then : (tables : List TableView) → states_then (map view_settled tables) ≡ states_now tables
settled_then [] = refl
settled_then (t ∷ ts) = ap (λ l. t.now ∷ l) (settled_then ts)

settled_columns : (tables : List TableView) → columns_kept (map view_settled tables) ≡ columns_kept tables
settled_columns [] = refl
settled_columns (t ∷ ts) = ap (λ l. t.columns ∷ l) (settled_columns ts)

pub restored_now : (tables : List TableView) → states_now (map view_restored tables) ≡ states_then tables
restored_now [] = refl
restored_now (t ∷ ts) = ap (λ l. t.then ∷ l) (restored_now ts)

pub restored_then : (tables : List TableView) → states_then (map view_restored tables) ≡ states_then tables
restored_then [] = refl
restored_then (t ∷ ts) = ap (λ l. t.then ∷ l) (restored_then ts)

restored_columns : (tables : List TableView) → columns_kept (map view_restored tables) ≡ columns_kept tables
restored_columns [] = refl
restored_columns (t ∷ ts) = ap (λ l. t.columns ∷ l) (restored_columns ts)

pub settled_kept : (schema : Option Schema) (tables : List TableView) (aside : Option Aside) (was is : Bool) → IsKept schema tables aside was → IsKept schema (map view_settled tables) None is
settled_kept schema tables aside was is k = record {
  columns = settled_columns tables ∙ k.columns;
  lawful = k.lawful;
  apart = tt;
  alone = λ e. refl;
  still = λ e. settled_then tables ∙ sym (settled_now tables);
}

-- what was put aside is of its schema, and so are the tables where nothing was
pub kept_before : (schema : Option Schema) (tables : List TableView) (aside : Option Aside) (was : Bool) → IsKept schema tables aside was → IsOfSchema (schema_then schema aside) (kept_then tables aside)
kept_before schema tables None was k = record { columns = k.columns; lawful = k.lawful }
kept_before schema tables (Some a) was k = k.apart

pub restored_kept : (schema : Option Schema) (tables : List TableView) (is : Bool) → IsOfSchema schema tables → IsKept schema (map view_restored tables) None is
restored_kept schema tables is k = record {
  columns = restored_columns tables ∙ k.columns;
  lawful = k.lawful;
  apart = tt;
  alone = λ e. refl;
  still = λ e. restored_then tables ∙ sym (restored_now tables);
}

-- ---- the tables move
-- what stood there as the transaction began is what was put aside first
pub kept_aside : (schema : Option Schema) (tables : List TableView) (aside made : Option Aside) (it : Aside) (is_begun : Bool) → IsKept schema tables aside is_begun → it.schema ≡ schema → it.tables.items ≡ tables
    → IfSome aside (λ (a : Aside). made ≡ Some a) → IfNone aside (made ≡ Some it) → IfSome made (λ (a : Aside). IsOfSchema a.schema a.tables.items)
    × ((new : Option Schema) (news : List TableView) → (schema_then new made ≡ schema_then schema aside) × (states_then (kept_then news made) ≡ states_then (kept_then tables aside)))
kept_aside schema tables None made it is_begun k s t first now = (
  subst (λ (o : Option Aside). IfSome o (λ (a : Aside). IsOfSchema a.schema a.tables.items)) (sym now) (let q : IsOfSchema it.schema it.tables.items = record {
    columns = ap columns_kept t ∙ k.columns ∙ ap (λ (o : Option Schema). columns_shaped (shapes_of o)) (sym s);
    lawful = subst (λ (o : Option Schema). IfSome o IsLawfulSchema) (sym s) k.lawful;
  } in q),
  λ new news. (ap (schema_then new) now ∙ s, ap (λ (o : Option Aside). states_then (kept_then news o)) now ∙ ap states_then t),
)
kept_aside schema tables (Some a) made it is_begun k s t first now = (
  subst (λ (o : Option Aside). IfSome o (λ (b : Aside). IsOfSchema b.schema b.tables.items)) (sym first) k.apart,
  λ new news. (ap (schema_then new) first, ap (λ (o : Option Aside). states_then (kept_then news o)) first),
)

-- other tables under another schema, where a transaction is begun
pub moved_kept : (schema : Schema) (tables : List TableView) (aside : Option Aside) → IsLawfulSchema schema → columns_kept tables ≡ columns_shaped schema.tables → IfSome aside (λ (a : Aside). IsOfSchema a.schema a.tables.items)
    → (is_begun : Bool) → is_begun ≡ true → IsKept (Some schema) tables aside is_begun
moved_kept schema tables aside lawful columns apart is_begun begun = record {
  columns = columns;
  lawful = lawful;
  apart = apart;
  alone = λ e. absurd (let z : true ≡ false = sym begun ∙ e in cc);
  still = λ e. absurd (let z : true ≡ false = sym begun ∙ e in cc);
}

-- there are as many tables as shapes
pub few_tables : (s : Schema) (tables : List TableView) → IsLawfulSchema s → columns_kept tables ≡ columns_shaped s.tables → length tables ≤ 32
few_tables s tables h e =
    let here = length-map tables (λ (t : TableView). t.columns) in
    let there = length-map s.tables (λ (t : TableShape). t.columns) in
    let same = ap length e in
    let most = h.0 in
    omega (arith, here, there, same, most)

-- ---- a schema is kept
weaker : {X : Type 0} (P Q : X → Type 0) → ((x : X) → P x → Q x) → (xs : List X) → AllByRecursion P xs → AllByRecursion Q xs
weaker P Q f [] h = tt
weaker P Q f (x ∷ xs) h = (f x h.0, weaker P Q f xs h.1)

lawful_tables : (s : Schema) → IsLawfulSchema s → AllByRecursion IsLawfulTable s.tables
lawful_tables s h = recursion_from_All IsLawfulTable s.tables h.2

pub narrow : (s : Schema) → IsLawfulSchema s → AllByRecursion (λ (t : TableShape). length t.columns ≤ 63) s.tables
narrow s h = weaker IsLawfulTable (λ (t : TableShape). length t.columns ≤ 63) (λ t l. l.0) s.tables (lawful_tables s h)

pub typed : (s : Schema) → IsLawfulSchema s → AllByRecursion HasColumnTypes s.tables
typed s h = weaker IsLawfulTable HasColumnTypes (λ t l. recursion_from_All (λ (c : Column). IsColumnType c.ty) t.columns l.1) s.tables (lawful_tables s h)

pub none_yet : (tables : List TableView) → columns_kept tables ≡ [] → tables ≡ []
none_yet [] h = refl
none_yet (t ∷ ts) h = absurd cc

empty_columns : (shapes : List TableShape) → columns_kept (map empty_table shapes) ≡ columns_shaped shapes
empty_columns [] = refl
empty_columns (s ∷ ss) = ap (λ l. s.columns ∷ l) (empty_columns ss)

empty_now : (shapes : List TableShape) → states_now (map empty_table shapes) ≡ filled_tables shapes []
empty_now [] = refl
empty_now (s ∷ ss) = ap (λ l. no_rows ∷ l) (empty_now ss)

empty_then : (shapes : List TableShape) → states_then (map empty_table shapes) ≡ states_now (map empty_table shapes)
empty_then [] = refl
empty_then (s ∷ ss) = ap (λ l. no_rows ∷ l) (empty_then ss)

pub empty_kept : (s : Schema) (aside : Option Aside) (is_begun : Bool) → IsLawfulSchema s → aside ≡ None → IsKept (Some s) (map empty_table s.tables) aside is_begun
empty_kept s aside is_begun h none = record {
  columns = empty_columns s.tables;
  lawful = h;
  apart = subst (λ (o : Option Aside). IfSome o (λ (a : Aside). IsOfSchema a.schema a.tables.items)) (sym none) tt;
  alone = λ e. none;
  still = λ e. empty_then s.tables;
}

-- no schema was kept, and there were no tables
pub shapes_none : (s : Schema) (tables : List TableView) → columns_kept tables ≡ [] → Shapes s None (record { kept = None; states = states_now tables }) (record { kept = Some s; states = states_now (map empty_table s.tables) })
shapes_none s tables h = (tt, ap (λ l. let x : Tables = record { kept = Some s; states = l } in x) (empty_now s.tables ∙ ap (λ ts. filled_tables s.tables (states_now ts)) (sym (none_yet tables h))))

-- the tables are those of the schema already
filled_same : (tables : List TableView) (shapes : List TableShape) → columns_kept tables ≡ columns_shaped shapes → filled_tables shapes (states_now tables) ≡ states_now tables
filled_same [] [] e = refl
filled_same [] (s ∷ ss) e = absurd cc
filled_same (t ∷ ts) [] e = absurd cc
filled_same (t ∷ ts) (s ∷ ss) e = ap (λ l. t.now ∷ l) (filled_same ts ss (let q : columns_kept ts ≡ columns_shaped ss = cc in q))

pub shapes_same : (s kept : Schema) (tables : List TableView) → columns_kept tables ≡ columns_shaped kept.tables → kept ≡ s → Shapes s None (record { kept = Some kept; states = states_now tables }) (record { kept = Some kept; states = states_now tables })
shapes_same s kept tables e same =
    (same, ap₂ (λ (k : Schema) l. let x : Tables = record { kept = Some k; states = l } in x) same (sym (filled_same tables s.tables (e ∙ ap (λ (k : Schema). columns_shaped k.tables) same))))

-- ---- the rows of each table are those of its shape
state_of : (s : TableShape) (t : TableView) → t.columns ≡ s.columns → IsSoundState t.columns t.now → IsStateOf s t.now
state_of s t e h = record {
  fit = All-from_recursion (IsRowOf s) t.now.rows (weaker (IsSoundRow t.columns) (IsRowOf s) (λ r k. (k.id, subst (λ cs. AreCellsOf cs r.cells) e k.fit)) t.now.rows h.rows);
  rising = h.rising;
  given = All-from_recursion (λ (r : Row). r.id ≤ t.now.last) t.now.rows h.given;
  bounded = h.bounded;
}

pub states_of : (tables : List TableView) (shapes : List TableShape) → columns_kept tables ≡ columns_shaped shapes → AllByRecursion IsSoundTable tables → AreStatesOf shapes (states_now tables)
states_of [] [] e h = tt
states_of [] (s ∷ ss) e h = absurd cc
states_of (t ∷ ts) [] e h = absurd cc
states_of (t ∷ ts) (s ∷ ss) e h = (state_of s t (let q : t.columns ≡ s.columns = cc in q) h.0.now, states_of ts ss (let q : columns_kept ts ≡ columns_shaped ss = cc in q) h.1)

pub empty_states : (shapes : List TableShape) → AreStatesOf shapes (states_now (map empty_table shapes))
empty_states [] = tt
empty_states (s ∷ ss) = (none s, empty_states ss)
  where
    none : (s : TableShape) → IsStateOf s no_rows
    none s = record { fit = All-from_recursion (IsRowOf s) [] tt; rising = tt; given = All-from_recursion (λ (r : Row). r.id ≤ 0) [] tt; bounded = omega arith }

-- ---- what a query asks of its table
pub shorter : {X : Type 0} (p : X → Bool) (xs : List X) → length (filter p xs) ≤ length xs
shorter p [] = omega arith
shorter p (x ∷ xs) = by (p x) (shorter p xs)
  where
    by : (b : Bool) → length (filter p xs) ≤ length xs → length (cond b (x ∷ filter p xs) (filter p xs)) ≤ length (x ∷ xs)
    by true h = omega (arith, h)
    by false h = omega (arith, h)

covered : (t : TableShape) (k : ℕ) → IsIndexed t k → covers (covered_of t.columns) k ≡ true
covered t zero h = refl
covered t (suc k) h = go (slice_get t.columns k) refl h
  where
    either : (c : Column) → (c.indexed ≡ true) ⊎ (c.unique ≡ true) → (c.indexed || c.unique) ≡ true
    either c (inl a) = ap (λ b. b || c.unique) a
    either c (inr b) = or_right c.indexed c.unique b

    go : (o : Option Column) → slice_get t.columns k ≡ o → IsSomeAnd o (λ (c : Column). (c.indexed ≡ true) ⊎ (c.unique ≡ true)) → covers (covered_of t.columns) (suc k) ≡ true
    go None e i = absurd i
    go (Some c) e i =
        or_right (0 == suc k) (covers (indexed_from 1 t.columns) (suc k))
        (subst (λ n. covers (indexed_from 1 t.columns) n ≡ true) (let q : 1 + k ≡ suc k = omega arith in q) (indexed_covered t.columns k 1 c e (either c i)))

module _ (shapes : List TableShape) (q : Query) (is : IsQuery shapes q) (tables : List TableView) (t : TableView) (same : columns_kept tables ≡ columns_shaped shapes) (there : slice_get tables q.table ≡ Some t) where
  shaped : is.table.columns ≡ t.columns
  shaped = sym (ap columns_in is.is_table) ∙ columns_there tables shapes q.table t same there

  pub has_column : q.column ≤ length t.columns
  has_column = let c = is.has_column in let e = ap (λ (cs : List Column). length cs) shaped in omega (arith, c, e)

  pub reaches : (covers (covered_of t.columns) q.column ≡ true) ⊎ HoldEveryKey q.ranges
  reaches = ⊎_elim (λ i. inl (ap (λ cs. covers (covered_of cs) q.column) (sym shaped) ∙ covered is.table q.column i)) (λ e. inr e) is.reaches

  rows_there : rows_at (rows_of_tables (states_now tables)) q.table ≡ t.now.rows
  rows_there = ap (λ o. unwrap_or o []) (at_map (λ (s : TableState). s.rows) (states_now tables) q.table t.now (at_map (λ (x : TableView). x.now) tables q.table t there))

  pub asked_is : (sorted : List Row) → IsPermutation (filter (lies q) t.now.rows) sorted → IsSorted (row_order q.order) sorted → AreAsked q (rows_at (rows_of_tables (states_now tables)) q.table) sorted
  asked_is sorted p o = record { rearranged = subst (λ rows. IsPermutation (filter (lies q) rows) sorted) (sym rows_there) p; sorted = o }

  pub asked_within : (sorted : List Row) → AreAsked q (rows_at (rows_of_tables (states_now tables)) q.table) sorted → IsPermutation (filter (lies q) t.now.rows) sorted
  asked_within sorted are = subst (λ rows. IsPermutation (filter (lies q) rows) sorted) rows_there are.rearranged

  pub asked_fit : (sorted : List Row) → IsSoundTable t → IsPermutation (filter (lies q) t.now.rows) sorted → IsSomeAnd (slice_get shapes q.table) (λ (s : TableShape). AllByRecursion (IsRowOf s) sorted)
  asked_fit sorted sound p =
      subst (λ o. IsSomeAnd o (λ (s : TableShape). AllByRecursion (IsRowOf s) sorted)) (sym is.is_table)
      (recursion_from_All (IsRowOf is.table) sorted (All-permutation (IsRowOf is.table) (filter (lies q) t.now.rows) sorted p
      (All-filter (lies q) (IsRowOf is.table) t.now.rows (state_of is.table t (sym shaped) sound.now).fit)))

  pub asked_few : (sorted : List Row) → IsSoundTable t → IsPermutation (filter (lies q) t.now.rows) sorted → length sorted ≤ 200000
  asked_few sorted sound p =
      let n = length_permutation (filter (lies q) t.now.rows) sorted p in
      let m = shorter (lies q) t.now.rows in
      let few = sound.now.few in
      omega (arith, n, m, few)

  -- ---- what is asked by numbers goes as the rows do
  ids_ascend : (rows : List Row) → AreInIdOrder rows → (k : ℕ) (d : Row) → suc k < length rows → is_lt (nat_cmp (slice_index_or rows (suc k) d).id (slice_index_or rows k d).id) ≡ false
  ids_ascend [] h k d l = absurd (omega (arith, l))
  ids_ascend (r ∷ []) h k d l = absurd (omega (arith, l))
  ids_ascend (r ∷ x ∷ rows) h zero d l = let b : r.id < x.id = h.0.0 in grind (arith, nat_tests, b)
  ids_ascend (r ∷ x ∷ rows) h (suc k) d l = ids_ascend (x ∷ rows) h.1 k d (omega (arith, l))

  ascend : (rows : List Row) → AreInIdOrder rows → IsSorted (row_order None) rows
  ascend rows h k d low high = subst (λ n. is_lt (nat_cmp (slice_index_or rows n d).id (slice_index_or rows k d).id) ≡ false) (let e : suc k ≡ k + 1 = omega arith in e) (ids_ascend rows h k d (omega (arith, high)))

  pub first_is : q.order ≡ None → IsSoundTable t → (most : ℕ) (first : List Row) → first ≡ take most (filter (lies q) t.now.rows) → AreFirstRows q (rows_at (rows_of_tables (states_now tables)) q.table) most first
  first_is order sound most first e =
      let asked = filter (lies q) t.now.rows in (
        asked,
        asked_is asked (IsPermutation-refl asked) (subst (λ o. IsSorted (row_order o) asked) (sym order) (ascend asked (order_less (lies q) t.now.rows sound.now.rising))),
        e,
      )

  pub first_fit : IsSoundTable t → (most : ℕ) (first : List Row) → first ≡ take most (filter (lies q) t.now.rows) → IsSomeAnd (slice_get shapes q.table) (λ (s : TableShape). AllByRecursion (IsRowOf s) first)
  first_fit sound most first e =
      subst (λ o. IsSomeAnd o (λ (s : TableShape). AllByRecursion (IsRowOf s) first)) (sym is.is_table)
      (subst (λ (rows : List Row). AllByRecursion (IsRowOf is.table) rows) (sym e)
      (recursion_from_All (IsRowOf is.table) (take most (filter (lies q) t.now.rows)) (All-take (IsRowOf is.table) most (filter (lies q) t.now.rows)
      (All-filter (lies q) (IsRowOf is.table) t.now.rows (state_of is.table t (sym shaped) sound.now).fit))))
