-- What changes are to a session's cache.
use Rattle.std.proofs.Common.{◌≡◌, ◌≢◌, ℕ, zero, suc, ◌+◌, ◌<◌, ◌≤◌, Bool, true, false, if◌then◌else◌, List, [], ◌∷◌, ◌++◌, length, Option, None, Some, Result, Ok, Err, inl, inr, refl, sym, subst, ap, ◌∙◌, arith}
use Rattle.std.specs.Prelude.{IfOk, IfSome, OnErr, IsSome, IsSomeAnd, drop, option_and_then, option_map, slice_set, take, unwrap_or}
use Rattle.std.specs.List.{slice_get, slice_index_or}
use Rattle.std.proofs.Math.ListN.{set}
use Rattle.std.specs.Option.{option_to_list}
use Rattle.std.proofs.Math.Logic.{∥∥₁_elim, ∥∥₁_map}
use Rattle.std.proofs.lemmas.List.{drop-append-le, get_or-set_other, length-append, take-append-le}
use Rattle.std.proofs.lemmas.Option.{slice_get_within, unwrap_or-slice_get}
use Rattle.std.specs.Coded.{Coded-set}
use Rattle.fx_base.specs.Silence.{MayFallSilent}
use Rattle.fx_base.specs.Telling.{Stays}
use Rattle.fx_types.specs.TypeView.{shape}
use Rattle.fx_types.specs.Types.{Shape, tables as table_type}
use Rattle.fx_types.specs.Values.{Data, blank, no_rows as no_rows_at_all, tab}
use Rattle.fx_types.specs.ValueCode.{data_code}
use Rattle.fx_types.specs.ValueView.{view}
use Rattle.fx_deeds.specs.Changed.{written}
use Rattle.fx_scalar.specs.ScalarFunctions.{IsToday}
use Rattle.fx_core.specs.Reads.{IsAmong}
use Rattle.fx_core.specs.Controls.{input_type}
use Rattle.fx_core.specs.SourceTypes.{chosen_shape as item_chosen, columns_of, if_context, if_global, item_type, sources}
use Rattle.fx_core.specs.declared.names.Collection.{Collection}
use Rattle.fx_core.specs.declared.names.ControlName.{ControlName}
use Rattle.fx_core.specs.declared.names.Names.{Names}
use Rattle.fx_core.specs.declared.names.Variable.{Variable}
use Rattle.fx_core.specs.declared.schema.Column.{Column}
use Rattle.fx_core.specs.declared.schema.TableShape.{TableShape}
use Rattle.fx_core.specs.declared.sources.Source.{Source}
use Rattle.fx_core.specs.declared.sources.Source.TheVariants as source
use Rattle.recalc.proofs.of_app_semantics.Freshness.{given_told, today_is}
use Rattle.recalc.proofs.of_app_semantics.Typings.{among_either}
use Rattle.recalc.specs.Asking.{IsHeardOf, ToldRows}
use Rattle.recalc.specs.app_cells.Reach.{is_cell}
use Rattle.recalc.specs.app_cells.declared.app.App.{App}
use Rattle.recalc.specs.app_cells.Leaning.{default_cell}
use Rattle.recalc.specs.app_semantics.Chosen.{chosen_of}
use Rattle.recalc.specs.app_semantics.Present.{SourceGives, GivesTable, given_or, input_of, items_of, present, selected_of, unset_value, cell_value_or}
use Rattle.recalc.specs.app_semantics.Sound.{IsSoundApp}
use Rattle.recalc.proofs.Agreeing.{changed}
use Rattle.recalc.proofs.Leaving.{left_same, left_then, left_wider}
use Rattle.recalc.specs.Changes.{AreSameBut, StaysCleanExcept}
use Rattle.recalc.specs.Kept.{IsInOrder, IsRight, IsSourceOf, CacheState, source_index}
use Rattle.recalc.specs.Outcomes.{IsRightOver}
use Rattle.fx_types.specs.declared.aggregates.Totals.{Totals}
use Rattle.row_keeper.specs.Changes.{CountsQuery, Inserts, Removes, Replaces, TotalsUp}
use Rattle.row_keeper.specs.declared.keeper.KeeperEnd.{KeeperEnd}
use Rattle.row_queries.specs.declared.queries.Query.{Query}
use Rattle.row_keeper.specs.Tables.{TableState, Tables, no_rows, rows_of_tables, rows_told, state_at, with_state}
use Rattle.row_keeper.specs.declared.rows.Put.{Put}
use Rattle.row_keeper.specs.declared.rows.Put.TheVariants.{Id, NoRow, Refused}
use Rattle.row_queries.specs.TableRows.{rows_at, rows_table}
use Rattle.row_queries.specs.declared.rows.Row.{Row}
use Rattle.row_requests.specs.Written.{SameTablesExcept}
use Rattle.session_state.specs.Changes.{FitsChange, made}
use Rattle.session_state.specs.Sessions.{SessionState, stored_value}
use Rattle.session_state.specs.declared.change.Change.{Change}
use Rattle.session_state.specs.declared.change.Change.TheVariants.{Global, Context, Gather, Empty, Input, Choose, Screen, Notice}
use Rattle.fx_semantics.proofs.Wider.{among_left, among_right}
use Rattle.row_keeper.proofs.NumberedRows.{rows_are}
use Rattle.session_requests.specs.Caching.{SameSessionExcept, AreSources, IsTouchedIf}
use Rattle.session_requests.specs.Worlds.{source_if_done, written_by}

-- ---- the day
-- a moment has one day
pub day_of : (a : App) (s : SessionState) (m : ℕ) (d : Data) → ∥ IsToday m d ∥₁ → IsToday m d
day_of a s m d h =
    let day = today_is m in
    subst (IsToday m) (∥∥₁_elim h (Coded-set data_code day.0 d) (λ i. sym (given_told (present a s None m) (λ k. blank) day.0 source.Today d day.1 i))) day.1

-- ---- sources
-- what has a type is there
there_at : {A : Type 0} (xs : List A) (k : ℕ) (f : Option A → Option Shape) (t : Shape) → f None ≡ None → f (slice_get xs k) ≡ Some t → k < length xs
there_at xs k f t none h = by (slice_get xs k) refl h
  where
    by : (o : Option _) → slice_get xs k ≡ o → f o ≡ Some t → k < length xs
    by None e g = let no : None ≡ Some t = sym none ∙ g in absurd cc
    by (Some y) e g = slice_get_within xs k y e

pub there_some : {A : Type 0} (xs : List A) (k : ℕ) → IsSome (slice_get xs k) → k < length xs
there_some xs k h = by (slice_get xs k) refl h
  where
    by : (o : Option _) → slice_get xs k ≡ o → IsSome o → k < length xs
    by None e g = absurd cc
    by (Some y) e g = slice_get_within xs k y e

pub there_and : {A : Type 0} (P : A → Type 0) (xs : List A) (k : ℕ) → IsSomeAnd (slice_get xs k) P → k < length xs
there_and P xs k h = by (slice_get xs k) refl h
  where
    by : (o : Option _) → slice_get xs k ≡ o → IsSomeAnd o P → k < length xs
    by None e g = absurd g
    by (Some y) e g = slice_get_within xs k y e

-- a source of an app that a change writes, or none
abbrev pub IsOneOf : Names → Option Source → Type 0
IsOneOf n None = Unit {0}
IsOneOf n (Some x) = IsSourceOf n x

first_is : (n : Names) (x : Source) (o : Option Source) → option_to_list o ≡ x ∷ [] → IsSourceOf n x → IsOneOf n o
first_is n x None e h = tt
first_is n x (Some y) e h = let same : y ≡ x = cc in subst (λ (z : Source). IsSourceOf n z) (sym same) h

none_is : (n : Names) (o : Option Source) → option_to_list o ≡ [] → IsOneOf n o
none_is n None e = tt
none_is n (Some y) e = absurd cc

typed_there : (n : Names) (x : Source) (t : Shape) → (x ≡ x → is_cell x ≡ false) → sources n x ≡ Some t → IsSourceOf n x
typed_there n (source.Cell k) t plain e = let no : true ≡ false = plain refl in absurd cc
typed_there n (source.Global k) t plain e = there_at n.variables k (option_and_then (λ (v : Variable). if_global v.screen (shape v.ty))) t refl e
typed_there n (source.Context k) t plain e = there_at n.variables k (option_and_then (λ (v : Variable). if_context v.screen (shape v.ty))) t refl e
typed_there n (source.Gathered k) t plain e = there_at n.collections k (option_map (λ (c : Collection). shape c.ty)) t refl e
typed_there n (source.Input k) t plain e = there_at n.controls k (option_and_then (λ (c : ControlName). input_type c.kind)) t refl e
typed_there n (source.Chosen k) t plain e = there_at n.controls k (option_and_then (λ (c : ControlName). item_chosen c.kind (item_type c))) t refl e
typed_there n (source.Table k) t plain e = there_at n.schema.tables k (option_map (λ (x : TableShape). table_type (columns_of x))) t refl e
typed_there n source.Today t plain e = tt

gathered : (n : Names) (s : SessionState) (k : ℕ) (v : Data) (x : Source) → (IsAmong x (source.Gathered k ∷ []) → ⊥) → stored_value (record s { collections = slice_set s.collections k v }) x ≡ stored_value s x
gathered n s k v (source.Gathered j) far = get_or-set_other s.collections k j v blank (λ e. far (inl (ap source.Gathered (sym e))))
gathered n s k v (source.Cell j) far = refl
gathered n s k v (source.Global j) far = refl
gathered n s k v (source.Context j) far = refl
gathered n s k v (source.Input j) far = refl
gathered n s k v (source.Chosen j) far = refl
gathered n s k v (source.Table j) far = refl
gathered n s k v source.Today far = refl

-- what a change of the session writes is a source of the app
pub written_is : (n : Names) (c : Change) (o : Option Source) → FitsChange n c → option_to_list o ≡ written c → IsOneOf n o
written_is n (Global k v) o f e = first_is n (source.Global k) o e (typed_there n (source.Global k) f.0 (λ q. refl) f.1)
written_is n (Context k v) o f e = first_is n (source.Context k) o e (typed_there n (source.Context k) f.0 (λ q. refl) f.1)
written_is n (Gather k v) o f e = first_is n (source.Gathered k) o e (typed_there n (source.Gathered k) f.0 (λ q. refl) f.1)
written_is n (Empty k) o f e = first_is n (source.Gathered k) o e (typed_there n (source.Gathered k) f.0 (λ q. refl) f.1)
written_is n (Input k None) o f e = first_is n (source.Input k) o e (typed_there n (source.Input k) f.0 (λ q. refl) f.1)
written_is n (Input k (Some v)) o f e = first_is n (source.Input k) o e (typed_there n (source.Input k) f.0 (λ q. refl) f.1)
written_is n (Choose k position id) o f e = first_is n (source.Chosen k) o e f
written_is n (Screen k) o f e = none_is n o e
written_is n (Notice w) o f e = none_is n o e

pub when_is : (n : Names) (done : Bool) (o : Option Source) → IsOneOf n o → IsOneOf n (source_if_done done o)
when_is n true o h = h
when_is n false o h = tt

-- so is a table that was written
pub put_is : (n : Names) (put : Put) (k : ℕ) (o : Option Source) → k < length n.schema.tables → option_to_list o ≡ written_by put k → IsOneOf n o
put_is n (Id i) k o h e = first_is n (source.Table k) o e h
put_is n NoRow k o h e = none_is n o e
put_is n (Refused r) k o h e = none_is n o e

pub removed_is : (n : Names) (was : Bool) (k : ℕ) → k < length n.schema.tables → IsOneOf n (source_if_done was (Some (source.Table k)))
removed_is n true k h = h
removed_is n false k h = tt

-- and has a place in the cache
pub has_place : (a : App) (c : CacheState) (o : Option Source) → IsInOrder a c → IsOneOf a.names o → IfSome o (λ s. source_index s < length c.versions)
has_place a c None order h = tt
has_place a c (Some x) order h = order.places x h

pub sources_more : (n : Names) (ws : List Source) (o : Option Source) → AreSources n ws → IsOneOf n o → AreSources n (ws ++ option_to_list o)
sources_more n ws o h k x among = elim (among_either x ws (option_to_list o) among) [
  | inl old ↦ h x old
  | inr new ↦ by o k new
]
  where
    by : (o : Option Source) → IsOneOf n o → IsAmong x (option_to_list o) → IsSourceOf n x
    by None k a = absurd a
    by (Some y) k (inl same) = subst (λ (z : Source). IsSourceOf n z) same k
    by (Some y) k (inr none) = absurd none

-- ---- sessions
pub no_change : (n : Names) (ws : List Source) (s : SessionState) → SameSessionExcept n ws s s
no_change n ws s = record { held = λ x t e far. refl; chosen = λ k far. refl }

pub sessions_more : (n : Names) (ws us : List Source) (s r q : SessionState) → SameSessionExcept n ws s r → SameSessionExcept n us r q → SameSessionExcept n (ws ++ us) s q
sessions_more n ws us s r q h k = record {
  held = λ x t e far. k.held x t e (λ a. far (among_right x ws us a)) ∙ h.held x t e (λ a. far (among_left x ws us a));
  chosen = λ j far. k.chosen j (λ a. far (among_right (source.Chosen j) ws us a)) ∙ h.chosen j (λ a. far (among_left (source.Chosen j) ws us a));
}

-- a variable is global, or a screen's
one_kind : (n : Names) (k : ℕ) (t u : Shape) → sources n (source.Global k) ≡ Some t → sources n (source.Context k) ≡ Some u → ⊥
one_kind n k t u e h = by (slice_get n.variables k) e h
  where
    kind : (s : Option ℕ) (w : Shape) → if_global s w ≡ Some t → if_context s w ≡ Some u → ⊥
    kind None w e h = absurd cc
    kind (Some z) w e h = absurd cc

    by : (o : Option Variable) → option_and_then (λ (v : Variable). if_global v.screen (shape v.ty)) o ≡ Some t → option_and_then (λ (v : Variable). if_context v.screen (shape v.ty)) o ≡ Some u → ⊥
    by None e h = absurd cc
    by (Some v) e h = kind v.screen (shape v.ty) e h

-- another one
pub apart : (f : ℕ → Source) (j k : ℕ) → (IsAmong (f j) (f k ∷ []) → ⊥) → j ≢ k
apart f j k far e = far (inl (ap f (sym e)))

pub set_apart : {A : Type 0} (xs : List A) (k j : ℕ) (v d : A) → j ≢ k → slice_index_or (slice_set xs k v) j d ≡ slice_index_or xs j d
set_apart xs k j v d h = get_or-set_other xs k j v d h

-- a change of the session leaves all but what it writes
pub made_but : (n : Names) (c : Change) (s : SessionState) → FitsChange n c → SameSessionExcept n (written c) s (made c s)
made_but n (Global k v) s f = record { held = λ x t e far. by x t e far; chosen = λ j far. refl }
  where
    by : (x : Source) (t : Shape) → sources n x ≡ Some t → (IsAmong x (source.Global k ∷ []) → ⊥) → stored_value (made (Global k v) s) x ≡ stored_value s x
    by (source.Global j) t e far = set_apart s.variables k j (view v) blank (apart source.Global j k far)
    by (source.Context j) t e far = set_apart s.variables k j (view v) blank (λ same. one_kind n k f.0 t f.1 (subst (λ i. sources n (source.Context i) ≡ Some t) same e))
    by (source.Cell j) t e far = refl
    by (source.Gathered j) t e far = refl
    by (source.Input j) t e far = refl
    by (source.Chosen j) t e far = refl
    by (source.Table j) t e far = refl
    by source.Today t e far = refl
made_but n (Context k v) s f = record { held = λ x t e far. by x t e far; chosen = λ j far. refl }
  where
    by : (x : Source) (t : Shape) → sources n x ≡ Some t → (IsAmong x (source.Context k ∷ []) → ⊥) → stored_value (made (Context k v) s) x ≡ stored_value s x
    by (source.Context j) t e far = set_apart s.variables k j (view v) blank (apart source.Context j k far)
    by (source.Global j) t e far = set_apart s.variables k j (view v) blank (λ same. one_kind n k t f.0 (subst (λ i. sources n (source.Global i) ≡ Some t) same e) f.1)
    by (source.Cell j) t e far = refl
    by (source.Gathered j) t e far = refl
    by (source.Input j) t e far = refl
    by (source.Chosen j) t e far = refl
    by (source.Table j) t e far = refl
    by source.Today t e far = refl
made_but n (Gather k v) s f = record { held = λ x t e far. gathered n s k (view v) x far; chosen = λ j far. refl }
made_but n (Empty k) s f = record { held = λ x t e far. gathered n s k (tab no_rows_at_all) x far; chosen = λ j far. refl }
made_but n (Input k v) s f = record { held = λ x t e far. by x far; chosen = λ j far. refl }
  where
    by : (x : Source) → (IsAmong x (source.Input k ∷ []) → ⊥) → stored_value (made (Input k v) s) x ≡ stored_value s x
    by (source.Input j) far = ap (λ (o : Option Data). unwrap_or o blank) (set_apart s.inputs k j (option_map view v) None (apart source.Input j k far))
    by (source.Cell j) far = refl
    by (source.Global j) far = refl
    by (source.Context j) far = refl
    by (source.Gathered j) far = refl
    by (source.Chosen j) far = refl
    by (source.Table j) far = refl
    by source.Today far = refl
made_but n (Choose k position id) s f = record { held = λ x t e far. held_chosen x; chosen = λ j far. set_apart s.chosen k j (Some (position, id)) None (apart source.Chosen j k far) }
  where
    held_chosen : (x : Source) → stored_value (made (Choose k position id) s) x ≡ stored_value s x
    held_chosen (source.Input j) = refl
    held_chosen (source.Cell j) = refl
    held_chosen (source.Global j) = refl
    held_chosen (source.Context j) = refl
    held_chosen (source.Gathered j) = refl
    held_chosen (source.Chosen j) = refl
    held_chosen (source.Table j) = refl
    held_chosen source.Today = refl
made_but n (Screen k) s f = record { held = λ x t e far. by x; chosen = λ j far. refl }
  where
    by : (x : Source) → stored_value (made (Screen k) s) x ≡ stored_value s x
    by (source.Input j) = refl
    by (source.Cell j) = refl
    by (source.Global j) = refl
    by (source.Context j) = refl
    by (source.Gathered j) = refl
    by (source.Chosen j) = refl
    by (source.Table j) = refl
    by source.Today = refl
made_but n (Notice w) s f = record { held = λ x t e far. by x; chosen = λ j far. refl }
  where
    by : (x : Source) → stored_value (made (Notice w) s) x ≡ stored_value s x
    by (source.Input j) = refl
    by (source.Cell j) = refl
    by (source.Global j) = refl
    by (source.Context j) = refl
    by (source.Gathered j) = refl
    by (source.Chosen j) = refl
    by (source.Table j) = refl
    by source.Today = refl

-- so does one that may have been refused
pub session_but : (n : Names) (c : Change) (done : Bool) (s r : SessionState) (o : Option Source) → FitsChange n c → option_to_list o ≡ written c → r ≡ (if done then made c s else s) → SameSessionExcept n (option_to_list (source_if_done done o)) s r
session_but n c true s r o f e h = subst (λ (z : SessionState). SameSessionExcept n (option_to_list o) s z) (sym h) (subst (λ (ws : List Source). SameSessionExcept n ws s (made c s)) (sym e) (made_but n c s f))
session_but n c false s r o f e h = subst (λ (z : SessionState). SameSessionExcept n [] s z) (sym h) (no_change n [] s)

-- what sources give over the two
input_given : (a : App) (s r : SessionState) (values : ℕ → Data) (k : ℕ) → stored_value r (source.Input k) ≡ stored_value s (source.Input k) → input_of a.names s values k ≡ input_of a.names r values k
input_given a s r values k e = ap (λ d. given_or d (cell_value_or values (unset_value (slice_get a.names.controls k)) (default_cell a.names k))) (sym e)

chosen_given : (a : App) (s r : SessionState) (values : ℕ → Data) (k : ℕ) → slice_index_or r.chosen k None ≡ slice_index_or s.chosen k None → selected_of a.names s values k ≡ selected_of a.names r values k
chosen_given a s r values k e = ap (λ o. chosen_of o (items_of a.names values k)) (sym e)

pub sessions_give : (a : App) (s r : SessionState) (tables : ToldRows) (m : ℕ) (ws : List Source) → SameSessionExcept a.names ws s r → AreSameBut ws (present a s tables m) (present a r tables m)
sessions_give a s r tables m ws h = record { told = λ rows e. (rows, e); gives = λ x t values v typed far plain g. by x t values v typed far g }
  where
    by : (x : Source) (t : Shape) (values : ℕ → Data) (v : Data) → sources a.names x ≡ Some t → (IsAmong x ws → ⊥) → SourceGives (present a s tables m) values x v → SourceGives (present a r tables m) values x v
    by (source.Cell k) t values v typed far g = g
    by (source.Global k) t values v typed far g = g ∙ sym (h.held (source.Global k) t typed far)
    by (source.Context k) t values v typed far g = g ∙ sym (h.held (source.Context k) t typed far)
    by (source.Gathered k) t values v typed far g = g ∙ sym (h.held (source.Gathered k) t typed far)
    by (source.Input k) t values v typed far g = g ∙ input_given a s r values k (h.held (source.Input k) t typed far)
    by (source.Chosen k) t values v typed far g = g ∙ chosen_given a s r values k (h.chosen k far)
    by (source.Table k) t values v typed far g = g
    by source.Today t values v typed far g = g

-- ---- tables
state_apart : (ss : List TableState) (k j : ℕ) (x : TableState) → j ≢ k → state_at (set ss k x) j ≡ state_at ss j
state_apart ss k j x h = unwrap_or-slice_get (set ss k x) j no_rows ∙ get_or-set_other ss k j x no_rows h ∙ sym (unwrap_or-slice_get ss j no_rows)

same_tables : (ws : List Source) (t u : Tables) → u ≡ t → SameTablesExcept ws t u
same_tables ws t u e k far = ap (λ (z : Tables). state_at z.states k) e

with_but : (t u : Tables) (k : ℕ) (x : TableState) → u ≡ with_state t k x → SameTablesExcept (source.Table k ∷ []) t u
with_but t u k x e j far = ap (λ (z : Tables). state_at z.states j) e ∙ state_apart t.states k j x (apart source.Table j k far)

pub inserted_but : (columns : List Column) (k : ℕ) (cells : List Data) (put : Put) (t u : Tables) → Inserts columns k cells put t u → SameTablesExcept (written_by put k) t u
inserted_but columns k cells (Id n) t u h = with_but t u k _ h.2
inserted_but columns k cells NoRow t u h = absurd h
inserted_but columns k cells (Refused r) t u h = same_tables [] t u h.1

pub replaced_but : (columns : List Column) (k id : ℕ) (cells : List Data) (put : Put) (t u : Tables) → Replaces columns k id cells put t u → SameTablesExcept (written_by put k) t u
replaced_but columns k id cells (Id n) t u h = with_but t u k _ h.3
replaced_but columns k id cells NoRow t u h = same_tables [] t u h.1
replaced_but columns k id cells (Refused r) t u h = same_tables [] t u h.2

pub removed_but : (k id : ℕ) (was : Bool) (t u : Tables) → Removes k id was t u → SameTablesExcept (option_to_list (source_if_done was (Some (source.Table k)))) t u
removed_but k id true t u h = with_but t u k _ h.1
removed_but k id false t u h = same_tables [] t u h.1

table_given : (o : Option TableShape) (rows later : List (List Row)) (k : ℕ) (v : Data) → rows_at later k ≡ rows_at rows k → GivesTable o (Some rows) k v → GivesTable o (Some later) k v
table_given (Some t) rows later k v e g = g ∙ ap (rows_table t) (sym e)
table_given None rows later k v e g = g

pub tables_give : (a : App) (s : SessionState) (t u : Tables) (m : ℕ) (ws : List Source) → SameTablesExcept ws t u → AreSameBut ws (present a s (Some (rows_of_tables t.states)) m) (present a s (Some (rows_of_tables u.states)) m)
tables_give a s t u m ws h = record { told = λ rows e. (rows_of_tables t.states, refl); gives = λ x w values v typed far plain g. by x values v far g }
  where
    by : (x : Source) (values : ℕ → Data) (v : Data) → (IsAmong x ws → ⊥) → SourceGives (present a s (Some (rows_of_tables t.states)) m) values x v → SourceGives (present a s (Some (rows_of_tables u.states)) m) values x v
    by (source.Table k) values v far g =
        table_given (slice_get a.names.schema.tables k) (rows_of_tables t.states) (rows_of_tables u.states) k v
        (rows_are u.states k ∙ ap (λ (z : TableState). z.rows) (h k far) ∙ sym (rows_are t.states k)) g
    by (source.Cell k) values v far g = g
    by (source.Global k) values v far g = g
    by (source.Context k) values v far g = g
    by (source.Gathered k) values v far g = g
    by (source.Input k) values v far g = g
    by (source.Chosen k) values v far g = g
    by source.Today values v far g = g

-- ---- what is told to the cache
pub plain_of : (n : Names) (x : Source) → IsSourceOf n x → is_cell x ≡ false
plain_of n (source.Cell k) h = absurd h
plain_of n (source.Global k) h = refl
plain_of n (source.Context k) h = refl
plain_of n (source.Gathered k) h = refl
plain_of n (source.Input k) h = refl
plain_of n (source.Chosen k) h = refl
plain_of n (source.Table k) h = refl
plain_of n source.Today h = refl

pub touched_order : (a : App) (o : Option Source) (old new : CacheState) → IsOneOf a.names o → IsTouchedIf a o old new → IsInOrder a old → IsInOrder a new
touched_order a None old new h e order = subst (IsInOrder a) (sym e) order
touched_order a (Some x) old new h e order = (e (plain_of a.names x h)).order order

pub touched_day : (a : App) (m : ℕ) (o : Option Source) (old new : CacheState) → IsOneOf a.names o → IsTouchedIf a o old new → ∥ IsToday m old.values.day ∥₁ → ∥ IsToday m new.values.day ∥₁
touched_day a m None old new h e day = subst (λ (c : CacheState). ∥ IsToday m c.values.day ∥₁) (sym e) day
touched_day a m (Some x) old new h e day = subst (λ d. ∥ IsToday m d ∥₁) (sym (e (plain_of a.names x h)).day) day

pub touched_right : (a : App) (s : SessionState) (tables : ToldRows) (m : ℕ) (o : Option Source) (old new : CacheState) → IsOneOf a.names o → IsTouchedIf a o old new → IsRight (present a s tables m) (option_to_list o) old → IsRight (present a s tables m) [] new
touched_right a s tables m None old new h e r = subst (IsRight (present a s tables m) []) (sym e) r
touched_right a s tables m (Some x) old new h e r = (e (plain_of a.names x h)).right s tables m [] r

-- the session changed, and the cache was told
pub session_told : (a : App) (s r : SessionState) (told : Option Tables) (m : ℕ) (o : Option Source) (old new : CacheState) → IsSoundApp a → IsOneOf a.names o → SameSessionExcept a.names (option_to_list o) s r → IsTouchedIf a o old new →
    ∥ IsRightOver a s told m old ∥₁ → ∥ IsRightOver a r told m new ∥₁
session_told a s r told m o old new sound one but e right =
    ∥∥₁_map right (λ h tables heard. touched_right a r tables m o old new one e (changed a s r tables tables m m [] (option_to_list o) old sound (λ x none. absurd none) (sessions_give a s r tables m (option_to_list o) but) (h tables heard)))

-- the tables did
pub tables_told : (lost : Type 0) (P : Tables → Tables → Type 0) (a : App) (s : SessionState) (m : ℕ) (o : Option Source) (old new : CacheState) (x y : Option Tables) → ((t u : Tables) → P t u → SameTablesExcept (option_to_list o) t u) → IsSoundApp a → IsOneOf a.names o →
    MayFallSilent lost P x y → IsTouchedIf a o old new → ∥ IsRightOver a s x m old ∥₁ → ∥ IsRightOver a s y m new ∥₁
tables_told lost P a s m o old new x y but sound one goes e right = ∥∥₁_map right (λ h tables heard. touched_right a s tables m o old new one e (by x y goes h tables heard))
  where
    none : IsRight (present a s None m) [] old → IsRight (present a s None m) (option_to_list o) old
    none h = changed a s s None None m m [] (option_to_list o) old sound (λ z n. absurd n) (sessions_give a s s None m (option_to_list o) (no_change a.names (option_to_list o) s)) h

    by : (x y : Option Tables) → MayFallSilent lost P x y → IsRightOver a s x m old → (tables : ToldRows) → IsHeardOf y tables → IsRight (present a s tables m) (option_to_list o) old
    by x y g h None heard = none (h None tt)
    by None y g h (Some rows) heard = let silent : rows_told None ≡ Some rows = subst (λ (z : Option Tables). rows_told z ≡ Some rows) g heard in absurd cc
    by (Some t) None g h (Some rows) heard = absurd cc
    by (Some t) (Some u) g h (Some rows) heard =
        let same : rows_of_tables u.states ≡ rows = cc in
        subst (λ (z : List (List Row)). IsRight (present a s (Some z) m) (option_to_list o) old) same
        (changed a s s (Some (rows_of_tables t.states)) (Some (rows_of_tables u.states)) m m [] (option_to_list o) old sound (λ z n. absurd n) (tables_give a s t u m (option_to_list o) (but t u g)) (h (Some (rows_of_tables t.states)) refl))

-- the tables stay
pub heard_back : (lost : Type 0) (x y : Option Tables) (rows : ToldRows) → MayFallSilent lost Stays x y → IsHeardOf y rows → IsHeardOf x rows
heard_back lost x y None g h = tt
heard_back lost None y (Some rows) g h = subst (λ (z : Option Tables). rows_told z ≡ Some rows) g h
heard_back lost (Some t) None (Some rows) g h = absurd cc
heard_back lost (Some t) (Some u) (Some rows) g h = subst (λ (z : Tables). rows_told (Some z) ≡ Some rows) g h

pub right_stays : (lost : Type 0) (a : App) (s : SessionState) (m : ℕ) (c : CacheState) (x y : Option Tables) → MayFallSilent lost Stays x y → ∥ IsRightOver a s x m c ∥₁ → ∥ IsRightOver a s y m c ∥₁
right_stays lost a s m c x y goes right = ∥∥₁_map right (λ h tables heard. h tables (heard_back lost x y tables goes heard))

-- ---- what is written
pub later_more : (n : ℕ) (ws us : List Source) → n ≤ length ws → drop n (ws ++ us) ≡ drop n ws ++ us
later_more n ws us h = drop-append-le n ws us h

pub earlier_more : (n : ℕ) (ws us : List Source) → n ≤ length ws → take n (ws ++ us) ≡ take n ws
earlier_more n ws us h = take-append-le n ws us h

among_taken : (n : ℕ) (ys : List Source) (x : Source) → IsAmong x (take n ys) → IsAmong x ys
among_taken zero ys x h = absurd h
among_taken (suc n) [] x h = absurd h
among_taken (suc n) (y ∷ ys) x (inl e) = inl e
among_taken (suc n) (y ∷ ys) x (inr l) = inr (among_taken n ys x l)

-- what was written before is among what is now
pub among_before : (xs ys : List Source) → take (length xs) ys ≡ xs → (x : Source) → IsAmong x xs → IsAmong x ys
among_before xs ys front x h = among_taken (length xs) ys x (subst (λ (l : List Source). IsAmong x l) (sym front) h)

-- clean cells are left so but for what was noted as well
left_told : (a : App) (ws : List Source) (o : Option Source) (start old new : CacheState) → IsOneOf a.names o → IsTouchedIf a o old new → StaysCleanExcept a ws start old → StaysCleanExcept a (ws ++ option_to_list o) start new
left_told a ws None start old new one same left = subst (StaysCleanExcept a (ws ++ []) start) (sym same) (left_wider a ws (ws ++ []) start old (λ x l. among_left x ws [] l) left)
left_told a ws (Some s) start old new one touched left =
    let t = touched (plain_of a.names s one) in
    left_then a (ws ++ s ∷ []) start old new (left_wider a ws (ws ++ s ∷ []) start old (λ x l. among_left x ws (s ∷ []) l) left)
    (left_wider a (s ∷ []) (ws ++ s ∷ []) old new (λ x l. among_right x ws (s ∷ []) l) t.but)

-- so they are where something was given or chosen
pub given_left : (a : App) (ws : List Source) (o : Option Source) (old new : CacheState) → AreSources a.names (option_to_list o) → IsTouchedIf a o old new → StaysCleanExcept a (ws ++ option_to_list o) old new
given_left a ws None old new own h = left_told a ws None old old new tt h (left_same a ws old)
given_left a ws (Some x) old new own h = left_told a ws (Some x) old old new (own x (inl refl)) h (left_same a ws old)

-- ---- a change as a whole
-- what was done to a session's cache, and noted: the source is one of the app's, and the session differs in it alone
pub record IsNoted (a : App) (o : Option Source) (s r : SessionState) (ws us : List Source) (old new : CacheState) : Type 0 where
  pub one : IsOneOf a.names o
  pub but : SameSessionExcept a.names (option_to_list o) s r
  pub wrote : us ≡ ws ++ option_to_list o
  pub touched : IsTouchedIf a o old new

module _ (a : App) (o : Option Source) (before s r : SessionState) (ws us : List Source) (old new : CacheState) (m n : ℕ) (told : Option Tables) (h : IsNoted a o s r ws us old new) where
  pub noted_order : IsInOrder a old → IsInOrder a new
  noted_order order = touched_order a o old new h.one h.touched order

  pub noted_day : ∥ IsToday m old.values.day ∥₁ → ∥ IsToday m new.values.day ∥₁
  noted_day day = touched_day a m o old new h.one h.touched day

  pub noted_right : IsSoundApp a → ∥ IsRightOver a s told m old ∥₁ → ∥ IsRightOver a r told m new ∥₁
  noted_right sound right = session_told a s r told m o old new sound h.one h.but h.touched right

  pub noted_listed : AreSources a.names ws → AreSources a.names us
  noted_listed listed = subst (AreSources a.names) (sym h.wrote) (sources_more a.names ws o listed h.one)

  pub noted_but : SameSessionExcept a.names ws before s → SameSessionExcept a.names us before r
  noted_but but = subst (λ (xs : List Source). SameSessionExcept a.names xs before r) (sym h.wrote) (sessions_more a.names ws (option_to_list o) before s r but h.but)

  pub noted_left : (start : CacheState) → StaysCleanExcept a ws start old → StaysCleanExcept a us start new
  noted_left start left = subst (λ (xs : List Source). StaysCleanExcept a xs start new) (sym h.wrote) (left_told a ws o start old new h.one h.touched left)

  pub noted_counted : n ≤ length ws → n ≤ length us
  noted_counted low = let long : length us ≡ length ws + length (option_to_list o) = ap length h.wrote ∙ length-append ws (option_to_list o) in omega (arith, low, long)

  pub noted_earlier : n ≤ length ws → take n us ≡ take n ws
  noted_earlier low = ap (take n) h.wrote ∙ earlier_more n ws (option_to_list o) low

  pub noted_later : n ≤ length ws → drop n us ≡ drop n ws ++ option_to_list o
  noted_later low = ap (drop n) h.wrote ∙ later_more n ws (option_to_list o) low

  pub noted_later_as : (xs : List Source) → option_to_list o ≡ xs → n ≤ length ws → drop n us ≡ drop n ws ++ xs
  noted_later_as xs e low = noted_later low ∙ ap (λ (ys : List Source). drop n ws ++ ys) e

-- a change of the session
pub session_noted : (a : App) (c : Change) (done : Bool) (source o : Option Source) (s r : SessionState) (ws mid us : List Source) (old new : CacheState) → FitsChange a.names c → option_to_list source ≡ written c → o ≡ source_if_done done source → r ≡ (if done then made c s else s) →
    us ≡ mid ++ option_to_list o → mid ≡ ws → IsTouchedIf a o old new → IsNoted a o s r ws us old new
session_noted a c done source o s r ws mid us old new fit e k h wrote room touched = record {
  one = subst (IsOneOf a.names) (sym k) (when_is a.names done source (written_is a.names c source fit e));
  but = subst (λ (z : Option Source). SameSessionExcept a.names (option_to_list z) s r) (sym k) (session_but a.names c done s r source fit e h);
  wrote = wrote ∙ ap (λ (xs : List Source). xs ++ option_to_list o) room;
  touched = touched;
}

-- a change of a table
pub table_noted : (a : App) (o : Option Source) (s : SessionState) (ws mid us : List Source) (old new : CacheState) → IsOneOf a.names o → us ≡ mid ++ option_to_list o → mid ≡ ws → IsTouchedIf a o old new → IsNoted a o s s ws us old new
table_noted a o s ws mid us old new one wrote room touched = record { one = one; but = no_change a.names (option_to_list o) s; wrote = wrote ∙ ap (λ (xs : List Source). xs ++ option_to_list o) room; touched = touched }

-- ---- calls that count
goes_stays : (lost : Type 0) (P : Tables → Tables → Type 0) (x y : Option Tables) → ((t u : Tables) → P t u → u ≡ t) → MayFallSilent lost P x y → MayFallSilent lost Stays x y
goes_stays lost P None y same g = g
goes_stays lost P (Some t) None same g = g
goes_stays lost P (Some t) (Some u) same g = same t u g

pub counted_stays : (lost : Type 0) (q : Query) (r : Result ℕ KeeperEnd) (x y : Option Tables) → IfOk r (λ n. MayFallSilent lost (CountsQuery q n) x y) → OnErr r (MayFallSilent lost Stays x y) → MayFallSilent lost Stays x y
counted_stays lost q (Ok n) x y f g = goes_stays lost (CountsQuery q n) x y (λ t u h. h.1) f
counted_stays lost q (Err e) x y f g = g

pub totalled_stays : (lost : Type 0) (q : Query) (column : ℕ) (r : Result Totals KeeperEnd) (x y : Option Tables) → IfOk r (λ totals. MayFallSilent lost (TotalsUp q column totals) x y) → OnErr r (MayFallSilent lost Stays x y) → MayFallSilent lost Stays x y
totalled_stays lost q column (Ok n) x y f g = goes_stays lost (TotalsUp q column n) x y (λ t u h. h.1) f
totalled_stays lost q column (Err e) x y f g = g
