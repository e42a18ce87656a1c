-- What a formula does has nothing to do with the tables as the transaction began.
use Rattle.std.proofs.Common.{◌≡◌, ℕ, List, [], ◌∷◌, ◌++◌, Bool, true, false, map, Option, None, Some, Result, Ok, Err, inl, inr, ap}
use Rattle.std.specs.Prelude.{◌⊎◌, IsSomeAnd, MatchOption, MatchResult, slice_get}
use Rattle.std.specs.List.{find}
use Rattle.fx_behave.specs.Perform.{PerformsEach, ArePerformed, Decides, Doing, IsAct, PerformsNode, IsBranched, IsChain, NodeComesTo, IsForAll, IsListed, IsOverAll, PerformsIfError, PerformsSwitch, IsUpdateIf, PerformsWith, OfOnePart, switch_decision, performing, performings, taken}
use Rattle.fx_types.specs.declared.faults.Kind.{Kind}
use Rattle.fx_types.specs.declared.values.Value.{Value}
use Rattle.fx_types.specs.Types.{ColumnList, Shape}
use Rattle.fx_types.specs.Values.{Data, blank, number, text, boolean, date, rec, tab, fault}
use Rattle.fx_deeds.specs.Changed.{IsChanged, IsRowChanged, IsRowMade, IsRowRemoved}
use Rattle.fx_deeds.specs.Collections as gathered
use Rattle.fx_deeds.specs.Deeds as deeds
use Rattle.fx_deeds.specs.Deeds.{AnswersOnly, ByDone, ByFound, ByPut, ChangeGives, IsValueGiven, Makes, OrError, OrErrorAmong}
use Rattle.fx_deeds.specs.Done.{IsDeed, IsUpdate, errors_in}
use Rattle.fx_deeds.specs.RowValues.{blank_cells, changed_cells, changed_row, columns_of_rows, record_row, rows_among, values_among}
use Rattle.fx_deeds.specs.State.{EvalFrame, Ground, WorldState}
use Rattle.fx_eval.specs.Parts.{caught_in, inner}
use Rattle.fx_env.specs.Scopes.{ScopeValues}
use Rattle.fx_semantics.specs.Places.{is_for_all}
use Rattle.fx_scalar.specs.LazyForms.{CaughtOr, decision_of, none_left}
use Rattle.fx_scalar.specs.declared.lazy_forms.Decision.{Decision}
use Rattle.fx_scalar.specs.declared.lazy_forms.Decision.TheVariants.{Met, Unmet, Error}
use Rattle.fx_semantics.specs.Around.{record_of}
use Rattle.fx_semantics.specs.Fresh.{field_of}
use Rattle.fx_semantics.specs.Rows.{rows_in, table_of}
use Rattle.fx_tables.specs.RowCalls.{for_all_of}
use Rattle.fx_tables.specs.Unions.{is_fault}
use Rattle.fx_core.specs.Lawful.{id_name}
use Rattle.fx_core.specs.Term.{Term, Terms, of, nil, cons, Top}
use Rattle.fx_core.specs.Term as top
use Rattle.fx_core.specs.declared.deeds.Deed.{Deed}
use Rattle.fx_core.specs.declared.deeds.Deed.TheVariants as deed
use Rattle.fx_core.specs.declared.deeds.Target.{Target}
use Rattle.fx_core.specs.declared.deeds.Target.TheVariants as target
use Rattle.fx_core.specs.declared.functions.Form.TheVariants as form
use Rattle.fx_core.specs.declared.schema.Schema.{Schema}
use Rattle.fx_core.specs.declared.schema.TableShape.{TableShape}
use Rattle.fx_core.specs.declared.sources.Source.{Source}
use Rattle.fx_core.specs.declared.sources.Source.TheVariants as source
use Rattle.fx_typing.specs.Acts.{acts}
use Rattle.fx_value.specs.Coercion.{IsCoerced, field_or_blank}
use Rattle.fx_value.specs.Columns.{Row}
use Rattle.recalc.specs.app_cells.declared.app.App.{App}
use Rattle.row_keeper.specs.Tables.{Tables}
use Rattle.row_keeper.specs.declared.rows.Put.{Put}
use Rattle.row_keeper.specs.declared.rows.Put.TheVariants.{Id, NoRow, Refused}
use Rattle.session_state.specs.declared.change.Change.{Change}
use Rattle.session_state.specs.declared.change.Change.TheVariants as change
use Rattle.session_requests.specs.WorldContext.{WorldContext, frame, grounds, ground_of}

-- the state, with other tables as the transaction began
abbrev pub with_began : Option Tables → WorldState WorldContext → WorldState WorldContext
with_began b s = record s { app = grounds s.app.app s.app.moment b }

-- what is answered or done stays so
abbrev Moves : Option Tables → (WorldState WorldContext → Data → WorldState WorldContext → Type 0) → Type 0
Moves b R = (s : WorldState WorldContext) (x : Data) (t : WorldState WorldContext) → R s x t → R (with_began b s) x (with_began b t)

answers : (b : Option Tables) (d : Data) → Moves b (AnswersOnly d)
answers b d s x t h = (h.0, ap (with_began b) h.1)

or_error : (b : Option Tables) (w : Data) (P Q : Type 0) (s : WorldState WorldContext) (x : Data) (t : WorldState WorldContext) → (P → Q) → OrError w P s x t → OrError w Q (with_began b s) x (with_began b t)
or_error b (fault k cs) P Q s x t f h = answers b (fault k cs) s x t h
or_error b blank P Q s x t f h = f h
or_error b (number z) P Q s x t f h = f h
or_error b (text z) P Q s x t f h = f h
or_error b (boolean z) P Q s x t f h = f h
or_error b (date z) P Q s x t f h = f h
or_error b (rec z) P Q s x t f h = f h
or_error b (tab z) P Q s x t f h = f h

-- where one is found, that is answered
found : {X : Type 0} (b : Option Tables) (o : Option X) (d : X → Data) (P Q : Type 0) (s : WorldState WorldContext) (x : Data) (t : WorldState WorldContext) → (P → Q) →
    MatchOption o P (λ e. AnswersOnly (d e) s x t) → MatchOption o Q (λ e. AnswersOnly (d e) (with_began b s) x (with_began b t))
found b None d P Q s x t f h = f h
found b (Some e) d P Q s x t f h = answers b (d e) s x t h

or_among : (b : Option Tables) (ys : List Data) (P Q : Type 0) (s : WorldState WorldContext) (x : Data) (t : WorldState WorldContext) → (P → Q) → OrErrorAmong ys P s x t → OrErrorAmong ys Q (with_began b s) x (with_began b t)
or_among b ys P Q s x t f h = found b (find is_fault ys) (λ e. e) P Q s x t f h

-- P of what is there, and else an answer
there : {X : Type 0} (b : Option Tables) (o : Option X) (d : Data) (P Q : X → Type 0) (s : WorldState WorldContext) (x : Data) (t : WorldState WorldContext) → ((y : X) → P y → Q y) →
    MatchOption o (AnswersOnly d s x t) P → MatchOption o (AnswersOnly d (with_began b s) x (with_began b t)) Q
there b None d P Q s x t f h = answers b d s x t h
there b (Some y) d P Q s x t f h = f y h

named : (b : Option Tables) (o : Result ℕ Data) (P Q : ℕ → Type 0) (s : WorldState WorldContext) (x : Data) (t : WorldState WorldContext) → ((id : ℕ) → P id → Q id) →
    MatchResult o P (λ e. AnswersOnly e s x t) → MatchResult o Q (λ e. AnswersOnly e (with_began b s) x (with_began b t))
named b (Ok id) P Q s x t f h = f id h
named b (Err e) P Q s x t f h = answers b e s x t h

of_some : {X : Type 0} (o : Option X) (P Q : X → Type 0) → ((y : X) → P y → Q y) → IsSomeAnd o P → IsSomeAnd o Q
of_some None P Q f h = absurd h
of_some (Some y) P Q f h = f y h

-- ---- changes of the session

changed : (b : Option Tables) (c : Change) (done : Bool) (s t : WorldState WorldContext) → IsChanged c done s t → IsChanged c done (with_began b s) (with_began b t)
changed b c true s t h = (h.0, ap (with_began b) h.1)
changed b c false s t h = (h.0, ap (with_began b) h.1)

makes : (b : Option Tables) (c : Change) (taken : Data) → Moves b (Makes c taken)
makes b c taken s x t h = (h.0, changed b c h.0 s t h.1, h.2)

is_given : (b : Option Tables) (c : Value → Change) (d : Data) (done : Bool) (s t : WorldState WorldContext) → IsValueGiven c d done s t → IsValueGiven c d done (with_began b s) (with_began b t)
is_given b c d done s t h = (h.0, h.1, changed b (c h.0) done s t h.2)

gives_to : (b : Option Tables) (c : Value → Change) (d taken : Data) → Moves b (ChangeGives c d taken)
gives_to b c d taken s x t h = (h.0, h.1, makes b (c h.0) taken s x t h.2)

by_done : (b : Option Tables) (done : Bool) (P Q : Type 0) (s : WorldState WorldContext) (x : Data) (t : WorldState WorldContext) → (P → Q) → ByDone done P s x t → ByDone done Q (with_began b s) x (with_began b t)
by_done b true P Q s x t f h = f h
by_done b false P Q s x t f h = answers b _ s x t h

are_set : (b : Option Tables) (ks : List Source) (ys : List Data) → Moves b (deeds.UpdatesContext ks ys)
are_set b [] [] s x t h = answers b _ s x t h
are_set b [] (y ∷ ys) s x t h = absurd h
are_set b (source.Context k ∷ ks) [] s x t h = absurd h
are_set b (source.Context k ∷ ks) (y ∷ ys) s x t h = (
  h.0,
  with_began b h.1,
  is_given b (change.Context k) y h.0 s h.1 h.2,
  by_done b h.0 (deeds.UpdatesContext ks ys h.1 x t) (deeds.UpdatesContext ks ys (with_began b h.1) x (with_began b t)) h.1 x t (are_set b ks ys h.1 x t) h.3,
)
are_set b (source.Cell k ∷ ks) ys s x t h = absurd h
are_set b (source.Global k ∷ ks) ys s x t h = absurd h
are_set b (source.Gathered k ∷ ks) ys s x t h = absurd h
are_set b (source.Input k ∷ ks) ys s x t h = absurd h
are_set b (source.Chosen k ∷ ks) ys s x t h = absurd h
are_set b (source.Table k ∷ ks) ys s x t h = absurd h
are_set b (source.Today ∷ ks) ys s x t h = absurd h

-- ---- rows of tables

row_made : (b : Option Tables) (p : TableShape) (k : ℕ) (cells : List Data) (put : Put) (s t : WorldState WorldContext) → IsRowMade p.columns k cells put s t → IsRowMade p.columns k cells put (with_began b s) (with_began b t)
row_made b p k cells (Id n) s t h = (h.0, h.1, ap (with_began b) h.2)
row_made b p k cells NoRow s t h = (h.0, h.1, ap (with_began b) h.2)
row_made b p k cells (Refused r) s t h = (h.0, h.1, ap (with_began b) h.2)

row_changed : (b : Option Tables) (p : TableShape) (k id : ℕ) (cells : List Data) (put : Put) (s t : WorldState WorldContext) → IsRowChanged p.columns k id cells put s t → IsRowChanged p.columns k id cells put (with_began b s) (with_began b t)
row_changed b p k id cells (Id n) s t h = (h.0, h.1, ap (with_began b) h.2)
row_changed b p k id cells NoRow s t h = (h.0, h.1, ap (with_began b) h.2)
row_changed b p k id cells (Refused r) s t h = (h.0, h.1, ap (with_began b) h.2)

row_removed : (b : Option Tables) (k id : ℕ) (was : Bool) (s t : WorldState WorldContext) → IsRowRemoved k id was s t → IsRowRemoved k id was (with_began b s) (with_began b t)
row_removed b k id true s t h = (h.0, h.1, ap (with_began b) h.2)
row_removed b k id false s t h = (h.0, h.1, ap (with_began b) h.2)

by_found : (b : Option Tables) (was : Bool) (P Q : Type 0) (s : WorldState WorldContext) (x : Data) (t : WorldState WorldContext) → (P → Q) → ByFound was P s x t → ByFound was Q (with_began b s) x (with_began b t)
by_found b true P Q s x t f h = f h
by_found b false P Q s x t f h = answers b _ s x t h

by_put : (b : Option Tables) (p : TableShape) (put : Put) (P Q : Type 0) (s : WorldState WorldContext) (x : Data) (t : WorldState WorldContext) → (P → Q) → ByPut p put P s x t → ByPut p put Q (with_began b s) x (with_began b t)
by_put b p (Id id) P Q s x t f h = f h
by_put b p NoRow P Q s x t f h = answers b _ s x t h
by_put b p (Refused r) P Q s x t f h = answers b _ s x t h

makes_row : (b : Option Tables) (p : TableShape) (k : ℕ) (cells : List Data) → Moves b (deeds.MakesRow p k cells)
makes_row b p k cells s x t h = (h.0, row_made b p k cells h.0 s t h.1, h.2)

changes_row : (b : Option Tables) (p : TableShape) (k id : ℕ) (cells : List Data) → Moves b (deeds.ChangesRow p k id cells)
changes_row b p k id cells s x t h = (h.0, row_changed b p k id cells h.0 s t h.1, h.2)

patches_row : (b : Option Tables) (p : TableShape) (k : ℕ) (changes : List Row) (id : ℕ) → Moves b (deeds.PatchesRow p k changes id)
patches_row b p k changes id s x t h =
    there b (deeds.row_numbered k id s) _ (λ r. deeds.ChangesRow p k id (changed_cells p.columns changes r.cells) s x t)
    (λ r. deeds.ChangesRow p k id (changed_cells p.columns changes r.cells) (with_began b s) x (with_began b t)) s x t
    (λ r. changes_row b p k id (changed_cells p.columns changes r.cells) s x t) h

patches_by_id : (b : Option Tables) (p : TableShape) (k : ℕ) (changes : List Row) (d : Data) → Moves b (deeds.PatchesById p k changes d)
patches_by_id b p k changes blank s x t h = makes_row b p k _ s x t h
patches_by_id b p k changes (number z) s x t h =
    named b (deeds.named_id (number z)) (λ id. deeds.PatchesRow p k changes id s x t) (λ id. deeds.PatchesRow p k changes id (with_began b s) x (with_began b t)) s x t
    (λ id. patches_row b p k changes id s x t) h
patches_by_id b p k changes (text z) s x t h = answers b _ s x t h
patches_by_id b p k changes (boolean z) s x t h = answers b _ s x t h
patches_by_id b p k changes (date z) s x t h = answers b _ s x t h
patches_by_id b p k changes (rec z) s x t h = answers b _ s x t h
patches_by_id b p k changes (tab z) s x t h = answers b _ s x t h
patches_by_id b p k changes (fault e cs) s x t h = answers b _ s x t h

patches_base : (b : Option Tables) (p : TableShape) (k : ℕ) (changes : List Row) (d : Data) → Moves b (deeds.PatchesBase p k changes d)
patches_base b p k changes (rec fs) s x t h = patches_by_id b p k changes (field_or_blank id_name fs) s x t h
patches_base b p k changes blank s x t h = answers b _ s x t h
patches_base b p k changes (number z) s x t h = answers b _ s x t h
patches_base b p k changes (text z) s x t h = answers b _ s x t h
patches_base b p k changes (boolean z) s x t h = answers b _ s x t h
patches_base b p k changes (date z) s x t h = answers b _ s x t h
patches_base b p k changes (tab z) s x t h = answers b _ s x t h
patches_base b p k changes (fault e cs) s x t h = answers b _ s x t h

is_patched : (b : Option Tables) (schema : Schema) (k : ℕ) (base : Data) (ys : List Data) → Moves b (deeds.IsPatched schema k base ys)
is_patched b schema k base ys s x t h =
    or_among b (deeds.row_id_value base ∷ values_among (rows_among ys)) (deeds.OfTable schema k (λ p. deeds.PatchesBase p k (rows_among ys) base s x t))
    (deeds.OfTable schema k (λ p. deeds.PatchesBase p k (rows_among ys) base (with_began b s) x (with_began b t))) s x t
    (of_some (slice_get schema.tables k) (λ p. deeds.PatchesBase p k (rows_among ys) base s x t) (λ p. deeds.PatchesBase p k (rows_among ys) base (with_began b s) x (with_began b t))
    (λ p. patches_base b p k (rows_among ys) base s x t)) h

removes : (b : Option Tables) (k id : ℕ) (s : WorldState WorldContext) (P Q : WorldState WorldContext → Type 0) (x : Data) (t : WorldState WorldContext) → ((m : WorldState WorldContext) → P m → Q (with_began b m)) →
    deeds.RemovesThen k id s P x t → deeds.RemovesThen k id (with_began b s) Q x (with_began b t)
removes b k id s P Q x t f h = (h.0, with_began b h.1, row_removed b k id h.0 s h.1 h.2, by_found b h.0 (P h.1) (Q (with_began b h.1)) h.1 x t (f h.1) h.3)

are_removed : (b : Option Tables) (k : ℕ) (ys : List Data) → Moves b (deeds.AreRemoved k ys)
are_removed b k [] s x t h = answers b _ s x t h
are_removed b k (y ∷ ys) s x t h =
    named b (deeds.named_id (deeds.row_id_value y)) (λ id. deeds.RemovesThen k id s (λ m. deeds.AreRemoved k ys m x t) x t)
    (λ id. deeds.RemovesThen k id (with_began b s) (λ m. deeds.AreRemoved k ys m x (with_began b t)) x (with_began b t)) s x t
    (λ id. removes b k id s (λ m. deeds.AreRemoved k ys m x t) (λ m. deeds.AreRemoved k ys m x (with_began b t)) x t (λ m. are_removed b k ys m x t)) h

updates : (b : Option Tables) (p : TableShape) (k : ℕ) (changes : List Row) (id : ℕ) (s : WorldState WorldContext) (P Q : WorldState WorldContext → Type 0) (x : Data) (t : WorldState WorldContext) → ((m : WorldState WorldContext) → P m → Q (with_began b m)) →
    deeds.Updates p k changes id s P x t → deeds.Updates p k changes id (with_began b s) Q x (with_began b t)
updates b p k changes id s P Q x t f h =
    there b (deeds.row_numbered k id s) _
    (λ r. (put : Put) × (m : WorldState WorldContext) × IsRowChanged p.columns k id (changed_cells p.columns changes r.cells) put s m × ByPut p put (P m) m x t)
    (λ r. (put : Put) × (m : WorldState WorldContext) × IsRowChanged p.columns k id (changed_cells p.columns changes r.cells) put (with_began b s) m × ByPut p put (Q m) m x (with_began b t)) s x t
    (λ r g. (g.0, with_began b g.1, row_changed b p k id (changed_cells p.columns changes r.cells) g.0 s g.1 g.2, by_put b p g.0 (P g.1) (Q (with_began b g.1)) g.1 x t (f g.1) g.3)) h

are_updated : (b : Option Tables) (p : TableShape) (k : ℕ) (rs : List Row) (cs : List Data) → Moves b (deeds.AreUpdated p k rs cs)
are_updated b p k [] cs s x t h = answers b _ s x t h
are_updated b p k (r ∷ rs) [] s x t h = answers b _ s x t h
are_updated b p k (r ∷ rs) (c ∷ cs) s x t h =
    named b (deeds.named_id (deeds.row_id_value (record_of r))) (λ id. deeds.Updates p k (rows_in c) id s (λ m. deeds.AreUpdated p k rs cs m x t) x t)
    (λ id. deeds.Updates p k (rows_in c) id (with_began b s) (λ m. deeds.AreUpdated p k rs cs m x (with_began b t)) x (with_began b t)) s x t
    (λ id. updates b p k (rows_in c) id s (λ m. deeds.AreUpdated p k rs cs m x t) (λ m. deeds.AreUpdated p k rs cs m x (with_began b t)) x t (λ m. are_updated b p k rs cs m x t)) h

-- ---- rows of collections

holds : (b : Option Tables) (k : ℕ) (rows : List Row) (taken : Data) → Moves b (gathered.GathersRows k rows taken)
holds b k rows taken s x t h = gives_to b (change.Gather k) (table_of rows) taken s x t h

puts_for : (b : Option Tables) (k : ℕ) (r q : Row) → Moves b (gathered.PutsFor k r q)
puts_for b k r q s x t (inl h) = inl (h.0, h.1, h.2, holds b k (h.0 ++ q ∷ h.1) (record_of q) s x t h.3)
puts_for b k r q s x t (inr h) = inr (h.0, answers b _ s x t h.1)

patches_in : (b : Option Tables) (k : ℕ) (r q : Row) → Moves b (gathered.PatchesGathered k r q)
patches_in b k r q s x t (inl h) = inl (h.0, holds b k (gathered.rows_held k s ++ q ∷ []) (record_of q) s x t h.1)
patches_in b k r q s x t (inr h) = inr (h.0, puts_for b k r q s x t h.1)

is_patched_in : (b : Option Tables) (cs : ColumnList) (k : ℕ) (base : Data) (ys : List Data) → Moves b (gathered.IsPatchedIn cs k base ys)
is_patched_in b cs k base ys s x t h =
    let r : Row = record_row cs base in
    let q : Row = changed_row cs (rows_among ys) r in
    or_among b (values_among (rows_among ys)) (gathered.PatchesGathered k r q s x t) (gathered.PatchesGathered k r q (with_began b s) x (with_began b t)) s x t (patches_in b k r q s x t) h

are_taken : (b : Option Tables) (cs : ColumnList) (k : ℕ) (ys : List Data) → Moves b (gathered.AreTaken cs k ys)
are_taken b cs k [] s x t h = answers b _ s x t h
are_taken b cs k (y ∷ ys) s x t (inl h) =
    inl (
      h.0,
      h.1,
      h.2,
      with_began b h.3,
      h.4,
      is_given b (change.Gather k) (table_of (h.0 ++ h.1)) h.2 s h.3 h.5,
      by_done b h.2 (gathered.AreTaken cs k ys h.3 x t) (gathered.AreTaken cs k ys (with_began b h.3) x (with_began b t)) h.3 x t (are_taken b cs k ys h.3 x t) h.6,
    )
are_taken b cs k (y ∷ ys) s x t (inr h) = inr (h.0, answers b _ s x t h.1)

are_taken_if : (b : Option Tables) (k : ℕ) (kept : List Row) → Moves b (gathered.AreTakenIf k kept)
are_taken_if b k kept s x t h = (h.0, h.1, holds b k h.0 _ s x t h.2)

are_updated_in : (b : Option Tables) (cs : ColumnList) (k : ℕ) (kept : List Row) (changes : List Data) → Moves b (gathered.AreUpdatedIn cs k kept changes)
are_updated_in b cs k kept changes s x t h = (h.0, h.1, holds b k h.0 _ s x t h.2)

-- ---- deeds

is_deed : (b : Option Tables) (f : EvalFrame) (d : Deed) (ys : List Data) → Moves b (IsDeed f d ys)
is_deed b f (deed.Set k) [] s x t h = absurd h
is_deed b f (deed.Set k) (y ∷ []) s x t h = gives_to b (change.Global k) y _ s x t h
is_deed b f (deed.Set k) (y ∷ z ∷ ys) s x t h = absurd h
is_deed b f (deed.UpdateContext ks) ys s x t h = are_set b ks ys s x t h
is_deed b f (deed.Collect k) ys s x t h =
    let rows : List Row = gathered.rows_held k s ++ rows_among ys in
    or_among b ys (gathered.GathersRows k rows (boolean true) s x t) (gathered.GathersRows k rows (boolean true) (with_began b s) x (with_began b t)) s x t (holds b k rows (boolean true) s x t) h
is_deed b f (deed.Clear k) [] s x t h = makes b (change.Empty k) _ s x t h
is_deed b f (deed.Clear k) (y ∷ ys) s x t h = absurd h
is_deed b f (deed.ClearCollect k) ys s x t h =
    let rows : List Row = rows_among ys in
    or_among b ys (gathered.GathersRows k rows (boolean true) s x t) (gathered.GathersRows k rows (boolean true) (with_began b s) x (with_began b t)) s x t (holds b k rows (boolean true) s x t) h
is_deed b f (deed.Patch (target.Table k)) [] s x t h = absurd h
is_deed b f (deed.Patch (target.Table k)) (y ∷ ys) s x t h =
    or_among b (y ∷ ys) (deeds.IsPatched f.schema k y ys s x t) (deeds.IsPatched f.schema k y ys (with_began b s) x (with_began b t)) s x t (is_patched b f.schema k y ys s x t) h
is_deed b f (deed.Patch (target.Gathered k)) [] s x t h = absurd h
is_deed b f (deed.Patch (target.Gathered k)) (y ∷ ys) s x t h =
    let cs : ColumnList = columns_of_rows (f.types (source.Gathered k)) in
    or_among b (y ∷ ys) (gathered.IsPatchedIn cs k y ys s x t) (gathered.IsPatchedIn cs k y ys (with_began b s) x (with_began b t)) s x t (is_patched_in b cs k y ys s x t) h
is_deed b f (deed.Remove (target.Table k)) ys s x t h =
    or_among b ys (deeds.AreRemoved k ys s x t) (deeds.AreRemoved k ys (with_began b s) x (with_began b t)) s x t (are_removed b k ys s x t) h
is_deed b f (deed.Remove (target.Gathered k)) ys s x t h =
    let cs : ColumnList = columns_of_rows (f.types (source.Gathered k)) in
    or_among b ys (gathered.AreTaken cs k ys s x t) (gathered.AreTaken cs k ys (with_began b s) x (with_began b t)) s x t (are_taken b cs k ys s x t) h
is_deed b f (deed.RemoveIf (target.Table k)) [] s x t h = absurd h
is_deed b f (deed.RemoveIf (target.Gathered k)) [] s x t h = absurd h
is_deed b f (deed.RemoveIf (target.Table k)) (y ∷ []) s x t h =
    let rows : List Data = map record_of (rows_in y) in
    or_error b y (deeds.AreRemoved k rows s x t) (deeds.AreRemoved k rows (with_began b s) x (with_began b t)) s x t (are_removed b k rows s x t) h
is_deed b f (deed.RemoveIf (target.Gathered k)) (y ∷ []) s x t h =
    or_error b y (gathered.AreTakenIf k (rows_in y) s x t) (gathered.AreTakenIf k (rows_in y) (with_began b s) x (with_began b t)) s x t (are_taken_if b k (rows_in y) s x t) h
is_deed b f (deed.RemoveIf (target.Table k)) (y ∷ z ∷ ys) s x t h = absurd h
is_deed b f (deed.RemoveIf (target.Gathered k)) (y ∷ z ∷ ys) s x t h = absurd h
is_deed b f (deed.UpdateIf p) ys s x t h = absurd h
is_deed b f (deed.Navigate k) [] s x t h = makes b (change.Screen k) _ s x t h
is_deed b f (deed.Navigate k) (y ∷ ys) s x t h = absurd h
is_deed b f deed.Notify [] s x t h = absurd h
is_deed b f deed.Notify (y ∷ []) s x t h =
    let c : Change = change.Notice (deeds.text_or_none y) in
    or_error b y (Makes c (boolean true) s x t) (Makes c (boolean true) (with_began b s) x (with_began b t)) s x t (makes b c (boolean true) s x t) h
is_deed b f deed.Notify (y ∷ z ∷ ys) s x t h = absurd h
is_deed b f (deed.Reset k) [] s x t h = makes b (change.Input k None) _ s x t h
is_deed b f (deed.Reset k) (y ∷ ys) s x t h = absurd h

is_update : (b : Option Tables) (f : EvalFrame) (p : Target) (rows : List Row) (changes : List Data) → Moves b (IsUpdate f p rows changes)
is_update b f (target.Table k) rows changes s x t h =
    or_among b (errors_in changes) (deeds.OfTable f.schema k (λ p. deeds.AreUpdated p k rows changes s x t))
    (deeds.OfTable f.schema k (λ p. deeds.AreUpdated p k rows changes (with_began b s) x (with_began b t))) s x t
    (of_some (slice_get f.schema.tables k) (λ p. deeds.AreUpdated p k rows changes s x t) (λ p. deeds.AreUpdated p k rows changes (with_began b s) x (with_began b t))
    (λ p. are_updated b p k rows changes s x t)) h
is_update b f (target.Gathered k) rows changes s x t h =
    let cs : ColumnList = columns_of_rows (f.types (source.Gathered k)) in
    or_among b (errors_in changes) (gathered.AreUpdatedIn cs k rows changes s x t) (gathered.AreUpdatedIn cs k rows changes (with_began b s) x (with_began b t)) s x t
    (are_updated_in b cs k rows changes s x t) h

-- ---- formulas

-- what a formula does stays so
abbrev Moved : Option Tables → Doing WorldContext → Type 0
Moved b P = (h : ScopeValues) → Moves b (P h)

abbrev AllMoved : Option Tables → List (Doing WorldContext) → Type 0
AllMoved b [] = Unit {0}
AllMoved b (P ∷ Ps) = Moved b P × AllMoved b Ps

are_performed : (b : Option Tables) (Ps : List (Doing WorldContext)) → AllMoved b Ps → (h : ScopeValues) (s : WorldState WorldContext) (xs : List Data) (t : WorldState WorldContext) →
    ArePerformed Ps h s xs t → ArePerformed Ps h (with_began b s) xs (with_began b t)
are_performed b [] all h s [] t g = ap (with_began b) g
are_performed b [] all h s (x ∷ xs) t g = absurd g
are_performed b (P ∷ Ps) all h s [] t g = absurd g
are_performed b (P ∷ Ps) all h s (x ∷ xs) t g = (with_began b g.0, all.0 h s x g.0 g.1, are_performed b Ps all.1 h g.0 xs t g.2)

is_chain : (b : Option Tables) (Ps : List (Doing WorldContext)) → AllMoved b Ps → Moved b (IsChain Ps)
is_chain b [] all h s x t g = absurd g
is_chain b (P ∷ []) all h s x t g = all.0 h s x t g
is_chain b (P ∷ Q ∷ Ps) all h s x t g = (g.0, with_began b g.1, all.0 h s g.0 g.1 g.2, is_chain b (Q ∷ Ps) all.1 h g.1 x t g.3)

decides : (b : Option Tables) (d : Decision) (P P' Q Q' : Type 0) (s : WorldState WorldContext) (x : Data) (t : WorldState WorldContext) → (P → P') → (Q → Q') → Decides d P Q s x t → Decides d P' Q' (with_began b s) x (with_began b t)
decides b Met P P' Q Q' s x t f g h = f h
decides b Unmet P P' Q Q' s x t f g h = g h
decides b (Error e) P P' Q Q' s x t f g h = answers b _ s x t h

is_branched : (b : Option Tables) (D : Data → Decision) (Ps : List (Doing WorldContext)) → AllMoved b Ps → Moved b (IsBranched D Ps)
is_branched b D [] all h s x t g = answers b _ s x t g
is_branched b D (P ∷ []) all h s x t g = all.0 h s x t g
is_branched b D (C ∷ P ∷ Ps) all h s x t g = (
  g.0,
  with_began b g.1,
  all.0 h s g.0 g.1 g.2,
  decides b (D g.0) (P h g.1 x t) (P h (with_began b g.1) x (with_began b t)) (IsBranched D Ps h g.1 x t) (IsBranched D Ps h (with_began b g.1) x (with_began b t)) g.1 x t
      (all.1.0 h g.1 x t) (is_branched b D Ps all.1.1 h g.1 x t) g.3,
)

is_switched : (b : Option Tables) (Ps : List (Doing WorldContext)) → AllMoved b Ps → Moved b (PerformsSwitch Ps)
is_switched b [] all h s x t g = absurd g
is_switched b (P ∷ Ps) all h s x t g = (
  g.0,
  with_began b g.1,
  all.0 h s g.0 g.1 g.2,
  or_error b g.0 (IsBranched (switch_decision g.0) Ps h g.1 x t) (IsBranched (switch_decision g.0) Ps h (with_began b g.1) x (with_began b t)) g.1 x t (is_branched b (switch_decision g.0) Ps all.1 h g.1 x t) g.3,
)

caught_or : (w : Data) (C C' : Kind → List ℕ → Type 0) (P P' : Type 0) → ((k : Kind) (cs : List ℕ) → C k cs → C' k cs) → (P → P') → CaughtOr w C P → CaughtOr w C' P'
caught_or (fault k cs) C C' P P' f g h = f k cs h
caught_or blank C C' P P' f g h = g h
caught_or (number z) C C' P P' f g h = g h
caught_or (text z) C C' P P' f g h = g h
caught_or (boolean z) C C' P P' f g h = g h
caught_or (date z) C C' P P' f g h = g h
caught_or (rec z) C C' P P' f g h = g h
caught_or (tab z) C C' P P' f g h = g h

is_recovered : (b : Option Tables) (d : Data) (Ps : List (Doing WorldContext)) → AllMoved b Ps → Moved b (PerformsIfError d Ps)
is_recovered b d [] all h s x t g = answers b d s x t g
is_recovered b d (P ∷ []) all h s x t g = all.0 h s x t g
is_recovered b d (P ∷ F ∷ Ps) all h s x t g = (
  g.0,
  with_began b g.1,
  all.0 h s g.0 g.1 g.2,
  caught_or g.0 (λ k cs. F (caught_in h k cs) g.1 x t) (λ k cs. F (caught_in h k cs) (with_began b g.1) x (with_began b t))
      (PerformsIfError g.0 Ps h g.1 x t) (PerformsIfError g.0 Ps h (with_began b g.1) x (with_began b t))
      (λ k cs. all.1.0 (caught_in h k cs) g.1 x t) (is_recovered b g.0 Ps all.1.1 h g.1 x t) g.3,
)

is_within : (b : Option Tables) (Ps : List (Doing WorldContext)) → AllMoved b Ps → Moved b (PerformsWith Ps)
is_within b [] all h s x t g = absurd g
is_within b (P ∷ []) all h s x t g = absurd g
is_within b (P ∷ F ∷ []) all h s x t g = (
  g.0,
  with_began b g.1,
  all.0 h s g.0 g.1 g.2,
  or_error b g.0 (F (inner h g.0) g.1 x t) (F (inner h g.0) (with_began b g.1) x (with_began b t)) g.1 x t (all.1.0 (inner h g.0) g.1 x t) g.3,
)
is_within b (P ∷ F ∷ Q ∷ Ps) all h s x t g = absurd g

are_each : (b : Option Tables) (P : Doing WorldContext) → Moved b P → (h : ScopeValues) (rs : List Row) (s : WorldState WorldContext) (xs : List Data) (t : WorldState WorldContext) → PerformsEach P h rs s xs t → PerformsEach P h rs (with_began b s) xs (with_began b t)
are_each b P all h [] s [] t g = ap (with_began b) g
are_each b P all h [] s (x ∷ xs) t g = absurd g
are_each b P all h (r ∷ rs) s [] t g = absurd g
are_each b P all h (r ∷ rs) s (x ∷ xs) t g = (with_began b g.0, all (inner h (record_of r)) s x g.0 g.1, are_each b P all h rs g.0 xs t g.2)

-- for each of some rows
abbrev Eaches : Doing WorldContext → ScopeValues → List Row → WorldState WorldContext → Data → WorldState WorldContext → Type 0
Eaches F h rs m x t = (xs : List Data) × PerformsEach F h rs m xs t × (x ≡ for_all_of xs)

is_for_all_of : (b : Option Tables) (Ps : List (Doing WorldContext)) → AllMoved b Ps → Moved b (IsForAll Ps)
is_for_all_of b [] all h s x t g = absurd g
is_for_all_of b (P ∷ []) all h s x t g = absurd g
is_for_all_of b (P ∷ F ∷ []) all h s x t g = (
  g.0,
  with_began b g.1,
  all.0 h s g.0 g.1 g.2,
  or_error b g.0 (Eaches F h (rows_in g.0) g.1 x t) (Eaches F h (rows_in g.0) (with_began b g.1) x (with_began b t)) g.1 x t
      (λ e. (e.0, are_each b F all.1.0 h (rows_in g.0) g.1 e.0 t e.1, e.2)) g.3,
)
is_for_all_of b (P ∷ F ∷ Q ∷ Ps) all h s x t g = absurd g

is_over_all : (b : Option Tables) (v : Bool) (Ps : List (Doing WorldContext)) → AllMoved b Ps → Moved b (IsOverAll v Ps)
is_over_all b true Ps all h s x t g = is_for_all_of b Ps all h s x t g
is_over_all b false Ps all h s x t g = absurd g

of_one : (b : Option Tables) (R : Data → Data → Type 0) (Ps : List (Doing WorldContext)) → AllMoved b Ps → Moved b (OfOnePart R Ps)
of_one b R [] all h s x t g = absurd g
of_one b R (P ∷ []) all h s x t g = (g.0, all.0 h s g.0 t g.1, g.2)
of_one b R (P ∷ Q ∷ Ps) all h s x t g = absurd g

is_listed : (b : Option Tables) (r : Shape) (Ps : List (Doing WorldContext)) → AllMoved b Ps → Moved b (IsListed r Ps)
is_listed b r Ps all h s x t g = (g.0, are_performed b Ps all h s g.0 t g.1, g.2)

-- the changes of some rows, and what they do
abbrev Changes : EvalFrame → Target → Doing WorldContext → ScopeValues → List Row → WorldState WorldContext → Data → WorldState WorldContext → Type 0
Changes f p F h rs m x t = (es : List Data) × (o : WorldState WorldContext) × PerformsEach F h rs m es o × IsUpdate f p rs es o x t

is_update_if : (b : Option Tables) (a : App) (p : Target) (Ps : List (Doing WorldContext)) → AllMoved b Ps → Moved b (IsUpdateIf (ground_of a) p Ps)
is_update_if b a p [] all h s x t g = absurd g
is_update_if b a p (P ∷ []) all h s x t g = absurd g
is_update_if b a p (P ∷ F ∷ []) all h s x t g =
    let f : EvalFrame = frame a in (
      g.0,
      with_began b g.1,
      all.0 h s g.0 g.1 g.2,
      or_error b g.0 (Changes f p F h (rows_in g.0) g.1 x t) (Changes f p F h (rows_in g.0) (with_began b g.1) x (with_began b t)) g.1 x t
          (λ e. (e.0, with_began b e.1, are_each b F all.1.0 h (rows_in g.0) g.1 e.0 e.1 e.2, is_update b f p (rows_in g.0) e.0 e.1 x t e.3)) g.3,
    )
is_update_if b a p (P ∷ F ∷ Q ∷ Ps) all h s x t g = absurd g

-- a deed, once its parts have their values
abbrev Does : App → Deed → List (Doing WorldContext) → Doing WorldContext
Does a d Ps h s x t = (ds : List Data) × (m : WorldState WorldContext) × ArePerformed Ps h s ds m × IsDeed (frame a) d ds m x t

does : (b : Option Tables) (a : App) (d : Deed) (Ps : List (Doing WorldContext)) → AllMoved b Ps → Moved b (Does a d Ps)
does b a d Ps all h s x t g = (g.0, with_began b g.1, are_performed b Ps all h s g.0 g.1 g.2, is_deed b (frame a) d g.0 g.1 x t g.3)

is_act : (b : Option Tables) (a : App) (d : Deed) (Ps : List (Doing WorldContext)) → AllMoved b Ps → Moved b (IsAct (ground_of a) d Ps)
is_act b a (deed.UpdateIf p) Ps all h s x t g = is_update_if b a p Ps all h s x t g
is_act b a (deed.Set k) Ps all h s x t g = does b a (deed.Set k) Ps all h s x t g
is_act b a (deed.UpdateContext ks) Ps all h s x t g = does b a (deed.UpdateContext ks) Ps all h s x t g
is_act b a (deed.Collect k) Ps all h s x t g = does b a (deed.Collect k) Ps all h s x t g
is_act b a (deed.Clear k) Ps all h s x t g = does b a (deed.Clear k) Ps all h s x t g
is_act b a (deed.ClearCollect k) Ps all h s x t g = does b a (deed.ClearCollect k) Ps all h s x t g
is_act b a (deed.Patch p) Ps all h s x t g = does b a (deed.Patch p) Ps all h s x t g
is_act b a (deed.Remove p) Ps all h s x t g = does b a (deed.Remove p) Ps all h s x t g
is_act b a (deed.RemoveIf p) Ps all h s x t g = does b a (deed.RemoveIf p) Ps all h s x t g
is_act b a (deed.Navigate k) Ps all h s x t g = does b a (deed.Navigate k) Ps all h s x t g
is_act b a deed.Notify Ps all h s x t g = does b a deed.Notify Ps all h s x t g
is_act b a (deed.Reset k) Ps all h s x t g = does b a (deed.Reset k) Ps all h s x t g

is_acting : (b : Option Tables) (a : App) (k : Top) (Ps : List (Doing WorldContext)) → AllMoved b Ps → Moved b (PerformsNode (ground_of a) k Ps)
is_acting b a top.chain Ps all h s x t g = is_chain b Ps all h s x t g
is_acting b a (top.act d) Ps all h s x t g = is_act b a d Ps all h s x t g
is_acting b a (top.form form.If) Ps all h s x t g = is_branched b decision_of Ps all h s x t g
is_acting b a (top.form form.Switch) Ps all h s x t g = is_switched b Ps all h s x t g
is_acting b a (top.form form.IfError) Ps all h s x t g = is_recovered b (none_left form.IfError) Ps all h s x t g
is_acting b a top.within Ps all h s x t g = is_within b Ps all h s x t g
is_acting b a (top.over f) Ps all h s x t g = is_over_all b (is_for_all f) Ps all h s x t g
is_acting b a (top.dot n) Ps all h s x t g = of_one b (λ d x. x ≡ field_of n d) Ps all h s x t g
is_acting b a (top.coerce to) Ps all h s x t g = of_one b (λ d x. IsCoerced d to x) Ps all h s x t g
is_acting b a (top.list r) Ps all h s x t g = is_listed b r Ps all h s x t g
is_acting b a k Ps all h s x t g = absurd g

is_done : (b : Option Tables) (a : App) (v : Bool) (k : Top) (u : Term) (Ps : List (Doing WorldContext)) → AllMoved b Ps → Moved b (NodeComesTo (ground_of a) v k (taken (ground_of a) u) Ps)
is_done b a true k u Ps all h s x t g = is_acting b a k Ps all h s x t g
is_done b a false k u Ps all h s x t g = (g.0, ap (with_began b) g.1)

mutual
  -- THE TABLES AS THE TRANSACTION BEGAN ARE NOTHING TO A TREE: what it does over a state it does over one with others.
  pub performs : (b : Option Tables) (a : App) (u : Term) → Moved b (performing (ground_of a) u)
  performs b a (of k ts) h s x t g = is_done b a (acts (of k ts)) k (of k ts) (performings (ground_of a) ts) (all_perform b a ts) h s x t g

  all_perform : (b : Option Tables) (a : App) (ts : Terms) → AllMoved b (performings (ground_of a) ts)
  all_perform b a nil = tt
  all_perform b a (cons t ts) = (performs b a t, all_perform b a ts)
