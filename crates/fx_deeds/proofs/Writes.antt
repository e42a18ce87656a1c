-- What a performing leaves as it was: all that it didn't write.
use Rattle.std.proofs.Common.{ℕ, List, [], ◌∷◌, Bool, true, false, map, Option, Some, None, Result, Ok, Err, sym, subst, inl, inr}
use Rattle.std.specs.Prelude.{IsSomeAnd, MatchOption, MatchResult, slice_get}
use Rattle.std.specs.List.{find}
use Rattle.fx_types.specs.declared.values.Value.{Value}
use Rattle.fx_types.specs.Types.{ColumnList}
use Rattle.fx_types.specs.Values.{Data, blank, number, text, boolean, date, rec, tab, fault}
use Rattle.fx_core.specs.declared.deeds.Deed.{Deed}
use Rattle.fx_core.specs.declared.deeds.Deed.TheVariants as deed
use Rattle.fx_core.specs.declared.deeds.Target.{Target}
use Rattle.fx_core.specs.declared.deeds.Target.TheVariants as target
use Rattle.fx_core.specs.declared.schema.TableShape.{TableShape}
use Rattle.fx_core.specs.declared.sources.Source.{Source}
use Rattle.fx_core.specs.declared.sources.Source.TheVariants as source
use Rattle.fx_semantics.specs.Around.{record_of}
use Rattle.fx_semantics.specs.Rows.{rows_in}
use Rattle.fx_value.specs.Columns.{Row}
use Rattle.fx_tables.specs.Unions.{is_fault}
use Rattle.session_state.specs.declared.change.Change.{Change}
use Rattle.session_state.specs.declared.change.Change.TheVariants as change
use Rattle.row_keeper.specs.declared.rows.Put.{Put}
use Rattle.row_keeper.specs.declared.rows.Put.TheVariants.{Id, NoRow, Refused}
use Rattle.fx_deeds.proofs.Changing.{changed_within, row_changed_within, row_made_within, row_removed_within}
use Rattle.fx_deeds.proofs.Passing.{within_nowhere, within_on}
use Rattle.fx_deeds.specs.Collections.{AreTaken, AreTakenIf, AreUpdatedIn, GathersRows, IsPatchedIn, PatchesGathered as PatchesIn, PutsFor}
use Rattle.fx_deeds.specs.Deeds.{AnswersOnly, AreRemoved, UpdatesContext, AreUpdated, ByDone, ByFound, ByPut, ChangeGives, IsValueGiven, IsPatched, Makes, MakesRow, ChangesRow, OfTable, OrError, OrErrorAmong, PatchesBase, PatchesById, PatchesRow, row_id_value, named_id, row_numbered, text_or_none}
use Rattle.fx_deeds.specs.Done.{IsDeed, IsUpdate, errors_in}
use Rattle.fx_deeds.specs.RowValues.{changed_row, record_row, rows_among, values_among}
use Rattle.fx_deeds.specs.State.{EvalFrame, WorldState}
use Rattle.fx_core.specs.Lawful.{id_name}
use Rattle.fx_value.specs.Coercion.{field_or_blank}
use Rattle.fx_deeds.specs.Within.{Within}

-- ---- answers

pub answered : {A : Type 0} (d : Data) (s : WorldState A) (x : Data) (t : WorldState A) → AnswersOnly d s x t → Within s t
answered d s x t h = subst (λ z. Within s z) (sym h.1) (within_nowhere s)

pub or_error : {A : Type 0} (w : Data) (P : Type 0) (s : WorldState A) (x : Data) (t : WorldState A) → (P → Within s t) → OrError w P s x t → Within s t
or_error (fault k cs) P s x t f h = answered (fault k cs) s x t h
or_error blank P s x t f h = f h
or_error (number z) P s x t f h = f h
or_error (text cs) P s x t f h = f h
or_error (boolean b) P s x t f h = f h
or_error (date z) P s x t f h = f h
or_error (rec fs) P s x t f h = f h
or_error (tab rs) P s x t f h = f h

some_or : {A B : Type 0} (o : Option B) (P : Type 0) (Q : B → Type 0) (s t : WorldState A) → (P → Within s t) → ((b : B) → Q b → Within s t) → MatchOption o P Q → Within s t
some_or None P Q s t f g h = f h
some_or (Some b) P Q s t f g h = g b h

ok_or : {A B C : Type 0} (r : Result B C) (P : B → Type 0) (Q : C → Type 0) (s t : WorldState A) → ((b : B) → P b → Within s t) → ((e : C) → Q e → Within s t) → MatchResult r P Q → Within s t
ok_or (Ok b) P Q s t f g h = f b h
ok_or (Err e) P Q s t f g h = g e h

pub or_among : {A : Type 0} (ys : List Data) (P : Type 0) (s : WorldState A) (x : Data) (t : WorldState A) → (P → Within s t) → OrErrorAmong ys P s x t → Within s t
or_among ys P s x t f h = some_or (find is_fault ys) P (λ e. AnswersOnly e s x t) s t f (λ e k. answered e s x t k) h

pub of_table : {A : Type 0} (o : Option TableShape) (P : TableShape → Type 0) (s t : WorldState A) → ((p : TableShape) → P p → Within s t) → IsSomeAnd o P → Within s t
of_table None P s t f h = absurd h
of_table (Some p) P s t f h = f p h

-- ---- the session

pub makes : {A : Type 0} (c : Change) (taken : Data) (s : WorldState A) (x : Data) (t : WorldState A) → Makes c taken s x t → Within s t
makes c taken s x t h = changed_within c h.0 s t h.1

pub gives : {A : Type 0} (change : Value → Change) (d taken : Data) (s : WorldState A) (x : Data) (t : WorldState A) → ChangeGives change d taken s x t → Within s t
gives change d taken s x t h = makes (change h.0) taken s x t h.2

given : {A : Type 0} (change : Value → Change) (d : Data) (done : Bool) (s t : WorldState A) → IsValueGiven change d done s t → Within s t
given change d done s t h = changed_within (change h.0) done s t h.2

by_done : {A : Type 0} (done : Bool) (P : Type 0) (s : WorldState A) (x : Data) (t : WorldState A) → (P → Within s t) → ByDone done P s x t → Within s t
by_done true P s x t f h = f h
by_done false P s x t f h = answered _ s x t h

pub sets : {A : Type 0} (ks : List Source) (ys : List Data) (s : WorldState A) (x : Data) (t : WorldState A) → UpdatesContext ks ys s x t → Within s t
sets [] [] s x t h = answered _ s x t h
sets (source.Context k ∷ ks) (y ∷ ys) s x t h =
    within_on s h.1 t (given (change.Context k) y h.0 s h.1 h.2) (by_done h.0 (UpdatesContext ks ys h.1 x t) h.1 x t (sets ks ys h.1 x t) h.3)
sets [] (y ∷ ys) s x t h = absurd h
sets (source.Context k ∷ ks) [] s x t h = absurd h
sets (source.Cell k ∷ ks) ys s x t h = absurd h
sets (source.Global k ∷ ks) ys s x t h = absurd h
sets (source.Gathered k ∷ ks) ys s x t h = absurd h
sets (source.Input k ∷ ks) ys s x t h = absurd h
sets (source.Chosen k ∷ ks) ys s x t h = absurd h
sets (source.Table k ∷ ks) ys s x t h = absurd h
sets (source.Today ∷ ks) ys s x t h = absurd h

-- ---- rows of tables

makes_row : {A : Type 0} (p : TableShape) (k : ℕ) (cells : List Data) (s : WorldState A) (x : Data) (t : WorldState A) → MakesRow p k cells s x t → Within s t
makes_row p k cells s x t h = row_made_within p.columns k cells h.0 s t h.1

changes_row : {A : Type 0} (p : TableShape) (k id : ℕ) (cells : List Data) (s : WorldState A) (x : Data) (t : WorldState A) → ChangesRow p k id cells s x t → Within s t
changes_row p k id cells s x t h = row_changed_within p.columns k id cells h.0 s t h.1

patches_row : {A : Type 0} (p : TableShape) (k : ℕ) (changes : List Row) (id : ℕ) (s : WorldState A) (x : Data) (t : WorldState A) → PatchesRow p k changes id s x t → Within s t
patches_row p k changes id s x t h = some_or (row_numbered k id s) _ _ s t (answered _ s x t) (λ r q. changes_row p k id _ s x t q) h

by_number : {A : Type 0} (p : TableShape) (k : ℕ) (changes : List Row) (d : Data) (s : WorldState A) (x : Data) (t : WorldState A) →
    MatchResult (named_id d) (λ id. PatchesRow p k changes id s x t) (λ e. AnswersOnly e s x t) → Within s t
by_number p k changes d s x t h =
    ok_or (named_id d) (λ id. PatchesRow p k changes id s x t) (λ e. AnswersOnly e s x t) s t (λ id. patches_row p k changes id s x t) (λ e. answered e s x t) h

patches_by_id : {A : Type 0} (p : TableShape) (k : ℕ) (changes : List Row) (d : Data) (s : WorldState A) (x : Data) (t : WorldState A) → PatchesById p k changes d s x t → Within s t
patches_by_id p k changes blank s x t h = makes_row p k _ s x t h
patches_by_id p k changes (number z) s x t h = by_number p k changes (number z) s x t h
patches_by_id p k changes (text cs) s x t h = answered _ s x t h
patches_by_id p k changes (boolean b) s x t h = answered _ s x t h
patches_by_id p k changes (date z) s x t h = answered _ s x t h
patches_by_id p k changes (rec fs) s x t h = answered _ s x t h
patches_by_id p k changes (tab rs) s x t h = answered _ s x t h
patches_by_id p k changes (fault e cs) s x t h = answered _ s x t h

patches_base : {A : Type 0} (p : TableShape) (k : ℕ) (changes : List Row) (d : Data) (s : WorldState A) (x : Data) (t : WorldState A) → PatchesBase p k changes d s x t → Within s t
patches_base p k changes (rec fs) s x t h = patches_by_id p k changes (field_or_blank id_name fs) s x t h
patches_base p k changes blank s x t h = answered _ s x t h
patches_base p k changes (number z) s x t h = answered _ s x t h
patches_base p k changes (text cs) s x t h = answered _ s x t h
patches_base p k changes (boolean b) s x t h = answered _ s x t h
patches_base p k changes (date z) s x t h = answered _ s x t h
patches_base p k changes (tab rs) s x t h = answered _ s x t h
patches_base p k changes (fault e cs) s x t h = answered _ s x t h

pub patched : {A : Type 0} (schema : Rattle.fx_core.specs.declared.schema.Schema.Schema) (k : ℕ) (b : Data) (ys : List Data) (s : WorldState A) (x : Data) (t : WorldState A) → IsPatched schema k b ys s x t → Within s t
patched schema k b ys s x t h =
    or_among (row_id_value b ∷ values_among (rows_among ys)) (OfTable schema k (λ p. PatchesBase p k (rows_among ys) b s x t)) s x t
    (of_table (slice_get schema.tables k) (λ p. PatchesBase p k (rows_among ys) b s x t) s t (λ p. patches_base p k (rows_among ys) b s x t)) h

by_found : {A : Type 0} (found : Bool) (P : Type 0) (s : WorldState A) (x : Data) (t : WorldState A) → (P → Within s t) → ByFound found P s x t → Within s t
by_found true P s x t f h = f h
by_found false P s x t f h = answered _ s x t h

pub removes : {A : Type 0} (k : ℕ) (ys : List Data) (s : WorldState A) (x : Data) (t : WorldState A) → AreRemoved k ys s x t → Within s t
removes k [] s x t h = answered _ s x t h
removes {A} k (y ∷ ys) s x t h =
    ok_or (named_id (row_id_value y)) _ _ s t
    (λ id q. within_on s q.1 t (row_removed_within k id q.0 s q.1 q.2) (by_found q.0 (AreRemoved k ys q.1 x t) q.1 x t (removes k ys q.1 x t) q.3))
    (λ e. answered e s x t) h

by_put : {A : Type 0} (p : TableShape) (put : Put) (P : Type 0) (s : WorldState A) (x : Data) (t : WorldState A) → (P → Within s t) → ByPut p put P s x t → Within s t
by_put p (Id id) P s x t f h = f h
by_put p NoRow P s x t f h = answered _ s x t h
by_put p (Refused r) P s x t f h = answered _ s x t h

pub updates : {A : Type 0} (p : TableShape) (k : ℕ) (rs : List Row) (cs : List Data) (s : WorldState A) (x : Data) (t : WorldState A) → AreUpdated p k rs cs s x t → Within s t
updates p k [] cs s x t h = answered _ s x t h
updates p k (r ∷ rs) [] s x t h = answered _ s x t h
updates p k (r ∷ rs) (c ∷ cs) s x t h =
    ok_or (named_id (row_id_value (Rattle.fx_semantics.specs.Around.record_of r))) _ _ s t
    (λ id. some_or (row_numbered k id s) _ _ s t (answered _ s x t)
    (λ r q. within_on s q.1 t (row_changed_within p.columns k id _ q.0 s q.1 q.2) (by_put p q.0 (AreUpdated p k rs cs q.1 x t) q.1 x t (updates p k rs cs q.1 x t) q.3)))
    (λ e. answered e s x t) h

-- ---- rows of collections

pub holds : {A : Type 0} (k : ℕ) (rows : List Row) (taken : Data) (s : WorldState A) (x : Data) (t : WorldState A) → GathersRows k rows taken s x t → Within s t
holds k rows taken s x t h = gives (change.Gather k) _ taken s x t h

puts_for : {A : Type 0} (k : ℕ) (r q : Row) (s : WorldState A) (x : Data) (t : WorldState A) → PutsFor k r q s x t → Within s t
puts_for k r q s x t (inl h) = holds k _ _ s x t h.3
puts_for k r q s x t (inr h) = answered _ s x t h.1

patches_in : {A : Type 0} (k : ℕ) (r q : Row) (s : WorldState A) (x : Data) (t : WorldState A) → PatchesIn k r q s x t → Within s t
patches_in k r q s x t (inl h) = holds k _ _ s x t h.1
patches_in k r q s x t (inr h) = puts_for k r q s x t h.1

pub patched_in : {A : Type 0} (cs : ColumnList) (k : ℕ) (b : Data) (ys : List Data) (s : WorldState A) (x : Data) (t : WorldState A) → IsPatchedIn cs k b ys s x t → Within s t
patched_in cs k b ys s x t h =
    or_among (values_among (rows_among ys)) _ s x t (patches_in k (record_row cs b) (changed_row cs (rows_among ys) (record_row cs b)) s x t) h

pub takes : {A : Type 0} (cs : ColumnList) (k : ℕ) (ys : List Data) (s : WorldState A) (x : Data) (t : WorldState A) → AreTaken cs k ys s x t → Within s t
takes cs k [] s x t h = answered _ s x t h
takes cs k (y ∷ ys) s x t (inl h) =
    within_on s h.3 t (given (change.Gather k) _ h.2 s h.3 h.5) (by_done h.2 (AreTaken cs k ys h.3 x t) h.3 x t (takes cs k ys h.3 x t) h.6)
takes cs k (y ∷ ys) s x t (inr h) = answered _ s x t h.1

pub takes_if : {A : Type 0} (k : ℕ) (kept : List Row) (s : WorldState A) (x : Data) (t : WorldState A) → AreTakenIf k kept s x t → Within s t
takes_if k kept s x t h = holds k h.0 _ s x t h.2

pub updates_in : {A : Type 0} (cs : ColumnList) (k : ℕ) (kept : List Row) (changes : List Data) (s : WorldState A) (x : Data) (t : WorldState A) → AreUpdatedIn cs k kept changes s x t → Within s t
updates_in cs k kept changes s x t h = holds k h.0 _ s x t h.2

-- ---- deeds

pub update : {A : Type 0} (f : EvalFrame) (p : Target) (rows : List Row) (changes : List Data) (s : WorldState A) (x : Data) (t : WorldState A) → IsUpdate f p rows changes s x t → Within s t
update f (target.Table k) rows changes s x t h =
    or_among (errors_in changes) _ s x t (of_table (slice_get f.schema.tables k) (λ p. AreUpdated p k rows changes s x t) s t (λ p r. updates p k rows changes s x t r)) h
update f (target.Gathered k) rows changes s x t h = or_among (errors_in changes) _ s x t (updates_in _ k rows changes s x t) h

pub done_by : {A : Type 0} (f : EvalFrame) (d : Deed) (ys : List Data) (s : WorldState A) (x : Data) (t : WorldState A) → IsDeed f d ys s x t → Within s t
done_by f (deed.Set k) (y ∷ []) s x t h = gives (change.Global k) y _ s x t h
done_by f (deed.Set k) [] s x t h = absurd h
done_by f (deed.Set k) (y ∷ z ∷ ys) s x t h = absurd h
done_by f (deed.UpdateContext ks) ys s x t h = sets ks ys s x t h
done_by f (deed.Collect k) ys s x t h = or_among ys _ s x t (holds k _ _ s x t) h
done_by f (deed.Clear k) [] s x t h = makes _ _ s x t h
done_by f (deed.Clear k) (y ∷ ys) s x t h = absurd h
done_by f (deed.ClearCollect k) ys s x t h = or_among ys _ s x t (holds k _ _ s x t) h
done_by f (deed.Patch (target.Table k)) [] s x t h = absurd h
done_by f (deed.Patch (target.Table k)) (b ∷ ys) s x t h = or_among (b ∷ ys) _ s x t (patched f.schema k b ys s x t) h
done_by f (deed.Patch (target.Gathered k)) [] s x t h = absurd h
done_by f (deed.Patch (target.Gathered k)) (b ∷ ys) s x t h = or_among (b ∷ ys) _ s x t (patched_in _ k b ys s x t) h
done_by f (deed.Remove (target.Table k)) ys s x t h = or_among ys _ s x t (removes k ys s x t) h
done_by f (deed.Remove (target.Gathered k)) ys s x t h = or_among ys _ s x t (takes _ k ys s x t) h
done_by f (deed.RemoveIf (target.Table k)) [] s x t h = absurd h
done_by f (deed.RemoveIf (target.Table k)) (y ∷ []) s x t h = or_error y _ s x t (removes k (map record_of (rows_in y)) s x t) h
done_by f (deed.RemoveIf (target.Table k)) (y ∷ z ∷ ys) s x t h = absurd h
done_by f (deed.RemoveIf (target.Gathered k)) [] s x t h = absurd h
done_by f (deed.RemoveIf (target.Gathered k)) (y ∷ []) s x t h = or_error y _ s x t (takes_if k _ s x t) h
done_by f (deed.RemoveIf (target.Gathered k)) (y ∷ z ∷ ys) s x t h = absurd h
done_by f (deed.UpdateIf p) ys s x t h = absurd h
done_by f (deed.Navigate k) [] s x t h = makes _ _ s x t h
done_by f (deed.Navigate k) (y ∷ ys) s x t h = absurd h
done_by f deed.Notify [] s x t h = absurd h
done_by f deed.Notify (y ∷ []) s x t h = or_error y _ s x t (makes (change.Notice (text_or_none y)) (boolean true) s x t) h
done_by f deed.Notify (y ∷ z ∷ ys) s x t h = absurd h
done_by f (deed.Reset k) [] s x t h = makes _ _ s x t h
done_by f (deed.Reset k) (y ∷ ys) s x t h = absurd h
