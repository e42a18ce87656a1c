-- What a deed does is one thing at most.
use Rattle.std.proofs.Common.{◌≡◌, ℕ, List, [], ◌∷◌, ◌++◌, Bool, true, false, map, Option, Some, None, Result, Ok, Err, refl, ap, sym, subst, ◌∙◌, inl, inr}
use Rattle.std.specs.Prelude.{◌⊎◌, ◌||◌, not, IsSomeAnd, MatchOption, MatchResult, slice_get, slice_set, unwrap_or}
use Rattle.std.specs.List.{find}
use Rattle.fx_types.specs.declared.values.Value.{Value}
use Rattle.fx_types.specs.Types.{ColumnList}
use Rattle.fx_types.specs.Values.{Data, blank, number, text, boolean, date, rec, tab, fault}
use Rattle.fx_types.specs.ValueView.{view}
use Rattle.fx_scalar.proofs.Single.{AtMostOne}
use Rattle.fx_semantics.specs.Around.{record_of}
use Rattle.fx_semantics.specs.Rows.{rows_in, table_of}
use Rattle.fx_value.specs.Columns.{Row}
use Rattle.fx_tables.specs.Unions.{is_fault}
use Rattle.fx_core.specs.declared.deeds.Deed.{Deed}
use Rattle.fx_core.specs.declared.deeds.Deed.TheVariants as deed
use Rattle.fx_core.specs.declared.deeds.Target.{Target}
use Rattle.fx_core.specs.declared.deeds.Target.TheVariants as target
use Rattle.fx_core.specs.declared.schema.Column.{Column}
use Rattle.fx_core.specs.declared.schema.Schema.{Schema}
use Rattle.fx_core.specs.declared.schema.TableShape.{TableShape}
use Rattle.fx_core.specs.declared.sources.Source.{Source}
use Rattle.fx_core.specs.declared.sources.Source.TheVariants as source
use Rattle.fx_core.specs.Lawful.{id_name}
use Rattle.fx_value.specs.Coercion.{field_or_blank}
use Rattle.row_keeper.specs.Changes.{Inserts, Removes, Replaces}
use Rattle.row_keeper.specs.Tables.{Tables}
use Rattle.row_keeper.specs.declared.rows.Put.{Put}
use Rattle.row_keeper.specs.declared.rows.Put.TheVariants.{Id, NoRow, Refused}
use Rattle.session_state.specs.declared.change.Change.{Change}
use Rattle.session_state.specs.declared.change.Change.TheVariants as change
use Rattle.session_state.specs.Sessions.{SessionState, may_weigh, weight}
use Rattle.fx_deeds.specs.Changed.{IsChanged, IsRowChanged, IsRowMade, IsRowRemoved, by_done, by_found, by_put}
use Rattle.fx_deeds.specs.Collections.{Appends, AreBlank, RemainAfterFilter, AreTaken, AreTakenIf, AreUpdatedIn, AreWith, GathersRows, IsFirstRow, IsPatchedIn, Lacks, PatchesGathered as PatchesIn, PutsFor, rows_held}
use Rattle.fx_deeds.specs.Deeds.{AnswersOnly, AreRemoved, UpdatesContext, AreUpdated, ByDone, ByFound, ByPut, ChangesRow, ChangeGives, IsValueGiven, IsPatched, Makes, MakesRow, OfTable, OrError, OrErrorAmong, PatchesBase, PatchesById, PatchesRow, RemovesThen as TakesOut, Updates, row_id_value, named_id, row_numbered, text_or_none}
use Rattle.fx_deeds.specs.Done.{IsDeed, IsUpdate, errors_in}
use Rattle.fx_deeds.specs.RowValues.{columns_of_rows, changed_cells, changed_row, put_answer, record_row, rows_among, value_if_taken, values_among}
use Rattle.fx_deeds.specs.State.{EvalFrame, WorldState}

-- an answer and the state that is left
abbrev pub Outcome : Type 0 → Type 0
Outcome A = Data × WorldState A

-- two things are the same as two others
abbrev pub Same : {X Y : Type 0} → X → Y → X → Y → Type 0
Same {X} {Y} x y z w = ◌≡◌ {A = X × Y} (x, y) (z, w)

-- ---- what follows

pub then_one : {X Y : Type 0} (P : X → Type 0) (R : X → Y → Type 0) → AtMostOne P → ((x : X) → AtMostOne (R x)) → AtMostOne (λ y. (x : X) × P x × R x y)
then_one P R p r v w h k = r k.0 v w (subst (λ x. R x v) (p h.0 k.0 h.1 k.1) h.2) k.2

pub two_one : {X Y Z : Type 0} (P : X → Y → Type 0) (R : X → Y → Z → Type 0) → AtMostOne (λ (o : X × Y). P o.0 o.1) → ((x : X) (y : Y) → AtMostOne (R x y)) →
    AtMostOne (λ z. (x : X) × (y : Y) × P x y × R x y z)
two_one P R p r v w h k = r k.0 k.1 v w (subst (λ o. R o.0 o.1 v) (p (h.0, h.1) (k.0, k.1) h.2 k.2) h.3) k.3

pub answers_one : {A : Type 0} (d : Data) (s : WorldState A) → AtMostOne (λ (o : Outcome A). AnswersOnly d s o.0 o.1)
answers_one d s v w h k = λ i. ((h.0 ∙ sym k.0) i, (h.1 ∙ sym k.1) i)

pub or_error_one : {A : Type 0} (w : Data) (P : Outcome A → Type 0) (s : WorldState A) → AtMostOne P → AtMostOne (λ (o : Outcome A). OrError w (P o) s o.0 o.1)
or_error_one (fault k cs) P s p = answers_one (fault k cs) s
or_error_one blank P s p = p
or_error_one (number z) P s p = p
or_error_one (text cs) P s p = p
or_error_one (boolean b) P s p = p
or_error_one (date z) P s p = p
or_error_one (rec fs) P s p = p
or_error_one (tab rs) P s p = p

some_one : {X Z : Type 0} (o : Option X) (P : Z → Type 0) (Q : X → Z → Type 0) → AtMostOne P → ((x : X) → AtMostOne (Q x)) → AtMostOne (λ z. MatchOption o (P z) (λ x. Q x z))
some_one None P Q p q = p
some_one (Some x) P Q p q = q x

ok_one : {X Y Z : Type 0} (o : Result X Y) (P : X → Z → Type 0) (Q : Y → Z → Type 0) → ((x : X) → AtMostOne (P x)) → ((y : Y) → AtMostOne (Q y)) → AtMostOne (λ z. MatchResult o (λ x. P x z) (λ y. Q y z))
ok_one (Ok x) P Q p q = p x
ok_one (Err y) P Q p q = q y

pub among_one : {A : Type 0} (ys : List Data) (P : Outcome A → Type 0) (s : WorldState A) → AtMostOne P → AtMostOne (λ (o : Outcome A). OrErrorAmong ys (P o) s o.0 o.1)
among_one ys P s p = some_one (find is_fault ys) P (λ e o. AnswersOnly e s o.0 o.1) p (λ e. answers_one e s)

pub table_one : {Z : Type 0} (o : Option TableShape) (P : TableShape → Z → Type 0) → ((p : TableShape) → AtMostOne (P p)) → AtMostOne (λ z. IsSomeAnd o (λ p. P p z))
table_one None P p = λ v w h k. absurd h
table_one (Some t) P p = p t

either_one : {Z : Type 0} (P Q : Z → Type 0) → AtMostOne P → AtMostOne Q → ((v w : Z) → P v → Q w → ⊥) → AtMostOne (λ z. P z ⊎ Q z)
either_one P Q p q n v w (inl h) (inl k) = p v w h k
either_one P Q p q n v w (inr h) (inr k) = q v w h k
either_one P Q p q n v w (inl h) (inr k) = absurd (n v w h k)
either_one P Q p q n v w (inr h) (inl k) = absurd (n w v k h)

-- ---- changes of the session

changed_one : {A : Type 0} (c : Change) (s : WorldState A) → AtMostOne (λ (o : Bool × WorldState A). IsChanged c o.0 s o.1)
changed_one c s v w h k =
    let e : v.0 ≡ w.0 = h.0 ∙ sym k.0 in
    λ i. (e i, (h.1 ∙ ap (λ b. by_done b c s) e ∙ sym k.1) i)

pub makes_one : {A : Type 0} (c : Change) (taken : Data) (s : WorldState A) → AtMostOne (λ (o : Outcome A). Makes c taken s o.0 o.1)
makes_one c taken s v w h k =
    let e : Same h.0 v.1 k.0 w.1 = changed_one c s (h.0, v.1) (k.0, w.1) h.1 k.1 in
    λ i. ((h.2 ∙ ap (λ o. value_if_taken o.0 taken) e ∙ sym k.2) i, (e i).1)

-- a change that gives a value, by what the value is seen as
abbrev pub Seen : {A : Type 0} → (Data → SessionState → SessionState) → List Source → Data → Bool → WorldState A → WorldState A → Type 0
Seen f ws d true s t = (true ≡ not (not (may_weigh (weight s.session) (weight (f d s.session))) || false)) × (t ≡ record s { session = f d s.session; wrote = s.wrote ++ ws })
Seen f ws d false s t = (false ≡ not (not (may_weigh (weight s.session) (weight (f d s.session))) || false)) × (t ≡ s)

seen_one : {A : Type 0} (f : Data → SessionState → SessionState) (ws : List Source) (d : Data) (s : WorldState A) (b c : Bool) (t u : WorldState A) → Seen f ws d b s t → Seen f ws d c s u → Same b t c u
seen_one f ws d s true true t u h k = λ i. (true, (h.1 ∙ sym k.1) i)
seen_one f ws d s false false t u h k = λ i. (false, (h.1 ∙ sym k.1) i)
seen_one f ws d s true false t u h k = let wrong : true ≡ false = h.0 ∙ sym k.0 in absurd cc
seen_one f ws d s false true t u h k = let wrong : false ≡ true = h.0 ∙ sym k.0 in absurd cc

abbrev pub Sees : Type 0 → (Value → Change) → (Data → SessionState → SessionState) → List Source → Type 0
Sees A change f ws = (v : Value) (b : Bool) (s t : WorldState A) → IsChanged (change v) b s t → Seen f ws (view v) b s t

pub given_one : {A : Type 0} (change : Value → Change) (f : Data → SessionState → SessionState) (ws : List Source) → Sees A change f ws → (d : Data) (s : WorldState A) →
    AtMostOne (λ (o : Bool × WorldState A). IsValueGiven change d o.0 s o.1)
given_one change f ws sees d s v w h k =
    seen_one f ws d s v.0 w.0 v.1 w.1 (subst (λ z. Seen f ws z v.0 s v.1) h.1 (sees h.0 v.0 s v.1 h.2)) (subst (λ z. Seen f ws z w.0 s w.1) k.1 (sees k.0 w.0 s w.1 k.2))

gives_one : {A : Type 0} (change : Value → Change) (f : Data → SessionState → SessionState) (ws : List Source) → Sees A change f ws → (d taken : Data) (s : WorldState A) →
    AtMostOne (λ (o : Outcome A). ChangeGives change d taken s o.0 o.1)
gives_one change f ws sees d taken s v w h k =
    let e : Same h.2.0 v.1 k.2.0 w.1 = given_one change f ws sees d s (h.2.0, v.1) (k.2.0, w.1) (h.0, h.1, h.2.1) (k.0, k.1, k.2.1) in
    λ i. ((h.2.2 ∙ ap (λ o. value_if_taken o.0 taken) e ∙ sym k.2.2) i, (e i).1)

abbrev pub with_variable : ℕ → Data → SessionState → SessionState
with_variable k d s = record s { variables = slice_set s.variables k d }

abbrev pub with_collection : ℕ → Data → SessionState → SessionState
with_collection k d s = record s { collections = slice_set s.collections k d }

sees_global : {A : Type 0} (k : ℕ) → Sees A (change.Global k) (with_variable k) (source.Global k ∷ [])
sees_global k v true s t h = h
sees_global k v false s t h = h

pub sees_context : {A : Type 0} (k : ℕ) → Sees A (change.Context k) (with_variable k) (source.Context k ∷ [])
sees_context k v true s t h = h
sees_context k v false s t h = h

pub sees_gather : {A : Type 0} (k : ℕ) → Sees A (change.Gather k) (with_collection k) (source.Gathered k ∷ [])
sees_gather k v true s t h = h
sees_gather k v false s t h = h

pub set_one : {A : Type 0} (k : ℕ) (d taken : Data) (s : WorldState A) → AtMostOne (λ (o : Outcome A). ChangeGives (change.Global k) d taken s o.0 o.1)
set_one k = gives_one (change.Global k) (with_variable k) (source.Global k ∷ []) (sees_global k)

by_done_one : {A : Type 0} (done : Bool) (P : Outcome A → Type 0) (s : WorldState A) → AtMostOne P → AtMostOne (λ (o : Outcome A). ByDone done (P o) s o.0 o.1)
by_done_one true P s p = p
by_done_one false P s p = answers_one _ s

pub sets_one : {A : Type 0} (ks : List Source) (ys : List Data) (s : WorldState A) → AtMostOne (λ (o : Outcome A). UpdatesContext ks ys s o.0 o.1)
sets_one [] [] s = answers_one _ s
sets_one (source.Context k ∷ ks) (y ∷ ys) s =
    two_one (λ done m. IsValueGiven (change.Context k) y done s m) (λ done m o. ByDone done (UpdatesContext ks ys m o.0 o.1) m o.0 o.1)
    (given_one (change.Context k) (with_variable k) (source.Context k ∷ []) (sees_context k) y s) (λ done m. by_done_one done (λ o. UpdatesContext ks ys m o.0 o.1) m (sets_one ks ys m))
sets_one [] (y ∷ ys) s = λ v w h k. absurd h
sets_one (source.Context k ∷ ks) [] s = λ v w h k. absurd h
sets_one (source.Cell k ∷ ks) ys s = λ v w h k. absurd h
sets_one (source.Global k ∷ ks) ys s = λ v w h k. absurd h
sets_one (source.Gathered k ∷ ks) ys s = λ v w h k. absurd h
sets_one (source.Input k ∷ ks) ys s = λ v w h k. absurd h
sets_one (source.Chosen k ∷ ks) ys s = λ v w h k. absurd h
sets_one (source.Table k ∷ ks) ys s = λ v w h k. absurd h
sets_one (source.Today ∷ ks) ys s = λ v w h k. absurd h

-- ---- rows of tables

inserts_one : (columns : List Column) (k : ℕ) (cells : List Data) (a : Tables) (p q : Put) (b c : Tables) → Inserts columns k cells p a b → Inserts columns k cells q a c → Same p b q c
inserts_one columns k cells a (Id m) (Id n) b c h j = λ i. (Id ((h.1 ∙ sym j.1) i), (h.2 ∙ sym j.2) i)
inserts_one columns k cells a (Refused r) (Refused q) b c h j =
    let e : r ≡ q = ap (λ o. unwrap_or o r) (sym h.0 ∙ j.0) in
    λ i. (Refused (e i), (h.1 ∙ sym j.1) i)
inserts_one columns k cells a (Id m) (Refused q) b c h j = absurd (let wrong : None ≡ Some q = sym h.0 ∙ j.0 in cc)
inserts_one columns k cells a (Refused r) (Id n) b c h j = absurd (let wrong : None ≡ Some r = sym j.0 ∙ h.0 in cc)
inserts_one columns k cells a NoRow q b c h j = absurd h
inserts_one columns k cells a (Id m) NoRow b c h j = absurd j
inserts_one columns k cells a (Refused r) NoRow b c h j = absurd j

replaces_one : (columns : List Column) (k id : ℕ) (cells : List Data) (a : Tables) (p q : Put) (b c : Tables) → Replaces columns k id cells p a b → Replaces columns k id cells q a c → Same p b q c
replaces_one columns k id cells a (Id m) (Id n) b c h j = λ i. (Id ((h.0 ∙ sym j.0) i), (h.3 ∙ sym j.3) i)
replaces_one columns k id cells a NoRow NoRow b c h j = λ i. (NoRow, (h.1 ∙ sym j.1) i)
replaces_one columns k id cells a (Refused r) (Refused q) b c h j =
    let e : r ≡ q = ap (λ o. unwrap_or o r) (sym h.1 ∙ j.1) in
    λ i. (Refused (e i), (h.2 ∙ sym j.2) i)
replaces_one columns k id cells a (Id m) NoRow b c h j = absurd (let wrong : true ≡ false = sym h.1 ∙ j.0 in cc)
replaces_one columns k id cells a NoRow (Id n) b c h j = absurd (let wrong : true ≡ false = sym j.1 ∙ h.0 in cc)
replaces_one columns k id cells a (Id m) (Refused q) b c h j = absurd (let wrong : None ≡ Some q = sym h.2 ∙ j.1 in cc)
replaces_one columns k id cells a (Refused r) (Id n) b c h j = absurd (let wrong : None ≡ Some r = sym j.2 ∙ h.1 in cc)
replaces_one columns k id cells a (Refused r) NoRow b c h j = absurd (let wrong : true ≡ false = sym h.0 ∙ j.0 in cc)
replaces_one columns k id cells a NoRow (Refused q) b c h j = absurd (let wrong : true ≡ false = sym j.0 ∙ h.0 in cc)

removes_one : (k id : ℕ) (a : Tables) (p q : Bool) (b c : Tables) → Removes k id p a b → Removes k id q a c → Same p b q c
removes_one k id a true true b c h j = λ i. (true, (h.1 ∙ sym j.1) i)
removes_one k id a false false b c h j = λ i. (false, (h.1 ∙ sym j.1) i)
removes_one k id a true false b c h j = absurd (let wrong : true ≡ false = sym h.0 ∙ j.0 in cc)
removes_one k id a false true b c h j = absurd (let wrong : true ≡ false = sym j.0 ∙ h.0 in cc)

made_one : {A : Type 0} (columns : List Column) (k : ℕ) (cells : List Data) (s : WorldState A) → AtMostOne (λ (o : Put × WorldState A). IsRowMade columns k cells o.0 s o.1)
made_one columns k cells s v w h j =
    let e : Same v.0 h.0 w.0 j.0 = inserts_one columns k cells s.tables v.0 w.0 h.0 j.0 h.1 j.1 in
    λ i. ((e i).0, (h.2 ∙ ap (λ o. by_put o.0 k o.1 s) e ∙ sym j.2) i)

pub put_over_one : {A : Type 0} (columns : List Column) (k id : ℕ) (cells : List Data) (s : WorldState A) → AtMostOne (λ (o : Put × WorldState A). IsRowChanged columns k id cells o.0 s o.1)
put_over_one columns k id cells s v w h j =
    let e : Same v.0 h.0 w.0 j.0 = replaces_one columns k id cells s.tables v.0 w.0 h.0 j.0 h.1 j.1 in
    λ i. ((e i).0, (h.2 ∙ ap (λ o. by_put o.0 k o.1 s) e ∙ sym j.2) i)

pub taken_out_one : {A : Type 0} (k id : ℕ) (s : WorldState A) → AtMostOne (λ (o : Bool × WorldState A). IsRowRemoved k id o.0 s o.1)
taken_out_one k id s v w h j =
    let e : Same v.0 h.0 w.0 j.0 = removes_one k id s.tables v.0 w.0 h.0 j.0 h.1 j.1 in
    λ i. ((e i).0, (h.2 ∙ ap (λ o. by_found o.0 k o.1 s) e ∙ sym j.2) i)

makes_row_one : {A : Type 0} (p : TableShape) (k : ℕ) (cells : List Data) (s : WorldState A) → AtMostOne (λ (o : Outcome A). MakesRow p k cells s o.0 o.1)
makes_row_one p k cells s v w h j =
    let e : Same h.0 v.1 j.0 w.1 = made_one p.columns k cells s (h.0, v.1) (j.0, w.1) h.1 j.1 in
    λ i. ((h.2 ∙ ap (λ o. put_answer p cells o.0) e ∙ sym j.2) i, (e i).1)

changes_row_one : {A : Type 0} (p : TableShape) (k id : ℕ) (cells : List Data) (s : WorldState A) → AtMostOne (λ (o : Outcome A). ChangesRow p k id cells s o.0 o.1)
changes_row_one p k id cells s v w h j =
    let e : Same h.0 v.1 j.0 w.1 = put_over_one p.columns k id cells s (h.0, v.1) (j.0, w.1) h.1 j.1 in
    λ i. ((h.2 ∙ ap (λ o. put_answer p cells o.0) e ∙ sym j.2) i, (e i).1)

patches_row_one : {A : Type 0} (p : TableShape) (k : ℕ) (changes : List Row) (id : ℕ) (s : WorldState A) → AtMostOne (λ (o : Outcome A). PatchesRow p k changes id s o.0 o.1)
patches_row_one p k changes id s =
    some_one (row_numbered k id s) (λ o. AnswersOnly _ s o.0 o.1) (λ r o. ChangesRow p k id _ s o.0 o.1) (answers_one _ s) (λ r. changes_row_one p k id _ s)

by_number_one : {A : Type 0} (p : TableShape) (k : ℕ) (changes : List Row) (d : Data) (s : WorldState A) →
    AtMostOne (λ (o : Outcome A). MatchResult (named_id d) (λ id. PatchesRow p k changes id s o.0 o.1) (λ e. AnswersOnly e s o.0 o.1))
by_number_one p k changes d s =
    ok_one (named_id d) (λ id o. PatchesRow p k changes id s o.0 o.1) (λ e o. AnswersOnly e s o.0 o.1) (λ id. patches_row_one p k changes id s) (λ e. answers_one e s)

patches_by_id_one : {A : Type 0} (p : TableShape) (k : ℕ) (changes : List Row) (d : Data) (s : WorldState A) → AtMostOne (λ (o : Outcome A). PatchesById p k changes d s o.0 o.1)
patches_by_id_one p k changes blank s = makes_row_one p k _ s
patches_by_id_one p k changes (number z) s = by_number_one p k changes (number z) s
patches_by_id_one p k changes (text cs) s = answers_one _ s
patches_by_id_one p k changes (boolean b) s = answers_one _ s
patches_by_id_one p k changes (date z) s = answers_one _ s
patches_by_id_one p k changes (rec fs) s = answers_one _ s
patches_by_id_one p k changes (tab rs) s = answers_one _ s
patches_by_id_one p k changes (fault e cs) s = answers_one _ s

patches_base_one : {A : Type 0} (p : TableShape) (k : ℕ) (changes : List Row) (d : Data) (s : WorldState A) → AtMostOne (λ (o : Outcome A). PatchesBase p k changes d s o.0 o.1)
patches_base_one p k changes (rec fs) s = patches_by_id_one p k changes (field_or_blank id_name fs) s
patches_base_one p k changes blank s = answers_one _ s
patches_base_one p k changes (number z) s = answers_one _ s
patches_base_one p k changes (text cs) s = answers_one _ s
patches_base_one p k changes (boolean b) s = answers_one _ s
patches_base_one p k changes (date z) s = answers_one _ s
patches_base_one p k changes (tab rs) s = answers_one _ s
patches_base_one p k changes (fault e cs) s = answers_one _ s

pub patched_one : {A : Type 0} (schema : Schema) (k : ℕ) (b : Data) (ys : List Data) (s : WorldState A) → AtMostOne (λ (o : Outcome A). IsPatched schema k b ys s o.0 o.1)
patched_one schema k b ys s =
    among_one (row_id_value b ∷ values_among (rows_among ys)) (λ o. OfTable schema k (λ p. PatchesBase p k (rows_among ys) b s o.0 o.1)) s
    (table_one (slice_get schema.tables k) (λ p o. PatchesBase p k (rows_among ys) b s o.0 o.1) (λ p. patches_base_one p k (rows_among ys) b s))

by_found_one : {A : Type 0} (found : Bool) (P : Outcome A → Type 0) (s : WorldState A) → AtMostOne P → AtMostOne (λ (o : Outcome A). ByFound found (P o) s o.0 o.1)
by_found_one true P s p = p
by_found_one false P s p = answers_one _ s

pub removed_one : {A : Type 0} (k : ℕ) (ys : List Data) (s : WorldState A) → AtMostOne (λ (o : Outcome A). AreRemoved k ys s o.0 o.1)
removed_one k [] s = answers_one _ s
removed_one {A} k (y ∷ ys) s =
    ok_one (named_id (row_id_value y)) (λ id o. TakesOut k id s (λ m. AreRemoved k ys m o.0 o.1) o.0 o.1) (λ e o. AnswersOnly e s o.0 o.1)
    (λ id. two_one (λ found m. IsRowRemoved k id found s m) (λ found m o. ByFound found (AreRemoved k ys m o.0 o.1) m o.0 o.1) (taken_out_one k id s)
    (λ found m. by_found_one found (λ o. AreRemoved k ys m o.0 o.1) m (removed_one k ys m)))
    (λ e. answers_one e s)

by_put_one : {A : Type 0} (p : TableShape) (put : Put) (P : Outcome A → Type 0) (s : WorldState A) → AtMostOne P → AtMostOne (λ (o : Outcome A). ByPut p put (P o) s o.0 o.1)
by_put_one p (Id id) P s q = q
by_put_one p NoRow P s q = answers_one _ s
by_put_one p (Refused r) P s q = answers_one _ s

updates_one : {A : Type 0} (p : TableShape) (k : ℕ) (changes : List Row) (id : ℕ) (s : WorldState A) (P : WorldState A → Outcome A → Type 0) → ((m : WorldState A) → AtMostOne (P m)) →
    AtMostOne (λ (o : Outcome A). Updates p k changes id s (λ m. P m o) o.0 o.1)
updates_one {A} p k changes id s P f =
    some_one (row_numbered k id s) (λ o. AnswersOnly _ s o.0 o.1)
    (λ r o. (put : Put) × (m : WorldState A) × IsRowChanged p.columns k id (changed_cells p.columns changes r.cells) put s m × ByPut p put (P m o) m o.0 o.1)
    (answers_one _ s)
    (λ r. two_one (λ put m. IsRowChanged p.columns k id (changed_cells p.columns changes r.cells) put s m) (λ put m o. ByPut p put (P m o) m o.0 o.1)
    (put_over_one p.columns k id (changed_cells p.columns changes r.cells) s) (λ put m. by_put_one p put (P m) m (f m)))

pub updated_one : {A : Type 0} (p : TableShape) (k : ℕ) (rs : List Row) (cs : List Data) (s : WorldState A) → AtMostOne (λ (o : Outcome A). AreUpdated p k rs cs s o.0 o.1)
updated_one p k [] cs s = answers_one _ s
updated_one p k (r ∷ rs) [] s = answers_one _ s
updated_one {A} p k (r ∷ rs) (c ∷ cs) s =
    ok_one (named_id (row_id_value (record_of r))) (λ id o. Updates p k (rows_in c) id s (λ m. AreUpdated p k rs cs m o.0 o.1) o.0 o.1) (λ e o. AnswersOnly e s o.0 o.1)
    (λ id. updates_one p k (rows_in c) id s (λ m o. AreUpdated p k rs cs m o.0 o.1) (updated_one p k rs cs)) (λ e. answers_one e s)

-- ---- rows of collections

pub holds_one : {A : Type 0} (k : ℕ) (rows : List Row) (taken : Data) (s : WorldState A) → AtMostOne (λ (o : Outcome A). GathersRows k rows taken s o.0 o.1)
holds_one k rows taken s = gives_one (change.Gather k) (with_collection k) (source.Gathered k ∷ []) (sees_gather k) (table_of rows) taken s

-- the first row that is this one is one
lacks_not : (r : Row) (before after : List Row) → Lacks r (before ++ r ∷ after) → ⊥
lacks_not r [] after h = h.0 refl
lacks_not r (q ∷ before) after h = lacks_not r before after h.1

head_of : {X : Type 0} (x y : X) (xs ys : List X) → (x ∷ xs) ≡ (y ∷ ys) → x ≡ y
head_of x y xs ys e = cc

tail_of : {X : Type 0} (x y : X) (xs ys : List X) → (x ∷ xs) ≡ (y ∷ ys) → xs ≡ ys
tail_of x y xs ys e = cc

parts_one : (r : Row) (b a d c : List Row) → b ++ r ∷ a ≡ d ++ r ∷ c → Lacks r b → Lacks r d → Same b a d c
parts_one r [] a [] c e h k = λ i. ([], tail_of r r a c e i)
parts_one r [] a (q ∷ d) c e h k = absurd (k.0 (sym (head_of r q a (d ++ r ∷ c) e)))
parts_one r (q ∷ b) a [] c e h k = absurd (h.0 (head_of q r (b ++ r ∷ a) c e))
parts_one r (q ∷ b) a (p ∷ d) c e h k =
    let f = parts_one r b a d c (tail_of q p (b ++ r ∷ a) (d ++ r ∷ c) e) h.1 k.1 in
    λ i. (head_of q p (b ++ r ∷ a) (d ++ r ∷ c) e i ∷ (f i).0, (f i).1)

pub first_one : (r : Row) (rows : List Row) → AtMostOne (λ (o : List Row × List Row). IsFirstRow r rows o.0 o.1)
first_one r rows v w h k = parts_one r v.0 v.1 w.0 w.1 (sym h.parted ∙ k.parted) h.first k.first

pub first_or_lacks : (r : Row) (rows before after : List Row) → IsFirstRow r rows before after → Lacks r rows → ⊥
first_or_lacks r rows before after h k = lacks_not r before after (subst (Lacks r) h.parted k)

puts_for_one : {A : Type 0} (k : ℕ) (r q : Row) (s : WorldState A) → AtMostOne (λ (o : Outcome A). PutsFor k r q s o.0 o.1)
puts_for_one k r q s =
    either_one (λ o. (before after : List Row) × IsFirstRow r (rows_held k s) before after × GathersRows k (before ++ q ∷ after) (record_of q) s o.0 o.1)
    (λ o. Lacks r (rows_held k s) × AnswersOnly _ s o.0 o.1)
    (two_one (λ before after. IsFirstRow r (rows_held k s) before after) (λ before after o. GathersRows k (before ++ q ∷ after) (record_of q) s o.0 o.1)
    (first_one r (rows_held k s)) (λ before after. holds_one k (before ++ q ∷ after) (record_of q) s))
    (λ v w h j. answers_one _ s v w h.1 j.1) (λ v w h j. first_or_lacks r (rows_held k s) h.0 h.1 h.2 j.0)

patches_row_in_one : {A : Type 0} (k : ℕ) (r q : Row) (s : WorldState A) → AtMostOne (λ (o : Outcome A). PatchesIn k r q s o.0 o.1)
patches_row_in_one {A} k r q s =
    let appends : Outcome A → Type 0 = λ o. AreBlank r × Appends k q s o.0 o.1 in
    let other : Outcome A → Type 0 = λ o. (AreBlank r → ⊥) × PutsFor k r q s o.0 o.1 in
    either_one appends other (λ v w h j. holds_one k (rows_held k s ++ q ∷ []) (record_of q) s v w h.1 j.1)
    (λ v w h j. puts_for_one k r q s v w h.1 j.1) (λ v w h j. j.0 h.0)

pub patched_in_one : {A : Type 0} (cs : ColumnList) (k : ℕ) (b : Data) (ys : List Data) (s : WorldState A) → AtMostOne (λ (o : Outcome A). IsPatchedIn cs k b ys s o.0 o.1)
patched_in_one cs k b ys s =
    let r = record_row cs b in
    let q = changed_row cs (rows_among ys) r in
    among_one (values_among (rows_among ys)) (λ o. PatchesIn k r q s o.0 o.1) s (patches_row_in_one k r q s)

-- rows without those that were kept, and rows with changed ones
left_one : (rows kept left more : List Row) → RemainAfterFilter rows kept left → RemainAfterFilter rows kept more → left ≡ more
left_one [] kept left more h k = h ∙ sym k
left_one (r ∷ rows) [] left more h k = h ∙ sym k
left_one (r ∷ rows) (q ∷ kept) left more (inl h) (inl k) = left_one rows kept left more h.1 k.1
left_one (r ∷ rows) (q ∷ kept) left more (inl h) (inr k) = absurd (k.0 h.0)
left_one (r ∷ rows) (q ∷ kept) left more (inr h) (inl k) = absurd (h.0 k.0)
left_one (r ∷ rows) (q ∷ kept) left more (inr h) (inr k) = h.2 ∙ ap (λ zs. r ∷ zs) (left_one rows (q ∷ kept) h.1 k.1 h.3 k.3) ∙ sym k.2

with_one : (cs : ColumnList) (rows kept : List Row) (ds : List Data) (made more : List Row) → AreWith cs rows kept ds made → AreWith cs rows kept ds more → made ≡ more
with_one cs [] kept ds made more h k = h ∙ sym k
with_one cs (r ∷ rows) [] ds made more h k = h ∙ sym k
with_one cs (r ∷ rows) (q ∷ kept) [] made more h k = h ∙ sym k
with_one cs (r ∷ rows) (q ∷ kept) (d ∷ ds) made more (inl h) (inl k) = h.2 ∙ ap (λ zs. changed_row cs (rows_in d) r ∷ zs) (with_one cs rows kept ds h.1 k.1 h.3 k.3) ∙ sym k.2
with_one cs (r ∷ rows) (q ∷ kept) (d ∷ ds) made more (inl h) (inr k) = absurd (k.0 h.0)
with_one cs (r ∷ rows) (q ∷ kept) (d ∷ ds) made more (inr h) (inl k) = absurd (h.0 k.0)
with_one cs (r ∷ rows) (q ∷ kept) (d ∷ ds) made more (inr h) (inr k) = h.2 ∙ ap (λ zs. r ∷ zs) (with_one cs rows (q ∷ kept) (d ∷ ds) h.1 k.1 h.3 k.3) ∙ sym k.2

pub taken_if_one : {A : Type 0} (k : ℕ) (kept : List Row) (s : WorldState A) → AtMostOne (λ (o : Outcome A). AreTakenIf k kept s o.0 o.1)
taken_if_one k kept s =
    then_one (λ left. RemainAfterFilter (rows_held k s) kept left) (λ left o. GathersRows k left (boolean true) s o.0 o.1) (left_one (rows_held k s) kept) (λ left. holds_one k left (boolean true) s)

pub updated_in_one : {A : Type 0} (cs : ColumnList) (k : ℕ) (kept : List Row) (changes : List Data) (s : WorldState A) → AtMostOne (λ (o : Outcome A). AreUpdatedIn cs k kept changes s o.0 o.1)
updated_in_one cs k kept changes s =
    then_one (λ made. AreWith cs (rows_held k s) kept changes made) (λ made o. GathersRows k made (boolean true) s o.0 o.1) (with_one cs (rows_held k s) kept changes) (λ made. holds_one k made (boolean true) s)

-- the first equal row is taken out, and then the others
abbrev TakesOne : {A : Type 0} → ColumnList → ℕ → Data → List Data → WorldState A → Outcome A → Type 0
TakesOne {A} cs k y ys s o = (before after : List Row) × (done : Bool) × (m : WorldState A) × IsFirstRow (record_row cs y) (rows_held k s) before after
    × IsValueGiven (change.Gather k) (table_of (before ++ after)) done s m × ByDone done (AreTaken cs k ys m o.0 o.1) m o.0 o.1

takes_one : {A : Type 0} (cs : ColumnList) (k : ℕ) (y : Data) (ys : List Data) (s : WorldState A) → ((m : WorldState A) → AtMostOne (λ (o : Outcome A). AreTaken cs k ys m o.0 o.1)) → AtMostOne (TakesOne cs k y ys s)
takes_one cs k y ys s further v w h j =
    let e : Same h.0 h.1 j.0 j.1 = first_one (record_row cs y) (rows_held k s) (h.0, h.1) (j.0, j.1) h.4 j.4 in
    let given : IsValueGiven (change.Gather k) (table_of (j.0 ++ j.1)) h.2 s h.3 = subst (λ o. IsValueGiven (change.Gather k) (table_of (o.0 ++ o.1)) h.2 s h.3) e h.5 in
    let f : Same h.2 h.3 j.2 j.3 = given_one (change.Gather k) (with_collection k) (source.Gathered k ∷ []) (sees_gather k) (table_of (j.0 ++ j.1)) s (h.2, h.3) (j.2, j.3) given j.5 in
    by_done_one j.2 (λ o. AreTaken cs k ys j.3 o.0 o.1) j.3 (further j.3) v w (subst (λ o. ByDone o.0 (AreTaken cs k ys o.1 v.0 v.1) o.1 v.0 v.1) f h.6) j.6

pub taken_one : {A : Type 0} (cs : ColumnList) (k : ℕ) (ys : List Data) (s : WorldState A) → AtMostOne (λ (o : Outcome A). AreTaken cs k ys s o.0 o.1)
taken_one cs k [] s = answers_one _ s
taken_one cs k (y ∷ ys) s =
    either_one (TakesOne cs k y ys s) (λ o. Lacks (record_row cs y) (rows_held k s) × AnswersOnly _ s o.0 o.1) (takes_one cs k y ys s (λ m. taken_one cs k ys m))
    (λ v w h j. answers_one _ s v w h.1 j.1) (λ v w h j. first_or_lacks (record_row cs y) (rows_held k s) h.0 h.1 h.4 j.0)

-- ---- deeds

pub update_one : {A : Type 0} (f : EvalFrame) (p : Target) (rows : List Row) (changes : List Data) (s : WorldState A) → AtMostOne (λ (o : Outcome A). IsUpdate f p rows changes s o.0 o.1)
update_one f (target.Table k) rows changes s =
    among_one (errors_in changes) (λ o. OfTable f.schema k (λ p. AreUpdated p k rows changes s o.0 o.1)) s
    (table_one (slice_get f.schema.tables k) (λ p o. AreUpdated p k rows changes s o.0 o.1) (λ p. updated_one p k rows changes s))
update_one f (target.Gathered k) rows changes s =
    let cs = columns_of_rows (f.types (source.Gathered k)) in
    among_one (errors_in changes) (λ o. AreUpdatedIn cs k rows changes s o.0 o.1) s (updated_in_one cs k rows changes s)

pub deed_once : {A : Type 0} (f : EvalFrame) (d : Deed) (ys : List Data) (s : WorldState A) → AtMostOne (λ (o : Outcome A). IsDeed f d ys s o.0 o.1)
deed_once f (deed.Set k) (y ∷ []) s = set_one k y (boolean true) s
deed_once f (deed.Set k) [] s = λ v w p q. absurd p
deed_once f (deed.Set k) (y ∷ z ∷ ys) s = λ v w p q. absurd p
deed_once f (deed.UpdateContext ks) ys s = sets_one ks ys s
deed_once f (deed.Collect k) ys s = among_one ys (λ o. GathersRows k (rows_held k s ++ rows_among ys) (boolean true) s o.0 o.1) s (holds_one k (rows_held k s ++ rows_among ys) (boolean true) s)
deed_once f (deed.Clear k) [] s = makes_one (change.Empty k) (boolean true) s
deed_once f (deed.Clear k) (y ∷ ys) s = λ v w p q. absurd p
deed_once f (deed.ClearCollect k) ys s = among_one ys (λ o. GathersRows k (rows_among ys) (boolean true) s o.0 o.1) s (holds_one k (rows_among ys) (boolean true) s)
deed_once f (deed.Patch (target.Table k)) [] s = λ v w p q. absurd p
deed_once f (deed.Patch (target.Table k)) (b ∷ ys) s = among_one (b ∷ ys) (λ o. IsPatched f.schema k b ys s o.0 o.1) s (patched_one f.schema k b ys s)
deed_once f (deed.Patch (target.Gathered k)) [] s = λ v w p q. absurd p
deed_once f (deed.Patch (target.Gathered k)) (b ∷ ys) s = among_one (b ∷ ys) (λ o. IsPatchedIn (columns_of_rows (f.types (source.Gathered k))) k b ys s o.0 o.1) s (patched_in_one (columns_of_rows (f.types (source.Gathered k))) k b ys s)
deed_once f (deed.Remove (target.Table k)) ys s = among_one ys (λ o. AreRemoved k ys s o.0 o.1) s (removed_one k ys s)
deed_once f (deed.Remove (target.Gathered k)) ys s = among_one ys (λ o. AreTaken (columns_of_rows (f.types (source.Gathered k))) k ys s o.0 o.1) s (taken_one (columns_of_rows (f.types (source.Gathered k))) k ys s)
deed_once f (deed.RemoveIf (target.Table k)) [] s = λ v w p q. absurd p
deed_once f (deed.RemoveIf (target.Table k)) (y ∷ []) s = or_error_one y (λ o. AreRemoved k (map record_of (rows_in y)) s o.0 o.1) s (removed_one k (map record_of (rows_in y)) s)
deed_once f (deed.RemoveIf (target.Table k)) (y ∷ z ∷ ys) s = λ v w p q. absurd p
deed_once f (deed.RemoveIf (target.Gathered k)) [] s = λ v w p q. absurd p
deed_once f (deed.RemoveIf (target.Gathered k)) (y ∷ []) s = or_error_one y (λ o. AreTakenIf k (rows_in y) s o.0 o.1) s (taken_if_one k (rows_in y) s)
deed_once f (deed.RemoveIf (target.Gathered k)) (y ∷ z ∷ ys) s = λ v w p q. absurd p
deed_once f (deed.UpdateIf p) ys s = λ v w p q. absurd p
deed_once f (deed.Navigate k) [] s = makes_one (change.Screen k) (boolean true) s
deed_once f (deed.Navigate k) (y ∷ ys) s = λ v w p q. absurd p
deed_once f deed.Notify [] s = λ v w p q. absurd p
deed_once f deed.Notify (y ∷ []) s = or_error_one y (λ o. Makes (change.Notice (text_or_none y)) (boolean true) s o.0 o.1) s (makes_one (change.Notice (text_or_none y)) (boolean true) s)
deed_once f deed.Notify (y ∷ z ∷ ys) s = λ v w p q. absurd p
deed_once f (deed.Reset k) [] s = makes_one (change.Input k None) (boolean true) s
deed_once f (deed.Reset k) (y ∷ ys) s = λ v w p q. absurd p
