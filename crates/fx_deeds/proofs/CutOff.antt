-- A deed goes on from where it was cut off.
use Rattle.std.proofs.Common.{◌≡◌, ℕ, zero, suc, refl, ap, List, [], ◌∷◌, ◌++◌, Bool, true, false, map, Option, Some, None, Result, Ok, Err, sym, subst, ◌∙◌, inl, inr}
use Rattle.std.proofs.lemmas.Result.{on_err_weaker}
use Rattle.std.specs.Prelude.{IsSomeAnd, MatchOption, MatchResult, OnErr, slice_get, take}
use Rattle.std.specs.List.{find}
use Rattle.fx_types.specs.declared.values.Value.{Value}
use Rattle.fx_types.specs.ValueView.{view}
use Rattle.fx_types.specs.Types.{ColumnList}
use Rattle.fx_types.specs.Values.{Data, blank, number, text, boolean, date, rec, tab, fault}
use Rattle.fx_semantics.specs.Around.{record_of}
use Rattle.fx_semantics.specs.Rows.{rows_in, table_of}
use Rattle.fx_value.specs.Columns.{Row}
use Rattle.fx_tables.specs.Unions.{is_fault}
use Rattle.fx_core.specs.declared.deeds.Deed.{Deed}
use Rattle.fx_core.specs.declared.deeds.Deed.TheVariants as deed
use Rattle.fx_core.specs.declared.deeds.Target.{Target}
use Rattle.fx_core.specs.declared.deeds.Target.TheVariants as target
use Rattle.fx_core.specs.declared.schema.TableShape.{TableShape}
use Rattle.fx_core.specs.declared.sources.Source.{Source}
use Rattle.fx_core.specs.declared.sources.Source.TheVariants as source
use Rattle.row_keeper.specs.declared.rows.Put.{Put}
use Rattle.row_keeper.specs.declared.rows.Put.TheVariants.{Id, NoRow, Refused}
use Rattle.session_state.specs.declared.change.Change.{Change}
use Rattle.session_state.specs.declared.change.Change.TheVariants as change
use Rattle.fx_base.proofs.Silences.{goes_two, goes_weaker}
use Rattle.fx_base.specs.Silence.{MayFallSilent, IsLater, SilenceCause, Marks}
use Rattle.fx_base.specs.Telling.{Stays}
use Rattle.fx_deeds.proofs.Passing.{same_state, within_nowhere}
use Rattle.fx_deeds.proofs.Single.{Same, deed_once, first_one, first_or_lacks, given_one, put_over_one, sees_context, sees_gather, taken_out_one, update_one, with_collection, with_variable}
use Rattle.fx_deeds.proofs.Writes as writes
use Rattle.fx_deeds.specs.Changed.{IsChanged, IsRowChanged, IsRowRemoved}
use Rattle.fx_deeds.specs.Collections.{AreTaken, IsFirstRow, rows_held}
use Rattle.fx_deeds.specs.CutOff.{CutDeed, CutUpdate, IsBegun, IsUpdateBegun, UpTo}
use Rattle.fx_deeds.specs.Deeds.{AnswersOnly, AreRemoved, UpdatesContext, AreUpdated, ByDone, ByFound, ByPut, IsValueGiven, Makes, OfTable, OrError, OrErrorAmong, RemovesThen, Updates, row_id_value, named_id, row_numbered}
use Rattle.fx_deeds.specs.Done.{IsDeed, IsUpdate, errors_in}
use Rattle.fx_deeds.specs.RowValues.{changed_cells, columns_of_rows, record_row, value_if_taken}
use Rattle.fx_deeds.specs.Found.{IsTakenFrom, IsTakenOut}
use Rattle.fx_deeds.specs.State.{EvalFrame, WorldState}
use Rattle.fx_deeds.specs.Within.{Within}

-- what was left as it was goes on as all does
pub from_start : {A : Type 0} (s u v : WorldState A) → u ≡ s → Within s v → Within u v
from_start s u v e w = subst (λ z. Within z v) (sym e) w

-- the same state
pub same_end : {A : Type 0} (u v : WorldState A) → u ≡ v → Within u v
same_end u v e = subst (λ z. Within u z) e (within_nowhere u)

-- both have answered and left all
both_answer : {A : Type 0} (d e x y : Data) (s u v : WorldState A) → (x ≡ d) × (u ≡ s) → (y ≡ e) × (v ≡ s) → Within u v
both_answer d e x y s u v p q = same_end u v (p.1 ∙ sym q.1)

-- ---- branches that both take

ok_both : {X Y : Type 0} (o : Result X Y) (P Q : X → Type 0) (R S : Y → Type 0) (Z : Type 0) → ((x : X) → P x → Q x → Z) → ((y : Y) → R y → S y → Z) → MatchResult o P R → MatchResult o Q S → Z
ok_both (Ok x) P Q R S Z f g p q = f x p q
ok_both (Err y) P Q R S Z f g p q = g y p q

some_both : {X : Type 0} (o : Option X) (P Q : Type 0) (R S : X → Type 0) (Z : Type 0) → (P → Q → Z) → ((x : X) → R x → S x → Z) → MatchOption o P R → MatchOption o Q S → Z
some_both None P Q R S Z f g p q = f p q
some_both (Some x) P Q R S Z f g p q = g x p q

and_both : {X : Type 0} (o : Option X) (P Q : X → Type 0) (Z : Type 0) → ((x : X) → P x → Q x → Z) → IsSomeAnd o P → IsSomeAnd o Q → Z
and_both None P Q Z f p q = absurd p
and_both (Some x) P Q Z f p q = f x p q

among_both : {A : Type 0} (ys : List Data) (P Q : Type 0) (x y : Data) (s u v : WorldState A) → (P → Q → Within u v) → OrErrorAmong ys P s x u → OrErrorAmong ys Q s y v → Within u v
among_both ys P Q x y s u v f p q = some_both (find is_fault ys) P Q (λ e. AnswersOnly e s x u) (λ e. AnswersOnly e s y v) (Within u v) f (λ e. both_answer e e x y s u v) p q

error_both : {A : Type 0} (w : Data) (P Q : Type 0) (x y : Data) (s u v : WorldState A) → (P → Q → Within u v) → OrError w P s x u → OrError w Q s y v → Within u v
error_both (fault k cs) P Q x y s u v f p q = both_answer (fault k cs) (fault k cs) x y s u v p q
error_both blank P Q x y s u v f p q = f p q
error_both (number z) P Q x y s u v f p q = f p q
error_both (text cs) P Q x y s u v f p q = f p q
error_both (boolean b) P Q x y s u v f p q = f p q
error_both (date z) P Q x y s u v f p q = f p q
error_both (rec fs) P Q x y s u v f p q = f p q
error_both (tab rs) P Q x y s u v f p q = f p q

done_both : {A : Type 0} (done : Bool) (P Q : Type 0) (x y : Data) (s u v : WorldState A) → (P → Q → Within u v) → ByDone done P s x u → ByDone done Q s y v → Within u v
done_both true P Q x y s u v f p q = f p q
done_both false P Q x y s u v f p q = both_answer _ _ x y s u v p q

found_both : {A : Type 0} (found : Bool) (P Q : Type 0) (x y : Data) (s u v : WorldState A) → (P → Q → Within u v) → ByFound found P s x u → ByFound found Q s y v → Within u v
found_both true P Q x y s u v f p q = f p q
found_both false P Q x y s u v f p q = both_answer _ _ x y s u v p q

put_both : {A : Type 0} (p : TableShape) (put : Put) (P Q : Type 0) (x y : Data) (s u v : WorldState A) → (P → Q → Within u v) → ByPut p put P s x u → ByPut p put Q s y v → Within u v
put_both p (Id id) P Q x y s u v f a b = f a b
put_both p NoRow P Q x y s u v f a b = both_answer _ _ x y s u v a b
put_both p (Refused r) P Q x y s u v f a b = both_answer _ _ x y s u v a b

-- ---- rows and variables one by one

sets_on : {A : Type 0} (n : ℕ) (ks : List Source) (ys : List Data) (s : WorldState A) (x y : Data) (u v : WorldState A) → UpdatesContext (take n ks) (take n ys) s x u → UpdatesContext ks ys s y v → Within u v
sets_on zero ks ys s x y u v p q = from_start s u v p.1 (writes.sets ks ys s y v q)
sets_on (suc n) [] [] s x y u v p q = both_answer _ _ x y s u v p q
sets_on (suc n) [] (z ∷ ys) s x y u v p q = absurd q
sets_on (suc n) (source.Context k ∷ ks) [] s x y u v p q = absurd q
sets_on (suc n) (source.Context k ∷ ks) (z ∷ ys) s x y u v p q =
    let e : Same p.0 p.1 q.0 q.1 = given_one (change.Context k) (with_variable k) (source.Context k ∷ []) (sees_context k) z s (p.0, p.1) (q.0, q.1) p.2 q.2 in
    done_both q.0 (UpdatesContext (take n ks) (take n ys) q.1 x u) (UpdatesContext ks ys q.1 y v) x y q.1 u v (sets_on n ks ys q.1 x y u v)
    (subst (λ o. ByDone o.0 (UpdatesContext (take n ks) (take n ys) o.1 x u) o.1 x u) e p.3) q.3
sets_on (suc n) (source.Cell k ∷ ks) ys s x y u v p q = absurd q
sets_on (suc n) (source.Global k ∷ ks) ys s x y u v p q = absurd q
sets_on (suc n) (source.Gathered k ∷ ks) ys s x y u v p q = absurd q
sets_on (suc n) (source.Input k ∷ ks) ys s x y u v p q = absurd q
sets_on (suc n) (source.Chosen k ∷ ks) ys s x y u v p q = absurd q
sets_on (suc n) (source.Table k ∷ ks) ys s x y u v p q = absurd q
sets_on (suc n) (source.Today ∷ ks) ys s x y u v p q = absurd q

removes_on : {A : Type 0} (k n : ℕ) (ys : List Data) (s : WorldState A) (x y : Data) (u v : WorldState A) → AreRemoved k (take n ys) s x u → AreRemoved k ys s y v → Within u v
removes_on k zero ys s x y u v p q = from_start s u v p.1 (writes.removes k ys s y v q)
removes_on k (suc n) [] s x y u v p q = both_answer _ _ x y s u v p q
removes_on k (suc n) (z ∷ ys) s x y u v p q =
    ok_both (named_id (row_id_value z)) (λ id. RemovesThen k id s (λ m. AreRemoved k (take n ys) m x u) x u) (λ id. RemovesThen k id s (λ m. AreRemoved k ys m y v) y v) (λ e. AnswersOnly e s x u) (λ e. AnswersOnly e s y v) (Within u v)
    (λ id a b.
    let e : Same a.0 a.1 b.0 b.1 = taken_out_one k id s (a.0, a.1) (b.0, b.1) a.2 b.2 in
    found_both b.0 (AreRemoved k (take n ys) b.1 x u) (AreRemoved k ys b.1 y v) x y b.1 u v (removes_on k n ys b.1 x y u v)
    (subst (λ o. ByFound o.0 (AreRemoved k (take n ys) o.1 x u) o.1 x u) e a.3) b.3)
    (λ e. both_answer e e x y s u v) p q

updates_on : {A : Type 0} (t : TableShape) (k n : ℕ) (rs : List Row) (cs : List Data) (s : WorldState A) (x y : Data) (u v : WorldState A) → AreUpdated t k (take n rs) cs s x u → AreUpdated t k rs cs s y v → Within u v
updates_on t k zero rs cs s x y u v p q = from_start s u v p.1 (writes.updates t k rs cs s y v q)
updates_on t k (suc n) [] cs s x y u v p q = both_answer _ _ x y s u v p q
updates_on t k (suc n) (r ∷ rs) [] s x y u v p q = both_answer _ _ x y s u v p q
updates_on {A} t k (suc n) (r ∷ rs) (c ∷ cs) s x y u v p q =
    ok_both (named_id (row_id_value (record_of r))) (λ id. Updates t k (rows_in c) id s (λ m. AreUpdated t k (take n rs) cs m x u) x u) (λ id. Updates t k (rows_in c) id s (λ m. AreUpdated t k rs cs m y v) y v)
    (λ e. AnswersOnly e s x u) (λ e. AnswersOnly e s y v) (Within u v)
    (λ id. some_both (row_numbered k id s) (AnswersOnly _ s x u) (AnswersOnly _ s y v)
    (λ w. (put : Put) × (m : WorldState A) × IsRowChanged t.columns k id (changed_cells t.columns (rows_in c) w.cells) put s m × ByPut t put (AreUpdated t k (take n rs) cs m x u) m x u)
    (λ w. (put : Put) × (m : WorldState A) × IsRowChanged t.columns k id (changed_cells t.columns (rows_in c) w.cells) put s m × ByPut t put (AreUpdated t k rs cs m y v) m y v)
    (Within u v) (both_answer _ _ x y s u v)
    (λ w a b.
    let e : Same a.0 a.1 b.0 b.1 = put_over_one t.columns k id (changed_cells t.columns (rows_in c) w.cells) s (a.0, a.1) (b.0, b.1) a.2 b.2 in
    put_both t b.0 (AreUpdated t k (take n rs) cs b.1 x u) (AreUpdated t k rs cs b.1 y v) x y b.1 u v (updates_on t k n rs cs b.1 x y u v)
    (subst (λ o. ByPut t o.0 (AreUpdated t k (take n rs) cs o.1 x u) o.1 x u) e a.3) b.3))
    (λ e. both_answer e e x y s u v) p q

takes_on : {A : Type 0} (cs : ColumnList) (k n : ℕ) (ys : List Data) (s : WorldState A) (x y : Data) (u v : WorldState A) → AreTaken cs k (take n ys) s x u → AreTaken cs k ys s y v → Within u v
takes_on cs k zero ys s x y u v p q = from_start s u v p.1 (writes.takes cs k ys s y v q)
takes_on cs k (suc n) [] s x y u v p q = both_answer _ _ x y s u v p q
takes_on cs k (suc n) (z ∷ ys) s x y u v (inl p) (inl q) =
    let e : Same p.0 p.1 q.0 q.1 = first_one (record_row cs z) (rows_held k s) (p.0, p.1) (q.0, q.1) p.4 q.4 in
    let given : IsValueGiven (change.Gather k) (table_of (q.0 ++ q.1)) p.2 s p.3 = subst (λ o. IsValueGiven (change.Gather k) (table_of (o.0 ++ o.1)) p.2 s p.3) e p.5 in
    let f : Same p.2 p.3 q.2 q.3 = given_one (change.Gather k) (with_collection k) (source.Gathered k ∷ []) (sees_gather k) (table_of (q.0 ++ q.1)) s (p.2, p.3) (q.2, q.3) given q.5 in
    done_both q.2 (AreTaken cs k (take n ys) q.3 x u) (AreTaken cs k ys q.3 y v) x y q.3 u v (takes_on cs k n ys q.3 x y u v)
    (subst (λ o. ByDone o.0 (AreTaken cs k (take n ys) o.1 x u) o.1 x u) f p.6) q.6
takes_on cs k (suc n) (z ∷ ys) s x y u v (inr p) (inr q) = both_answer _ _ x y s u v p.1 q.1
takes_on cs k (suc n) (z ∷ ys) s x y u v (inl p) (inr q) = absurd (first_or_lacks (record_row cs z) (rows_held k s) p.0 p.1 p.4 q.0)
takes_on cs k (suc n) (z ∷ ys) s x y u v (inr p) (inl q) = absurd (first_or_lacks (record_row cs z) (rows_held k s) q.0 q.1 q.4 p.0)

-- the first rows of a list, as values
pub take_records : (n : ℕ) (rs : List Row) → map record_of (take n rs) ≡ take n (map record_of rs)
take_records zero rs = refl
take_records (suc n) [] = refl
take_records (suc n) (r ∷ rs) = ap (λ zs. record_of r ∷ zs) (take_records n rs)

-- ---- deeds

-- a single change is the same
single_on : {A : Type 0} (f : EvalFrame) (d : Deed) (ys : List Data) (s : WorldState A) (x y : Data) (u v : WorldState A) → IsDeed f d ys s x u → IsDeed f d ys s y v → Within u v
single_on f d ys s x y u v p q =
    let e : Same x u y v = deed_once f d ys s (x, u) (y, v) p q in
    same_end u v (ap (λ o. o.1) e)

begun_on : {A : Type 0} (f : EvalFrame) (d : Deed) (ys : List Data) (s : WorldState A) (n : ℕ) (x y : Data) (u v : WorldState A) → IsBegun f d ys s n x u → IsDeed f d ys s y v → Within u v
begun_on f (deed.UpdateContext ks) ys s n x y u v p q = sets_on n ks ys s x y u v p q
begun_on f (deed.Remove (target.Table k)) ys s n x y u v p q =
    among_both ys (AreRemoved k (take n ys) s x u) (AreRemoved k ys s y v) x y s u v (removes_on k n ys s x y u v) p q
begun_on f (deed.Remove (target.Gathered k)) ys s n x y u v p q =
    let cs = columns_of_rows (f.types (source.Gathered k)) in
    among_both ys (AreTaken cs k (take n ys) s x u) (AreTaken cs k ys s y v) x y s u v (takes_on cs k n ys s x y u v) p q
begun_on f (deed.RemoveIf (target.Table k)) [] s n x y u v p q = absurd q
begun_on f (deed.RemoveIf (target.Table k)) (z ∷ []) s n x y u v p q =
    let rs = map record_of (rows_in z) in
    error_both z (AreRemoved k (map record_of (take n (rows_in z))) s x u) (AreRemoved k rs s y v) x y s u v
    (λ a b. removes_on k n rs s x y u v (subst (λ zs. AreRemoved k zs s x u) (take_records n (rows_in z)) a) b) p q
begun_on f (deed.RemoveIf (target.Table k)) (z ∷ w ∷ ys) s n x y u v p q = absurd q
begun_on f (deed.RemoveIf (target.Gathered k)) ys s n x y u v p q = single_on f (deed.RemoveIf (target.Gathered k)) ys s x y u v p q
begun_on f (deed.Set k) ys s n x y u v p q = single_on f (deed.Set k) ys s x y u v p q
begun_on f (deed.Collect k) ys s n x y u v p q = single_on f (deed.Collect k) ys s x y u v p q
begun_on f (deed.Clear k) ys s n x y u v p q = single_on f (deed.Clear k) ys s x y u v p q
begun_on f (deed.ClearCollect k) ys s n x y u v p q = single_on f (deed.ClearCollect k) ys s x y u v p q
begun_on f (deed.Patch t) ys s n x y u v p q = single_on f (deed.Patch t) ys s x y u v p q
begun_on f (deed.UpdateIf t) ys s n x y u v p q = absurd q
begun_on f (deed.Navigate k) ys s n x y u v p q = single_on f (deed.Navigate k) ys s x y u v p q
begun_on f deed.Notify ys s n x y u v p q = single_on f deed.Notify ys s x y u v p q
begun_on f (deed.Reset k) ys s n x y u v p q = single_on f (deed.Reset k) ys s x y u v p q

update_begun_on : {A : Type 0} (f : EvalFrame) (t : Target) (rows : List Row) (changes : List Data) (s : WorldState A) (n : ℕ) (x y : Data) (u v : WorldState A) →
    IsUpdateBegun f t rows changes s n x u → IsUpdate f t rows changes s y v → Within u v
update_begun_on f (target.Table k) rows changes s n x y u v p q =
    among_both (errors_in changes) (OfTable f.schema k (λ z. AreUpdated z k (take n rows) changes s x u)) (OfTable f.schema k (λ z. AreUpdated z k rows changes s y v)) x y s u v
    (and_both (slice_get f.schema.tables k) (λ z. AreUpdated z k (take n rows) changes s x u) (λ z. AreUpdated z k rows changes s y v) (Within u v)
    (λ z. updates_on z k n rows changes s x y u v)) p q
update_begun_on f (target.Gathered k) rows changes s n x y u v p q =
    let e : Same x u y v = update_one f (target.Gathered k) rows changes s (x, u) (y, v) p q in
    same_end u v (ap (λ o. o.1) e)

up_to_on : {A : Type 0} (P : WorldState A → ℕ → Data → WorldState A → Type 0) (s u v : WorldState A) → Within s v → ((n : ℕ) (x : Data) → P s n x u → Within u v) → UpTo P s u → Within u v
up_to_on P s u v w f (inl e) = from_start s u v e w
up_to_on P s u v w f (inr p) = f p.0 p.1 p.2

-- THE WHOLE DEED GOES ON FROM WHERE IT WAS CUT OFF
pub deed_on : {A : Type 0} (f : EvalFrame) (d : Deed) (ys : List Data) (s : WorldState A) (y : Data) (u v : WorldState A) → CutDeed f d ys s u → IsDeed f d ys s y v → Within u v
deed_on f d ys s y u v c q = up_to_on (IsBegun f d ys) s u v (writes.done_by f d ys s y v q) (λ n x p. begun_on f d ys s n x y u v p q) c

pub update_on : {A : Type 0} (f : EvalFrame) (t : Target) (rows : List Row) (changes : List Data) (s : WorldState A) (y : Data) (u v : WorldState A) → CutUpdate f t rows changes s u → IsUpdate f t rows changes s y v → Within u v
update_on f t rows changes s y u v c q =
    up_to_on (IsUpdateBegun f t rows changes) s u v (writes.update f t rows changes s y v q) (λ n x p. update_begun_on f t rows changes s n x y u v p q) c

-- a call that leaves the state
pub cut_staying : {A : Type 0} (lost : Type 0) (P : WorldState A → ℕ → Data → WorldState A → Type 0) (x y : Option (WorldState A)) → MayFallSilent lost Stays x y → MayFallSilent lost (UpTo P) x y
cut_staying lost P x y = goes_weaker lost Stays (UpTo P) (λ s u e. inl e) x y

-- nothing was done yet
pub cut_nowhere : {A : Type 0} (lost : Type 0) (P : WorldState A → ℕ → Data → WorldState A → Type 0) (x : Option (WorldState A)) → MayFallSilent lost (UpTo P) x x
cut_nowhere lost P x = cut_staying lost P x x (same_state lost x)

-- a single change was made, but not answered
pub cut_made : {A : Type 0} (lost : Type 0) (c : Change) (done : Bool) (taken : Data) (x y : Option (WorldState A)) → MayFallSilent lost (IsChanged c done) x y → MayFallSilent lost (UpTo (λ s n d t. Makes c taken s d t)) x y
cut_made lost c done taken x y = goes_weaker lost (IsChanged c done) (UpTo (λ s n d t. Makes c taken s d t)) (λ s u h. inr (0, value_if_taken done taken, (done, h, refl))) x y

-- ---- rows one by one

-- rows that were taken out of a table, up to where it was cut off
abbrev pub CutRemoved : {A : Type 0} → ℕ → List Data → WorldState A → WorldState A → Type 0
CutRemoved k ys = UpTo (λ s n x t. AreRemoved k (take n ys) s x t)

-- what is cut off of the others is cut off of all
abbrev pub Carries : {A : Type 0} → (WorldState A → WorldState A → Type 0) → (WorldState A → WorldState A → Type 0) → WorldState A → WorldState A → Type 0
Carries {A} R W s m = (u : WorldState A) → R m u → W s u

pub carries_nowhere : {A : Type 0} (lost : Type 0) (x : Option (WorldState A)) (W : WorldState A → WorldState A → Type 0) → MayFallSilent lost (Carries W W) x x
carries_nowhere lost None W = refl
carries_nowhere lost (Some s) W = λ u c. c

removed_behind : {A : Type 0} (k id : ℕ) (y : Data) (ys : List Data) (s m u : WorldState A) (n : ℕ) (x : Data) → named_id (row_id_value y) ≡ Ok id → IsRowRemoved k id true s m → AreRemoved k (take n ys) m x u → AreRemoved k (take (suc n) (y ∷ ys)) s x u
removed_behind k id y ys s m u n x e r p =
    subst (λ o. MatchResult o (λ id. RemovesThen k id s (λ m. AreRemoved k (take n ys) m x u) x u) (λ e. AnswersOnly e s x u)) (sym e) (true, m, r, p)

removed_next : {A : Type 0} (k : ℕ) (y : Data) (ys : List Data) (s m u : WorldState A) → IsTakenOut k y None s m → CutRemoved k ys m u → CutRemoved k (y ∷ ys) s u
removed_next k y ys s m u t (inl e) = inr (1, boolean true, removed_behind k t.0 y ys s m u 0 (boolean true) t.1 t.2 (refl, e))
removed_next k y ys s m u t (inr p) = inr (suc p.0, p.1, removed_behind k t.0 y ys s m u p.0 p.1 t.1 t.2 p.2)

module _ {A : Type 0} (k l m : Marks) (x y z : Option (WorldState A)) (W : WorldState A → WorldState A → Type 0) (n : ℕ) (v : Value) (vs rest : List Value) (before : IsLater k l) (later : IsLater l m) (first : rest ≡ v ∷ vs) where
  pub removed_goes : (o : Option Value) → ((e : Value) → o ≡ Some e → ⊥) → MayFallSilent (SilenceCause k l) (Carries (CutRemoved n (map view rest)) W) x y → MayFallSilent (SilenceCause l m) (IsTakenOut n (view v) o) y z →
      MayFallSilent (SilenceCause k m) (Carries (CutRemoved n (map view vs)) W) x z
  removed_goes (Some e) none c p = absurd (none e refl)
  removed_goes None none c p =
      goes_two (Carries (CutRemoved n (map view rest)) W) (IsTakenOut n (view v) None) (Carries (CutRemoved n (map view vs)) W)
      (λ s i j h t u q. h u (subst (λ (ws : List Value). CutRemoved n (map view ws) i u) (sym first) (removed_next n (view v) (map view vs) i j u t q))) k l m before later x y z c p

-- the step behind which it was cut off has left the state
pub carried : {A : Type 0} (k l m : Marks) (x y z : Option (WorldState A)) (R W : WorldState A → WorldState A → Type 0) → IsLater k l → IsLater l m → ((s : WorldState A) → R s s) → MayFallSilent (SilenceCause k l) (Carries R W) x y → MayFallSilent (SilenceCause l m) Stays y z → MayFallSilent (SilenceCause k m) W x z
carried k l m x y z R W before later f = goes_two (Carries R W) Stays W (λ s n u h e. h u (subst (λ w. R n w) (sym e) (f n))) k l m before later x y z

-- what holds at any end of a call
pub on_any : {T E : Type 0} (r : Result T E) {P : Type 0} → P → OnErr r P
on_any (Ok x) p = tt
on_any (Err e) p = p

-- ---- calls that pass it on

up_to_by : {A : Type 0} (P Q : WorldState A → ℕ → Data → WorldState A → Type 0) → ((s : WorldState A) (n : ℕ) (d : Data) (t : WorldState A) → P s n d t → Q s n d t) → (s u : WorldState A) → UpTo P s u → UpTo Q s u
up_to_by P Q f s u (inl e) = inl e
up_to_by P Q f s u (inr p) = inr (p.0, p.1, f s p.0 p.1 u p.2)

pub cut_by : {A T E : Type 0} (r : Result T E) (lost : Type 0) (P Q : WorldState A → ℕ → Data → WorldState A → Type 0) (x y : Option (WorldState A)) → ((s : WorldState A) (n : ℕ) (d : Data) (t : WorldState A) → P s n d t → Q s n d t) →
    OnErr r (MayFallSilent lost (UpTo P) x y) → OnErr r (MayFallSilent lost (UpTo Q) x y)
cut_by r lost P Q x y f = on_err_weaker r (goes_weaker lost (UpTo P) (UpTo Q) (λ s u h. up_to_by P Q f s u h) x y)

behind_by : {A : Type 0} (P Q : WorldState A → ℕ → Data → WorldState A → Type 0) (s m u : WorldState A) → m ≡ s → ((n : ℕ) (d : Data) (t : WorldState A) → P m n d t → Q s n d t) → UpTo P m u → UpTo Q s u
behind_by P Q s m u e f (inl q) = inl (q ∙ e)
behind_by P Q s m u e f (inr p) = inr (p.0, p.1, f p.0 p.1 u p.2)

-- behind a call that leaves the state, and by what that found
pub cut_behind : {A T E : Type 0} (r : Result T E) (H : WorldState A → WorldState A → Type 0) (P Q : WorldState A → ℕ → Data → WorldState A → Type 0) (k l m : Marks) (x y z : Option (WorldState A)) → IsLater k l → IsLater l m →
    ((s n : WorldState A) → H s n → n ≡ s) → ((s n : WorldState A) → H s n → (i : ℕ) (d : Data) (t : WorldState A) → P n i d t → Q s i d t) →
    MayFallSilent (SilenceCause k l) H x y → OnErr r (MayFallSilent (SilenceCause l m) (UpTo P) y z) → OnErr r (MayFallSilent (SilenceCause k m) (UpTo Q) x z)
cut_behind r H P Q k l m x y z before later still f h =
    on_err_weaker r (goes_two H (UpTo P) (UpTo Q) (λ s n u i c. behind_by P Q s n u (still s n i) (f s n i) c) k l m before later x y z h)

-- ---- variables one by one

abbrev pub CutSet : {A : Type 0} → List Source → List Data → WorldState A → WorldState A → Type 0
CutSet ks ys = UpTo (λ s n x t. UpdatesContext (take n ks) (take n ys) s x t)

set_next : {A : Type 0} (n : ℕ) (ks : List Source) (v : Value) (d : Data) (ys : List Data) (s m u : WorldState A) → view v ≡ d → IsChanged (change.Context n v) true s m → CutSet ks ys m u → CutSet (source.Context n ∷ ks) (d ∷ ys) s u
set_next n ks v d ys s m u c h (inl e) = inr (1, boolean true, (true, m, (v, c, h), (refl, e)))
set_next n ks v d ys s m u c h (inr p) = inr (suc p.0, p.1, (true, m, (v, c, h), p.2))

module _ {A : Type 0} (k l m : Marks) (x y z : Option (WorldState A)) (W : WorldState A → WorldState A → Type 0) (n : ℕ) (ks names : List Source) (d v : Value) (ds vs : List Value) (done : Bool) (before : IsLater k l) (later : IsLater l m) where
  pub set_goes_on : names ≡ source.Context n ∷ ks → vs ≡ d ∷ ds → v ≡ d → done ≡ true → MayFallSilent (SilenceCause k l) (Carries (CutSet names (map view vs)) W) x y → MayFallSilent (SilenceCause l m) (IsChanged (change.Context n v) done) y z →
      MayFallSilent (SilenceCause k m) (Carries (CutSet ks (map view ds)) W) x z
  set_goes_on p q c f =
      goes_two (Carries (CutSet names (map view vs)) W) (IsChanged (change.Context n v) done) (Carries (CutSet ks (map view ds)) W)
      (λ s i j h b u r. h u (subst (λ ns. CutSet ns (map view vs) i u) (sym p) (subst (λ ws. CutSet (source.Context n ∷ ks) (map view ws) i u) (sym q)
      (set_next n ks v (view d) (map view ds) i j u (ap view c) (subst (λ o. IsChanged (change.Context n v) o i j) f b) r)))) k l m before later x y z

-- a change that was refused has left the state
pub refused_stays : {A : Type 0} (lost : Type 0) (c : Change) (done : Bool) (x y : Option (WorldState A)) → done ≡ false → MayFallSilent lost (IsChanged c done) x y → MayFallSilent lost Stays x y
refused_stays lost c done x y f = goes_weaker lost (IsChanged c done) Stays (λ s t h. (subst (λ o. IsChanged c o s t) f h).1) x y

-- it was cut off where what is left hasn't begun
pub cut_where : {A : Type 0} (lost : Type 0) (x y : Option (WorldState A)) (R W : WorldState A → WorldState A → Type 0) → ((s : WorldState A) → R s s) → MayFallSilent lost (Carries R W) x y → MayFallSilent lost W x y
cut_where lost x y R W f = goes_weaker lost (Carries R W) W (λ s u c. c u (f u)) x y

-- ---- rows of a collection one by one

abbrev pub CutTaken : {A : Type 0} → ColumnList → ℕ → List Data → WorldState A → WorldState A → Type 0
CutTaken cs k ys = UpTo (λ s n x t. AreTaken cs k (take n ys) s x t)

taken_next : {A : Type 0} (cs : ColumnList) (k : ℕ) (y : Data) (ys : List Data) (r : Row) (s m u : WorldState A) → r ≡ record_row cs y → IsTakenFrom k r None s m → CutTaken cs k ys m u → CutTaken cs k (y ∷ ys) s u
taken_next cs k y ys r s m u q t (inl e) =
    inr (1, boolean true, inl (t.0, t.1, true, m, subst (λ z. IsFirstRow z (rows_held k s) t.0 t.1) q t.2, t.3, (refl, e)))
taken_next cs k y ys r s m u q t (inr p) =
    inr (suc p.0, p.1, inl (t.0, t.1, true, m, subst (λ z. IsFirstRow z (rows_held k s) t.0 t.1) q t.2, t.3, p.2))

module _ {A : Type 0} (k l m : Marks) (x y z : Option (WorldState A)) (W : WorldState A → WorldState A → Type 0) (cs : ColumnList) (n : ℕ) (v : Value) (vs rest : List Value) (r : Row) (before : IsLater k l) (later : IsLater l m) (first : rest ≡ v ∷ vs)
    (named : r ≡ record_row cs (view v)) where
  pub taken_goes : (o : Option Value) → ((e : Value) → o ≡ Some e → ⊥) → MayFallSilent (SilenceCause k l) (Carries (CutTaken cs n (map view rest)) W) x y → MayFallSilent (SilenceCause l m) (IsTakenFrom n r o) y z →
      MayFallSilent (SilenceCause k m) (Carries (CutTaken cs n (map view vs)) W) x z
  taken_goes (Some e) none c p = absurd (none e refl)
  taken_goes None none c p =
      goes_two (Carries (CutTaken cs n (map view rest)) W) (IsTakenFrom n r None) (Carries (CutTaken cs n (map view vs)) W)
      (λ s i j h t u q. h u (subst (λ (ws : List Value). CutTaken cs n (map view ws) i u) (sym first) (taken_next cs n (view v) (map view vs) r i j u named t q))) k l m before later x y z c p
