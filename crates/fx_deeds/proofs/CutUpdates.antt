-- Rows that are changed, and rows of a filter, up to where that was cut off.
use Rattle.std.proofs.Common.{◌≡◌, ◌∙◌, ℕ, suc, refl, ap, sym, subst, List, [], ◌∷◌, true, false, map, Option, Some, None, Result, Ok, inl, inr}
use Rattle.std.specs.Prelude.{MatchResult, OnErr, take}
use Rattle.std.specs.List.{find}
use Rattle.fx_types.specs.declared.values.Value.{Value}
use Rattle.fx_types.specs.declared.values.Value.TheVariants.{Tab}
use Rattle.fx_types.specs.ValueView.{view}
use Rattle.fx_types.specs.Values.{Data, boolean}
use Rattle.fx_semantics.specs.Around.{record_of}
use Rattle.fx_semantics.specs.Rows.{rows_in}
use Rattle.fx_value.specs.Columns.{Row}
use Rattle.fx_tables.specs.Unions.{is_fault}
use Rattle.fx_core.specs.declared.deeds.Target.{Target}
use Rattle.fx_core.specs.declared.deeds.Target.TheVariants as target
use Rattle.fx_core.specs.declared.schema.Schema.{Schema}
use Rattle.fx_core.specs.declared.schema.TableShape.{TableShape}
use Rattle.fx_core.specs.declared.sources.Source.TheVariants as source
use Rattle.row_keeper.specs.declared.rows.Put.{Put}
use Rattle.row_keeper.specs.declared.rows.Put.TheVariants.{Id, NoRow, Refused}
use Rattle.session_state.specs.declared.change.Change.TheVariants as change
use Rattle.fx_base.proofs.Silences.{goes_two, goes_weaker}
use Rattle.fx_base.specs.Silence.{MayFallSilent, IsLater, SilenceCause, Marks}
use Rattle.fx_base.specs.Telling.{Stays}
use Rattle.fx_deeds.proofs.CutOff.{Carries, CutRemoved, cut_behind, cut_by, take_records}
use Rattle.fx_deeds.proofs.Deeding.{by_none}
use Rattle.fx_deeds.proofs.Gathering.{HeldRows}
use Rattle.fx_deeds.proofs.Holding.{no_fault}
use Rattle.fx_deeds.proofs.Patching.{goes_on, stops_there}
use Rattle.fx_deeds.proofs.Tabling.{to_table}
use Rattle.fx_deeds.specs.Collections.{AreUpdatedIn, rows_held}
use Rattle.fx_deeds.specs.CutOff.{CutUpdate, IsUpdateBegun, UpTo}
use Rattle.fx_deeds.specs.Deeds.{AnswersOnly, AreRemoved, AreUpdated, Makes, OfTable, OrError, Updates, row_id_value, named_id}
use Rattle.fx_deeds.specs.Done.{errors_in}
use Rattle.fx_deeds.specs.Finding.{IsRowPatched, IsShape, IsUpdatedRow}
use Rattle.fx_deeds.specs.RowValues.{columns_of_rows, not_found, rule_error}
use Rattle.fx_deeds.specs.State.{EvalFrame, WorldState}

-- calls that leave the state
pub stays_on : {A : Type 0} (k l m : Marks) (x y z : Option (WorldState A)) → IsLater k l → IsLater l m → MayFallSilent (SilenceCause k l) Stays x y → MayFallSilent (SilenceCause l m) Stays y z → MayFallSilent (SilenceCause k m) Stays x z
stays_on k l m x y z before later = goes_two Stays Stays Stays (λ s n u e f. f ∙ e) k l m before later x y z

-- ---- rows of tables that are changed one by one

-- rows that were changed, up to where it was cut off
abbrev pub CutUpdated : {A : Type 0} → TableShape → ℕ → List Row → List Data → WorldState A → WorldState A → Type 0
CutUpdated p k rs cs = UpTo (λ s n x t. AreUpdated p k (take n rs) cs s x t)

-- one row alone
abbrev pub CutRow : {A : Type 0} → TableShape → ℕ → Row → Data → WorldState A → WorldState A → Type 0
CutRow p k r c = UpTo (λ s n x t. AreUpdated p k (r ∷ []) (c ∷ []) s x t)

-- a row that is numbered
named_row : {A : Type 0} (p : TableShape) (k id : ℕ) (r : Row) (rs : List Row) (c : Data) (cs : List Data) (s u : WorldState A) (x : Data) → named_id (row_id_value (record_of r)) ≡ Ok id → Updates p k (rows_in c) id s (λ m. AreUpdated p k rs cs m x u) x u →
    AreUpdated p k (r ∷ rs) (c ∷ cs) s x u
named_row p k id r rs c cs s u x e h =
    subst (λ o. MatchResult o (λ i. Updates p k (rows_in c) i s (λ m. AreUpdated p k rs cs m x u) x u) (λ f. AnswersOnly f s x u)) (sym e) h

-- the row was put, but that wasn't answered
put_row : {A : Type 0} (p : TableShape) (k id : ℕ) (r : Row) (c : Data) (cells : List Data) (put : Put) (s t : WorldState A) → named_id (row_id_value (record_of r)) ≡ Ok id → IsRowPatched p k (rows_in c) id cells put s t → CutRow p k r c s t
put_row p k id r c cells (Id n) s t e h =
    inr (1, boolean true, named_row p k id r [] c [] s t (boolean true) e (goes_on p k (rows_in c) id n cells s t (λ m. AreUpdated p k [] [] m (boolean true) t) (boolean true) t h (refl, refl)))
put_row p k id r c cells NoRow s t e h =
    inr (1, not_found, named_row p k id r [] c [] s t not_found e (stops_there p k (rows_in c) id cells NoRow s (λ m. AreUpdated p k [] [] m not_found t) not_found t h refl))
put_row p k id r c cells (Refused w) s t e h =
    let x = rule_error p.columns w in
    inr (1, x, named_row p k id r [] c [] s t x e (stops_there p k (rows_in c) id cells (Refused w) s (λ m. AreUpdated p k [] [] m x t) x t h refl))

pub cut_put : {A : Type 0} (lost : Type 0) (x y : Option (WorldState A)) (p : TableShape) (k id : ℕ) (r : Row) (c : Data) (rows : List Row) (cells : List Data) (put : Put) → named_id (row_id_value (record_of r)) ≡ Ok id → rows ≡ rows_in c →
    MayFallSilent lost (IsRowPatched p k rows id cells put) x y → MayFallSilent lost (CutRow p k r c) x y
cut_put lost x y p k id r c rows cells put named e =
    goes_weaker lost (IsRowPatched p k rows id cells put) (CutRow p k r c) (λ s t h. put_row p k id r c cells put s t named (subst (λ z. IsRowPatched p k z id cells put s t) e h)) x y

-- what is cut off of the first row alone is cut off of all
row_first : {A : Type 0} (p : TableShape) (k : ℕ) (r : Row) (rs : List Row) (c : Data) (cs : List Data) (s u : WorldState A) → CutRow p k r c s u → CutUpdated p k (r ∷ rs) (c ∷ cs) s u
row_first p k r rs c cs s u (inl e) = inl e
row_first p k r rs c cs s u (inr h) = inr (1, h.1, h.2)

-- the rows behind a row that was changed
updated_behind : {A : Type 0} (p : TableShape) (k : ℕ) (r : Row) (rs : List Row) (c : Data) (cs : List Data) (s m u : WorldState A) (n : ℕ) (x : Data) → IsUpdatedRow p k r c None s m → AreUpdated p k (take n rs) cs m x u →
    AreUpdated p k (take (suc n) (r ∷ rs)) (c ∷ cs) s x u
updated_behind p k r rs c cs s m u n x h q =
    named_row p k h.0 r (take n rs) c cs s u x h.3 (goes_on p k (rows_in c) h.0 h.1 h.2 s m (λ w. AreUpdated p k (take n rs) cs w x u) x u h.4 q)

updated_next : {A : Type 0} (p : TableShape) (k : ℕ) (r : Row) (rs : List Row) (c : Data) (cs : List Data) (s m u : WorldState A) → IsUpdatedRow p k r c None s m → CutUpdated p k rs cs m u → CutUpdated p k (r ∷ rs) (c ∷ cs) s u
updated_next p k r rs c cs s m u h (inl e) = inr (1, boolean true, updated_behind p k r rs c cs s m u 0 (boolean true) h (refl, e))
updated_next p k r rs c cs s m u h (inr q) = inr (suc q.0, q.1, updated_behind p k r rs c cs s m u q.0 q.1 h q.2)

module _ {A : Type 0} (k l m : Marks) (x y z : Option (WorldState A)) (W : WorldState A → WorldState A → Type 0) (p : TableShape) (n : ℕ) (r : Row) (rs rest : List Row) (v : Value) (vs left : List Value) (before : IsLater k l) (later : IsLater l m)
    (first : rest ≡ r ∷ rs) (next : left ≡ v ∷ vs) where
  left_first : (s u : WorldState A) → CutUpdated p n (r ∷ rs) (map view (v ∷ vs)) s u → CutUpdated p n rest (map view left) s u
  left_first s u c = subst (λ zs. CutUpdated p n zs (map view left) s u) (sym first) (subst (λ (ws : List Value). CutUpdated p n (r ∷ rs) (map view ws) s u) (sym next) c)

  pub updated_goes : (o : Option Value) → ((e : Value) → o ≡ Some e → ⊥) → MayFallSilent (SilenceCause k l) (Carries (CutUpdated p n rest (map view left)) W) x y → MayFallSilent (SilenceCause l m) (IsUpdatedRow p n r (view v) o) y z →
      MayFallSilent (SilenceCause k m) (Carries (CutUpdated p n rs (map view vs)) W) x z
  updated_goes (Some e) none c h = absurd (none e refl)
  updated_goes None none c h =
      goes_two (Carries (CutUpdated p n rest (map view left)) W) (IsUpdatedRow p n r (view v) None) (Carries (CutUpdated p n rs (map view vs)) W)
      (λ s i j f t u q. f u (left_first i u (updated_next p n r rs (view v) (map view vs) i j u t q))) k l m before later x y z c h

  -- it was cut off in this row
  pub updated_cut : MayFallSilent (SilenceCause k l) (Carries (CutUpdated p n rest (map view left)) W) x y → MayFallSilent (SilenceCause l m) (CutRow p n r (view v)) y z → MayFallSilent (SilenceCause k m) W x z
  updated_cut c h =
      goes_two (Carries (CutUpdated p n rest (map view left)) W) (CutRow p n r (view v)) W (λ s i j f t. f j (left_first i j (row_first p n r rs (view v) (map view vs) i j t))) k l m before later x y z c h

-- ---- a change of rows that were read

pub held_cut : {A T E : Type 0} (r : Result T E) (k l m : Marks) (x y z : Option (WorldState A)) (n : ℕ) (rows made : List Row) (taken : Data) (R : WorldState A → Data → WorldState A → Type 0) → IsLater k l → IsLater l m →
    ((s : WorldState A) (d : Data) (t : WorldState A) → rows ≡ rows_held n s → Makes (change.Gather n (Tab made)) taken s d t → R s d t) →
    MayFallSilent (SilenceCause k l) (HeldRows n rows) x y → OnErr r (MayFallSilent (SilenceCause l m) (UpTo (λ s i d t. Makes (change.Gather n (Tab made)) taken s d t)) y z) → OnErr r (MayFallSilent (SilenceCause k m) (UpTo (λ s i d t. R s d t)) x z)
held_cut r k l m x y z n rows made taken R before later f =
    cut_behind r (HeldRows n rows) (λ s i d t. Makes (change.Gather n (Tab made)) taken s d t) (λ s i d t. R s d t) k l m x y z before later (λ s u h. h.0)
    (λ s u h i d t q. f s d t h.1 (subst (λ w. Makes (change.Gather n (Tab made)) taken w d t) h.0 q))

-- rows of a filter that are taken out of a table
pub cut_removed_if : {A T E : Type 0} (r : Result T E) (lost : Type 0) (x y : Option (WorldState A)) (k : ℕ) (d : Data) (rows : List Row) (vs : List Value) → is_fault d ≡ false → rows ≡ rows_in d → map view vs ≡ map record_of rows →
    OnErr r (MayFallSilent lost (CutRemoved k (map view vs)) x y) → OnErr r (MayFallSilent lost (UpTo (λ s n e t. OrError d (AreRemoved k (map record_of (take n (rows_in d))) s e t) s e t)) x y)
cut_removed_if r lost x y k d rows vs sound e h =
    let same : map view vs ≡ map record_of (rows_in d) = h ∙ ap (map record_of) e in
    cut_by r lost (λ s n e t. AreRemoved k (take n (map view vs)) s e t) (λ s n e t. OrError d (AreRemoved k (map record_of (take n (rows_in d))) s e t) s e t) x y
    (λ s n e t q. no_fault d _ s e t sound (subst (λ zs. AreRemoved k zs s e t) (ap (take n) same ∙ sym (take_records n (rows_in d))) q))

-- ---- `UpdateIf`, whole

pub cut_of_table : {A T E : Type 0} (r : Result T E) (lost : Type 0) (x y : Option (WorldState A)) (schema : Schema) (k : ℕ) (p : TableShape) (rows : List Row) (cs : List Data) → IsShape schema k p → OnErr r (MayFallSilent lost (CutUpdated p k rows cs) x y) →
    OnErr r (MayFallSilent lost (UpTo (λ s n e t. OfTable schema k (λ q. AreUpdated q k (take n rows) cs s e t))) x y)
cut_of_table r lost x y schema k p rows cs shape =
    cut_by r lost (λ s n e t. AreUpdated p k (take n rows) cs s e t) (λ s n e t. OfTable schema k (λ q. AreUpdated q k (take n rows) cs s e t)) x y
    (λ s n e t h. to_table schema k p (λ q. AreUpdated q k (take n rows) cs s e t) shape h)

pub cut_update : {A T E : Type 0} (r : Result T E) (lost : Type 0) (x y : Option (WorldState A)) (f : EvalFrame) (t : Target) (k : ℕ) (rows : List Row) (cs : List Data) → t ≡ target.Table k → find is_fault (errors_in cs) ≡ None →
    OnErr r (MayFallSilent lost (UpTo (λ s n e u. OfTable f.schema k (λ p. AreUpdated p k (take n rows) cs s e u))) x y) → OnErr r (MayFallSilent lost (CutUpdate f t rows cs) x y)
cut_update r lost x y f t k rows cs is none h =
    subst (λ (z : Target). OnErr r (MayFallSilent lost (CutUpdate f z rows cs) x y)) (sym is)
    (cut_by r lost (λ s n e u. OfTable f.schema k (λ p. AreUpdated p k (take n rows) cs s e u)) (IsUpdateBegun f (target.Table k) rows cs) x y (λ s n e u q. by_none (errors_in cs) _ s e u none q) h)

pub cut_update_in : {A T E : Type 0} (r : Result T E) (lost : Type 0) (x y : Option (WorldState A)) (f : EvalFrame) (t : Target) (k : ℕ) (rows : List Row) (cs : List Data) → t ≡ target.Gathered k → find is_fault (errors_in cs) ≡ None →
    OnErr r (MayFallSilent lost (UpTo (λ s n e u. AreUpdatedIn (columns_of_rows (f.types (source.Gathered k))) k rows cs s e u)) x y) → OnErr r (MayFallSilent lost (CutUpdate f t rows cs) x y)
cut_update_in r lost x y f t k rows cs is none h =
    subst (λ (z : Target). OnErr r (MayFallSilent lost (CutUpdate f z rows cs) x y)) (sym is)
    (cut_by r lost (λ s n e u. AreUpdatedIn (columns_of_rows (f.types (source.Gathered k))) k rows cs s e u) (IsUpdateBegun f (target.Gathered k) rows cs) x y (λ s n e u q. by_none (errors_in cs) _ s e u none q) h)
