-- What is left of deeds on tables that were cut off.
use Rattle.std.proofs.Common.{◌≡◌, ℕ, List, ◌∷◌, map, Option, None, Result, Ok, refl, sym, subst, inr}
use Rattle.std.specs.Prelude.{MatchResult, OnErr}
use Rattle.std.specs.List.{find}
use Rattle.fx_types.specs.declared.values.Value.{Value}
use Rattle.fx_types.specs.declared.values.Value.TheVariants as value
use Rattle.fx_types.specs.ValueView.{view}
use Rattle.fx_types.specs.Values.{Data, blank}
use Rattle.fx_value.specs.Columns.{Row}
use Rattle.fx_tables.specs.Unions.{is_fault}
use Rattle.fx_core.specs.declared.deeds.Deed.{Deed}
use Rattle.fx_core.specs.declared.schema.Column.{Column}
use Rattle.fx_core.specs.declared.schema.Schema.{Schema}
use Rattle.fx_core.specs.declared.schema.TableShape.{TableShape}
use Rattle.row_keeper.specs.declared.rows.Put.{Put}
use Rattle.fx_base.proofs.Silences.{goes_weaker}
use Rattle.fx_base.specs.Silence.{MayFallSilent}
use Rattle.fx_deeds.proofs.CutOff.{cut_by}
use Rattle.fx_deeds.proofs.Deeding.{by_none}
use Rattle.fx_deeds.proofs.Patching.{by_number, patched_row}
use Rattle.fx_deeds.proofs.Tabling.{to_table}
use Rattle.fx_deeds.specs.Changed.{IsRowMade}
use Rattle.fx_deeds.specs.CutOff.{CutDeed, UpTo}
use Rattle.fx_deeds.specs.Deeds.{AnswersOnly, IsPatched, MakesRow, OrErrorAmong, PatchesBase, PatchesById, PatchesRow, row_id_value, named_id}
use Rattle.fx_deeds.specs.Finding.{IsRowPatched, IsShape}
use Rattle.fx_deeds.specs.RowValues.{blank_cells, changed_cells, put_answer, rows_among, values_among}
use Rattle.fx_deeds.specs.State.{EvalFrame, WorldState}

-- ---- rows that are made and changed

-- a row was made, but not answered
pub cut_row : {A : Type 0} (lost : Type 0) (p : TableShape) (columns : List Column) (k : ℕ) (cells : List Data) (put : Put) (x y : Option (WorldState A)) → columns ≡ p.columns → MayFallSilent lost (IsRowMade columns k cells put) x y →
    MayFallSilent lost (UpTo (λ s n d t. MakesRow p k cells s d t)) x y
cut_row lost p columns k cells put x y c =
    goes_weaker lost (IsRowMade columns k cells put) (UpTo (λ s n d t. MakesRow p k cells s d t)) (λ s t j. inr (0, put_answer p cells put, (put, subst (λ z. IsRowMade z k cells put s t) c j, refl))) x y

-- other cells were put into a row, but that was not answered
pub cut_put : {A : Type 0} (lost : Type 0) (p : TableShape) (k id : ℕ) (changes : List Row) (cells : List Data) (put : Put) (x y : Option (WorldState A)) → MayFallSilent lost (IsRowPatched p k changes id cells put) x y →
    MayFallSilent lost (UpTo (λ s n d t. PatchesRow p k changes id s d t)) x y
cut_put lost p k id changes cells put x y =
    goes_weaker lost (IsRowPatched p k changes id cells put) (UpTo (λ s n d t. PatchesRow p k changes id s d t))
    (λ s t j. inr (0, put_answer p cells put, patched_row p k changes id cells put s t (put_answer p cells put) refl j)) x y

-- where the number is blank, a row was to be made
pub cut_new : {A T E : Type 0} (r : Result T E) (lost : Type 0) (x y : Option (WorldState A)) (p : TableShape) (k : ℕ) (changes : List Row) (d : Data) → d ≡ blank →
    OnErr r (MayFallSilent lost (UpTo (λ s n e t. MakesRow p k (changed_cells p.columns changes (blank_cells p.columns)) s e t)) x y) → OnErr r (MayFallSilent lost (UpTo (λ s n e t. PatchesById p k changes d s e t)) x y)
cut_new r lost x y p k changes d b =
    cut_by r lost (λ s n e t. MakesRow p k (changed_cells p.columns changes (blank_cells p.columns)) s e t) (λ s n e t. PatchesById p k changes d s e t) x y (λ s n e t j. subst (λ z. PatchesById p k changes z s e t) (sym b) j)

-- and else the row of the number was to be changed
pub cut_numbered : {A T E : Type 0} (r : Result T E) (lost : Type 0) (x y : Option (WorldState A)) (p : TableShape) (k id : ℕ) (changes : List Row) (d : Data) → (d ≡ blank → ⊥) → named_id d ≡ Ok id →
    OnErr r (MayFallSilent lost (UpTo (λ s n e t. PatchesRow p k changes id s e t)) x y) → OnErr r (MayFallSilent lost (UpTo (λ s n e t. PatchesById p k changes d s e t)) x y)
cut_numbered r lost x y p k id changes d b g =
    cut_by r lost (λ s n e t. PatchesRow p k changes id s e t) (λ s n e t. PatchesById p k changes d s e t) x y
    (λ s n e t j. by_number p k changes d s e t b (subst (λ o. MatchResult o (λ m. PatchesRow p k changes m s e t) (λ q. AnswersOnly q s e t)) (sym g) j))

-- a base that is a record
pub cut_base : {A T E : Type 0} (r : Result T E) (lost : Type 0) (x y : Option (WorldState A)) (p : TableShape) (k : ℕ) (changes : List Row) (b : Value) (fs : Row) → b ≡ value.Rec fs →
    OnErr r (MayFallSilent lost (UpTo (λ s n e t. PatchesById p k changes (row_id_value (view b)) s e t)) x y) → OnErr r (MayFallSilent lost (UpTo (λ s n e t. PatchesBase p k changes (view b) s e t)) x y)
cut_base r lost x y p k changes b fs e =
    cut_by r lost (λ s n d t. PatchesById p k changes (row_id_value (view b)) s d t) (λ s n d t. PatchesBase p k changes (view b) s d t) x y
    (λ s n d t j. subst (λ z. PatchesById p k changes (row_id_value (view z)) s d t → PatchesBase p k changes (view z) s d t) (sym e) (λ h. h) j)

-- without errors among the values
pub cut_among : {A T E : Type 0} (r : Result T E) (lost : Type 0) (x y : Option (WorldState A)) (ys : List Data) (P : WorldState A → ℕ → Data → WorldState A → Type 0) → find is_fault ys ≡ None →
    OnErr r (MayFallSilent lost (UpTo P) x y) → OnErr r (MayFallSilent lost (UpTo (λ s n d t. OrErrorAmong ys (P s n d t) s d t)) x y)
cut_among r lost x y ys P none = cut_by r lost P (λ s n d t. OrErrorAmong ys (P s n d t) s d t) x y (λ s n d t j. by_none ys (P s n d t) s d t none j)

-- without errors in its number and its changes the base was to be patched
pub cut_patched : {A T E : Type 0} (r : Result T E) (lost : Type 0) (x y : Option (WorldState A)) (schema : Schema) (k : ℕ) (p : TableShape) (b : Data) (ys : List Data) (rows : List Row) → IsShape schema k p → rows ≡ rows_among ys →
    find is_fault (row_id_value b ∷ values_among (rows_among ys)) ≡ None → OnErr r (MayFallSilent lost (UpTo (λ s n d t. PatchesBase p k rows b s d t)) x y) → OnErr r (MayFallSilent lost (UpTo (λ s n d t. IsPatched schema k b ys s d t)) x y)
cut_patched r lost x y schema k p b ys rows shape e none =
    cut_by r lost (λ s n d t. PatchesBase p k rows b s d t) (λ s n d t. IsPatched schema k b ys s d t) x y
    (λ s n d t j. by_none (row_id_value b ∷ values_among (rows_among ys)) _ s d t none (to_table schema k p (λ q. PatchesBase q k (rows_among ys) b s d t) shape (subst (λ z. PatchesBase p k z b s d t) e j)))

-- ---- a deed by what it is

-- what it was cut off from was the deed
pub cut_as : {A T E : Type 0} (r : Result T E) (lost : Type 0) (y z : Option (WorldState A)) (f : EvalFrame) (d e : Deed) (vs ws : List Value) → d ≡ e → vs ≡ ws →
    OnErr r (MayFallSilent lost (CutDeed f e (map view ws)) y z) → OnErr r (MayFallSilent lost (CutDeed f d (map view vs)) y z)
cut_as r lost y z f d e vs ws p q h =
    subst (λ u. OnErr r (MayFallSilent lost (CutDeed f u (map view vs)) y z)) (sym p) (subst (λ us. OnErr r (MayFallSilent lost (CutDeed f e (map view us)) y z)) (sym q) h)
