-- What is done, as deeds.
use Rattle.std.proofs.Common.{◌≡◌, ℕ, ◌≤◌, length, List, [], false, Option, Some, None, refl, ap, sym, subst, ◌∙◌}
use Rattle.std.specs.Prelude.{MatchOption, option_map, slice_get}
use Rattle.std.specs.List.{find}
use Rattle.std.proofs.lemmas.Option.{slice_get_past}
use Rattle.fx_base.specs.Silence.{MayFallSilent}
use Rattle.fx_types.specs.declared.faults.Fault.{Fault}
use Rattle.fx_types.specs.declared.values.Value.{Value}
use Rattle.fx_types.specs.declared.values.Value.TheVariants as value
use Rattle.fx_types.specs.Types.{ColumnList, tables}
use Rattle.fx_types.specs.Values.{Data}
use Rattle.fx_types.specs.ValueView.{view}
use Rattle.fx_env.specs.Scopes.{Fixed}
use Rattle.fx_tables.specs.Unions.{is_fault}
use Rattle.fx_core.specs.declared.names.Collection.{Collection}
use Rattle.fx_core.specs.declared.names.Names.{Names}
use Rattle.fx_core.specs.declared.schema.Schema.{Schema}
use Rattle.fx_core.specs.declared.schema.TableShape.{TableShape}
use Rattle.fx_core.specs.declared.sources.Source.{Source}
use Rattle.fx_core.specs.declared.sources.Source.TheVariants as source
use Rattle.fx_core.specs.SourceTypes.{columns_of, sources, table_type}
use Rattle.fx_types.specs.TypeView.{shape}
use Rattle.fx_deeds.specs.Deeds.{AnswersOnly, OrErrorAmong, text_or_none}
use Rattle.fx_deeds.specs.Fitting.{IsOfColumns, SourceTypes}
use Rattle.fx_deeds.specs.State.{WorldState}

-- ---- errors among values

pub no_error : (o : Option Value) (w : Option Data) → option_map view o ≡ w → ((e : Value) → o ≡ Some e → ⊥) → w ≡ None
no_error None w h n = sym h
no_error (Some e) w h n = absurd (n e refl)

pub is_error : (o : Option Value) (w : Option Data) (e : Value) → option_map view o ≡ w → o ≡ Some e → w ≡ Some (view e)
is_error o w e h is = sym h ∙ ap (option_map view) is

pub by_none : {A : Type 0} (ys : List Data) (P : Type 0) (s : WorldState A) (x : Data) (t : WorldState A) → find is_fault ys ≡ None → P → OrErrorAmong ys P s x t
by_none ys P s x t e h = subst (λ o. MatchOption o P (λ f. AnswersOnly f s x t)) (sym e) h

pub by_error : {A : Type 0} (ys : List Data) (P : Type 0) (s : WorldState A) (x : Data) → find is_fault ys ≡ Some x → OrErrorAmong ys P s x s
by_error ys P s x e = subst (λ o. MatchOption o P (λ f. AnswersOnly f s x s)) (sym e) (refl, refl)

-- where nothing was done
pub goes_nowhere : {A : Type 0} (lost : Type 0) (P : WorldState A → WorldState A → Type 0) (x : Option (WorldState A)) → ((s : WorldState A) → P s s) → MayFallSilent lost P x x
goes_nowhere lost P None f = refl
goes_nowhere lost P (Some s) f = f s

-- ---- what a call does is what a deed does

-- ---- names

-- a collection that has columns is named
none_mapped : {X Y : Type 0} (g : X → Y) (o : Option X) (y : Y) → option_map g o ≡ Some y → o ≡ None → ⊥
none_mapped g None y e n = cc
none_mapped g (Some x) y e n = cc

pub is_named : (types : SourceTypes) (n : Names) (k : ℕ) → ((x : Source) → types x ≡ sources n x) → (cs : ColumnList) → IsOfColumns types k cs → slice_get n.collections k ≡ None → ⊥
is_named types n k typed cs h e = none_mapped (λ (z : Collection). shape z.ty) (slice_get n.collections k) (tables cs) (sym (typed (source.Gathered k)) ∙ h) e

pub not_beyond : (types : SourceTypes) (n : Names) (k : ℕ) → ((x : Source) → types x ≡ sources n x) → (cs : ColumnList) → IsOfColumns types k cs → length n.collections ≤ k → ⊥
not_beyond types n k typed cs h e = is_named types n k typed cs h (slice_get_past n.collections k e)

some_mapped : {X Y : Type 0} (g : X → Y) (o : Option X) (y : Y) → option_map g o ≡ Some y → (x : X) × (o ≡ Some x) × (g x ≡ y)
some_mapped g None y e = absurd cc
some_mapped g (Some x) y e = (x, refl, cc)

-- a table that has a type is one of the schema, and has that type
pub table_named : (f : Fixed) (n : Names) (k : ℕ) (cs : ColumnList) → ((x : Source) → f.types x ≡ sources n x) → f.schema ≡ n.schema → f.types (source.Table k) ≡ Some (tables cs) →
    (p : TableShape) × (slice_get f.schema.tables k ≡ Some p) × (tables (columns_of p) ≡ tables cs)
table_named f n k cs typed shaped h =
    some_mapped (λ (t : TableShape). tables (columns_of t)) (slice_get f.schema.tables k) (tables cs) (ap (λ (s : Schema). table_type s k) shaped ∙ sym (typed (source.Table k)) ∙ h)

-- ---- texts

-- what is no text and no error has no words
pub no_text : (v : Value) → ((w : List ℕ) → v ≡ value.Text w → ⊥) → ((f : Fault) → v ≡ value.Fault f → ⊥) → (w : List ℕ) → w ≡ [] → (w ≡ text_or_none (view v)) × (is_fault (view v) ≡ false)
no_text value.Blank n m w e = (e, refl)
no_text (value.Number z) n m w e = (e, refl)
no_text (value.Text cs) n m w e = absurd (n cs refl)
no_text (value.Boolean b) n m w e = (e, refl)
no_text (value.Date d) n m w e = (e, refl)
no_text (value.Rec r) n m w e = (e, refl)
no_text (value.Tab r) n m w e = (e, refl)
no_text (value.Fault f) n m w e = absurd (m f refl)
