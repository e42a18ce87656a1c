-- What is counted stays right over the calls of a keeper that change rows, as the books carry them out.
use Rattle.std.proofs.Common.{◌≡◌, ℕ, ◌<◌, ◌≤◌, ◌^◌, ℤ, List, [], ◌∷◌, true, Option, Some, None, refl, sym, subst, ◌∙◌}
use Rattle.std.specs.Prelude.{IfSome, IsSome, slice_get}
use Rattle.std.specs.List.{AllByRecursion, find}
use Rattle.fx_base.specs.Silence.{MayFallSilent}
use Rattle.fx_types.specs.Values.{Data}
use Rattle.fx_core.specs.declared.schema.Schema.{Schema}
use Rattle.fx_core.specs.declared.schema.TableShape.{TableShape}
use Rattle.fx_value.specs.Aggregates.{number_if_one}
use Rattle.fx_value.specs.Keys.{IsProper}
use Rattle.row_queries.specs.TableRows.{AreInIdOrder, id_value}
use Rattle.row_queries.specs.declared.rows.Row.{Row}
use Rattle.row_keeper.specs.Changes.{Inserts, Removes, Replaces}
use Rattle.row_keeper.specs.Tables.{AreStatesOf, Tables, columns_at, has_id, shapes_of, state_at}
use Rattle.row_keeper.specs.declared.rows.Put.TheVariants.{Id}
use Rattle.row_counts.specs.Looking.{AreNumbersOf}
use Rattle.row_books.specs.Numbers.{IsChangedAt, by_columns, fresh_in, numbers_of}
use Rattle.row_books.specs.declared.numbers.Numbers.{Numbers}
use Rattle.row_counts.specs.Right.{AreCounted}
use Rattle.row_totals.proofs.Changing.{counted_inserted, counted_removed, counted_replaced}

abbrev Counted : Type 0
Counted = List (List (List ℤ))

-- cells have no number of a row
pub none_first : (n : Numbers) (cells : List Data) → by_columns n ≡ None ∷ numbers_of cells → n.id ≡ None
none_first n cells e = head n.id None n.cells.items (numbers_of cells) e
  where
    head : (x y : Option ℤ) (xs ys : List (Option ℤ)) → x ∷ xs ≡ y ∷ ys → x ≡ y
    head x y xs ys e = cc

-- the numbers in the cells of a row, behind the row's own
pub later_ones : (n : Numbers) (cells : List Data) → by_columns n ≡ None ∷ numbers_of cells → n.cells.items ≡ numbers_of cells
later_ones n cells e = tail n.id None n.cells.items (numbers_of cells) e
  where
    tail : (x y : Option ℤ) (xs ys : List (Option ℤ)) → x ∷ xs ≡ y ∷ ys → xs ≡ ys
    tail x y xs ys e = cc

-- a table that is there has a shape
there : (s : Schema) (table : ℕ) → IsSome (slice_get s.tables table) → (shape : TableShape) × (slice_get s.tables table ≡ Some shape)
there s table h = go (slice_get s.tables table) refl h
  where
    go : (o : Option TableShape) → slice_get s.tables table ≡ o → IsSome o → (shape : TableShape) × (slice_get s.tables table ≡ Some shape)
    go (Some t) e k = (t, e)
    go None e k = absurd cc

module _ (lost : Type 0) (table : ℕ) (a b : Option Tables) where
  pub inserted_inside : (inner : Option Schema) (id : ℕ) (cells : List Data) (outs rest : List (Option ℤ)) (ids : Option ℤ) (old mid new : Counted)
      → IsSome (slice_get (shapes_of inner) table) → IfSome inner (λ s. IfSome a (λ (t : Tables). AreStatesOf s.tables t.states))
      → MayFallSilent lost (Inserts (columns_at (shapes_of inner) table) table cells (Id id)) a b → 1 ≤ id → id < 2 ^ 32 → AllByRecursion IsProper cells
      → mid ≡ old → outs ≡ None ∷ [] → rest ≡ numbers_of cells → ids ≡ fresh_in mid table id → IsChangedAt table outs (ids ∷ rest) mid new
      → AreCounted inner old a → AreCounted inner new b
  inserted_inside None id cells outs rest ids old mid new h fits g one few proper m o r f changes k = absurd cc
  inserted_inside (Some s) id cells outs rest ids old mid new h fits g one few proper m o r f changes k =
      let t = there s table h in
      counted_inserted lost s table t.0 t.1 a b fits id cells old new g one few proper
      (subst (λ c. IsChangedAt table (None ∷ []) (fresh_in c table id ∷ numbers_of cells) c new) m
      (subst (λ z. IsChangedAt table (None ∷ []) (z ∷ numbers_of cells) mid new) f
      (subst (λ zs. IsChangedAt table (None ∷ []) (ids ∷ zs) mid new) r
      (subst (λ zs. IsChangedAt table zs (ids ∷ rest) mid new) o changes)))) k

  pub replaced_inside : (inner : Option Schema) (id n : ℕ) (cells : List Data) (outs rest : List (Option ℤ)) (found : List (Option ℤ)) (first : Option ℤ) (old mid new : Counted)
      → IsSome (slice_get (shapes_of inner) table) → IfSome inner (λ s. IfSome a (λ (t : Tables). AreStatesOf s.tables t.states))
      → MayFallSilent lost (Replaces (columns_at (shapes_of inner) table) table id cells (Id n)) a b → AllByRecursion IsProper cells
      → AreNumbersOf a table id found → found ≡ first ∷ outs → mid ≡ old → rest ≡ numbers_of cells → IsChangedAt table (None ∷ outs) (None ∷ rest) mid new
      → AreCounted inner old a → AreCounted inner new b
  replaced_inside None id n cells outs rest found first old mid new h fits g proper of is_found m r changes k = absurd cc
  replaced_inside (Some s) id n cells outs rest found first old mid new h fits g proper of is_found m r changes k =
      let t = there s table h in
      counted_replaced lost s table t.0 t.1 a b fits id n cells outs old new g proper (numbers a of)
      (subst (λ c. IsChangedAt table (None ∷ outs) (None ∷ numbers_of cells) c new) m (subst (λ zs. IsChangedAt table (None ∷ outs) (None ∷ zs) mid new) r changes)) k
    where
      tail : (x y : Option ℤ) (xs ys : List (Option ℤ)) → x ∷ xs ≡ y ∷ ys → xs ≡ ys
      tail x y xs ys e = cc

      numbers : (o : Option Tables) → AreNumbersOf o table id found → IfSome o (λ (t : Tables). AreInIdOrder (state_at t.states table).rows → (row : Row) → find (has_id id) (state_at t.states table).rows ≡ Some row → outs ≡ numbers_of row.cells)
      numbers None h = tt
      numbers (Some t) h = λ ordered row e. tail first (number_if_one (id_value row.id)) outs (numbers_of row.cells) (sym is_found ∙ h ordered row e)

  pub removed_inside : (inner : Option Schema) (id : ℕ) (outs puts : List (Option ℤ)) (old mid new : Counted)
      → IsSome (slice_get (shapes_of inner) table) → IfSome inner (λ s. IfSome a (λ (t : Tables). AreStatesOf s.tables t.states))
      → MayFallSilent lost (Removes table id true) a b → AreNumbersOf a table id outs → mid ≡ old → puts ≡ None ∷ [] → IsChangedAt table outs puts mid new
      → AreCounted inner old a → AreCounted inner new b
  removed_inside None id outs puts old mid new h fits g of m p changes k = absurd cc
  removed_inside (Some s) id outs puts old mid new h fits g of m p changes k =
      let t = there s table h in
      counted_removed lost s table t.0 t.1 a b fits id outs old new g of (subst (λ c. IsChangedAt table outs (None ∷ []) c new) m (subst (λ zs. IsChangedAt table outs zs mid new) p changes)) k
