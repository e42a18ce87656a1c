-- Queries of the table that the cases are about.
use Rattle.std.proofs.Common.{◌≡◌, ◌≢◌, ◌⊎◌, inl, ℕ, ◌≤◌, List, [], ◌∷◌, length, refl, sym, ap, ◌∙◌, subst, arith, Bool, true, false, cond, Option, None, Some}
use Rattle.std.specs.Prelude.{IsSomeAnd, slice_get}
use Rattle.fx_types.specs.TypeView.{shape}
use Rattle.fx_types.specs.Types.{numbers}
use Rattle.fx_core.specs.Lawful.{AreDistinct}
use Rattle.fx_core.specs.declared.schema.Column.{Column}
use Rattle.fx_core.specs.declared.schema.Schema.{Schema}
use Rattle.fx_core.specs.declared.schema.TableShape.{TableShape}
use Rattle.fx_types.specs.Values.{Data}
use Rattle.fx_value.specs.Order.{IsScalar}
use Rattle.row_queries.specs.Conditions.{Condition, always, is_blank}
use Rattle.row_queries.specs.RowTests.{CanAsk}
use Rattle.row_queries.specs.TableRows.{AreCellsOf, IsRowOf, id_value, values_of}
use Rattle.row_queries.specs.declared.rows.Row.{Row}
use Rattle.row_queries.specs.Queries.{CanTotal, IsQuery}
use Rattle.row_queries.specs.declared.queries.Query.{Query}
use Rattle.row_queries.specs.declared.ranges.KeyRange.{KeyRange}
use Rattle.row_keeper.specs.MovedTables.{AreMoves, AreSources, IsMove, named}
use Rattle.row_keeper.specs.Tables.{shapes_of}
use Rattle.row_keeper.specs.declared.moves.TableMove.{TableMove}
use Rattle.keeper_cases.specs.Stock.{AreStockColumns, AreStockTables, IsStock, source_of, stock_moves}

-- all rows in a range of quantities, the greatest quantity first
abbrev pub query_from : List KeyRange → Option ℕ → Query
query_from ranges most = record { table = 0; column = 2; ranges = ranges; test = always; order = Some (2, true); take = most }

query_of : (tables : List TableShape) → AreStockTables tables → (r : KeyRange) (ranges : List KeyRange) (most : Option ℕ) → ranges ≡ r ∷ [] → IsQuery tables (query_from ranges most)
query_of [] h r ranges most e = absurd h
query_of (t ∷ u ∷ ts) h r ranges most e = absurd h
query_of (t ∷ []) h r ranges most e = subst (λ (l : List KeyRange). IsQuery (t ∷ []) (query_from l most)) (sym e) (by t.columns refl h)
  where
    by : (cs : List Column) → t.columns ≡ cs → AreStockColumns cs → IsQuery (t ∷ []) (query_from (r ∷ []) most)
    by [] f k = absurd k
    by (n ∷ []) f k = absurd k
    by (n ∷ q ∷ x ∷ cs) f k = absurd k
    by (n ∷ q ∷ []) f k = record {
      table = t;
      is_table = refl;
      has_column = wide;
      has_order = wide;
      reaches = inl (subst (λ (cs : List Column). IsSomeAnd (slice_get cs 1) (λ (c : Column). (c.indexed ≡ true) ⊎ (c.unique ≡ true))) (sym f) (inl k.2));
      rises = (tt, tt);
      asks = λ row fits. tt;
    }
      where
        wide : 2 ≤ length t.columns
        wide = subst (λ (cs : List Column). 2 ≤ length cs) (sym f) (omega arith)

pub is_query : (o : Option Schema) → IsStock o → (r : KeyRange) (ranges : List KeyRange) (most : Option ℕ) → ranges ≡ r ∷ [] → IsQuery (shapes_of o) (query_from ranges most)
is_query None h r ranges most e = absurd h
is_query (Some s) h r ranges most e = query_of s.tables h r ranges most e

-- rows by their numbers, in a range of these
abbrev pub page_from : List KeyRange → Option ℕ → Condition → Query
page_from ranges most test = record { table = 0; column = 0; ranges = ranges; test = test; order = None; take = most }

page_of : (tables : List TableShape) → AreStockTables tables → (r : KeyRange) (ranges : List KeyRange) (most : Option ℕ) (test : Condition)
    → ((t : TableShape) → AreStockColumns t.columns → (row : Row) → IsRowOf t row → CanAsk (values_of row) test) → ranges ≡ r ∷ [] → IsQuery tables (page_from ranges most test)
page_of [] h r ranges most test able e = absurd h
page_of (t ∷ u ∷ ts) h r ranges most test able e = absurd h
page_of (t ∷ []) h r ranges most test able e = subst (λ (l : List KeyRange). IsQuery (t ∷ []) (page_from l most test)) (sym e) (record {
  table = t;
  is_table = refl;
  has_column = omega arith;
  has_order = tt;
  reaches = inl tt;
  rises = (tt, tt);
  asks = able t h;
})

-- a quantity is a scalar, if it isn't blank
quantity_is : (t : TableShape) → AreStockColumns t.columns → (row : Row) → IsRowOf t row → CanAsk (values_of row) (is_blank 2)
quantity_is t h row fits = by t.columns row.cells h fits.1
  where
    by : (cs : List Column) (ds : List Data) → AreStockColumns cs → AreCellsOf cs ds → IsSomeAnd (slice_get (id_value row.id ∷ ds) 2) IsScalar
    by [] ds k f = absurd k
    by (n ∷ []) ds k f = absurd k
    by (n ∷ q ∷ x ∷ cs) ds k f = absurd k
    by (n ∷ q ∷ []) [] k f = absurd f
    by (n ∷ q ∷ []) (d ∷ []) k f = absurd f.2
    by (n ∷ q ∷ []) (d ∷ e ∷ ds) k f = f.2.0

pub is_page : (o : Option Schema) → IsStock o → (r : KeyRange) (ranges : List KeyRange) (most : Option ℕ) (b : Bool) → ranges ≡ r ∷ [] → IsQuery (shapes_of o) (page_from ranges most (cond b (is_blank 2) always))
is_page None h r ranges most b e = absurd h
is_page (Some s) h r ranges most true e = page_of s.tables h r ranges most (is_blank 2) quantity_is e
is_page (Some s) h r ranges most false e = page_of s.tables h r ranges most always (λ t k row fits. tt) e

-- their quantities are numbers
total_of : (tables : List TableShape) → AreStockTables tables → (ranges : List KeyRange) (most : Option ℕ) → CanTotal tables (query_from ranges most) 2
total_of [] h ranges most = absurd h
total_of (t ∷ u ∷ ts) h ranges most = absurd h
total_of (t ∷ []) h ranges most = by t.columns h
  where
    by : (cs : List Column) → AreStockColumns cs → IsSomeAnd (slice_get cs 1) (λ (c : Column). shape c.ty ≡ numbers)
    by [] k = absurd k
    by (n ∷ []) k = absurd k
    by (n ∷ q ∷ x ∷ cs) k = absurd k
    by (n ∷ q ∷ []) k = ap shape k.1

pub can_total : (o : Option Schema) → IsStock o → (ranges : List KeyRange) (most : Option ℕ) → CanTotal (shapes_of o) (query_from ranges most) 2
can_total None h ranges most = absurd h
can_total (Some s) h ranges most = total_of s.tables h ranges most

-- its columns come from columns of their types
sources : (olds news : List Column) → AreStockColumns olds → AreStockColumns news → (n q : Bool) → AreSources olds news (source_of true n 1 ∷ source_of true q 2 ∷ [])
sources [] news h k n q = absurd h
sources (a ∷ []) news h k n q = absurd h
sources (a ∷ b ∷ x ∷ xs) news h k n q = absurd h
sources (a ∷ b ∷ []) [] h k n q = absurd k
sources (a ∷ b ∷ []) (c ∷ []) h k n q = absurd k
sources (a ∷ b ∷ []) (c ∷ d ∷ y ∷ ys) h k n q = absurd k
sources (a ∷ b ∷ []) (c ∷ d ∷ []) h k true true = (h.0 ∙ sym k.0, (h.1 ∙ sym k.1, tt))
sources (a ∷ b ∷ []) (c ∷ d ∷ []) h k true false = (h.0 ∙ sym k.0, (tt, tt))
sources (a ∷ b ∷ []) (c ∷ d ∷ []) h k false true = (tt, (h.1 ∙ sym k.1, tt))
sources (a ∷ b ∷ []) (c ∷ d ∷ []) h k false false = (tt, (tt, tt))

no_sources : (news : List Column) → AreStockColumns news → (n q : Bool) → AreSources [] news (source_of false n 1 ∷ source_of false q 2 ∷ [])
no_sources [] k n q = absurd k
no_sources (c ∷ []) k n q = absurd k
no_sources (c ∷ d ∷ y ∷ ys) k n q = absurd k
no_sources (c ∷ d ∷ []) k n q = (tt, (tt, tt))

one_and_two : ◌≢◌ {A = ℕ} 1 2
one_and_two = grind arith

-- none of which is named twice
apart : (r n q : Bool) → AreDistinct (named (source_of r n 1 ∷ source_of r q 2 ∷ []))
apart true true true = ((one_and_two, tt), (tt, tt))
apart true true false = (tt, tt)
apart true false true = (tt, tt)
apart true false false = tt
apart false n q = tt

move_of : (t u : TableShape) → AreStockColumns t.columns → AreStockColumns u.columns → (r n q : Bool)
    → IsMove (t.columns ∷ []) u (record { from = source_of r true 0; columns = source_of r n 1 ∷ source_of r q 2 ∷ [] })
move_of t u h k true n q = record { from = refl; sources = sources t.columns u.columns h k n q; apart = apart true n q }
move_of t u h k false n q = record { from = tt; sources = no_sources u.columns k n q; apart = apart false n q }

one_apart : (r : Bool) → AreDistinct (named (source_of r true 0 ∷ []))
one_apart true = (tt, tt)
one_apart false = tt

moves_of : (olds news : List TableShape) → AreStockTables olds → AreStockTables news → (r n q : Bool) → AreMoves olds news (stock_moves r n q)
moves_of [] news h k r n q = absurd h
moves_of (t ∷ x ∷ xs) news h k r n q = absurd h
moves_of (t ∷ []) [] h k r n q = absurd k
moves_of (t ∷ []) (u ∷ y ∷ ys) h k r n q = absurd k
moves_of (t ∷ []) (u ∷ []) h k r n q = record { each = (move_of t u h k r n q, tt); apart = one_apart r }

-- so the table may move to another like it, by moves that are these
pub are_moves : (o : Option Schema) → IsStock o → (new : Schema) → IsStock (Some new) → (r n q : Bool) (moves : List TableMove) → moves ≡ stock_moves r n q
    → AreMoves (shapes_of o) new.tables moves
are_moves None h new k r n q moves e = absurd h
are_moves (Some s) h new k r n q moves e = subst (λ (l : List TableMove). AreMoves s.tables new.tables l) (sym e) (moves_of s.tables new.tables h k r n q)
