-- The table that the cases are about, and what is known of a keeper between them.
use Rattle.std.specs.Prelude.{◌≡◌, Bool, true, ℕ, List, [], ◌∷◌, cond, Option, Some, None}
use Rattle.fx_types.specs.declared.types.Ty.TheVariants.{Number, Text}
use Rattle.fx_core.specs.declared.schema.Column.{Column}
use Rattle.fx_core.specs.declared.schema.Schema.{Schema}
use Rattle.fx_core.specs.declared.schema.TableShape.{TableShape}
use Rattle.row_keeper.specs.Shaped.{Shaped}
use Rattle.row_keeper.specs.declared.moves.TableMove.{TableMove}

-- a column of texts, and an indexed one of numbers
abbrev pub AreStockColumns : List Column → Type 0
AreStockColumns (n ∷ q ∷ []) = (n.ty ≡ Text) × (q.ty ≡ Number) × (q.indexed ≡ true)
AreStockColumns cs = ⊥

-- one table, of such columns
abbrev pub AreStockTables : List TableShape → Type 0
AreStockTables (t ∷ []) = AreStockColumns t.columns
AreStockTables ts = ⊥

abbrev pub IsStock : Option Schema → Type 0
IsStock None = ⊥
IsStock (Some s) = AreStockTables s.tables

-- the number of a source, where rows come and this does with them
abbrev pub source_of : Bool → Bool → ℕ → Option ℕ
source_of has_rows is_given number = cond has_rows (cond is_given (Some number) None) None

-- how the table moves to another like it: whether rows come, with their names and quantities
abbrev pub stock_moves : Bool → Bool → Bool → List TableMove
stock_moves rows names quantities = record {
  from = source_of rows true 0;
  columns = source_of rows names 1 ∷ source_of rows quantities 2 ∷ [];
} ∷ []

-- a keeper stands where the cases say: whether it has such a table, as the transaction began too,
-- and whether one is begun
pub record IsInStep (is_shaped is_begun : Bool) (shaped : Shaped) (in_transaction : Bool) :
    Type 0 where
  pub stocked : is_shaped ≡ true → IsStock shaped.now × IsStock shaped.then
  pub begun : in_transaction ≡ is_begun
