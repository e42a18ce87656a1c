-- An answer that is told by what holds of it is the only one.
use Rattle.std.proofs.Common.{◌≡◌, List, Bool, Option, Some, None, sym, ap, ◌∙◌}
use Rattle.std.specs.Prelude.{MatchOption}
use Rattle.std.specs.List.{find}
use Rattle.fx_types.specs.Values.{Data, tab, row_list}
use Rattle.fx_tables.specs.RowCalls.{IsFirstErrorOr, IsTableBy}
use Rattle.fx_value.specs.Columns.{Row}
use Rattle.fx_value.specs.Ordered.{OrderedOnce}
use Rattle.fx_tables.specs.Unions.{is_fault}

-- where there is one value of which P holds, there is one answer
pub one_or_error : (ds : List Data) (P : Data → Type 0) → ((a b : Data) → P a → P b → a ≡ b) → (a b : Data) → IsFirstErrorOr ds P a → IsFirstErrorOr ds P b → a ≡ b
one_or_error ds P once a b = by (find is_fault ds)
  where
    by : (o : Option Data) → MatchOption o (P a) (λ e. a ≡ e) → MatchOption o (P b) (λ e. b ≡ e) → a ≡ b
    by None h k = once a b h k
    by (Some e) h k = h ∙ sym k

pub one_table : OrderedOnce → (down : Bool) (keys : List Data) (rows : List Row) (a b : Data) → IsTableBy down keys rows a → IsTableBy down keys rows b → a ≡ b
one_table once down keys rows (tab rs) (tab ss) h k = ap tab (h.1 ∙ ap row_list (once down keys rows h.0 k.0 h.2 k.2) ∙ sym k.1)
one_table once down keys rows (tab rs) b h k = absurd k
one_table once down keys rows a b h k = absurd h
