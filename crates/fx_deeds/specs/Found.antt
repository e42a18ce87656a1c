-- What comes of a row that is to be taken out.
use Rattle.std.specs.Prelude.{◌≡◌, ◌⊎◌, ℕ, ◌++◌, List, true, false, Option, Some, None, Result, Ok}
use Rattle.std.specs.Prelude.{Err, MatchOption, MatchResult}
use Rattle.fx_types.specs.declared.values.Value.{Value}
use Rattle.fx_types.specs.Values.{Data}
use Rattle.fx_types.specs.ValueView.{view}
use Rattle.fx_semantics.specs.Rows.{table_of}
use Rattle.fx_value.specs.Columns.{Row}
use Rattle.session_state.specs.declared.change.Change.TheVariants as change
use Rattle.fx_deeds.specs.Changed.{IsRowRemoved}
use Rattle.fx_deeds.specs.Collections.{IsFirstRow, Lacks, rows_held}
use Rattle.fx_deeds.specs.Deeds.{AnswersOnly, IsValueGiven, row_id_value, named_id}
use Rattle.fx_deeds.specs.RowValues.{not_found, too_much}
use Rattle.fx_deeds.specs.State.{WorldState}

-- the number that a record names, or the error that is answered for it
abbrev pub NamesRow : Data → Result ℕ Value → Type 0
NamesRow d r = MatchResult r (λ id. named_id (row_id_value d) ≡ Ok id)
    (λ e. named_id (row_id_value d) ≡ Err (view e))

-- the row that a record names was taken out, or this is answered
abbrev pub IsTakenOut : {A : Type 0} → ℕ → Data → Option Value → WorldState A → WorldState A
    → Type 0
IsTakenOut k d o s t =
    MatchOption o ((id : ℕ) × (named_id (row_id_value d) ≡ Ok id) × IsRowRemoved k id true s t)
    (λ e. MatchResult (named_id (row_id_value d))
    (λ id. IsRowRemoved k id false s t × (view e ≡ not_found)) (λ f. AnswersOnly f s (view e) t))

-- the first row that is this one was taken out of a collection; or this is answered, where that was
-- refused or there is none
abbrev pub IsTakenFrom : {A : Type 0} → ℕ → Row → Option Value → WorldState A → WorldState A
    → Type 0
IsTakenFrom k r None s t =
    (before after : List Row) × IsFirstRow r (rows_held k s) before after
    × IsValueGiven (change.Gather k) (table_of (before ++ after)) true s t
IsTakenFrom k r (Some e) s t =
    ((before after : List Row) × IsFirstRow r (rows_held k s) before after
    × IsValueGiven (change.Gather k) (table_of (before ++ after)) false s t × (view e ≡ too_much))
    ⊎ (Lacks r (rows_held k s) × AnswersOnly not_found s (view e) t)
