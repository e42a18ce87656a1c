-- What a session tells, and its state.
use Rattle.std.proofs.Common.{sym, ap, ◌∙◌}
use Rattle.std.proofs.lemmas.Option.{none-some}
use Rattle.std.specs.Prelude.{◌≡◌, ℕ, List, Option, Some, None, option_map, unwrap_or}
use Rattle.fx_types.specs.Values.{Data}
use Rattle.fx_deeds.specs.State.{WorldState}
use Rattle.fx_env.specs.Telling.{EnvState}
use Rattle.fx_core.specs.declared.sources.Source.{Source}
use Rattle.fx_core.specs.declared.sources.Source.TheVariants as source
use Rattle.row_keeper.specs.Tables.{Tables, rows_of_tables}
use Rattle.session_state.specs.Sessions.{SessionState, stored_value}
use Rattle.session_requests.specs.WorldContext.{WorldContext, state_on}
use Rattle.session_requests.specs.Worlds.{told_in}

-- the state is told beside values and rows
abbrev pub state_told : Option (EnvState (WorldState WorldContext))
    → Option (WorldState WorldContext)
state_told told = option_map (λ (e : EnvState (WorldState WorldContext)). e.beside) told

-- of a collection the value is told that the session holds
pub collections_told : (day : Data) (g : WorldContext) (s : SessionState) (values : List Data)
    (ws : List Source) (y : Option Tables) (st : WorldState WorldContext)
    (e : EnvState (WorldState WorldContext)) →
    state_told (option_map (told_in day g s values ws) y) ≡ Some st
    → option_map (told_in day g s values ws) y ≡ Some e →
    (k : ℕ) → e.values (source.Gathered k) ≡ stored_value st.session (source.Gathered k)
collections_told day g s values ws None st e p q k = absurd (none-some e q)
collections_told day g s values ws (Some t) st e p q k =
    ap (λ (x : EnvState (WorldState WorldContext)). x.values (source.Gathered k))
    (sym (ap (λ (o : Option (EnvState (WorldState WorldContext))). unwrap_or o
    (told_in day g s values ws t)) q))
    ∙ ap (λ (x : WorldState WorldContext). stored_value x.session (source.Gathered k))
    (ap (λ (o : Option (WorldState WorldContext)). unwrap_or o (state_on g t s ws)) p)

-- the rows that are told are those of the state
pub rows_are : (day : Data) (g : WorldContext) (s : SessionState) (values : List Data)
    (ws : List Source) (y : Option Tables) (st : WorldState WorldContext)
    (e : EnvState (WorldState WorldContext)) →
    state_told (option_map (told_in day g s values ws) y) ≡ Some st
    → option_map (told_in day g s values ws) y ≡ Some e
    → e.tables ≡ rows_of_tables st.tables.states
rows_are day g s values ws None st e p q = absurd (none-some e q)
rows_are day g s values ws (Some t) st e p q =
    ap (λ (x : EnvState (WorldState WorldContext)). x.tables)
    (sym (ap (λ (o : Option (EnvState (WorldState WorldContext))). unwrap_or o
    (told_in day g s values ws t)) q))
    ∙ ap (λ (x : WorldState WorldContext). rows_of_tables x.tables.states)
    (ap (λ (o : Option (WorldState WorldContext)). unwrap_or o (state_on g t s ws)) p)
