-- Tables that fit go on fitting.
use Rattle.std.proofs.Common.{◌≡◌, ℕ, Bool, List, ◌++◌, Option, None, Some, refl, subst, sym}
use Rattle.std.specs.Option.{option_to_list}
use Rattle.std.specs.Prelude.{IsSome, IsSomeAnd, slice_get}
use Rattle.fx_base.specs.Silence.{MayFallSilent}
use Rattle.fx_base.specs.Telling.{Stays}
use Rattle.fx_types.specs.Values.{Data}
use Rattle.fx_deeds.specs.Changed.{IsRowChanged, IsRowMade, IsRowRemoved}
use Rattle.fx_core.specs.declared.schema.Column.{Column}
use Rattle.fx_core.specs.declared.schema.Schema.{Schema}
use Rattle.fx_core.specs.declared.schema.TableShape.{TableShape}
use Rattle.fx_core.specs.declared.sources.Source.{Source}
use Rattle.fx_core.specs.declared.sources.Source.TheVariants as source
use Rattle.recalc.specs.app_cells.declared.app.App.{App}
use Rattle.row_keeper.specs.Changes.{Inserts, Removes, Replaces}
use Rattle.row_keeper.specs.Tables.{Tables, columns_at, shapes_of}
use Rattle.row_keeper.specs.declared.rows.Put.{Put}
use Rattle.row_keeper.specs.Shaped.{Shaped, by}
use Rattle.row_queries.specs.TableRows.{AreCellsOf}
use Rattle.row_requests.proofs.Soundness.{sound_inserts, sound_removes, sound_replaces}
use Rattle.row_requests.specs.Sound.{AreSound}
use Rattle.session_state.specs.Sessions.{SessionState}
use Rattle.session_requests.proofs.Changing.{row_changed, row_made, row_removed, state_goes}
use Rattle.session_requests.proofs.WorldEnding.{told_state}
use Rattle.session_requests.specs.WorldContext.{grounds}
use Rattle.session_requests.specs.Worlds.{source_if_done, written_by}

pub inserted_sound : (s : Schema) (lost : Type 0) (columns : List Column) (k : ℕ) (cells : List Data) (put : Put) (x y : Option Tables) → IsSomeAnd (slice_get s.tables k) (λ t. AreCellsOf t.columns cells) → AreSound s x →
    MayFallSilent lost (Inserts columns k cells put) x y → AreSound s y
inserted_sound s lost columns k cells put x y fit sound goes = by (slice_get s.tables k) refl fit
  where
    by : (o : Option TableShape) → slice_get s.tables k ≡ o → IsSomeAnd o (λ t. AreCellsOf t.columns cells) → AreSound s y
    by (Some t) e h = sound_inserts s lost columns k t cells put e h x y sound goes
    by None e h = absurd h

pub replaced_sound : (s : Schema) (lost : Type 0) (columns : List Column) (k id : ℕ) (cells : List Data) (put : Put) (x y : Option Tables) → IsSomeAnd (slice_get s.tables k) (λ t. AreCellsOf t.columns cells) → AreSound s x →
    MayFallSilent lost (Replaces columns k id cells put) x y → AreSound s y
replaced_sound s lost columns k id cells put x y fit sound goes = by (slice_get s.tables k) refl fit
  where
    by : (o : Option TableShape) → slice_get s.tables k ≡ o → IsSomeAnd o (λ t. AreCellsOf t.columns cells) → AreSound s y
    by (Some t) e h = sound_replaces s lost columns k id t cells put e h x y sound goes
    by None e h = absurd h

pub removed_sound : (s : Schema) (lost : Type 0) (k id : ℕ) (was : Bool) (x y : Option Tables) → IsSome (slice_get s.tables k) → AreSound s x → MayFallSilent lost (Removes k id was) x y → AreSound s y
removed_sound s lost k id was x y there sound goes = by (slice_get s.tables k) refl there
  where
    by : (o : Option TableShape) → slice_get s.tables k ≡ o → IsSome o → AreSound s y
    by (Some t) e h = sound_removes s lost k id t was e x y sound goes
    by None e h = absurd cc

-- other cells in a row
pub replaced : (lost : Type 0) (s : Schema) (shaped : Shaped) (k id : ℕ) (cells : List Data) (put : Put) (day : Data) (a : App) (moment : ℕ) (r : SessionState) (values others : List Data) (ws us : List Source)
    (b d x y : Option Tables) → shaped ≡ by s → us ≡ ws ++ written_by put k → (IsSome y → IsSome d) → MayFallSilent lost (Replaces (columns_at (shapes_of shaped.now) k) k id cells put) x y → MayFallSilent lost Stays b d →
    MayFallSilent lost (IsRowChanged (columns_at s.tables k) k id cells put) (told_state day (grounds a moment b) r values ws x) (told_state day (grounds a moment d) r others us y)
replaced lost s shaped k id cells put day a moment r values others ws us b d x y e w heard h stays =
    subst (λ (zs : List Source). MayFallSilent lost (IsRowChanged (columns_at s.tables k) k id cells put) (told_state day (grounds a moment b) r values ws x) (told_state day (grounds a moment d) r others zs y)) (sym w)
    (state_goes lost (Replaces (columns_at s.tables k) k id cells put) (IsRowChanged (columns_at s.tables k) k id cells put) day a moment r values others ws (ws ++ written_by put k) b d x y
    (λ g t u. row_changed (columns_at s.tables k) k id cells put g r ws t u) heard (subst (λ (o : Shaped). MayFallSilent lost (Replaces (columns_at (shapes_of o.now) k) k id cells put) x y) e h) stays)

-- a new row
pub inserted : (lost : Type 0) (s : Schema) (shaped : Shaped) (k : ℕ) (cells : List Data) (put : Put) (day : Data) (a : App) (moment : ℕ) (r : SessionState) (values others : List Data) (ws us : List Source)
    (b d x y : Option Tables) → shaped ≡ by s → us ≡ ws ++ written_by put k → (IsSome y → IsSome d) → MayFallSilent lost (Inserts (columns_at (shapes_of shaped.now) k) k cells put) x y → MayFallSilent lost Stays b d →
    MayFallSilent lost (IsRowMade (columns_at s.tables k) k cells put) (told_state day (grounds a moment b) r values ws x) (told_state day (grounds a moment d) r others us y)
inserted lost s shaped k cells put day a moment r values others ws us b d x y e w heard h stays =
    subst (λ (zs : List Source). MayFallSilent lost (IsRowMade (columns_at s.tables k) k cells put) (told_state day (grounds a moment b) r values ws x) (told_state day (grounds a moment d) r others zs y)) (sym w)
    (state_goes lost (Inserts (columns_at s.tables k) k cells put) (IsRowMade (columns_at s.tables k) k cells put) day a moment r values others ws (ws ++ written_by put k) b d x y
    (λ g t u. row_made (columns_at s.tables k) k cells put g r ws t u) heard (subst (λ (o : Shaped). MayFallSilent lost (Inserts (columns_at (shapes_of o.now) k) k cells put) x y) e h) stays)

-- a row is taken out
pub removed : (lost : Type 0) (k id : ℕ) (was : Bool) (day : Data) (a : App) (moment : ℕ) (r : SessionState) (values others : List Data) (ws us : List Source)
    (b d x y : Option Tables) → us ≡ ws ++ option_to_list (source_if_done was (Some (source.Table k))) → (IsSome y → IsSome d) → MayFallSilent lost (Removes k id was) x y → MayFallSilent lost Stays b d →
    MayFallSilent lost (IsRowRemoved k id was) (told_state day (grounds a moment b) r values ws x) (told_state day (grounds a moment d) r others us y)
removed lost k id was day a moment r values others ws us b d x y w heard h stays =
    subst (λ (zs : List Source). MayFallSilent lost (IsRowRemoved k id was) (told_state day (grounds a moment b) r values ws x) (told_state day (grounds a moment d) r others zs y)) (sym w)
    (state_goes lost (Removes k id was) (IsRowRemoved k id was) day a moment r values others ws (ws ++ option_to_list (source_if_done was (Some (source.Table k)))) b d x y
    (λ g t u. row_removed k id was g r ws t u) heard h stays)
