-- What changes of tables and of a session make of the state.
use Rattle.std.proofs.Common.{◌≡◌, ℕ, ◌<◌, Bool, true, false, not, if◌then◌else◌, List, [], ◌++◌, Option, None, Some, refl, sym, subst, ap, ◌∙◌}
use Rattle.std.specs.Prelude.{IsSome, option_map}
use Rattle.std.specs.Option.{option_to_list}
use Rattle.std.proofs.lemmas.List.{append-nil}
use Rattle.fx_base.specs.Silence.{MayFallSilent}
use Rattle.fx_base.specs.Telling.{Stays}
use Rattle.fx_types.specs.Values.{Data, blank}
use Rattle.fx_types.specs.ValueView.{view}
use Rattle.fx_deeds.specs.Changed.{IsChanged, IsRowChanged, IsRowMade, IsRowRemoved, by_done, written}
use Rattle.fx_deeds.specs.State.{WorldState}
use Rattle.fx_core.specs.declared.names.Names.{Names}
use Rattle.fx_core.specs.declared.schema.Column.{Column}
use Rattle.fx_core.specs.declared.sources.Source.{Source}
use Rattle.fx_core.specs.declared.sources.Source.TheVariants as source
use Rattle.recalc.specs.app_cells.declared.app.App.{App}
use Rattle.row_keeper.specs.Changes.{Inserts, Removes, Replaces}
use Rattle.row_keeper.specs.Tables.{Tables}
use Rattle.row_keeper.specs.declared.rows.Put.{Put}
use Rattle.row_keeper.specs.declared.rows.Put.TheVariants.{Id, NoRow, Refused}
use Rattle.session_state.specs.Changes.{FitsChange, FitsNames, FitsSource, IsOwn, IsThere, is_change_refused, made}
use Rattle.session_state.specs.Sessions.{Holds, SessionState}
use Rattle.session_state.specs.declared.change.Change.{Change}
use Rattle.session_state.specs.declared.change.Change.TheVariants.{Global, Context, Gather, Empty, Input, Choose, Screen, Notice}
use Rattle.session_requests.specs.WorldContext.{WorldContext, grounds, state_on}
use Rattle.session_requests.specs.WorldLaws.{state_told}
use Rattle.session_requests.specs.Worlds.{told_in, source_if_done, written_by}
use Rattle.session_requests.proofs.Readying.{not_heard}

-- ---- tables
-- what a change of tables makes of the state, where the tables stay with which the transaction began
pub state_goes : (lost : Type 0) (P : Tables → Tables → Type 0) (Q : WorldState WorldContext → WorldState WorldContext → Type 0) (day : Data) (a : App) (moment : ℕ) (s : SessionState) (values others : List Data) (ws us : List Source) (b d x y : Option Tables) →
    ((g : WorldContext) (t u : Tables) → P t u → Q (state_on g t s ws) (state_on g u s us)) → (IsSome y → IsSome d) → MayFallSilent lost P x y → MayFallSilent lost Stays b d →
    MayFallSilent lost Q (state_told (option_map (told_in day (grounds a moment b) s values ws) x)) (state_told (option_map (told_in day (grounds a moment d) s others us) y))
state_goes lost P Q day a moment s values others ws us b d None y go heard h k = ap (λ (z : Option Tables). state_told (option_map (told_in day (grounds a moment d) s others us) z)) h
state_goes lost P Q day a moment s values others ws us b d (Some t) None go heard h k = h
state_goes lost P Q day a moment s values others ws us None d (Some t) (Some u) go heard h k = absurd (not_heard d k (heard refl))
state_goes lost P Q day a moment s values others ws us (Some p) None (Some t) (Some u) go heard h k = absurd (not_heard None refl (heard refl))
state_goes lost P Q day a moment s values others ws us (Some p) (Some q) (Some t) (Some u) go heard h k =
    subst (λ (z : Tables). Q (state_on (grounds a moment (Some p)) t s ws) (state_on (grounds a moment (Some z)) u s us)) (sym k) (go (grounds a moment (Some p)) t u h)

-- a state with nothing more written
same_state : (g : WorldContext) (s : SessionState) (ws : List Source) (t u : Tables) → u ≡ t → state_on g u s (ws ++ []) ≡ state_on g t s ws
same_state g s ws t u e = ap (λ (xs : List Source). state_on g u s xs) (append-nil ws) ∙ ap (λ (z : Tables). state_on g z s ws) e

pub row_made : (columns : List Column) (k : ℕ) (cells : List Data) (put : Put) (g : WorldContext) (s : SessionState) (ws : List Source) (t u : Tables) → Inserts columns k cells put t u →
    IsRowMade columns k cells put (state_on g t s ws) (state_on g u s (ws ++ written_by put k))
row_made columns k cells (Id n) g s ws t u h = (u, h, refl)
row_made columns k cells NoRow g s ws t u h = absurd h
row_made columns k cells (Refused r) g s ws t u h = (u, h, same_state g s ws t u h.1)

pub row_changed : (columns : List Column) (k id : ℕ) (cells : List Data) (put : Put) (g : WorldContext) (s : SessionState) (ws : List Source) (t u : Tables) → Replaces columns k id cells put t u →
    IsRowChanged columns k id cells put (state_on g t s ws) (state_on g u s (ws ++ written_by put k))
row_changed columns k id cells (Id n) g s ws t u h = (u, h, refl)
row_changed columns k id cells NoRow g s ws t u h = (u, h, same_state g s ws t u h.1)
row_changed columns k id cells (Refused r) g s ws t u h = (u, h, same_state g s ws t u h.2)

pub row_removed : (k id : ℕ) (was : Bool) (g : WorldContext) (s : SessionState) (ws : List Source) (t u : Tables) → Removes k id was t u →
    IsRowRemoved k id was (state_on g t s ws) (state_on g u s (ws ++ option_to_list (source_if_done was (Some (source.Table k)))))
row_removed k id true g s ws t u h = (u, h, refl)
row_removed k id false g s ws t u h = (u, h, same_state g s ws t u h.1)

-- ---- the session
own_there : (n : Names) (s : SessionState) (x : Source) (d : Data) → FitsNames n s → IsOwn x → FitsSource n x d → Holds s x
own_there n s x d f own h = f.sources_held x h.0 own h.1

-- what a change names is there, where it fits the names as the session does
pub is_there : (n : Names) (s : SessionState) (c : Change) → FitsNames n s → FitsChange n c → IsThere c s
is_there n s (Global k v) f h = own_there n s (source.Global k) (view v) f tt h
is_there n s (Context k v) f h = own_there n s (source.Context k) (view v) f tt h
is_there n s (Gather k v) f h = f.sources_held (source.Gathered k) h.0 tt h.1
is_there n s (Empty k) f h = f.sources_held (source.Gathered k) h.0 tt h.1
is_there n s (Input k None) f h = own_there n s (source.Input k) blank f tt h
is_there n s (Input k (Some v)) f h = own_there n s (source.Input k) (view v) f tt h
is_there n s (Choose k position id) f h = subst (λ (m : ℕ). k < m) (sym f.controls) h
is_there n s (Screen k) f h = tt
is_there n s (Notice w) f h = tt

changed_by : (c : Change) (done : Bool) (g : WorldContext) (t : Tables) (s r : SessionState) (ws : List Source) (o : Option Source) → option_to_list o ≡ written c → r ≡ (if done then made c s else s) →
    state_on g t r (ws ++ option_to_list (source_if_done done o)) ≡ by_done done c (state_on g t s ws)
changed_by c true g t s r ws o e h = ap (λ (z : SessionState). state_on g t z (ws ++ option_to_list o)) h ∙ ap (λ (xs : List Source). state_on g t (made c s) (ws ++ xs)) e
changed_by c false g t s r ws o e h = ap (λ (z : SessionState). state_on g t z (ws ++ [])) h ∙ ap (λ (xs : List Source). state_on g t s xs) (append-nil ws)

-- a change of the session
pub session_goes : (lost : Type 0) (c : Change) (done : Bool) (day : Data) (g : WorldContext) (s r : SessionState) (values others : List Data) (ws : List Source) (o : Option Source) (y : Option Tables) →
    option_to_list o ≡ written c → done ≡ not (is_change_refused c s) → r ≡ (if done then made c s else s) →
    MayFallSilent lost (IsChanged c done) (state_told (option_map (told_in day g s values ws) y)) (state_told (option_map (told_in day g r others (ws ++ option_to_list (source_if_done done o))) y))
session_goes lost c done day g s r values others ws o None e answer h = refl
session_goes lost c done day g s r values others ws o (Some t) e answer h = (answer, changed_by c done g t s r ws o e h)
