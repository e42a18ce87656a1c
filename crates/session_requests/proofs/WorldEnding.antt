-- What is known of a session and a keeper after a performing over them, by what their world told.
use Rattle.std.proofs.Common.{◌≡◌, ℕ, List, [], ◌∷◌, ◌++◌, length, Option, None, Some, Result, Ok, Err, inl, inr, refl, sym, subst, ap, ◌∙◌}
use Rattle.std.specs.List.{slice_get}
use Rattle.std.specs.Prelude.{drop, option_map, take, unwrap_or}
use Rattle.std.proofs.lemmas.List.{take-append-drop}
use Rattle.fx_base.specs.Silence.{MayFallSilent}
use Rattle.fx_base.specs.Telling.{Stays}
use Rattle.fx_behave.specs.Actable.{IsActable}
use Rattle.fx_behave.specs.Perform.{Performs}
use Rattle.fx_types.specs.TypeView.{shape}
use Rattle.fx_types.specs.Values.{Data}
use Rattle.fx_deeds.specs.State.{WorldState}
use Rattle.fx_deeds.specs.Within as deeds
use Rattle.fx_deeds.specs.Within.{Within}
use Rattle.fx_deeds.specs.Writable.{WritesOnly}
use Rattle.fx_env.specs.Scopes.{ScopeValues}
use Rattle.fx_env.specs.declared.environment.Stop.{Stop}
use Rattle.fx_env.specs.declared.environment.Stop.TheVariants as stop
use Rattle.fx_semantics.specs.Sound.{IsItemFit}
use Rattle.fx_scalar.specs.ScalarFunctions.{IsToday}
use Rattle.fx_core.specs.Reads.{IsAmong}
use Rattle.fx_core.specs.SourceTypes.{sources}
use Rattle.fx_core.specs.declared.sources.Source.{Source}
use Rattle.fx_core.specs.declared.sources.Source.TheVariants as source
use Rattle.fx_typing.specs.Typing.{item_context}
use Rattle.recalc.specs.app_semantics.Sound.{context_at}
use Rattle.recalc.specs.app_cells.declared.app.App.{App}
use Rattle.recalc.specs.app_cells.declared.app.CellInfo.{CellInfo}
use Rattle.recalc.specs.Stops.{end_of_stop}
use Rattle.recalc.specs.Kept.{IsInOrder, CacheState}
use Rattle.recalc.specs.Outcomes.{IsRightOver}
use Rattle.row_keeper.specs.Tables.{TableState, Tables, no_rows}
use Rattle.row_keeper.specs.declared.keeper.KeeperEnd.{KeeperEnd}
use Rattle.row_keeper.specs.declared.keeper.KeeperEnd.TheVariants as end
use Rattle.row_requests.specs.Written.{SameTablesExcept}
use Rattle.session_state.specs.Sessions.{SessionState}
use Rattle.fx_semantics.proofs.Wider.{among_left, among_right}
use Rattle.recalc.proofs.Evaluated.{falls}
use Rattle.recalc.proofs.Asked.{stays}
use Rattle.session_requests.proofs.Caches.{day_of}
use Rattle.session_requests.specs.Caching.{AreLater, IsCached}
use Rattle.session_requests.specs.Performing.{PerformsCell, IsActingCell, ChangesOnlyWritten, outermost_scope}
use Rattle.session_requests.specs.WorldContext.{WorldContext, ground_of, grounds, state_on}
use Rattle.session_requests.specs.WorldLaws.{state_told}
use Rattle.session_requests.specs.Worlds.{told_in}
use Rattle.session_requests.specs.Writable.{AllSources}

-- ---- before
-- a formula that can be performed can be so over the types of the app's names
pub can_act : (a : App) (c : CellInfo) (item : Option Data) → IsActingCell a c → IsItemFit item (item_context a.names c.cell.item) → IsActable (sources a.names) (outermost_scope item) c.core (shape c.ty)
can_act a c item h fit = record {
  context = context_at a.names c.cell.item;
  suits = record { sources = refl; rows = tt; item = fit; caught = λ e. absurd cc; functions = refl };
  typed = h.typed;
  lawful = h.lawful;
  placed = h.placed;
}

-- ---- what is told
-- the state before and after, by what is told
abbrev pub told_state : Data → WorldContext → SessionState → List Data → List Source → Option Tables → Option (WorldState WorldContext)
told_state day g s values ws y = state_told (option_map (told_in day g s values ws) y)

pub silent : (day : Data) (g : WorldContext) (s : SessionState) (values : List Data) (ws : List Source) (y : Option Tables) → told_state day g s values ws y ≡ None → y ≡ None
silent day g s values ws None e = refl
silent day g s values ws (Some t) e = absurd cc

-- the tables with which the transaction began stay
pub began_goes : (lost : Type 0) (day other : Data) (g h : WorldContext) (s r : SessionState) (values others : List Data) (ws us : List Source) (x y : Option Tables) → (x ≡ None → g.began ≡ None) → (y ≡ None → h.began ≡ None) →
    MayFallSilent lost Within (told_state day g s values ws x) (told_state other h r others us y) → MayFallSilent lost Stays g.began h.began
began_goes lost day other g h s r values others ws us None y before after e =
    subst (λ (z : Option Tables). MayFallSilent lost Stays z h.began) (sym (before refl)) (after (silent other h r others us y e))
began_goes lost day other g h s r values others ws us (Some t) None before after e = falls lost g.began h.began (after refl) e
began_goes lost day other g h s r values others ws us (Some t) (Some u) before after e =
    subst (λ (z : Option Tables). MayFallSilent lost Stays g.began z) (sym (ap (λ (z : WorldContext). z.began) e.same.app)) (stays lost g.began)

-- what was left
pub leaves_goes : (lost : Type 0) (a : App) (moment : ℕ) (began : Option Tables) (day other : Data) (h : WorldContext) (s r : SessionState) (values others : List Data) (us : List Source) (x y : Option Tables) →
    MayFallSilent lost Within (told_state day (grounds a moment began) s values [] x) (told_state other h r others us y) → MayFallSilent lost (λ t u. ChangesOnlyWritten a moment t s u r) x y
leaves_goes lost a moment began day other h s r values others us None y e = silent other h r others us y e
leaves_goes lost a moment began day other h s r values others us (Some t) None e = e
leaves_goes lost a moment began day other h s r values others us (Some t) (Some u) e = record {
  began = began;
  wrote = us;
  within = subst (λ (g : WorldContext). Within (state_on (grounds a moment began) t s []) (state_on g u r us)) e.same.app e;
}

-- what was done
pub acts_goes : (lost : Type 0) (a : App) (moment : ℕ) (c : CellInfo) (item : Option Data) (v : Data) (began : Option Tables) (day other : Data) (h : WorldContext) (s r : SessionState) (values others : List Data) (us : List Source) (x y : Option Tables) →
    MayFallSilent lost Within (told_state day (grounds a moment began) s values [] x) (told_state other h r others us y) →
    MayFallSilent lost (Performs (ground_of a) c.core (outermost_scope item) v) (told_state day (grounds a moment began) s values [] x) (told_state other h r others us y) →
    MayFallSilent lost (λ t u. PerformsCell a moment c item t s v u r us) x y
acts_goes lost a moment c item v began day other h s r values others us None y w e = silent other h r others us y e
acts_goes lost a moment c item v began day other h s r values others us (Some t) None w e = e
acts_goes lost a moment c item v began day other h s r values others us (Some t) (Some u) w e = record {
  began = began;
  performs = subst (λ (g : WorldContext). Performs (ground_of a) c.core (outermost_scope item) v (state_on (grounds a moment began) t s []) (state_on g u r us)) w.same.app e;
}

-- the same of a performing whose app and list of writes are as they are made
pub leaves_from : (lost : Type 0) (a b : App) (moment : ℕ) (began : Option Tables) (day other : Data) (h : WorldContext) (s r : SessionState) (values others : List Data) (ws us : List Source) (x y : Option Tables) → b ≡ a → ws ≡ [] →
    MayFallSilent lost Within (told_state day (grounds b moment began) s values ws x) (told_state other h r others us y) → MayFallSilent lost (λ t u. ChangesOnlyWritten a moment t s u r) x y
leaves_from lost a b moment began day other h s r values others ws us x y e n w =
    leaves_goes lost a moment began day other h s r values others us x y
    (subst (λ (zs : List Source). MayFallSilent lost Within (told_state day (grounds a moment began) s values zs x) (told_state other h r others us y)) n
    (subst (λ (z : App). MayFallSilent lost Within (told_state day (grounds z moment began) s values ws x) (told_state other h r others us y)) e w))

pub acts_from : (lost : Type 0) (a b : App) (moment : ℕ) (c : CellInfo) (item : Option Data) (scope : ScopeValues) (v : Data) (began : Option Tables) (day other : Data) (h : WorldContext) (s r : SessionState) (values others : List Data) (ws us : List Source)
    (x y : Option Tables) → b ≡ a → ws ≡ [] → scope ≡ outermost_scope item → MayFallSilent lost Within (told_state day (grounds b moment began) s values ws x) (told_state other h r others us y) →
    MayFallSilent lost (Performs (ground_of b) c.core scope v) (told_state day (grounds b moment began) s values ws x) (told_state other h r others us y) → MayFallSilent lost (λ t u. PerformsCell a moment c item t s v u r us) x y
acts_from lost a b moment c item scope v began day other h s r values others ws us x y e n k w p =
    acts_goes lost a moment c item v began day other h s r values others us x y
    (subst (λ (zs : List Source). MayFallSilent lost Within (told_state day (grounds a moment began) s values zs x) (told_state other h r others us y)) n
    (subst (λ (z : App). MayFallSilent lost Within (told_state day (grounds z moment began) s values ws x) (told_state other h r others us y)) e w))
    (subst (λ (zs : List Source). MayFallSilent lost (Performs (ground_of a) c.core (outermost_scope item) v) (told_state day (grounds a moment began) s values zs x) (told_state other h r others us y)) n
    (subst (λ (z : App). MayFallSilent lost (Performs (ground_of z) c.core (outermost_scope item) v) (told_state day (grounds z moment began) s values ws x) (told_state other h r others us y)) e
    (subst (λ (z : ScopeValues). MayFallSilent lost (Performs (ground_of b) c.core z v) (told_state day (grounds b moment began) s values ws x) (told_state other h r others us y)) k p)))

-- the tables are those with which the transaction began, but for what was written
sources_same : (x : Source) (ws : List Source) → deeds.IsAmong x ws → IsAmong x ws
sources_same x [] h = h
sources_same x (w ∷ ws) (inl e) = inl e
sources_same x (w ∷ ws) (inr h) = inr (sources_same x ws h)

later_than : (ws us : List Source) (t u v : Tables) → SameTablesExcept ws t u → ((k : ℕ) → (deeds.IsAmong (source.Table k) us → ⊥) → slice_get v.states k ≡ slice_get u.states k) → SameTablesExcept (ws ++ us) t v
later_than ws us t u v before after k far =
    ap (λ (o : Option TableState). unwrap_or o no_rows) (after k (λ h. far (among_right (source.Table k) ws us (sources_same (source.Table k) us h)))) ∙ before k (λ h. far (among_left (source.Table k) ws us h))

pub later_goes : (lost : Type 0) (day other : Data) (g h : WorldContext) (s r : SessionState) (values others : List Data) (ws us : List Source) (x y : Option Tables) →
    MayFallSilent lost Within (told_state day g s values [] x) (told_state other h r others us y) → AreLater ws g.began x → AreLater (ws ++ us) h.began y
later_goes lost day other g h s r values others ws us None y e before t u p q = let none = silent other h r others us y e in let no : None ≡ Some u = sym none ∙ q in absurd cc
later_goes lost day other g h s r values others ws us (Some v) None e before t u p q = absurd cc
later_goes lost day other g h s r values others ws us (Some v) (Some w) e before t u p q =
    let same : w ≡ u = cc in
    subst (λ (z : Tables). SameTablesExcept (ws ++ us) t z) same
    (subst (λ (zs : List Source). SameTablesExcept (ws ++ zs) t w) (sym e.wrote)
    (later_than ws e.more t v w (before t v (ap (λ (z : WorldContext). z.began) (sym e.same.app) ∙ p) refl) e.same.tables))

-- the same of one whose app and list of writes are as they are made, and which began with this many
pub later_from : (lost : Type 0) (day other : Data) (g h : WorldContext) (s r : SessionState) (values others : List Data) (ws us zs : List Source) (n : ℕ) (x y : Option Tables) → n ≡ length ws → take n us ≡ ws → zs ≡ [] →
    MayFallSilent lost Within (told_state day g s values zs x) (told_state other h r others (drop n us) y) → AreLater ws g.began x → AreLater us h.began y
later_from lost day other g h s r values others ws us zs n x y count front none e before =
    subst (λ (xs : List Source). AreLater xs h.began y) (ap (λ (xs : List Source). xs ++ drop n us) (sym front) ∙ take-append-drop n us)
    (later_goes lost day other g h s r values others ws (drop n us) x y (subst (λ (xs : List Source). MayFallSilent lost Within (told_state day g s values xs x) (told_state other h r others (drop n us) y)) none e) before)

sources_back : (x : Source) (ws : List Source) → IsAmong x ws → deeds.IsAmong x ws
sources_back x [] h = h
sources_back x (w ∷ ws) (inl e) = inl e
sources_back x (w ∷ ws) (inr h) = inr (sources_back x ws h)

-- only these sources were written
only_goes : (lost : Type 0) (P : Source → Type 0) (day other : Data) (g h : WorldContext) (s r : SessionState) (values others : List Data) (us : List Source) (x y : Option Tables) →
    MayFallSilent lost (WritesOnly P) (told_state day g s values [] x) (told_state other h r others us y) → MayFallSilent lost (λ (t u : Tables). AllSources P us) x y
only_goes lost P day other g h s r values others us None y e = silent other h r others us y e
only_goes lost P day other g h s r values others us (Some t) None e = e
only_goes lost P day other g h s r values others us (Some t) (Some u) e = λ x among. e.allowed x (sources_back x e.more (subst (IsAmong x) e.wrote among))

-- the same of a performing whose list of writes is as it is made
pub only_from : (lost : Type 0) (P : Source → Type 0) (day other : Data) (g h : WorldContext) (s r : SessionState) (values others : List Data) (ws us : List Source) (x y : Option Tables) → ws ≡ [] →
    MayFallSilent lost (WritesOnly P) (told_state day g s values ws x) (told_state other h r others us y) → MayFallSilent lost (λ (t u : Tables). AllSources P us) x y
only_from lost P day other g h s r values others ws us x y none e =
    only_goes lost P day other g h s r values others us x y (subst (λ (zs : List Source). MayFallSilent lost (WritesOnly P) (told_state day g s values zs x) (told_state other h r others us y)) none e)

-- the cache that is left
pub cached_from : (a b : App) (s : SessionState) (told : Option Tables) (m n : ℕ) (c : CacheState) → b ≡ a → n ≡ m → IsInOrder b c → ∥ IsRightOver b s told n c ∥₁ → ∥ IsToday n c.values.day ∥₁ → IsCached a s told m c
cached_from a b s told m n c e k order right day = record {
  order = subst (λ (z : App). IsInOrder z c) e order;
  right = subst (λ (z : App). ∥ IsRightOver z s told m c ∥₁) e (subst (λ i. ∥ IsRightOver b s told i c ∥₁) k right);
  day = day_of a s m c.values.day (subst (λ i. ∥ IsToday i c.values.day ∥₁) k day);
}

-- where nothing was done
pub left_alone : (lost : Type 0) (a : App) (moment : ℕ) (s : SessionState) (x : Option Tables) → MayFallSilent lost (λ t u. ChangesOnlyWritten a moment t s u s) x x
left_alone lost a moment s None = refl
left_alone lost a moment s (Some t) = record {
  began = None;
  wrote = [];
  within = record { more = []; wrote = refl; same = record { app = refl; kept = refl; tables = λ k n. refl; variables = λ k n m. refl; collections = λ k n. refl; inputs = λ k n. refl; chosen = λ k n. refl; accepted = refl; room = refl } };
}

-- where the keeper failed it stopped the performing
pub ended : (s : Stop) → end_of_stop s ≡ end.Failed → s ≡ stop.Keeper
ended stop.Memory e = absurd cc
ended stop.Keeper e = refl

err_is : {T E : Type 0} (a b : E) (r : Result T E) → r ≡ Err a → r ≡ Err b → a ≡ b
err_is a b r e h = let both = sym e ∙ h in cc

pub failed_by : {T : Type 0} (s : Stop) (r : Result T KeeperEnd) → r ≡ Err (end_of_stop s) → r ≡ Err end.Failed → s ≡ stop.Keeper
failed_by s r e h = ended s (err_is (end_of_stop s) end.Failed r e h)

pub no_error : {T E : Type 0} (x : T) (e : E) → Ok x ≡ Err e → ⊥
no_error x e h = absurd cc

pub carried_all : {A B C : Type 0} (P : A → B → C → Type 0) (now last : A) (here end : B) (there done : C) → last ≡ now → end ≡ here → done ≡ there → P now here there → P last end done
carried_all P now last here end there done e k l h = subst (λ x. P x end done) (sym e) (subst (λ y. P now y done) (sym k) (subst (P now here) (sym l) h))

pub carried_both : {A B : Type 0} (P : A → B → Type 0) (now last : A) (here end : B) → last ≡ now → end ≡ here → P now here → P last end
carried_both P now last here end e k h = subst (λ x. P x end) (sym e) (subst (P now) (sym k) h)
