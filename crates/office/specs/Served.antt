-- What a replacement leaves of an office.
use Rattle.std.specs.Prelude.{◌≡◌, ◌⊎◌, ℕ, Bool, false, List, None}
use Rattle.app_cells.specs.declared.app.App.{App}
use Rattle.app_moves.specs.Refusals.{moves_refusal}
use Rattle.app_replacements.specs.declared.body.Replacement.{Replacement}
use Rattle.fx_base.specs.Silence.{SilenceCause}
use Rattle.numbered_requests.specs.declared.directory.Named.{Named}
use Rattle.recalc.specs.Carrying.{IsBegunAnew}
use Rattle.recalc.specs.Kept.{CacheState}
use Rattle.row_keeper.specs.Shaped.{Shaped, by}
use Rattle.row_keeper.specs.declared.keeper.Keeper.{Ghosts}
use Rattle.row_keeper.specs.declared.rows.Reshaped.TheVariants.{Done}
use Rattle.session_state.specs.Once.{LastRequest}
use Rattle.session_state.specs.Sessions.{SessionState}
use Rattle.office.specs.Caches.{EachCacheBecame, IsButRoom}
use Rattle.office.specs.Ready.{OfficeInvariant}
use Rattle.office.specs.Replacing.{IsAccepted, Moved, replaced}
use Rattle.office.specs.State.{OfficeState, schema_of}
use Rattle.office.specs.Step.{Left}

-- an office as a replacement finds it and leaves it: its state, whether its keeper is in a
-- transaction, what that is shaped by, and the caches
pub record Served : Type 0 where
  pub state : OfficeState
  pub in_transaction : Bool
  pub shape : Shaped
  pub caches : List (Named CacheState)

module _ {K : Type 0} (g : Ghosts K) where
  -- the state, where a keeper is seen as what it tells
  abbrev pub office_of : App → K → List (Named SessionState) → List (Named LastRequest)
      → OfficeState
  office_of app keeper sessions desks
      = record { app = app; tables = g.told keeper; sessions = sessions; desks = desks }

  -- the whole
  abbrev pub served : App → K → List (Named SessionState) → List (Named LastRequest)
      → List (Named CacheState) → Served
  served app keeper sessions desks caches = record {
    state = office_of app keeper sessions desks;
    in_transaction = g.in_transaction keeper;
    shape = g.shaped keeper;
    caches = caches;
  }

  -- why it may have fallen silent in a call
  abbrev pub silence : K → K → Type 0
  silence old new = SilenceCause (g.marks old) (g.marks new)

-- it is ready for a request, at a moment
abbrev pub IsReady : Served → ℕ → Type 0
IsReady x m = OfficeInvariant x.state.app x.in_transaction x.shape x.state.tables x.state.sessions
    x.state.desks x.caches m

-- all is left, but that the keeper may have fallen silent, and that there may be other room beside
-- what is kept of formulas
pub record StaysServed (lost : Type 0) (old new : Served) : Type 0 where
  pub left : Left lost old.state new.state
  pub kept : EachCacheBecame (λ k. IsButRoom) old.caches new.caches
  pub idle : new.in_transaction ≡ false
  pub shape : new.shape ≡ old.shape

-- this app is served in the place of the old one: the tables have moved to it, and nothing is kept
-- of formulas
pub record GoesOver (lost : Type 0) (name body : List ℕ) (r : Replacement) (b : App)
    (old new : Served) : Type 0 where
  pub fine : moves_refusal (schema_of old.state.app).tables (schema_of b).tables r.moves ≡ None
  pub moved : Moved lost b r.moves Done old.state new.state
  pub state : new.state ≡ replaced name body r.seq b new.state.tables old.state
  pub anew : EachCacheBecame (λ k. IsBegunAnew b) old.caches new.caches
  pub idle : new.in_transaction ≡ false
  pub shape : new.shape ≡ by (schema_of b)

-- the one or the other, where what is served is an accepted app
abbrev pub BecomesServed : Type 0 → List ℕ → List ℕ → Replacement → Served → Served → Type 0
BecomesServed lost name body r old new = StaysServed lost old new
    ⊎ ((b : App) × IsAccepted b × GoesOver lost name body r b old new)
