-- A session's transaction: when one can begin, what stands while it is under way, and what it
-- leaves.
use Rattle.std.specs.Prelude.{◌≡◌, ◌≤◌, ℕ, List, Option, Some, false, length, take, true}
use Rattle.fx_base.specs.Silence.{SilenceCause}
use Rattle.fx_types.specs.Values.{Data}
use Rattle.fx_core.specs.declared.sources.Source.{Source}
use Rattle.recalc.specs.Kept.{CacheState}
use Rattle.recalc.specs.app_cells.declared.app.App.{App}
use Rattle.numbered_requests.specs.Replies.{IsReply, said}
use Rattle.row_keeper.specs.declared.keeper.Keeper.{Ghosts}
use Rattle.row_requests.specs.Sound.{AreSound}
use Rattle.row_requests.specs.Written.{SameTablesExcept}
use Rattle.session_state.specs.Changes.{FitsNames}
use Rattle.session_state.specs.Sessions.{SessionState}
use Rattle.session_requests.specs.Caching.{AreLater, SameSessionExcept, AreSources, IsCached}
use Rattle.session_requests.specs.Caching.{IsPending, GoesOnClean}
use Rattle.row_keeper.specs.Over.{Becomes, BeganStays}
use Rattle.row_keeper.specs.Shaped.{by}
use Rattle.session_requests.specs.Requests.{Accepts, AcceptsWriting}
use Rattle.session_requests.specs.declared.transaction.Accepted.{Accepted}
use Rattle.session_requests.specs.declared.trigger.Trigger.{Trigger}

-- A TRANSACTION OF A SESSION CAN BEGIN, which a request found as `before` and in which these
-- sources are written already. The session fits the app, its cache stands, and the keeper is shaped
-- by the app and in no transaction.
pub record CanBegin {K : Type 0} (g : Ghosts K) (a : App) (m : ℕ) (before now : SessionState)
    (cache : CacheState) (keeper : K) (wrote : List Source) : Type 0 where
  pub fits : FitsNames a.names now
  pub shaped : g.shaped keeper ≡ by a.names.schema
  pub rows : AreSound a.names.schema (g.told keeper)
  pub idle : g.in_transaction keeper ≡ false
  pub cached : IsCached a now (g.told keeper) m cache
  pub but : SameSessionExcept a.names wrote before now
  pub sources : AreSources a.names wrote

-- IT IS UNDER WAY: so it is of a keeper in a transaction, whose tables are those with which it
-- began but for what was written.
pub record IsUnderWay {K : Type 0} (g : Ghosts K) (a : App) (m : ℕ) (before now : SessionState)
    (cache : CacheState) (keeper : K) (wrote : List Source) : Type 0 where
  pub fits : FitsNames a.names now
  pub shaped : g.shaped keeper ≡ by a.names.schema
  pub rows : AreSound a.names.schema (g.told keeper)
  pub begun : g.in_transaction keeper ≡ true
  pub cached : IsCached a now (g.told keeper) m cache
  pub but : SameSessionExcept a.names wrote before now
  pub later : AreLater wrote (g.began keeper) (g.told keeper)
  pub sources : AreSources a.names wrote

-- What a part of it leaves: the same transaction of the same lent keeper, and what was written goes
-- on. What was clean is so still, but for what reaches that.
pub record GoesOn {K : Type 0} (g : Ghosts K) (a : App) (cache cache' : CacheState)
    (keeper keeper' : K) (wrote wrote' : List Source) : Type 0 where
  pub prefix : take (length wrote) wrote' ≡ wrote
  pub began : BeganStays g keeper keeper'
  pub loan : g.loan keeper' ≡ g.loan keeper
  pub visited : g.visited keeper ≤ g.visited keeper'
  pub clean : GoesOnClean a wrote cache wrote' cache'

-- It can still be taken back: of the session as the request found it, and of the tables with which
-- it began, the cache stands but for what was written.
pub record CanGoBack {K : Type 0} (g : Ghosts K) (a : App) (m : ℕ) (before : SessionState)
    (cache : CacheState) (keeper : K) (wrote : List Source) : Type 0 where
  pub shaped : g.shaped keeper ≡ by a.names.schema
  pub rows : AreSound a.names.schema (g.told keeper)
  pub begun : g.in_transaction keeper ≡ true
  pub pending : IsPending a before (g.began keeper) m wrote cache
  pub later : AreLater wrote (g.began keeper) (g.told keeper)
  pub sources : AreSources a.names wrote

-- IT HAS ENDED, kept or taken back: the keeper is in no transaction, and no tables are others but
-- those that were written.
pub record HasEnded {K : Type 0} (g : Ghosts K) (a : App) (cache cache' : CacheState)
    (keeper keeper' : K) (wrote wrote' : List Source) : Type 0 where
  pub shaped : g.shaped keeper' ≡ by a.names.schema
  pub rows : AreSound a.names.schema (g.told keeper')
  pub idle : g.in_transaction keeper' ≡ false
  pub tables : Becomes g keeper keeper' (SameTablesExcept wrote')
  pub sources : AreSources a.names wrote'
  pub prefix : take (length wrote) wrote' ≡ wrote
  pub loan : g.loan keeper' ≡ g.loan keeper
  pub clean : GoesOnClean a wrote cache wrote' cache'

-- What an accepted request leaves of its session, with its reply and a copy of that to keep: it
-- acted on this session and wrote these sources, and the cache stands for what it left.
pub record IsAccepted {K : Type 0} (g : Ghosts K) (a : App) (m : ℕ) (trigger : Trigger)
    (item : Option Data) (seq : ℕ) (s : SessionState) (cache' : CacheState) (keeper keeper' : K)
    (ws : List Source) (r : Accepted) : Type 0 where
  pub accepts : Accepts (SilenceCause (g.marks keeper) (g.marks keeper')) a m trigger item seq s
      (g.told keeper) (said r.reply) (g.told keeper') r.session
  pub wrote : AcceptsWriting (SilenceCause (g.marks keeper) (g.marks keeper')) a m trigger item s
      (g.told keeper) (g.told keeper') ws
  pub kept : r.kept.items ≡ said r.reply
  pub whole : IsReply r.reply
  pub cached : IsCached a r.session (g.told keeper') m cache'
