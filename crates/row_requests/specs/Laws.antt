-- Requests that come again.
use Rattle.std.specs.Prelude.{◌≡◌, ◌≢◌, ℕ, List, [], ◌∷◌, Option, Some}
use Rattle.serde_json.specs.Data as json
use Rattle.fx_base.specs.Silence.{SilenceCause, Marks}
use Rattle.fx_core.specs.declared.schema.TableShape.{TableShape}
use Rattle.row_keeper.specs.Tables.{Tables}
use Rattle.session_state.specs.Once.{LastRequest}
use Rattle.numbered_requests.specs.Bodies.{json_of}
use Rattle.row_requests.specs.Bodies.{posted_in}
use Rattle.row_requests.specs.DeskRows.{PostsRows}
use Rattle.numbered_requests.specs.Directory.{find}
use Rattle.row_requests.specs.declared.bodies.Posted.{Posted}
use Rattle.numbered_requests.specs.declared.directory.Named.{Named}

-- this is kept of a desk: its last accepted request posted changes under the last number
pub record IsLastPost (desks : List (Named LastRequest)) (name : List ℕ) (k : LastRequest) :
    Type 0 where
  pub found : find name desks ≡ Some k
  pub value : json.Data
  pub is_json : json_of k.body ≡ Some value
  pub posted : Posted
  pub shape : posted_in value ≡ Some posted
  pub number : posted.seq ≡ k.last

-- a request of a desk, with its reply, the keeper's marks before and after it, and the tables and
-- desks after it
pub record Post : Type 0 where
  pub name : List ℕ
  pub body : List ℕ
  pub said : List ℕ
  pub before : Marks
  pub now : Marks
  pub tables : Option Tables
  pub desks : List (Named LastRequest)

-- requests of other desks, one after another
abbrev pub ArePostsOfOthers : List TableShape → List ℕ → Option Tables → List (Named LastRequest)
    → List Post → Option Tables → List (Named LastRequest) → Type 0
ArePostsOfOthers shapes name tables desks [] tables' desks' = (tables' ≡ tables) × (desks' ≡ desks)
ArePostsOfOthers shapes name tables desks (p ∷ ps) tables' desks' =
    (p.name ≢ name) × PostsRows (SilenceCause p.before p.now) shapes p.name p.body tables desks
    p.said p.tables p.desks
    × ArePostsOfOthers shapes name p.tables p.desks ps tables' desks'

-- a request of a desk leaves what is kept of every other
abbrev pub PostLeavesOthers : Type 0
PostLeavesOthers =
    (shapes : List TableShape) (name other body said : List ℕ) (before now : Marks)
    (tables tables' : Option Tables) (desks desks' : List (Named LastRequest))
    → PostsRows (SilenceCause before now) shapes name body tables desks said tables' desks'
    → name ≢ other → find other desks' ≡ find other desks

-- The last accepted request of a desk comes again, after any requests of others: it gets the kept
-- reply, and leaves the tables and the desks.
abbrev pub PostActsOnce : Type 0
PostActsOnce =
    (shapes : List TableShape) (name : List ℕ) (k : LastRequest) (said : List ℕ)
    (before now : Marks) (posts : List Post)
    (tables tables' tables'' : Option Tables) (desks desks' desks'' : List (Named LastRequest))
    → IsLastPost desks name k → ArePostsOfOthers shapes name tables desks posts tables' desks'
    → PostsRows (SilenceCause before now) shapes name k.body tables' desks' said tables'' desks''
    → (said ≡ k.reply) × (tables'' ≡ tables') × (desks'' ≡ desks')
