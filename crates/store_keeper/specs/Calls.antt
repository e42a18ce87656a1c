-- What the calls of a keeper over a connection make of it: what each keeper has to ensure of them.
use Rattle.std.specs.Prelude.{◌≡◌, true, false, Result}
use Rattle.std.specs.Prelude.{IfOk, None, OnErr, OnOk, Vec, length}
use Rattle.std.specs.declared.alloc.Global.{Global}
use Rattle.fx_base.specs.Silence.{IsLater, MayFallSilent, SilenceCause}
use Rattle.fx_base.specs.Telling.{Stays}
use Rattle.sqlite.specs.Held.{Held}
use Rattle.sqlite.specs.State.{State}
use Rattle.row_queries.specs.Answers.{OfRows}
use Rattle.row_queries.specs.Queries.{AreAsked}
use Rattle.row_queries.specs.TableRows.{rows_at}
use Rattle.row_queries.specs.Visits.{VisitsAtLeast, VisitsTold}
use Rattle.row_queries.specs.declared.queries.Query.{Query}
use Rattle.row_queries.specs.declared.rows.Row.{Row}
use Rattle.row_keeper.specs.Causes.{HasCause}
use Rattle.row_keeper.specs.Crashes.{LeavesNoMore, LeavesThese, MayLeave}
use Rattle.row_keeper.specs.Passing.{Passes, around}
use Rattle.row_keeper.specs.Shaped.{gone_back, steady}
use Rattle.row_keeper.specs.Tables.{Tables, rows_of_tables, rows_told, shapes_of}
use Rattle.row_keeper.specs.declared.keeper.KeeperEnd.{KeeperEnd}
use Rattle.store_model.specs.Model.{Kept, began_of, leaves_of, marks_of, shape_of, told_of}

module _ {S : Type 0} (state : Held S → State) where
  -- why it may have fallen silent in a call
  abbrev pub Lost : Kept S → Kept S → Type 0
  Lost k l = SilenceCause (marks_of state k) (marks_of state l)

  -- a transaction begins
  pub record Begins (k l : Kept S) : Type 0 where
    pub tables : MayFallSilent (Lost k l) Stays (told_of state k) (told_of state l)
    pub begun : l.is_begun ≡ true
    pub began : began_of state l ≡ told_of state l
    pub crash : LeavesNoMore (Lost k l) (leaves_of state k) (leaves_of state l)
    pub shaped : shape_of l ≡ steady (shape_of k)
    pub later : IsLater (marks_of state k) (marks_of state l)
    pub visited : l.visited ≡ k.visited

  -- a transaction ends with its changes; where it gives no answer, without them
  pub record Commits {T : Type 0} (k l : Kept S) (r : Result T KeeperEnd) : Type 0 where
    pub ok : OnOk r (MayFallSilent (Lost k l) Stays (told_of state k) (told_of state l))
    pub err : OnErr r (MayFallSilent (Lost k l) Stays (began_of state k) (told_of state l))
    pub crash : MayLeave (Lost k l) (told_of state k) (leaves_of state k) (leaves_of state l)
    pub lasting : OnOk r (LeavesThese (told_of state l) (leaves_of state l))
    pub shaped : OnOk r (shape_of l ≡ steady (shape_of k))
    pub err_shaped : OnErr r (shape_of l ≡ gone_back (shape_of k))
    pub idle : l.is_begun ≡ false
    pub cause : HasCause (marks_of state k) (marks_of state l) r
    pub visited : l.visited ≡ k.visited

  -- a transaction ends without its changes
  pub record GoesBack (k l : Kept S) : Type 0 where
    pub tables : MayFallSilent (Lost k l) Stays (began_of state k) (told_of state l)
    pub crash : LeavesNoMore (Lost k l) (leaves_of state k) (leaves_of state l)
    pub shaped : shape_of l ≡ gone_back (shape_of k)
    pub idle : l.is_begun ≡ false
    pub later : IsLater (marks_of state k) (marks_of state l)
    pub visited : l.visited ≡ k.visited

  -- the tables go so in a call of a transaction, where it gives an answer, and stay where it gives
  -- none; the rest passes
  pub record Acts {T : Type 0} (Goes : T → Tables → Tables → Type 0) (k l : Kept S)
      (r : Result T KeeperEnd) : Type 0 where
    pub ok : IfOk r (λ x. MayFallSilent (Lost k l) (Goes x) (told_of state k) (told_of state l))
    pub err : OnErr r (MayFallSilent (Lost k l) Stays (told_of state k) (told_of state l))
    pub passes : Passes (around (began_of state k) None (leaves_of state k) k.is_begun
        (marks_of state k) k.visited None) (around (began_of state l) None (leaves_of state l)
        l.is_begun (marks_of state l) l.visited None)
    pub shaped : shape_of l ≡ shape_of k
    pub cause : HasCause (marks_of state k) (marks_of state l) r

  -- rows are asked: of those that are told, where they are, and else of some that the table can hold
  pub record Asks (q : Query) (k l : Kept S) (r : Result (Vec Row Global) KeeperEnd) : Type 0 where
    pub rows : IfOk r (λ rows. OfRows (shapes_of (shape_of k).now) (rows_told (told_of state l)) q
        (λ t held. AreAsked q held rows.items))
    pub told : IfOk r (λ rows. MayFallSilent (Lost k l)
        (λ a b. AreAsked q (rows_at (rows_of_tables a.states) q.table) rows.items × (b ≡ a))
        (told_of state k) (told_of state l))
    pub err : OnErr r (MayFallSilent (Lost k l) Stays (told_of state k) (told_of state l))
    pub least : IfOk r (λ rows. VisitsAtLeast (length rows.items) k.visited l.visited)
    pub most : VisitsTold (rows_told (told_of state l)) q k.visited l.visited
    pub passes : Passes (around (began_of state k) None (leaves_of state k) k.is_begun
        (marks_of state k) k.visited None) (around (began_of state l) None (leaves_of state l)
        l.is_begun (marks_of state l) l.visited None)
    pub shaped : shape_of l ≡ shape_of k
    pub cause : HasCause (marks_of state k) (marks_of state l) r
