-- What a keeper tells after a call in a transaction.
use Rattle.std.proofs.Common.{◌≡◌, ◌∙◌, inl, inr, ℕ, ◌<◌, ◌≤◌, ◌&&◌, not, Bool, true, false, if◌then◌else◌, List, Option, None, Some, Result, Ok, Err, IfOk, OnErr, ap, arith, refl, subst, sym}
use Rattle.std.specs.Prelude.{IsSome, IsSomeAnd, slice_get}
use Rattle.fx_base.specs.Faults.{Rose}
use Rattle.fx_base.specs.Silence.{MayFallSilent}
use Rattle.fx_base.specs.Telling.{Stays}
use Rattle.fx_core.specs.declared.schema.Schema.{Schema}
use Rattle.fx_core.specs.declared.schema.TableShape.{TableShape}
use Rattle.sqlite.specs.Held.{Held}
use Rattle.sqlite.specs.State.{State, HasCleanDisk}
use Rattle.sqlite_trees.specs.View.{doubt}
use Rattle.sql_meanings.specs.UnderWay.{IsReady}
use Rattle.sql_contents.specs.Contents.{Holds, contents_of}
use Rattle.row_keeper.specs.Tables.{Tables, shapes_of}
use Rattle.row_keeper.specs.declared.keeper.KeeperEnd.{KeeperEnd}
use Rattle.row_changes.specs.declared.table.TableChanges.{TableChanges}
use Rattle.store_model.specs.Decoded.{tables_changed, tables_kept}
use Rattle.store_model.specs.Ends.{call_failed}
use Rattle.store_model.specs.Model.{Kept, began_of, tells, told_of}
use Rattle.store_model.specs.Steady.{AreCounted, IsAtRest, IsKept, IsShapedSo, IsSteady}
use Rattle.store_model.specs.declared.counts.RowCount.{RowCount}
use Rattle.store_model.proofs.TellLemmas.{clean_since, not_failed, told_before, told_goes, told_no_more}
use Rattle.store_asking.specs.Asked.{StaysAtRest}
use Rattle.store_rows.specs.Puts.{AreKnown, GoTold}
use Rattle.store_keeper.specs.Calls.{Acts, Lost}
use Rattle.store_keeper.specs.Kept.{kept}
use Rattle.store_keeper.specs.Acting.{SeatActs, StateActs}
use Rattle.store_keeper.proofs.EndCalls.{knows_is, trees_of}

module _ {S T : Type 0} (state : Held S → State) (a b : Held S) (schema : Schema) (cs ds : List TableChanges) (ns ms : List RowCount) (Goes : T → Tables → Tables → Type 0) (knows : Bool) (visited faults faults' : ℕ) (r : Result T KeeperEnd)
    (w : StateActs (state a) (state b) schema cs ds ns ms Goes r) (rose : call_failed r ≡ true → Rose faults faults') (was : IsKept state (kept (Some a) knows (Some schema) cs ns true visited faults)) where
  abbrev now_knows : Bool
  now_knows = knows && not (call_failed r)

  abbrev before : Kept S
  before = kept (Some a) knows (Some schema) cs ns true visited faults

  abbrev after : Kept S
  after = kept (Some b) now_knows (Some schema) ds ms true visited faults'

  abbrev lost : Type 0
  lost = Lost state before after

  failed : call_failed r ≡ true → lost
  failed f = inl (rose f)

  dirty : 0 < doubt (state b).is_clean → lost
  dirty d = inr d

  module _ (e : tells (state b) now_knows ≡ true) where
    steady_then : IsSteady (state a) before
    steady_then = was (told_before (state a) (state b) knows (call_failed r) lost w.stays.later failed dirty e)

    clean : HasCleanDisk (state b)
    clean = clean_since (state a) (state b) knows (call_failed r) lost w.stays.later failed dirty e

    goes : GoTold (state a).now.trees schema cs ds ms Goes r
    goes = let h = steady_then in w.told clean (record { ready = h.ready; held = h.held }) (record { shaped = h.shaped; counted = h.counted })

    rests : IsReady (state b) × ((state b).now ≡ (state a).now)
    rests = w.stays.rests clean steady_then.ready (not_failed (state a) (state b) knows (call_failed r) lost w.stays.later failed dirty e)

    same : (state a).now.trees ≡ (state b).now.trees
    same = ap trees_of (sym rests.1)

    steady_now : IsSteady (state b) after
    steady_now = record {
      ready = rests.0;
      held = subst (λ trees. Holds trees (contents_of trees)) same steady_then.held;
      shaped = subst (λ trees. IsShapedSo (contents_of trees) schema ds) same goes.known.shaped;
      unshaped = λ none. absurd cc;
      counted = subst (λ trees. AreCounted (contents_of trees) 0 ds ms) same goes.known.counted;
      still = λ idle. absurd cc;
    }

    kept_same : tables_kept (state b).now.trees ≡ tables_kept (state a).now.trees
    kept_same = sym (ap tables_kept same)

    changed_same : tables_changed (state b).now.trees ds ≡ tables_changed (state a).now.trees ds
    changed_same = sym (ap (λ trees. tables_changed trees ds) same)

  began_stays : MayFallSilent lost Stays (began_of state before) (began_of state after)
  began_stays = told_goes (state a) (state b) knows (call_failed r) lost w.stays.later failed dirty Stays (tables_kept (state a).now.trees) (tables_kept (state b).now.trees) kept_same

  told_so : (P : Tables → Tables → Type 0) → (tells (state b) now_knows ≡ true → P (tables_changed (state a).now.trees cs) (tables_changed (state b).now.trees ds)) → MayFallSilent lost P (told_of state before) (told_of state after)
  told_so P h = told_goes (state a) (state b) knows (call_failed r) lost w.stays.later failed dirty P (tables_changed (state a).now.trees cs) (tables_changed (state b).now.trees ds) h

pub acts_seat : {S T : Type 0} (state : Held S → State) (a b : Held S) (schema : Schema) (cs ds : List TableChanges) (ns ms : List RowCount) (Goes : T → Tables → Tables → Type 0) (knows : Bool) (visited faults faults' : ℕ) (r : Result T KeeperEnd)
    → StateActs (state a) (state b) schema cs ds ns ms Goes r → faults ≤ faults' → (call_failed r ≡ true → Rose faults faults') → IsKept state (kept (Some a) knows (Some schema) cs ns true visited faults)
    → IsKept state (kept (Some b) (knows && not (call_failed r)) (Some schema) ds ms true visited faults')
    × Acts state Goes (kept (Some a) knows (Some schema) cs ns true visited faults) (kept (Some b) (knows && not (call_failed r)) (Some schema) ds ms true visited faults') r
acts_seat {S} {T} state a b schema cs ds ns ms Goes knows visited faults faults' r w up rose was = (
  steady_now state a b schema cs ds ns ms Goes knows visited faults faults' r w rose was,
  record {
    ok = ok r refl;
    err = err r refl;
    passes = record {
      began = began_stays state a b schema cs ds ns ms Goes knows visited faults faults' r w rose was;
      attached = refl;
      crash = told_no_more (state a) (state b) knows (call_failed r) _ w.stays.later (λ f. inl (rose f)) (λ d. inr d) (tables_kept (state a).now.trees) (tables_kept (state b).now.trees)
          (kept_same state a b schema cs ds ns ms Goes knows visited faults faults' r w rose was);
      mode = refl;
      visited = omega arith;
      loan = refl;
    };
    shaped = refl;
    cause = record { later = record { faults = up; doubt = w.stays.later }; failed = λ f. rose (ap call_failed f) };
  },
)
  where
    before : Kept S
    before = kept (Some a) knows (Some schema) cs ns true visited faults

    after : Kept S
    after = kept (Some b) (knows && not (call_failed r)) (Some schema) ds ms true visited faults'

    ok : (q : Result T KeeperEnd) → r ≡ q → IfOk q (λ x. MayFallSilent (Lost state before after) (Goes x) (told_of state before) (told_of state after))
    ok (Err x) e = tt
    ok (Ok x) e = told_so state a b schema cs ds ns ms Goes knows visited faults faults' r w rose was (Goes x)
        (λ t. subst (λ u. Goes x (tables_changed (state a).now.trees cs) u) (sym (changed_same state a b schema cs ds ns ms Goes knows visited faults faults' r w rose was t))
        (subst (λ q. IfOk q (λ y. Goes y (tables_changed (state a).now.trees cs) (tables_changed (state a).now.trees ds))) e (goes state a b schema cs ds ns ms Goes knows visited faults faults' r w rose was t).ok))

    err : (q : Result T KeeperEnd) → r ≡ q → OnErr q (MayFallSilent (Lost state before after) Stays (told_of state before) (told_of state after))
    err (Ok x) e = tt
    err (Err x) e = told_so state a b schema cs ds ns ms Goes knows visited faults faults' r w rose was Stays
        (λ t. changed_same state a b schema cs ds ns ms Goes knows visited faults faults' r w rose was t
        ∙ subst (λ q. OnErr q (tables_changed (state a).now.trees ds ≡ tables_changed (state a).now.trees cs)) e (goes state a b schema cs ds ns ms Goes knows visited faults faults' r w rose was t).err)

-- ---- whatever the seat

not_acted : {S T : Type 0} (state : Held S → State) (Goes : T → Tables → Tables → Type 0) (o : Option Schema) (cs ds : List TableChanges) (ns ms : List RowCount) (knows now : Bool) (visited faults faults' : ℕ) (r : Result T KeeperEnd) → call_failed r ≡ true → faults ≤ faults' → (call_failed r ≡ true → Rose faults faults')
    → Acts state Goes (kept None knows o cs ns true visited faults) (kept None now o ds ms true visited faults') r
not_acted state Goes o cs ds ns ms knows now visited faults faults' (Ok x) failed up rose = absurd cc
not_acted state Goes o cs ds ns ms knows now visited faults faults' (Err x) failed up rose = record {
  ok = tt;
  err = refl;
  passes = record { began = refl; attached = refl; crash = refl; mode = refl; visited = omega arith; loan = refl };
  shaped = refl;
  cause = record { later = record { faults = up; doubt = omega arith }; failed = λ f. rose (ap call_failed f) };
}

module _ {S T : Type 0} (state : Held S → State) (Goes : T → Tables → Tables → Type 0) (cs ds : List TableChanges) (ns ms : List RowCount) (knows now : Bool) (visited faults faults' : ℕ) (r : Result T KeeperEnd)
    (same : call_failed r ≡ false → now ≡ knows) (silent : call_failed r ≡ true → now ≡ false) (up : faults ≤ faults') (rose : call_failed r ≡ true → Rose faults faults') where
  pub acts : (a b : Option (Held S)) (o : Option Schema) → SeatActs state a b o cs ds ns ms Goes r → IsSome o → IsKept state (kept a knows o cs ns true visited faults)
      → IsKept state (kept b now o ds ms true visited faults') × Acts state Goes (kept a knows o cs ns true visited faults) (kept b now o ds ms true visited faults') r
  acts (Some a) (Some b) (Some schema) w there was =
      subst (λ k. IsKept state (kept (Some b) k (Some schema) ds ms true visited faults') × Acts state Goes (kept (Some a) knows (Some schema) cs ns true visited faults) (kept (Some b) k (Some schema) ds ms true visited faults') r)
      (sym (knows_is knows now (call_failed r) same silent)) (acts_seat state a b schema cs ds ns ms Goes knows visited faults faults' r w up rose was)
  acts (Some a) (Some b) None w there was = absurd (let e : ◌≡◌ {A = Bool} false true = there in cc)
  acts None None o w there was = (tt, not_acted state Goes o cs ds ns ms knows now visited faults faults' r w up rose)
  acts (Some a) None o w there was = absurd w
  acts None (Some b) o w there was = absurd w

-- ---- on the connection

-- lists that are lent as slices
pub acted : {T : Type 0} (old new : State) (schema : Schema) (cs ds lent back : List TableChanges) (ns ms lent' back' : List RowCount) (Goes : T → Tables → Tables → Type 0) (r : Result T KeeperEnd) → lent ≡ cs → ds ≡ back → lent' ≡ ns → ms ≡ back'
    → StaysAtRest old new (call_failed r) → (HasCleanDisk new → IsAtRest old → AreKnown old.now.trees schema lent lent' → GoTold old.now.trees schema lent back back' Goes r) → StateActs old new schema cs ds ns ms Goes r
acted old new schema cs ds lent back ns ms lent' back' Goes r c d n m stays told = record {
  stays = stays;
  told = λ clean rest known.
      let there = subst (λ l. AreKnown old.now.trees schema lent l) (sym n) (subst (λ l. AreKnown old.now.trees schema l ns) (sym c) known) in
      subst (λ l. GoTold old.now.trees schema l ds ms Goes r) c (subst (λ l. GoTold old.now.trees schema lent l ms Goes r) (sym d) (subst (λ l. GoTold old.now.trees schema lent back l Goes r) (sym m) (told clean rest there)));
}

-- ---- a table has a schema

pub fit_schema : (o : Option Schema) (table : ℕ) (P : TableShape → Type 0) → IsSomeAnd (slice_get (shapes_of o) table) P → IsSome o
fit_schema None table P h = absurd h
fit_schema (Some schema) table P h = refl

pub table_schema : (o : Option Schema) (table : ℕ) → IsSome (slice_get (shapes_of o) table) → IsSome o
table_schema None table h = absurd (let e : ◌≡◌ {A = Bool} false true = h in cc)
table_schema (Some schema) table h = refl
