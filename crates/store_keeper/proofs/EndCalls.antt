-- What a keeper tells once a transaction has begun, or ended.
use Rattle.std.proofs.Common.{◌≡◌, ◌∙◌, IsTrue, inl, inr, ℕ, ◌<◌, ◌≤◌, ◌&&◌, not, Bool, true, false, if◌then◌else◌, List, [], map, Option, None, Some, Result, Ok, Err, OnErr, OnOk, ap, arith, refl, subst, sym}
use Rattle.std.specs.Prelude.{◌∷◌, IfSome, IsSome, option_map}
use Rattle.fx_base.specs.Faults.{Rose}
use Rattle.fx_base.specs.Silence.{MayFallSilent}
use Rattle.fx_base.specs.Telling.{Stays}
use Rattle.fx_core.specs.declared.schema.Schema.{Schema}
use Rattle.sqlite.specs.Effect.{Database}
use Rattle.sqlite.specs.Held.{Held}
use Rattle.sqlite.specs.State.{State, HasCleanDisk}
use Rattle.sqlite.specs.Tree.{Trees}
use Rattle.sqlite_trees.specs.View.{doubt}
use Rattle.sql_meanings.specs.UnderWay.{IsReady}
use Rattle.sql_contents.specs.Contents.{Holds, contents_of}
use Rattle.row_keeper.specs.Crashes.{IsOneOf, LeavesNoMore}
use Rattle.row_keeper.specs.Tables.{Tables}
use Rattle.row_keeper.specs.declared.keeper.KeeperEnd.{KeeperEnd}
use Rattle.row_changes.specs.declared.table.TableChanges.{TableChanges}
use Rattle.row_plan.specs.Statements.{after}
use Rattle.row_plan.specs.Written.{all_statements}
use Rattle.row_plan.proofs.WrittenLemmas.{plans_write}
use Rattle.sql_playing.specs.Played.{RestsAt}
use Rattle.store_model.specs.Decoded.{tables_changed, tables_kept}
use Rattle.store_model.specs.Ends.{call_failed}
use Rattle.store_model.specs.Laws.{AreEnded, AreRestored, AreSettled, count_at_end}
use Rattle.store_model.specs.Model.{Kept, leaves_of, tells, told_of}
use Rattle.store_model.specs.Steady.{AreCounted, IsKept, IsShapedSo, IsSteady}
use Rattle.store_model.specs.declared.counts.RowCount.{RowCount}
use Rattle.store_model.proofs.CommitLemmas.{commits_told}
use Rattle.store_model.proofs.RestoreLemmas.{restores_kept}
use Rattle.store_model.proofs.ShapeLemmas.{commits_shaped}
use Rattle.store_model.proofs.TellLemmas.{clean_since, goes_by, holds_itself, leaves_by, not_failed, still_told, told_before, told_goes, told_may_leave}
use Rattle.store_writing.specs.Writes.{WritesChanges}
use Rattle.store_keeper.specs.Calls.{Begins, Commits, GoesBack, Lost}
use Rattle.store_keeper.specs.Kept.{kept}
use Rattle.store_keeper.specs.Seats.{SeatWrites}
use Rattle.store_keeper.proofs.EndLemmas.{counted_restored, counted_settled, restored_none, restored_unchanged, settled_unchanged}

abbrev pub trees_of : Database → Trees
trees_of d = d.trees

-- ---- commit

module _ {S T : Type 0} (state : Held S → State) (a b : Held S) (schema : Schema) (cs ds : List TableChanges) (ns : List RowCount) (knows : Bool) (visited faults faults' : ℕ) (r : Result T KeeperEnd)
    (w : WritesChanges (state a) (state b) schema cs r) (rose : call_failed r ≡ true → Rose faults faults') (was : IsKept state (kept (Some a) knows (Some schema) cs ns true visited faults)) where
  abbrev now_knows : Bool
  now_knows = knows && not (call_failed r)

  abbrev before : Kept S
  before = kept (Some a) knows (Some schema) cs ns true visited faults

  abbrev ended : Bool → Kept S
  ended with_changes = kept (Some b) now_knows (Some schema) ds (map (count_at_end with_changes) ns) false visited faults'

  abbrev lost : Type 0
  lost = Lost state before (ended true)

  failed : call_failed r ≡ true → lost
  failed f = inl (rose f)

  dirty : 0 < doubt (state b).is_clean → lost
  dirty d = inr d

  module _ (e : tells (state b) now_knows ≡ true) where
    steady_then : IsSteady (state a) before
    steady_then = was (told_before (state a) (state b) knows (call_failed r) lost w.later failed dirty e)

    clean : HasCleanDisk (state b)
    clean = clean_since (state a) (state b) knows (call_failed r) lost w.later failed dirty e

    safe : call_failed r ≡ false
    safe = not_failed (state a) (state b) knows (call_failed r) lost w.later failed dirty e

  -- the changes are written
  module _ (settled : AreSettled cs ds) (done : tells (state b) now_knows ≡ true → RestsAt (state b) (after (all_statements 0 schema.tables cs) (contents_of (state a).now.trees))) where
    module _ (e : tells (state b) now_knows ≡ true) where
      steady_done : IsSteady (state b) (ended true)
      steady_done =
          let h = steady_then e in
          let rest = done e in
          record {
            ready = rest.ready;
            held = holds_itself (state b).now.trees _ rest.holds;
            shaped = commits_shaped (state a).now.trees (state b).now.trees schema cs ds h.shaped rest.holds settled;
            unshaped = λ none. absurd cc;
            counted = counted_settled (state a).now.trees (state b).now.trees _ 0 schema.tables cs ds ns rest.holds (plans_write (contents_of (state a).now.trees) schema.tables cs h.shaped.changes h.shaped.lasts).1.tables settled h.counted;
            still = λ _. (settled_unchanged cs ds settled, refl);
          }

      kept_done : tables_kept (state b).now.trees ≡ tables_changed (state a).now.trees cs
      kept_done = (commits_told (state a).now.trees schema cs (steady_then e).shaped).1 (state b).now.trees (done e).holds

      told_done : tables_changed (state b).now.trees ds ≡ tables_kept (state b).now.trees
      told_done = still_told (state b) (ended true) steady_done (settled_unchanged cs ds settled)

    done_told : MayFallSilent lost Stays (told_of state before) (told_of state (ended true))
    done_told = told_goes (state a) (state b) knows (call_failed r) lost w.later failed dirty Stays (tables_changed (state a).now.trees cs) (tables_changed (state b).now.trees ds) (λ e. told_done e ∙ kept_done e)

  -- they are given up
  module _ (restored : AreRestored cs ds) (undone : tells (state b) now_knows ≡ true → IsReady (state b) × ((state b).now ≡ (state a).now)) where
    module _ (e : tells (state b) now_knows ≡ true) where
      same : (state a).now.trees ≡ (state b).now.trees
      same = ap trees_of (sym (undone e).1)

      back : IsShapedSo (contents_of (state a).now.trees) schema ds × (tables_changed (state a).now.trees ds ≡ tables_kept (state a).now.trees)
      back = restores_kept (state a).now.trees schema cs ds (steady_then e).shaped restored

      steady_undone : IsSteady (state b) (ended false)
      steady_undone =
          let h = steady_then e in
          record {
            ready = (undone e).0;
            held = subst (λ trees. Holds trees (contents_of trees)) same h.held;
            shaped = subst (λ trees. IsShapedSo (contents_of trees) schema ds) same back.0;
            unshaped = λ none. absurd cc;
            counted = subst (λ trees. AreCounted (contents_of trees) 0 ds (map (count_at_end false) ns)) same (counted_restored (contents_of (state a).now.trees) 0 cs ds ns restored h.counted);
            still = λ _. (restored_unchanged cs ds restored, refl);
          }

      kept_undone : tables_kept (state b).now.trees ≡ tables_kept (state a).now.trees
      kept_undone = sym (ap tables_kept same)

      told_undone : tables_changed (state b).now.trees ds ≡ tables_kept (state a).now.trees
      told_undone = sym (ap (λ trees. tables_changed trees ds) same) ∙ back.1

pub commits_seat : {S T : Type 0} (state : Held S → State) (a b : Held S) (schema : Schema) (cs ds : List TableChanges) (ns : List RowCount) (knows : Bool) (visited faults faults' : ℕ) (with_changes : Bool) (r : Result T KeeperEnd)
    → WritesChanges (state a) (state b) schema cs r → faults ≤ faults' → (call_failed r ≡ true → Rose faults faults') → IsKept state (kept (Some a) knows (Some schema) cs ns true visited faults)
    → OnOk r (with_changes ≡ true) → OnErr r (with_changes ≡ false) → AreEnded with_changes cs ds
    → IsKept state (kept (Some b) (knows && not (call_failed r)) (Some schema) ds (map (count_at_end with_changes) ns) false visited faults')
    × Commits state (kept (Some a) knows (Some schema) cs ns true visited faults) (kept (Some b) (knows && not (call_failed r)) (Some schema) ds (map (count_at_end with_changes) ns) false visited faults') r
commits_seat state a b schema cs ds ns knows visited faults faults' false (Ok x) w up rose was ok err end = absurd (let e : ◌≡◌ {A = Bool} false true = ok in cc)
commits_seat state a b schema cs ds ns knows visited faults faults' true (Err x) w up rose was ok err end = absurd (let e : ◌≡◌ {A = Bool} true false = err in cc)
commits_seat {S} {T} state a b schema cs ds ns knows visited faults faults' true (Ok x) w up rose was ok err end =
    let r : Result T KeeperEnd = Ok x in
    let lost = Lost state (kept (Some a) knows (Some schema) cs ns true visited faults) (kept (Some b) (knows && not (call_failed r)) (Some schema) ds (map (count_at_end true) ns) false visited faults') in
    let rests = λ (e : tells (state b) (knows && not (call_failed r)) ≡ true).
    (let h = steady_then state a b schema cs ds ns knows visited faults faults' r w rose was e in w.done (clean state a b schema cs ds ns knows visited faults faults' r w rose was e) (record { ready = h.ready; holds = h.held }) h.shaped) in
    let kept_is = kept_done state a b schema cs ds ns knows visited faults faults' r w rose was end rests in
    let told_is = told_done state a b schema cs ds ns knows visited faults faults' r w rose was end rests in (
      steady_done state a b schema cs ds ns knows visited faults faults' r w rose was end rests,
      record {
        ok = done_told state a b schema cs ds ns knows visited faults faults' r w rose was end rests;
        err = tt;
        crash = told_may_leave (state a) (state b) knows (call_failed r) lost w.later (λ f. inl (rose f)) (λ d. inr d) (tables_changed (state a).now.trees cs) (tables_kept (state a).now.trees) (tables_kept (state b).now.trees) (λ e. inl (sym (kept_is e)));
        lasting = leaves_by (tells (state b) (knows && not (call_failed r))) (tables_changed (state b).now.trees ds) (tables_kept (state b).now.trees) told_is;
        shaped = refl;
        err_shaped = tt;
        idle = refl;
        cause = record { later = record { faults = up; doubt = w.later }; failed = λ f. absurd cc };
        visited = refl;
      },
    )
commits_seat {S} {T} state a b schema cs ds ns knows visited faults faults' false (Err x) w up rose was ok err end =
    let r : Result T KeeperEnd = Err x in
    let lost = Lost state (kept (Some a) knows (Some schema) cs ns true visited faults) (kept (Some b) (knows && not (call_failed r)) (Some schema) ds (map (count_at_end false) ns) false visited faults') in
    let undone = λ (e : tells (state b) (knows && not (call_failed r)) ≡ true).
    w.undone (clean state a b schema cs ds ns knows visited faults faults' r w rose was e) (steady_then state a b schema cs ds ns knows visited faults faults' r w rose was e).ready (safe state a b schema cs ds ns knows visited faults faults' r w rose was e) in
    let kept_is = kept_undone state a b schema cs ds ns knows visited faults faults' r w rose was end undone in
    let told_is = told_undone state a b schema cs ds ns knows visited faults faults' r w rose was end undone in (
      steady_undone state a b schema cs ds ns knows visited faults faults' r w rose was end undone,
      record {
        ok = tt;
        err = told_goes (state a) (state b) knows (call_failed r) lost w.later (λ f. inl (rose f)) (λ d. inr d) Stays (tables_kept (state a).now.trees) (tables_changed (state b).now.trees ds) told_is;
        crash = told_may_leave (state a) (state b) knows (call_failed r) lost w.later (λ f. inl (rose f)) (λ d. inr d) (tables_changed (state a).now.trees cs) (tables_kept (state a).now.trees) (tables_kept (state b).now.trees) (λ e. inr (sym (kept_is e)));
        lasting = tt;
        shaped = tt;
        err_shaped = refl;
        idle = refl;
        cause = record { later = record { faults = up; doubt = w.later }; failed = λ f. rose (ap call_failed f) };
        visited = refl;
      },
    )

-- ---- whatever the seat

pub knows_is : (knows now failed : Bool) → (failed ≡ false → now ≡ knows) → (failed ≡ true → now ≡ false) → now ≡ (knows && not failed)
knows_is true now true same silent = silent refl
knows_is true now false same silent = same refl
knows_is false now true same silent = silent refl
knows_is false now false same silent = same refl

not_written : {S T : Type 0} (state : Held S → State) (o : Option Schema) (cs ds : List TableChanges) (ns ms : List RowCount) (knows now : Bool) (visited faults faults' : ℕ) (r : Result T KeeperEnd) → call_failed r ≡ true → faults ≤ faults' → (call_failed r ≡ true → Rose faults faults')
    → Commits state (kept None knows o cs ns true visited faults) (kept None now o ds ms false visited faults') r
not_written state o cs ds ns ms knows now visited faults faults' (Ok x) failed up rose = absurd cc
not_written state o cs ds ns ms knows now visited faults faults' (Err x) failed up rose = record {
  ok = tt;
  err = refl;
  crash = refl;
  lasting = tt;
  shaped = tt;
  err_shaped = refl;
  idle = refl;
  cause = record { later = record { faults = up; doubt = omega arith }; failed = λ f. rose (ap call_failed f) };
  visited = refl;
}

-- the whole of a commit, where the parts of the keeper are these before and after
module _ {S T : Type 0} (state : Held S → State) (cs ds : List TableChanges) (ns ms : List RowCount) (knows now : Bool) (visited faults faults' : ℕ) (with_changes : Bool) (r : Result T KeeperEnd)
    (same : call_failed r ≡ false → now ≡ knows) (silent : call_failed r ≡ true → now ≡ false) (up : faults ≤ faults') (rose : call_failed r ≡ true → Rose faults faults')
    (ok : OnOk r (with_changes ≡ true)) (err : OnErr r (with_changes ≡ false)) (end : AreEnded with_changes cs ds) (counts : ms ≡ map (count_at_end with_changes) ns) where
  pub commits : (a b : Option (Held S)) (o : Option Schema) → SeatWrites state a b o cs r → IsSome o → IsKept state (kept a knows o cs ns true visited faults)
      → IsKept state (kept b now o ds ms false visited faults') × Commits state (kept a knows o cs ns true visited faults) (kept b now o ds ms false visited faults') r
  commits (Some a) (Some b) (Some schema) w there was =
      subst (λ k. IsKept state (kept (Some b) k (Some schema) ds ms false visited faults') × Commits state (kept (Some a) knows (Some schema) cs ns true visited faults) (kept (Some b) k (Some schema) ds ms false visited faults') r)
      (sym (knows_is knows now (call_failed r) same silent))
      (subst (λ l. IsKept state (kept (Some b) (knows && not (call_failed r)) (Some schema) ds l false visited faults')
      × Commits state (kept (Some a) knows (Some schema) cs ns true visited faults) (kept (Some b) (knows && not (call_failed r)) (Some schema) ds l false visited faults') r) (sym counts)
      (commits_seat state a b schema cs ds ns knows visited faults faults' with_changes r w up rose was ok err end))
  commits (Some a) (Some b) None w there was = absurd (let e : ◌≡◌ {A = Bool} false true = there in cc)
  commits None None o w there was = (tt, not_written state o cs ds ns ms knows now visited faults faults' r w up rose)
  commits (Some a) None o w there was = absurd w
  commits None (Some b) o w there was = absurd w

-- ---- begin

same_told : (lost : Type 0) (o : Option Tables) → MayFallSilent lost Stays o o
same_told lost None = refl
same_told lost (Some t) = refl

same_left : (lost : Type 0) (o : Option Tables) → LeavesNoMore lost (option_map (λ t. t ∷ []) o) (option_map (λ t. t ∷ []) o)
same_left lost None = refl
same_left lost (Some t) = (inl refl, tt)

still_alike : (s : State) (knows : Bool) (x y : Tables) → (tells s knows ≡ true → x ≡ y) → (if tells s knows then Some x else None) ≡ (if tells s knows then Some y else None)
still_alike s knows x y same = go (tells s knows) same
  where
    go : (b : Bool) → (b ≡ true → x ≡ y) → (if b then Some x else None) ≡ (if b then Some y else None)
    go true e = ap (λ t. Some t) (e refl)
    go false e = refl

begun : {S : Type 0} (s : State) (k l : Kept S) → IsSteady s k → l.schema ≡ k.schema → l.tables ≡ k.tables → l.counts ≡ k.counts → l.is_begun ≡ true → IsSteady s l
begun s k l h schema tables counts begins = record {
  ready = h.ready;
  held = h.held;
  shaped = subst (λ o. IfSome o (λ p. IsShapedSo (contents_of s.now.trees) p l.tables)) (sym schema) (subst (λ cs. IfSome k.schema (λ p. IsShapedSo (contents_of s.now.trees) p cs)) (sym tables) h.shaped);
  unshaped = λ none. (let was = h.unshaped (sym schema ∙ none) in (tables ∙ was.0, was.1));
  counted = subst (λ ns. AreCounted (contents_of s.now.trees) 0 l.tables ns) (sym counts) (subst (λ cs. AreCounted (contents_of s.now.trees) 0 cs k.counts) (sym tables) h.counted);
  still = λ idle. absurd (let e = sym begins ∙ idle in cc);
}

pub begins : {S : Type 0} (state : Held S → State) (seat : Option (Held S)) (knows : Bool) (o : Option Schema) (cs : List TableChanges) (ns : List RowCount) (visited faults : ℕ) → IsKept state (kept seat knows o cs ns false visited faults)
    → IsKept state (kept seat knows o cs ns true visited faults) × Begins state (kept seat knows o cs ns false visited faults) (kept seat knows o cs ns true visited faults)
begins state None knows o cs ns visited faults was = (
  tt,
  record { tables = refl; begun = refl; began = refl; crash = refl; shaped = refl; later = record { faults = omega arith; doubt = omega arith }; visited = refl },
)
begins state (Some a) knows o cs ns visited faults was =
    let k = kept (Some a) knows o cs ns false visited faults in
    let l = kept (Some a) knows o cs ns true visited faults in
    let lost = Lost state k l in (
      λ e. begun (state a) k l (was e) refl refl refl refl,
      record {
        tables = same_told lost (told_of state k);
        begun = refl;
        began = still_alike (state a) knows (tables_kept (state a).now.trees) (tables_changed (state a).now.trees cs) (λ e. sym (still_told (state a) k (was e) ((was e).still refl).0));
        crash = same_left lost (if tells (state a) knows then Some (tables_kept (state a).now.trees) else None);
        shaped = refl;
        later = record { faults = omega arith; doubt = omega arith };
        visited = refl;
      },
    )

-- ---- back

module _ {S : Type 0} (state : Held S → State) (a : Held S) (knows : Bool) (cs ds : List TableChanges) (ns : List RowCount) (visited faults : ℕ) (restored : AreRestored cs ds) where
  restored_kept : (o : Option Schema) → IsSteady (state a) (kept (Some a) knows o cs ns true visited faults) → tables_changed (state a).now.trees ds ≡ tables_kept (state a).now.trees
  restored_kept None h = ap (λ l. tables_changed (state a).now.trees l) (restored_none cs ds restored (h.unshaped refl).0)
  restored_kept (Some schema) h = (restores_kept (state a).now.trees schema cs ds h.shaped restored).1

  restored_steady : (o : Option Schema) → IsSteady (state a) (kept (Some a) knows o cs ns true visited faults) → IsSteady (state a) (kept (Some a) knows o ds (map (count_at_end false) ns) false visited faults)
  restored_steady None h = record {
    ready = h.ready;
    held = h.held;
    shaped = tt;
    unshaped = λ none. (restored_none cs ds restored (h.unshaped refl).0, (h.unshaped refl).1);
    counted = counted_restored (contents_of (state a).now.trees) 0 cs ds ns restored h.counted;
    still = λ _. (restored_unchanged cs ds restored, refl);
  }
  restored_steady (Some schema) h = record {
    ready = h.ready;
    held = h.held;
    shaped = (restores_kept (state a).now.trees schema cs ds h.shaped restored).0;
    unshaped = λ none. absurd cc;
    counted = counted_restored (contents_of (state a).now.trees) 0 cs ds ns restored h.counted;
    still = λ _. (restored_unchanged cs ds restored, refl);
  }

pub goes_back : {S : Type 0} (state : Held S → State) (seat : Option (Held S)) (knows : Bool) (o : Option Schema) (cs ds : List TableChanges) (ns ms : List RowCount) (visited faults : ℕ) → AreRestored cs ds → ms ≡ map (count_at_end false) ns
    → IsKept state (kept seat knows o cs ns true visited faults)
    → IsKept state (kept seat knows o ds ms false visited faults) × GoesBack state (kept seat knows o cs ns true visited faults) (kept seat knows o ds ms false visited faults)
goes_back state None knows o cs ds ns ms visited faults restored counts was = (tt, record { tables = refl; crash = refl; shaped = refl; idle = refl; later = record { faults = omega arith; doubt = omega arith }; visited = refl })
goes_back state (Some a) knows o cs ds ns ms visited faults restored counts was =
    let k = kept (Some a) knows o cs ns true visited faults in
    let l = kept (Some a) knows o ds ms false visited faults in
    let lost = Lost state k l in
    let first = tables_kept (state a).now.trees in
    let now = tables_changed (state a).now.trees ds in (
      λ e. subst (λ c. IsSteady (state a) (kept (Some a) knows o ds c false visited faults)) (sym counts) (restored_steady state a knows cs ds ns visited faults restored o (was e)),
      record {
        tables = goes_by lost Stays (tells (state a) knows) (tells (state a) knows) first now (λ e. e) (λ e f. absurd (let g = sym e ∙ f in cc)) (λ e. restored_kept state a knows cs ds ns visited faults restored o (was e));
        crash = same_left lost (if tells (state a) knows then Some first else None);
        shaped = refl;
        idle = refl;
        later = record { faults = omega arith; doubt = omega arith };
        visited = refl;
      },
    )

-- ---- a crash

some_same : {X : Type 0} (x y : X) → ◌≡◌ {A = Option X} (Some x) (Some y) → x ≡ y
some_same x y e = cc

pub leaves_these : {S : Type 0} (state : Held S → State) (seat : Option (Held S)) (knows : Bool) (o : Option Schema) (cs : List TableChanges) (ns : List RowCount) (is_begun : Bool) (visited faults : ℕ) → IsKept state (kept seat knows o cs ns is_begun visited faults)
    → ((conn : Held S) → IsTrue (state conn).is_open → (db : Trees) → (state conn).may_leave db → db ≡ (state conn).committed.trees) → (ts : List Tables) → leaves_of state (kept seat knows o cs ns is_begun visited faults) ≡ Some ts
    → (conn : Held S) → seat ≡ Some conn → (db : Trees) → (state conn).may_leave db → IsOneOf ts (tables_kept db)
leaves_these state None knows o cs ns is_begun visited faults was settled ts told conn is db left = absurd cc
leaves_these {S} state (Some a) knows o cs ns is_begun visited faults was settled ts told conn is db left = go (tells (state a) knows) refl told
  where
    same : a ≡ conn
    same = some_same a conn is

    go : (b : Bool) → tells (state a) knows ≡ b → option_map (λ (t : Tables). t ∷ []) (if b then Some (tables_kept (state a).now.trees) else None) ≡ Some ts → IsOneOf ts (tables_kept db)
    go false e t = absurd cc
    go true e t =
        let h = was e in
        let these = some_same (tables_kept (state a).now.trees ∷ []) ts t in
        let found : db ≡ (state a).committed.trees = settled a h.ready.is_open db (subst (λ (c : Held S). (state c).may_leave db) (sym same) left) in
        subst (λ l. IsOneOf l (tables_kept db)) these (inl (ap tables_kept (ap trees_of h.ready.settled ∙ sym found)))
