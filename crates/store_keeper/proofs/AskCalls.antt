-- What a keeper tells after it was asked for rows.
use Rattle.std.proofs.Common.{◌≡◌, ◌∙◌, inl, inr, ℕ, ◌+◌, ◌-◌, ◌^◌, ◌<◌, ◌≤◌, ◌&&◌, not, Bool, true, false, if◌then◌else◌, List, Option, None, Some, Result, Ok, Err, IfOk, OnErr, ap, arith, filter, length, map, min, refl, subst, sym}
use Rattle.std.specs.Prelude.{IfSome, IsSome, Vec, slice_get}
use Rattle.std.specs.declared.alloc.Global.{Global}
use Rattle.std.proofs.lemmas.List.Sorted.{length_permutation}
use Rattle.fx_base.specs.Faults.{Rose}
use Rattle.fx_base.specs.Silence.{MayFallSilent}
use Rattle.fx_base.specs.Telling.{Stays}
use Rattle.fx_core.specs.declared.schema.Schema.{Schema}
use Rattle.fx_core.specs.declared.schema.TableShape.{TableShape}
use Rattle.sqlite.specs.Held.{Held}
use Rattle.sqlite.specs.State.{State, HasCleanDisk}
use Rattle.sqlite_trees.specs.View.{doubt}
use Rattle.sql_meanings.specs.UnderWay.{IsReady}
use Rattle.sql_contents.specs.Contents.{Holds, contents_of, lines_in}
use Rattle.row_queries.specs.Queries.{AreAsked, lies}
use Rattle.row_queries.specs.TableRows.{AreHeldRows, rows_at}
use Rattle.row_queries.specs.declared.queries.Query.{Query}
use Rattle.row_queries.specs.declared.rows.Row.{Row}
use Rattle.row_keeper.specs.Tables.{TableState, Tables, rows_of_tables, rows_told, state_at}
use Rattle.row_keeper.specs.declared.keeper.KeeperEnd.{KeeperEnd}
use Rattle.row_keeper.proofs.NumberedRows.{rows_are}
use Rattle.row_changes.specs.Overlay.{AreOf, overlay}
use Rattle.row_changes.specs.declared.table.TableChanges.{TableChanges}
use Rattle.store_model.specs.Decoded.{row_in, tables_changed, tables_kept}
use Rattle.store_model.specs.Ends.{call_failed}
use Rattle.store_model.specs.Model.{Kept, began_of, tells, told_of}
use Rattle.store_model.specs.Steady.{AreCounted, IsAtRest, IsKept, IsShapedSo, IsSteady}
use Rattle.store_model.specs.declared.counts.RowCount.{RowCount}
use Rattle.store_model.proofs.TellLemmas.{clean_since, not_failed, told_before, told_goes, told_no_more}
use Rattle.store_asking.specs.Asked.{StaysAtRest}
use Rattle.store_reading.proofs.StayLemmas.{stays_itself}
use Rattle.store_rows.proofs.TableLemmas.{table_told}
use Rattle.store_keeper.specs.Acting.{SeatAsks, StateAsks}
use Rattle.store_keeper.specs.Calls.{Asks, Lost}
use Rattle.store_keeper.specs.Kept.{kept}
use Rattle.store_keeper.proofs.EndCalls.{knows_is, trees_of}

-- ---- on the connection

pub not_read : (s : State) (schema : Schema) (cs : List TableChanges) (q : Query) (e : KeeperEnd) → StateAsks s s schema cs q (Err e)
not_read s schema cs q e = record { stays = stays_itself s _; asked = tt }

pub read_so : (old new : State) (schema : Schema) (cs : List TableChanges) (q : Query) (t : TableShape) (c : TableChanges) (r : Result (Vec Row Global) KeeperEnd) → slice_get schema.tables q.table ≡ Some t → slice_get cs q.table ≡ Some c → StaysAtRest old new (call_failed r)
    → IfOk r (λ asked. (held : List Row) × AreHeldRows t held × AreAsked q held asked.items × (HasCleanDisk new → IsAtRest old → AreOf (lines_in old.now.trees q.table) c → held ≡ map (row_in t.columns) (overlay c (lines_in old.now.trees q.table)))) → StateAsks old new schema cs q r
read_so old new schema cs q t c (Err e) ht hc stays h = record { stays = stays; asked = tt }
read_so old new schema cs q t c (Ok asked) ht hc stays h = record {
  stays = stays;
  asked = (t, h.0, ht, h.1, h.2, λ clean rest shaped. (let told = table_told old.now.trees schema cs q.table t c shaped ht hc in h.3 clean rest told.0 ∙ sym (ap (λ (s : TableState). s.rows) told.1)));
}

-- ---- on the keeper

-- the rows of all tables, where they are told
rows_if : (b : Bool) (t : Tables) (P : List (List Row) → Type 0) → (b ≡ true → P (rows_of_tables t.states)) → IfSome (rows_told (if b then Some t else None)) P
rows_if true t P h = h refl
rows_if false t P h = tt

module _ {S : Type 0} (state : Held S → State) (a b : Held S) (schema : Schema) (cs : List TableChanges) (ns : List RowCount) (q : Query) (begun knows : Bool) (visited visited' faults faults' : ℕ) (r : Result (Vec Row Global) KeeperEnd)
    (w : StateAsks (state a) (state b) schema cs q r) (rose : call_failed r ≡ true → Rose faults faults') (was : IsKept state (kept (Some a) knows (Some schema) cs ns begun visited faults)) where
  abbrev now_knows : Bool
  now_knows = knows && not (call_failed r)

  abbrev before : Kept S
  before = kept (Some a) knows (Some schema) cs ns begun visited faults

  abbrev after : Kept S
  after = kept (Some b) now_knows (Some schema) cs ns begun visited' faults'

  abbrev lost : Type 0
  lost = Lost state before after

  failed : call_failed r ≡ true → lost
  failed f = inl (rose f)

  dirty : 0 < doubt (state b).is_clean → lost
  dirty d = inr d

  module _ (e : tells (state b) now_knows ≡ true) where
    steady_then : IsSteady (state a) before
    steady_then = was (told_before (state a) (state b) knows (call_failed r) lost w.stays.later failed dirty e)

    clean : HasCleanDisk (state b)
    clean = clean_since (state a) (state b) knows (call_failed r) lost w.stays.later failed dirty e

    rests : IsReady (state b) × ((state b).now ≡ (state a).now)
    rests = w.stays.rests clean steady_then.ready (not_failed (state a) (state b) knows (call_failed r) lost w.stays.later failed dirty e)

    same : (state a).now.trees ≡ (state b).now.trees
    same = ap trees_of (sym rests.1)

    steady_now : IsSteady (state b) after
    steady_now = record {
      ready = rests.0;
      held = subst (λ trees. Holds trees (contents_of trees)) same steady_then.held;
      shaped = subst (λ trees. IsShapedSo (contents_of trees) schema cs) same steady_then.shaped;
      unshaped = λ none. absurd cc;
      counted = subst (λ trees. AreCounted (contents_of trees) 0 cs ns) same steady_then.counted;
      still = steady_then.still;
    }

    kept_same : tables_kept (state b).now.trees ≡ tables_kept (state a).now.trees
    kept_same = sym (ap tables_kept same)

    changed_same : tables_changed (state b).now.trees cs ≡ tables_changed (state a).now.trees cs
    changed_same = sym (ap (λ trees. tables_changed trees cs) same)

    -- the rows that were asked are those of the table as it is told
    told_rows : (held : List Row) → (HasCleanDisk (state b) → IsAtRest (state a) → IsShapedSo (contents_of (state a).now.trees) schema cs → held ≡ (state_at (tables_changed (state a).now.trees cs).states q.table).rows)
        → held ≡ rows_at (rows_of_tables (tables_changed (state a).now.trees cs).states) q.table
    told_rows held is = is clean (record { ready = steady_then.ready; held = steady_then.held }) steady_then.shaped ∙ sym (rows_are (tables_changed (state a).now.trees cs).states q.table)

  began_stays : MayFallSilent lost Stays (began_of state before) (began_of state after)
  began_stays = told_goes (state a) (state b) knows (call_failed r) lost w.stays.later failed dirty Stays (tables_kept (state a).now.trees) (tables_kept (state b).now.trees) kept_same

  told_so : (P : Tables → Tables → Type 0) → (tells (state b) now_knows ≡ true → P (tables_changed (state a).now.trees cs) (tables_changed (state b).now.trees cs)) → MayFallSilent lost P (told_of state before) (told_of state after)
  told_so P h = told_goes (state a) (state b) knows (call_failed r) lost w.stays.later failed dirty P (tables_changed (state a).now.trees cs) (tables_changed (state b).now.trees cs) h

few : (q : Query) (held asked : List Row) → AreAsked q held asked → length asked ≡ length (filter (lies q) held)
few q held asked are = length_permutation (filter (lies q) held) asked are.rearranged

pub asks_seat : {S : Type 0} (state : Held S → State) (a b : Held S) (schema : Schema) (cs : List TableChanges) (ns : List RowCount) (q : Query) (begun knows : Bool) (visited visited' faults faults' : ℕ) (r : Result (Vec Row Global) KeeperEnd)
    → StateAsks (state a) (state b) schema cs q r → faults ≤ faults' → (call_failed r ≡ true → Rose faults faults') → IfOk r (λ rows. visited' ≡ min (visited + length rows.items) (2 ^ 64 - 1)) → OnErr r (visited' ≡ visited) → visited ≤ visited'
    → IsKept state (kept (Some a) knows (Some schema) cs ns begun visited faults)
    → IsKept state (kept (Some b) (knows && not (call_failed r)) (Some schema) cs ns begun visited' faults')
    × Asks state q (kept (Some a) knows (Some schema) cs ns begun visited faults) (kept (Some b) (knows && not (call_failed r)) (Some schema) cs ns begun visited' faults') r
asks_seat {S} state a b schema cs ns q begun knows visited visited' faults faults' (Err x) w up rose seen none more was =
    let r : Result (Vec Row Global) KeeperEnd = Err x in (
      steady_now state a b schema cs ns q begun knows visited visited' faults faults' r w rose was,
      record {
        rows = tt;
        told = tt;
        err = told_so state a b schema cs ns q begun knows visited visited' faults faults' r w rose was Stays (changed_same state a b schema cs ns q begun knows visited visited' faults faults' r w rose was);
        least = tt;
        most = rows_if (tells (state b) (knows && not (call_failed r))) (tables_changed (state b).now.trees cs) (λ tables. visited' ≤ visited + length (filter (lies q) (rows_at tables q.table))) (λ e. omega (arith, none));
        passes = record {
          began = began_stays state a b schema cs ns q begun knows visited visited' faults faults' r w rose was;
          attached = refl;
          crash = told_no_more (state a) (state b) knows (call_failed r) _ w.stays.later (λ f. inl (rose f)) (λ d. inr d) (tables_kept (state a).now.trees) (tables_kept (state b).now.trees) (kept_same state a b schema cs ns q begun knows visited visited' faults faults' r w rose was);
          mode = refl;
          visited = more;
          loan = refl;
        };
        shaped = refl;
        cause = record { later = record { faults = up; doubt = w.stays.later }; failed = λ f. rose (ap call_failed f) };
      },
    )
asks_seat {S} state a b schema cs ns q begun knows visited visited' faults faults' (Ok rows) w up rose seen none more was =
    let r : Result (Vec Row Global) KeeperEnd = Ok rows in
    let t = w.asked.0 in
    let held = w.asked.1 in
    let are : AreAsked q held rows.items = w.asked.4 in
    let here = λ (e : tells (state b) (knows && not (call_failed r)) ≡ true). (told_rows state a b schema cs ns q begun knows visited visited' faults faults' r w rose was e held w.asked.5) in
    let there = λ (e : tells (state b) (knows && not (call_failed r)) ≡ true). (here e ∙ sym (ap (λ (x : Tables). rows_at (rows_of_tables x.states) q.table) (changed_same state a b schema cs ns q begun knows visited visited' faults faults' r w rose was e))) in (
      steady_now state a b schema cs ns q begun knows visited visited' faults faults' r w rose was,
      record {
        rows = (t, held, record { is_table = w.asked.2; held = w.asked.3; told_rows = rows_if (tells (state b) (knows && not (call_failed r))) (tables_changed (state b).now.trees cs) (λ tables. held ≡ rows_at tables q.table) there }, are);
        told = told_so state a b schema cs ns q begun knows visited visited' faults faults' r w rose was (λ x y. AreAsked q (rows_at (rows_of_tables x.states) q.table) rows.items × (y ≡ x)) (λ e. (subst (λ l. AreAsked q l rows.items) (here e) are, changed_same state a b schema cs ns q begun knows visited visited' faults faults' r w rose was e));
        err = tt;
        least = omega (arith, seen);
        most = rows_if (tells (state b) (knows && not (call_failed r))) (tables_changed (state b).now.trees cs) (λ tables. visited' ≤ visited + length (filter (lies q) (rows_at tables q.table)))
            (λ e. (let all = few q held rows.items are ∙ ap (λ l. length (filter (lies q) l)) (there e) in omega (arith, seen, all)));
        passes = record {
          began = began_stays state a b schema cs ns q begun knows visited visited' faults faults' r w rose was;
          attached = refl;
          crash = told_no_more (state a) (state b) knows (call_failed r) _ w.stays.later (λ f. inl (rose f)) (λ d. inr d) (tables_kept (state a).now.trees) (tables_kept (state b).now.trees) (kept_same state a b schema cs ns q begun knows visited visited' faults faults' r w rose was);
          mode = refl;
          visited = more;
          loan = refl;
        };
        shaped = refl;
        cause = record { later = record { faults = up; doubt = w.stays.later }; failed = λ f. absurd cc };
      },
    )

-- ---- whatever the seat

not_asked : {S : Type 0} (state : Held S → State) (q : Query) (o : Option Schema) (cs : List TableChanges) (ns : List RowCount) (begun knows now : Bool) (visited visited' faults faults' : ℕ) (r : Result (Vec Row Global) KeeperEnd) → call_failed r ≡ true → faults ≤ faults'
    → (call_failed r ≡ true → Rose faults faults') → visited ≤ visited' → Asks state q (kept None knows o cs ns begun visited faults) (kept None now o cs ns begun visited' faults') r
not_asked state q o cs ns begun knows now visited visited' faults faults' (Ok x) failed up rose more = absurd cc
not_asked state q o cs ns begun knows now visited visited' faults faults' (Err x) failed up rose more = record {
  rows = tt;
  told = tt;
  err = refl;
  least = tt;
  most = tt;
  passes = record { began = refl; attached = refl; crash = refl; mode = refl; visited = more; loan = refl };
  shaped = refl;
  cause = record { later = record { faults = up; doubt = omega arith }; failed = λ f. rose (ap call_failed f) };
}

module _ {S : Type 0} (state : Held S → State) (q : Query) (cs : List TableChanges) (ns : List RowCount) (begun knows now : Bool) (visited visited' faults faults' : ℕ) (r : Result (Vec Row Global) KeeperEnd)
    (same : call_failed r ≡ false → now ≡ knows) (silent : call_failed r ≡ true → now ≡ false) (up : faults ≤ faults') (rose : call_failed r ≡ true → Rose faults faults')
    (seen : IfOk r (λ rows. visited' ≡ min (visited + length rows.items) (2 ^ 64 - 1))) (none : OnErr r (visited' ≡ visited)) (more : visited ≤ visited') where
  pub asks : (a b : Option (Held S)) (o : Option Schema) → SeatAsks state a b o cs q r → IsSome o → IsKept state (kept a knows o cs ns begun visited faults)
      → IsKept state (kept b now o cs ns begun visited' faults') × Asks state q (kept a knows o cs ns begun visited faults) (kept b now o cs ns begun visited' faults') r
  asks (Some a) (Some b) (Some schema) w there was =
      subst (λ k. IsKept state (kept (Some b) k (Some schema) cs ns begun visited' faults') × Asks state q (kept (Some a) knows (Some schema) cs ns begun visited faults) (kept (Some b) k (Some schema) cs ns begun visited' faults') r)
      (sym (knows_is knows now (call_failed r) same silent)) (asks_seat state a b schema cs ns q begun knows visited visited' faults faults' r w up rose seen none more was)
  asks (Some a) (Some b) None w there was = absurd (let e : ◌≡◌ {A = Bool} false true = there in cc)
  asks None None o w there was = (tt, not_asked state q o cs ns begun knows now visited visited' faults faults' r w up rose more)
  asks (Some a) None o w there was = absurd w
  asks None (Some b) o w there was = absurd w
