-- What a status says of the report.
use Rattle.std.proofs.Common.{◌≡◌, ℕ, inl, inr, List, Option, Some, String, refl, sym, ◌∙◌, subst, false, true, nat_eq, eq-eqb}
use Rattle.std.specs.declared.alloc.Global.{Global}
use Rattle.app_cells.specs.declared.app.App.{App}
use Rattle.fx_base.specs.Faults.{Rose}
use Rattle.fx_base.specs.Telling.{Tells}
use Rattle.fx_cli.specs.declared.files.Files as files
use Rattle.fx_cli.specs.declared.replay.ReplayEnd.{ReplayEnd}
use Rattle.fx_cli.specs.declared.replay.ReplayEnd.TheVariants as replay
use Rattle.fx_cli.specs.declared.report.Report.{Report}
use Rattle.fx_cli.specs.declared.report.Report.TheVariants.{Shown, Checked, Broken, Usage, OutOfMemory, Unread, KeeperFault, OtherSchema, Replayed}
use Rattle.fx_cli.specs.declared.sink.Sink as sink
use Rattle.fx_cli.specs.declared.words.Form.TheVariants.{View, Check, Serve}
use Rattle.fx_cli.specs.Outside.{Work, WorkSight}
use Rattle.fx_cli.specs.Report.{EndsService, RunEndsWith, NothingBegun, IsReadOnceAtMost, IsService, IsSaid, IsTimeless, LeavesKeeper, Reports, Wanted, status_of, report_text, text_of_end}
use Rattle.fx_cli.specs.Run.{LeavesAlone}
use Rattle.fx_cli.specs.Words.{service, wanted}
use Rattle.fx_cli.specs.Telling.{Grows}
use Rattle.fx_cli.proofs.Reported.{not_both, not_served, not_view}

-- statuses differ
other : (m n : ℕ) → nat_eq m n ≡ false → m ≡ n → ⊥
other m n h e = let same : nat_eq m n ≡ true = eq-eqb m n e in cc

-- a replay that ends with 0 is done
pub is_done : {F : Type 0} (f : files.Ghosts F) (old new : F) (shows : App → String Global → Type 0) (ends : App → Report → Type 0) (wanted : Wanted) (r : Report) → Reports f old new shows ends wanted r → status_of r ≡ 0 → (name : List ℕ) → wanted ≡ Some (Serve, name) → r ≡ Replayed replay.Done
is_done f old new shows ends wanted (Shown text) h e name is = absurd (not_both wanted h.takes.name name h.takes.asks.is_wanted is)
is_done f old new shows ends wanted (Checked text) h e name is = absurd (not_served wanted h.takes.name name h.takes.asks.is_wanted is)
is_done f old new shows ends wanted (Broken text) h e name is = absurd (other 1 0 refl e)
is_done f old new shows ends wanted Usage h e name is = absurd (other 2 0 refl e)
is_done f old new shows ends wanted OutOfMemory h e name is = absurd (other 3 0 refl e)
is_done f old new shows ends wanted (Unread text) h e name is = absurd (other 4 0 refl e)
is_done f old new shows ends wanted KeeperFault h e name is = absurd (other 5 0 refl e)
is_done f old new shows ends wanted OtherSchema h e name is = absurd (other 8 0 refl e)
is_done f old new shows ends wanted (Replayed replay.Done) h e name is = refl
is_done f old new shows ends wanted (Replayed replay.Fault) h e name is = absurd (other 6 0 refl e)
is_done f old new shows ends wanted (Replayed replay.Full) h e name is = absurd (other 9 0 refl e)

-- one that ends with 5 or 8 couldn't open its keeper
pub is_keeper_fault : (r : Report) → status_of r ≡ 5 → r ≡ KeeperFault
is_keeper_fault (Shown text) e = absurd (other 0 5 refl e)
is_keeper_fault (Checked text) e = absurd (other 0 5 refl e)
is_keeper_fault (Broken text) e = absurd (other 1 5 refl e)
is_keeper_fault Usage e = absurd (other 2 5 refl e)
is_keeper_fault OutOfMemory e = absurd (other 3 5 refl e)
is_keeper_fault (Unread text) e = absurd (other 4 5 refl e)
is_keeper_fault KeeperFault e = refl
is_keeper_fault OtherSchema e = absurd (other 8 5 refl e)
is_keeper_fault (Replayed replay.Done) e = absurd (other 0 5 refl e)
is_keeper_fault (Replayed replay.Fault) e = absurd (other 6 5 refl e)
is_keeper_fault (Replayed replay.Full) e = absurd (other 9 5 refl e)

pub is_other_schema : (r : Report) → status_of r ≡ 8 → r ≡ OtherSchema
is_other_schema (Shown text) e = absurd (other 0 8 refl e)
is_other_schema (Checked text) e = absurd (other 0 8 refl e)
is_other_schema (Broken text) e = absurd (other 1 8 refl e)
is_other_schema Usage e = absurd (other 2 8 refl e)
is_other_schema OutOfMemory e = absurd (other 3 8 refl e)
is_other_schema (Unread text) e = absurd (other 4 8 refl e)
is_other_schema KeeperFault e = absurd (other 5 8 refl e)
is_other_schema OtherSchema e = refl
is_other_schema (Replayed replay.Done) e = absurd (other 0 8 refl e)
is_other_schema (Replayed replay.Fault) e = absurd (other 6 8 refl e)
is_other_schema (Replayed replay.Full) e = absurd (other 9 8 refl e)

-- with 6 it ends by a fault of the doors
pub is_fault : (r : Report) → status_of r ≡ 6 → r ≡ Replayed replay.Fault
is_fault (Shown text) e = absurd (other 0 6 refl e)
is_fault (Checked text) e = absurd (other 0 6 refl e)
is_fault (Broken text) e = absurd (other 1 6 refl e)
is_fault Usage e = absurd (other 2 6 refl e)
is_fault OutOfMemory e = absurd (other 3 6 refl e)
is_fault (Unread text) e = absurd (other 4 6 refl e)
is_fault KeeperFault e = absurd (other 5 6 refl e)
is_fault OtherSchema e = absurd (other 8 6 refl e)
is_fault (Replayed replay.Done) e = absurd (other 0 6 refl e)
is_fault (Replayed replay.Fault) e = refl
is_fault (Replayed replay.Full) e = absurd (other 9 6 refl e)

-- with 9 it ends at a limit
pub is_full : (r : Report) → status_of r ≡ 9 → r ≡ Replayed replay.Full
is_full (Shown text) e = absurd (other 0 9 refl e)
is_full (Checked text) e = absurd (other 0 9 refl e)
is_full (Broken text) e = absurd (other 1 9 refl e)
is_full Usage e = absurd (other 2 9 refl e)
is_full OutOfMemory e = absurd (other 3 9 refl e)
is_full (Unread text) e = absurd (other 4 9 refl e)
is_full KeeperFault e = absurd (other 5 9 refl e)
is_full OtherSchema e = absurd (other 8 9 refl e)
is_full (Replayed replay.Done) e = absurd (other 0 9 refl e)
is_full (Replayed replay.Fault) e = absurd (other 6 9 refl e)
is_full (Replayed replay.Full) e = refl

-- what was replayed, up to this end
pub replay_at : (end : ReplayEnd) → {F : Type 0} (f : files.Ghosts F) (old new : F) (shows : App → String Global → Type 0) (ends : App → Report → Type 0) (wanted : Wanted) (r : Report) → Reports f old new shows ends wanted r → r ≡ Replayed end → (o o' : Option (List ℕ)) → Tells (Grows (report_text r)) o o'
    → IsService f old new wanted (λ app. ends app (Replayed end)) × Tells (Grows (text_of_end end)) o o'
replay_at end f old new shows ends wanted r h e o o' t =
    (subst (λ x. Reports f old new shows ends wanted x) e h, subst (λ x. Tells (Grows (report_text x)) o o') e t)

-- a status other than 7 is that of the report, and its text was written
pub said_with : {O : Type 0} (see : sink.Ghosts O) (o o' : O) (r : Report) (status n : ℕ) → IsSaid see o o' r status → nat_eq n 7 ≡ false → status ≡ n
    → (status_of r ≡ n) × Tells (Grows (report_text r)) (see.told o) (see.told o')
said_with see o o' r status n (inl h) other e = (sym h.0 ∙ e, h.1)
said_with see o o' r status n (inr h) other e = let seven : n ≡ 7 = sym e ∙ h.0 in let same = rw seven at other in absurd (cc)

-- how a run ends is how its report ends, but for a fault of the sink
pub or_fault : {O : Type 0} (see : sink.Ghosts O) (o o' : O) (wanted status : ℕ) (r : Report) (files_rose : Type 0) → IsSaid see o o' r status
    → RunEndsWith wanted (status_of r) files_rose (Rose (see.faults o) (see.faults o')) → RunEndsWith wanted status files_rose (Rose (see.faults o) (see.faults o'))
or_fault see o o' wanted status r files_rose (inl h) ends = rw h.0 ends
or_fault see o o' wanted status r files_rose (inr h) ends = inr (inr (inr h.1))

pub or_fault_replayed : {O : Type 0} (see : sink.Ghosts O) (o o' : O) (status : ℕ) (r : Report) (files_rose : Type 0) → IsSaid see o o' r status
    → EndsService (status_of r) files_rose (Rose (see.faults o) (see.faults o')) → EndsService status files_rose (Rose (see.faults o) (see.faults o'))
or_fault_replayed see o o' status r files_rose (inl h) ends = rw h.0 ends
or_fault_replayed see o o' status r files_rose (inr h) ends = inr (inr (inr (inr (inr (inr (inr h.1))))))

module _ {D K F C : Type 0} (see : WorkSight D K F C) (words : List (String Global)) (old new : Work D K F C) where
  -- what a view leaves alone
  pub viewed_leaves : (name : List ℕ) (r : Report) → wanted words ≡ Some (View, name) → (r ≡ Usage → ⊥) → new.doors ≡ old.doors → (IsTimeless r → new.clock ≡ old.clock)
      → IsReadOnceAtMost see.clock.told old.clock new.clock → new.keeper ≡ old.keeper → LeavesAlone see words old new r
  viewed_leaves name (Shown text) is known same timeless read kept = (same, kept)
  viewed_leaves name (Checked text) is known same timeless read kept = (same, timeless tt, kept)
  viewed_leaves name (Broken text) is known same timeless read kept = (same, timeless tt, kept)
  viewed_leaves name Usage is known same timeless read kept = absurd (known refl)
  viewed_leaves name OutOfMemory is known same timeless read kept =
      (same, λ h. absurd (not_both (wanted words) name h.0 is h.1), λ _. (read, kept), λ h. absurd (not_view (wanted words) h.0 name h.1 is))
  viewed_leaves name (Unread text) is known same timeless read kept = (same, timeless tt, kept)
  viewed_leaves name KeeperFault is known same timeless read kept = (same, timeless tt)
  viewed_leaves name OtherSchema is known same timeless read kept = (same, timeless tt)
  viewed_leaves name (Replayed end) is known same timeless read kept = tt

  -- and a replay
  pub replayed_leaves : (name : List ℕ) (r : Report) → wanted words ≡ Some (Serve, name) → (r ≡ Usage → ⊥) → (NothingBegun r → (new.doors ≡ old.doors) × (new.clock ≡ old.clock))
      → LeavesKeeper see.keeper (service words).store old.keeper new.keeper r → LeavesAlone see words old new r
  replayed_leaves name (Shown text) is known idle kept = ((idle tt).0, kept)
  replayed_leaves name (Checked text) is known idle kept = ((idle tt).0, (idle tt).1, kept)
  replayed_leaves name (Broken text) is known idle kept = ((idle tt).0, (idle tt).1, kept)
  replayed_leaves name Usage is known idle kept = absurd (known refl)
  replayed_leaves name OutOfMemory is known idle kept =
      ((idle tt).0, λ _. ((idle tt).1, kept), λ h. absurd (not_both (wanted words) h.0 name h.1 is), λ h. absurd (not_served (wanted words) h.0 name h.1 is))
  replayed_leaves name (Unread text) is known idle kept = ((idle tt).0, (idle tt).1, kept)
  replayed_leaves name KeeperFault is known idle kept = idle tt
  replayed_leaves name OtherSchema is known idle kept = idle tt
  replayed_leaves name (Replayed end) is known idle kept = tt

  -- and a check, which leaves all but the files
  pub checked_leaves : (name : List ℕ) (r : Report) → wanted words ≡ Some (Check, name) → (r ≡ Usage → ⊥) → new.doors ≡ old.doors → new.clock ≡ old.clock → new.keeper ≡ old.keeper
      → LeavesAlone see words old new r
  checked_leaves name (Shown text) is known same still kept = (same, kept)
  checked_leaves name (Checked text) is known same still kept = (same, still, kept)
  checked_leaves name (Broken text) is known same still kept = (same, still, kept)
  checked_leaves name Usage is known same still kept = absurd (known refl)
  checked_leaves name OutOfMemory is known same still kept =
      (same, λ h. absurd (not_served (wanted words) name h.0 is h.1), λ h. absurd (not_view (wanted words) name h.0 is h.1), λ _. (still, kept))
  checked_leaves name (Unread text) is known same still kept = (same, still, kept)
  checked_leaves name KeeperFault is known same still kept = (same, still)
  checked_leaves name OtherSchema is known same still kept = (same, still)
  checked_leaves name (Replayed end) is known same still kept = tt
