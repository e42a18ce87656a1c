-- What a keeper tells after a call, by what its connection was and is.
use Rattle.std.proofs.Common.{◌≡◌, ◌∙◌, ◌⊎◌, inl, inr, ℕ, ◌<◌, ◌≤◌, ◌&&◌, not, Bool, true, false, if◌then◌else◌, List, [], ◌∷◌, Option, None, Some, ap, arith, refl, subst, sym}
use Rattle.std.specs.Prelude.{IfSome, option_map}
use Rattle.std.specs.List.{AllByRecursion}
use Rattle.fx_base.specs.Silence.{MayFallSilent}
use Rattle.fx_core.specs.declared.schema.Schema.{Schema}
use Rattle.sqlite.specs.State.{State, HasCleanDisk}
use Rattle.sqlite.specs.Tree.{Trees}
use Rattle.sqlite_trees.specs.View.{doubt}
use Rattle.sqlite_trees.proofs.Doubt.{no_doubt}
use Rattle.sql_meanings.specs.Body.{HasBody}
use Rattle.sql_meanings.specs.Lasts.{AreLasts}
use Rattle.sql_meanings.specs.Lines.{AreLines}
use Rattle.sql_meanings.specs.Marks.{AreMarks}
use Rattle.sql_contents.specs.Contents.{Contents, Holds, contents_of}
use Rattle.sql_contents.proofs.ContentLemmas.{body_is, lasts_are, lines_are, marks_are}
use Rattle.row_keeper.specs.Crashes.{LeavesNoMore, LeavesThese, MayLeave}
use Rattle.row_keeper.specs.Tables.{Tables}
use Rattle.row_changes.specs.declared.table.TableChanges.{TableChanges}
use Rattle.store_model.specs.Decoded.{tables_changed, tables_kept}
use Rattle.store_model.specs.Laws.{AreRestored}
use Rattle.store_model.specs.Model.{Kept, tells}
use Rattle.store_model.specs.Steady.{IsShapedSo, IsSteady, IsUnchanged}
use Rattle.store_model.proofs.RestoreLemmas.{restores_kept}

-- ---- whether it told, and tells

before : (k f a b : Bool) → doubt a ≤ doubt b → ((k && not f) && b) ≡ true → ((k && a) ≡ true) × (f ≡ false) × (b ≡ true)
unfolding doubt
before true false true true l e = (refl, refl, refl)
before true false false true l e = absurd (omega (arith, l))
before true false a false l e = absurd cc
before true true a b l e = absurd cc
before false f a b l e = absurd cc

since : (k f a b : Bool) (lost : Type 0) → (f ≡ true → lost) → (0 < doubt b → lost) → (k && a) ≡ true → ((k && not f) && b) ≡ false → lost
unfolding doubt
since true true a b lost failed dirty e g = failed refl
since true false a true lost failed dirty e g = absurd cc
since true false a false lost failed dirty e g = dirty (omega arith)
since false f a b lost failed dirty e g = absurd cc

-- two that are told or not
pub goes_by : (lost : Type 0) (P : Tables → Tables → Type 0) (b c : Bool) (x y : Tables) → (c ≡ true → b ≡ true) → (b ≡ true → c ≡ false → lost) → (c ≡ true → P x y) → MayFallSilent lost P (if b then Some x else None) (if c then Some y else None)
goes_by lost P true true x y back gone goes = goes refl
goes_by lost P true false x y back gone goes = gone refl refl
goes_by lost P false true x y back gone goes = absurd (let e = back refl in cc)
goes_by lost P false false x y back gone goes = refl

abbrev pub only : Option Tables → Option (List Tables)
only o = option_map (λ t. t ∷ []) o

pub no_more_by : (lost : Type 0) (b c : Bool) (x y : Tables) → (c ≡ true → b ≡ true) → (b ≡ true → c ≡ false → lost) → (c ≡ true → y ≡ x) → LeavesNoMore lost (only (if b then Some x else None)) (only (if c then Some y else None))
no_more_by lost true true x y back gone same = (inl (sym (same refl)), tt)
no_more_by lost true false x y back gone same = gone refl refl
no_more_by lost false true x y back gone same = absurd (let e = back refl in cc)
no_more_by lost false false x y back gone same = refl

pub may_leave_by : (lost : Type 0) (b c : Bool) (x first y : Tables) → (c ≡ true → b ≡ true) → (b ≡ true → c ≡ false → lost) → (c ≡ true → (x ≡ y) ⊎ (first ≡ y))
    → MayLeave lost (if b then Some x else None) (only (if b then Some first else None)) (only (if c then Some y else None))
may_leave_by lost true true x first y back gone same = (elim (same refl) [ inl e ↦ inl e | inr e ↦ inr (inl e) ], tt)
may_leave_by lost true false x first y back gone same = gone refl refl
may_leave_by lost false true x first y back gone same = absurd (let e = back refl in cc)
may_leave_by lost false false x first y back gone same = refl

pub leaves_by : (c : Bool) (x y : Tables) → (c ≡ true → x ≡ y) → LeavesThese (if c then Some x else None) (only (if c then Some y else None))
leaves_by true x y same = (ap (λ t. Some t) (same refl), tt)
leaves_by false x y same = tt

-- a call on a connection, which has failed or not
module _ (s t : State) (knows failed : Bool) (lost : Type 0) (later : doubt s.is_clean ≤ doubt t.is_clean) (rose : failed ≡ true → lost) (dirty : 0 < doubt t.is_clean → lost) where
  pub told_before : tells t (knows && not failed) ≡ true → tells s knows ≡ true
  told_before e = (before knows failed s.is_clean t.is_clean later e).0

  pub not_failed : tells t (knows && not failed) ≡ true → failed ≡ false
  not_failed e = (before knows failed s.is_clean t.is_clean later e).1

  pub clean_since : tells t (knows && not failed) ≡ true → HasCleanDisk t
  clean_since e = no_doubt t.is_clean (before knows failed s.is_clean t.is_clean later e).2

  pub silent_since : tells s knows ≡ true → tells t (knows && not failed) ≡ false → lost
  silent_since = since knows failed s.is_clean t.is_clean lost rose dirty

  pub told_goes : (P : Tables → Tables → Type 0) (x y : Tables) → (tells t (knows && not failed) ≡ true → P x y) → MayFallSilent lost P (if tells s knows then Some x else None) (if tells t (knows && not failed) then Some y else None)
  told_goes P x y goes = goes_by lost P (tells s knows) (tells t (knows && not failed)) x y told_before silent_since goes

  pub told_no_more : (x y : Tables) → (tells t (knows && not failed) ≡ true → y ≡ x) → LeavesNoMore lost (only (if tells s knows then Some x else None)) (only (if tells t (knows && not failed) then Some y else None))
  told_no_more x y same = no_more_by lost (tells s knows) (tells t (knows && not failed)) x y told_before silent_since same

  pub told_may_leave : (x first y : Tables) → (tells t (knows && not failed) ≡ true → (x ≡ y) ⊎ (first ≡ y))
      → MayLeave lost (if tells s knows then Some x else None) (only (if tells s knows then Some first else None)) (only (if tells t (knows && not failed) then Some y else None))
  told_may_leave x first y same = may_leave_by lost (tells s knows) (tells t (knows && not failed)) x first y told_before silent_since same

-- ---- what holds of the trees

pub holds_itself : (trees : Trees) (k : Contents) → Holds trees k → Holds trees (contents_of trees)
holds_itself trees k h = record {
  body = subst (HasBody trees) (sym (body_is trees k.body h.body)) h.body;
  lasts = subst (AreLasts trees) (sym (lasts_are trees k.lasts h.lasts)) h.lasts;
  lines = λ tab. subst (AreLines trees tab) (sym (lines_are trees tab (k.lines tab) (h.lines tab))) (h.lines tab);
  marks = λ tab col. subst (AreMarks trees tab col) (sym (marks_are trees tab col (k.marks tab col) (h.marks tab col))) (h.marks tab col);
}

-- ---- a transaction that has changed nothing

pub unchanged_restored : (cs : List TableChanges) → AllByRecursion IsUnchanged cs → AreRestored cs cs
unchanged_restored [] h = tt
unchanged_restored (c ∷ cs) h = (h.0, unchanged_restored cs h.1)

changed_none : (trees : Trees) (cs : List TableChanges) → cs ≡ [] → tables_changed trees cs ≡ tables_kept trees
changed_none trees cs none = ap (λ ds. tables_changed trees ds) none

pub still_told : {S : Type 0} (s : State) (k : Kept S) → IsSteady s k → AllByRecursion IsUnchanged k.tables → tables_changed s.now.trees k.tables ≡ tables_kept s.now.trees
still_told s k h same = go k.schema refl
  where
    go : (o : Option Schema) → k.schema ≡ o → tables_changed s.now.trees k.tables ≡ tables_kept s.now.trees
    go None e = changed_none s.now.trees k.tables (h.unshaped e).0
    go (Some schema) e = (restores_kept s.now.trees schema k.tables k.tables (subst (λ o. IfSome o (λ p. IsShapedSo (contents_of s.now.trees) p k.tables)) e h.shaped) (unchanged_restored k.tables same)).1
