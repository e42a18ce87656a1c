-- Whole transactions.
use Rattle.std.proofs.Common.{◌≡◌, Bool, true, false, List, Option, None, refl, sym, ◌∙◌, subst, Ok, Err}
use Rattle.std.specs.Result.{is_ok}
use Rattle.fx_base.specs.Silence.{MayFallSilent, IsLater, SilenceCause, Marks}
use Rattle.fx_base.specs.Telling.{Stays}
use Rattle.fx_base.proofs.Silences.{goes_two, later_then, lost_before, lost_more}
use Rattle.fx_types.specs.Values.{Data}
use Rattle.fx_core.specs.declared.schema.Column.{Column}
use Rattle.row_keeper.specs.Tables.{Tables}
use Rattle.row_imports.specs.Imports.{import}
use Rattle.row_imports.specs.Lines.{ImportsLines}
use Rattle.row_imports.specs.declared.imports.BrokenLine.{BrokenLine}
use Rattle.row_imports.specs.declared.lines.Heading.{Heading}
use Rattle.row_requests.proofs.Transactions.{undone}
use Rattle.csv_requests.specs.Transactions.{ImportOutcome, ImportsWhole}

module _ (columns : List Column) (h : Heading) (lines : List (List Data)) where
  -- a line breaks a rule, whatever the tables are then
  abbrev Breaks : BrokenLine → Tables → Tables → Type 0
  Breaks e a b = import columns h.table h.key h.columns 1 lines a ≡ Err e

  refusing : (o : ImportOutcome) → is_ok o ≡ false → (k l m n : Marks) → IsLater k l → IsLater l m → IsLater m n → (x told began told' began' told'' : Option Tables)
      → MayFallSilent (SilenceCause k l) Stays x told → began ≡ told → MayFallSilent (SilenceCause l m) (ImportsLines columns h lines o) told told' → MayFallSilent (SilenceCause l m) Stays began began'
      → (told' ≡ None → began' ≡ None) → MayFallSilent (SilenceCause m n) Stays began' told'' → MayFallSilent (SilenceCause k n) (ImportsWhole columns h lines o) x told''
  refusing (Ok c) denied k l m n a b d x told began told' began' told'' g e i j quiet t = absurd cc
  refusing (Err r) denied k l m n a b d x told began told' began' told'' g e i j quiet t =
      undone Tables (SilenceCause k m) (SilenceCause m n) (SilenceCause k n) (Breaks r) (lost_more k m n d) (lost_before k m n (later_then k l m a b)) x began' told' told''
      (goes_two Stays (ImportsLines columns h lines (Err r)) (λ t _. (u : Tables) → Breaks r t u) (λ t u v same done w. subst (λ (w : Tables). Breaks r w v) same done) k l m a b x told told' g i)
      quiet
      (goes_two Stays Stays Stays (λ t u v p q. q ∙ p) k l m a b x told began' g (subst (λ o. MayFallSilent (SilenceCause l m) Stays o began') e j))
      t

  accepting : (o : ImportOutcome) → is_ok o ≡ true → (k l m n : Marks) → IsLater k l → IsLater l m → IsLater m n → (x told told' told'' : Option Tables)
      → MayFallSilent (SilenceCause k l) Stays x told → MayFallSilent (SilenceCause l m) (ImportsLines columns h lines o) told told' → MayFallSilent (SilenceCause m n) Stays told' told''
      → MayFallSilent (SilenceCause k n) (ImportsWhole columns h lines o) x told''
  accepting (Err r) accepts k l m n a b d x told told' told'' g i t = absurd cc
  accepting (Ok c) accepts k l m n a b d x told told' told'' g i t =
      goes_two (ImportsLines columns h lines (Ok c)) Stays (ImportsWhole columns h lines (Ok c)) (λ t u v done same. subst (λ (w : Tables). ImportsWhole columns h lines (Ok c) t w) (sym same) done)
      k m n (later_then k l m a b) d x told' told''
      (goes_two Stays (ImportsLines columns h lines (Ok c)) (ImportsLines columns h lines (Ok c)) (λ t u v same done. subst (λ (w : Tables). ImportsLines columns h lines (Ok c) w v) same done) k l m a b x told told' g i)
      t

  -- the whole transaction, which is ended by whether the lines were accepted
  pub settled : (o : ImportOutcome) (k l m n : Marks) → IsLater k l → IsLater l m → IsLater m n → (x told began told' began' told'' : Option Tables)
      → MayFallSilent (SilenceCause k l) Stays x told → began ≡ told → MayFallSilent (SilenceCause l m) (ImportsLines columns h lines o) told told' → MayFallSilent (SilenceCause l m) Stays began began' → (told' ≡ None → began' ≡ None)
      → (accepted : Bool) → accepted ≡ is_ok o → (accepted ≡ true → MayFallSilent (SilenceCause m n) Stays told' told'') → (accepted ≡ false → MayFallSilent (SilenceCause m n) Stays began' told'')
      → MayFallSilent (SilenceCause k n) (ImportsWhole columns h lines o) x told''
  settled o k l m n a b d x told began told' began' told'' g e i j quiet true is keeps leaves =
      accepting o (sym is) k l m n a b d x told told' told'' g i (keeps refl)
  settled o k l m n a b d x told began told' began' told'' g e i j quiet false is keeps leaves =
      refusing o (sym is) k l m n a b d x told began told' began' told'' g e i j quiet (leaves refl)
