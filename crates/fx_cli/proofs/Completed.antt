-- That what is asked for is done.
use Rattle.std.proofs.Common.{◌≡◌, ◌⊎◌, inl, inr, ℕ, Bool, true, false, List, [], ◌∷◌, Option, Some, None, Ok, Err, String, refl, sym, ◌∙◌, subst, string_bytes}
use Rattle.std.specs.Prelude.{IfSome, IsSomeAnd, bytes_eq, codes}
use Rattle.std.specs.declared.alloc.Global.{Global}
use Rattle.app_cells.specs.declared.app.App.{App}
use Rattle.fx_base.specs.Silence.{MayFallSilent, IsLater, SilenceCause, Marks}
use Rattle.fx_base.proofs.Silences.{lost_before, lost_more}
use Rattle.fx_core.specs.declared.schema.Schema.{Schema}
use Rattle.fx_core.specs.declared.broken.Broken.{Broken as Break}
use Rattle.office.specs.State.{schema_of}
use Rattle.office.specs.app_loader.Judged.{JudgedApp}
use Rattle.row_keeper.specs.Changes.{Shapes}
use Rattle.row_keeper.specs.Tables.{Tables}
use Rattle.row_keeper.specs.declared.keeper.Keeper as keeper
use Rattle.sample_app.specs.Sample.{app_text}
use Rattle.fx_cli.specs.Complete.{Completes, IsDone, KeepsNoOther, NothingFailed}
use Rattle.fx_cli.specs.Opening.{IsAsked}
use Rattle.fx_cli.specs.Outside.{Outside, Sight}
use Rattle.fx_cli.specs.Report.{EndsService, RunEndsWith, HasFile, IsSaid, JudgedAs}
use Rattle.fx_cli.specs.Run.{EndsWell, FilesRose, Run, SinkRose}
use Rattle.fx_cli.specs.Sampled.{ReportsSample}
use Rattle.fx_cli.specs.Words.{is_word, sample, sample_if, service, wanted}
use Rattle.fx_cli.specs.declared.report.Report.{Report}
use Rattle.fx_cli.specs.declared.report.Report.TheVariants.{Shown, Checked, Broken, Usage, OutOfMemory, Unread, KeeperFault, OtherSchema, Replayed}
use Rattle.fx_cli.specs.declared.words.Form.{Form}
use Rattle.fx_cli.specs.declared.words.Form.TheVariants.{View, Check, Serve}
use Rattle.fx_cli.proofs.Reported.{same_bytes}
use Rattle.fx_cli.proofs.Runs.{eight_is_another, five_is_a_fault, six_is_a_fault}
use Rattle.fx_cli.proofs.Samples.{sample_alone}

-- words that ask for a sample load name no file
names_none : (words : List (String Global)) (n : ℕ) → sample words ≡ Some n → wanted words ≡ None
names_none [] n e = absurd cc
names_none (command ∷ []) n e = absurd cc
names_none (command ∷ number ∷ []) n e = by (is_word (codes "gen") command) refl e
  where
    by : (b : Bool) → is_word (codes "gen") command ≡ b → sample_if b (string_bytes number) ≡ Some n → wanted (command ∷ number ∷ []) ≡ None
    by true is some = sample_alone command number is
    by false is some = absurd cc
names_none (command ∷ number ∷ other ∷ words) n e = absurd cc

pub asks_for_no_sample : (words : List (String Global)) (form : Form) (name : List ℕ) → wanted words ≡ Some (form, name) → sample words ≡ None
asks_for_no_sample words form name is = by (sample words) refl
  where
    by : (o : Option ℕ) → sample words ≡ o → o ≡ None
    by None e = refl
    by (Some n) e = let none = names_none words n e in absurd cc

-- tables in which no other schema is kept answer no other
no_other : (lost : Type 0) (schema other : Schema) (x y : Option Tables) → (lost → ⊥) → IsSomeAnd x (λ (t : Tables). IfSome t.kept (λ s. s ≡ schema)) → MayFallSilent lost (Shapes schema (Some other)) x y → ⊥
no_other lost schema other None y sure keeps h = keeps
no_other lost schema other (Some t) None sure keeps h = sure h
no_other lost schema other (Some t) (Some u) sure keeps h = h.1 (subst (λ (o : Option Schema). IfSome o (λ s. s ≡ schema)) h.0 keeps)

module _ {D K F O C : Type 0} (see : Sight D K F O C) (words : List (String Global)) (old new : Outside D K F O C) where
  -- no keeper answers another schema than the one that it keeps
  asked_no_other : (store bytes : List ℕ) (app : App) (other : Schema) → NothingFailed see words old new → KeepsNoOther see words old new store bytes → JudgedApp bytes (Ok app)
      → IsAsked see.work.keeper store (schema_of app) (Some other) old.work.keeper new.work.keeper → ⊥
  asked_no_other store bytes app other nothing keeps judged is =
      let marks = see.work.keeper.marks in
      no_other (SilenceCause (marks is.between) (marks new.work.keeper)) (schema_of app) other (see.work.keeper.told is.between) (see.work.keeper.told new.work.keeper)
      (λ lost. nothing.keeper (lost_before (marks old.work.keeper) (marks is.between) (marks new.work.keeper) is.is_attached.later lost))
      (keeps is.between app is.is_attached judged) is.shapes

  -- a file is shown or checked
  shown_or_checked : (status : ℕ) → NothingFailed see words old new → RunEndsWith 0 status (FilesRose see words old new) (SinkRose see words old new) → (status ≡ 0) ⊎ (status ≡ 3)
  shown_or_checked status nothing (inl h) = inl h
  shown_or_checked status nothing (inr (inl h)) = inr h
  shown_or_checked status nothing (inr (inr (inl rose))) = absurd (nothing.files rose)
  shown_or_checked status nothing (inr (inr (inr rose))) = absurd (nothing.out rose)

  -- an app is served
  served : (status : ℕ) (bytes : List ℕ) → Run see words old new status → HasFile see.work.files old.work.files (wanted words) Serve bytes → NothingFailed see words old new
      → KeepsNoOther see words old new (service words).store bytes → EndsService status (FilesRose see words old new) (SinkRose see words old new) → IsDone Serve status
  served status bytes run has nothing keeps (inl five) = absurd (nothing.keeper (inl (five_is_a_fault see words old new (sample words) refl (subst (Run see words old new) five run))))
  served status bytes run has nothing keeps (inr (inl six)) = absurd (nothing.doors (six_is_a_fault see words old new (sample words) refl (subst (Run see words old new) six run)))
  served status bytes run has nothing keeps (inr (inr (inl eight))) =
      let is = eight_is_another see words old new (subst (Run see words old new) eight run) (asks_for_no_sample words Serve has.name has.is_wanted) in
      absurd (asked_no_other (service words).store bytes is.app is.ended.0 nothing keeps
      (subst (λ (bs : List ℕ). JudgedApp bs (Ok is.app)) (same_bytes see.work.files old.work.files new.work.files (wanted words) Serve bytes is.bytes has is.takes) is.judged) is.ended.1)
  served status bytes run has nothing keeps (inr (inr (inr (inl nine)))) = inr (inl nine)
  served status bytes run has nothing keeps (inr (inr (inr (inr (inl zero))))) = inl zero
  served status bytes run has nothing keeps (inr (inr (inr (inr (inr (inl three)))))) = inr (inr three)
  served status bytes run has nothing keeps (inr (inr (inr (inr (inr (inr (inl rose))))))) = absurd (nothing.files rose)
  served status bytes run has nothing keeps (inr (inr (inr (inr (inr (inr (inr rose))))))) = absurd (nothing.out rose)

  by_form : (status : ℕ) → Run see words old new status → (form : Form) (bytes : List ℕ) (app : App) → HasFile see.work.files old.work.files (wanted words) form bytes → JudgedAs form bytes (Ok app)
      → NothingFailed see words old new → (form ≡ Serve → KeepsNoOther see words old new (service words).store bytes) → IsDone form status
  by_form status run View bytes app has is nothing keeps = shown_or_checked status nothing ((run.told View bytes has).accepted app is)
  by_form status run Check bytes app has is nothing keeps = shown_or_checked status nothing ((run.told Check bytes has).accepted app is)
  by_form status run Serve bytes app has is nothing keeps = served status bytes run has nothing (keeps refl) ((run.told Serve bytes has).accepted app is)

  -- the status of a report of a sample load
  of_sample : (n : ℕ) (r : Report) (status : ℕ) → ReportsSample see.work.keeper n old.work.keeper new.work.keeper r → IsSaid see.out old.out new.out r status
      → ((breaks : List Break) → JudgedApp app_text (Err breaks) → ⊥) → NothingFailed see words old new → KeepsNoOther see words old new [] app_text → (status ≡ 0) ⊎ (status ≡ 3)
  of_sample n r status h (inr said) whole nothing keeps = absurd (nothing.out said.1)
  of_sample n (Shown text) status h (inl said) whole nothing keeps = inl said.0
  of_sample n (Checked text) status h (inl said) whole nothing keeps = absurd h
  of_sample n (Broken text) status h (inl said) whole nothing keeps = absurd (whole h.0 h.1)
  of_sample n Usage status h (inl said) whole nothing keeps = absurd h
  of_sample n OutOfMemory status h (inl said) whole nothing keeps = inr said.0
  of_sample n (Unread text) status h (inl said) whole nothing keeps = absurd h
  of_sample n KeeperFault status h (inl said) whole nothing keeps = absurd (nothing.keeper (inl h.ends))
  of_sample n OtherSchema status h (inl said) whole nothing keeps = absurd (asked_no_other [] app_text h.app h.ends.0 nothing keeps h.judged h.ends.1)
  of_sample n (Replayed end) status h (inl said) whole nothing keeps = absurd h

  pub completes : (status : ℕ) → Run see words old new status → Completes see words old new status
  completes status run = record {
    file = by_form status run;
    sampled = λ n some whole nothing keeps. let ended = run.sampled n some in of_sample n ended.0 status ended.1 ended.5 whole nothing keeps;
  }

  -- a run that put the sample to its requests
  pub sample_completes : (n : ℕ) (r : Report) (status : ℕ) → sample words ≡ Some n → ReportsSample see.work.keeper n old.work.keeper new.work.keeper r → IsSaid see.out old.out new.out r status
      → Completes see words old new status
  sample_completes n r status some h said = record {
    file = λ form bytes app has is nothing keeps. absurd (let named = has.is_wanted in let none = names_none words n some in cc);
    sampled = λ m same whole nothing keeps. of_sample n r status h said whole nothing keeps;
  }
