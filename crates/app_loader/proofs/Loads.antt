-- What formulas, files and texts are judged as, stage by stage.
use Rattle.std.proofs.Common.{◌≡◌, ℕ, ◌<◌, ◌≤◌, List, [], ◌∷◌, true, false, nat_eq, All, length, map, Result, Ok, Err, IfErr, IfOk, refl, ap, sym, subst, ◌∙◌, arith}
use Rattle.std.specs.Prelude.{codes}
use Rattle.std.proofs.lemmas.Bool.{both_ways, eqb-true}
use Rattle.std.specs.Str.{IsUtf8, chars}
use Rattle.fx_sig.specs.Entries.{entries, entry}
use Rattle.fx_core.specs.Lawful.{IsLawful}
use Rattle.fx_core.specs.declared.app_end.AppEnd.{AppEnd}
use Rattle.fx_core.specs.declared.app_end.AppEnd.TheVariants as end
use Rattle.fx_core.specs.declared.broken.Broken.{Broken}
use Rattle.fx_core.specs.declared.names.Names.{Names}
use Rattle.fx_core.specs.declared.rule.Rule.TheVariants as rule
use Rattle.fx_core.specs.declared.signatures.Signature.{Signature}
use Rattle.session_state.specs.Changes.{HoldsTables}
use Rattle.serde_json.specs.Data.{Data}
use Rattle.app_file.specs.Files.{IsRead, IsReadOf, broken_of}
use Rattle.app_file.specs.declared.breaks.FileBreak.{FileBreak}
use Rattle.app_file.specs.declared.file.AppFile.{AppFile}
use Rattle.app_cells.specs.Spots.{IsPlaced}
use Rattle.app_cells.specs.declared.app.App.{App}
use Rattle.app_cells.specs.declared.cell.Cell.{Cell}
use Rattle.app_cells.specs.declared.frame.Frame.{Frame}
use Rattle.app_names.specs.AppNames.{AreNamesOf}
use Rattle.app_names.specs.NameRules.{in_app, name_breaks}
use Rattle.app_semantics.specs.Sound.{IsSoundApp}
use Rattle.app_loader.proofs.Soundness.{app_parts}
use Rattle.app_loader.specs.Accepted.{AcceptedHoldsTables, AcceptedIsSound, HaveOneTemplate, IsAcceptedApp}
use Rattle.app_texts.specs.Texts.{IsNamedReading, IsReading, TellsBreaks}
use Rattle.app_loader.proofs.Below.{final_same}
use Rattle.app_loader.specs.Cells.{round_cell}
use Rattle.app_loader.specs.JudgedFormulas.{JudgedCells, ReportsBreaks}
use Rattle.app_loader.specs.Types.{AreLawfullyTyped, HaveLawfulTrees}
use Rattle.app_loader.specs.Judged as judge
use Rattle.app_loader.specs.Judged.{AreNamedFormulas, Judged, JudgedApp, JudgedFile, JudgedFormulas, JudgedText, JudgedValue, most_source_bytes}

pub tells_weaker : (P Q : List Broken → Type 0) → ((bs : List Broken) → P bs → Q bs) → (e : AppEnd) → ReportsBreaks P e → ReportsBreaks Q e
tells_weaker P Q f (end.Refused all) h = f all.items h
tells_weaker P Q f end.Memory h = tt

pub tells_this : (P : List Broken → Type 0) (a b : Broken) → a ≡ b → P (b ∷ []) → (e : AppEnd) → ReportsBreaks (λ bs. bs ≡ a ∷ []) e → ReportsBreaks P e
tells_this P a b same h = tells_weaker (λ bs. bs ≡ a ∷ []) P (λ bs is. subst P (sym (is ∙ ap (λ x. x ∷ []) same)) h)

pub ok_weaker : (P Q : App → Type 0) → ((a : App) → P a → Q a) → (r : Result App AppEnd) → IfOk r P → IfOk r Q
ok_weaker P Q f (Ok a) h = f a h
ok_weaker P Q f (Err e) h = tt

pub err_weaker : (P Q : List Broken → Type 0) → ((bs : List Broken) → P bs → Q bs) → (r : Result App AppEnd) → IfErr r (ReportsBreaks P) → IfErr r (ReportsBreaks Q)
err_weaker P Q f (Ok a) h = tt
err_weaker P Q f (Err e) h = tells_weaker P Q f e h

-- ---- formulas beside a frame
pub misnamed_by : (f : Frame) (cells : List Cell) (functions : List Signature) (bs : List Broken) → map entry functions ≡ entries → bs ≡ name_breaks functions f cells →
    nat_eq (length bs) 0 ≡ false → JudgedFormulas f cells (Err bs)
misnamed_by f cells functions [] e is k = absurd (both_ways true k refl)
misnamed_by f cells functions (b ∷ bs) e is k = judge.misnamed f cells functions b bs e (sym is)

pub none_by : (bs : List Broken) → nat_eq (length bs) 0 ≡ true → bs ≡ []
none_by [] e = refl
none_by (b ∷ bs) e = let none : length (b ∷ bs) ≡ 0 = eqb-true (length (b ∷ bs)) 0 e in absurd (omega arith)

pub named_by : (f : Frame) (cells : List Cell) (n : Names) (functions : List Signature) → AreNamesOf f cells n → n.signatures.now ≡ functions → name_breaks functions f cells ≡ [] → AreNamedFormulas f cells n
named_by f cells n functions are e none = record { named = are; unbroken = ap (λ (ss : List Signature). name_breaks ss f cells) e ∙ none }

pub formulas_ok : (f : Frame) (cells : List Cell) (n : Names) → AreNamedFormulas f cells n → (r : Result App AppEnd) → IfOk r (λ a. JudgedCells n f.limit cells (Ok a)) → IfOk r (λ a. JudgedFormulas f cells (Ok a))
formulas_ok f cells n are = ok_weaker (λ a. JudgedCells n f.limit cells (Ok a)) (λ a. JudgedFormulas f cells (Ok a)) (λ a h. judge.named f cells n (Ok a) are h)

pub formulas_err : (f : Frame) (cells : List Cell) (n : Names) → AreNamedFormulas f cells n → (r : Result App AppEnd) → IfErr r (ReportsBreaks (λ bs. JudgedCells n f.limit cells (Err bs)))
    → IfErr r (ReportsBreaks (λ bs. JudgedFormulas f cells (Err bs)))
formulas_err f cells n are = err_weaker (λ bs. JudgedCells n f.limit cells (Err bs)) (λ bs. JudgedFormulas f cells (Err bs)) (λ bs h. judge.named f cells n (Err bs) are h)

accepted : (f : Frame) (cells : List Cell) (n : Names) (a : App) → AreNamesOf f cells n → All (IsPlaced f) cells → HaveOneTemplate cells → JudgedCells n f.limit cells (Ok a)
    → AreLawfullyTyped a.names → HaveLawfulTrees a.cells → IsLawful a.names → IsAcceptedApp f cells f.limit a
accepted f cells n a are placed single judged types trees lawful = record { first = n; named = are; placed = placed; single = single; judged = judged; lawful = lawful; types = types; trees = trees }

pub sound_ok : AcceptedIsSound → (f : Frame) (cells : List Cell) (n : Names) → AreNamesOf f cells n → All (IsPlaced f) cells → HaveOneTemplate cells → (r : Result App AppEnd) → IfOk r (λ a. JudgedCells n f.limit cells (Ok a))
    → IfOk r (λ a. AreLawfullyTyped a.names) → IfOk r (λ a. HaveLawfulTrees a.cells) → IfOk r (λ a. IsLawful a.names) → IfOk r IsSoundApp
sound_ok law f cells n are placed single (Ok a) judged types trees lawful = law f cells f.limit a (accepted f cells n a are placed single judged types trees lawful)
sound_ok law f cells n are placed single (Err e) judged types trees lawful = tt

pub tables_ok : AcceptedHoldsTables → (f : Frame) (cells : List Cell) (n : Names) → AreNamesOf f cells n → All (IsPlaced f) cells → HaveOneTemplate cells → (r : Result App AppEnd) → IfOk r (λ a. JudgedCells n f.limit cells (Ok a))
    → IfOk r (λ a. AreLawfullyTyped a.names) → IfOk r (λ a. HaveLawfulTrees a.cells) → IfOk r (λ a. IsLawful a.names) → IfOk r (λ a. HoldsTables a.names)
tables_ok law f cells n are placed single (Ok a) judged types trees lawful = law f cells f.limit a (accepted f cells n a are placed single judged types trees lawful)
tables_ok law f cells n are placed single (Err e) judged types trees lawful = tt

pub screens_ok : (f : Frame) (cells : List Cell) (n : Names) → AreNamesOf f cells n → (r : Result App AppEnd) → IfOk r (λ a. JudgedCells n f.limit cells (Ok a)) → IfOk r (λ a. a.names.screens ≡ f.screens)
screens_ok f cells n are = ok_weaker (λ a. JudgedCells n f.limit cells (Ok a)) (λ a. a.names.screens ≡ f.screens)
    (λ a h. let same = final_same (map round_cell cells) n a.names (app_parts h).settled.final in sym same.screens ∙ are.screens)

pub schema_ok : (f : Frame) (cells : List Cell) (n : Names) → AreNamesOf f cells n → (r : Result App AppEnd) → IfOk r (λ a. JudgedCells n f.limit cells (Ok a)) → IfOk r (λ a. a.names.schema ≡ f.schema)
schema_ok f cells n are = ok_weaker (λ a. JudgedCells n f.limit cells (Ok a)) (λ a. a.names.schema ≡ f.schema)
    (λ a h. let same = final_same (map round_cell cells) n a.names (app_parts h).settled.final in sym same.schema ∙ are.schema)

-- ---- what a file holds
pub unparsed_end : (a : AppFile) (e : AppEnd) → TellsBreaks (λ bs. IsReading a (Err bs)) e → ReportsBreaks (λ bs. JudgedFile a (Err bs)) e
unparsed_end a (end.Refused all) h = judge.unparsed a all.items h
unparsed_end a end.Memory h = tt

pub parsed_ok : (a : AppFile) (f : Frame) (cells : List Cell) → IsReading a (Ok (f, cells)) → (r : Result App AppEnd) → IfOk r (λ b. JudgedFormulas f cells (Ok b)) → IfOk r (λ b. JudgedFile a (Ok b))
parsed_ok a f cells h = ok_weaker (λ b. JudgedFormulas f cells (Ok b)) (λ b. JudgedFile a (Ok b)) (λ b j. judge.parsed a f cells (Ok b) h j)

pub parsed_err : (a : AppFile) (f : Frame) (cells : List Cell) → IsReading a (Ok (f, cells)) → (r : Result App AppEnd) → IfErr r (ReportsBreaks (λ bs. JudgedFormulas f cells (Err bs))) → IfErr r (ReportsBreaks (λ bs. JudgedFile a (Err bs)))
parsed_err a f cells h = err_weaker (λ bs. JudgedFormulas f cells (Err bs)) (λ bs. JudgedFile a (Err bs)) (λ bs j. judge.parsed a f cells (Err bs) h j)

-- ---- files
pub read_ok : (file : List ℕ) (a : AppFile) → IsRead file (Ok a) → (r : Result App AppEnd) → IfOk r (λ b. JudgedFile a (Ok b)) → IfOk r (λ b. JudgedApp file (Ok b))
read_ok file a h = ok_weaker (λ b. JudgedFile a (Ok b)) (λ b. JudgedApp file (Ok b)) (λ b j. judge.read file a (Ok b) h j)

pub read_err : (file : List ℕ) (a : AppFile) → IsRead file (Ok a) → (r : Result App AppEnd) → IfErr r (ReportsBreaks (λ bs. JudgedFile a (Err bs))) → IfErr r (ReportsBreaks (λ bs. JudgedApp file (Err bs)))
read_err file a h = err_weaker (λ bs. JudgedFile a (Err bs)) (λ bs. JudgedApp file (Err bs)) (λ bs j. judge.read file a (Err bs) h j)

pub unread_end : (file : List ℕ) (b : FileBreak) (c : Broken) → IsRead file (Err b) → c ≡ broken_of b → (e : AppEnd) → ReportsBreaks (λ bs. bs ≡ c ∷ []) e → ReportsBreaks (λ bs. JudgedApp file (Err bs)) e
unread_end file b c h same = tells_this (λ bs. JudgedApp file (Err bs)) c (broken_of b) same (judge.unread file b h)

-- ---- JSON
pub value_ok : (root : Data) (a : AppFile) → IsReadOf root (Ok a) → (r : Result App AppEnd) → IfOk r (λ b. JudgedFile a (Ok b)) → IfOk r (λ b. JudgedValue root (Ok b))
value_ok root a h = ok_weaker (λ b. JudgedFile a (Ok b)) (λ b. JudgedValue root (Ok b)) (λ b j. judge.read_value root a (Ok b) h j)

pub value_err : (root : Data) (a : AppFile) → IsReadOf root (Ok a) → (r : Result App AppEnd) → IfErr r (ReportsBreaks (λ bs. JudgedFile a (Err bs))) → IfErr r (ReportsBreaks (λ bs. JudgedValue root (Err bs)))
value_err root a h = err_weaker (λ bs. JudgedFile a (Err bs)) (λ bs. JudgedValue root (Err bs)) (λ bs j. judge.read_value root a (Err bs) h j)

pub no_value_end : (root : Data) (b : FileBreak) (c : Broken) → IsReadOf root (Err b) → c ≡ broken_of b → (e : AppEnd) → ReportsBreaks (λ bs. bs ≡ c ∷ []) e → ReportsBreaks (λ bs. JudgedValue root (Err bs)) e
no_value_end root b c h same = tells_this (λ bs. JudgedValue root (Err bs)) c (broken_of b) same (judge.unread_value root b h)

pub opens_ok : (k : ℕ) → 0 < k → (r : Result App AppEnd) → IfOk r (λ a. length a.names.screens ≡ k) → IfOk r (λ a. 0 < length a.names.screens)
opens_ok k l = ok_weaker (λ a. length a.names.screens ≡ k) (λ a. 0 < length a.names.screens) (λ a e. subst (λ n. 0 < n) (sym e) l)

-- ---- texts of named formulas
pub text_end : (source : List ℕ) (e : AppEnd) → TellsBreaks (λ bs. IsNamedReading source (Err bs)) e → ReportsBreaks (λ bs. JudgedText source (Err bs)) e
text_end source (end.Refused all) h = judge.unparsed source all.items h
text_end source end.Memory h = tt

pub text_ok : (source : List ℕ) (f : Frame) (cells : List Cell) → IsNamedReading source (Ok (f, cells)) → (r : Result App AppEnd) → IfOk r (λ b. JudgedFormulas f cells (Ok b)) → IfOk r (λ b. JudgedText source (Ok b))
text_ok source f cells h = ok_weaker (λ b. JudgedFormulas f cells (Ok b)) (λ b. JudgedText source (Ok b)) (λ b j. judge.parsed source f cells (Ok b) h j)

pub text_err : (source : List ℕ) (f : Frame) (cells : List Cell) → IsNamedReading source (Ok (f, cells)) → (r : Result App AppEnd) → IfErr r (ReportsBreaks (λ bs. JudgedFormulas f cells (Err bs)))
    → IfErr r (ReportsBreaks (λ bs. JudgedText source (Err bs)))
text_err source f cells h = err_weaker (λ bs. JudgedFormulas f cells (Err bs)) (λ bs. JudgedText source (Err bs)) (λ bs j. judge.parsed source f cells (Err bs) h j)

-- ---- bytes
as_text : (bytes source : List ℕ) (v : Result App (List Broken)) → length bytes ≤ most_source_bytes → source ≡ bytes → IsUtf8 bytes → JudgedText source v → Judged bytes v
as_text bytes source v l e u h = judge.text bytes v l u (subst (λ (s : List ℕ). JudgedText s v) e h)

pub bytes_ok : (bytes source : List ℕ) → length bytes ≤ most_source_bytes → source ≡ bytes → IsUtf8 bytes → (r : Result App AppEnd) → IfOk r (λ a. JudgedText source (Ok a)) → IfOk r (λ a. Judged bytes (Ok a))
bytes_ok bytes source l e u = ok_weaker (λ a. JudgedText source (Ok a)) (λ a. Judged bytes (Ok a)) (λ a h. as_text bytes source (Ok a) l e u h)

pub bytes_err : (bytes source : List ℕ) → length bytes ≤ most_source_bytes → source ≡ bytes → IsUtf8 bytes → (r : Result App AppEnd) → IfErr r (ReportsBreaks (λ bs. JudgedText source (Err bs))) → IfErr r (ReportsBreaks (λ bs. Judged bytes (Err bs)))
bytes_err bytes source l e u = err_weaker (λ bs. JudgedText source (Err bs)) (λ bs. Judged bytes (Err bs)) (λ bs k. as_text bytes source (Err bs) l e u k)

pub tells_long : (P : List Broken → Type 0) → P (in_app rule.LimitPassed (codes "named 262145") ∷ []) → (e : AppEnd)
    → ReportsBreaks (λ bs. bs ≡ in_app rule.LimitPassed (chars (codes "named 262145")) ∷ []) e → ReportsBreaks P e
unfolding chars
tells_long P h e k = tells_this P _ (in_app rule.LimitPassed (codes "named 262145")) refl h e k

pub tells_bytes : (P : List Broken → Type 0) → P (in_app rule.BadShape (codes "utf-8") ∷ []) → (e : AppEnd)
    → ReportsBreaks (λ bs. bs ≡ in_app rule.BadShape (chars (codes "utf-8")) ∷ []) e → ReportsBreaks P e
unfolding chars
tells_bytes P h e k = tells_this P _ (in_app rule.BadShape (codes "utf-8")) refl h e k
