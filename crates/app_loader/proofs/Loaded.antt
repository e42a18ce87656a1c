-- An app file that is accepted is loaded.
use Rattle.std.proofs.Common.{◌≡◌, ℕ, suc, ◌+◌, List, [], ◌∷◌, ◌++◌, length, map, Result, Ok, Err, refl, ap, sym, subst, ◌∙◌}
use Rattle.std.proofs.lemmas.List.{map-append}
use Rattle.fx_infer.specs.Depths.{EntriesAreNoDeeper, TreesAreNoDeeper}
use Rattle.fx_core.specs.declared.broken.Broken.{Broken}
use Rattle.serde_json.specs.Data.{Data}
use Rattle.app_file.specs.Files.{IsRead, IsReadOf}
use Rattle.app_file.specs.declared.file.AppFile.{AppFile}
use Rattle.app_file.specs.declared.file.ControlShape.{ControlShape}
use Rattle.app_file.specs.declared.file.ScreenShape.{ScreenShape}
use Rattle.app_cells.specs.declared.app.App.{App}
use Rattle.app_cells.specs.declared.cell.Cell.{Cell}
use Rattle.app_cells.specs.declared.frame.Frame.{Frame}
use Rattle.app_cells.specs.Spots.{IsFrame}
use Rattle.app_texts.specs.Files.{IsSoundFile, ReadIsSound, control_of, controls_from}
use Rattle.app_texts.specs.Texts.{AreFormulasOf, IsReading}
use Rattle.app_texts.proofs.Readings.{file_placed}
use Rattle.app_texts.proofs.Spotted.{sound_frame}
use Rattle.app_texts.specs.Frames.{without_items}
use Rattle.app_texts.proofs.Sound.{value_is_sound}
use Rattle.app_loader.specs.Edits.{IsLoaded, LoadedApp, LoadedValue}
use Rattle.app_loader.specs.Judged as judge
use Rattle.app_loader.specs.Judged.{JudgedApp, JudgedFile, JudgedFormulas, JudgedValue}
use Rattle.app_loader.proofs.Framed.{judged_parts, loaded}
use Rattle.app_loader.proofs.Shallow.{file_shallow}
use Rattle.app_loader.proofs.Singles.{reading_parts}

-- ---- a file
file_blank : (screen first : ℕ) (ss : List ScreenShape) → map without_items (controls_from screen first ss) ≡ controls_from screen first ss
file_blank screen first [] = refl
file_blank screen first (s ∷ ss) =
    map-append without_items (map (control_of screen first) s.controls) (controls_from (suc screen) (first + length s.controls) ss)
    ∙ (λ i. these s.controls i ++ file_blank (suc screen) (first + length s.controls) ss i)
  where
    these : (cs : List ControlShape) → map without_items (map (control_of screen first) cs) ≡ map (control_of screen first) cs
    these [] = refl
    these (c ∷ cs) = ap (λ ds. control_of screen first c ∷ ds) (these cs)

abbrev IfFile : AppFile → Result App (List Broken) → Type 0
IfFile af (Ok a) = (f : Frame) × (cells : List Cell) × IsReading af (Ok (f, cells)) × JudgedFormulas f cells (Ok a)
IfFile af (Err bs) = Unit {0}

by_verdict : (af : AppFile) (f : Frame) (cells : List Cell) (v : Result App (List Broken)) → IsReading af (Ok (f, cells)) → JudgedFormulas f cells v → IfFile af v
by_verdict af f cells (Ok a) r j = (f, cells, r, j)
by_verdict af f cells (Err bs) r j = tt

file_parts : {af : AppFile} {v : Result App (List Broken)} → JudgedFile af v → IfFile af v
file_parts (judge.unparsed af bs h) = tt
file_parts (judge.parsed af f cells v r j) = by_verdict af f cells v r j

abbrev IfApp : List ℕ → Result App (List Broken) → Type 0
IfApp file (Ok a) = (af : AppFile) × IsRead file (Ok af) × JudgedFile af (Ok a)
IfApp file (Err bs) = Unit {0}

by_app : (file : List ℕ) (af : AppFile) (v : Result App (List Broken)) → IsRead file (Ok af) → JudgedFile af v → IfApp file v
by_app file af (Ok a) r j = (af, r, j)
by_app file af (Err bs) r j = tt

app_parts : {file : List ℕ} {v : Result App (List Broken)} → JudgedApp file v → IfApp file v
app_parts (judge.unread file b r) = tt
app_parts (judge.read file af v r j) = by_app file af v r j

file_loaded : TreesAreNoDeeper → EntriesAreNoDeeper → (af : AppFile) (a : App) → IsSoundFile af → IfFile af (Ok a) → IsLoaded a
file_loaded trees entries af a is h =
    let parts = reading_parts h.2 in
    let f = h.0 in
    let blank : map without_items f.controls ≡ f.controls =
    ap (λ (g : Frame). map without_items g.controls) parts.0 ∙ file_blank 0 0 af.screens ∙ sym (ap (λ (g : Frame). g.controls) parts.0) in
    loaded f h.1 a blank (subst IsFrame (sym parts.0) (sound_frame af is))
    (file_placed af f f h.1 h.1 [] (subst (λ (g : Frame). AreFormulasOf af g h.1 []) parts.0 parts.1) parts.0 refl refl)
    (file_shallow trees entries af f h.1 h.2) (judged_parts h.3)

pub loaded_app : ReadIsSound → TreesAreNoDeeper → EntriesAreNoDeeper → LoadedApp
loaded_app sound trees entries file a h = let parts = app_parts h in file_loaded trees entries parts.0 a (sound file parts.0 parts.1) (file_parts parts.2)

-- ---- JSON
abbrev IfValue : Data → Result App (List Broken) → Type 0
IfValue root (Ok a) = (af : AppFile) × IsReadOf root (Ok af) × JudgedFile af (Ok a)
IfValue root (Err bs) = Unit {0}

by_value : (root : Data) (af : AppFile) (v : Result App (List Broken)) → IsReadOf root (Ok af) → JudgedFile af v → IfValue root v
by_value root af (Ok a) r j = (af, r, j)
by_value root af (Err bs) r j = tt

value_parts : {root : Data} {v : Result App (List Broken)} → JudgedValue root v → IfValue root v
value_parts (judge.unread_value root b r) = tt
value_parts (judge.read_value root af v r j) = by_value root af v r j

pub loaded_value : TreesAreNoDeeper → EntriesAreNoDeeper → LoadedValue
loaded_value trees entries root a h = let parts = value_parts h in file_loaded trees entries parts.0 a (value_is_sound root parts.0 parts.1) (file_parts parts.2)
