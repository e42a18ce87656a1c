-- The texts of a sound file stand at places of its frame.
use Rattle.std.proofs.Common.{◌≡◌, ℕ, zero, suc, ◌+◌, ◌<◌, ◌≤◌, Bool, true, List, [], ◌∷◌, ◌++◌, Some, length, map, refl, ap, sym, ◌∙◌, subst, arith, All, append_assoc, length-append}
use Rattle.std.specs.Prelude.{encode_utf8_all, slice_get}
use Rattle.std.proofs.lemmas.List.{length-map}
use Rattle.std.proofs.lemmas.List.Elements.{All-nil, All-cons, All-head, All-tail, All-append, All-filter, All-map}
use Rattle.fx_core.specs.Controls.{has_property}
use Rattle.fx_core.specs.Lawful.{Has}
use Rattle.fx_core.specs.declared.names.ControlName.{ControlName}
use Rattle.app_file.specs.declared.file.AppFile.{AppFile}
use Rattle.app_file.specs.declared.file.ControlShape.{ControlShape}
use Rattle.app_file.specs.declared.file.PropertyText.{PropertyText}
use Rattle.app_file.specs.declared.file.ScreenShape.{ScreenShape}
use Rattle.app_cells.specs.declared.cell.Spot.TheVariants as spot
use Rattle.app_cells.specs.declared.frame.Frame.{Frame}
use Rattle.app_cells.specs.Spots.{IsFrame, IsSpot}
use Rattle.app_texts.specs.declared.file_texts.Text.{Text}
use Rattle.app_texts.specs.Files.{HasProperties, IsSoundFile, control_of, texts_of_controls, controls_from, file_frame, is_written, property_texts, screen_names, texts_of_screens, text_of_spot, formula_texts}
use Rattle.app_texts.specs.Steps.{AreReadable}
use Rattle.app_texts.proofs.Galleries.{all_stand, slice_behind}

pub sound_frame : (a : AppFile) → IsSoundFile a → IsFrame (file_frame a)
sound_frame a h =
    let many : length (screen_names a.screens) ≡ length a.screens = length-map a.screens (λ (s : ScreenShape). s.name) in
    let few = h.few_screens in
    record {
      few_tables = h.few_tables;
      tables = h.tables;
      few_screens = omega (arith, many, few);
      few_controls = h.few_controls;
      controls = all_stand (length (screen_names a.screens)) 0 0 (controls_from 0 0 a.screens) [] a.screens (omega (arith, many)) refl refl h.galleries;
    }

abbrev StandsIn : Frame → Text → Type 0
StandsIn f t = IsSpot f t.spot

abbrev HasIts : ControlShape → Type 0
HasIts c = All (λ (p : PropertyText). has_property c.kind (encode_utf8_all p.name) ≡ true) c.properties

property_spots : (f : Frame) (number screen first : ℕ) (c : ControlShape) → slice_get f.controls number ≡ Some (control_of screen first c) → HasIts c → All (StandsIn f) (property_texts number c)
property_spots f number screen first c e h =
    All-map (StandsIn f) (λ (p : PropertyText). text_of_spot (spot.Property number p.name) p.text) c.properties (λ k p l. subst (Has _) (sym e) (h k p l))

control_spots : (f : Frame) (screen first number : ℕ) (before : List ControlName) (cs : List ControlShape) (more : List ControlName) → number ≡ length before
    → f.controls ≡ before ++ (map (control_of screen first) cs ++ more) → All HasIts cs → All (StandsIn f) (texts_of_controls number cs)
control_spots f screen first number before [] more e is h = All-nil (StandsIn f)
control_spots f screen first number before (c ∷ cs) more e is h =
    let d = control_of screen first c in
    let rest = map (control_of screen first) cs ++ more in
    let here : slice_get f.controls number ≡ Some d = ap (λ xs. slice_get xs number) is ∙ slice_behind before (d ∷ rest) 0 number (omega (arith, e)) in
    let long : length (before ++ d ∷ []) ≡ length before + 1 = length-append before (d ∷ []) in
    All-append (StandsIn f) (property_texts number c) (texts_of_controls (suc number) cs) (property_spots f number screen first c here (All-head HasIts c cs h))
    (control_spots f screen first (suc number) (before ++ d ∷ []) cs more (omega (arith, e, long)) (is ∙ sym (append_assoc before (d ∷ []) rest)) (All-tail HasIts c cs h))

screen_spots : (f : Frame) (screen first : ℕ) (before : List ControlName) (ss : List ScreenShape) → screen + length ss ≤ length f.screens → first ≡ length before
    → f.controls ≡ before ++ controls_from screen first ss → All HasProperties ss → All (StandsIn f) (texts_of_screens screen first ss)
screen_spots f screen first before [] l e is h = All-nil (StandsIn f)
screen_spots f screen first before (s ∷ ss) l e is h =
    let here = map (control_of screen first) s.controls in
    let more = controls_from (suc screen) (first + length s.controls) ss in
    let next : first + length s.controls ≡ length (before ++ here) =
    ap (λ k. k + length s.controls) e ∙ ap (λ k. length before + k) (sym (length-map s.controls (control_of screen first))) ∙ sym (length-append before here) in
    All-cons (StandsIn f) (text_of_spot (spot.OnVisible screen) s.on_visible) (texts_of_controls first s.controls ++ texts_of_screens (suc screen) (first + length s.controls) ss) (omega (arith, l))
    (All-append (StandsIn f) (texts_of_controls first s.controls) (texts_of_screens (suc screen) (first + length s.controls) ss)
    (control_spots f screen first first before s.controls more e is (All-head HasProperties s ss h))
    (screen_spots f (suc screen) (first + length s.controls) (before ++ here) ss (omega (arith, l)) next (is ∙ sym (append_assoc before here more)) (All-tail HasProperties s ss h)))

pub sound_texts : (a : AppFile) → IsSoundFile a → AreReadable (file_frame a) (formula_texts a)
sound_texts a h =
    let f = file_frame a in
    let many : length (screen_names a.screens) ≡ length a.screens = length-map a.screens (λ (s : ScreenShape). s.name) in
    let all = All-cons (StandsIn f) (text_of_spot spot.OnStart a.on_start) (texts_of_screens 0 0 a.screens) tt (screen_spots f 0 0 [] a.screens (omega (arith, many)) refl refl h.properties) in
    let chosen = All-filter is_written (StandsIn f) (text_of_spot spot.OnStart a.on_start ∷ texts_of_screens 0 0 a.screens) all in
    λ k t l. record { spot = chosen k t l; short = h.texts k t l }
