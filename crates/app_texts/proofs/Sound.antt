-- A file that is read is sound.
use Rattle.std.proofs.Common.{◌≡◌, inl, inr, ℕ, suc, ◌+◌, ◌<◌, ◌≤◌, ◌^◌, Bool, true, false, List, [], ◌∷◌, ◌++◌, Option, Some, None, Result, Ok, Err, cond, flat_map, length, map, nat_lt, refl, ap, sym, ◌∙◌, subst, arith, All, length-append}
use Rattle.std.specs.Prelude.{encode_utf8_all, find}
use Rattle.std.proofs.lemmas.Bool.{cases_lt, lt-ltb}
use Rattle.std.proofs.lemmas.List.{length-map}
use Rattle.std.proofs.lemmas.List.Elements.{All-nil, All-cons, All-head, All-tail, All-filter, All-weaker}
use Rattle.std.proofs.lemmas.List.{map-append}
use Rattle.serde_json.specs.Data.{Data}
use Rattle.fx_core.specs.declared.schema.TableShape.{TableShape}
use Rattle.app_file.specs.declared.breaks.FileBreak.{FileBreak}
use Rattle.app_file.specs.declared.file.AppFile.{AppFile}
use Rattle.app_file.specs.declared.file.ControlShape.{ControlShape}
use Rattle.app_file.specs.declared.file.PropertyText.{PropertyText}
use Rattle.app_file.specs.declared.file.ScreenShape.{ScreenShape}
use Rattle.app_file.specs.declared.limits.Limit.{Limit}
use Rattle.app_file.specs.declared.limits.Limit.TheVariants as limit
use Rattle.app_file.specs.Contents.{app_of}
use Rattle.app_file.specs.FormOfApp.{app_form}
use Rattle.app_file.specs.Forms.{IsFine}
use Rattle.app_file.specs.Files.{IsRead, IsReadOf, too_long, no_json, json, bad_part, passed, app}
use Rattle.app_file.specs.Limits as whole
use Rattle.app_file.specs.Limits.{utf8_length, controls_in, first_limit_passed, counts_of, first_passed, limits, most_allowed, passed_of}
use Rattle.app_cells.specs.declared.cell.Spot.TheVariants as spot
use Rattle.app_texts.specs.declared.file_texts.Text.{Text}
use Rattle.app_texts.specs.Files.{IsSoundFile, ReadIsSound, control_of, texts_of_controls, controls_from, is_written, property_texts, texts_of_screens, text_of_spot, formula_texts}
use Rattle.app_texts.proofs.Formed.{HasTypes, galleries_right, properties_right, tables_typed}
use Rattle.app_texts.proofs.TextSteps.{count, counts}

-- ---- no limit is passed
abbrev AreKept : List Limit → AppFile → Type 0
AreKept [] a = Unit {0}
AreKept (l ∷ ls) a = (passed_of a l ≡ None) × AreKept ls a

none_counted : (l : Limit) (o : Option ℕ) (more : Option (Limit × ℕ)) → first_limit_passed l o more ≡ None → (o ≡ None) × (more ≡ None)
none_counted l None more e = (refl, e)
none_counted l (Some n) more e = absurd cc

all_kept : (ls : List Limit) (a : AppFile) → first_passed ls a ≡ None → AreKept ls a
all_kept [] a e = tt
all_kept (l ∷ ls) a e = let both = none_counted l (passed_of a l) (first_passed ls a) e in (both.0, all_kept ls a both.1)

not_more : (m n : ℕ) → nat_lt m n ≡ false → n ≤ m
not_more m n e = elim (cases_lt m n) [
  | inl l ↦ let past : true ≡ false = sym (lt-ltb m n l) ∙ e in absurd cc
  | inr l ↦ l
]

none_found : (m : ℕ) (xs : List ℕ) → find (nat_lt m) xs ≡ None → All (λ n. n ≤ m) xs
none_found m [] e = All-nil (λ n. n ≤ m)
none_found m (x ∷ xs) e = go (nat_lt m x) refl e (none_found m xs)
  where
    go : (b : Bool) → nat_lt m x ≡ b → cond b (Some x) (find (nat_lt m) xs) ≡ None → (find (nat_lt m) xs ≡ None → All (λ n. n ≤ m) xs) → All (λ n. n ≤ m) (x ∷ xs)
    go true is f rest = absurd cc
    go false is f rest = All-cons (λ n. n ≤ m) x xs (not_more m x is) (rest f)

unmapped : {A B : Type 0} (f : A → B) (P : B → Type 0) (xs : List A) → All P (map f xs) → All (λ x. P (f x)) xs
unmapped f P [] h = All-nil (λ x. P (f x))
unmapped f P (x ∷ xs) h = All-cons (λ y. P (f y)) x xs (All-head P (f x) (map f xs) h) (unmapped f P xs (All-tail P (f x) (map f xs) h))

one : (m n : ℕ) → find (nat_lt m) (n ∷ []) ≡ None → n ≤ m
one m n e = All-head (λ k. k ≤ m) n [] (none_found m (n ∷ []) e)

-- ---- the texts are those that are counted
abbrev text_in : Text → List ℕ
text_in t = t.text

property_texts_are : (k : ℕ) (ps : List PropertyText) → map text_in (map (λ (p : PropertyText). text_of_spot (spot.Property k p.name) p.text) ps) ≡ map (λ (p : PropertyText). p.text) ps
property_texts_are k [] = refl
property_texts_are k (p ∷ ps) = ap (λ ts. p.text ∷ ts) (property_texts_are k ps)

control_texts_are : (k : ℕ) (cs : List ControlShape) → map text_in (texts_of_controls k cs) ≡ flat_map whole.control_texts cs
control_texts_are k [] = refl
control_texts_are k (c ∷ cs) =
    map-append text_in (property_texts k c) (texts_of_controls (suc k) cs)
    ∙ ap (λ ts. ts ++ map text_in (texts_of_controls (suc k) cs)) (property_texts_are k c.properties)
    ∙ ap (λ ts. whole.control_texts c ++ ts) (control_texts_are (suc k) cs)

screen_texts_are : (s k : ℕ) (ss : List ScreenShape) → map text_in (texts_of_screens s k ss) ≡ flat_map whole.screen_texts ss
screen_texts_are s k [] = refl
screen_texts_are s k (x ∷ xs) =
    let more = texts_of_screens (suc s) (k + length x.controls) xs in
    ap (λ ts. x.on_visible ∷ ts) (map-append text_in (texts_of_controls k x.controls) more
    ∙ ap (λ ts. ts ++ map text_in more) (control_texts_are k x.controls)
    ∙ ap (λ ts. flat_map whole.control_texts x.controls ++ ts) (screen_texts_are (suc s) (k + length x.controls) xs))

abbrev unchosen : AppFile → List Text
unchosen a = text_of_spot spot.OnStart a.on_start ∷ texts_of_screens 0 0 a.screens

texts_are : (a : AppFile) → map text_in (unchosen a) ≡ whole.texts_of a
texts_are a = ap (λ ts. a.on_start ∷ ts) (screen_texts_are 0 0 a.screens)

short_texts : (a : AppFile) → passed_of a limit.Formula ≡ None → All (λ (t : Text). length (encode_utf8_all t.text) < 2 ^ 32) (formula_texts a)
short_texts a e =
    let counted = unmapped utf8_length (λ n. n ≤ 8192) (whole.texts_of a) (none_found 8192 (map utf8_length (whole.texts_of a)) e) in
    let here = unmapped text_in (λ t. utf8_length t ≤ 8192) (unchosen a) (subst (All (λ t. utf8_length t ≤ 8192)) (sym (texts_are a)) counted) in
    All-filter is_written (λ (t : Text). length (encode_utf8_all t.text) < 2 ^ 32) (unchosen a)
    (All-weaker (λ (t : Text). utf8_length t.text ≤ 8192) (λ (t : Text). length (encode_utf8_all t.text) < 2 ^ 32) (λ t l. omega (arith, l)) (unchosen a) here)

-- ---- the controls are those that are counted
controls_are : (ss : List ScreenShape) → length (flat_map (λ (s : ScreenShape). s.controls) ss) ≡ count ss
controls_are [] = refl
controls_are (s ∷ ss) = length-append s.controls (flat_map (λ (x : ScreenShape). x.controls) ss) ∙ ap (λ n. length s.controls + n) (controls_are ss)

sound : (d : Data) → IsFine app_form d → first_passed limits (app_of d) ≡ None → IsSoundFile (app_of d)
sound d fine e =
    let a = app_of d in
    let kept = all_kept limits a e in
    let columns = unmapped (λ (t : TableShape). length t.columns) (λ n. n ≤ 63) a.schema.tables (none_found 63 (map (λ (t : TableShape). length t.columns) a.schema.tables) kept.1.1.1.1.1.1.0) in
    let types = tables_typed d fine in
    let named = one 262144 (utf8_length a.formulas) kept.1.0 in
    let controls = one 500 (length (controls_in a)) kept.1.1.1.1.0 in
    record {
      few_tables = one 32 (length a.schema.tables) kept.1.1.1.1.1.0;
      tables = λ k t l. (columns k t l, types k t l);
      few_screens = one 64 (length a.screens) kept.1.1.1.0;
      few_controls = let same = counts 0 0 a.screens ∙ sym (controls_are a.screens) in omega (arith, same, controls);
      galleries = galleries_right d;
      properties = properties_right d;
      texts = short_texts a kept.0;
      named = omega (arith, named);
    }

sound_root : (root : Data) (v : Result AppFile FileBreak) (a : AppFile) → v ≡ Ok a → IsReadOf root v → IsSoundFile a
sound_root root _ a e (bad_part _ path bad) = absurd cc
sound_root root _ a e (passed _ l n fine f) = absurd cc
sound_root root _ a e (app _ fine f) = let same : app_of root ≡ a = cc in subst IsSoundFile same (sound root fine f)

sound_file : (file : List ℕ) (v : Result AppFile FileBreak) (a : AppFile) → v ≡ Ok a → IsRead file v → IsSoundFile a
sound_file file _ a e (too_long _ l) = absurd cc
sound_file file _ a e (no_json _ l h) = absurd cc
sound_file file v a e (json _ root _ h r) = sound_root root v a e r

pub read_is_sound : ReadIsSound
read_is_sound file a r = sound_file file (Ok a) a refl r

-- and so is what is read of JSON
pub value_is_sound : (root : Data) (a : AppFile) → IsReadOf root (Ok a) → IsSoundFile a
value_is_sound root a r = sound_root root (Ok a) a refl r
