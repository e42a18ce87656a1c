-- No gallery of a file has two formulas of its items.
use Rattle.std.proofs.Common.{inl, inr, ◌⊎◌, ◌≡◌, ℕ, zero, suc, ◌+◌, ◌≤◌, ◌++◌, List, [], ◌∷◌, Bool, true, false, codes, length, map, All, Option, Some, None, Result, Ok, Err, refl, ap, sym, subst, ◌∙◌, arith, rules, if◌then◌else◌}
use Rattle.std.specs.Prelude.{encode_utf8_all, option_map, slice_get}
use Rattle.std.specs.List.{cons_option, filter, filter_map}
use Rattle.std.specs.Str.{IsAscii}
use Rattle.std.proofs.lemmas.List.{map-append}
use Rattle.std.proofs.lemmas.List.Elements.{All-head, All-nil, All-tail}
use Rattle.std.proofs.lemmas.Str.{chars-IsAscii}
use Rattle.serde_json.specs.Data.{Data}
use Rattle.serde_json.specs.Find.{get}
use Rattle.fx_types.specs.Words.{scalars_of}
use Rattle.fx_types.specs.declared.controls.Control.{Control}
use Rattle.fx_types.specs.declared.controls.Control.TheVariants as control
use Rattle.fx_core.specs.declared.broken.Broken.{Broken}
use Rattle.app_file.specs.declared.breaks.FileBreak.{FileBreak}
use Rattle.app_file.specs.declared.file.AppFile.{AppFile}
use Rattle.app_file.specs.declared.file.ControlShape.{ControlShape}
use Rattle.app_file.specs.declared.file.PropertyText.{PropertyText}
use Rattle.app_file.specs.declared.file.ScreenShape.{ScreenShape}
use Rattle.app_file.specs.Contents.{all_elements, app_of, member_at, control_shape, kind_at, properties, property, screen, words}
use Rattle.app_file.specs.Files.{IsRead, IsReadOf, app, bad_part, json, no_json, passed, too_long}
use Rattle.app_file.specs.FormOfApp.{property_names}
use Rattle.app_file.specs.Forms.{elements}
use Rattle.app_cells.specs.declared.cell.Cell.{Cell}
use Rattle.app_cells.specs.declared.cell.Spot.{Spot}
use Rattle.app_cells.specs.declared.cell.Spot.TheVariants as spot
use Rattle.app_cells.specs.declared.frame.Frame.{Frame}
use Rattle.app_texts.specs.declared.file_texts.Text.{Text}
use Rattle.app_texts.specs.Files.{texts_of_controls, file_frame, is_written, property_texts, texts_of_screens, text_of_spot, formula_texts}
use Rattle.app_texts.specs.Texts.{AreFormulasOf, AreNamedAt, AreNamedCells, AreReadAt, IsNamedReading, IsReading, bare_frame, broken, formulas, named_broken, named_formulas}
use Rattle.fx_parser.specs.declared.entries.Named.{Named}
use Rattle.app_texts.proofs.Formed.{any_at, any_list}
use Rattle.app_loader.proofs.Cells.{items_ascii}
use Rattle.app_loader.specs.Accepted.{HaveOneTemplate}

-- what is the formula of no gallery's items
abbrev IsOther : Spot → Type 0
IsOther s = (k : ℕ) → s ≡ spot.Property k (codes "Items") → ⊥

-- The galleries of whose items these are the formulas rise from a number on, and stay below another.
abbrev Rise : ℕ → ℕ → List Spot → Type 0
Rise n m [] = n ≤ m
Rise n m (s ∷ ss) = (IsOther s × Rise n m ss) ⊎ ((k : ℕ) × (s ≡ spot.Property k (codes "Items")) × (n ≤ k) × Rise (suc k) m ss)

lower : (i n m : ℕ) (ss : List Spot) → i ≤ n → Rise n m ss → Rise i m ss
lower i n m [] l h = omega arith
lower i n m (s ∷ ss) l (inl h) = inl (h.0, lower i n m ss l h.1)
lower i n m (s ∷ ss) l (inr h) = let less : n ≤ h.0 = h.2 in let low : i ≤ h.0 = omega arith in inr (h.0, h.1, low, h.3)

behind : (n m k : ℕ) (ss us : List Spot) → Rise n m ss → Rise m k us → Rise n k (ss ++ us)
behind n m k [] us h g = lower n m k us h g
behind n m k (s ∷ ss) us (inl h) g = inl (h.0, behind n m k ss us h.1 g)
behind n m k (s ∷ ss) us (inr h) g = inr (h.0, h.1, h.2, behind (suc h.0) m k ss us h.3 g)

same_gallery : (i k : ℕ) (s r : Spot) → s ≡ spot.Property i (codes "Items") → r ≡ spot.Property k (codes "Items") → s ≡ r → i ≡ k
same_gallery i k s r p q e = let both : spot.Property i (codes "Items") ≡ spot.Property k (codes "Items") = sym p ∙ e ∙ q in cc

above : (n m : ℕ) (ss : List Spot) (j k : ℕ) (r : Spot) → Rise n m ss → slice_get ss j ≡ Some r → r ≡ spot.Property k (codes "Items") → n ≤ k
above n m [] j k r h e q = absurd cc
above n m (s ∷ ss) zero k r (inl h) e q = let same : s ≡ r = cc in absurd (h.0 k (same ∙ q))
above n m (s ∷ ss) zero k r (inr h) e q = let same : s ≡ r = cc in let one : h.0 ≡ k = same_gallery h.0 k s r h.1 q same in subst (λ i. n ≤ i) one h.2
above n m (s ∷ ss) (suc j) k r (inl h) e q = above n m ss j k r h.1 e q
above n m (s ∷ ss) (suc j) k r (inr h) e q = let far : suc h.0 ≤ k = above (suc h.0) m ss j k r h.3 e q in let near : n ≤ h.0 = h.2 in omega arith

-- the first of these is the only one of its gallery
alone : (n m : ℕ) (s : Spot) (ss : List Spot) (j k : ℕ) (r : Spot) → Rise n m (s ∷ ss) → s ≡ spot.Property k (codes "Items") → slice_get ss j ≡ Some r → r ≡ spot.Property k (codes "Items") → ⊥
alone n m s ss j k r (inl h) p e q = h.0 k p
alone n m s ss j k r (inr h) p e q =
    let one : h.0 ≡ k = same_gallery h.0 k s s h.1 p refl in
    let far : suc h.0 ≤ k = above (suc h.0) m ss j k r h.3 e q in
    omega arith

rest : (n m : ℕ) (s : Spot) (ss : List Spot) → Rise n m (s ∷ ss) → (i : ℕ) × Rise i m ss
rest n m s ss (inl h) = (n, h.1)
rest n m s ss (inr h) = (suc h.0, h.3)

one_place : (n m : ℕ) (ss : List Spot) (i j k : ℕ) (s r : Spot) → Rise n m ss → slice_get ss i ≡ Some s → slice_get ss j ≡ Some r → s ≡ spot.Property k (codes "Items") → r ≡ spot.Property k (codes "Items") → i ≡ j
one_place n m [] i j k s r h e f p q = absurd cc
one_place n m (x ∷ xs) zero zero k s r h e f p q = refl
one_place n m (x ∷ xs) zero (suc j) k s r h e f p q = let same : x ≡ s = cc in absurd (alone n m x xs j k r h (same ∙ p) f q)
one_place n m (x ∷ xs) (suc i) zero k s r h e f p q = let same : x ≡ r = cc in absurd (alone n m x xs i k s h (same ∙ q) e p)
one_place n m (x ∷ xs) (suc i) (suc j) k s r h e f p q = let w = rest n m x xs h in ap suc (one_place w.0 m xs i j k s r w.1 e f p q)

abbrev spots : List Cell → List Spot
spots cs = map (λ (c : Cell). c.spot) cs

spot_at : (cs : List Cell) (i : ℕ) (c : Cell) → slice_get cs i ≡ Some c → slice_get (spots cs) i ≡ Some c.spot
spot_at [] i c e = absurd cc
spot_at (d ∷ cs) zero c e = let same : d ≡ c = cc in ap (λ (z : Cell). Some z.spot) same
spot_at (d ∷ cs) (suc i) c e = spot_at cs i c e

single : (n m : ℕ) (cs : List Cell) → Rise n m (spots cs) → HaveOneTemplate cs
single n m cs h i j c d k e f p q = one_place n m (spots cs) i j k c.spot d.spot h (spot_at cs i c e) (spot_at cs j d f) p q

-- ---- the properties of a control
abbrev text_spots : List Text → List Spot
text_spots ts = map (λ (t : Text). t.spot) ts

abbrev its_texts : ℕ → List PropertyText → List Text
its_texts number ps = map (λ (p : PropertyText). text_of_spot (spot.Property number p.name) p.text) ps

abbrev told : List ℕ → Data → PropertyText
told key x = record { name = scalars_of key; text = words x }

differs : (key : List ℕ) → IsAscii key → (length key ≡ 5 → ⊥) → scalars_of key ≡ codes "Items" → ⊥
differs key a other e = other (ap length (sym (chars-IsAscii key a) ∙ e))

other_name : (number k : ℕ) (x : List ℕ) → (x ≡ codes "Items" → ⊥) → spot.Property number x ≡ spot.Property k (codes "Items") → ⊥
other_name number k x other e = let name : x ≡ codes "Items" = cc in other name

-- a property of another name
skip : (number n m : ℕ) (key : List ℕ) (o : Option Data) (ps : List PropertyText) → IsAscii key → (length key ≡ 5 → ⊥) → Rise n m (text_spots (its_texts number ps))
    → Rise n m (text_spots (its_texts number (cons_option (option_map (told key) o) ps)))
skip number n m key None ps a other h = h
skip number n m key (Some x) ps a other h = inl ((λ k e. other_name number k (scalars_of key) (differs key a other) e), h)

-- the items
take_items : (number m : ℕ) (o : Option Data) (ps : List PropertyText) → Rise (suc number) m (text_spots (its_texts number ps))
    → Rise number m (text_spots (its_texts number (cons_option (option_map (told (codes "Items")) o) ps)))
take_items number m None ps h = lower number (suc number) m (text_spots (its_texts number ps)) (omega arith) h
take_items number m (Some x) ps h = let here : number ≤ number = omega arith in inr (number, ap (spot.Property number) (chars-IsAscii (codes "Items") items_ascii), here, h)

-- names of which none is that of items
abbrev AreOther : List (List ℕ) → Type 0
AreOther [] = Unit {0}
AreOther (x ∷ xs) = IsAscii x × (length x ≡ 5 → ⊥) × AreOther xs

none_rise : (number n m : ℕ) (d : Data) (xs : List (List ℕ)) → n ≤ m → AreOther xs → Rise n m (text_spots (its_texts number (filter_map (property d) xs)))
none_rise number n m d [] l h = l
none_rise number n m d (x ∷ xs) l h = skip number n m x (get x d) (filter_map (property d) xs) h.0 h.1 (none_rise number n m d xs l h.2)

properties_rise : (number : ℕ) (k : Control) (d : Data) → Rise number (suc number) (text_spots (its_texts number (properties k d)))
properties_rise number control.Label d = none_rise number number (suc number) d (property_names control.Label) (omega arith) (search rules, (λ e. omega arith), (search rules, (λ e. omega arith), (search rules, (λ e. omega arith), tt)))
properties_rise number control.Button d = none_rise number number (suc number) d (property_names control.Button) (omega arith) (search rules, (λ e. omega arith), (search rules, (λ e. omega arith), (search rules, (λ e. omega arith), tt)))
properties_rise number control.TextInput d = none_rise number number (suc number) d (property_names control.TextInput) (omega arith) (search rules, (λ e. omega arith), (search rules, (λ e. omega arith), (search rules, (λ e. omega arith), tt)))
properties_rise number control.Slider d =
    none_rise number number (suc number) d (property_names control.Slider) (omega arith)
    (search rules, (λ e. omega arith), (search rules, (λ e. omega arith), (search rules, (λ e. omega arith), (search rules, (λ e. omega arith), (search rules, (λ e. omega arith), tt)))))
properties_rise number control.Checkbox d =
    none_rise number number (suc number) d (property_names control.Checkbox) (omega arith)
    (search rules, (λ e. omega arith), (search rules, (λ e. omega arith), (search rules, (λ e. omega arith), (search rules, (λ e. omega arith), (search rules, (λ e. omega arith), tt)))))
properties_rise number control.DatePicker d = none_rise number number (suc number) d (property_names control.DatePicker) (omega arith) (search rules, (λ e. omega arith), (search rules, (λ e. omega arith), (search rules, (λ e. omega arith), tt)))
properties_rise number control.Gallery d =
    let last = none_rise number (suc number) (suc number) d (codes "OnSelect" ∷ []) (omega arith) (search rules, (λ e. omega arith), tt) in
    let some = take_items number (suc number) (get (codes "Items") d) (filter_map (property d) (codes "OnSelect" ∷ [])) last in
    skip number number (suc number) (codes "Visible") (get (codes "Visible") d) (filter_map (property d) (codes "Items" ∷ codes "OnSelect" ∷ [])) (search rules) (λ e. omega arith) some

-- ---- the controls of a file
abbrev HasOneItems : ControlShape → Type 0
HasOneItems c = (number : ℕ) → Rise number (suc number) (text_spots (property_texts number c))

control_once : (before : List Data) (d : Data) → HasOneItems (control_shape before d)
control_once before d number =
    any_at (properties (kind_at d)) (λ ps. Rise number (suc number) (text_spots (its_texts number ps))) (get (codes "properties") d) (omega arith) (λ x. properties_rise number (kind_at d) x)

abbrev HaveOneItems : ScreenShape → Type 0
HaveOneItems s = All HasOneItems s.controls

screen_once : (before : List Data) (d : Data) → HaveOneItems (screen before d)
screen_once before d = any_at (all_elements control_shape) (All HasOneItems) (get (codes "controls") d) (All-nil HasOneItems) (λ x. any_list control_shape HasOneItems (elements x) control_once)

screens_once : (d : Data) → All HaveOneItems (member_at (all_elements screen) (codes "screens") [] d)
screens_once d = any_at (all_elements screen) (All HaveOneItems) (get (codes "screens") d) (All-nil HaveOneItems) (λ x. any_list screen HaveOneItems (elements x) screen_once)

controls_rise : (number : ℕ) (cs : List ControlShape) → All HasOneItems cs → Rise number (number + length cs) (text_spots (texts_of_controls number cs))
controls_rise number [] h = omega arith
controls_rise number (c ∷ cs) h =
    let count : suc number + length cs ≡ number + length (c ∷ cs) = omega arith in
    subst (Rise number (number + length (c ∷ cs))) (sym (map-append (λ (t : Text). t.spot) (property_texts number c) (texts_of_controls (suc number) cs)))
    (behind number (suc number) (number + length (c ∷ cs)) (text_spots (property_texts number c)) (text_spots (texts_of_controls (suc number) cs)) (All-head HasOneItems c cs h number)
    (subst (λ m. Rise (suc number) m (text_spots (texts_of_controls (suc number) cs))) count (controls_rise (suc number) cs (All-tail HasOneItems c cs h))))

-- some number that they stay below
abbrev Rises : ℕ → List Spot → Type 0
Rises n ss = (m : ℕ) × Rise n m ss

no_property : (s k : ℕ) (p : List ℕ) → spot.OnVisible s ≡ spot.Property k p → ⊥
no_property s k p e = cc

no_start : (k : ℕ) (p : List ℕ) → spot.OnStart ≡ spot.Property k p → ⊥
no_start k p e = cc

no_formula : (x : List ℕ) (k : ℕ) (p : List ℕ) → spot.Formula x ≡ spot.Property k p → ⊥
no_formula x k p e = cc

screens_rise : (number first : ℕ) (ss : List ScreenShape) → All HaveOneItems ss → Rises first (text_spots (texts_of_screens number first ss))
screens_rise number first [] h = let same : first ≤ first = omega arith in (first, same)
screens_rise number first (s ∷ ss) h =
    let next = first + length s.controls in
    let more = screens_rise (suc number) next ss (All-tail HaveOneItems s ss h) in
    let here = controls_rise first s.controls (All-head HaveOneItems s ss h) in (
      more.0,
      inl (
        (λ k e. no_property number k (codes "Items") e),
        subst (Rise first more.0) (sym (map-append (λ (t : Text). t.spot) (texts_of_controls first s.controls) (texts_of_screens (suc number) next ss)))
            (behind first next more.0 (text_spots (texts_of_controls first s.controls)) (text_spots (texts_of_screens (suc number) next ss)) here more.1),
      ),
    )

-- ---- the texts that are written, and their formulas
kept : (n m : ℕ) (ts : List Text) → Rise n m (text_spots ts) → Rise n m (text_spots (filter is_written ts))
kept n m [] h = h
kept n m (t ∷ ts) h = by (is_written t) h (λ i g. kept i m ts g)
  where
    by : (b : Bool) → Rise n m (t.spot ∷ text_spots ts) → ((i : ℕ) → Rise i m (text_spots ts) → Rise i m (text_spots (filter is_written ts))) → Rise n m (text_spots (if b then t ∷ filter is_written ts else filter is_written ts))
    by true (inl h) go = inl (h.0, go n h.1)
    by true (inr h) go = inr (h.0, h.1, h.2, go (suc h.0) h.3)
    by false (inl h) go = go n h.1
    by false (inr h) go = let near : n ≤ h.0 = h.2 in lower n (suc h.0) m (text_spots (filter is_written ts)) (omega arith) (go (suc h.0) h.3)

read_spots : (f : Frame) (ts : List Text) (cs : List Cell) (bs : List Broken) → AreReadAt f ts cs bs → bs ≡ [] → spots cs ≡ text_spots ts
read_spots f [] cs bs h e = ap spots h.0
read_spots f (t ∷ ts) cs bs (inl h) e = ap spots h.2 ∙ (λ i. h.3.cell.spot i ∷ read_spots f ts h.1 bs h.4 e i)
read_spots f (t ∷ ts) cs bs (inr h) e = let past : [] ≡ h.0 ∷ h.1 = sym e ∙ h.2 in absurd cc

named_rise : (f : Frame) (ns : List Named) (cs : List Cell) → AreNamedCells f ns cs → Rise 0 0 (spots cs)
named_rise f [] cs h = subst (λ (xs : List Cell). Rise 0 0 (spots xs)) (sym h) (omega arith)
named_rise f (n ∷ ns) cs h =
    let later : Rise 0 0 (spots h.1) = named_rise f ns h.1 h.4 in
    subst (λ (xs : List Cell). Rise 0 0 (spots xs)) (sym h.2) (inl ((λ k e. no_formula n.name k (codes "Items") (sym h.3.spot ∙ e)), later))

named_at_rise : (f : Frame) (source : List ℕ) (cs : List Cell) (bs : List Broken) → AreNamedAt f source cs bs → bs ≡ [] → Rise 0 0 (spots cs)
named_at_rise f source cs bs (inl h) e = named_rise f h.0 cs h.2
named_at_rise f source cs bs (inr h) e = let past : [] ≡ h.0 ∷ [] = sym e ∙ h.3 in absurd cc

pub both_none : {A : Type 0} (xs ys : List A) → [] ≡ xs ++ ys → (xs ≡ []) × (ys ≡ [])
both_none [] ys e = (refl, sym e)
both_none (x ∷ xs) ys e = absurd cc

file_single : (a : AppFile) (f : Frame) (cs : List Cell) → All HaveOneItems a.screens → AreFormulasOf a f cs [] → HaveOneTemplate cs
file_single a f cs once h =
    let none = both_none h.named_breaks h.other_breaks h.breaks in
    let screens = screens_rise 0 0 a.screens once in
    let start : Rise 0 screens.0 (text_spots (text_of_spot spot.OnStart a.on_start ∷ texts_of_screens 0 0 a.screens)) = inl ((λ k e. no_start k (codes "Items") e), screens.1) in
    let others : Rise 0 screens.0 (spots h.other_cells) = subst (Rise 0 screens.0) (sym (read_spots f (formula_texts a) h.other_cells h.other_breaks h.others none.1)) (kept 0 screens.0 (text_of_spot spot.OnStart a.on_start ∷ texts_of_screens 0 0 a.screens) start) in
    let named = named_at_rise f (encode_utf8_all a.formulas) h.named_cells h.named_breaks h.named none.0 in
    single 0 screens.0 cs
    (subst (λ (xs : List Cell). Rise 0 screens.0 (spots xs)) (sym h.cells)
    (subst (Rise 0 screens.0) (sym (map-append (λ (c : Cell). c.spot) h.named_cells h.other_cells)) (behind 0 0 screens.0 (spots h.named_cells) (spots h.other_cells) named others)))

-- ---- what is read
abbrev IfRead : AppFile → Result (Frame × List Cell) (List Broken) → Type 0
IfRead a (Ok r) = (r.0 ≡ file_frame a) × AreFormulasOf a r.0 r.1 []
IfRead a (Err bs) = Unit {0}

pub reading_parts : {a : AppFile} {v : Result (Frame × List Cell) (List Broken)} → IsReading a v → IfRead a v
reading_parts (formulas cs h) = (refl, h)
reading_parts (broken cs b bs h) = tt

abbrev IfNamed : List ℕ → Result (Frame × List Cell) (List Broken) → Type 0
IfNamed source (Ok r) = (r.0 ≡ bare_frame) × AreNamedAt bare_frame source r.1 []
IfNamed source (Err bs) = Unit {0}

pub named_parts : {source : List ℕ} {v : Result (Frame × List Cell) (List Broken)} → IsNamedReading source v → IfNamed source v
named_parts (named_formulas cs h) = (refl, h)
named_parts (named_broken cs b bs h) = tt

root_once : (root : Data) (v : Result AppFile FileBreak) (a : AppFile) → v ≡ Ok a → IsReadOf root v → All HaveOneItems a.screens
root_once root _ a e (bad_part _ path bad) = absurd cc
root_once root _ a e (passed _ l n fine f) = absurd cc
root_once root _ a e (app _ fine f) = let same : app_of root ≡ a = cc in subst (λ (z : AppFile). All HaveOneItems z.screens) same (screens_once root)

file_once : (file : List ℕ) (v : Result AppFile FileBreak) (a : AppFile) → v ≡ Ok a → IsRead file v → All HaveOneItems a.screens
file_once file _ a e (too_long _ l) = absurd cc
file_once file _ a e (no_json _ l h) = absurd cc
file_once file v a e (json _ root _ h r) = root_once root v a e r

-- the formulas of a file that is read
pub read_single : (file : List ℕ) (a : AppFile) → IsRead file (Ok a) → (f : Frame) (cs : List Cell) → IsReading a (Ok (f, cs)) → HaveOneTemplate cs
read_single file a r f cs h = file_single a f cs (file_once file (Ok a) a refl r) (reading_parts h).1

-- of JSON that is read
pub value_single : (root : Data) (a : AppFile) → IsReadOf root (Ok a) → (f : Frame) (cs : List Cell) → IsReading a (Ok (f, cs)) → HaveOneTemplate cs
value_single root a r f cs h = file_single a f cs (root_once root (Ok a) a refl r) (reading_parts h).1

-- and those of a text of named formulas
pub named_single : (source : List ℕ) (f : Frame) (cs : List Cell) → IsNamedReading source (Ok (f, cs)) → HaveOneTemplate cs
named_single source f cs h = single 0 0 cs (named_at_rise bare_frame source cs [] (named_parts h).1 refl)
