-- No file and no text is both accepted and refused, and what is accepted is one app.
use Rattle.std.proofs.Common.{◌≡◌, ℕ, ◌≤◌, List, [], ◌∷◌, length, map, Result, Ok, Err, refl, ap, sym, subst, ◌∙◌, arith}
use Rattle.std.specs.Str.{IsUtf8}
use Rattle.fx_core.specs.declared.broken.Broken.{Broken}
use Rattle.fx_core.specs.declared.names.Names.{Names}
use Rattle.fx_core.specs.declared.sources.Source.{Source}
use Rattle.serde_json.specs.Data.{Data}
use Rattle.app_file.proofs.Verdicts.{one_value}
use Rattle.app_file.specs.Files.{IsOneReading, IsRead, IsReadOf}
use Rattle.app_file.specs.declared.breaks.FileBreak.{FileBreak}
use Rattle.app_file.specs.declared.file.AppFile.{AppFile}
use Rattle.app_cells.specs.Leaning.{cell_behind, edges_of}
use Rattle.app_cells.specs.declared.app.App.{App}
use Rattle.app_cells.specs.declared.app.CellInfo.{CellInfo}
use Rattle.app_cells.specs.declared.cell.Cell.{Cell}
use Rattle.app_cells.specs.declared.frame.Frame.{Frame}
use Rattle.app_names.specs.AppNames.{AreNamesOf}
use Rattle.app_names.specs.NameRules.{name_breaks}
use Rattle.app_loader.proofs.Soundness.{IfApp, app_parts}
use Rattle.app_texts.specs.Files.{file_frame}
use Rattle.app_texts.specs.Texts.{AreFormulasOf, AreNamedAt, bare_frame}
use Rattle.app_loader.specs.Admitted.{AreRefused}
use Rattle.app_loader.specs.Cells.{round_cell}
use Rattle.app_loader.specs.Cycles.{IsCycle}
use Rattle.app_loader.specs.JudgedFormulas.{AreSettled, IsAppOf, JudgedCells, app, cyclic, refused, unsettling}
use Rattle.app_loader.specs.Supports.{without_support}
use Rattle.app_loader.specs.Judged as judge
use Rattle.app_loader.specs.Judged.{AreNamedFormulas, Judged, JudgedApp, JudgedFile, JudgedFormulas, JudgedText, JudgedValue, most_source_bytes, misnamed, named, no_text, text, too_long}
use Rattle.app_loader.specs.Verdicts.{IsOneApp, IsOneAppOfAFile, IsOneAppOfAText, IsOneAppOfAValue, IsOneValueVerdict, IsOneVerdict, IsSameApp}
use Rattle.app_loader.proofs.Circles.{behind_alike, edges_alike, no_circle}
use Rattle.app_loader.proofs.Functions.{breaks_alike}
use Rattle.app_loader.proofs.OneInfos.{infos_one, none_refused}
use Rattle.app_loader.proofs.OneReading.{named_reading_one, reading_one}
use Rattle.app_loader.proofs.Reaching.{cells_one, same_edges}
use Rattle.app_loader.proofs.Rounds.{AreAlike, final_names, functions_at, settles_alike}
use Rattle.app_loader.proofs.Singles.{named_parts, reading_parts}
use Rattle.depend_graph.specs.Order.{IsClosedPath}
use Rattle.fx_typing.specs.Rounds.{AreFinalTypes, StillChanges}

-- a verdict is this app
abbrev pub Agree : App → Result App (List Broken) → Type 0
Agree a (Ok b) = IsSameApp a b
Agree a (Err bs) = ⊥

pub some_broken : (b : Broken) (bs cs : List Broken) → cs ≡ b ∷ bs → cs ≡ [] → ⊥
some_broken b bs cs e k = let both : b ∷ bs ≡ [] = sym e ∙ k in cc

-- ---- formulas under names
module _ (f : Frame) (cells : List Cell) (first : Names) (are : AreNamesOf f cells first) (most : ℕ) (a : App) (h : IsAppOf first most cells a) where
  same_names : (n m : Names) (is : List CellInfo) → AreNamesOf f cells n → AreSettled n most cells m is → (m ≡ functions_at a.names m.signatures) × AreAlike m.signatures a.names.signatures
  same_names n m is its s = final_names f (map round_cell cells) cells first n a.names m are its h.settled.final s.final

  same_infos : (n m : Names) (is : List CellInfo) → AreNamesOf f cells n → AreSettled n most cells m is → map without_support a.cells ≡ map without_support is
  same_infos n m is its s =
      let same = same_names n m is its s in
      infos_one a.names m same.0 same.1 most cells a.cells is h.settled.elaborated s.elaborated

  not_cyclic : (n m : Names) (is : List CellInfo) (b : Broken) → AreNamesOf f cells n → AreSettled n most cells m is → IsCycle m is b → ⊥
  not_cyclic n m is b its s k =
      let same = same_names n m is its s in
      let edges : edges_of m is ≡ edges_of a.names a.cells =
      ap (λ (z : Names). edges_of z is) same.0 ∙ edges_alike a.names m.signatures is ∙ sym (same_edges a.names a.cells is (same_infos n m is its s)) in
      no_circle a.names a.cells a.order k.0 h.order (subst (λ (es : List (ℕ × ℕ)). IsClosedPath es k.0) edges k.1)

  -- a verdict on them that is no other
  pub cells_agree : {n : Names} {limit : ℕ} {own : List Cell} {v : Result App (List Broken)} → JudgedCells n limit own v → own ≡ cells → limit ≡ most → AreNamesOf f cells n → Agree a v
  cells_agree (app n limit own b k) e l its =
      let settled : AreSettled n most cells b.names b.cells = subst (λ q. AreSettled n q cells b.names b.cells) l (subst (λ (cs : List Cell). AreSettled n limit cs b.names b.cells) e k.settled) in
      let same = same_names n b.names b.cells its settled in
      let behind : (s : Source) → cell_behind a.names s ≡ cell_behind b.names s =
      λ s. sym (ap (λ (z : Names). cell_behind z s) same.0 ∙ behind_alike a.names b.names.signatures s) in
      record { cells = cells_one a b behind (same_infos n b.names b.cells its settled) h.supports k.supports; names = same.0; functions = same.1; limit = h.limit ∙ sym l ∙ sym k.limit }
  cells_agree (unsettling n limit own still) e l its =
      settles_alike f (map round_cell cells) cells first n a.names are its h.settled.final (subst (λ (cs : List Cell). StillChanges (map round_cell cs) n) e still)
  cells_agree (refused n limit own m b bs final r) e l its =
      let settled : AreFinalTypes (map round_cell cells) n m = subst (λ (cs : List Cell). AreFinalTypes (map round_cell cs) n m) e final in
      let same = final_names f (map round_cell cells) cells first n a.names m are its h.settled.final settled in
      some_broken b bs (b ∷ bs) refl (none_refused a.names m same.0 same.1 most cells a.cells (b ∷ bs) h.settled.elaborated (subst (λ (cs : List Cell). AreRefused m cs (b ∷ bs)) e r))
  cells_agree (cyclic n limit own m is b s k) e l its = not_cyclic n m is b its (subst (λ q. AreSettled n q cells m is) l (subst (λ (cs : List Cell). AreSettled n limit cs m is) e s)) k

-- ---- formulas beside a frame
record IsAccepted (f : Frame) (cells : List Cell) (a : App) : Type 0 where
  first : Names
  are : AreNamedFormulas f cells first
  parts : IsAppOf first f.limit cells a

abbrev IfAccepted : Frame → List Cell → Result App (List Broken) → Type 0
IfAccepted f cells (Ok a) = IsAccepted f cells a
IfAccepted f cells (Err bs) = Unit {0}

by_parts : (f : Frame) (cells : List Cell) (n : Names) (v : Result App (List Broken)) → AreNamedFormulas f cells n → IfApp n f.limit cells v → IfAccepted f cells v
by_parts f cells n (Ok a) are h = record { first = n; are = are; parts = h }
by_parts f cells n (Err bs) are h = tt

formulas_accepted : {f : Frame} {cells : List Cell} {v : Result App (List Broken)} → JudgedFormulas f cells v → IfAccepted f cells v
formulas_accepted (misnamed f cells functions b bs e k) = tt
formulas_accepted (named f cells n v are j) = by_parts f cells n v are (app_parts j)

formulas_agree : {f : Frame} {cells : List Cell} {v : Result App (List Broken)} → JudgedFormulas f cells v → (a : App) → IsAccepted f cells a → Agree a v
formulas_agree (misnamed f cells functions b bs e k) a h =
    some_broken b bs (name_breaks functions f cells) k (breaks_alike functions h.first.signatures.now (e ∙ sym h.are.named.signatures) f cells ∙ h.are.unbroken)
formulas_agree (named f cells n v are j) a h = cells_agree f cells h.first h.are.named f.limit a h.parts j refl refl are.named

-- they are judged in one way
pub formulas_one : (f : Frame) (cells : List Cell) (a : App) (v : Result App (List Broken)) → JudgedFormulas f cells (Ok a) → JudgedFormulas f cells v → Agree a v
formulas_one f cells a v p q = formulas_agree q a (formulas_accepted p)

-- ---- what a file holds
record IsFileOf (a : AppFile) (b : App) : Type 0 where
  frame : Frame
  cells : List Cell
  is_frame : frame ≡ file_frame a
  are : AreFormulasOf a frame cells []
  accepted : IsAccepted frame cells b

abbrev IfFile : AppFile → Result App (List Broken) → Type 0
IfFile a (Ok b) = IsFileOf a b
IfFile a (Err bs) = Unit {0}

file_by : (a : AppFile) (f : Frame) (cells : List Cell) (v : Result App (List Broken)) → f ≡ file_frame a → AreFormulasOf a f cells [] → IfAccepted f cells v → IfFile a v
file_by a f cells (Ok b) e are h = record { frame = f; cells = cells; is_frame = e; are = are; accepted = h }
file_by a f cells (Err bs) e are h = tt

file_accepted : {a : AppFile} {v : Result App (List Broken)} → JudgedFile a v → IfFile a v
file_accepted (judge.unparsed a bs r) = tt
file_accepted (judge.parsed a f cells v r j) = let parts = reading_parts r in file_by a f cells v parts.0 parts.1 (formulas_accepted j)

pub not_read : (r : Frame × List Cell) (bs : List Broken) → ◌≡◌ {A = Result (Frame × List Cell) (List Broken)} (Err bs) (Ok r) → ⊥
not_read r bs e = cc

pub read_same : (r q : Frame × List Cell) → ◌≡◌ {A = Result (Frame × List Cell) (List Broken)} (Ok r) (Ok q) → r ≡ q
read_same r q e = cc

file_agree : {a : AppFile} {v : Result App (List Broken)} → JudgedFile a v → (b : App) → IsFileOf a b → Agree b v
file_agree (judge.unparsed a bs r) b h = absurd (not_read (h.frame, h.cells) bs (reading_one r h.frame h.cells h.is_frame h.are))
file_agree (judge.parsed a f cells v r j) b h =
    let same : ◌≡◌ {A = Frame × List Cell} (f, cells) (h.frame, h.cells) = read_same (f, cells) (h.frame, h.cells) (reading_one r h.frame h.cells h.is_frame h.are) in
    formulas_agree (subst (λ (z : Frame × List Cell). JudgedFormulas z.0 z.1 v) same j) b h.accepted

-- ---- files
record IsAppFile (file : List ℕ) (b : App) : Type 0 where
  held : AppFile
  is_read : IsRead file (Ok held)
  is_of : IsFileOf held b

abbrev IfAppFile : List ℕ → Result App (List Broken) → Type 0
IfAppFile file (Ok b) = IsAppFile file b
IfAppFile file (Err bs) = Unit {0}

app_by : (file : List ℕ) (a : AppFile) (v : Result App (List Broken)) → IsRead file (Ok a) → IfFile a v → IfAppFile file v
app_by file a (Ok b) r h = record { held = a; is_read = r; is_of = h }
app_by file a (Err bs) r h = tt

app_accepted : {file : List ℕ} {v : Result App (List Broken)} → JudgedApp file v → IfAppFile file v
app_accepted (judge.unread file b r) = tt
app_accepted (judge.read file a v r j) = app_by file a v r (file_accepted j)

pub not_held : (a : AppFile) (b : FileBreak) → ◌≡◌ {A = Result AppFile FileBreak} (Err b) (Ok a) → ⊥
not_held a b e = cc

pub held_same : (a b : AppFile) → ◌≡◌ {A = Result AppFile FileBreak} (Ok a) (Ok b) → a ≡ b
held_same a b e = cc

app_agree : IsOneReading → {file : List ℕ} {v : Result App (List Broken)} → JudgedApp file v → (b : App) → IsAppFile file b → Agree b v
app_agree law (judge.unread file c r) b h = absurd (not_held h.held c (law file h.held (Err c) h.is_read r))
app_agree law (judge.read file a v r j) b h =
    let same : a ≡ h.held = held_same a h.held (law file h.held (Ok a) h.is_read r) in
    file_agree (subst (λ (z : AppFile). JudgedFile z v) same j) b h.is_of

pub one_app : IsOneReading → IsOneApp
one_app law file a bs p q = app_agree law q a (app_accepted p)

pub one_app_of_a_file : IsOneReading → IsOneAppOfAFile
one_app_of_a_file law file a b p q = app_agree law q a (app_accepted p)

-- ---- JSON
record IsValueOf (root : Data) (b : App) : Type 0 where
  held : AppFile
  is_read : IsReadOf root (Ok held)
  is_of : IsFileOf held b

abbrev IfValueOf : Data → Result App (List Broken) → Type 0
IfValueOf root (Ok b) = IsValueOf root b
IfValueOf root (Err bs) = Unit {0}

value_by : (root : Data) (a : AppFile) (v : Result App (List Broken)) → IsReadOf root (Ok a) → IfFile a v → IfValueOf root v
value_by root a (Ok b) r h = record { held = a; is_read = r; is_of = h }
value_by root a (Err bs) r h = tt

value_accepted : {root : Data} {v : Result App (List Broken)} → JudgedValue root v → IfValueOf root v
value_accepted (judge.unread_value root b r) = tt
value_accepted (judge.read_value root a v r j) = value_by root a v r (file_accepted j)

value_agree : {root : Data} {v : Result App (List Broken)} → JudgedValue root v → (b : App) → IsValueOf root b → Agree b v
value_agree (judge.unread_value root c r) b h = absurd (not_held h.held c (one_value root h.held (Err c) h.is_read r))
value_agree (judge.read_value root a v r j) b h =
    let same : a ≡ h.held = held_same a h.held (one_value root h.held (Ok a) h.is_read r) in
    file_agree (subst (λ (z : AppFile). JudgedFile z v) same j) b h.is_of

pub one_value_verdict : IsOneValueVerdict
one_value_verdict root a bs p q = value_agree q a (value_accepted p)

pub one_app_of_a_value : IsOneAppOfAValue
one_app_of_a_value root a b p q = value_agree q a (value_accepted p)

-- ---- texts of named formulas
record IsTextOf (source : List ℕ) (b : App) : Type 0 where
  frame : Frame
  cells : List Cell
  is_bare : frame ≡ bare_frame
  are : AreNamedAt bare_frame source cells []
  accepted : IsAccepted frame cells b

abbrev IfText : List ℕ → Result App (List Broken) → Type 0
IfText source (Ok b) = IsTextOf source b
IfText source (Err bs) = Unit {0}

text_by : (source : List ℕ) (f : Frame) (cells : List Cell) (v : Result App (List Broken)) → f ≡ bare_frame → AreNamedAt bare_frame source cells [] → IfAccepted f cells v → IfText source v
text_by source f cells (Ok b) e are h = record { frame = f; cells = cells; is_bare = e; are = are; accepted = h }
text_by source f cells (Err bs) e are h = tt

text_accepted : {source : List ℕ} {v : Result App (List Broken)} → JudgedText source v → IfText source v
text_accepted (judge.unparsed source bs r) = tt
text_accepted (judge.parsed source f cells v r j) = let parts = named_parts r in text_by source f cells v parts.0 parts.1 (formulas_accepted j)

text_agree : {source : List ℕ} {v : Result App (List Broken)} → JudgedText source v → (b : App) → IsTextOf source b → Agree b v
text_agree (judge.unparsed source bs r) b h = absurd (not_read (h.frame, h.cells) bs (named_reading_one r h.frame h.cells h.is_bare h.are))
text_agree (judge.parsed source f cells v r j) b h =
    let same : ◌≡◌ {A = Frame × List Cell} (f, cells) (h.frame, h.cells) = read_same (f, cells) (h.frame, h.cells) (named_reading_one r h.frame h.cells h.is_bare h.are) in
    formulas_agree (subst (λ (z : Frame × List Cell). JudgedFormulas z.0 z.1 v) same j) b h.accepted

-- bytes that are accepted
record AreBytesOf (bytes : List ℕ) (b : App) : Type 0 where
  short : length bytes ≤ most_source_bytes
  utf8 : IsUtf8 bytes
  is_of : IsTextOf bytes b

abbrev IfBytes : List ℕ → Result App (List Broken) → Type 0
IfBytes bytes (Ok b) = AreBytesOf bytes b
IfBytes bytes (Err bs) = Unit {0}

bytes_by : (bytes : List ℕ) (v : Result App (List Broken)) → length bytes ≤ most_source_bytes → IsUtf8 bytes → IfText bytes v → IfBytes bytes v
bytes_by bytes (Ok b) l u h = record { short = l; utf8 = u; is_of = h }
bytes_by bytes (Err bs) l u h = tt

bytes_accepted : {bytes : List ℕ} {v : Result App (List Broken)} → Judged bytes v → IfBytes bytes v
bytes_accepted (too_long bytes l) = tt
bytes_accepted (no_text bytes l other) = tt
bytes_accepted (text bytes v l u j) = bytes_by bytes v l u (text_accepted j)

bytes_agree : {bytes : List ℕ} {v : Result App (List Broken)} → Judged bytes v → (b : App) → AreBytesOf bytes b → Agree b v
bytes_agree (too_long bytes l) b h = let short : length bytes ≤ most_source_bytes = h.short in absurd (omega (arith, l, short))
bytes_agree (no_text bytes l other) b h = absurd (other h.utf8)
bytes_agree (text bytes v l u j) b h = text_agree j b h.is_of

pub one_verdict : IsOneVerdict
one_verdict bytes a bs p q = bytes_agree q a (bytes_accepted p)

pub one_app_of_a_text : IsOneAppOfAText
one_app_of_a_text bytes a b p q = bytes_agree q a (bytes_accepted p)
