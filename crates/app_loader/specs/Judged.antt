-- Files and texts, judged: they are these apps, or these are the breaks of the first stage that has
-- any.
use Rattle.std.specs.Prelude.{◌≡◌, ◌<◌, ◌≤◌, ℕ, List, [], ◌∷◌, map, Result, Ok, Err, length, codes}
use Rattle.std.specs.Str.{IsUtf8}
use Rattle.fx_sig.specs.Entries.{entries, entry}
use Rattle.fx_core.specs.declared.broken.Broken.{Broken}
use Rattle.fx_core.specs.declared.names.Names.{Names}
use Rattle.fx_core.specs.declared.rule.Rule.TheVariants as rule
use Rattle.fx_core.specs.declared.signatures.Signature.{Signature}
use Rattle.serde_json.specs.Data.{Data}
use Rattle.app_file.specs.Files.{IsRead, IsReadOf, broken_of}
use Rattle.app_file.specs.declared.breaks.FileBreak.{FileBreak}
use Rattle.app_file.specs.declared.file.AppFile.{AppFile}
use Rattle.app_cells.specs.declared.app.App.{App}
use Rattle.app_cells.specs.declared.cell.Cell.{Cell}
use Rattle.app_cells.specs.declared.frame.Frame.{Frame}
use Rattle.app_texts.specs.Texts.{IsNamedReading, IsReading}
use Rattle.app_names.specs.AppNames.{AreNamesOf}
use Rattle.app_names.specs.NameRules.{in_app, name_breaks}
use Rattle.app_loader.specs.Accepted.{HaveOneTemplate}
use Rattle.app_loader.specs.JudgedFormulas.{JudgedCells}

-- the most bytes of a text of named formulas
abbrev pub most_source_bytes : ℕ
most_source_bytes = 262144

-- these are the names of formulas, of which nothing is broken
pub record AreNamedFormulas (f : Frame) (cells : List Cell) (n : Names) : Type 0 where
  pub named : AreNamesOf f cells n
  pub unbroken : name_breaks n.signatures.now f cells ≡ []

-- FORMULAS BESIDE A FRAME, judged: something is broken among their names, or under their names they
-- are judged so.
pub data JudgedFormulas : Frame → List Cell → Result App (List Broken) → Type 0 where
  misnamed : (f : Frame) (cells : List Cell) (functions : List Signature) (b : Broken)
      (bs : List Broken) → map entry functions ≡ entries
      → name_breaks functions f cells ≡ b ∷ bs → JudgedFormulas f cells (Err (b ∷ bs))
  named : (f : Frame) (cells : List Cell) (n : Names) (v : Result App (List Broken))
      → AreNamedFormulas f cells n → JudgedCells n f.limit cells v
      → JudgedFormulas f cells v

-- What a file holds, judged: some of its texts are no formulas, or its formulas are judged so.
pub data JudgedFile : AppFile → Result App (List Broken) → Type 0 where
  unparsed : (a : AppFile) (bs : List Broken) → IsReading a (Err bs) → JudgedFile a (Err bs)
  parsed : (a : AppFile) (f : Frame) (cells : List Cell) (v : Result App (List Broken))
      → IsReading a (Ok (f, cells)) → JudgedFormulas f cells v
      → JudgedFile a v

-- however its texts are read, no gallery has two formulas of its items
abbrev pub HasSingles : AppFile → Type 0
HasSingles a = (f : Frame) (cells : List Cell) → IsReading a (Ok (f, cells)) → HaveOneTemplate cells

-- THE BYTES OF AN APP FILE, judged: they aren't read, and why is told; or what they hold is judged
-- so.
pub data JudgedApp : List ℕ → Result App (List Broken) → Type 0 where
  unread : (file : List ℕ) (b : FileBreak) → IsRead file (Err b)
      → JudgedApp file (Err (broken_of b ∷ []))
  read : (file : List ℕ) (a : AppFile) (v : Result App (List Broken)) → IsRead file (Ok a)
      → JudgedFile a v → JudgedApp file v

-- JSON, judged likewise
pub data JudgedValue : Data → Result App (List Broken) → Type 0 where
  unread_value : (root : Data) (b : FileBreak) → IsReadOf root (Err b)
      → JudgedValue root (Err (broken_of b ∷ []))
  read_value : (root : Data) (a : AppFile) (v : Result App (List Broken)) → IsReadOf root (Ok a)
      → JudgedFile a v → JudgedValue root v

-- a text of named formulas, judged
pub data JudgedText : List ℕ → Result App (List Broken) → Type 0 where
  unparsed : (source : List ℕ) (bs : List Broken) → IsNamedReading source (Err bs)
      → JudgedText source (Err bs)
  parsed : (source : List ℕ) (f : Frame) (cells : List Cell) (v : Result App (List Broken))
      → IsNamedReading source (Ok (f, cells))
      → JudgedFormulas f cells v → JudgedText source v

-- BYTES OF NAMED FORMULAS, judged: the length comes first, then whether they are UTF-8.
pub data Judged : List ℕ → Result App (List Broken) → Type 0 where
  too_long : (bytes : List ℕ) → most_source_bytes < length bytes
      → Judged bytes (Err (in_app rule.LimitPassed (codes "named 262145") ∷ []))
  no_text : (bytes : List ℕ) → length bytes ≤ most_source_bytes → (IsUtf8 bytes → ⊥)
      → Judged bytes (Err (in_app rule.BadShape (codes "utf-8") ∷ []))
  text : (bytes : List ℕ) (v : Result App (List Broken)) → length bytes ≤ most_source_bytes
      → IsUtf8 bytes → JudgedText bytes v → Judged bytes v
