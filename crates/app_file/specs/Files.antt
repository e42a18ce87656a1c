-- App files: what is read of their bytes, or what is broken of them.
use Rattle.std.specs.Prelude.{◌≡◌, ◌<◌, ◌≤◌, ◌++◌, ◌⊎◌, ℕ, List, Some, None, Result, Ok, Err}
use Rattle.std.specs.Prelude.{length, codes}
use Rattle.std.specs.Fmt.{decimal}
use Rattle.std.specs.Str.{IsUtf8}
use Rattle.serde_json.specs.Data.{Data}
use Rattle.serde_json.specs.Read.{read}
use Rattle.fx_base.specs.declared.or_memory.OrMemory.{OrMemory}
use Rattle.fx_base.specs.declared.or_memory.OrMemory.TheVariants as end
use Rattle.fx_core.specs.declared.broken.Broken.{Broken}
use Rattle.fx_core.specs.declared.rule.Rule.{Rule}
use Rattle.fx_core.specs.declared.rule.Rule.TheVariants as rule
use Rattle.app_file.specs.declared.breaks.FileBreak.{FileBreak}
use Rattle.app_file.specs.declared.breaks.FileBreak.TheVariants as broken
use Rattle.app_file.specs.declared.file.AppFile.{AppFile}
use Rattle.app_file.specs.declared.limits.Limit.{Limit}
use Rattle.app_file.specs.declared.limits.Limit.TheVariants as limit
use Rattle.app_file.specs.declared.steps.Step.{Step}
use Rattle.app_file.specs.Contents.{app_of}
use Rattle.app_file.specs.FormOfApp.{app_form}
use Rattle.app_file.specs.Forms.{BreaksForm, IsFine}
use Rattle.app_file.specs.Limits.{first_passed, limits}
use Rattle.app_file.specs.Paths.{path_text}

-- the most bytes of an app file
abbrev pub most_file_bytes : ℕ
most_file_bytes = 4194304

-- The file isn't too long, and is this JSON. Of two members with one key the last one counts.
pub record HasJson (file : List ℕ) (root : Data) : Type 0 where
  pub short : length file ≤ most_file_bytes
  pub utf8 : IsUtf8 file
  pub json : read file ≡ Some root

-- What is read of JSON: a part of it breaks the form, and of several such parts any is told; it
-- passes a limit; or it holds an app.
pub data IsReadOf : Data → Result AppFile FileBreak → Type 0 where
  bad_part : (root : Data) (path : List Step) → BreaksForm app_form root path
      → IsReadOf root (Err (broken.BadPart (path_text path)))
  passed : (root : Data) (l : Limit) (count : ℕ) → IsFine app_form root
      → first_passed limits (app_of root) ≡ Some (l, count)
      → IsReadOf root (Err (broken.Passed l count))
  app : (root : Data) → IsFine app_form root → first_passed limits (app_of root) ≡ None
      → IsReadOf root (Ok (app_of root))

-- WHAT IS READ OF A FILE: it is too long, or it is no JSON, or this is read of its JSON.
pub data IsRead : List ℕ → Result AppFile FileBreak → Type 0 where
  too_long : (file : List ℕ) → most_file_bytes < length file → IsRead file (Err broken.TooLong)
  no_json : (file : List ℕ) → length file ≤ most_file_bytes
      → ((root : Data) → HasJson file root → ⊥) → IsRead file (Err broken.NoJson)
  json : (file : List ℕ) (root : Data) (v : Result AppFile FileBreak) → HasJson file root
      → IsReadOf root v → IsRead file v

-- an end tells of a break of which this holds; of want of memory nothing is said
abbrev pub TellsFileBreak : (FileBreak → Type 0) → OrMemory FileBreak → Type 0
TellsFileBreak P (end.Refused b) = P b
TellsFileBreak P end.Memory = Unit {0}

-- the limits by their names
abbrev pub limit_name : Limit → List ℕ
limit_name limit.Formula = codes "formula"
limit_name limit.NamedFormulas = codes "named"
limit_name limit.Name = codes "name"
limit_name limit.Screens = codes "screens"
limit_name limit.Controls = codes "controls"
limit_name limit.Tables = codes "tables"
limit_name limit.Columns = codes "columns"

-- of the text of named formulas one number is told, as of a text that is read alone
abbrev pub told_count : Limit → ℕ → ℕ
told_count limit.NamedFormulas n = 262145
told_count l n = n

abbrev pub in_file : Rule → List ℕ → Broken
in_file r detail = record { cell = codes "App"; rule = r; at = 0; detail = detail }

abbrev pub passed_detail : Limit → ℕ → List ℕ
passed_detail l n = limit_name l ++ (codes " " ++ decimal (told_count l n))

-- what is said of a break
abbrev pub broken_of : FileBreak → Broken
broken_of broken.TooLong = in_file rule.LimitPassed (codes "app 4194305")
broken_of broken.NoJson = in_file rule.BadShape (codes "json")
broken_of (broken.BadPart path) = in_file rule.BadShape path
broken_of (broken.Passed l n) = in_file rule.LimitPassed (passed_detail l n)

-- the end of a part, told of its file
abbrev pub IsBadPartOf : OrMemory (List Step) → OrMemory FileBreak → Type 0
IsBadPartOf e end.Memory = Unit {0}
IsBadPartOf (end.Refused path) (end.Refused b) = b ≡ broken.BadPart (path_text path)
IsBadPartOf end.Memory (end.Refused b) = ⊥

-- no file is both read and broken, and what is read is one app
abbrev pub IsOneReading : Type 0
IsOneReading = (file : List ℕ) (a : AppFile) (v : Result AppFile FileBreak) → IsRead file (Ok a)
    → IsRead file v → v ≡ Ok a

-- of a file that is broken one thing is told, but for which of its bad parts
abbrev pub IsBadPart : FileBreak → Type 0
IsBadPart (broken.BadPart path) = Unit {0}
IsBadPart b = ⊥

abbrev pub IsOneBreak : Type 0
IsOneBreak = (file : List ℕ) (b c : FileBreak) → IsRead file (Err b) → IsRead file (Err c)
    → (b ≡ c) ⊎ (IsBadPart b × IsBadPart c)
