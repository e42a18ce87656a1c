-- What verdicts a file or a text may have.
use Rattle.std.specs.Prelude.{◌≡◌, ℕ, List, Ok, Err, map}
use Rattle.fx_sig.specs.Entries.{entry}
use Rattle.std.specs.List.{AllZip}
use Rattle.serde_json.specs.Data.{Data}
use Rattle.fx_core.specs.declared.broken.Broken.{Broken}
use Rattle.fx_core.specs.declared.rule.Rule.TheVariants as rule
use Rattle.app_cells.specs.declared.app.App.{App}
use Rattle.app_loader.specs.Judged.{Judged, JudgedApp, JudgedValue}

-- no text is both accepted and refused
abbrev pub IsOneVerdict : Type 0
IsOneVerdict = (bytes : List ℕ) (a : App) (bs : List Broken) → Judged bytes (Ok a)
    → Judged bytes (Err bs) → ⊥

-- no file is
abbrev pub IsOneApp : Type 0
IsOneApp = (file : List ℕ) (a : App) (bs : List Broken) → JudgedApp file (Ok a)
    → JudgedApp file (Err bs) → ⊥

-- and no JSON is
abbrev pub IsOneValueVerdict : Type 0
IsOneValueVerdict = (root : Data) (a : App) (bs : List Broken) → JudgedValue root (Ok a)
    → JudgedValue root (Err bs) → ⊥

-- The same formulas with their typed trees, the same names with their types, and the same row
-- limit. Tables of functions have the same entries, and may stand at two places in memory; and the
-- order may be another that is right.
pub record IsSameApp (a b : App) : Type 0 where
  pub cells : a.cells ≡ b.cells
  pub names : b.names ≡ record a.names { signatures = b.names.signatures }
  pub functions : map entry b.names.signatures.now ≡ map entry a.names.signatures.now
  pub limit : a.limit ≡ b.limit

-- a text that is accepted is one app
abbrev pub IsOneAppOfAText : Type 0
IsOneAppOfAText = (bytes : List ℕ) (a b : App) → Judged bytes (Ok a) → Judged bytes (Ok b)
    → IsSameApp a b

-- and so is a file
abbrev pub IsOneAppOfAFile : Type 0
IsOneAppOfAFile = (file : List ℕ) (a b : App) → JudgedApp file (Ok a) → JudgedApp file (Ok b)
    → IsSameApp a b

-- and so is JSON
abbrev pub IsOneAppOfAValue : Type 0
IsOneAppOfAValue = (root : Data) (a b : App) → JudgedValue root (Ok a) → JudgedValue root (Ok b)
    → IsSameApp a b

-- The same break; or both say that a text is too deep, that formulas lean on one another in a
-- circle, or that a part of a file breaks the form: of places, circles and parts there may be
-- several.
pub data IsSameBreak : Broken → Broken → Type 0 where
  same : (b : Broken) → IsSameBreak b b
  too_deep : (b : Broken) (at : ℕ) → b.rule ≡ rule.TooDeep → IsSameBreak b (record b { at = at })
  circle : (b c : Broken) → b.rule ≡ rule.Cycle → c.rule ≡ rule.Cycle → IsSameBreak b c
  bad_part : (b : Broken) (detail : List ℕ) → b.rule ≡ rule.BadShape
      → IsSameBreak b (record b { detail = detail })

abbrev pub AreSameBreaks : List Broken → List Broken → Type 0
AreSameBreaks = AllZip IsSameBreak

-- of a text that is refused the same breaks are told
abbrev pub IsOneRefusalOfAText : Type 0
IsOneRefusalOfAText = (bytes : List ℕ) (bs cs : List Broken) → Judged bytes (Err bs)
    → Judged bytes (Err cs) → AreSameBreaks bs cs

-- and of a file
abbrev pub IsOneRefusalOfAFile : Type 0
IsOneRefusalOfAFile = (file : List ℕ) (bs cs : List Broken) → JudgedApp file (Err bs)
    → JudgedApp file (Err cs) → AreSameBreaks bs cs

-- and of JSON
abbrev pub IsOneRefusalOfAValue : Type 0
IsOneRefusalOfAValue = (root : Data) (bs cs : List Broken) → JudgedValue root (Err bs)
    → JudgedValue root (Err cs) → AreSameBreaks bs cs
