-- What holds of every formula that the definitions judge.
use Rattle.std.specs.Prelude.{◌≡◌, ℕ, List, Bool, false, Option, Some, None, Ok, Err}
use Rattle.fx_types.specs.Types.{Shape, tables, ColumnList, no_columns}
use Rattle.fx_core.specs.Lawful.{IsLawful}
use Rattle.fx_core.specs.Tree.{Tree}
use Rattle.fx_core.specs.Term.{Term}
use Rattle.fx_typing.specs.Acts.{acts}
use Rattle.fx_typing.specs.Meaning.{Place}
use Rattle.fx_typing.specs.WellTyped.{IsTyped}
use Rattle.fx_typing.specs.Details.{IsToldBrokenWhole}
use Rattle.fx_typing.specs.Typing.{context_of, outermost_setting, judge_whole}

-- what is admitted is well typed, of the type that is told
abbrev pub AdmittedIsTyped : Type 0
AdmittedIsTyped =
    (p : Place) (b : Bool) (wanted : Option Shape) (e : Tree) (x : Term × Shape) →
    IsLawful p.names → judge_whole p b wanted e ≡ Ok x
    → IsTyped (context_of p (outermost_setting b)) x.0 x.1

-- the type is the one that is wanted, and a table where any table is
abbrev pub IsWanted : Option Shape → Shape → Type 0
IsWanted None t = Unit {0}
IsWanted (Some (tables no_columns)) t = (cs : ColumnList) × (t ≡ tables cs)
IsWanted (Some u) t = t ≡ u

abbrev pub AdmittedIsWanted : Type 0
AdmittedIsWanted =
    (p : Place) (b : Bool) (wanted : Option Shape) (e : Tree) (x : Term × Shape)
    → judge_whole p b wanted e ≡ Ok x → IsWanted wanted x.1

-- where nothing may act, nothing does
abbrev pub PureIsQuiet : Type 0
PureIsQuiet =
    (p : Place) (wanted : Option Shape) (e : Tree) (x : Term × Shape)
    → judge_whole p false wanted e ≡ Ok x → acts x.0 ≡ false

-- what is called broken is broken, where and by the rule that is told
abbrev pub BrokenIsBroken : Type 0
BrokenIsBroken =
    (p : Place) (b : Bool) (wanted : Option Shape) (e : Tree) (w rule : ℕ)
    → judge_whole p b wanted e ≡ Err (w, rule) →
    (said : List ℕ) × IsToldBrokenWhole p b wanted e w rule said
