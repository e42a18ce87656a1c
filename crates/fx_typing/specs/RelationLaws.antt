-- The definition that judges and the relation are one.
use Rattle.std.specs.Prelude.{◌≡◌, ℕ, Bool, true, Option, Ok, Err}
use Rattle.fx_types.specs.Types.{Shape}
use Rattle.fx_core.specs.Tree.{Tree}
use Rattle.fx_core.specs.Term.{Term}
use Rattle.fx_typing.specs.Meaning.{Place}
use Rattle.fx_typing.specs.Parts.{JudgedPart, Setting}
use Rattle.fx_typing.specs.Typing.{judge, judge_whole}
use Rattle.fx_typing.specs.Elaborates.{Elaborates, IsNothing, FormulaElaborates, FormulaIsNothing}

-- what is admitted is related, where the types of variables are settled
abbrev pub AdmittedElaborates : Type 0
AdmittedElaborates = (p : Place) (s : Setting) (e : Tree) (q : JudgedPart) → p.settled ≡ true
    → judge p s e ≡ Ok q → Elaborates p s e q

-- what is related is admitted, with the same tree and type: so a formula is related to one thing at
-- most
abbrev pub ElaboratedIsAdmitted : Type 0
ElaboratedIsAdmitted = (p : Place) (s : Setting) (e : Tree) (q : JudgedPart) → p.settled ≡ true
    → Elaborates p s e q → judge p s e ≡ Ok q

-- where a formula is called broken, all parts of that node are related, and the node is to nothing
abbrev pub BrokenIsNothing : Type 0
BrokenIsNothing = (p : Place) (s : Setting) (e : Tree) (w rule : ℕ) → p.settled ≡ true
    → judge p s e ≡ Err (w, rule) → IsNothing p s e w

-- and all this of whole formulas, as they are wanted
abbrev pub WholeElaborates : Type 0
WholeElaborates =
    (p : Place) (b : Bool) (wanted : Option Shape) (e : Tree) (x : Term × Shape) → p.settled ≡ true
    → judge_whole p b wanted e ≡ Ok x →
    FormulaElaborates p b wanted e x

abbrev pub WholeIsAdmitted : Type 0
WholeIsAdmitted =
    (p : Place) (b : Bool) (wanted : Option Shape) (e : Tree) (x : Term × Shape) → p.settled ≡ true
    → FormulaElaborates p b wanted e x →
    judge_whole p b wanted e ≡ Ok x

-- a whole formula that is called broken is related to nothing, and broken where it is told
abbrev pub WholeIsNothing : Type 0
WholeIsNothing =
    (p : Place) (b : Bool) (wanted : Option Shape) (e : Tree) (w rule : ℕ) → p.settled ≡ true
    → judge_whole p b wanted e ≡ Err (w, rule) →
    FormulaIsNothing p b wanted e w × ((x : Term × Shape) → FormulaElaborates p b wanted e x → ⊥)
