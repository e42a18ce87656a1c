-- Which formulas of an app are admitted under names, and what is broken of the others.
use Rattle.std.specs.Prelude.{◌≡◌, ◌⊎◌, ◌-◌, ℕ, List, [], ◌∷◌, Ok, Err, option_map}
use Rattle.std.specs.List.{AllZip}
use Rattle.fx_types.specs.TypeView.{shape}
use Rattle.fx_types.specs.Types.{Shape}
use Rattle.fx_core.specs.declared.broken.Broken.{Broken}
use Rattle.fx_core.specs.declared.names.Names.{Names}
use Rattle.fx_core.specs.declared.rule.Rule.{Rule}
use Rattle.fx_core.specs.Rules.{rule_number}
use Rattle.fx_core.specs.Term.{Term}
use Rattle.fx_typing.specs.declared.typed.Typed.{Typed}
use Rattle.fx_typing.specs.Details.{IsToldBrokenWhole}
use Rattle.fx_typing.specs.TypedView.{typed}
use Rattle.app_cells.specs.declared.cell.Cell.{Cell}
use Rattle.app_loader.specs.Cells.{judged_cell, cell_place}

-- a rule that a formula breaks at a byte, which is counted from its first token
abbrev pub in_cell : Cell → Rule → ℕ → List ℕ → Broken
in_cell c r at detail = record { cell = c.name; rule = r; at = at - c.at; detail = detail }

abbrev pub IsAdmitted : Names → Cell → Type 0
IsAdmitted m c = (x : Term × Shape) × (judged_cell m c ≡ Ok x)

-- this is broken of a formula, and this is said of it
abbrev pub Breaks : Names → Cell → Broken → Type 0
Breaks m c b =
    (r : Rule) × (at : ℕ) × (said : List ℕ) × (judged_cell m c ≡ Err (at, rule_number r))
    × IsToldBrokenWhole (cell_place m c) c.acts (option_map shape c.wanted) c.expr at
    (rule_number r) said × (b ≡ in_cell c r at said)

-- the breaks of things in their order: one at most of each, and none of one that is fine
abbrev pub AreBreaks : {A : Type 0} → (A → Type 0) → (A → Broken → Type 0) → List A → List Broken
    → Type 0
AreBreaks IsFine IsBroken [] bs = bs ≡ []
AreBreaks IsFine IsBroken (x ∷ xs) bs =
    (IsFine x × AreBreaks IsFine IsBroken xs bs)
    ⊎ ((b : Broken) × (more : List Broken) × (bs ≡ b ∷ more) × IsBroken x b
    × AreBreaks IsFine IsBroken xs more)

-- THE breaks of the formulas that aren't admitted
abbrev pub AreRefused : Names → List Cell → List Broken → Type 0
AreRefused m = AreBreaks (IsAdmitted m) (Breaks m)

-- the typed trees of formulas
abbrev pub AreTyped : Names → List Cell → List Typed → Type 0
AreTyped m = AllZip (λ c t. judged_cell m c ≡ Ok (typed t))
