-- What holds of every typed tree, whether or not it acts.
use Rattle.std.specs.Prelude.{◌≡◌, Bool, Option, Ok}
use Rattle.fx_types.specs.Types.{Shape}
use Rattle.fx_semantics.specs.NamedTypes.{HasLawfulTypes}
use Rattle.fx_semantics.specs.Places.{IsPlaced}
use Rattle.fx_semantics.specs.Sound.{IsLawfulContext, IsLawfulTyping}
use Rattle.fx_core.specs.Term.{Term}
use Rattle.fx_core.specs.Tree.{Tree}
use Rattle.fx_typing.specs.Meaning.{Place}
use Rattle.fx_typing.specs.Typing.{judge_whole}
use Rattle.fx_typing.specs.WellTyped.{Context, IsTyped}

-- in what is admitted, what acts acts in its place alone
abbrev pub AdmittedIsPlaced : Type 0
AdmittedIsPlaced = (p : Place) (b : Bool) (wanted : Option Shape) (e : Tree) (x : Term × Shape)
    → judge_whole p b wanted e ≡ Ok x → IsPlaced x.0

-- all types of a tree are lawful where those around are and those that it names
abbrev pub AllTypingsLawful : Type 0
AllTypingsLawful = (c : Context) (t : Term) (s : Shape) (w : IsTyped c t s) → IsLawfulContext c
    → HasLawfulTypes t → IsLawfulTyping c t s w
