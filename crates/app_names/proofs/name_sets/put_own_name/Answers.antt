use Rattle.std.proofs.Common.{◌≡◌, ◌++◌, List, ℕ, OnOk, subst, sym}
use Rattle.app_names.specs.Declarations.{is_name_among, own_names}
use Rattle.app_names.specs.Tops.{is_name_in_set}
use Rattle.app_cells.specs.declared.cell.Spot.{Spot}
use Rattle.app_names.proofs.name_sets.put_own_name.Goals as goal

pub returns-in-Formula : goal.returns-in-Formula
returns-in-Formula c =
    subst (λ (s : Spot). OnOk c.put_name.result ((xs : List (List ℕ)) → is_name_in_set c.args.names.now ≡ is_name_among xs → is_name_in_set c.put_name.new.names ≡ is_name_among (xs ++ own_names s))) (sym c.in-Formula.is) c.put_name.ensures
