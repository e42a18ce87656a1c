use Rattle.std.proofs.Common.{◌≡◌, ◌∙◌, List, Option, None, Some, ap, sym, subst, false}
use Rattle.std.specs.List.{list_any}
use Rattle.std.specs.Option.{MatchOption, is_some}
use Rattle.fx_types.specs.Values.{Data}
use Rattle.row_keeper.specs.Slots.{cells_now, now_in_slot}
use Rattle.row_keeper.specs.TableView.{TableView}
use Rattle.row_keeper.specs.Tables.{has_id}
use Rattle.row_keeper.proofs.WholeLemmas.{is_row}
use Rattle.row_keeper.proofs.table.Table.has.Goals as goal

same_some : {C : Type 0} (o : Option C) (f : C → List Data) (at : Option (List Data)) → MatchOption o (at ≡ None) (λ x. at ≡ Some (f x)) → is_some o ≡ is_some at
same_some None f at h = sym (ap is_some h)
same_some (Some x) f at h = sym (ap is_some h)

pub returns-in-Some : goal.returns-in-Some
returns-in-Some c =
    c.is_some.ensures ∙ same_some c.cells.result _ _ c.cells.ensures
    ∙ subst (λ (w : TableView). is_some (cells_now c.in-Some.slot.now) ≡ list_any (has_id c.args.id) w.now.rows) c.self.view_is
    (is_row c.self.inside.slots.by_id.entries c.args.id (cells_now c.in-Some.slot.now) c.len-len.ensures.ordered (ap now_in_slot (sym c.in-Some.ensures.value)))

pub returns-in-None : goal.returns-in-None
returns-in-None c =
    let none : Option (List Data) = None in
    subst (λ (w : TableView). false ≡ list_any (has_id c.args.id) w.now.rows) c.self.view_is
    (is_row c.self.inside.slots.by_id.entries c.args.id none c.len-len.ensures.ordered (ap now_in_slot (sym c.in-None.ensures.value)))
