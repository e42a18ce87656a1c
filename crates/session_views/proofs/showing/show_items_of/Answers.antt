use Rattle.std.proofs.Math.Logic.{∥∥₁_map}
use Rattle.recalc.proofs.Asked.{heard_told}
use Rattle.row_keeper.specs.Tables.{rows_told}
use Rattle.session_views.proofs.showing.show_items_of.Goals as goal

pub returns-clause-done : goal.returns-clause-done
returns-clause-done g c =
    let told = g.K.Keeper.told c.items_of.new.keeper in
    ((c.in_ok-items.items, ∥∥₁_map c.requires.right (λ right. c.in_ok-items.ensures.shows right (rows_told told) (heard_told told)), c.in_ok-items_reply.ensures.done), c.in_ok-items.ensures.read.told)

pub returns-clause-right : goal.returns-clause-right
returns-clause-right g c = ∥∥₁_map c.requires.right c.items_of.ensures.right

pub returns-in_err-items-clause-right : goal.returns-in_err-items-clause-right
returns-in_err-items-clause-right g c = ∥∥₁_map c.requires.right c.items_of.ensures.right

pub returns-in_err-items_reply-clause-right : goal.returns-in_err-items_reply-clause-right
returns-in_err-items_reply-clause-right g c = ∥∥₁_map c.requires.right c.items_of.ensures.right

pub returns-clause-visits : goal.returns-clause-visits
returns-clause-visits g c = λ room t told. ∥∥₁_map c.requires.right (λ right. (c.in_ok-items.items, c.in_ok-items_reply.ensures.done, c.in_ok-items.ensures.visits right room t told))
