use Rattle.std.proofs.Common.{Some, subst, sym, ◌∙◌, arith, refl}
use Rattle.recalc.specs.app_semantics.Present.{present}
use Rattle.session_views.specs.Views.{ShowsFirstItems}
use Rattle.fx_types.specs.declared.controls.Control.{Control}
use Rattle.recalc.specs.Values.{value_of}
use Rattle.session_views.proofs.Displays.{no_items}
use Rattle.session_views.proofs.Galleries.{gallery_kind}
use Rattle.session_views.proofs.view.shown_items.Goals as goal

pub items_from-requires-clause-gallery : goal.items_from-requires-clause-gallery
items_from-requires-clause-gallery g c =
    (c.args.control.now, record { there = c.requires.control; kind = gallery_kind c.args.control.now.kind (sym c.is_gallery.ensures ∙ c.if-is_gallery.true) })

pub returns-in_ok-items-clause-shows : goal.returns-in_ok-items-clause-shows
returns-in_ok-items-clause-shows g c = λ moment tables today heard.
    subst (λ (k : Control). ShowsFirstItems (present c.args.app.now c.args.session.now tables moment) (value_of c.args.valued.now) c.args.number k (Some c.in_ok-items.items))
    (sym (gallery_kind c.args.control.now.kind (sym c.is_gallery.ensures ∙ c.if-is_gallery.true))) (c.in_ok-items.ensures.shows moment tables today heard)

pub returns-else-is_gallery-clause-shows : goal.returns-else-is_gallery-clause-shows
returns-else-is_gallery-clause-shows g c = λ moment tables today heard.
    no_items (present c.args.app.now c.args.session.now tables moment) (value_of c.args.valued.now) c.args.number c.args.control.now.kind (sym c.is_gallery.ensures ∙ c.if-is_gallery.false)

pub returns-in_ok-items-clause-visits : goal.returns-in_ok-items-clause-visits
returns-in_ok-items-clause-visits g c = c.in_ok-items.ensures.visits

pub returns-else-is_gallery-clause-visits : goal.returns-else-is_gallery-clause-visits
returns-else-is_gallery-clause-visits g c = λ moment today t told. (0, refl, omega arith)
