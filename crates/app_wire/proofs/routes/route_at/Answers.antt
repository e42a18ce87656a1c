use Rattle.std.proofs.Common.{refl}
use Rattle.app_wire.specs.declared.route.Route.TheVariants.{Edit, Event, Graph, Input, Items, Named, Page, Plan, Replace, Rows, View}
use Rattle.app_wire.proofs.RoutePlaces.{reads_at}
use Rattle.app_wire.proofs.routes.route_at.Goals as goal

pub returns-in_ok-caller_at-in-View : goal.returns-in_ok-caller_at-in-View
returns-in_ok-caller_at-in-View c = reads_at c.args.place c.args.method c.args.path.now (View c.in_ok-caller_at-in-View.field-0) c.in-View.is c.requires refl (c.in_ok-caller_at-in-View.ensures, tt)

pub returns-in_ok-caller_at-in-Named : goal.returns-in_ok-caller_at-in-Named
returns-in_ok-caller_at-in-Named c = reads_at c.args.place c.args.method c.args.path.now (Named c.in_ok-caller_at-in-Named.field-0) c.in-Named.is c.requires refl (c.in_ok-caller_at-in-Named.ensures, tt)

pub returns-in_ok-caller_at-in-Event : goal.returns-in_ok-caller_at-in-Event
returns-in_ok-caller_at-in-Event c = reads_at c.args.place c.args.method c.args.path.now (Event c.in_ok-caller_at-in-Event.field-0) c.in-Event.is c.requires refl (c.in_ok-caller_at-in-Event.ensures, tt)

pub returns-in_ok-caller_at-in-Input : goal.returns-in_ok-caller_at-in-Input
returns-in_ok-caller_at-in-Input c = reads_at c.args.place c.args.method c.args.path.now (Input c.in_ok-caller_at-in-Input.field-0) c.in-Input.is c.requires refl (c.in_ok-caller_at-in-Input.ensures, tt)

pub returns-in_ok-caller_at-in-Rows : goal.returns-in_ok-caller_at-in-Rows
returns-in_ok-caller_at-in-Rows c = reads_at c.args.place c.args.method c.args.path.now (Rows c.in_ok-caller_at-in-Rows.field-0) c.in-Rows.is c.requires refl (c.in_ok-caller_at-in-Rows.ensures, tt)

pub returns-in_ok-caller_at-in-Edit : goal.returns-in_ok-caller_at-in-Edit
returns-in_ok-caller_at-in-Edit c = reads_at c.args.place c.args.method c.args.path.now (Edit c.in_ok-caller_at-in-Edit.field-0) c.in-Edit.is c.requires refl (c.in_ok-caller_at-in-Edit.ensures, tt)

pub returns-in_ok-caller_at-in-Replace : goal.returns-in_ok-caller_at-in-Replace
returns-in_ok-caller_at-in-Replace c = reads_at c.args.place c.args.method c.args.path.now (Replace c.in_ok-caller_at-in-Replace.field-0) c.in-Replace.is c.requires refl (c.in_ok-caller_at-in-Replace.ensures, tt)

pub returns-in_ok-number_at-in-Items : goal.returns-in_ok-number_at-in-Items
returns-in_ok-number_at-in-Items c =
    reads_at c.args.place c.args.method c.args.path.now (Items c.in_ok-caller_at-in-Items.field-0 c.in_ok-title_at-in-Items.field-0 c.in_ok-number_at-in-Items.field-0) c.in-Items.is c.requires refl
    (c.in_ok-caller_at-in-Items.ensures, (c.in_ok-title_at-in-Items.ensures, (c.in_ok-number_at-in-Items.ensures, tt)))

pub returns-in_ok-number_at-in-Page : goal.returns-in_ok-number_at-in-Page
returns-in_ok-number_at-in-Page c =
    reads_at c.args.place c.args.method c.args.path.now (Page c.in_ok-title_at-in-Page.field-0 c.in_ok-number_at-in-Page.field-0) c.in-Page.is c.requires refl
    (c.in_ok-title_at-in-Page.ensures, (c.in_ok-number_at-in-Page.ensures, tt))

pub returns-in-Plan : goal.returns-in-Plan
returns-in-Plan c = reads_at c.args.place c.args.method c.args.path.now Plan c.in-Plan.is c.requires refl tt

pub returns-in-Graph : goal.returns-in-Graph
returns-in-Graph c = reads_at c.args.place c.args.method c.args.path.now Graph c.in-Graph.is c.requires refl tt
