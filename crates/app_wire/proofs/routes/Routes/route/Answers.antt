use Rattle.std.proofs.Common.{◌≡◌, ◌≢◌, ◌∙◌, Err, sym, subst}
use denote.Enum.Bare.{differs_true}
use Rattle.std.specs.Str.{IsUtf8}
use Rattle.std.proofs.lemmas.Result.{err_from_is_err_and}
use Rattle.app_wire.specs.Routing.{HasPath, Routing, method_of}
use Rattle.app_wire.specs.RouteTable.{route_index}
use Rattle.app_wire.specs.declared.route.RouteEnd.TheVariants.{WrongMethod}
use Rattle.app_wire.specs.contracts.head.Method.{the_type}
use Rattle.app_wire.proofs.RoutePlaces.{ends_known, ends_wrong, path_placed, route_text}
use Rattle.app_wire.proofs.routes.Routes.route.Goals as goal

pub returns-in_default : goal.returns-in_default
returns-in_default c = λ r h. c.in_default.ensures.cases.0 (subst IsUtf8 (sym c.deref.ensures.value) (route_text c.args.request.now.path.items r h))

pub returns-in_default-place_of : goal.returns-in_default-place_of
returns-in_default-place_of c =
    let here : c.in-Ok.path.now ≡ c.args.request.now.path.items = c.in-Ok.ensures.cases.0 ∙ c.deref.ensures.value in
    λ r h. c.in_default-place_of.ensures (route_index r) (path_placed c.in-Ok.path.now r (subst (λ p. HasPath p r) (sym here) h))

pub returns-in_err-route : goal.returns-in_err-route
returns-in_err-route c =
    let here : c.in-Ok.path.now ≡ c.args.request.now.path.items = c.in-Ok.ensures.cases.0 ∙ c.deref.ensures.value in
    let p = err_from_is_err_and c.from_residual.result c.from_residual.ensures.1 in
    let one = p.1 in
    let two = p.2 in
    let same : c.from_residual.result ≡ Err c.in_err-route.field-0.0 = cc in
    let known = ends_known c.in-Some.place c.args.request.now.method c.in-Ok.path.now c.in_err-route.field-0.0 c.in-Some.ensures c.in_err-route.ensures in
    subst (λ a. Routing c.args.request.now.method c.args.request.now.path.items a) (sym same)
    (subst (λ q. Routing c.args.request.now.method q (Err c.in_err-route.field-0.0)) here known)

pub returns-then-ne : goal.returns-then-ne
returns-then-ne c =
    let here : c.in-Ok.path.now ≡ c.args.request.now.path.items = c.in-Ok.ensures.cases.0 ∙ c.deref.ensures.value in
    let differ : method_of c.in_ok-route.route ≢ c.args.request.now.method =
    λ e. differs_true the_type c.method.result c.args.request.now.method (sym c.ne.ensures ∙ c.if-ne.true) (c.method.ensures ∙ e) in
    subst (λ q. Routing c.args.request.now.method q (Err WrongMethod)) here
    (ends_wrong c.in-Some.place c.args.request.now.method c.in-Ok.path.now c.in_ok-route.route c.in_ok-route.ensures differ)
