use Rattle.std.proofs.Common.{◌≡◌, ap, subst, sym, map, set}
use Rattle.std.specs.Prelude.{option_map, List, Option}
use Rattle.std.proofs.lemmas.List.{map-set}
use Rattle.fx_types.specs.Values.{Data}
use Rattle.fx_types.specs.ValueView.{view}
use Rattle.session_state.specs.Sessions.{SessionState}
use Rattle.session_state.specs.Changes.{made}
use Rattle.session_state.specs.declared.change.Change.{Change}
use Rattle.session_state.specs.contracts.session.Session.{the_view}
use Rattle.session_state.proofs.session.Session.make.Goals as goal

pub returns-in-Input-clause-changed : goal.returns-in-Input-clause-changed
returns-in-Input-clause-changed c =
    let s : SessionState = the_view c.self-in-Input.inside in
    let now : SessionState = record s { inputs = map (option_map view) (set c.self-in-Input.inside.inputs.items c.in-Input.number c.in-Input.value) } in
    let Q : Change → Type 0 = λ ch. now ≡ made ch c.args.self.now in
    let P : SessionState → Type 0 = λ x. now ≡ record x { inputs = set x.inputs c.in-Input.number (option_map view c.in-Input.value) } in
    subst Q (sym c.in-Input.is) (subst P c.self-in-Input.view_is
    (ap (λ (xs : List (Option Data)). record s { inputs = xs }) (map-set (option_map view) c.self-in-Input.inside.inputs.items c.in-Input.number c.in-Input.value)))
