use Rattle.std.proofs.Common.{◌≡◌, ◌∙◌, IfOk, Option, None, Some, ap, option_map, subst, sym}
use Rattle.fx_typing.specs.Meaning as sought
use Rattle.fx_resolve.proofs.Behind.{behind_all}
use Rattle.fx_resolve.proofs.meanings.meaning_of.Goals as goal
use Rattle.fx_resolve.specs.MeaningView.{as_valued, meaning_view, place_view}
use Rattle.fx_resolve.specs.ReservedView.{reserved_meaning}

pub returns-in-Some-2 : goal.returns-in-Some-2
returns-in-Some-2 c =
    let p = place_view c.args.at.now in
    let no_scope : sought.in_scopes 0 c.args.name.now c.args.scopes.now ≡ None = sym c.in_ok-found.ensures ∙ ap (option_map as_valued) c.in_default.is in
    let no_word : sought.reserved p c.args.scopes.now c.args.catches c.args.name.now ≡ None =
    sym (c.reserved_name.ensures p c.args.scopes.now c.args.catches) ∙ ap (option_map (reserved_meaning p c.args.scopes.now c.args.catches)) c.in_default-reserved_name.is in
    let here : sought.in_context p c.args.name.now ≡ Some (as_valued c.in-Some-2.found) = sym c.in_ok-found-2.ensures ∙ ap (option_map as_valued) c.in-Some-2.is in
    sym (
    behind_all p c.args.scopes.now c.args.catches c.args.name.now no_scope no_word
    ∙ ap (λ o. sought.or_else o (sought.in_globals p.names c.args.name.now)) here
    )

pub returns : goal.returns
returns c =
    let p = place_view c.args.at.now in
    let no_scope : sought.in_scopes 0 c.args.name.now c.args.scopes.now ≡ None = sym c.in_ok-found.ensures ∙ ap (option_map as_valued) c.in_default.is in
    let no_word : sought.reserved p c.args.scopes.now c.args.catches c.args.name.now ≡ None =
    sym (c.reserved_name.ensures p c.args.scopes.now c.args.catches) ∙ ap (option_map (reserved_meaning p c.args.scopes.now c.args.catches)) c.in_default-reserved_name.is in
    let elsewhere : sought.in_context p c.args.name.now ≡ None = sym c.in_ok-found-2.ensures ∙ ap (option_map as_valued) c.in_default-2.is in
    subst (λ (o : Option sought.NameMeaning). IfOk c.in_globals.result (λ m. option_map meaning_view m ≡ o))
    (
    sym (
    behind_all p c.args.scopes.now c.args.catches c.args.name.now no_scope no_word
    ∙ ap (λ o. sought.or_else o (sought.in_globals p.names c.args.name.now)) elsewhere
    )
    )
    c.in_globals.ensures
