use Rattle.std.proofs.Common.{Option, false, ap, sym, ◌∙◌}
use Rattle.std.proofs.lemmas.Option.{slice_get_past}
use Rattle.std.specs.Prelude.{option_map, unwrap_or}
use Rattle.session_views.specs.Views.{is_seen}
use Rattle.fx_core.specs.declared.names.ControlName.{ControlName}
use Rattle.recalc.specs.Values.{value_of}
use Rattle.session_views.proofs.items.is_seen_at.Goals as goal

pub returns-in-Some : goal.returns-in-Some
returns-in-Some c =
    c.is_seen.ensures ∙ ap (λ (o : Option ControlName). unwrap_or (option_map (is_seen c.args.names.now c.args.session.now (value_of c.args.valued.now) c.args.number) o) false) (sym c.in-Some.ensures)

pub returns-in-None : goal.returns-in-None
returns-in-None c =
    ap (λ (o : Option ControlName). unwrap_or (option_map (is_seen c.args.names.now c.args.session.now (value_of c.args.valued.now) c.args.number) o) false) (sym (slice_get_past c.args.names.now.controls c.args.number c.in-None.ensures))
