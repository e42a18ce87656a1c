use Rattle.std.proofs.Common.{◌∙◌, ap, length, map}
use Rattle.std.specs.Prelude.{option_map}
use Rattle.fx_types.specs.ValueView.{view}
use Rattle.session_state.specs.CarriedOver.{control_was}
use Rattle.session_state.proofs.CarriedControls.{kept_seen}
use Rattle.session_state.proofs.carrying_over.carry_inputs.Goals as goal

pub returns : goal.returns
returns c =
    ap (map (option_map view)) c.carry_kept.ensures
    ∙ kept_seen (control_was c.args.old.now c.args.new.now) c.args.from.now.items (length c.args.new.now)
