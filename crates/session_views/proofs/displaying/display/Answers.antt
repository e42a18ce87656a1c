use Rattle.std.proofs.Common.{ap}
use Rattle.fx_types.specs.Types.{booleans, dates, numbers, texts}
use Rattle.fx_core.specs.Controls.{input_type}
use Rattle.session_views.proofs.Displays.{input_held}
use Rattle.session_views.proofs.displaying.display.Goals as goal

pub text_input-requires : goal.text_input-requires
text_input-requires c = input_held c.args.names.now c.args.session.now c.args.number c.args.control.now texts c.requires.holds c.requires.control (ap input_type c.in-TextInput.is)

pub slider-requires : goal.slider-requires
slider-requires c = input_held c.args.names.now c.args.session.now c.args.number c.args.control.now numbers c.requires.holds c.requires.control (ap input_type c.in-Slider.is)

pub checkbox-requires : goal.checkbox-requires
checkbox-requires c = input_held c.args.names.now c.args.session.now c.args.number c.args.control.now booleans c.requires.holds c.requires.control (ap input_type c.in-Checkbox.is)

pub date_picker-requires : goal.date_picker-requires
date_picker-requires c = input_held c.args.names.now c.args.session.now c.args.number c.args.control.now dates c.requires.holds c.requires.control (ap input_type c.in-DatePicker.is)
