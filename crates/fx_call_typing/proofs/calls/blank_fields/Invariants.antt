use Rattle.std.proofs.Common.{◌≡◌, take}
use Rattle.fx_types.specs.ValueView.{fields_view}
use Rattle.fx_call_typing.proofs.Blanks.{blanked}
use Rattle.fx_call_typing.proofs.calls.blank_fields.Given as goal

abbrev pub invariant-loop-name : goal.invariant-loop-name
invariant-loop-name l = fields_view l.fields.items ≡ blanked (take l.name-index l.name-items)
