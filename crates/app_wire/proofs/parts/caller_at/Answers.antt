use Rattle.std.proofs.Common.{◌∙◌, subst}
use Rattle.std.proofs.lemmas.Str.{chars-IsAscii}
use Rattle.app_wire.specs.Routing.{IsCallerName}
use Rattle.app_wire.proofs.RoutePlaces.{name_ascii}
use Rattle.app_wire.proofs.parts.caller_at.Goals as goal

pub returns : goal.returns
returns c =
    let part = c.part_at-part.result.now in
    let name : IsCallerName part = subst IsCallerName c.as_bytes.ensures.value (c.is_caller_name.ensures.0 c.if-not-is_caller_name.false) in
    (subst IsCallerName c.part_at-part.ensures name, c.in_ok-of.ensures ∙ chars-IsAscii part (name_ascii part name.bytes) ∙ c.part_at-part.ensures)
