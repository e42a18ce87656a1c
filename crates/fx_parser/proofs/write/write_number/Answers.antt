use Rattle.std.proofs.Common.{◌∙◌, sym, subst}
use Rattle.std.specs.Str.{IsAscii}
use Rattle.fx_number.specs.Decimal.{IsInRange}
use Rattle.fx_parser.proofs.Writing.{ascii_number}
use Rattle.fx_parser.proofs.write.write_number.Goals as goal

pub push_plain-requires : goal.push_plain-requires
push_plain-requires c =
    subst IsAscii (sym (c.as_str.ensures.value ∙ c.in_ok-text.ensures)) (ascii_number c.args.value (subst IsInRange c.units-units.ensures.value c.units-units.ensures.in_range))
