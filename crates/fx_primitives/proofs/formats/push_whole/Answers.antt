use Rattle.std.proofs.Common.{arith, subst, sym, ◌∙◌, IsAscii}
use Rattle.std.proofs.lemmas.Fmt.{IsAscii-decimal}
use Rattle.fx_primitives.proofs.formats.push_whole.Goals as goal

pub push_grouped-requires : goal.push_grouped-requires
push_grouped-requires c =
    let e = c.as_str.ensures.value ∙ c.in_ok-digits.ensures.ok in
    subst IsAscii (sym e) (IsAscii-decimal c.args.whole (omega arith))
