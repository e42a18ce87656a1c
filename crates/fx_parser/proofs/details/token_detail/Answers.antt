use Rattle.std.proofs.Common.{sym, ap, ◌∙◌, ◌++◌}
use Rattle.std.specs.Str.{chars}
use Rattle.fx_parser.specs.Details.{unexpected_by}
use Rattle.fx_parser.proofs.Tokens.{told_is}
use Rattle.fx_parser.proofs.details.token_detail.Goals as goal

pub returns-in-None : goal.returns-in-None
returns-in-None c = told_is c.of.result c.args.source.now c.args.token _ c.of.ensures (ap (unexpected_by c.args.source.now) (sym c.in-None.is))

pub returns-in_ok-push_str-in-Some : goal.returns-in_ok-push_str-in-Some
returns-in_ok-push_str-in-Some c =
    let e = c.as_str.ensures.value ∙ c.in_ok-push_str-in-Some.ensures.bytes ∙ (λ i. c.in_ok-words-in-Some.ensures.ok i ++ c.range.ensures.value i) in
    told_is c.of-in-Some.result c.args.source.now c.args.token _ c.of-in-Some.ensures (ap chars e ∙ ap (unexpected_by c.args.source.now) (sym c.in-Some.is))
