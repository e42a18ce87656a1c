use Rattle.std.proofs.Common.{◌+◌, ap, sym, ◌∙◌}
use Rattle.std.specs.List.{list_any}
use Rattle.std.proofs.lemmas.List.{take_rest}
use Rattle.app_wire.specs.Bodies.{length_in}
use Rattle.app_wire.proofs.Bodies.{coded, is_measure, plain_none, plain_one, plain_two}
use Rattle.app_wire.proofs.body.body_length.Goals as goal

pub returns-then-any_coding : goal.returns-then-any_coding
returns-then-any_coding c = coded c.args.front.now c.args.headers.now (sym c.any_coding.ensures ∙ c.if-any_coding.true)

pub returns-in-None : goal.returns-in-None
returns-in-None c =
    plain_none c.args.front.now c.args.headers.now (sym c.any_coding.ensures ∙ c.if-any_coding.false) (sym c.first_length.ensures ∙ c.in-None.is)

pub returns-then-any_length : goal.returns-then-any_length
returns-then-any_length c =
    let hs = c.args.headers.now in
    plain_two c.args.front.now hs c.in-Some.at (sym c.any_coding.ensures ∙ c.if-any_coding.false) (sym c.first_length.ensures ∙ c.in-Some.is)
    (ap (list_any (is_measure c.args.front.now)) (sym (take_rest hs (c.in-Some.at + 1))) ∙ sym c.any_length.ensures ∙ c.if-any_length.true)

pub returns-else-any_length : goal.returns-else-any_length
returns-else-any_length c =
    let hs = c.args.headers.now in
    c.length_in.ensures ∙ ap length_in c.of.ensures
    ∙ plain_one c.args.front.now hs c.in-Some.at _ (sym c.any_coding.ensures ∙ c.if-any_coding.false) (sym c.first_length.ensures ∙ c.in-Some.is)
    (ap (list_any (is_measure c.args.front.now)) (sym (take_rest hs (c.in-Some.at + 1))) ∙ sym c.any_length.ensures ∙ c.if-any_length.false)
