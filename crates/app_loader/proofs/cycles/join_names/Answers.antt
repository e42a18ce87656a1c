use Rattle.std.proofs.Common.{◌≡◌, ap, sym, ◌∙◌, ◌++◌, arith, List, ℕ}
use Rattle.std.proofs.lemmas.List.{take_all}
use Rattle.std.proofs.lemmas.Result.{IfOk-weaker}
use Rattle.std.proofs.lemmas.Str.{chars_from_encodes, encodes-append}
use Rattle.std.specs.Prelude.{encode_utf8_all}
use Rattle.std.specs.Str.{chars}
use Rattle.app_loader.specs.Cycles.{arrow_at, joined_by_arrows}
use Rattle.app_loader.proofs.Arrows.{joined_next}
use Rattle.app_loader.proofs.cycles.join_names.Goals as goal

pub loop-place-preserved : goal.loop-place-preserved
loop-place-preserved c =
    let next = joined_next c.args.names.now c.loop-place.place c.index-names-place.result (omega arith) c.index-names-place.is in
    c.in_ok-push_name.ensures
    ∙ ap (λ bs. bs ++ encode_utf8_all (arrow_at c.loop-place.place ++ c.index-names-place.result)) c.loop-place.invariant
    ∙ sym (encodes-append _ (arrow_at c.loop-place.place ++ c.index-names-place.result))
    ∙ ap encode_utf8_all (sym next)

pub returns : goal.returns
returns c =
    let spelt = sym (c.as_str.ensures.value ∙ c.loop-place.invariant ∙ ap (λ (ts : List (List ℕ)). encode_utf8_all (joined_by_arrows ts)) (take_all c.loop-place.place c.args.names.now (omega arith))) in
    let same : chars c.as_str.result.now ≡ joined_by_arrows c.args.names.now = sym (chars_from_encodes (joined_by_arrows c.args.names.now) c.as_str.result.now c.as_str.utf8 spelt) in
    IfOk-weaker c.of.result _ _ (λ w e. e ∙ same) c.of.ensures
