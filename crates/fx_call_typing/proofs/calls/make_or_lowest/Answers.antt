use Rattle.std.proofs.Common.{◌≡◌, Option, Some, None, is_some, option_map, ap, map, refl, subst, sym, ◌∙◌}
use Rattle.fx_typing.specs.Breaks.{taken_at, mistells}
use Rattle.fx_typing.specs.Parts.{pieces, unless_rule}
use Rattle.fx_typing.specs.Answers.{IsAnswerOf}
use Rattle.fx_typing.specs.TypedView.{typed}
use Rattle.fx_resolve.specs.PartView.{judged_part}
use Rattle.fx_typing.specs.Local.{node_made}
use Rattle.fx_call_typing.proofs.calls.make_or_lowest.Goals as goal

mapped_some : {A B : Type 0} (f : A → B) (o : Option A) → is_some (option_map f o) ≡ is_some o
mapped_some f None = refl
mapped_some f (Some a) = refl

pub returns : goal.returns
returns c =
    let qs = map judged_part c.args.all.items in
    let f = c.args.fun in
    let r = node_made f (pieces qs) in
    let found = subst (λ ps. IsAnswerOf typed (node_made f ps) c.make-found.result) c.in_ok-pieces.ensures c.make-found.ensures in
    let mistold : c.in_ok-is_mistold.is_mistold ≡ mistells f qs = c.in_ok-is_mistold.ensures ∙ ap (λ l. mistells f (map judged_part l)) c.as_slice-2.ensures.value in
    let taken : c.is_some-is_taken.result ≡ is_some (taken_at f qs) =
    c.is_some-is_taken.ensures ∙ sym (mapped_some (λ w. w.now) c.in_ok-taken_name.field-0)
    ∙ ap is_some (c.in_ok-taken_name.ensures ∙ ap (λ l. taken_at f (map judged_part l)) c.as_slice.ensures.value) in
    let one = subst (λ b. IsAnswerOf typed (unless_rule b 6 r) c.unless.result) mistold (c.unless.ensures r found) in
    subst (λ b. IsAnswerOf typed (unless_rule b 5 (unless_rule (mistells f qs) 6 r)) c.unless-2.result) taken (c.unless-2.ensures (unless_rule (mistells f qs) 6 r) one)
