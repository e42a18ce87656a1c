use Rattle.std.proofs.Common.{string_bytes, ◌≡◌, ◌++◌, ◌∷◌, [], encode_utf8_all, flat_map, ◌∙◌, ap, sym, map-id, append_assoc, lit<}
use Rattle.std.proofs.lemmas.Iterator.{YieldsList-from_chars}
use Rattle.std.proofs.lemmas.Iterator.Consumers.{YieldsList-end}
use Rattle.std.proofs.lemmas.Str.{encode_ascii}
use Rattle.view_text.specs.PlainText.{double_quote_doubled}
use Rattle.view_text.proofs.Quotes.{one_doubled}
use Rattle.view_text.proofs.plain_form.write_quoted.Goals as goal

pub loop-c-preserved : goal.loop-c-preserved
loop-c-preserved c =
    c.in_ok-write_doubled.ensures ∙ ap (λ bs. bs ++ encode_utf8_all (double_quote_doubled c.in-Some.c)) c.loop-c.invariant
    ∙ one_doubled (string_bytes c.args.out.now) c.loop-c.yielded c.in-Some.c

pub returns : goal.returns
returns c =
    let done = YieldsList-end (YieldsList-from_chars c.as_str.result.now c.as_str.utf8 cc) c.loop-c.yielded _ c.loop-c.yielded_by _ _ c.in-None.is c.next.ensures.steps in
    let all : c.loop-c.yielded ≡ c.args.text.now = sym (map-id c.loop-c.yielded) ∙ done.0 ∙ c.as_str.ensures.scalars in
    c.in_ok-push-2.ensures.bytes ∙ ap (λ bs. string_bytes c.loop-c.out ++ bs) (encode_ascii 34 (lit< tt))
    ∙ ap (λ bs. bs ++ 34 ∷ []) (c.loop-c.invariant ∙ ap (λ cs. string_bytes c.args.out.now ++ 34 ∷ encode_utf8_all (flat_map double_quote_doubled cs)) all)
    ∙ append_assoc (string_bytes c.args.out.now) (34 ∷ encode_utf8_all (flat_map double_quote_doubled c.args.text.now)) (34 ∷ [])
