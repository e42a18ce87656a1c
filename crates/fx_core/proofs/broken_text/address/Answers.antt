use Rattle.std.proofs.Common.{string_bytes, ◌≡◌, ◌++◌, ◌∷◌, [], true, if◌then◌else◌, encode_utf8_all, flat_map, ◌∙◌, ap, sym, map-id, lit<}
use Rattle.std.specs.List.{list_any}
use Rattle.std.proofs.lemmas.Iterator.{YieldsList-from_chars}
use Rattle.std.proofs.lemmas.Iterator.Consumers.{YieldsList-end}
use Rattle.std.proofs.lemmas.Result.{IfOk-weaker}
use Rattle.std.proofs.lemmas.Str.{encode_ascii}
use Rattle.std.specs.Str.{chars}
use Rattle.fx_core.specs.BrokenText.{single_quote_doubled, has_mark, address_of}
use Rattle.fx_core.proofs.Doubling.{one_doubled, quoted_is}
use Rattle.fx_core.proofs.broken_text.address.Goals as goal

pub loop-c-preserved : goal.loop-c-preserved
loop-c-preserved c =
    c.in_ok-push_doubled.ensures ∙ ap (λ bs. bs ++ encode_utf8_all (single_quote_doubled c.in-Some.c)) c.loop-c.invariant
    ∙ one_doubled c.loop-c.yielded c.in-Some.c

pub returns : goal.returns
returns c =
    let done = YieldsList-end (YieldsList-from_chars c.as_str.result.now c.as_str.utf8 cc) c.loop-c.yielded _ c.loop-c.yielded_by _ _ c.in-None.is c.next.ensures.steps in
    let name = c.args.name.now in
    let all : c.loop-c.yielded ≡ name = sym (map-id c.loop-c.yielded) ∙ done.0 ∙ c.as_str.ensures.scalars in
    let bytes : c.as_str-2.result.now ≡ (39 ∷ encode_utf8_all (flat_map single_quote_doubled name)) ++ 39 ∷ [] =
    c.as_str-2.ensures.value ∙ c.in_ok-push-2.ensures.bytes ∙ ap (λ bs. string_bytes c.loop-c.text ++ bs) (encode_ascii 39 (lit< tt))
    ∙ ap (λ bs. bs ++ 39 ∷ []) (c.loop-c.invariant ∙ ap (λ cs. 39 ∷ encode_utf8_all (flat_map single_quote_doubled cs)) all) in
    let marked : list_any has_mark name ≡ true = sym c.needs_quotes.ensures ∙ c.if-not-needs_quotes.false in
    let quoted : 39 ∷ (flat_map single_quote_doubled name ++ 39 ∷ []) ≡ address_of name =
    ap (λ b. if b then 39 ∷ (flat_map single_quote_doubled name ++ 39 ∷ []) else name) (sym marked) in
    IfOk-weaker c.of.result _ _ (λ w e. e ∙ ap chars bytes ∙ quoted_is name c.as_str.ensures.characters ∙ quoted) c.of.ensures
