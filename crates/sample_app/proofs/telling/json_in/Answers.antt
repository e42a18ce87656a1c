use Rattle.std.proofs.Common.{◌≡◌, ◌∙◌, ap, cond, sym, subst, Some, None}
use Rattle.std.proofs.lemmas.Bool.{false_from_ne_true}
use Rattle.std.proofs.lemmas.Str.{IsUtf8-from_is_utf8, is_utf8-from_IsUtf8}
use Rattle.serde_json.specs.Read.{read}
use Rattle.serde_json.specs.View.{view}
use Rattle.sample_app.proofs.telling.json_in.Goals as goal

pub returns-in_default : goal.returns-in_default
returns-in_default c =
    sym (ap (λ b. cond b (read c.args.body.now) None) (false_from_ne_true _ (λ e. c.in_default.ensures.cases.0 (IsUtf8-from_is_utf8 _ e))))

pub returns-in-Ok-from_str : goal.returns-in-Ok-from_str
returns-in-Ok-from_str c =
    let json : read c.args.body.now ≡ Some (view c.in-Ok-from_str.json) = subst (λ t. read t ≡ Some (view c.in-Ok-from_str.json)) c.in-Ok.ensures.cases.0 c.in-Ok-from_str.ensures.ok in
    sym (ap (λ b. cond b (read c.args.body.now) None) (is_utf8-from_IsUtf8 _ c.in-Ok.ensures.cases.1) ∙ json)
