use Rattle.std.proofs.Common.{refl}
use Rattle.std.specs.Str.{chars}
use Rattle.fx_scalar.proofs.ErrorLemmas.{kind_characters}
use Rattle.fx_scalar.proofs.errors.error_record.Goals as goal

pub push-requires-2 : goal.push-requires-2
unfolding chars
push-requires-2 c =
    let pushed = c.in_ok-push.ensures.ok in
    let none = c.new-fields.ensures in
    let first = c.in_ok-of.ensures in
    let second = c.in_ok-of-2.ensures in
    rw (pushed, none, first, second) ((refl, tt), (tt, tt))

pub returns : goal.returns
unfolding chars
returns c =
    let all = c.in_ok-push-2.ensures.ok in
    let pushed = c.in_ok-push.ensures.ok in
    let none = c.new-fields.ensures in
    let first = c.in_ok-of.ensures in
    let second = c.in_ok-of-2.ensures in
    let kind = c.in_ok-kind.ensures in
    let name = c.name.ensures in
    let message = c.in_ok-message.ensures in
    rw (all, pushed, none, first, second, kind, name, kind_characters c.args.fault.now.kind, message) refl
