use Rattle.std.proofs.Common.{◌≡◌, Ok, Some, None, subst, sym, ◌∙◌}
use Rattle.std.proofs.lemmas.Result.{IfErr-weaker, IfOk-weaker}
use Rattle.serde_json.specs.Read.{read}
use Rattle.serde_json.specs.View.{view}
use Rattle.app_file.specs.Files.{HasJson, json, no_json, too_long}
use Rattle.app_file.proofs.Told.{told_json}
use Rattle.app_file.proofs.reading.read.Goals as goal

pub returns-then-bytes-gt-MOST_BYTES-clause-refused : goal.returns-then-bytes-gt-MOST_BYTES-clause-refused
returns-then-bytes-gt-MOST_BYTES-clause-refused c = too_long c.args.bytes.now c.if-bytes-gt-MOST_BYTES.true

pub returns-in_default-clause-refused : goal.returns-in_default-clause-refused
returns-in_default-clause-refused c = no_json c.args.bytes.now c.if-bytes-gt-MOST_BYTES.false (λ root h. c.in_default.ensures.cases.0 h.utf8)

pub returns-in-Ok-from_str-clause-app : goal.returns-in-Ok-from_str-clause-app
returns-in-Ok-from_str-clause-app c =
    let is_json : read c.args.bytes.now ≡ Some (view c.in-Ok-from_str.root) = subst (λ t. read t ≡ Some (view c.in-Ok-from_str.root)) c.in-Ok.ensures.cases.0 c.in-Ok-from_str.ensures.ok in
    let is : HasJson c.args.bytes.now (view c.in-Ok-from_str.root) = record { short = c.if-bytes-gt-MOST_BYTES.false; utf8 = c.in-Ok.ensures.cases.1; json = is_json } in
    IfOk-weaker c.read_value.result _ _ (λ a h. json _ _ (Ok a) is h) c.read_value.ensures.app

pub returns-in-Ok-from_str-clause-refused : goal.returns-in-Ok-from_str-clause-refused
returns-in-Ok-from_str-clause-refused c =
    let is_json : read c.args.bytes.now ≡ Some (view c.in-Ok-from_str.root) = subst (λ t. read t ≡ Some (view c.in-Ok-from_str.root)) c.in-Ok.ensures.cases.0 c.in-Ok-from_str.ensures.ok in
    let is : HasJson c.args.bytes.now (view c.in-Ok-from_str.root) = record { short = c.if-bytes-gt-MOST_BYTES.false; utf8 = c.in-Ok.ensures.cases.1; json = is_json } in
    IfErr-weaker c.read_value.result _ _ (told_json c.args.bytes.now _ is) c.read_value.ensures.refused

pub returns-in-Err-2-clause-refused : goal.returns-in-Err-2-clause-refused
returns-in-Err-2-clause-refused c =
    let other = c.in-Err-2.ensures.err (λ memory. let same = sym c.in-Err.is ∙ c.in-Err-2.is in let no = c.if-is_memory.ensures.1 cc in cc) in
    let none : read c.args.bytes.now ≡ None = subst (λ t. read t ≡ None) c.in-Ok.ensures.cases.0 other in
    no_json c.args.bytes.now c.if-bytes-gt-MOST_BYTES.false (λ root h. let some = h.json in cc)
