use Rattle.std.proofs.Common.{◌≡◌, Some, None, Ok, ap, sym, subst, ◌∙◌}
use Rattle.serde_json.specs.View.{view}
use Rattle.app_file.specs.declared.file.AppFile.{AppFile}
use Rattle.app_file.specs.Contents.{app_of}
use Rattle.app_file.specs.Files.{IsReadOf, app, passed}
use Rattle.app_file.specs.Limits.{first_passed, limits}
use Rattle.app_file.proofs.Told.{told_part}
use Rattle.app_file.proofs.reading.read_value.Goals as goal

pub returns-in-Err-clause-refused : goal.returns-in-Err-clause-refused
returns-in-Err-clause-refused c = told_part (view c.args.root.now) c.in-Err.end c.bad_part.result c.in-Err.ensures.bad c.bad_part.ensures

pub returns-in-Some-clause-refused : goal.returns-in-Some-clause-refused
returns-in-Some-clause-refused c =
    let d = view c.args.root.now in
    let e : first_passed limits (app_of d) ≡ Some (c.in-Some.limit, c.in-Some.count) = sym (ap (first_passed limits) c.in-Ok.ensures.app.1) ∙ sym c.in_ok-limit.ensures ∙ c.in-Some.is in
    passed d c.in-Some.limit c.in-Some.count c.in-Ok.ensures.app.0 e

pub returns-in-None-clause-app : goal.returns-in-None-clause-app
returns-in-None-clause-app c =
    let d = view c.args.root.now in
    let e : first_passed limits (app_of d) ≡ None = sym (ap (first_passed limits) c.in-Ok.ensures.app.1) ∙ sym c.in_ok-limit.ensures ∙ c.in-None.is in
    subst (λ (a : AppFile). IsReadOf d (Ok a)) (sym c.in-Ok.ensures.app.1) (app d c.in-Ok.ensures.app.0 e)
