use Rattle.std.proofs.Common.{Err}
use Rattle.app_loader.proofs.Loads.{bytes_err, bytes_ok, tells_bytes, tells_long}
use Rattle.app_loader.specs.Judged.{Judged}
use Rattle.app_loader.specs.Judged as judge
use Rattle.app_loader.proofs.loading.load_named.Goals as goal

pub returns-then-bytes-gt-LONGEST-clause-refused : goal.returns-then-bytes-gt-LONGEST-clause-refused
returns-then-bytes-gt-LONGEST-clause-refused c =
    tells_long (λ bs. Judged c.args.bytes.now (Err bs)) (judge.too_long c.args.bytes.now c.if-bytes-gt-LONGEST.true) c.in_app.result c.in_app.ensures

pub returns-in-Ok-clause-app : goal.returns-in-Ok-clause-app
returns-in-Ok-clause-app c =
    bytes_ok c.args.bytes.now c.in-Ok.text.now c.if-bytes-gt-LONGEST.false c.in-Ok.ensures.cases.0 c.in-Ok.ensures.cases.1 c.load_text.result c.load_text.ensures.app

pub returns-in-Ok-clause-refused : goal.returns-in-Ok-clause-refused
returns-in-Ok-clause-refused c =
    bytes_err c.args.bytes.now c.in-Ok.text.now c.if-bytes-gt-LONGEST.false c.in-Ok.ensures.cases.0 c.in-Ok.ensures.cases.1 c.load_text.result c.load_text.ensures.refused

pub returns-in-Err-clause-refused : goal.returns-in-Err-clause-refused
returns-in-Err-clause-refused c =
    tells_bytes (λ bs. Judged c.args.bytes.now (Err bs)) (judge.no_text c.args.bytes.now c.if-bytes-gt-LONGEST.false c.in-Err.ensures.cases.0) c.in_app-in-Err.result c.in_app-in-Err.ensures
