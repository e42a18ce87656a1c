use Rattle.std.proofs.Common.{length}
use Rattle.serde_json.specs.View.{view}
use Rattle.app_texts.proofs.Sound.{value_is_sound}
use Rattle.app_loader.proofs.Loads.{no_value_end, opens_ok, value_err, value_ok}
use Rattle.app_loader.proofs.Opens.{value_opens}
use Rattle.app_loader.proofs.Singles.{value_single}
use Rattle.app_loader.proofs.loading.load_value.Goals as goal

pub load_file-requires-clause-sound : goal.load_file-requires-clause-sound
load_file-requires-clause-sound c = value_is_sound (view c.args.value.now) c.in-Ok.file c.in-Ok.ensures.app

pub load_file-requires-clause-single : goal.load_file-requires-clause-single
load_file-requires-clause-single c = value_single (view c.args.value.now) c.in-Ok.file c.in-Ok.ensures.app

pub returns-in-Ok-clause-app : goal.returns-in-Ok-clause-app
returns-in-Ok-clause-app c = value_ok (view c.args.value.now) c.in-Ok.file c.in-Ok.ensures.app c.load_file.result c.load_file.ensures.app

pub returns-in-Ok-clause-opens : goal.returns-in-Ok-clause-opens
returns-in-Ok-clause-opens c = opens_ok (length c.in-Ok.file.screens) (value_opens (view c.args.value.now) c.in-Ok.file c.in-Ok.ensures.app) c.load_file.result c.load_file.ensures.screens

pub returns-in-Ok-clause-refused : goal.returns-in-Ok-clause-refused
returns-in-Ok-clause-refused c = value_err (view c.args.value.now) c.in-Ok.file c.in-Ok.ensures.app c.load_file.result c.load_file.ensures.refused

pub returns-in_ok-broken-in-Err-Refused-clause-refused : goal.returns-in_ok-broken-in-Err-Refused-clause-refused
returns-in_ok-broken-in-Err-Refused-clause-refused c =
    let told = rw c.in-Err-Refused.field-0-is at c.in-Err-Refused.ensures.refused in
    no_value_end (view c.args.value.now) c.in-Err-Refused.broken c.in_ok-broken-in-Err-Refused.broken told c.in_ok-broken-in-Err-Refused.ensures c.only.result c.only.ensures
