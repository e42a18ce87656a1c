use Rattle.std.proofs.Common.{length}
use Rattle.app_loader.proofs.Loads.{opens_ok, read_err, read_ok, unread_end}
use Rattle.app_loader.proofs.Opens.{read_opens}
use Rattle.app_loader.proofs.Singles.{read_single}
use Rattle.app_loader.proofs.loading.load.Goals as goal

pub load_file-requires-clause-single : goal.load_file-requires-clause-single
load_file-requires-clause-single c = read_single c.args.bytes.now c.in-Ok.file c.in-Ok.ensures.app

pub returns-in-Ok-clause-app : goal.returns-in-Ok-clause-app
returns-in-Ok-clause-app c = read_ok c.args.bytes.now c.in-Ok.file c.in-Ok.ensures.app c.load_file.result c.load_file.ensures.app

pub returns-in-Ok-clause-opens : goal.returns-in-Ok-clause-opens
returns-in-Ok-clause-opens c = opens_ok (length c.in-Ok.file.screens) (read_opens c.args.bytes.now c.in-Ok.file c.in-Ok.ensures.app) c.load_file.result c.load_file.ensures.screens

pub returns-in-Ok-clause-refused : goal.returns-in-Ok-clause-refused
returns-in-Ok-clause-refused c = read_err c.args.bytes.now c.in-Ok.file c.in-Ok.ensures.app c.load_file.result c.load_file.ensures.refused

pub returns-in_ok-broken-in-Err-Refused-clause-refused : goal.returns-in_ok-broken-in-Err-Refused-clause-refused
returns-in_ok-broken-in-Err-Refused-clause-refused c =
    let told = rw c.in-Err-Refused.field-0-is at c.in-Err-Refused.ensures.refused in
    unread_end c.args.bytes.now c.in-Err-Refused.broken c.in_ok-broken-in-Err-Refused.broken told c.in_ok-broken-in-Err-Refused.ensures c.only.result c.only.ensures
