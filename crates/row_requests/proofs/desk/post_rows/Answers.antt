use Rattle.std.proofs.Common.{◌≡◌, Ok, subst}
use Rattle.row_requests.specs.DeskRows.{desk_checks}
use Rattle.row_requests.proofs.desk.post_rows.Goals as goal

pub returns-in-Ok-Acts-clause-reached : goal.returns-in-Ok-Acts-clause-reached
returns-in-Ok-Acts-clause-reached g c _ =
    let is = rw c.in-Ok-Acts.field-0-is at c.in-Ok-Acts.ensures.is in
    (c.in-Ok-Acts.posted, subst (λ ds. desk_checks ds c.args.name.now c.args.body.now ≡ Ok c.in-Ok-Acts.posted) c.deref.ensures.value is)

pub returns-in-Ok-Acts-clause-named : goal.returns-in-Ok-Acts-clause-named
returns-in-Ok-Acts-clause-named g c s among =
    let is = rw c.in-Ok-Acts.field-0-is at c.in-Ok-Acts.ensures.is in
    record {
      posted = c.in-Ok-Acts.posted;
      checked = subst (λ ds. desk_checks ds c.args.name.now c.args.body.now ≡ Ok c.in-Ok-Acts.posted) c.deref.ensures.value is;
      named = c.keep_rows.ensures.named s among;
    }
