use Rattle.fx_types.specs.Words.{scalars_of}
use Rattle.app_loader.proofs.Edited.{AreLeft, broken_end, edit_err, edit_ok, fit_to_judge, frame_ok, left_by, left_frame, left_placed, loaded_ok, one_items}
use Rattle.app_loader.proofs.editing.edit.Goals as goal

pub load_formulas-requires-clause-frame : goal.load_formulas-requires-clause-frame
load_formulas-requires-clause-frame c = left_frame c.args.app.now c.in-Ok.frame c.requires c.in-Ok.ensures.frame

pub load_formulas-requires-clause-placed : goal.load_formulas-requires-clause-placed
load_formulas-requires-clause-placed c = left_placed c.args.app.now c.in-Ok.frame c.in-Ok.cells.items c.in-Ok.ensures.frame c.in-Ok.ensures.placed

pub load_formulas-requires-clause-shallow : goal.load_formulas-requires-clause-shallow
load_formulas-requires-clause-shallow c =
    let a = c.args.app.now in
    let x = scalars_of c.args.address.now in
    let t = scalars_of c.args.text.now in
    let left : AreLeft a x t c.in-Ok.frame c.in-Ok.cells.items =
    left_by a x t c.in_ok-address.address c.in_ok-text.text c.in-Ok.frame c.in-Ok.cells.items c.in_ok-address.ensures c.in_ok-text.ensures c.in-Ok.ensures.frame c.in-Ok.ensures.cells c.in-Ok.ensures.placed in
    fit_to_judge a x t c.in-Ok.frame c.in-Ok.cells.items left c.no_deeper.ensures.formula c.requires

pub load_formulas-requires-clause-single : goal.load_formulas-requires-clause-single
load_formulas-requires-clause-single c =
    let a = c.args.app.now in
    let x = scalars_of c.args.address.now in
    let t = scalars_of c.args.text.now in
    let left : AreLeft a x t c.in-Ok.frame c.in-Ok.cells.items =
    left_by a x t c.in_ok-address.address c.in_ok-text.text c.in-Ok.frame c.in-Ok.cells.items c.in_ok-address.ensures c.in_ok-text.ensures c.in-Ok.ensures.frame c.in-Ok.ensures.cells c.in-Ok.ensures.placed in
    one_items a x t c.in-Ok.frame c.in-Ok.cells.items left

pub returns-in-Ok-clause-app : goal.returns-in-Ok-clause-app
returns-in-Ok-clause-app c =
    let a = c.args.app.now in
    let x = scalars_of c.args.address.now in
    let t = scalars_of c.args.text.now in
    let left : AreLeft a x t c.in-Ok.frame c.in-Ok.cells.items =
    left_by a x t c.in_ok-address.address c.in_ok-text.text c.in-Ok.frame c.in-Ok.cells.items c.in_ok-address.ensures c.in_ok-text.ensures c.in-Ok.ensures.frame c.in-Ok.ensures.cells c.in-Ok.ensures.placed in
    edit_ok a x t c.in-Ok.frame c.in-Ok.cells.items left c.load_formulas.result c.load_formulas.ensures.app

pub returns-in-Ok-clause-loaded : goal.returns-in-Ok-clause-loaded
returns-in-Ok-clause-loaded c =
    let a = c.args.app.now in
    let x = scalars_of c.args.address.now in
    let t = scalars_of c.args.text.now in
    let left : AreLeft a x t c.in-Ok.frame c.in-Ok.cells.items =
    left_by a x t c.in_ok-address.address c.in_ok-text.text c.in-Ok.frame c.in-Ok.cells.items c.in_ok-address.ensures c.in_ok-text.ensures c.in-Ok.ensures.frame c.in-Ok.ensures.cells c.in-Ok.ensures.placed in
    loaded_ok a x t c.in-Ok.frame c.in-Ok.cells.items left c.no_deeper.ensures.formula c.requires c.load_formulas.result c.load_formulas.ensures.app

pub returns-in-Ok-clause-frame : goal.returns-in-Ok-clause-frame
returns-in-Ok-clause-frame c =
    let a = c.args.app.now in
    let x = scalars_of c.args.address.now in
    let t = scalars_of c.args.text.now in
    let left : AreLeft a x t c.in-Ok.frame c.in-Ok.cells.items =
    left_by a x t c.in_ok-address.address c.in_ok-text.text c.in-Ok.frame c.in-Ok.cells.items c.in_ok-address.ensures c.in_ok-text.ensures c.in-Ok.ensures.frame c.in-Ok.ensures.cells c.in-Ok.ensures.placed in
    frame_ok a x t c.in-Ok.frame c.in-Ok.cells.items left c.load_formulas.result c.load_formulas.ensures.app

pub returns-in-Ok-clause-refused : goal.returns-in-Ok-clause-refused
returns-in-Ok-clause-refused c =
    let a = c.args.app.now in
    let x = scalars_of c.args.address.now in
    let t = scalars_of c.args.text.now in
    let left : AreLeft a x t c.in-Ok.frame c.in-Ok.cells.items =
    left_by a x t c.in_ok-address.address c.in_ok-text.text c.in-Ok.frame c.in-Ok.cells.items c.in_ok-address.ensures c.in_ok-text.ensures c.in-Ok.ensures.frame c.in-Ok.ensures.cells c.in-Ok.ensures.placed in
    edit_err a x t c.in-Ok.frame c.in-Ok.cells.items left c.load_formulas.result c.load_formulas.ensures.refused

pub returns-in-Err-Refused-clause-refused : goal.returns-in-Err-Refused-clause-refused
returns-in-Err-Refused-clause-refused c =
    let told = rw c.in-Err-Refused.field-0-is at c.in-Err-Refused.ensures.broken in
    broken_end c.args.app.now (scalars_of c.args.address.now) (scalars_of c.args.text.now) c.in_ok-address.address c.in_ok-text.text c.in-Err-Refused.broken c.in_ok-address.ensures c.in_ok-text.ensures told c.only.result c.only.ensures
