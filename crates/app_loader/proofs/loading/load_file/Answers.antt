use Rattle.std.proofs.Common.{ap, length, ◌∙◌}
use Rattle.std.proofs.lemmas.List.{length-map}
use Rattle.std.proofs.lemmas.Result.{err_from_is_err_and, IfOk-weaker}
use Rattle.app_cells.specs.declared.frame.Frame.{Frame}
use Rattle.app_file.specs.declared.file.ScreenShape.{ScreenShape}
use Rattle.app_loader.proofs.Loads.{parsed_err, parsed_ok, unparsed_end}
use Rattle.app_loader.proofs.Shallow.{file_shallow}
use Rattle.app_loader.proofs.Singles.{reading_parts}
use Rattle.app_loader.proofs.loading.load_file.Goals as goal

pub returns-in_err-frame-clause-refused : goal.returns-in_err-frame-clause-refused
returns-in_err-frame-clause-refused c =
    let p = err_from_is_err_and c.from_residual.result c.from_residual.ensures.1 in
    rw (p.1, p.2) (unparsed_end c.args.file c.in_err-frame.field-0.0 c.in_err-frame.ensures.broken)

pub load_formulas-requires-clause-shallow : goal.load_formulas-requires-clause-shallow
load_formulas-requires-clause-shallow c = file_shallow c.no_deeper.ensures.formula c.no_deeper.ensures.named c.args.file c.in_ok-frame.frame c.in_ok-frame.cells.items c.in_ok-frame.ensures.formulas

pub returns-clause-app : goal.returns-clause-app
returns-clause-app c = parsed_ok c.args.file c.in_ok-frame.frame c.in_ok-frame.cells.items c.in_ok-frame.ensures.formulas c.load_formulas.result c.load_formulas.ensures.app

pub returns-clause-screens : goal.returns-clause-screens
returns-clause-screens c =
    let e = (reading_parts c.in_ok-frame.ensures.formulas).0 in
    IfOk-weaker c.load_formulas.result _ _ (λ a h. ap length (h ∙ ap (λ (f : Frame). f.screens) e) ∙ length-map c.args.file.screens (λ (s : ScreenShape). s.name)) c.load_formulas.ensures.screens

pub returns-clause-refused : goal.returns-clause-refused
returns-clause-refused c = parsed_err c.args.file c.in_ok-frame.frame c.in_ok-frame.cells.items c.in_ok-frame.ensures.formulas c.load_formulas.result c.load_formulas.ensures.refused
