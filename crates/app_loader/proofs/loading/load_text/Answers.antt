use Rattle.std.proofs.Common.{ap, ◌∙◌}
use Rattle.std.proofs.lemmas.Result.{IfOk-weaker, err_from_is_err_and}
use Rattle.app_cells.specs.declared.frame.Frame.{Frame}
use Rattle.fx_core.specs.declared.schema.Schema.{Schema}
use Rattle.app_loader.proofs.Loads.{text_end, text_err, text_ok}
use Rattle.app_loader.proofs.Shallow.{named_shallow}
use Rattle.app_loader.proofs.Singles.{named_parts, named_single}
use Rattle.app_loader.proofs.loading.load_text.Goals as goal

pub returns-in_err-frame-clause-refused : goal.returns-in_err-frame-clause-refused
returns-in_err-frame-clause-refused c =
    let p = err_from_is_err_and c.from_residual.result c.from_residual.ensures.1 in
    rw (p.1, p.2) (text_end c.args.source.now c.in_err-frame.field-0.0 c.in_err-frame.ensures.broken)

pub load_formulas-requires-clause-shallow : goal.load_formulas-requires-clause-shallow
load_formulas-requires-clause-shallow c = named_shallow c.no_deeper.ensures.named c.args.source.now c.in_ok-frame.frame c.in_ok-frame.cells.items c.in_ok-frame.ensures.formulas

pub load_formulas-requires-clause-single : goal.load_formulas-requires-clause-single
load_formulas-requires-clause-single c = named_single c.args.source.now c.in_ok-frame.frame c.in_ok-frame.cells.items c.in_ok-frame.ensures.formulas

pub returns-clause-app : goal.returns-clause-app
returns-clause-app c = text_ok c.args.source.now c.in_ok-frame.frame c.in_ok-frame.cells.items c.in_ok-frame.ensures.formulas c.load_formulas.result c.load_formulas.ensures.app

pub returns-clause-bare : goal.returns-clause-bare
returns-clause-bare c =
    let e = (named_parts c.in_ok-frame.ensures.formulas).0 in
    IfOk-weaker c.load_formulas.result _ _ (λ a h. ap (λ (x : Schema). x.tables) h ∙ ap (λ (f : Frame). f.schema.tables) e) c.load_formulas.ensures.schema

pub returns-clause-refused : goal.returns-clause-refused
returns-clause-refused c = text_err c.args.source.now c.in_ok-frame.frame c.in_ok-frame.cells.items c.in_ok-frame.ensures.formulas c.load_formulas.result c.load_formulas.ensures.refused
