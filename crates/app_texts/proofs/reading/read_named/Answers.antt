use Rattle.std.proofs.lemmas.Result.{IfErr-weaker, IfOk-weaker}
use Rattle.app_texts.specs.Texts.{AreNamedAt, bare_frame}
use Rattle.app_texts.proofs.Readings.{all_named, named_err, named_ok, named_ok_placed, tells_all_weaker}
use Rattle.app_texts.proofs.reading.read_named.Goals as goal

pub returns-clause-formulas : goal.returns-clause-formulas
returns-clause-formulas c =
    let f = c.bare-frame.result in
    let cells = c.put_formulas.new.cells.items in
    let breaks = c.put_formulas.new.breaks.items in
    let all : AreNamedAt bare_frame c.args.source.now cells breaks =
    all_named f c.args.source.now c.new-cells.result.items cells c.new-breaks.result.items breaks c.bare-frame.ensures c.new-cells.ensures.items c.new-breaks.ensures.items c.in_ok-put_formulas.ensures in
    IfOk-weaker c.unless_broken.result _ _ (λ r h. named_ok c.args.source.now f r.0 cells r.1.items breaks all c.bare-frame.ensures h.0 h.1 h.2) c.unless_broken.ensures.ok

pub returns-clause-placed : goal.returns-clause-placed
returns-clause-placed c =
    let f = c.bare-frame.result in
    let cells = c.put_formulas.new.cells.items in
    let breaks = c.put_formulas.new.breaks.items in
    let all : AreNamedAt bare_frame c.args.source.now cells breaks =
    all_named f c.args.source.now c.new-cells.result.items cells c.new-breaks.result.items breaks c.bare-frame.ensures c.new-cells.ensures.items c.new-breaks.ensures.items c.in_ok-put_formulas.ensures in
    IfOk-weaker c.unless_broken.result _ _ (λ r h. named_ok_placed c.args.source.now f r.0 cells r.1.items breaks all c.bare-frame.ensures h.0 h.1) c.unless_broken.ensures.ok

pub returns-clause-broken : goal.returns-clause-broken
returns-clause-broken c =
    let f = c.bare-frame.result in
    let cells = c.put_formulas.new.cells.items in
    let breaks = c.put_formulas.new.breaks.items in
    let all : AreNamedAt bare_frame c.args.source.now cells breaks =
    all_named f c.args.source.now c.new-cells.result.items cells c.new-breaks.result.items breaks c.bare-frame.ensures c.new-cells.ensures.items c.new-breaks.ensures.items c.in_ok-put_formulas.ensures in
    IfErr-weaker c.unless_broken.result _ _ (λ e. tells_all_weaker e _ _ (λ bs h. named_err c.args.source.now cells breaks bs all h.0 h.1)) c.unless_broken.ensures.broken
