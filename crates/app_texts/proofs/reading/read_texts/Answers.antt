use Rattle.std.proofs.Common.{◌≡◌, ap, subst, sym, ◌∙◌}
use Rattle.std.proofs.lemmas.Result.{IfErr-weaker, IfOk-weaker}
use Rattle.app_cells.specs.Spots.{IsFrame}
use Rattle.app_texts.specs.Files.{frame_by, file_frame, formula_texts}
use Rattle.app_texts.specs.Steps.{AreReadable}
use Rattle.app_texts.specs.Texts.{AreFormulasOf}
use Rattle.app_texts.proofs.Readings.{all_formulas, file_err, file_ok, file_placed, tells_all_weaker}
use Rattle.app_texts.proofs.Spotted.{sound_frame, sound_texts}
use Rattle.app_texts.proofs.reading.read_texts.Goals as goal

pub put_texts-requires : goal.put_texts-requires
put_texts-requires c =
    let a = c.args.file in
    let e : c.in_ok-frame.frame ≡ file_frame a = c.in_ok-frame.ensures ∙ ap (frame_by a.schema a.row_limit) c.as_slice.ensures in
    subst (λ f. AreReadable f c.in_ok-texts.texts.items) (sym e) (subst (AreReadable (file_frame a)) (sym c.in_ok-texts.ensures) (sound_texts a c.requires))

pub returns-clause-formulas : goal.returns-clause-formulas
returns-clause-formulas c =
    let a = c.args.file in
    let f = c.in_ok-frame.frame in
    let e : f ≡ file_frame a = c.in_ok-frame.ensures ∙ ap (frame_by a.schema a.row_limit) c.as_slice.ensures in
    let cells = c.put_texts.new.cells.items in
    let breaks = c.put_texts.new.breaks.items in
    let all : AreFormulasOf a (file_frame a) cells breaks =
    all_formulas a f c.in_ok-texts.texts.items c.new-cells.result.items c.put_formulas.new.cells.items cells c.new-breaks.result.items c.put_formulas.new.breaks.items breaks e c.in_ok-texts.ensures
    c.new-cells.ensures.items c.new-breaks.ensures.items (rw c.as_str.ensures.bytes at c.in_ok-put_formulas.ensures) c.in_ok-put_texts.ensures in
    IfOk-weaker c.unless_broken.result _ _ (λ r h. file_ok a f r.0 cells r.1.items breaks all e h.0 h.1 h.2) c.unless_broken.ensures.ok

pub returns-clause-frame : goal.returns-clause-frame
returns-clause-frame c =
    let a = c.args.file in
    let e : c.in_ok-frame.frame ≡ file_frame a = c.in_ok-frame.ensures ∙ ap (frame_by a.schema a.row_limit) c.as_slice.ensures in
    IfOk-weaker c.unless_broken.result _ _ (λ r h. subst IsFrame (sym (h.0 ∙ e)) (sound_frame a c.requires)) c.unless_broken.ensures.ok

pub returns-clause-placed : goal.returns-clause-placed
returns-clause-placed c =
    let a = c.args.file in
    let f = c.in_ok-frame.frame in
    let e : f ≡ file_frame a = c.in_ok-frame.ensures ∙ ap (frame_by a.schema a.row_limit) c.as_slice.ensures in
    let cells = c.put_texts.new.cells.items in
    let breaks = c.put_texts.new.breaks.items in
    let all : AreFormulasOf a (file_frame a) cells breaks =
    all_formulas a f c.in_ok-texts.texts.items c.new-cells.result.items c.put_formulas.new.cells.items cells c.new-breaks.result.items c.put_formulas.new.breaks.items breaks e c.in_ok-texts.ensures
    c.new-cells.ensures.items c.new-breaks.ensures.items (rw c.as_str.ensures.bytes at c.in_ok-put_formulas.ensures) c.in_ok-put_texts.ensures in
    IfOk-weaker c.unless_broken.result _ _ (λ r h. file_placed a f r.0 cells r.1.items breaks all e h.0 h.1) c.unless_broken.ensures.ok

pub returns-clause-broken : goal.returns-clause-broken
returns-clause-broken c =
    let a = c.args.file in
    let f = c.in_ok-frame.frame in
    let e : f ≡ file_frame a = c.in_ok-frame.ensures ∙ ap (frame_by a.schema a.row_limit) c.as_slice.ensures in
    let cells = c.put_texts.new.cells.items in
    let breaks = c.put_texts.new.breaks.items in
    let all : AreFormulasOf a (file_frame a) cells breaks =
    all_formulas a f c.in_ok-texts.texts.items c.new-cells.result.items c.put_formulas.new.cells.items cells c.new-breaks.result.items c.put_formulas.new.breaks.items breaks e c.in_ok-texts.ensures
    c.new-cells.ensures.items c.new-breaks.ensures.items (rw c.as_str.ensures.bytes at c.in_ok-put_formulas.ensures) c.in_ok-put_texts.ensures in
    IfErr-weaker c.unless_broken.result _ _ (λ x. tells_all_weaker x _ _ (λ bs h. file_err a cells breaks bs all h.0 h.1)) c.unless_broken.ensures.broken
