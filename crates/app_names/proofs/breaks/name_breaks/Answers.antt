use Rattle.std.proofs.Common.{◌≡◌, ◌++◌, [], ℕ, Bool, List, length, ap, ◌∙◌}
use Rattle.app_names.specs.Declarations.{given_names, is_name_among, frame_table_names, things_behind, things_of}
use Rattle.app_names.specs.NameRules.{app_break, breaks_behind, put_break}
use Rattle.app_names.specs.Tops.{is_name_in_set}
use Rattle.app_names.proofs.BreakSteps.{put_apart}
use Rattle.app_names.proofs.breaks.name_breaks.Goals as goal

pub returns : goal.returns
returns c =
    let fs = c.args.functions.now in
    let f = c.args.frame.now in
    let cs = c.args.cells.now in
    let g = is_name_in_set c.in_ok-given.given in
    let o = c.in_ok-app_break.field-0 in
    let given : g ≡ is_name_among (given_names f cs) = c.in_ok-given.ensures ∙ ap is_name_among (c.deref.ensures.value ∙ c.in_ok-given_names.ensures) in
    let many : length c.as_slice-count.result.now ≡ length (things_of fs f cs) =
    ap length (c.as_slice-count.ensures.value ∙ c.in_ok-things.ensures) ∙ ap (λ (h : List ℕ → Bool). length (things_behind fs h [] cs)) given in
    let broken : o ≡ app_break f cs (length (things_of fs f cs)) = c.in_ok-app_break.ensures ∙ ap (app_break f cs) many in
    let tables : c.deref-2.result.now ≡ frame_table_names f = c.deref-2.ensures.value ∙ c.in_ok-tables.ensures in
    let first : c.put_break.new.breaks.items ≡ put_break o [] = c.in_ok-put_break.ensures ∙ ap (λ xs. xs ++ put_break o []) c.new-breaks.ensures.items in
    let rest = breaks_behind fs g c.deref-2.result.now [] cs in
    c.in_ok-put_breaks.ensures ∙ ap (λ xs. xs ++ rest) first ∙ put_apart o rest ∙ ap (λ q. put_break q rest) broken
    ∙ ap (λ (h : List ℕ → Bool). put_break (app_break f cs (length (things_of fs f cs))) (breaks_behind fs h c.deref-2.result.now [] cs)) given
    ∙ ap (λ ts. put_break (app_break f cs (length (things_of fs f cs))) (breaks_behind fs (is_name_among (given_names f cs)) ts [] cs)) tables
