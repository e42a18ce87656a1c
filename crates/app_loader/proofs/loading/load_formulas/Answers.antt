use Rattle.std.proofs.Common.{◌≡◌, ℕ, [], ap, nat_eq, sym, ◌∙◌}
use Rattle.app_loader.specs.Judged.{AreNamedFormulas}
use Rattle.app_loader.proofs.Loads.{formulas_err, formulas_ok, misnamed_by, named_by, none_by, schema_ok, screens_ok, sound_ok, tables_ok}
use Rattle.app_names.specs.NameRules.{name_breaks}
use Rattle.app_loader.proofs.loading.load_formulas.Goals as goal

pub returns-then-not-is_empty-clause-refused : goal.returns-then-not-is_empty-clause-refused
returns-then-not-is_empty-clause-refused c =
    misnamed_by c.args.frame c.args.cells.items c.all-functions.result.now c.in_ok-breaks.breaks.items c.all-functions.ensures
    (c.in_ok-breaks.ensures ∙ ap (name_breaks c.all-functions.result.now c.args.frame) c.deref.ensures.value)
    (ap (λ (k : ℕ). nat_eq k 0) (sym c.in_ok-breaks.breaks.ok.0) ∙ sym c.is_empty.ensures ∙ c.if-not-is_empty.true)

pub returns-clause-app : goal.returns-clause-app
returns-clause-app c =
    let f = c.args.frame in
    let cells = c.args.cells.items in
    let ss = c.all-functions.result.now in
    let none : name_breaks ss f cells ≡ [] =
    sym (c.in_ok-breaks.ensures ∙ ap (name_breaks ss f) c.deref.ensures.value) ∙ none_by c.in_ok-breaks.breaks.items (ap (λ (k : ℕ). nat_eq k 0) (sym c.in_ok-breaks.breaks.ok.0) ∙ sym c.is_empty.ensures ∙ c.if-not-is_empty.false) in
    let are : AreNamedFormulas f cells c.in_ok-names.names = named_by f cells c.in_ok-names.names ss (rw c.deref-2.ensures.value at c.in_ok-names.ensures.names) c.in_ok-names.ensures.functions none in
    formulas_ok f cells c.in_ok-names.names are c.app_of.result c.app_of.ensures.app

pub returns-clause-sound : goal.returns-clause-sound
returns-clause-sound c =
    sound_ok c.accepted_is_sound.ensures c.args.frame c.args.cells.items c.in_ok-names.names (rw c.deref-2.ensures.value at c.in_ok-names.ensures.names) c.requires.placed c.requires.single c.app_of.result c.app_of.ensures.app
    c.app_of.ensures.typed c.app_of.ensures.trees c.app_of.ensures.lawful

pub returns-clause-screens : goal.returns-clause-screens
returns-clause-screens c = screens_ok c.args.frame c.args.cells.items c.in_ok-names.names (rw c.deref-2.ensures.value at c.in_ok-names.ensures.names) c.app_of.result c.app_of.ensures.app

pub returns-clause-schema : goal.returns-clause-schema
returns-clause-schema c = schema_ok c.args.frame c.args.cells.items c.in_ok-names.names (rw c.deref-2.ensures.value at c.in_ok-names.ensures.names) c.app_of.result c.app_of.ensures.app

pub returns-clause-tables : goal.returns-clause-tables
returns-clause-tables c =
    tables_ok c.accepted_holds_tables.ensures c.args.frame c.args.cells.items c.in_ok-names.names (rw c.deref-2.ensures.value at c.in_ok-names.ensures.names) c.requires.placed c.requires.single c.app_of.result c.app_of.ensures.app
    c.app_of.ensures.typed c.app_of.ensures.trees c.app_of.ensures.lawful

pub returns-clause-refused : goal.returns-clause-refused
returns-clause-refused c =
    let f = c.args.frame in
    let cells = c.args.cells.items in
    let ss = c.all-functions.result.now in
    let none : name_breaks ss f cells ≡ [] =
    sym (c.in_ok-breaks.ensures ∙ ap (name_breaks ss f) c.deref.ensures.value) ∙ none_by c.in_ok-breaks.breaks.items (ap (λ (k : ℕ). nat_eq k 0) (sym c.in_ok-breaks.breaks.ok.0) ∙ sym c.is_empty.ensures ∙ c.if-not-is_empty.false) in
    let are : AreNamedFormulas f cells c.in_ok-names.names = named_by f cells c.in_ok-names.names ss (rw c.deref-2.ensures.value at c.in_ok-names.ensures.names) c.in_ok-names.ensures.functions none in
    formulas_err f cells c.in_ok-names.names are c.app_of.result c.app_of.ensures.refused
