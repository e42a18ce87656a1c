use Rattle.std.proofs.Common.{◌≡◌, List, ℕ, IfOk, subst, sym}
use Rattle.std.specs.Str.{chars}
use Rattle.fx_tables.proofs.ValueRows.{no_characters}
use Rattle.fx_tables.proofs.texts.text_in.Goals as goal

pub returns-in_default : goal.returns-in_default
unfolding chars
returns-in_default c =
    let P : List ℕ → Type 0 = λ cs. IfOk c.of.result (λ w. w ≡ cs) in
    subst P (sym (no_characters c.args.value.now c.in_default.not-Text)) c.of.ensures
