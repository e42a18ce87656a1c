-- Acting calls, by what their first part is.
use Rattle.std.specs.Prelude.{ℕ, List, Bool, true, false, Result, Err}
use Rattle.fx_types.specs.Types.{Shape}
use Rattle.fx_core.specs.declared.deeds.Deed.TheVariants as deed
use Rattle.fx_core.specs.declared.functions.Acting.{Acting}
use Rattle.fx_core.specs.declared.functions.Acting.TheVariants as acts
use Rattle.fx_core.specs.declared.names.Names.{Names}
use Rattle.fx_core.specs.Term.{Term}
use Rattle.fx_core.specs.Rules as rules
use Rattle.fx_typing.specs.Parts.{JudgedPart}
use Rattle.fx_typing.specs.Deeds.{set_of, collect_of, clear_of, patch_of, remove_of, navigate_of}
use Rattle.fx_typing.specs.Deeds.{reset_of}

-- whether the first part is a name alone
abbrev pub is_by_name : Acting → Bool
is_by_name acts.UpdateContext = false
is_by_name acts.RemoveIf = false
is_by_name acts.UpdateIf = false
is_by_name acts.Notify = false
is_by_name a = true

-- a call of what has a name
abbrev pub named_call : Names → Acting → List ℕ → List JudgedPart → Result (Term × Shape) ℕ
named_call n acts.Set x qs = set_of n x qs
named_call n acts.Collect x qs = collect_of deed.Collect n x qs
named_call n acts.ClearCollect x qs = collect_of deed.ClearCollect n x qs
named_call n acts.Clear x qs = clear_of n x qs
named_call n acts.Patch x qs = patch_of n x qs
named_call n acts.Remove x qs = remove_of n x qs
named_call n acts.Navigate x qs = navigate_of n x qs
named_call n acts.Reset x qs = reset_of n x qs
named_call n a x qs = Err rules.not_a_variable
