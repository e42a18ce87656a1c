use Rattle.std.proofs.Common.{ap, ◌∙◌, find, option_map, bytes_eq}
use Rattle.fx_sig.specs.Entries.{Entry, entry}
use Rattle.fx_sig.proofs.Found.{signature_found}
use Rattle.fx_sig.proofs.table.signature.Goals as goal

pub returns : goal.returns
returns c =
    ap (option_map entry) c.signature_in.ensures
    ∙ signature_found c.all.result.now c.args.name.now
    ∙ ap (find (λ (e : Entry). bytes_eq e.name c.args.name.now)) c.all.ensures
