-- What a name that no app declares means.
use Rattle.std.specs.Prelude.{Bool, List, Option, Some}
use Rattle.fx_typing.specs.Meaning as meaning
use Rattle.fx_resolve.specs.declared.meanings.Reserved.{Reserved}
use Rattle.fx_resolve.specs.declared.meanings.Reserved.TheVariants.{ThisRecord, ThisItem}
use Rattle.fx_resolve.specs.declared.meanings.Reserved.TheVariants.{FirstError, Enumeration}

abbrev pub reserved_meaning : meaning.Place → List meaning.Scope → Bool → Reserved
    → Option meaning.NameMeaning
reserved_meaning p ss catches ThisRecord = meaning.this_record 0 ss
reserved_meaning p ss catches ThisItem = meaning.this_item p.names p.gallery
reserved_meaning p ss catches FirstError = meaning.first_error catches
reserved_meaning p ss catches (Enumeration e) = Some (meaning.enumerated e)
