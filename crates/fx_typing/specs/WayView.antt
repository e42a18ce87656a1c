-- What a way is seen as.
use Rattle.fx_typing.specs.Ways as ways
use Rattle.fx_typing.specs.declared.ways.Way.{Way}
use Rattle.fx_typing.specs.declared.ways.Way.TheVariants.{Same, Changed, Refused}

abbrev pub way_view : Way → ways.Way
way_view Same = ways.same
way_view Changed = ways.changed
way_view Refused = ways.refused
