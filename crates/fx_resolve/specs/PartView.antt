-- What a part of a node is seen as.
use Rattle.std.specs.Prelude.{map}
use Rattle.fx_typing.specs.Parts as parts
use Rattle.fx_typing.specs.TypedView.{typed}
use Rattle.fx_typing.specs.TypedView as local
use Rattle.fx_resolve.specs.declared.parts.Part.{Part}
use Rattle.fx_resolve.specs.declared.parts.Part.TheVariants.{Piece, Meant, Target, Assigned}
use Rattle.fx_resolve.specs.MeaningView.{meaning_view}

abbrev pub judged_part : Part → parts.JudgedPart
judged_part (Piece p) = parts.piece (local.piece_view p)
judged_part (Meant m) = parts.meant (meaning_view m)
judged_part (Target a x) = parts.target a x
judged_part (Assigned ns xs) = parts.assigned ns.items (map typed xs.items)
