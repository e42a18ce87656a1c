-- What a formula where it is written is seen as.
use Rattle.std.specs.Prelude.{option_map}
use Rattle.fx_types.specs.TypeView.{shape}
use Rattle.fx_typing.specs.Rounds.{Cell}
use Rattle.fx_infer.specs.declared.elaboration.Written.{Written}
use Rattle.fx_infer.specs.Written.{formula_may_act}

abbrev pub cell : Written → Cell
cell w = record {
  screen = w.screen;
  gallery = w.item;
  acts = formula_may_act w.place;
  wanted = option_map shape w.wanted;
  formula = w.expr;
}
