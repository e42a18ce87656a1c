-- Which sources a tree may write: those that the deeds in it name.
use Rattle.std.specs.Prelude.{◌⊎◌}
use Rattle.fx_core.specs.declared.sources.Source.{Source}
use Rattle.fx_core.specs.Term.{Term, Terms, of, nil, cons, Top}
use Rattle.fx_core.specs.Term as top
use Rattle.fx_deeds.specs.Writable.{DeedMayWrite}

-- what a head may write by itself
abbrev pub HeadMayWrite : Top → Source → Type 0
HeadMayWrite (top.act d) x = DeedMayWrite d x
HeadMayWrite k x = ⊥

abbrev mutual
  -- a deed in the tree may write the source
  pub MayWrite : Term → Source → Type 0
  MayWrite (of k ts) x = HeadMayWrite k x ⊎ AnyMayWrite ts x

  -- one in these trees may
  pub AnyMayWrite : Terms → Source → Type 0
  AnyMayWrite nil x = ⊥
  AnyMayWrite (cons t ts) x = MayWrite t x ⊎ AnyMayWrite ts x
