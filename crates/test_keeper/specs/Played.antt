-- What is known of the keepers that are played.
use Rattle.keeper_cases.specs.Stock.{IsInStep}
use Rattle.row_keeper.specs.StoreView.{shape_of}
use Rattle.sql_keeper.specs.View.{sql_shape}
use Rattle.test_keeper.specs.declared.played.Played.{Played}

-- each keeper stands where the cases say
pub record AreInStep (p : Played) : Type 0 where
  pub memory : IsInStep p.memory.stage.is_shaped p.memory.stage.is_begun
      (shape_of p.memory.keeper.store) p.memory.keeper.store.is_begun
  pub sql : IsInStep p.sql.stage.is_shaped p.sql.stage.is_begun (sql_shape p.sql.keeper)
      p.sql.keeper.is_begun
  pub file : IsInStep p.file.stage.is_shaped p.file.stage.is_begun (sql_shape p.file.keeper)
      p.file.keeper.is_begun
