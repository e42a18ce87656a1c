pub mod NewTables
