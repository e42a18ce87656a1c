-- Whether a table takes a new row.
use Rattle.std.specs.Prelude.{◌≡◌, ◌==◌, ◌||◌, Bool, length, nat_le}
use Rattle.row_keeper.specs.Tables.{TableState}
use Rattle.store_rows.specs.declared.rules.Room.{Room}

-- it takes none: it has 200,000 rows, all tables have 500,000, or its last number is the greatest
abbrev pub is_full_room : Room → Bool
is_full_room room = nat_le 200000 room.rows || (nat_le 500000 room.all || room.last == 4294967295)

-- the room is that of a table
pub record IsRoomOf (room : Room) (s : TableState) : Type 0 where
  pub rows : room.rows ≡ length s.rows
  pub last : room.last ≡ s.last
