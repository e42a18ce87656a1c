-- The statements that rows are kept with, and there are no others.
use Rattle.std.specs.Prelude.{ℕ, List, codes}

-- ---- making the tables

abbrev pub make_shape : List ℕ
make_shape = codes "CREATE TABLE shape(one INTEGER PRIMARY KEY, body BLOB NOT NULL)"

abbrev pub make_tabs : List ℕ
make_tabs = codes "CREATE TABLE tabs(tab INTEGER PRIMARY KEY, last INTEGER NOT NULL)"

abbrev pub make_lines : List ℕ
make_lines = codes "CREATE TABLE lines(tab INTEGER NOT NULL, id INTEGER NOT NULL, body BLOB NOT NULL, PRIMARY KEY(tab, id))"

abbrev pub make_marks : List ℕ
make_marks = codes "CREATE TABLE marks(tab INTEGER NOT NULL, col INTEGER NOT NULL, k BLOB NOT NULL, id INTEGER NOT NULL, PRIMARY KEY(tab, col, k, id))"

-- ---- the schema's body

abbrev pub read_body : List ℕ
read_body = codes "SELECT body FROM shape WHERE one = 1"

abbrev pub insert_body : List ℕ
insert_body = codes "INSERT INTO shape(one, body) VALUES(1, ?)"

abbrev pub clear_shape : List ℕ
clear_shape = codes "DELETE FROM shape"

-- ---- the last number of each table

abbrev pub read_lasts : List ℕ
read_lasts = codes "SELECT tab, last FROM tabs ORDER BY tab"

abbrev pub insert_last : List ℕ
insert_last = codes "INSERT INTO tabs(tab, last) VALUES(?, ?)"

abbrev pub update_last : List ℕ
update_last = codes "UPDATE tabs SET last = ? WHERE tab = ?"

abbrev pub clear_tabs : List ℕ
clear_tabs = codes "DELETE FROM tabs"

-- ---- lines

abbrev pub read_lines : List ℕ
read_lines = codes "SELECT id, body FROM lines WHERE tab = ? AND id >= ? AND id <= ? ORDER BY id"

abbrev pub insert_line : List ℕ
insert_line = codes "INSERT INTO lines(tab, id, body) VALUES(?, ?, ?)"

abbrev pub update_line : List ℕ
update_line = codes "UPDATE lines SET body = ? WHERE tab = ? AND id = ?"

abbrev pub delete_line : List ℕ
delete_line = codes "DELETE FROM lines WHERE tab = ? AND id = ?"

abbrev pub clear_lines : List ℕ
clear_lines = codes "DELETE FROM lines"

-- ---- marks

abbrev pub read_marks : List ℕ
read_marks = codes "SELECT k, id FROM marks WHERE tab = ? AND col = ? AND k >= ? AND k < ? ORDER BY k, id"

abbrev pub insert_mark : List ℕ
insert_mark = codes "INSERT INTO marks(tab, col, k, id) VALUES(?, ?, ?, ?)"

abbrev pub delete_mark : List ℕ
delete_mark = codes "DELETE FROM marks WHERE tab = ? AND col = ? AND k = ? AND id = ?"

abbrev pub clear_marks : List ℕ
clear_marks = codes "DELETE FROM marks"
