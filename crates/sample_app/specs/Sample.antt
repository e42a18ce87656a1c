-- The app of the load, and the requests that it is put to.
use Rattle.std.specs.Prelude.{ℕ, ◌+◌, ◌-◌, ◌*◌, ◌/◌, ◌%◌, ◌==◌, List, [], ◌∷◌, ◌++◌, map, flat_map}
use Rattle.std.specs.Prelude.{codes, decimal, if◌then◌else◌}
use Rattle.std.specs.List.{range_with_len}
use Rattle.app_wire.specs.Framing.{Asked}
use Rattle.app_wire.specs.declared.head.Method.{Method}
use Rattle.app_wire.specs.declared.head.Method.TheVariants.{Get, Put, Post}

-- the app's file
unfoldable pub app_text : List ℕ
app_text = codes "{\"format\":\"pfx-1\",\"tables\":[{\"name\":\"Stock\",\"columns\":[{\"name\":\"Name\",\"type\":\"Text\",\"required\":true},{\"name\":\"Qty\",\"type\":\"Number\",\"indexed\":true}]}],\"onStart\":\"Set(n, 0)\",\"screens\":[{\"name\":\"Home\",\"controls\":[{\"name\":\"Total\",\"kind\":\"Label\",\"properties\":{\"Text\":\"Sum(Stock, Qty)\"}},{\"name\":\"Take\",\"kind\":\"Button\",\"properties\":{\"OnSelect\":\"Set(n, n + 1); With({row: LookUp(Stock, ID = n * 3)}, Patch(Stock, row, {Qty: row.Qty - 1}))\"}}]}]}"

-- a request without a body
abbrev pub bodiless : Method → List ℕ → Asked
bodiless method path = record { method = method; path = path; body = [] }

-- a request that posts a body
abbrev pub posts : List ℕ → List ℕ → Asked
posts path body = record { method = Post; path = path; body = body }

-- the path of session `s1`, `s2` and so on
abbrev pub session_path : ℕ → List ℕ
session_path k = codes "/s/s" ++ decimal k

-- desk `d` posts changes, under its next number
abbrev pub changes : ℕ → List ℕ → Asked
changes seq list = posts (codes "/desk/d/rows")
    (codes "{\"seq\":" ++ (decimal seq ++ (codes ",\"changes\":[" ++ (list ++ codes "]}"))))

-- row i is `Item i`, with the quantity (7i + n) mod 100
abbrev pub row_text : ℕ → ℕ → List ℕ
row_text n i =
    codes "{\"op\":\"add\",\"table\":\"Stock\",\"row\":{\"Name\":\"Item "
    ++ (decimal i ++ (codes "\",\"Qty\":" ++ (decimal ((7 * i + n) % 100) ++ codes "}}")))

-- so many rows from row i on, with a comma before each
abbrev pub more_rows : ℕ → ℕ → ℕ → List ℕ
more_rows n i count = flat_map (λ j. codes "," ++ row_text n j) (range_with_len i count)

-- the k-th thousand of rows
abbrev pub adds : ℕ → ℕ → Asked
adds n k = changes k (row_text n (1000 * k - 999) ++ more_rows n (1000 * k - 998) 999)

-- session k is opened
abbrev pub open_request : ℕ → Asked
open_request k = bodiless Put (session_path k)

-- the e-th event: the 40 sessions press the button in turn, each under its own numbers
abbrev pub event_request : ℕ → Asked
event_request e =
    posts (codes "/s/s" ++ (decimal ((e - 1) % 40 + 1) ++ codes "/event"))
    (codes "{\"seq\":" ++ (decimal ((e - 1) / 40 + 1)
    ++ codes ",\"control\":\"Take\",\"event\":\"OnSelect\"}"))

-- the k-th change of a name: row 10k is `Checked k` then
abbrev pub change_request : ℕ → Asked
change_request k =
    changes (20 + k) (codes "{\"op\":\"change\",\"table\":\"Stock\",\"id\":"
    ++ (decimal (10 * k) ++ (codes ",\"row\":{\"Name\":\"Checked "
    ++ (decimal k ++ codes "\"}}"))))

-- the e-th event, and behind each tenth one a change of a name
abbrev pub works : ℕ → List Asked
works e = event_request e ∷ (if e % 10 == 0 then change_request (e / 10) ∷ [] else [])

-- session k asks for its view
abbrev pub view_request : ℕ → Asked
view_request k = bodiless Get (codes "/s/s" ++ (decimal k ++ codes "/view"))

-- the first rows
abbrev pub page : Asked
page = bodiless Get (codes "/rows/Stock/0")

-- THE 2,301 requests: 20,000 rows, 40 sessions, 2,000 events with 200 changes of names, 40 views,
-- and a page of rows
abbrev pub requests : ℕ → List Asked
requests n =
    map (adds n) (range_with_len 1 20) ++ (map open_request (range_with_len 1 40)
    ++ (flat_map works (range_with_len 1 2000)
    ++ (map view_request (range_with_len 1 40) ++ page ∷ [])))
