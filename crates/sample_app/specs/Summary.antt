-- What is told of the load.
use Rattle.std.specs.Prelude.{ℕ, ◌==◌, List, [], ◌∷◌, ◌++◌, drop, filter, length, not, Bool, Option}
use Rattle.std.specs.Prelude.{Some, None, codes, decimal, option_and_then, slice_get, if◌then◌else◌}
use Rattle.std.specs.List.{starts_with}
use Rattle.serde_json.specs.Data.{Data}
use Rattle.serde_json.specs.Find.{as_number, as_str, as_u64, pointer}
use Rattle.numbered_requests.specs.Bodies.{json_of}

-- what stands behind the first empty line: the body of a reply
abbrev pub reply_body : List ℕ → List ℕ
reply_body [] = []
reply_body (b ∷ bs) = if starts_with (λ x y. x == y) (b ∷ bs) (codes "\r\n\r\n") then drop 4
    (b ∷ bs) else reply_body bs

-- a text, or the digits of a whole number
abbrev pub text_or_digits : Option (List ℕ) → Option ℕ → List ℕ
text_or_digits (Some text) number = text
text_or_digits None (Some n) = decimal n
text_or_digits None None = []

-- the words that JSON is, if it is a text or a whole number
abbrev pub words_of : Option Data → List ℕ
words_of None = []
words_of (Some d) = text_or_digits (as_str d) (option_and_then as_u64 (as_number d))

-- the words at a path in the JSON of a reply
abbrev pub words_at : List ℕ → Option (List ℕ) → List ℕ
words_at path None = []
words_at path (Some said) = words_of (option_and_then (pointer path) (json_of (reply_body said)))

-- the reply has another status than 200
abbrev pub is_refusal_reply : List ℕ → Bool
is_refusal_reply said = not (starts_with (λ x y. x == y) said (codes "HTTP/1.1 200 "))

abbrev pub refused : List (List ℕ) → ℕ
refused replies = length (filter is_refusal_reply replies)

-- the lines of what there was, and of what came of it
abbrev pub summary_counts : ℕ → ℕ → ℕ → List ℕ
summary_counts rows sessions requests =
    codes "rows " ++ (decimal rows ++ (codes "\nsessions "
    ++ (decimal sessions ++ (codes "\nrequests " ++ (decimal requests ++ codes "\n")))))

abbrev pub results : ℕ → List ℕ → List ℕ → List ℕ
results refused total first =
    codes "refused " ++ (decimal refused ++ (codes "\ntotal "
    ++ (total ++ (codes "\nfirst " ++ (first ++ codes "\n")))))

-- What is told, of the replies to all requests: how many rows are kept and how many sessions live,
-- how many requests there were and how many were refused, what `Total`, the first control, shows in
-- the first view, and `Qty` of the first row.
abbrev pub summary : ℕ → ℕ → List (List ℕ) → List ℕ
summary rows sessions replies =
    summary_counts rows sessions (length replies)
    ++ results (refused replies) (words_at (codes "/controls/0/values/Text")
    (slice_get replies 2260)) (words_at (codes "/rows/0/Qty") (slice_get replies 2300))
