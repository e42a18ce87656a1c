-- The bytes of a reply.
use Rattle.std.specs.Prelude.{ℕ, ◌==◌, ◌||◌, Bool, List, ◌++◌, length, codes, decimal}
use Rattle.view_text.specs.Refusals.{name_of_code, refusal_status}
use Rattle.view_text.specs.Statuses.{reason_of}

-- the status line and the fields, for a body of so many bytes
abbrev pub reply_head : ℕ → List ℕ → ℕ → List ℕ
reply_head status reason len =
    codes "HTTP/1.1 " ++ (decimal status ++ (codes " " ++ (reason
    ++ (codes "\r\nContent-Type: application/json\r\nContent-Length: " ++ (decimal len
    ++ codes "\r\nConnection: close\r\n\r\n")))))

-- the whole reply
unfoldable pub reply : ℕ → List ℕ → List ℕ
reply status body = reply_head status (reason_of status) (length body) ++ body

-- the body of a refusal with no detail
abbrev pub refusal_body : ℕ → List ℕ
refusal_body code =
    codes "{\"refused\":{\"code\":" ++ decimal code ++ codes ",\"detail\":null,\"name\":\""
    ++ name_of_code code ++ codes "\"}}"

-- the whole reply of a refusal with no detail
unfoldable pub refusal : ℕ → List ℕ
refusal code = reply (refusal_status code) (refusal_body code)

-- the refusals whose replies take no memory
abbrev pub is_fixed : ℕ → Bool
is_fixed code =
    (code == 1) || (code == 2) || (code == 3) || (code == 4) || (code == 5) || (code == 6)
    || (code == 7) || (code == 8)
    || (code == 25) || (code == 26)
