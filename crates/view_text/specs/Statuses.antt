-- The HTTP statuses of replies.
use Rattle.std.specs.Prelude.{ℕ, ◌==◌, ◌||◌, Bool, List, codes, if◌then◌else◌}

-- the reason that the status line gives
abbrev pub reason_of : ℕ → List ℕ
reason_of status =
    if status == 200 then codes "OK"
    else (if status == 400 then codes "Bad Request"
    else (if status == 404 then codes "Not Found"
    else (if status == 405 then codes "Method Not Allowed"
    else (if status == 409 then codes "Conflict"
    else (if status == 413 then codes "Content Too Large"
    else (if status == 422 then codes "Unprocessable Content"
    else (if status == 429 then codes "Too Many Requests"
    else (if status == 431 then codes "Request Header Fields Too Large"
    else (if status == 501 then codes "Not Implemented"
    else (if status == 503 then codes "Service Unavailable"
    else codes "Insufficient Storage"))))))))))

-- the statuses of replies
abbrev pub is_status : ℕ → Bool
is_status status =
    (status == 200)
    || (status == 400)
    || (status == 404)
    || (status == 405)
    || (status == 409)
    || (status == 413)
    || (status == 422)
    || (status == 429)
    || (status == 431)
    || (status == 501)
    || (status == 503)
    || (status == 507)
