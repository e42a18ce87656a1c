-- The refusals, each with its code, its name and its HTTP status.
use Rattle.std.specs.Prelude.{ℕ, ◌==◌, List, [], ◌∷◌, map, codes, if◌then◌else◌}
use Rattle.view_text.specs.declared.refusals.Cause.{Cause}
use Rattle.view_text.specs.declared.refusals.Cause.TheVariants.{BadHead, HeadTooLong, BadLength}
use Rattle.view_text.specs.declared.refusals.Cause.TheVariants.{BodyTooLong, NotOffered, CutShort}
use Rattle.view_text.specs.declared.refusals.Cause.TheVariants.{NoRoute, WrongMethod, BadJson}
use Rattle.view_text.specs.declared.refusals.Cause.TheVariants.{BadShape, NoSession, TooManyCallers}
use Rattle.view_text.specs.declared.refusals.Cause.TheVariants.{OutOfStep, SeqReused, NoControl}
use Rattle.view_text.specs.declared.refusals.Cause.TheVariants.{NoEvent, NotShown, NoItem}
use Rattle.view_text.specs.declared.refusals.Cause.TheVariants.{ItemMoved, BadInput, NoTable, NoRow}
use Rattle.view_text.specs.declared.refusals.Cause.TheVariants.{RowRefused, EditRefused}
use Rattle.view_text.specs.declared.refusals.Cause.TheVariants.{KeeperFault, WantOfMemory}
use Rattle.view_text.specs.declared.refusals.Cause.TheVariants.{MoveRefused, ImportRefused}

pub record RefusalRow : Type 0 where
  pub code : ℕ
  pub name : List ℕ
  pub status : ℕ

abbrev pub row : ℕ → List ℕ → ℕ → RefusalRow
row code name status = record { code = code; name = name; status = status }

-- the table
abbrev pub row_of_cause : Cause → RefusalRow
row_of_cause BadHead = row 1 (codes "BadHead") 400
row_of_cause HeadTooLong = row 2 (codes "HeadTooLong") 431
row_of_cause BadLength = row 3 (codes "BadLength") 400
row_of_cause BodyTooLong = row 4 (codes "BodyTooLong") 413
row_of_cause NotOffered = row 5 (codes "NotOffered") 501
row_of_cause CutShort = row 6 (codes "CutShort") 400
row_of_cause NoRoute = row 7 (codes "NoRoute") 404
row_of_cause WrongMethod = row 8 (codes "WrongMethod") 405
row_of_cause BadJson = row 9 (codes "BadJson") 400
row_of_cause BadShape = row 10 (codes "BadShape") 400
row_of_cause NoSession = row 11 (codes "NoSession") 404
row_of_cause TooManyCallers = row 12 (codes "TooManyCallers") 429
row_of_cause OutOfStep = row 13 (codes "OutOfStep") 409
row_of_cause SeqReused = row 14 (codes "SeqReused") 409
row_of_cause NoControl = row 15 (codes "NoControl") 404
row_of_cause NoEvent = row 16 (codes "NoEvent") 409
row_of_cause NotShown = row 17 (codes "NotShown") 409
row_of_cause NoItem = row 18 (codes "NoItem") 409
row_of_cause ItemMoved = row 19 (codes "ItemMoved") 409
row_of_cause BadInput = row 20 (codes "BadInput") 422
row_of_cause NoTable = row 21 (codes "NoTable") 404
row_of_cause NoRow = row 22 (codes "NoRow") 404
row_of_cause RowRefused = row 23 (codes "RowRefused") 422
row_of_cause EditRefused = row 24 (codes "EditRefused") 422
row_of_cause KeeperFault = row 25 (codes "KeeperFault") 503
row_of_cause WantOfMemory = row 26 (codes "WantOfMemory") 507
row_of_cause MoveRefused = row 27 (codes "MoveRefused") 422
row_of_cause ImportRefused = row 28 (codes "ImportRefused") 422

-- all refusals
abbrev pub all_refusals : List Cause
all_refusals =
    BadHead ∷ HeadTooLong ∷ BadLength ∷ BodyTooLong ∷ NotOffered ∷ CutShort ∷ NoRoute ∷
    WrongMethod ∷ BadJson ∷ BadShape ∷ NoSession ∷ TooManyCallers ∷ OutOfStep ∷ SeqReused ∷
    NoControl ∷ NoEvent ∷ NotShown ∷ NoItem ∷ ItemMoved ∷ BadInput ∷ NoTable ∷ NoRow ∷
    RowRefused ∷ EditRefused ∷ KeeperFault ∷ WantOfMemory ∷ MoveRefused ∷ ImportRefused ∷ []

-- the code of a refusal
abbrev pub code_of : Cause → ℕ
code_of refusal = (row_of_cause refusal).code

-- the row of this code
abbrev pub row_in : List RefusalRow → ℕ → RefusalRow
row_in [] code = row code [] 0
row_in (r ∷ rows) code = if r.code == code then r else row_in rows code

abbrev pub row_of_code : ℕ → RefusalRow
row_of_code code = row_in (map row_of_cause all_refusals) code

-- the name and the status that go with a code
abbrev pub name_of_code : ℕ → List ℕ
name_of_code code = (row_of_code code).name

abbrev pub refusal_status : ℕ → ℕ
refusal_status code = (row_of_code code).status
