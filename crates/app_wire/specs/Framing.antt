-- What the bytes of a conversation begin with.
use Rattle.std.specs.Prelude.{◌≡◌, ℕ, ◌+◌, ◌<◌, ◌≤◌, ◌⊎◌, Bool, true, false, List, [], ◌++◌, length}
use Rattle.std.specs.Prelude.{take, drop, slice_range, codes}
use Rattle.httparse.specs.Grammar.{RequestHead}
use Rattle.app_wire.specs.Head.{IsHead, length_of_body, method_named, target_path}
use Rattle.app_wire.specs.declared.body.BodyLength.{BodyLength}
use Rattle.app_wire.specs.declared.body.BodyLength.TheVariants.{NotOffered, Bad, TooLong, Bytes}
use Rattle.app_wire.specs.declared.head.Method.{Method}
use Rattle.app_wire.specs.declared.framer.Request.{Request}
use Rattle.app_wire.specs.declared.framer.Fed.{Fed}
use Rattle.app_wire.specs.declared.framer.Fed.TheVariants.{Need, Whole, Refused}
use Rattle.app_wire.specs.declared.framer.Look.{Look}
use Rattle.app_wire.specs.declared.framer.Look.TheVariants as look

-- a request, without where it lies in memory
pub record Asked : Type 0 where
  pub method : Method
  pub path : List ℕ
  pub body : List ℕ

-- the request of the program, so seen
abbrev pub asked : Request → Asked
asked r = record { method = r.method; path = r.path.items; body = r.body.items }

-- the request of a head with this body
abbrev pub request_of : RequestHead → List ℕ → Asked
request_of h body = record {
  method = method_named h.method;
  path = target_path h.target;
  body = body;
}

-- the bytes end with a blank line: an LF, an optional CR and an LF
abbrev pub EndsBlank : List ℕ → Type 0
EndsBlank bytes =
    ((before : List ℕ) × (bytes ≡ before ++ codes "\n\n"))
    ⊎ ((before : List ℕ) × (bytes ≡ before ++ codes "\n\r\n"))

-- no blank line ends within the first n bytes
abbrev pub HasNoBlank : List ℕ → ℕ → Type 0
HasNoBlank bytes n = (k : ℕ) → k ≤ n → EndsBlank (take k bytes) → ⊥

-- the first n bytes, at most 8192, end with the first blank line
pub record IsHeadEnd (bytes : List ℕ) (n : ℕ) : Type 0 where
  pub within : n ≤ length bytes
  pub near : n ≤ 8192
  pub blank : EndsBlank (take n bytes)
  pub first : (k : ℕ) → k < n → EndsBlank (take k bytes) → ⊥

-- a front that is no request head with at most 64 fields
pub record IsBadHead (bytes : List ℕ) : Type 0 where
  pub len : ℕ
  pub front : IsHeadEnd bytes len
  pub bad : (h : RequestHead) → IsHead (take len bytes) h → ⊥

-- 8192 bytes came and hold no blank line
pub record IsTooLong (bytes : List ℕ) : Type 0 where
  pub long : 8192 ≤ length bytes
  pub none : HasNoBlank bytes 8192

-- a front that is a head, whose fields say this of its body, which begins at start
pub record Announces (bytes : List ℕ) (body : BodyLength) : Type 0 where
  pub start : ℕ
  pub front : IsHeadEnd bytes start
  pub head : RequestHead
  pub is : IsHead (take start bytes) head
  pub body_is : length_of_body head ≡ body

-- the first len bytes are this request: a head, and behind it a body of so many bytes as its fields
-- say
pub record IsWholeRequest (bytes : List ℕ) (request : Asked) (len : ℕ) : Type 0 where
  pub size : ℕ
  pub head : Announces bytes (Bytes size)
  pub len_is : len ≡ head.start + size
  pub within : len ≤ length bytes
  pub same : request ≡ request_of head.head (slice_range bytes head.start len)

-- bytes came, and the head isn't whole
pub record IsInHead (bytes : List ℕ) : Type 0 where
  pub some : 0 < length bytes
  pub short : length bytes < 8192
  pub none : HasNoBlank bytes (length bytes)

-- the head is whole, and the body isn't
pub record IsInBody (bytes : List ℕ) : Type 0 where
  pub size : ℕ
  pub head : Announces bytes (Bytes size)
  pub short : length bytes < head.start + size

-- a request was begun and isn't whole
abbrev pub IsRequestBegun : List ℕ → Type 0
IsRequestBegun bytes = IsInHead bytes ⊎ IsInBody bytes

-- what bytes can begin with
pub data FramingResult : Type 0 where
  nothing : FramingResult
  refused : (code : ℕ) → FramingResult
  whole : (request : Asked) (len : ℕ) → FramingResult
  need : FramingResult

-- the refusals by their codes; the last one where the input has ended
abbrev pub Refuses : List ℕ → Bool → ℕ → Type 0
Refuses bytes ended code =
    ((code ≡ 1) × IsBadHead bytes)
    ⊎ ((code ≡ 2) × IsTooLong bytes)
    ⊎ ((code ≡ 3) × Announces bytes Bad)
    ⊎ ((code ≡ 4) × Announces bytes TooLong)
    ⊎ ((code ≡ 5) × Announces bytes NotOffered)
    ⊎ ((code ≡ 6) × (ended ≡ true) × IsRequestBegun bytes)

-- the bytes taken so far, which end the input or not, begin with this
abbrev pub Framing : List ℕ → Bool → FramingResult → Type 0
Framing bytes ended nothing = bytes ≡ []
Framing bytes ended (refused code) = Refuses bytes ended code
Framing bytes ended (whole request len) = IsWholeRequest bytes request len
Framing bytes ended need = (ended ≡ false) × IsRequestBegun bytes

-- no request is whole yet and none is refused
abbrev pub IsStillOpen : List ℕ → Type 0
IsStillOpen bytes = Framing bytes false nothing ⊎ Framing bytes false need

-- what a look at the bytes finds, while more may come
abbrev pub LookFinds : List ℕ → Look → Type 0
LookFinds bytes look.Need = IsStillOpen bytes
LookFinds bytes (look.Refused code) = Framing bytes false (refused code)
LookFinds bytes (look.Whole method path body len) =
    Framing bytes false (whole (record { method = method; path = path.now; body = body.now }) len)

-- the framer's answer on the bytes that came, and what of them it then holds
abbrev pub Feeds : List ℕ → Fed → List ℕ → Type 0
Feeds bytes Need held = IsStillOpen bytes × (held ≡ bytes)
Feeds bytes (Refused code) held = Framing bytes false (refused code) × (held ≡ bytes)
Feeds bytes (Whole request) held =
    (len : ℕ) × Framing bytes false (whole (asked request) len) × (held ≡ drop len bytes)

-- nothing that may still come changes it
abbrev pub IsFinalFrame : FramingResult → Type 0
IsFinalFrame nothing = ⊥
IsFinalFrame (refused code) = Unit {0}
IsFinalFrame (whole request len) = Unit {0}
IsFinalFrame need = ⊥

-- what was found of the bytes so far stands, however they go on
abbrev pub FramesStand : Type 0
FramesStand =
    (bytes more : List ℕ) (ended : Bool) (frame : FramingResult)
    → IsFinalFrame frame → Framing bytes false frame → Framing (bytes ++ more) ended frame

-- the bytes begin with one thing only
abbrev pub IsOneThing : Type 0
IsOneThing =
    (bytes : List ℕ) (ended : Bool) (a b : FramingResult)
    → Framing bytes ended a → Framing bytes ended b → a ≡ b
