-- What the head of a request says, by RFC 9112.
use Rattle.std.specs.Prelude.{◌≡◌, ℕ, ◌≤◌, ◌==◌, List, [], length, map, take, position, unwrap_or}
use Rattle.std.specs.Prelude.{codes, if◌then◌else◌, bytes_eq}
use Rattle.httparse.specs.Grammar.{RequestHead, ReadsRequest}
use Rattle.httparse.specs.Spans.{name_and_value}
use Rattle.app_wire.specs.Bodies.{body_length}
use Rattle.app_wire.specs.declared.body.BodyLength.{BodyLength}
use Rattle.app_wire.specs.declared.head.Method.{Method}
use Rattle.app_wire.specs.declared.head.Method.TheVariants.{Get, Put, Post, Delete, Other}
use Rattle.app_wire.specs.declared.head.Head.{Head}
use Rattle.app_wire.specs.declared.head.Head.TheVariants.{Bad, Whole}

-- the bytes are a request head with at most 64 fields, and nothing more
pub record IsHead (front : List ℕ) (h : RequestHead) : Type 0 where
  pub reads : ReadsRequest front h []
  pub few : length h.fields ≤ 64

-- what its fields say of its body
abbrev pub length_of_body : RequestHead → BodyLength
length_of_body h = body_length (map name_and_value h.fields)

-- the method of this name
abbrev pub method_named : List ℕ → Method
method_named name =
    if bytes_eq name (codes "GET") then Get
    else (if bytes_eq name (codes "PUT") then Put
    else (if bytes_eq name (codes "POST") then Post
    else (if bytes_eq name (codes "DELETE") then Delete
    else Other)))

-- the target up to its first question mark
abbrev pub target_path : List ℕ → List ℕ
target_path target = take (unwrap_or (position (λ b. b == 63) target) (length target)) target

-- what was read of a front
abbrev pub HeadReads : List ℕ → Head → Type 0
HeadReads front Bad = (h : RequestHead) → IsHead front h → ⊥
HeadReads front (Whole method path body) =
    (h : RequestHead) × IsHead front h × (body ≡ length_of_body h)
    × (method ≡ method_named h.method) × (path.now ≡ target_path h.target)
