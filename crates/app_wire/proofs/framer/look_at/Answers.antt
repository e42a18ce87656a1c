use Rattle.std.proofs.Common.{◌≡◌, ℕ, inl, inr, List, refl, sym, ◌∙◌, arith}
use Rattle.httparse.specs.Grammar.{RequestHead}
use Rattle.app_wire.specs.Head.{method_named, target_path}
use Rattle.app_wire.specs.Framing.{Announces, Asked, request_of}
use Rattle.app_wire.specs.declared.body.BodyLength.TheVariants.{Bytes}
use Rattle.app_wire.specs.declared.head.Method.{Method}
use Rattle.app_wire.proofs.Blanks.{open_short}
use Rattle.app_wire.proofs.framer.look_at.Goals as goal

asked_is : (method : Method) (path body : List ℕ) (h : RequestHead) → method ≡ method_named h.method → path ≡ target_path h.target
    → ◌≡◌ {A = Asked} (record { method = method; path = path; body = body }) (request_of h body)
asked_is method path body h e f = rw (e, f) refl

pub returns-then-bytes-start : goal.returns-then-bytes-start
returns-then-bytes-start c =
    let found = c.in-Whole-default-default-Bytes in
    let head : Announces c.args.bytes.now (Bytes found.size) =
    record { start = c.in-Some.start; front = c.in-Some.ensures; head = found.ensures.0; is = found.ensures.1; body_is = sym found.ensures.2 ∙ found.field-2-is } in
    inr (refl, inr (record { size = found.size; head = head; short = omega (arith, c.if-bytes-start.true) }))

pub returns-else-bytes-start : goal.returns-else-bytes-start
returns-else-bytes-start c =
    let found = c.in-Whole-default-default-Bytes in
    let head : Announces c.args.bytes.now (Bytes found.size) =
    record { start = c.in-Some.start; front = c.in-Some.ensures; head = found.ensures.0; is = found.ensures.1; body_is = sym found.ensures.2 ∙ found.field-2-is } in
    record {
      size = found.size;
      head = head;
      len_is = refl;
      within = omega (arith, c.if-bytes-start.false, c.in-Some.ensures.within);
      same = asked_is found.method found.path.now _ found.ensures.0 found.ensures.3 found.ensures.4;
    }

pub returns-then-bytes-lt-HEAD_ROOM : goal.returns-then-bytes-lt-HEAD_ROOM
returns-then-bytes-lt-HEAD_ROOM c = open_short c.args.bytes.now c.if-bytes-lt-HEAD_ROOM.true c.in-None.ensures

pub returns-else-bytes-lt-HEAD_ROOM : goal.returns-else-bytes-lt-HEAD_ROOM
returns-else-bytes-lt-HEAD_ROOM c = inr (inl (refl, record { long = c.if-bytes-lt-HEAD_ROOM.false; none = λ k le. c.in-None.ensures k (omega arith) }))
