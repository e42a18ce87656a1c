use Rattle.std.proofs.Common.{◌≡◌, ◌≤◌, length, take, refl, ap, sym, ◌∙◌, false, true, arith}
use Rattle.std.proofs.lemmas.List.{length-take}
use Rattle.fx_base.proofs.Chains.{then_told}
use Rattle.app_wire.specs.NextRequest.{FindsNext, Keeps}
use Rattle.app_wire.specs.declared.next.Found.TheVariants.{Quiet, Refused}
use Rattle.app_wire.proofs.Nexts.{found_code, found_cut, found_next, found_quiet, keeps_as, keeps_none, none_little, after_read, little_after, still_open}
use Rattle.app_wire.proofs.next.next_request.Goals as goal

pub returns-in-Some-clause-found : goal.returns-in-Some-clause-found
returns-in-Some-clause-found g c a e =
    (a, e, found_next c.more.result c.in-Some.found c.args.framer.now c.more.new.self c.more.ensures.fed (sym c.found_of.ensures ∙ c.in-Some.is) c.more.ensures.some c.args.framer.now a a (keeps_none c.args.framer.now a) (none_little c.args.framer.now))

pub returns-in-Some-found_of-clause-found : goal.returns-in-Some-found_of-clause-found
returns-in-Some-found_of-clause-found g c =
    let short : length (take c.in-Ok.n c.read.new.room) ≤ 512 = omega (arith, length-take c.in-Ok.n c.read.new.room, c.read.auto.room) in
    then_told (Keeps c.args.framer.now c.reading.framer) _ (FindsNext c.in-Some-found_of.found c.args.framer.now c.feed.new.self)
    (λ x y z k r.
    found_next c.feed.result c.in-Some-found_of.found _ c.feed.new.self c.feed.ensures.fed (sym c.found_of-in-Ok.ensures ∙ c.in-Some-found_of.is) c.feed.ensures.some c.args.framer.now x z
    (after_read c.args.framer.now c.reading.framer _ _ x y z k r)
    (little_after c.args.framer.now c.reading.framer _ x y k c.reading.invariant.holds short))
    _ _ _ c.reading.invariant.keeps c.in-Ok.ensures.ok

pub returns-in-Some-clause-code : goal.returns-in-Some-clause-code
returns-in-Some-clause-code g c = found_code c.more.result c.in-Some.found c.args.framer.now c.more.new.self c.more.ensures.fed (sym c.found_of.ensures ∙ c.in-Some.is)

pub returns-in-Some-found_of-clause-code : goal.returns-in-Some-found_of-clause-code
returns-in-Some-found_of-clause-code g c = found_code c.feed.result c.in-Some-found_of.found _ c.feed.new.self c.feed.ensures.fed (sym c.found_of-in-Ok.ensures ∙ c.in-Some-found_of.is)

pub reading-init : goal.reading-init
reading-init g c =
    let s = still_open c.more.result c.args.framer.now c.more.new.self c.more.ensures.fed (sym c.found_of.ensures ∙ c.in_default.is) in
    record {
      keeps = λ a e. (a, e, keeps_as c.args.framer.now c.args.framer.now c.more.new.self a a s.1 (keeps_none c.args.framer.now a));
      holds = s.0;
      single = refl;
      later = omega arith;
    }

pub reading-preserved : goal.reading-preserved
reading-preserved g c =
    let s = still_open c.feed.result _ c.feed.new.self c.feed.ensures.fed (sym c.found_of-in-Ok.ensures ∙ c.in_default-found_of.is) in
    record {
      keeps = then_told (Keeps c.args.framer.now c.reading.framer) _ (Keeps c.args.framer.now c.feed.new.self)
          (λ x y z k r. keeps_as c.args.framer.now _ c.feed.new.self x z s.1 (after_read c.args.framer.now c.reading.framer _ _ x y z k r)) _ _ _ c.reading.invariant.keeps c.in-Ok.ensures.ok;
      holds = s.0;
      single = c.in-Ok.ensures.single ∙ c.reading.invariant.single;
      later = omega (arith, c.reading.invariant.later, c.in-Ok.ensures.cause.later);
    }

pub returns-then-finish-clause-found : goal.returns-then-finish-clause-found
returns-then-finish-clause-found g c =
    then_told (Keeps c.args.framer.now c.reading.framer) _ (FindsNext (Refused 6) c.args.framer.now c.reading.framer)
    (found_cut c.args.framer.now c.reading.framer _ (length c.reading.room) (ap (λ n. take n c.read.new.room) c.in-Ok-eq0.field-0-test) c.reading.invariant.holds (c.finish.ensures.0 c.if-finish.true) (omega (arith, c.read.auto.room)))
    _ _ _ c.reading.invariant.keeps c.in-Ok-eq0.ensures.ok

pub returns-else-finish-clause-found : goal.returns-else-finish-clause-found
returns-else-finish-clause-found g c =
    then_told (Keeps c.args.framer.now c.reading.framer) _ (FindsNext Quiet c.args.framer.now c.reading.framer)
    (found_quiet c.args.framer.now c.reading.framer _ (length c.reading.room) (ap (λ n. take n c.read.new.room) c.in-Ok-eq0.field-0-test) c.reading.invariant.holds
    (λ h. let no : false ≡ true = sym c.if-finish.false ∙ c.finish.ensures.1 h in cc) (omega (arith, c.read.auto.room)))
    _ _ _ c.reading.invariant.keeps c.in-Ok-eq0.ensures.ok
