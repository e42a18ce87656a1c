use Rattle.std.proofs.Common.{◌≡◌, ℕ, List, refl, sym, ap, ◌∙◌, arith}
use Rattle.std.specs.Fmt.{digits}
use Rattle.std.proofs.lemmas.Bool.Decides.{nat_tests}
use Rattle.app_wire.specs.ReplyBytes.{refusal, reply}
use Rattle.app_wire.proofs.reply.fixed_reply.Goals as goal

of_code : (code known : ℕ) (bytes : List ℕ) → bytes ≡ refusal known → code ≡ known → bytes ≡ refusal code
of_code code known bytes h e = h ∙ ap refusal (sym e)

pub returns-in-1 : goal.returns-in-1
unfolding refusal reply digits
returns-in-1 c = of_code c.args.code 1 _ refl c.in-1.is

pub returns-in-2 : goal.returns-in-2
unfolding refusal reply digits
returns-in-2 c = of_code c.args.code 2 _ refl c.in-2.is

pub returns-in-3 : goal.returns-in-3
unfolding refusal reply digits
returns-in-3 c = of_code c.args.code 3 _ refl c.in-3.is

pub returns-in-4 : goal.returns-in-4
unfolding refusal reply digits
returns-in-4 c = of_code c.args.code 4 _ refl c.in-4.is

pub returns-in-5 : goal.returns-in-5
unfolding refusal reply digits
returns-in-5 c = of_code c.args.code 5 _ refl c.in-5.is

pub returns-in-6 : goal.returns-in-6
unfolding refusal reply digits
returns-in-6 c = of_code c.args.code 6 _ refl c.in-6.is

pub returns-in-7 : goal.returns-in-7
unfolding refusal reply digits
returns-in-7 c = of_code c.args.code 7 _ refl c.in-7.is

pub returns-in-8 : goal.returns-in-8
unfolding refusal reply digits
returns-in-8 c = of_code c.args.code 8 _ refl c.in-8.is

pub returns-in-25 : goal.returns-in-25
unfolding refusal reply digits
returns-in-25 c = of_code c.args.code 25 _ refl c.in-25.is

pub returns-in_default : goal.returns-in_default
unfolding refusal reply digits
returns-in_default c = let last : c.args.code ≡ 26 = grind (arith, nat_tests) in of_code c.args.code 26 _ refl last
