use Rattle.std.proofs.Common.{arith}
use Rattle.kp_words.proofs.Numbers.{says_none}
use Rattle.kp_words.proofs.values.number_within.Goals as goal

-- the number is out of the range
pub returns-then-not-is_within : goal.returns-then-not-is_within
returns-then-not-is_within c n within e =
    says_none c.args.least c.args.most c.in_ok-number.number n c.args.word.now (omega arith) (omega arith) c.in_ok-number.ensures (λ is. absurd (cc (c.is_within.ensures.1 is, c.if-not-is_within.true))) within e
