use Rattle.std.proofs.Common.{◌<◌, ◌≤◌, ◌%◌, ℕ, subst, arith}
use Rattle.std.proofs.lemmas.Nat.Bits.{bit_at-zero}
use Rattle.kp_clash_exclusive.proofs.Marked.{word_below, in_word, past_rows, past_words}
use Rattle.kp_clash_exclusive.proofs.pairs.Pairs.row_word.Goals as goal
use Rattle.kp_clash_exclusive.proofs.pairs.Pairs.row_word.Goals.{else-p-self-via-then-p-self+else-k-words, else-p-self-via-else-p-self}

pub overflow_add-p : goal.overflow_add-p
overflow_add-p c =
    let words = c.words_of-words.ensures in
    let below = word_below c.self.inside.atoms c.args.p.0 c.args.k c.if-p-self.true (subst (λ (n : ℕ). c.args.k < n) words c.if-k-words.true) in
    rw words (omega (arith, below, c.self.invariant.counted))

pub returns-then-k-words : goal.returns-then-k-words
returns-then-k-words c = rw (← c.self.view_is) (λ q e.
    let words = c.words_of-words.ensures in
    let read = rw words at (c.word.ensures (q % 64) (omega arith)) in
    let pair = in_word c.self.inside.atoms c.self.inside.table c.self.invariant c.args.p.0 c.args.k q c.if-p-self.true (subst (λ (n : ℕ). c.args.k < n) words c.if-k-words.true) e in
    (λ h. pair.0 (read.0 h), λ h. read.1 (pair.1 h)))

-- there are no pairs here
pub returns-else-p-self : goal.returns-else-p-self
returns-else-p-self c = rw (← c.self.view_is) (λ q e. (
  λ h. absurd (let z = bit_at-zero (q % 64) in omega (arith, z, h)),
  λ h. absurd (elim c.else-p-self.branch [
    | else-p-self-via-then-p-self+else-k-words w ↦ past_words c.self.inside.atoms c.self.inside.table c.self.invariant c.args.p.0 c.args.k q (subst (λ (n : ℕ). n ≤ c.args.k) c.words_of-words.ensures w.if-k-words.false) e h
    | else-p-self-via-else-p-self w ↦ past_rows c.self.inside.atoms c.self.inside.table c.self.invariant c.args.p.0 q w.if-p-self.false h
  ]),
))
