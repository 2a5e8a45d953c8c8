use Rattle.std.proofs.Common.{◌≡◌, ◌≤◌, ◌+◌, length, sym, subst, ap, ◌∙◌, arith, ℕ}
use Rattle.std.proofs.lemmas.Result.{err_from_is_err_and}
use Rattle.kp_lex.specs.Places.{place_of}
use Rattle.kp_base.specs.declared.refused.Part.TheVariants as parts
use Rattle.kp_tree_cursor.specs.Lexemes.{from}
use Rattle.kp_plans.specs.Steps.{Ascends}
use Rattle.kp_plans.proofs.StepsRead.{head_stands, first_byte, made_of, one_more, fails, all_read, more_left}
use Rattle.kp_plans.proofs.reading.steps.Goals as goal

-- no step stands there
pub returns-in_err-words : goal.returns-in_err-words
returns-in_err-words c =
    let p = err_from_is_err_and c.from_residual.result c.from_residual.ensures.1 in
    rw (p.1, p.2) (fails c.args.bytes.now c.steps.steps c.args.tokens.now c.steps.at c.in_err-words.field-0.0 c.steps-test.ensures.test c.in_err-words.ensures.stopped c.steps.invariant.so_far)

pub place_behind-known-requires-clause-onward : goal.place_behind-known-requires-clause-onward
place_behind-known-requires-clause-onward c =
    let s = c.in_ok-words.ensures.found in
    let two : c.steps.at + 2 ≤ c.in_ok-words.behind = omega (arith, c.in_ok-words.ensures.onward.0, c.in_ok-words.ensures.onward.1) in
    let h = head_stands c.args.tokens.now c.steps.at c.in_ok-words.words c.steps.known.byte c.in_ok-words.behind (length c.args.bytes.now) s two c.steps.invariant.ascends in
    let byte : c.token.result.byte ≡ s.first.word.byte = first_byte c.in_ok-words.words s.first _ s.others _ s.are c.token.ensures in
    rw byte h.onward

pub place_behind-known-requires-clause-within : goal.place_behind-known-requires-clause-within
place_behind-known-requires-clause-within c =
    let s = c.in_ok-words.ensures.found in
    let two : c.steps.at + 2 ≤ c.in_ok-words.behind = omega (arith, c.in_ok-words.ensures.onward.0, c.in_ok-words.ensures.onward.1) in
    let h = head_stands c.args.tokens.now c.steps.at c.in_ok-words.words c.steps.known.byte c.in_ok-words.behind (length c.args.bytes.now) s two c.steps.invariant.ascends in
    let byte : c.token.result.byte ≡ s.first.word.byte = first_byte c.in_ok-words.words s.first _ s.others _ s.are c.token.ensures in
    rw byte h.within

pub steps-preserved : goal.steps-preserved
steps-preserved c =
    let s = c.in_ok-words.ensures.found in
    let two : c.steps.at + 2 ≤ c.in_ok-words.behind = omega (arith, c.in_ok-words.ensures.onward.0, c.in_ok-words.ensures.onward.1) in
    let h = head_stands c.args.tokens.now c.steps.at c.in_ok-words.words c.steps.known.byte c.in_ok-words.behind (length c.args.bytes.now) s two c.steps.invariant.ascends in
    let place : c.place_behind-known.result ≡ place_of parts.Plan c.args.bytes.now s.first.word.byte = c.place_behind-known.ensures ∙ ap (place_of parts.Plan c.args.bytes.now) (first_byte c.in_ok-words.words s.first _ s.others _ s.are c.token.ensures) in
    let byte : c.place_behind-known.result.byte ≡ s.first.word.byte = ap (λ (p : _). p.byte) place in
    record {
      within = c.in_ok-words.ensures.onward.2;
      place = place ∙ ap (place_of parts.Plan c.args.bytes.now) (sym byte);
      ascends = subst (λ (n : ℕ). Ascends n (from c.args.tokens.now c.in_ok-words.behind) (length c.args.bytes.now)) (sym byte) h.ascends;
      so_far = one_more c.args.bytes.now _ _ c.args.tokens.now c.steps.at c.in_ok-words.words c.in_ok-words.behind _ _ s c.steps-test.ensures.test c.in_ok-push.ensures.ok
          (made_of c.args.bytes.now c.in_ok-words.words s.first s.others c.in_ok-name.name _ s.are c.in_ok-name.ensures place) c.steps.invariant.so_far;
    }

-- no token is left
pub returns-in-None : goal.returns-in-None
returns-in-None c = all_read c.args.bytes.now _ _ _ c.in-None.ensures.none c.steps.invariant.so_far

-- a token is left
pub returns-in-Some : goal.returns-in-Some
returns-in-Some c = more_left c.args.bytes.now _ _ _ _ _ c.in-Some.ensures.found c.steps-test.ensures.test c.steps.invariant.so_far
