use Rattle.std.proofs.Common.{◌≡◌, ℕ, ◌+◌, ◌≤◌, Option, length, drop, length-drop, sym, ap, ◌∙◌, arith}
use Rattle.std.proofs.lemmas.List.{drop-drop, drop_all}
use Rattle.kp_lex.specs.Pieces.{piece_of}
use Rattle.kp_lex.specs.declared.token.Token.{Token}
use Rattle.kp_lex.specs.Cutting.{spanned}
use Rattle.kp_lex.specs.Levels.{levels_left}
use Rattle.kp_lex.specs.Scanning.{cut}
use Rattle.kp_lex.proofs.Scan.{skip_on, token_on, bad_on, done_on}
use Rattle.kp_lex.proofs.Begun.{later, Goes, keeps, passes, same_goes}
use Rattle.kp_lex.proofs.cutting.cut_up_to.Goals as goal
use Rattle.kp_lex.proofs.cutting.cut_up_to.Goals.{in-Some+in_ok-push-in-Token, in_default}

pub pieces-preserved-in-Skip : goal.pieces-preserved-in-Skip
pieces-preserved-in-Skip c =
    let left : length (drop c.pieces.at c.args.bytes.now) + c.pieces.at ≡ length c.args.bytes.now = omega (arith, length-drop c.pieces.at c.args.bytes.now) in
    let s = c.pieces.invariant.so_far in
    record {
      within = omega (arith, c.in-Skip.ensures.within.1, ap length c.tail.ensures);
      ends = c.pieces.invariant.ends;
      few = later c.pieces.left c.args.levels c.pieces.at c.in-Skip.n c.pieces.invariant.few;
      so_far = (s.0, (s.1.0, skip_on _ _ _ _ _ _ (omega arith) (c.in-Skip.ensures.value ∙ ap piece_of c.tail.ensures) (sym (drop-drop c.in-Skip.n c.pieces.at c.args.bytes.now)) s.1.1));
    }

pub pieces-preserved : goal.pieces-preserved
pieces-preserved c =
    let left : length (drop c.pieces.at c.args.bytes.now) + c.pieces.at ≡ length c.args.bytes.now = omega (arith, length-drop c.pieces.at c.args.bytes.now) in
    let within : c.pieces.at + c.in-Token.n ≤ length c.args.bytes.now = omega (arith, c.in-Token.ensures.within.1, ap length c.tail.ensures) in
    let s = c.pieces.invariant.so_far in
    let on = token_on s.0 c.in-Token.kind c.pieces.at c.in-Token.n _ _ _ (omega arith) (c.in-Token.ensures.value ∙ ap piece_of c.tail.ensures) (sym (drop-drop c.in-Token.n c.pieces.at c.args.bytes.now)) s.1.1 in
    let t : Token = spanned c.in-Token.kind c.pieces.at c.in-Token.n in
    let rest = cut (c.pieces.at + c.in-Token.n) (drop (c.pieces.at + c.in-Token.n) c.args.bytes.now) in
    let moved : Goes c.args.levels (length c.args.bytes.now) (c.pieces.at + c.in-Token.n) rest (cut 0 c.args.bytes.now) c.match-left.tokens c.match-left.left c.match-left.to =
    elim c.match-left.branch [
      | in-Some+in_ok-push-in-Token w ↦
          same_goes (w.tokens-is ∙ (rw w.spanned.ensures at w.in_ok-push-in-Token.ensures.ok)) (w.left-is ∙ w.behind-left.ensures)
          (w.to-is ∙ w.end-to.ensures ∙ ap (λ (o : Option ℕ). levels_left o (c.pieces.at + c.in-Token.n) (λ (m : ℕ). c.pieces.to)) w.behind-left.ensures)
          (keeps c.args.levels (length c.args.bytes.now) c.pieces.at c.in-Token.n rest (cut 0 c.args.bytes.now) c.pieces.tokens c.pieces.left c.pieces.to s.0 t s.1.0 on c.pieces.invariant.few c.pieces.invariant.ends w.in-Some.open w.in-Some.is c.in-Token.ensures.within.0 within)
      | in_default w ↦
          same_goes w.tokens-is w.left-is w.to-is
          (passes c.args.levels (length c.args.bytes.now) c.pieces.at c.in-Token.n rest (cut 0 c.args.bytes.now) c.pieces.tokens c.pieces.left c.pieces.to s.0 t s.1.0 on c.pieces.invariant.few c.pieces.invariant.ends w.in_default.is)
    ] in
    record { within = within; ends = moved.ends; few = moved.few; so_far = moved.so_far }

pub returns-in-Bad : goal.returns-in-Bad
returns-in-Bad c = let s = c.pieces.invariant.so_far in (c.pieces.at, (bad_on _ _ _ _ (omega (arith, length-drop c.pieces.at c.args.bytes.now)) (c.in-Bad.ensures.value ∙ ap piece_of c.tail.ensures) s.1.1, c.place.ensures))

pub returns : goal.returns
returns c =
    let s = c.pieces.invariant.so_far in
    record {
      whole = s.0;
      all = done_on _ _ _ _ (drop_all c.pieces.at c.args.bytes.now c.pieces-test.false) s.1.1;
      kept = s.1.0.kept;
      end = s.1.0.ends;
      within = c.pieces.invariant.ends;
    }
