-- Tags and merges: where they are refused first, and walks over them.
use Rattle.std.proofs.Common.{◌≡◌, ℕ, suc, true, false, List, [], ◌∷◌, refl, arith}
use Rattle.std.specs.List.{AllZip}
use Rattle.kp_base.specs.declared.lit.Lit.{Lit as Literal}
use Rattle.kp_tree_grammar.specs.declared.tree.Word.{Word}
use Rattle.kp_tree_grammar.specs.Language.{Lit, Tok, first_is, is_left, is_right, is_head, is_merge, hits, many, lit, stop, Reads, r_both, r_after, r_end, r_more, r_bracket, s_before, s_unopened, s_inside, s_unclosed}
use Rattle.kp_tags_files.specs.declared.merge.FileMerge.{FileMerge}
use Rattle.kp_tags_files.specs.Grammar.{MergeTree, tag, merge_body, merge}
use Rattle.kp_tags_files.specs.Numbers.{Numbers, IsLit, IsTag, IsMerge}
use Rattle.kp_tags_files.specs.Parts.{Walk, arrived, word, closes, opens, opens_inside, Halts, stopped}
use Rattle.kp_tags_files.proofs.Walks.{follows, is_word, no_head, left_is_no_head, right_is_no_head}
use Rattle.kp_tags_files.proofs.Contexts.{halts_inside, halts_unclosed, halts_after, halts_first, halts_second, begins_one, walk_many}
use Rattle.kp_tags_files.proofs.Lits.{walk_lit}

left_no_head : (ts : List (Tok Word)) → first_is is_left ts ≡ true → first_is is_head ts ≡ false
left_no_head [] e = refl
left_no_head (t ∷ ts) e = left_is_no_head t.symbol e

-- behind the bracket of a tag no head stands
tag_no_head : {u : Tok Word} {ts rest : List (Tok Word)} {ls : List (Lit Word)} → Reads (many is_left lit) ts ls (u ∷ rest) → is_right u.symbol ≡ true → first_is is_head ts ≡ false
tag_no_head {u = u} (r_end e) right = right_is_no_head u.symbol right
tag_no_head (r_more {ts = ts} l g h) right = left_no_head ts l

module _ {number : Numbers} {d : ℕ} where
  over_left : {t : Tok Word} {ts : List (Tok Word)} → is_left t.symbol ≡ true → first_is is_head ts ≡ false → Walk number (suc d) (t ∷ ts) (suc (suc d)) ts
  over_left left f = opens_inside left (λ a rest h none. no_head f h) arrived

  walk_lits : {ls : List (Lit Word)} {ts rest : List (Tok Word)} (xs : List Literal) → AllZip (IsLit number) ls xs → Reads (many is_left lit) ts ls rest → Walk number (suc d) ts (suc d) rest
  walk_lits xs are h = walk_many (IsLit number) (suc d) (λ l x ts rest is h. walk_lit x is h) xs are h

module _ {number : Numbers} {d : ℕ} where
  pub tag_unopened : {ts : List (Tok Word)} → first_is is_left ts ≡ false → Halts number (suc d) tag ts ts
  tag_unopened {ts = ts} e = stopped {at = stop ts} (s_unopened e) arrived (omega arith)

  pub tag_halts : {t : Tok Word} {ts here : List (Tok Word)} → is_left t.symbol ≡ true → Halts number (suc (suc d)) (many is_left lit) ts here → Halts number (suc d) tag (t ∷ ts) here
  tag_halts {ts = ts} left h = halts_inside left (over_left left (left_no_head ts (begins_one h))) h

  pub tag_unclosed : {t : Tok Word} {ts rest : List (Tok Word)} {ls : List (Lit Word)} (xs : List Literal) → is_left t.symbol ≡ true → AllZip (IsLit number) ls xs → Reads (many is_left lit) ts ls rest → first_is is_right rest ≡ false → Halts number (suc d) tag (t ∷ ts) rest
  tag_unclosed {rest = rest} xs left are (r_end e) f = stopped {at = stop rest} (s_unclosed left (r_end e) f) arrived (omega arith)
  tag_unclosed xs left are (r_more {ts = ts} l g h) f = halts_unclosed left (r_more l g h) f (follows (over_left left (left_no_head ts l)) (walk_lits xs are (r_more l g h)))

  pub walk_tag : {ts rest : List (Tok Word)} {ls : List (Lit Word)} (x : List Literal) → IsTag number ls x → Reads tag ts ls rest → Walk number (suc d) ts (suc d) rest
  walk_tag x is (r_bracket left h right) = follows (over_left left (tag_no_head h right)) (follows (walk_lits is.lits is.are h) (closes right arrived))

  pub walk_tags : {ls : List (List (Lit Word))} {ts rest : List (Tok Word)} (xs : List (List Literal)) → AllZip (IsTag number) ls xs → Reads (many is_left tag) ts ls rest → Walk number (suc d) ts (suc d) rest
  walk_tags xs are h = walk_many (IsTag number) (suc d) (λ l x ts rest is h. walk_tag x is h) xs are h

-- ---- merges

module _ {number : Numbers} where
  pub merge_unopened : {ts : List (Tok Word)} → first_is is_left ts ≡ false → Halts number 0 merge ts ts
  merge_unopened {ts = ts} e = stopped {at = stop ts} (s_unopened e) arrived (omega arith)

  pub merge_unled : {t : Tok Word} {ts : List (Tok Word)} → is_left t.symbol ≡ true → first_is (hits is_merge) ts ≡ false → Halts number 0 merge (t ∷ ts) ts
  merge_unled {ts = ts} left f = stopped {at = stop ts} (s_inside left (s_before f)) (opens left arrived) (omega arith)

  over_word : {m : Tok Word} {ts : List (Tok Word)} → hits is_merge m.symbol ≡ true → Walk number 1 (m ∷ ts) 1 ts
  over_word {m = m} hit = let w = is_word is_merge m.symbol hit in word w.0 w.1 arrived

  walk_body : {ts rest : List (Tok Word)} {tree : MergeTree} (x : FileMerge) → IsMerge number tree x → Reads merge_body ts tree rest → Walk number 1 ts 1 rest
  walk_body x is (r_both g h) = follows (walk_lit x.target is.target g) (walk_tags x.tags is.tags h)

  -- the target is refused
  pub target_halts : {ts here : List (Tok Word)} → Halts number 1 lit ts here → Halts number 1 merge_body ts here
  target_halts h = halts_first h

  -- a tag is refused
  pub tags_halt : {l : Lit Word} {ts mid here : List (Tok Word)} (x : Literal) → IsLit number l x → Reads lit ts l mid → Halts number 1 (many is_left tag) mid here → Halts number 1 merge_body ts here
  tags_halt x is g h = halts_second g (walk_lit x is g) h

  module _ {t m : Tok Word} {ts : List (Tok Word)} (left : is_left t.symbol ≡ true) (hit : hits is_merge m.symbol ≡ true) where
    pub body_halts : {here : List (Tok Word)} → Halts number 1 merge_body ts here → Halts number 0 merge (t ∷ m ∷ ts) here
    body_halts h = halts_inside left (opens left arrived) (halts_after hit (over_word hit) h)

    pub merge_unclosed : {tree : MergeTree} {rest : List (Tok Word)} (x : FileMerge) → IsMerge number tree x → Reads merge_body ts tree rest → first_is is_right rest ≡ false → Halts number 0 merge (t ∷ m ∷ ts) rest
    merge_unclosed x is h f = halts_unclosed left (r_after hit h) f (follows (opens left arrived) (follows (over_word hit) (walk_body x is h)))

  pub walk_merge : {ts rest : List (Tok Word)} {tree : MergeTree} (x : FileMerge) → IsMerge number tree x → Reads merge ts tree rest → Walk number 0 ts 0 rest
  walk_merge x is (r_bracket left (r_after hit h) right) = follows (opens left arrived) (follows (over_word hit) (follows (walk_body x is h) (closes right arrived)))

  pub walk_merges : {trees : List MergeTree} {ts rest : List (Tok Word)} (xs : List FileMerge) → AllZip (IsMerge number) trees xs → Reads (many is_left merge) ts trees rest → Walk number 0 ts 0 rest
  walk_merges xs are h = walk_many (IsMerge number) 0 (λ tree x ts rest is h. walk_merge x is h) xs are h
