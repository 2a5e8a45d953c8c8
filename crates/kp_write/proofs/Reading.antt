-- The words of the written files read as their trees.
use Rattle.std.proofs.Common.{cond as if_then, append-nil, ap, subst, ◌≡◌, ℕ, Bool, true, false, List, [], ◌∷◌, map, refl}
use Rattle.std.specs.List.{AllByRecursion, flat_map}
use Rattle.kp_lex.specs.declared.token.TokenKind.TheVariants as kinds
use Rattle.kp_tree_grammar.specs.declared.symbol.Symbol.{Symbol}
use Rattle.kp_tree_grammar.specs.declared.symbol.Symbol.TheVariants as symbols
use Rattle.kp_tree_grammar.specs.Language.{Cond, Eff, Item, Schema, Domain, Problem, Section, section_types, section_constants, section_predicates, section_schemas, Given, conds_of, Tok, first_is, is_left, is_head, is_name, is_precondition, not_cond, not_goal, not_effect, not_item, Sort, El, apply, m_true, m_holds, m_makes, m_fact, m_domain, hits, Form, refuse, many, make, maybe, ◌▸◌, atom_body, fact_body, test_case, cond_case, cond, goal_case, goal as goal_form, eff_case, eff, item_case, item, pred, section, domain, problem, Reads, ReadsWhole, r_token, r_none, r_both, r_after, r_end, r_more, r_last, r_next, r_absent, r_present, r_make, r_choice, r_loose, r_bracket, r_within, IsHead}
use Rattle.kp_tree_grammar.specs.Symbols.{symbol_of}
use Rattle.kp_tree_grammar.proofs.Public.{name_passes}
use Rattle.kp_law_texts.specs.Pieces.{Piece, right, Put, each, line_feed, name, spaced}
use Rattle.kp_write.specs.Operators.{Signed, Op}
use Rattle.kp_write.specs.Written.{fact, fact_line, signed_case, signed, conjunction, guarded, effect_line, precondition, op, domain_pieces, problem_pieces}
use Rattle.kp_law_texts.specs.Tokens.{words}
use Rattle.kp_write.specs.Names.{IsSigned, IsEffect, IsOp, AreHeads, AreOps}
use Rattle.kp_write.specs.Trees.{atom_of, fact_holds, signed_holds, all_facts, made_where, effect_of, schema_of, predicate_of, item_of, written_domain, written_problem}
use Rattle.kp_law_texts.proofs.Public.{◌$◌, PiecesGive, many_pieces_read}

-- the form that a test picks, where it passes
picked : {b : Bool} {c : Sort} (v : Bool) (X Y : Form b c) {ts rest : List (Tok (List ℕ))} {x : El (List ℕ) c} → v ≡ true → Reads X ts x rest → Reads (if_then v X Y) ts x rest
picked true X Y e h = h
picked false X Y e h = absurd cc

-- ---- atoms and conditions

head_hits : (s : Symbol) → is_head s ≡ true → hits is_head s ≡ true
head_hits symbols.Left e = absurd cc
head_hits symbols.Right e = absurd cc
head_hits _ e = e

atom_reads : (n : List ℕ) (rest : List Piece) → IsHead n → Reads atom_body (words (name n (right ∷ rest))) (atom_of n) (words (right ∷ rest))
atom_reads n rest h = r_make (r_both (r_token (head_hits (symbol_of kinds.Name n) h.head)) (r_end refl))

ground_reads : (n : List ℕ) (rest : List Piece) → IsHead n → Reads fact_body (words (name n (right ∷ rest))) (atom_of n) (words (right ∷ rest))
ground_reads n rest h = r_make (r_both (r_token (head_hits (symbol_of kinds.Name n) h.head)) (r_end refl))

pick_test : (b : Bool) (s : Symbol) {ts rest : List (Tok (List ℕ))} {x : Cond (List ℕ)} → is_head s ≡ true → Reads (make (m_holds b) atom_body) ts x rest → Reads (test_case b s) ts x rest
pick_test b symbols.Equal e r = absurd cc
pick_test b s e r = picked (is_head s) (make (m_holds b) atom_body) (refuse not_cond) e r

pick_cond : (s : Symbol) {ts rest : List (Tok (List ℕ))} {x : Cond (List ℕ)} → is_head s ≡ true → Reads (make (m_holds true) atom_body) ts x rest → Reads (cond_case s) ts x rest
pick_cond symbols.Right e r = absurd cc
pick_cond symbols.And e r = absurd cc
pick_cond symbols.Not e r = absurd cc
pick_cond s e r = r_loose (pick_test true s e r)

fact_reads : (n : List ℕ) → IsHead n → PiecesGive cond (fact n) (fact_holds n)
fact_reads n h rest = r_within $ r_bracket refl (r_choice (pick_cond (symbol_of kinds.Name n) h.head (r_make (atom_reads n rest h)))) refl

signed_case_reads : (b : Bool) (n : List ℕ) → IsHead n → PiecesGive cond (signed_case b n) (Cond.atom b (atom_of n))
unfolding symbol_of
signed_case_reads true n h rest = fact_reads n h rest
signed_case_reads false n h rest = r_within $ r_bracket refl (r_choice $ r_loose $ r_after refl $ r_bracket refl (r_choice (pick_test false (symbol_of kinds.Name n) h.head (r_make (atom_reads n (right ∷ rest) h)))) refl) refl

signed_reads : (s : Signed) → IsSigned s → PiecesGive cond (signed s) (signed_holds s)
signed_reads s h rest = signed_case_reads s.holds s.fact h rest

signed_starts : (b : Bool) (n : List ℕ) (rest : List Piece) → first_is is_left (words (signed_case b n rest)) ≡ true
signed_starts true n rest = refl
signed_starts false n rest = refl

conjunction_reads : {T : Type 0} (f : T → Put) (tree : T → Cond (List ℕ)) (P : T → Type 0)
    → ((x : T) → P x → PiecesGive cond (f x) (tree x)) → ((x : T) (rest : List Piece) → first_is is_left (words (f x rest)) ≡ true)
    → (xs : List T) → AllByRecursion P xs → PiecesGive cond (conjunction f xs) (Cond.all (conds_of (map tree xs)))
unfolding symbol_of
conjunction_reads f tree P reads begun xs every rest =
    r_within $ r_bracket refl (r_choice $ r_loose $ r_after refl $ r_make $ many_pieces_read is_left cond (spaced f) tree P reads begun xs (right ∷ rest) every refl) refl

-- ---- effects

pick_eff : (s : Symbol) {ts rest : List (Tok (List ℕ))} {x : Eff (List ℕ)} → is_head s ≡ true → Reads (make (m_makes true) atom_body) ts x rest → Reads (eff_case s) ts x rest
pick_eff symbols.Right e r = absurd cc
pick_eff symbols.And e r = absurd cc
pick_eff symbols.When e r = absurd cc
pick_eff symbols.Forall e r = absurd cc
pick_eff symbols.Not e r = absurd cc
pick_eff s e r = r_loose (picked (is_head s) (make (m_makes true) atom_body) (refuse not_effect) e r)

result_reads : (b : Bool) (n : List ℕ) → IsHead n → PiecesGive eff (signed_case b n) (Eff.makes b (atom_of n))
unfolding symbol_of
result_reads true n h rest = r_within $ r_bracket refl (r_choice (pick_eff (symbol_of kinds.Name n) h.head (r_make (atom_reads n rest h)))) refl
result_reads false n h rest = r_within $ r_bracket refl (r_choice $ r_loose $ r_after refl $ r_make $ r_bracket refl (atom_reads n (right ∷ rest) h) refl) refl

guarded_reads : (cs : List Signed) (s : Signed) → AllByRecursion IsSigned cs → IsSigned s → PiecesGive eff (guarded cs s) (made_where cs s)
unfolding symbol_of
guarded_reads [] s every h rest = result_reads s.holds s.fact h rest
guarded_reads (c ∷ cs) s every h rest =
    r_within $ r_bracket refl (r_choice $ r_loose $ r_after refl $ r_make $ r_both
    (conjunction_reads signed signed_holds IsSigned signed_reads (λ x r. signed_starts x.holds x.fact r) (c ∷ cs) every _)
    (result_reads s.holds s.fact h (right ∷ rest))) refl

guarded_starts : (cs : List Signed) (s : Signed) (rest : List Piece) → first_is is_left (words (guarded cs s rest)) ≡ true
guarded_starts [] s rest = signed_starts s.holds s.fact rest
guarded_starts (c ∷ cs) s rest = refl

-- ---- operators

precondition_reads : (ns : List (List ℕ)) (rest : List Piece) → AreHeads ns → first_is is_precondition (words rest) ≡ false
    → Reads (maybe is_precondition m_true (is_precondition ▸ cond)) (words (precondition ns rest)) (all_facts ns) (words rest)
unfolding symbol_of
precondition_reads [] rest every h = r_absent h
precondition_reads (n ∷ ns) rest every h = r_present refl $ r_after refl $ conjunction_reads fact fact_holds IsHead fact_reads (λ x r. refl) (n ∷ ns) every (line_feed rest)

op_reads : (o : Op) → IsOp o → PiecesGive section (op o) (Section.action (schema_of o))
unfolding op symbol_of
op_reads o h rest =
    let end : List Piece = right ∷ line_feed (right ∷ line_feed rest) in
    let effects : Reads (many is_left eff) (words (each effect_line o.effects end)) (map effect_of o.effects) (words end) =
    many_pieces_read is_left eff effect_line effect_of IsEffect (λ e p r. guarded_reads e.conds e.result p.conds p.result (line_feed r)) (λ e r. guarded_starts e.conds e.result (line_feed r)) o.effects _ h.effects refl in
    r_bracket refl (r_choice (r_after refl (r_make (r_make
    (r_both (r_token (name_passes (hits is_name) o.name refl refl))
    (r_both (r_present refl (r_after refl (r_bracket refl (r_make (r_end refl)) refl)))
    (r_both (precondition_reads o.pre _ h.pre refl)
    (r_both (r_present refl (r_after refl (r_within (r_bracket refl (r_choice (r_loose (r_after refl (r_make effects)))) refl))))
    (r_choice r_none))))))))) refl

-- ---- the domain

pred_reads : (n : List ℕ) → IsHead n → PiecesGive pred (fact_line n) (predicate_of n)
pred_reads n h rest = r_bracket refl (r_make $ r_both (r_token (head_hits (symbol_of kinds.Name n) h.head)) (r_make (r_end refl))) refl

-- the sections of operators
abbrev actions : List Op → List (Section (List ℕ))
actions ops = map (λ o. Section.action (schema_of o)) ops

none_of : {T : Type 0} (f : Section (List ℕ) → List T) (ops : List Op) → ((a : Schema (List ℕ)) → f (Section.action a) ≡ []) → flat_map f (actions ops) ≡ []
none_of f [] e = refl
none_of f (o ∷ os) e = rw (e (schema_of o), none_of f os e) refl

its_schemas : (ops : List Op) → flat_map section_schemas (actions ops) ≡ map schema_of ops
its_schemas [] = refl
its_schemas (o ∷ os) = ap (λ (l : List (Schema (List ℕ))). schema_of o ∷ l) (its_schemas os)

op_starts : (o : Op) (rest : List Piece) → first_is is_left (words (op o rest)) ≡ true
unfolding op
op_starts o rest = refl

-- the sections of the domain
abbrev sections : List (List ℕ) → List Op → List (Section (List ℕ))
sections facts ops = Section.requires ∷ Section.predicates (map predicate_of facts) ∷ actions ops

domain_is : (facts : List (List ℕ)) (ops : List Op) → apply (List ℕ) m_domain (tt, sections facts ops) ≡ written_domain facts ops
domain_is facts ops = rw (none_of section_types ops (λ a. refl), none_of section_constants ops (λ a. refl), none_of section_predicates ops (λ a. refl), its_schemas ops, append-nil (map predicate_of facts)) refl

pub domain_reads : (facts : List (List ℕ)) (ops : List Op) → AreHeads facts → AreOps ops → ReadsWhole domain (words (domain_pieces facts ops)) (written_domain facts ops)
unfolding domain_pieces symbol_of
domain_reads facts ops h k =
    let end : List Piece = right ∷ line_feed [] in
    let operators : Reads (many is_left section) (words (each op ops end)) (actions ops) (words end) = many_pieces_read is_left section op (λ o. Section.action (schema_of o)) IsOp op_reads op_starts ops _ k refl in
    let declared : Reads (many is_left pred) (words (each fact_line facts (right ∷ line_feed (each op ops end)))) (map predicate_of facts) (words (right ∷ line_feed (each op ops end))) = many_pieces_read is_left pred fact_line predicate_of IsHead pred_reads (λ x r. refl) facts _ h refl in
    subst (λ (x : Domain (List ℕ)). ReadsWhole domain (words (domain_pieces facts ops)) x) (domain_is facts ops)
    (r_bracket refl (r_after refl (r_make {x = (tt, sections facts ops)}
    (r_both (r_bracket refl (r_after refl (r_token refl)) refl)
    (r_more refl (r_bracket refl (r_choice (r_after refl (r_make (r_make (r_more refl (r_token refl) (r_more refl (r_token refl) (r_more refl (r_token refl) (r_end refl)))))))) refl)
    (r_more refl (r_bracket refl (r_choice (r_after refl (r_make declared))) refl)
    operators))))) refl)

-- ---- the problem

pick_item : (s : Symbol) {ts rest : List (Tok (List ℕ))} {x : Item (List ℕ)} → is_head s ≡ true → Reads (make (m_fact true) fact_body) ts x rest → Reads (item_case s) ts x rest
pick_item symbols.And e r = absurd cc
pick_item symbols.Not e r = absurd cc
pick_item symbols.OneOf e r = absurd cc
pick_item symbols.Or e r = absurd cc
pick_item symbols.Unknown e r = absurd cc
pick_item s e r = r_loose (picked (is_head s) (make (m_fact true) fact_body) (refuse not_item) e r)

item_reads : (n : List ℕ) → IsHead n → PiecesGive item (fact_line n) (item_of n)
item_reads n h rest = r_within $ r_bracket refl (r_choice (pick_item (symbol_of kinds.Name n) h.head (r_make (ground_reads n (line_feed rest) h)))) refl

pick_goal : (s : Symbol) {ts rest : List (Tok (List ℕ))} {x : Cond (List ℕ)} → is_head s ≡ true → Reads (make (m_holds true) fact_body) ts x rest → Reads (goal_case s) ts x rest
pick_goal symbols.Right e r = absurd cc
pick_goal symbols.And e r = absurd cc
pick_goal symbols.Not e r = absurd cc
pick_goal s e r = r_loose (picked (is_head s) (make (m_holds true) fact_body) (refuse not_goal) e r)

goal_fact_reads : (n : List ℕ) → IsHead n → PiecesGive goal_form (fact_line n) (fact_holds n)
goal_fact_reads n h rest = r_within $ r_bracket refl (r_choice (pick_goal (symbol_of kinds.Name n) h.head (r_make (ground_reads n (line_feed rest) h)))) refl

pub problem_reads : (start goal : List (List ℕ)) → AreHeads start → AreHeads goal → ReadsWhole problem (words (problem_pieces start goal)) (written_problem start goal)
unfolding problem_pieces symbol_of
problem_reads start goal h k =
    let end : List Piece = right ∷ right ∷ line_feed (right ∷ line_feed []) in
    let goals : Reads (many is_left goal_form) (words (each fact_line goal end)) (map fact_holds goal) (words end) = many_pieces_read is_left goal_form fact_line fact_holds IsHead goal_fact_reads (λ x r. refl) goal _ k refl in
    subst (λ (x : Problem (List ℕ)). ReadsWhole problem (words (problem_pieces start goal)) x) (rw (append-nil (map item_of start)) refl)
    (r_bracket refl (r_after refl (r_make {x = (tt, Given.of_domain ∷ Given.init (map item_of start) ∷ Given.goal (all_facts goal) ∷ [])}
    (r_both (r_bracket refl (r_after refl (r_token refl)) refl)
    (r_next refl (r_bracket refl (r_choice (r_after refl (r_make (r_make (r_token refl))))) refl)
    (r_next refl (r_bracket refl (r_choice (r_after refl (r_make (r_make (many_pieces_read is_left item fact_line item_of IsHead item_reads (λ x r. refl) start _ h refl))))) refl)
    (r_next refl (r_bracket refl (r_choice (r_after refl (r_make (r_make (r_within (r_bracket refl (r_choice (r_loose (r_after refl (r_make goals)))) refl)))))) refl)
    (r_last refl refl))))))) refl)
