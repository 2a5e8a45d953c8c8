-- By the grammar no equality stands in a goal.
use Rattle.std.proofs.Common.{◌≡◌, Bool, true, false, if◌then◌else◌, List, [], ◌∷◌, refl}
use Rattle.std.specs.List.{list_all}
use Rattle.std.proofs.lemmas.Bool.{and_parts, and_from}
use Rattle.kp_tree_grammar.specs.declared.symbol.Symbol.{Symbol}
use Rattle.kp_tree_grammar.specs.declared.symbol.Symbol.TheVariants as symbols
use Rattle.kp_tree_grammar.specs.declared.tree.Word.{Word}
use Rattle.kp_tree_grammar.specs.Language.{Cond, conds_of, Given, goal_of, Problem, Tok, is_head, is_goal, is_of_domain, is_init, Sort, s_none, s_cond, s_pair, s_seen, s_given, Seen, El, Maker, apply, m_holds, Form, n_goal, none, refuse, ◌▹◌, ◌▸◌, many, run, make, choose, loose, bracket, within, not_goal, fact_body, goal_lit_case, goal_case, rule, has_stood, once, given_case, ReadBy, r_token, r_none, r_both, r_after, r_end, r_more, r_last, r_next, r_absent, r_present, r_make, r_choice, r_loose, r_bracket, r_within}
use Rattle.kp_tree_grammar.specs.Grammar as grammar
use Rattle.kp_names_semantics.specs.NumberLaws.{is_plain_goal, are_plain_goals, GoalsArePlain}

-- each value that the form reads passes the test, if goals within it are plain
data Gives : (b : Bool) (c : Sort) → Form b c → (El Word c → Bool) → Type 0 where
  g_none : {c : Sort} {m : Maker s_none c} {p : El Word c → Bool} → p (apply Word m tt) ≡ true → Gives _ _ (none m) p
  g_nothing : {b : Bool} {c : Sort} {t : Symbol → Bool} {p : El Word c → Bool} → Gives b c (refuse t) p
  g_second : {b d : Bool} {a c : Sort} {X : Form b a} {Y : Form d c} (p : El Word c → Bool) → Gives _ _ Y p → Gives _ _ (X ▹ Y) (λ z. p z.1)
  g_after : {b : Bool} {a : Sort} {t : Symbol → Bool} {X : Form b a} {p : El Word a → Bool} → Gives _ _ X p → Gives _ _ (t ▸ X) p
  g_many : {a : Sort} {t : Symbol → Bool} {X : Form true a} (p : El Word a → Bool) → Gives _ _ X p → Gives _ _ (many t X) (list_all p)
  g_run : {a : Sort} {t : Symbol → Bool} {X : Seen → Form true (s_pair s_seen a)} {done : Seen → Bool} {s : Seen} (p : El Word a → Bool) → ((s : Seen) → Gives _ _ (X s) (λ z. p z.1)) → Gives _ _ (run t X done s) (list_all p)
  g_make : {b : Bool} {a c : Sort} {m : Maker a c} {X : Form b a} (p : El Word a → Bool) {q : El Word c → Bool} → ((x : El Word a) → p x ≡ true → q (apply Word m x) ≡ true) → Gives _ _ X p → Gives _ _ (make m X) q
  g_made : {b : Bool} {a c : Sort} {m : Maker a c} {X : Form b a} {q : El Word c → Bool} → ((x : El Word a) → q (apply Word m x) ≡ true) → Gives _ _ (make m X) q
  g_choose : {b : Bool} {a : Sort} {pick : Symbol → Form b a} {p : El Word a → Bool} → ((s : Symbol) → Gives _ _ (pick s) p) → Gives _ _ (choose pick) p
  g_loose : {a : Sort} {X : Form true a} {p : El Word a → Bool} → Gives _ _ X p → Gives _ _ (loose X) p
  g_bracket : {b : Bool} {a : Sort} {X : Form b a} {p : El Word a → Bool} → Gives _ _ X p → Gives _ _ (bracket X) p
  g_within : Gives _ _ (within n_goal) is_plain_goal

-- ---- goals

plain_all : (xs : List (Cond Word)) → list_all is_plain_goal xs ≡ true → are_plain_goals (conds_of xs) ≡ true
plain_all [] h = refl
plain_all (x ∷ xs) h =
    let parts = and_parts (is_plain_goal x) (list_all is_plain_goal xs) h in
    and_from (is_plain_goal x) (are_plain_goals (conds_of xs)) parts.0 (plain_all xs parts.1)

lit_gives : (b : Bool) (s : Symbol) → Gives true s_cond (goal_lit_case b s) is_plain_goal
lit_gives b s = pick (is_head s)
  where
    pick : (t : Bool) → Gives true s_cond (if t then make (m_holds b) fact_body else refuse not_goal) is_plain_goal
    pick true = g_made (λ x. refl)
    pick false = g_nothing

case_gives : (s : Symbol) → Gives false s_cond (goal_case s) is_plain_goal
case_gives symbols.Right = g_none refl
case_gives symbols.And = g_loose (g_after (g_make (list_all is_plain_goal) plain_all (g_many is_plain_goal g_within)))
case_gives symbols.Not = g_loose (g_after (g_bracket (g_choose (lit_gives false))))
case_gives s = g_loose (lit_gives true s)

goal_gives : Gives true s_cond (bracket (rule n_goal)) is_plain_goal
goal_gives = g_bracket (g_choose case_gives)

-- what such a form reads passes
passes : {b : Bool} {c : Sort} {X : Form b c} {ts rest : List (Tok Word)} {x : El Word c} (p : El Word c → Bool) → ReadBy b c X ts x rest → Gives b c X p → p x ≡ true
passes p (r_token e) g = elim g [ ]
passes p r_none (g_none e) = e
passes _ (r_both h k) (g_second q g) = passes q k g
passes p (r_after e h) (g_after g) = passes p h g
passes _ (r_end e) (g_many q g) = refl
passes _ (r_more {x = y} {xs = ys} e h k) (g_many q g) = and_from (q y) (list_all q ys) (passes q h g) (passes (list_all q) k (g_many q g))
passes _ (r_last e d) (g_run q f) = refl
passes _ (r_next {s = s} {x = y} {xs = ys} e h k) (g_run q f) = and_from (q y.1) (list_all q ys) (passes (λ z. q z.1) h (f s)) (passes (list_all q) k (g_run q f))
passes p (r_absent e) g = elim g [ ]
passes p (r_present e h) g = elim g [ ]
passes _ (r_make {x = y} h) (g_make q f g) = f y (passes q h g)
passes _ (r_make {x = y} h) (g_made f) = f y
passes p (r_choice {t = t} h) (g_choose f) = passes p h (f t.symbol)
passes p (r_loose h) (g_loose g) = passes p h g
passes p (r_bracket e h k) (g_bracket g) = passes p h g
passes _ (r_within h) g_within = passes is_plain_goal h goal_gives

-- ---- problems

-- a section has such a goal, or none
abbrev has_plain_goal : Given Word → Bool
has_plain_goal (Given.goal g) = is_plain_goal g
has_plain_goal _ = true

of_problem : (gs : List (Given Word)) → list_all has_plain_goal gs ≡ true → is_plain_goal (goal_of gs) ≡ true
of_problem [] h = refl
of_problem (Given.goal g ∷ gs) h = (and_parts (is_plain_goal g) (list_all has_plain_goal gs) h).0
of_problem (_ ∷ gs) h = of_problem gs h

once_gives : {c : Sort} {X : Form true c} {p : El Word c → Bool} (b : Bool) → Gives true c X p → Gives true c (once b X) p
once_gives true g = g_nothing
once_gives false g = g

section_gives : (seen : Seen) (s : Symbol) → Gives true (s_pair s_seen s_given) (given_case seen s) (λ z. has_plain_goal z.1)
section_gives seen symbols.OfDomain = once_gives (has_stood is_of_domain seen) (g_after (g_make has_plain_goal (λ x e. e) (g_made (λ x. refl))))
section_gives seen symbols.Requirements = g_after (g_make has_plain_goal (λ x e. e) (g_made (λ x. refl)))
section_gives seen symbols.Objects = g_after (g_make has_plain_goal (λ x e. e) (g_made (λ x. refl)))
section_gives seen symbols.Init = once_gives (has_stood is_init seen) (g_after (g_make has_plain_goal (λ x e. e) (g_made (λ x. refl))))
section_gives seen symbols.Goal = once_gives (has_stood is_goal seen) (g_after (g_make has_plain_goal (λ x e. e) (g_make is_plain_goal (λ x e. e) g_within)))
section_gives seen _ = g_nothing

problem_gives : Gives true _ grammar.problem (λ x. is_plain_goal x.goal)
problem_gives = g_bracket (g_after (g_make (λ z. list_all has_plain_goal z.1) (λ z h. of_problem z.1 h) (g_second (list_all has_plain_goal) (g_run has_plain_goal (λ seen. g_bracket (g_choose (section_gives seen)))))))

pub goals_plain : GoalsArePlain
goals_plain text p reads = passes (λ (x : Problem Word). is_plain_goal x.goal) reads.reads problem_gives
