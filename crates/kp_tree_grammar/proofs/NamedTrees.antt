-- What each form of the grammar gives: trees whose names are names.
use Rattle.std.proofs.Common.{◌≡◌, Bool, true, false, if◌then◌else◌, List, [], ◌∷◌}
use Rattle.std.specs.List.{AllByRecursion}
use Rattle.kp_base.proofs.Lists.{each_flat_map}
use Rattle.kp_tree_grammar.specs.declared.symbol.Symbol.{Symbol}
use Rattle.kp_tree_grammar.specs.declared.symbol.Symbol.TheVariants as symbols
use Rattle.kp_tree_grammar.specs.declared.tree.Word.{Word}
use Rattle.kp_tree_grammar.specs.Trees.{Typed, Atom, Cond, conds_of, Eff, effs_of, Item, items_of, Section, Given}
use Rattle.kp_tree_grammar.specs.Unsupported.{not_part, not_cond, not_goal, not_effect, not_lit, not_item}
use Rattle.kp_tree_grammar.specs.Symbols.{Tok, is_head, is_name, is_variable, is_term, is_of_domain, is_init, is_goal, is_domain, is_problem}
use Rattle.kp_tree_grammar.specs.Sorts.{Sort, s_atom, Seen, El, Maker, apply, with_kinds, m_holds, m_makes, m_lit, m_fact}
use Rattle.kp_tree_grammar.specs.Forms.{Form, Named, n_cond, n_goal, n_eff, n_item, make, refuse}
use Rattle.kp_tree_grammar.specs.Grammar.{word, kind_case, kind, typed, term_maker, term, atom_body, fact_body, test_case, cond_case, goal_lit_case, goal_case, eff_case, lit_case, lit, item_case, rule, pred, parts_end_case, schema, words_of_requirements, section_case, title, domain, once, has_stood, given_case, problem}
use Rattle.kp_tree_grammar.specs.Words.{IsName, IsHead, HasNamedTypes, IsNamed, IsNamedTerm, IsNamedAtom, IsNamedCond, AreNamedConds, IsNamedEff, AreNamedEffs, IsNamedLit, IsNamedItem, AreNamedItems, IsNamedPred, IsNamedSchema, IsNamedDomain, IsNamedProblem, DomainsAreNamed, ProblemsAreNamed}
use Rattle.kp_tree_grammar.proofs.SectionWalk.{OfSection, of_sections, OfGiven, of_givens}
use Rattle.kp_tree_grammar.proofs.Words.{tokens_seen, named, headed, OfRule, Gives, g_token, g_none, g_nothing, g_both, g_after, g_many, g_run, g_maybe, g_make, g_choose, g_loose, g_bracket, g_within, given}

-- ---- alternatives

either : {b : Bool} {c : Sort} {X Y : Form b c} {P : El Word c → Type 0} (t : Bool) → Gives b c X P → Gives b c Y P → Gives b c (if t then X else Y) P
either true f g = f
either false f g = g

of_once : {c : Sort} {X : Form true c} {P : El Word c → Type 0} (t : Bool) → Gives true c X P → Gives true c (once t X) P
of_once true f = g_nothing
of_once false f = f

-- ---- words, typed lists

-- nothing is said
abbrev Any : {X : Type 0} → X → Type 0
Any x = Unit {0}

abbrev Named_word : Word → Type 0
Named_word w = IsName w.text

abbrev Head_word : Word → Type 0
Head_word w = IsHead w.text

abbrev Named_words : List Word → Type 0
Named_words ws = AllByRecursion Named_word ws

names : Gives _ _ (word is_name) Named_word
names = g_token named

heads : Gives _ _ (word is_head) Head_word
heads = g_token headed

any_word : (p : Symbol → Bool) → Gives _ _ (word p) Any
any_word p = g_token (λ t s h. tt)

kind_cases : (s : Symbol) → Gives _ _ (kind_case s) Named_words
kind_cases symbols.Left = g_bracket (g_after (g_make (g_both names (g_many names)) (λ x h. h)))
kind_cases _ = g_make names (λ x h. (h, tt))

kinds : Gives _ _ kind Named_words
kinds = g_choose kind_cases

all_with : (V : Word → Type 0) (P : Typed Word → Type 0) → ((w : Word) (ks : List Word) → V w → Named_words ks → P (record { word = w; kinds = ks })) → (ks ws : List Word) → AllByRecursion V ws → Named_words ks → AllByRecursion P (with_kinds ks ws)
all_with V P f ks [] h g = tt
all_with V P f ks (w ∷ ws) h g = (f w ks h.0 g, all_with V P f ks ws h.1 g)

typed_lists : (p : Symbol → Bool) (V : Word → Type 0) (P : Typed Word → Type 0) → ((w : Word) (ks : List Word) → V w → Named_words ks → P (record { word = w; kinds = ks })) → Gives _ _ (word p) V → Gives _ _ (typed p) (AllByRecursion P)
typed_lists p V P f g =
    g_make {P = AllByRecursion (AllByRecursion P)}
    (g_many (g_make (g_both (g_both g (g_many g)) (g_maybe {P = Named_words} tt (g_after kinds))) (λ x h. all_with V P f x.1 (x.0.0 ∷ x.0.1) h.0 h.1)))
    (λ x h. each_flat_map (λ ts. ts) (AllByRecursion P) P (λ ts k. k) x h)

variables : Gives _ _ (typed is_variable) (AllByRecursion HasNamedTypes)
variables = typed_lists is_variable Any HasNamedTypes (λ w ks h g. g) (any_word is_variable)

objects : Gives _ _ (typed is_name) (AllByRecursion IsNamed)
objects = typed_lists is_name Named_word IsNamed (λ w ks h g. record { name = h; types = g }) names

-- ---- atoms

term_there : (t : Tok Word) (s : Symbol) → (is_name s ≡ true → IsName t.word.text) → is_term s ≡ true → IsNamedTerm (apply Word (term_maker s) t.word)
term_there t symbols.Variable f h = tt
term_there t _ f h = f h

terms : Gives _ _ term IsNamedTerm
terms = g_token (λ t s h. term_there t t.symbol (named t s) h)

atom_bodies : Gives _ _ atom_body IsNamedAtom
atom_bodies = g_make (g_both heads (g_many terms)) (λ x h. record { head = h.0; terms = h.1 })

fact_bodies : Gives _ _ fact_body IsNamedAtom
fact_bodies = g_make (g_both heads (g_many {P = IsNamedTerm} (g_token named))) (λ x h. record { head = h.0; terms = h.1 })

-- an atom where a head stands, and nothing else
where_head : {b : Bool} {c : Sort} (m : Maker s_atom c) (X : Form b s_atom) (q : Symbol → Bool) (P : El Word c → Type 0) → Gives _ _ X IsNamedAtom → ((a : Atom Word) → IsNamedAtom a → P (apply Word m a)) → (s : Symbol) → Gives _ _ (if is_head s then make m X else refuse q) P
where_head m X q P f g s = either (is_head s) (g_make f g) g_nothing

-- ---- the rules

all_conds : (cs : List (Cond Word)) → AllByRecursion IsNamedCond cs → AreNamedConds (conds_of cs)
all_conds [] h = tt
all_conds (c ∷ cs) h = (h.0, all_conds cs h.1)

all_effs : (es : List (Eff Word)) → AllByRecursion IsNamedEff es → AreNamedEffs (effs_of es)
all_effs [] h = tt
all_effs (e ∷ es) h = (h.0, all_effs es h.1)

all_items : (is : List (Item Word)) → AllByRecursion IsNamedItem is → AreNamedItems (items_of is)
all_items [] h = tt
all_items (i ∷ is) h = (h.0, all_items is h.1)

test_cases : (b : Bool) (s : Symbol) → Gives _ _ (test_case b s) IsNamedCond
test_cases b symbols.Equal = g_make (g_after (g_both terms terms)) (λ x h. h)
test_cases b s = where_head (m_holds b) atom_body not_cond IsNamedCond atom_bodies (λ x h. h) s

cond_cases : (s : Symbol) → Gives _ _ (cond_case s) IsNamedCond
cond_cases symbols.Right = g_none tt
cond_cases symbols.And = g_loose (g_after (g_make (g_many (g_within {n = n_cond})) all_conds))
cond_cases symbols.Not = g_loose (g_after (g_bracket (g_choose (test_cases false))))
cond_cases s = g_loose (test_cases true s)

goal_lit_cases : (b : Bool) (s : Symbol) → Gives _ _ (goal_lit_case b s) IsNamedCond
goal_lit_cases b s = where_head (m_holds b) fact_body not_goal IsNamedCond fact_bodies (λ x h. h) s

goal_cases : (s : Symbol) → Gives _ _ (goal_case s) IsNamedCond
goal_cases symbols.Right = g_none tt
goal_cases symbols.And = g_loose (g_after (g_make (g_many (g_within {n = n_goal})) all_conds))
goal_cases symbols.Not = g_loose (g_after (g_bracket (g_choose (goal_lit_cases false))))
goal_cases s = g_loose (goal_lit_cases true s)

eff_cases : (s : Symbol) → Gives _ _ (eff_case s) IsNamedEff
eff_cases symbols.Right = g_none tt
eff_cases symbols.And = g_loose (g_after (g_make (g_many (g_within {n = n_eff})) all_effs))
eff_cases symbols.When = g_loose (g_after (g_make (g_both (g_within {n = n_cond}) (g_within {n = n_eff})) (λ x h. h)))
eff_cases symbols.Forall = g_loose (g_after (g_make (g_both (g_bracket variables) (g_within {n = n_eff})) (λ x h. h)))
eff_cases symbols.Not = g_loose (g_after (g_make (g_bracket atom_bodies) (λ x h. h)))
eff_cases s = g_loose (where_head (m_makes true) atom_body not_effect IsNamedEff atom_bodies (λ x h. h) s)

lit_cases : (s : Symbol) → Gives _ _ (lit_case s) IsNamedLit
lit_cases symbols.Not = g_after (g_make (g_bracket fact_bodies) (λ x h. h))
lit_cases s = where_head (m_lit true) fact_body not_lit IsNamedLit fact_bodies (λ x h. h) s

lits : Gives _ _ lit IsNamedLit
lits = g_bracket (g_choose lit_cases)

item_cases : (s : Symbol) → Gives _ _ (item_case s) IsNamedItem
item_cases symbols.And = g_loose (g_after (g_make (g_many (g_within {n = n_item})) all_items))
item_cases symbols.Not = g_loose (g_after (g_make (g_bracket fact_bodies) (λ x h. h)))
item_cases symbols.OneOf = g_loose (g_make (g_both (any_word _) (g_many lits)) (λ x h. h.1))
item_cases symbols.Or = g_loose (g_make (g_both (any_word _) (g_many lits)) (λ x h. h.1))
item_cases symbols.Unknown = g_loose (g_make (g_both (any_word _) (g_bracket fact_bodies)) (λ x h. h.1))
item_cases s = g_loose (where_head (m_fact true) fact_body not_item IsNamedItem fact_bodies (λ x h. h) s)

rules : (c : Sort) (n : Named c) → Gives _ _ (rule n) (OfRule n)
rules _ n_cond = g_choose cond_cases
rules _ n_goal = g_choose goal_cases
rules _ n_eff = g_choose eff_cases
rules _ n_item = g_choose item_cases

-- ---- domains

preds : Gives _ _ pred IsNamedPred
preds = g_bracket (g_make (g_both heads variables) (λ x h. record { head = h.0; params = h.1 }))

ends : (s : Symbol) → Gives _ _ (parts_end_case s) Any
ends s = either (not_part s) g_nothing (g_none tt)

schemas : Gives _ _ schema IsNamedSchema
schemas =
    g_make (g_both names
    (g_both (g_maybe {P = AllByRecursion HasNamedTypes} tt (g_after (g_bracket variables)))
    (g_both (g_maybe {P = IsNamedCond} tt (g_after (g_within {n = n_cond})))
    (g_both (g_maybe {P = IsNamedEff} tt (g_after (g_within {n = n_eff})))
    (g_choose ends)))))
    (λ x h. record { name = h.0; params = h.1.0; pre = h.1.1.0; effect = h.1.1.1.0 })

requirements : Gives _ _ words_of_requirements Any
requirements = g_make (g_many {P = Any} (g_token (λ t s h. tt))) (λ x h. tt)

abbrev IsNamedSection : Section Word → Type 0
IsNamedSection = OfSection IsNamed IsNamedPred IsNamedSchema

section_cases : (s : Symbol) → Gives _ _ (section_case s) IsNamedSection
section_cases symbols.Requirements = g_after (g_make requirements (λ x h. tt))
section_cases symbols.Types = g_after (g_make objects (λ x h. h))
section_cases symbols.Constants = g_after (g_make objects (λ x h. h))
section_cases symbols.Predicates = g_after (g_make (g_many preds) (λ x h. h))
section_cases symbols.Action = g_after (g_make schemas (λ x h. h))
section_cases _ = g_nothing

titles : (p : Symbol → Bool) → Gives _ _ (title p) Any
titles p = g_bracket (g_after (g_token (λ t s h. tt)))

domains : Gives _ _ domain IsNamedDomain
domains =
    g_bracket (g_after (g_make (g_both (titles is_domain) (g_many {P = IsNamedSection} (g_bracket (g_choose section_cases))))
    (λ x h. let all = of_sections IsNamed IsNamedPred IsNamedSchema x.1 h.1 in record { kinds = all.0; constants = all.1; predicates = all.2; schemas = all.3 })))

-- ---- problems

abbrev IsNamedGiven : Given Word → Type 0
IsNamedGiven = OfGiven IsNamed IsNamedItem IsNamedCond

abbrev Second : Seen × Given Word → Type 0
Second x = IsNamedGiven x.1

given_cases : (seen : Seen) (s : Symbol) → Gives _ _ (given_case seen s) Second
given_cases seen symbols.OfDomain = of_once (has_stood is_of_domain seen) (g_after (g_make {P = IsNamedGiven} (g_make {P = Any} (g_token (λ t s h. tt)) (λ x h. tt)) (λ x h. h)))
given_cases seen symbols.Requirements = g_after (g_make {P = IsNamedGiven} (g_make requirements (λ x h. tt)) (λ x h. h))
given_cases seen symbols.Objects = g_after (g_make {P = IsNamedGiven} (g_make objects (λ x h. h)) (λ x h. h))
given_cases seen symbols.Init = of_once (has_stood is_init seen) (g_after (g_make {P = IsNamedGiven} (g_make (g_many (g_within {n = n_item})) (λ x h. h)) (λ x h. h)))
given_cases seen symbols.Goal = of_once (has_stood is_goal seen) (g_after (g_make {P = IsNamedGiven} (g_make (g_within {n = n_goal}) (λ x h. h)) (λ x h. h)))
given_cases seen _ = g_nothing

problems : Gives _ _ problem IsNamedProblem
problems =
    g_bracket (g_after (g_make (g_both (titles is_problem) (g_run {P = IsNamedGiven} (λ seen. g_bracket (g_choose (given_cases seen)))))
    (λ x h. let all = of_givens IsNamed IsNamedItem IsNamedCond tt x.1 h.1 in record { objects = all.0; init = all.1; goal = all.2 })))

-- ---- the laws

pub domains_named : DomainsAreNamed
domains_named text d h = (given rules h.reads domains (tokens_seen h.tokens h.cut)).0

pub problems_named : ProblemsAreNamed
problems_named text p h = (given rules h.reads problems (tokens_seen h.tokens h.cut)).0
