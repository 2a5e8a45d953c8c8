-- What a form reads has its faults in its span, no two at one token: so no token of a file has two.
use Rattle.std.proofs.Common.{◌≡◌, ◌≤◌, ◌<◌, ◌⊎◌, inl, inr, ℕ, suc, Bool, not, ◌==◌, List, [], ◌∷◌, ◌++◌, map, length, Option, Some, None, refl, sym, ap, subst, ◌∙◌, arith}
use Rattle.std.specs.List.{flat_map}
use Rattle.kp_lex.specs.declared.token.Token.{Token}
use Rattle.kp_lex.specs.Spans.{InOrder}
use Rattle.kp_lex.proofs.Public.{spans_in_order}
use Rattle.kp_tree_grammar.specs.declared.tree.Word.{Word}
use Rattle.kp_tree_grammar.specs.Language.{Term, Atom, Cond, conds_of, Eff, effs_of, Item, items_of, Pred, Schema, Domain, Problem, Section, section_constants, section_predicates, section_schemas, Given, given_objects, given_items, goal_of, Tok, all_seen_in, Sort, s_none, s_word, s_pair, s_list, s_typed, s_term, s_atom, s_cond, s_eff, s_lit, s_section, s_seen, s_given, El, with_kinds, Maker, m_word, m_drop, m_name, m_variable, m_atom, m_untyped, m_kind, m_kinds, m_typed, m_joined, m_all, m_true, m_holds, m_same, m_both, m_idle, m_when, m_each, m_makes, m_lit, m_items, m_fact, m_one_of, m_any_of, m_unknown, m_pred, m_no_params, m_schema, m_requires, m_types, m_constants, m_predicates, m_action, m_domain, m_of_domain, m_needs, m_objects, m_init, m_goal, m_saw, m_problem, apply, Form, ReadBy, r_token, r_none, r_both, r_after, r_end, r_more, r_last, r_next, r_absent, r_present, r_make, r_choice, r_loose, r_bracket, r_within, ReadsAs}
use Rattle.kp_tree_grammar.specs.Grammar as grammar
use Rattle.kp_base.specs.Lists.{Member}
use Rattle.kp_base.proofs.Lists.{append_member}
use Rattle.kp_names_semantics.specs.Names.{Name}
use Rattle.kp_names_semantics.specs.Types.{declared}
use Rattle.kp_names_semantics.specs.Faults.{Fault, unknown_name, declared_twice, wrong_use, type_faults, variable_faults, inside, term_faults, predicate_of, head_faults, cond_faults, eff_faults, item_faults, schema_faults, predicate_faults, twice_in, domain_faults, problem_faults, byte_of}
use Rattle.kp_names_semantics.specs.FaultLaws.{IsOneForEachToken, HasOneFirst, TokensHaveOneFault, DomainTokensHaveOneFault, ProblemTokensHaveOneFault}
use Rattle.kp_names_semantics.proofs.FaultSpans.{Apart, empty, fewer, joined, recast, AnyOf, any_spread, any_member, only_member}
use Rattle.kp_names_semantics.proofs.FaultMarks.{Unknown, Twice, OfTyped, OfPred, OfTerm, OfAtom, OfCond, OfEff, OfItem, OfSchema, OfSection, OfGiven, in_domain, in_problem, May, Lies, apart, of_term, of_types, of_variables, of_conds, of_effs, of_items, of_lits, of_predicates, of_schemas}

-- ---- words

-- faults of one kind alone, each at its token
of_kind : (kind : ℕ → Fault) {b : ℕ} {f : Fault} → byte_of (kind b) ≡ b → kind b ≡ f → (unknown_name b ≡ unknown_name (byte_of f)) × (f ≡ kind (byte_of f))
of_kind kind {b} {f} back e =
    let same : b ≡ byte_of f = sym back ∙ ap byte_of e in
    (ap unknown_name same, sym e ∙ ap kind same)

-- an unknown name
at_word : (lo : ℕ) (w : Word) → lo ≤ w.byte → Apart lo (suc w.byte) (Unknown w)
at_word lo w le = record {
  ordered = omega (arith, le);
  within = λ f e. subst (λ g. (lo ≤ byte_of g) × (byte_of g < suc w.byte)) e (le, omega arith);
  single = λ f g e k same. sym e ∙ k;
}

-- a name that is declared
declares : {lo hi : ℕ} (w : Word) → Apart lo hi (Unknown w) → Apart lo hi (Twice w)
declares w a = recast declared_twice (Twice w) a (λ f e. of_kind declared_twice refl e)

all_twice : (f : Fault) (ws : List Word) → AnyOf Twice ws f → AnyOf Unknown ws (unknown_name (byte_of f)) × (f ≡ declared_twice (byte_of f))
all_twice f [] m = absurd m
all_twice f (w ∷ ws) m = elim m [
  | inl e ↦ let k = of_kind declared_twice {b = w.byte} refl e in (inl k.0, k.1)
  | inr b ↦ let k = all_twice f ws b in (inr k.0, k.1)
]

-- names that are declared, with one type for all
in_kinds : (f : Fault) (ks ws : List Word) → AnyOf OfTyped (with_kinds ks ws) f → AnyOf Twice ws f ⊎ AnyOf Unknown ks f
in_kinds f ks [] m = absurd m
in_kinds f ks (w ∷ ws) m = elim m [
  | inl h ↦ elim h [ inl e ↦ inl (inl e) | inr k ↦ inr k ]
  | inr b ↦ elim (in_kinds f ks ws b) [ inl e ↦ inl (inr e) | inr k ↦ inr k ]
]

-- the head of an atom
heads : {lo hi : ℕ} (o : Option (Pred Word)) (a : Atom Word) → Apart lo hi (Unknown a.head) → Apart lo hi (λ f. Member (head_faults o a) f)
heads None a h = fewer (λ f. Member (unknown_name a.head.byte ∷ []) f) h (λ f m. elim m [ inl e ↦ e | inr b ↦ absurd b ])
heads (Some q) a h = recast wrong_use (λ f. Member (head_faults (Some q) a) f) h (λ f m. of_kind wrong_use {b = a.head.byte} refl (only_member (not (length q.params == length a.terms)) f m))

-- ---- sections

its_constants : (d : Domain Word) (p : Problem Word) (f : Fault) (x : Section Word) → AnyOf OfTyped (section_constants x) f → OfSection d p x f
its_constants d p f (Section.constants xs) m = m
its_constants d p f _ m = absurd m

its_predicates : (d : Domain Word) (p : Problem Word) (f : Fault) (x : Section Word) → AnyOf OfPred (section_predicates x) f → OfSection d p x f
its_predicates d p f (Section.predicates xs) m = m
its_predicates d p f _ m = absurd m

its_schemas : (d : Domain Word) (p : Problem Word) (f : Fault) (x : Section Word) → AnyOf (OfSchema d p) (section_schemas x) f → OfSection d p x f
its_schemas d p f (Section.action a) m = elim m [ inl e ↦ e | inr b ↦ absurd b ]
its_schemas d p f _ m = absurd m

its_objects : (d : Domain Word) (p : Problem Word) (f : Fault) (x : Given Word) → AnyOf OfTyped (given_objects x) f → OfGiven d p x f
its_objects d p f (Given.objects xs) m = m
its_objects d p f _ m = absurd m

its_items : (d : Domain Word) (p : Problem Word) (f : Fault) (x : Given Word) → AnyOf (OfItem d p) (given_items x) f → OfGiven d p x f
its_items d p f (Given.init xs) m = m
its_items d p f _ m = absurd m

its_goal : (d : Domain Word) (p : Problem Word) (f : Fault) (gs : List (Given Word)) → Member (cond_faults d p [] (goal_of gs)) f → AnyOf (OfGiven d p) gs f
its_goal d p f [] m = absurd m
its_goal d p f (Given.goal g ∷ gs) m = inl ([], m)
its_goal d p f (Given.of_domain ∷ gs) m = inr (its_goal d p f gs m)
its_goal d p f (Given.requires ∷ gs) m = inr (its_goal d p f gs m)
its_goal d p f (Given.objects xs ∷ gs) m = inr (its_goal d p f gs m)
its_goal d p f (Given.init is ∷ gs) m = inr (its_goal d p f gs m)

-- ---- tokens

-- they begin at bytes that rise, from this one on
abbrev Ascend : ℕ → List (Tok Word) → Type 0
Ascend lo [] = Unit {0}
Ascend lo (t ∷ ts) = (lo ≤ t.word.byte) × Ascend (suc t.word.byte) ts

sooner : (lo hi : ℕ) (ts : List (Tok Word)) → lo ≤ hi → Ascend hi ts → Ascend lo ts
sooner lo hi [] le h = tt
sooner lo hi (t ∷ ts) le h = (omega (arith, le, h.0), h.1)

-- without the first
past : (lo : ℕ) (t : Tok Word) (ts : List (Tok Word)) → Ascend lo (t ∷ ts) → Ascend lo ts
past lo t ts h = sooner lo (suc t.word.byte) ts (omega (arith, h.0)) h.1

seen_ascend : (text : List ℕ) (lo hi : ℕ) (ts : List Token) → InOrder lo ts hi → Ascend lo (all_seen_in text ts)
seen_ascend text lo hi [] h = tt
seen_ascend text lo hi (t ∷ ts) h = (h.0, sooner (suc t.from) t.to (all_seen_in text ts) (omega (arith, h.1)) (seen_ascend text t.to hi ts h.2))

module _ (d : Domain Word) (p : Problem Word) where
  -- ---- what is made lies where its parts lie

  -- the head of an atom with its terms
  of_atom : {lo hi : ℕ} (x : Word × List (Term Word)) → Lies d p (s_pair s_word (s_list s_term)) lo hi x → Apart lo hi (OfAtom d p (apply Word m_atom x))
  of_atom x h =
      let a : Atom Word = apply Word m_atom x in
      fewer (OfAtom d p a) (joined (heads (predicate_of d a) a h.1) h.2)
      (λ f m. elim (append_member (head_faults (predicate_of d a) a) (flat_map (term_faults d p m.0) a.terms) f m.1) [
        | inl k ↦ inl k
        | inr k ↦ inr (any_member OfTerm (term_faults d p m.0) f (of_term d p m.0 f) a.terms k)
      ])

  -- names that are declared, with their types
  of_typed : {lo hi : ℕ} (x : (Word × List Word) × List Word) → Lies d p (s_pair (s_pair s_word (s_list s_word)) (s_list s_word)) lo hi x → Apart lo hi (AnyOf OfTyped (apply Word m_typed x))
  of_typed {lo} x h =
      let ws : List Word = x.0.0 ∷ x.0.1 in
      fewer (AnyOf OfTyped (with_kinds x.1 ws)) (joined (recast declared_twice (AnyOf Twice ws) (apart d p (s_pair s_word (s_list s_word)) lo h.0 x.0 h.1) (λ f m. all_twice f ws m)) h.2) (λ f m. in_kinds f x.1 ws m)

  of_schema : {lo hi : ℕ} (x : El Word (s_pair s_word (s_pair (s_list s_typed) (s_pair s_cond (s_pair s_eff s_none))))) → Lies d p (s_pair s_word (s_pair (s_list s_typed) (s_pair s_cond (s_pair s_eff s_none)))) lo hi x → Apart lo hi (OfSchema d p (apply Word m_schema x))
  of_schema {lo} {hi} x h =
      let a : Schema Word = apply Word m_schema x in
      let scope : List Name = inside (declared a.params) [] in
      fewer (OfSchema d p a) (joined (declares a.name h.1) (apart d p (s_pair (s_list s_typed) (s_pair s_cond (s_pair s_eff s_none))) h.0 hi x.1 h.2))
      (λ f m. elim m [
        | inl e ↦ inl e
        | inr k ↦ inr (elim (append_member (variable_faults d a.params) (cond_faults d p scope a.pre ++ eff_faults d p scope a.effect) f k) [
          | inl b ↦ inl (of_variables d p f a.params b)
          | inr b ↦ inr (elim (append_member (cond_faults d p scope a.pre) (eff_faults d p scope a.effect) f b) [ inl g ↦ inl (scope, g) | inr g ↦ inr (inl (scope, g)) ])
        ])
      ])

  of_domain : (f : Fault) (xs : List (Section Word)) → Member (in_domain d p (apply Word m_domain (tt, xs))) f → AnyOf (OfSection d p) xs f
  of_domain f xs m =
      let x : Domain Word = apply Word m_domain (tt, xs) in
      let schemas : List Fault = twice_in (map (λ a. a.name) x.schemas) ++ flat_map (schema_faults d p) x.schemas in
      elim (append_member (type_faults d x.constants) (predicate_faults x.predicates ++ schemas) f m) [
        | inl k ↦ any_spread OfTyped (OfSection d p) section_constants f (its_constants d p f) xs (of_types d p f x.constants k)
        | inr k ↦ elim (append_member (predicate_faults x.predicates) schemas f k) [
          | inl b ↦ any_spread OfPred (OfSection d p) section_predicates f (its_predicates d p f) xs (of_predicates d p f x.predicates b)
          | inr b ↦ any_spread (OfSchema d p) (OfSection d p) section_schemas f (its_schemas d p f) xs (of_schemas d p f x.schemas b)
        ]
      ]

  of_problem : (f : Fault) (xs : List (Given Word)) → Member (in_problem d p (apply Word m_problem (tt, xs))) f → AnyOf (OfGiven d p) xs f
  of_problem f xs m =
      let x : Problem Word = apply Word m_problem (tt, xs) in
      elim (append_member (type_faults d x.objects) (flat_map (item_faults d p) x.init ++ cond_faults d p [] x.goal) f m) [
        | inl k ↦ any_spread OfTyped (OfGiven d p) given_objects f (its_objects d p f) xs (of_types d p f x.objects k)
        | inr k ↦ elim (append_member (flat_map (item_faults d p) x.init) (cond_faults d p [] x.goal) f k) [
          | inl b ↦ any_spread (OfItem d p) (OfGiven d p) given_items f (its_items d p f) xs (any_member (OfItem d p) (item_faults d p) f (λ i g. g) x.init b)
          | inr b ↦ its_goal d p f xs b
        ]
      ]

  makes : {a c : Sort} (m : Maker a c) (lo hi : ℕ) (x : El Word a) → Lies d p a lo hi x → Lies d p c lo hi (apply Word m x)
  makes m_word lo hi x h = h
  makes (m_drop {a = a}) lo hi x h = empty lo hi (λ f. ⊥) (apart d p a lo hi x h).ordered (λ f m. m)
  makes m_name lo hi x h = h
  makes m_variable lo hi x h = h
  makes m_atom lo hi x h = of_atom x h
  makes m_untyped lo hi x h = h
  makes m_kind lo hi x h = fewer (AnyOf Unknown (x ∷ [])) h (λ f m. elim m [ inl e ↦ e | inr b ↦ absurd b ])
  makes m_kinds lo hi x h = apart d p (s_pair s_word (s_list s_word)) lo hi x h
  makes m_typed lo hi x h = of_typed x h
  makes m_joined lo hi x h = fewer (AnyOf OfTyped (flat_map (λ ts. ts) x)) h (λ f m. any_spread OfTyped (AnyOf OfTyped) (λ ts. ts) f (λ ts k. k) x m)
  makes m_all lo hi x h = fewer (OfCond d p (Cond.all (conds_of x))) h (λ f m. of_conds d p m.0 f x m.1)
  makes m_true lo hi x h = fewer (OfCond d p (Cond.all (conds_of []))) h (λ f m. m.1)
  makes (m_holds b) lo hi x h = h
  makes (m_same b) lo hi x h = fewer (OfCond d p (Cond.same b x.0 x.1)) (apart d p (s_pair s_term s_term) lo hi x h)
      (λ f m. elim (append_member (term_faults d p m.0 x.0) (term_faults d p m.0 x.1) f m.1) [ inl k ↦ inl (of_term d p m.0 f x.0 k) | inr k ↦ inr (of_term d p m.0 f x.1 k) ])
  makes m_both lo hi x h = fewer (OfEff d p (Eff.both (effs_of x))) h (λ f m. of_effs d p m.0 f x m.1)
  makes m_idle lo hi x h = fewer (OfEff d p (Eff.both (effs_of []))) h (λ f m. m.1)
  makes m_when lo hi x h = fewer (OfEff d p (Eff.when x.0 x.1)) (apart d p (s_pair s_cond s_eff) lo hi x h)
      (λ f m. elim (append_member (cond_faults d p m.0 x.0) (eff_faults d p m.0 x.1) f m.1) [ inl k ↦ inl (m.0, k) | inr k ↦ inr (m.0, k) ])
  makes m_each lo hi x h = fewer (OfEff d p (Eff.each x.0 x.1)) (apart d p (s_pair (s_list s_typed) s_eff) lo hi x h)
      (λ f m. let scope : List Name = inside (declared x.0) m.0 in elim (append_member (variable_faults d x.0) (eff_faults d p scope x.1) f m.1) [ inl k ↦ inl (of_variables d p f x.0 k) | inr k ↦ inr (scope, k) ])
  makes (m_makes b) lo hi x h = h
  makes (m_lit b) lo hi x h = h
  makes m_items lo hi x h = fewer (OfItem d p (Item.items (items_of x))) h (λ f m. of_items d p f x m)
  makes (m_fact b) lo hi x h = fewer (OfItem d p (Item.fact b x)) h (λ f m. ([], m))
  makes m_one_of lo hi x h = fewer (OfItem d p (Item.one_of x.0 x.1)) (apart d p (s_pair s_word (s_list s_lit)) lo hi x h) (λ f m. inr (of_lits d p f x.1 m))
  makes m_any_of lo hi x h = fewer (OfItem d p (Item.any_of x.0 x.1)) (apart d p (s_pair s_word (s_list s_lit)) lo hi x h) (λ f m. inr (of_lits d p f x.1 m))
  makes m_unknown lo hi x h = fewer (OfItem d p (Item.unknown x.0 x.1)) (apart d p (s_pair s_word s_atom) lo hi x h) (λ f m. inr ([], m))
  makes m_pred lo hi x h = joined (declares x.0 h.1) h.2
  makes m_no_params lo hi x h = h
  makes m_schema lo hi x h = of_schema x h
  makes m_requires lo hi x h = h
  makes m_types lo hi x h = empty lo hi (λ f. ⊥) h.ordered (λ f m. m)
  makes m_constants lo hi x h = h
  makes m_predicates lo hi x h = h
  makes m_action lo hi x h = h
  makes m_domain lo hi x h = fewer (λ f. Member (in_domain d p (apply Word m_domain x)) f) (apart d p (s_pair s_none (s_list s_section)) lo hi x h) (λ f m. inr (of_domain f x.1 m))
  makes m_of_domain lo hi x h = h
  makes m_needs lo hi x h = h
  makes m_objects lo hi x h = h
  makes m_init lo hi x h = h
  makes m_goal lo hi x h = h
  makes (m_saw s) lo hi x h = (lo, empty lo lo (λ f. ⊥) (omega arith) (λ f m. m), h)
  makes m_problem lo hi x h = fewer (λ f. Member (in_problem d p (apply Word m_problem x)) f) (apart d p (s_pair s_none (s_list s_given)) lo hi x h) (λ f m. inr (of_problem f x.1 m))

  -- ---- what is read lies between the first token and those that are left

  pub record IsRead (c : Sort) (lo : ℕ) (x : El Word c) (rest : List (Tok Word)) : Type 0 where
    pub hi : ℕ
    pub lies : Lies d p c lo hi x
    pub left : Ascend hi rest

  reads : {b : Bool} {c : Sort} {X : Form b c} {ts rest : List (Tok Word)} {x : El Word c} (lo : ℕ) → ReadBy b c X ts x rest → Ascend lo ts → IsRead c lo x rest
  reads lo (r_token {m = m} {t = t} e) s = record { hi = suc t.word.byte; lies = makes (m t.symbol) lo (suc t.word.byte) t.word (at_word lo t.word s.0); left = s.1 }
  reads lo (r_none {m = m}) s = record { hi = lo; lies = makes m lo lo tt (empty lo lo (λ f. ⊥) (omega arith) (λ f m. m)); left = s }
  reads lo (r_both h k) s = let a = reads lo h s in let b = reads a.hi k a.left in record { hi = b.hi; lies = (a.hi, a.lies, b.lies); left = b.left }
  reads lo (r_after {t = t} {ts = ts} e h) s = reads lo h (past lo t ts s)
  reads lo (r_end e) s = record { hi = lo; lies = empty lo lo (λ f. ⊥) (omega arith) (λ f m. m); left = s }
  reads lo (r_more {a = c} {x = x} e h k) s = let a = reads lo h s in let b = reads a.hi k a.left in record { hi = b.hi; lies = joined (apart d p c lo a.hi x a.lies) b.lies; left = b.left }
  reads lo (r_last e k) s = record { hi = lo; lies = empty lo lo (λ f. ⊥) (omega arith) (λ f m. m); left = s }
  reads lo (r_next {a = c} {x = x} e h k) s =
      let a = reads lo h s in
      let b = reads a.hi k a.left in
      record { hi = b.hi; lies = joined (fewer (May d p c x.1) (apart d p (s_pair s_seen c) lo a.hi x a.lies) (λ f m. inr m)) b.lies; left = b.left }
  reads lo (r_absent {m = m} e) s = record { hi = lo; lies = makes m lo lo tt (empty lo lo (λ f. ⊥) (omega arith) (λ f m. m)); left = s }
  reads lo (r_present e h) s = reads lo h s
  reads lo (r_make {m = m} {x = x} h) s = let a = reads lo h s in record { hi = a.hi; lies = makes m lo a.hi x a.lies; left = a.left }
  reads lo (r_choice h) s = reads lo h s
  reads lo (r_loose h) s = reads lo h s
  reads lo (r_bracket {t = t} {u = u} {ts = ts} {rest = rest} e h k) s = let a = reads lo h (past lo t ts s) in record { hi = a.hi; lies = a.lies; left = past a.hi u rest a.left }
  reads lo (r_within h) s = reads lo h s

  -- ---- texts

  -- of a whole text
  of_text : {b : Bool} {c : Sort} (X : Form b c) (text : List ℕ) (x : El Word c) → ReadsAs X text x → IsRead c 0 x []
  of_text X text x h = reads 0 h.reads (seen_ascend text 0 (length text) h.tokens (spans_in_order h.cut))

-- of two that come first neither comes before the other
one_first : (fs : List Fault) → IsOneForEachToken fs → HasOneFirst fs
one_first fs one f g a b = one f g a.among b.among (omega (arith, a.least g b.among, b.least f a.among))

one_fault : {lo hi : ℕ} (fs : List Fault) → Apart lo hi (λ f. Member fs f) → TokensHaveOneFault fs
one_fault fs a = record { for_each_token = a.single; first = one_first fs a.single }

pub domain_tokens : DomainTokensHaveOneFault
domain_tokens text d p h = one_fault (domain_faults d p) (of_text d p grammar.domain text d h).lies

pub problem_tokens : ProblemTokensHaveOneFault
problem_tokens text d p h = one_fault (problem_faults d p) (of_text d p grammar.problem text p h).lies
