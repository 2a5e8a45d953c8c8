-- What a form reads of tokens whose words have a property has only words with it.
use Rattle.std.proofs.Common.{Bool, List, [], ◌∷◌, map}
use Rattle.std.specs.List.{AllByRecursion}
use Rattle.kp_base.proofs.Lists.{each_flat_map}
use Rattle.kp_tree_grammar.specs.declared.tree.Word.{Word}
use Rattle.kp_tree_grammar.specs.Language.{Typed, Term, Atom, Cond, Conds, conds_of, Eff, Effs, effs_of, Lit, Item, Items, items_of, Pred, Schema, Domain, Problem, Tok, Sort, s_none, s_word, s_pair, s_list, s_typed, s_term, s_atom, s_cond, s_eff, s_lit, s_item, s_pred, s_schema, s_section, s_domain, s_seen, s_given, s_problem, El, with_kinds, Maker, m_word, m_drop, m_name, m_variable, m_atom, m_untyped, m_kind, m_kinds, m_typed, m_joined, m_all, m_true, m_holds, m_same, m_both, m_idle, m_when, m_each, m_makes, m_lit, m_items, m_fact, m_one_of, m_any_of, m_unknown, m_pred, m_no_params, m_schema, m_requires, m_types, m_constants, m_predicates, m_action, m_domain, m_of_domain, m_needs, m_objects, m_init, m_goal, m_saw, m_problem, apply, Form, ReadBy, r_token, r_none, r_both, r_after, r_end, r_more, r_last, r_next, r_absent, r_present, r_make, r_choice, r_loose, r_bracket, r_within}
use Rattle.kp_tree_grammar.proofs.Public.{OfSection, of_sections, OfGiven, of_givens}

-- ---- lists

pub all_mapped : {A B : Type 0} (f : A → B) (P : A → Type 0) (Q : B → Type 0) → ((x : A) → P x → Q (f x)) → (xs : List A) → AllByRecursion P xs → AllByRecursion Q (map f xs)
all_mapped f P Q g [] h = tt
all_mapped f P Q g (x ∷ xs) h = (g x h.0, all_mapped f P Q g xs h.1)

module _ (P : Word → Type 0) where
  -- ---- each word of a tree has the property

  abbrev pub OfTyped : Typed Word → Type 0
  OfTyped x = P x.word × AllByRecursion P x.kinds

  abbrev pub OfTerm : Term Word → Type 0
  OfTerm (Term.name w) = P w
  OfTerm (Term.variable w) = P w

  abbrev pub OfAtom : Atom Word → Type 0
  OfAtom a = P a.head × AllByRecursion OfTerm a.terms

  abbrev mutual
    pub OfCond : Cond Word → Type 0
    OfCond (Cond.all cs) = OfConds cs
    OfCond (Cond.atom positive a) = OfAtom a
    OfCond (Cond.same positive left right) = OfTerm left × OfTerm right

    pub OfConds : Conds Word → Type 0
    OfConds Conds.no_cond = Unit {0}
    OfConds (Conds.more_conds c cs) = OfCond c × OfConds cs

  abbrev mutual
    pub OfEff : Eff Word → Type 0
    OfEff (Eff.both es) = OfEffs es
    OfEff (Eff.when c e) = OfCond c × OfEff e
    OfEff (Eff.each xs e) = AllByRecursion OfTyped xs × OfEff e
    OfEff (Eff.makes positive a) = OfAtom a

    pub OfEffs : Effs Word → Type 0
    OfEffs Effs.no_eff = Unit {0}
    OfEffs (Effs.more_effs e es) = OfEff e × OfEffs es

  abbrev pub OfLit : Lit Word → Type 0
  OfLit l = OfAtom l.atom

  abbrev mutual
    pub OfItem : Item Word → Type 0
    OfItem (Item.items is) = OfItems is
    OfItem (Item.fact positive a) = OfAtom a
    OfItem (Item.one_of w ls) = P w × AllByRecursion OfLit ls
    OfItem (Item.any_of w ls) = P w × AllByRecursion OfLit ls
    OfItem (Item.unknown w a) = P w × OfAtom a

    pub OfItems : Items Word → Type 0
    OfItems Items.no_item = Unit {0}
    OfItems (Items.more_items i is) = OfItem i × OfItems is

  abbrev pub OfPred : Pred Word → Type 0
  OfPred q = P q.head × AllByRecursion OfTyped q.params

  abbrev pub OfSchema : Schema Word → Type 0
  OfSchema a = P a.name × AllByRecursion OfTyped a.params × OfCond a.pre × OfEff a.effect

  abbrev pub OfDomain : Domain Word → Type 0
  OfDomain d = AllByRecursion OfTyped d.kinds × AllByRecursion OfTyped d.constants × AllByRecursion OfPred d.predicates × AllByRecursion OfSchema d.schemas

  abbrev pub OfProblem : Problem Word → Type 0
  OfProblem p = AllByRecursion OfTyped p.objects × AllByRecursion OfItem p.init × OfCond p.goal

  -- each word of a value of this sort has it
  abbrev pub Of : (c : Sort) → El Word c → Type 0
  Of s_none x = Unit {0}
  Of s_word w = P w
  Of (s_pair a b) x = Of a x.0 × Of b x.1
  Of (s_list a) xs = AllByRecursion (Of a) xs
  Of s_typed x = OfTyped x
  Of s_term x = OfTerm x
  Of s_atom x = OfAtom x
  Of s_cond x = OfCond x
  Of s_eff x = OfEff x
  Of s_lit x = OfLit x
  Of s_item x = OfItem x
  Of s_pred x = OfPred x
  Of s_schema x = OfSchema x
  Of s_section x = OfSection OfTyped OfPred OfSchema x
  Of s_domain x = OfDomain x
  Of s_seen x = Unit {0}
  Of s_given x = OfGiven OfTyped OfItem OfCond x
  Of s_problem x = OfProblem x

  -- ---- what is made keeps the words

  with_held : (ks ws : List Word) → AllByRecursion P ws → AllByRecursion P ks → AllByRecursion OfTyped (with_kinds ks ws)
  with_held ks [] h g = tt
  with_held ks (w ∷ ws) h g = ((h.0, g), with_held ks ws h.1 g)

  conds_held : (cs : List (Cond Word)) → AllByRecursion OfCond cs → OfConds (conds_of cs)
  conds_held [] h = tt
  conds_held (c ∷ cs) h = (h.0, conds_held cs h.1)

  effs_held : (es : List (Eff Word)) → AllByRecursion OfEff es → OfEffs (effs_of es)
  effs_held [] h = tt
  effs_held (e ∷ es) h = (h.0, effs_held es h.1)

  items_held : (is : List (Item Word)) → AllByRecursion OfItem is → OfItems (items_of is)
  items_held [] h = tt
  items_held (i ∷ is) h = (h.0, items_held is h.1)

  made : {a b : Sort} (m : Maker a b) (x : El Word a) → Of a x → Of b (apply Word m x)
  made m_word x h = h
  made m_drop x h = tt
  made m_name x h = h
  made m_variable x h = h
  made m_atom x h = h
  made m_untyped x h = tt
  made m_kind x h = (h, tt)
  made m_kinds x h = h
  made m_typed x h = with_held x.1 (x.0.0 ∷ x.0.1) h.0 h.1
  made m_joined x h = each_flat_map (λ ts. ts) (AllByRecursion OfTyped) OfTyped (λ ts k. k) x h
  made m_all x h = conds_held x h
  made m_true x h = tt
  made (m_holds b) x h = h
  made (m_same b) x h = h
  made m_both x h = effs_held x h
  made m_idle x h = tt
  made m_when x h = h
  made m_each x h = h
  made (m_makes b) x h = h
  made (m_lit b) x h = h
  made m_items x h = items_held x h
  made (m_fact b) x h = h
  made m_one_of x h = h
  made m_any_of x h = h
  made m_unknown x h = h
  made m_pred x h = h
  made m_no_params x h = tt
  made m_schema x h = (h.0, h.1.0, h.1.1.0, h.1.1.1.0)
  made m_requires x h = tt
  made m_types x h = h
  made m_constants x h = h
  made m_predicates x h = h
  made m_action x h = h
  made m_domain x h = of_sections OfTyped OfPred OfSchema x.1 h.1
  made m_of_domain x h = tt
  made m_needs x h = tt
  made m_objects x h = h
  made m_init x h = h
  made m_goal x h = h
  made (m_saw s) x h = (tt, h)
  made m_problem x h = of_givens OfTyped OfItem OfCond tt x.1 h.1

  -- ---- what is read

  -- the words of the tokens have the property
  abbrev pub OfTokens : List (Tok Word) → Type 0
  OfTokens ts = AllByRecursion (λ t. P t.word) ts

  -- then those of the value and of the tokens that are left have it
  pub held : {b : Bool} {c : Sort} {X : Form b c} {ts rest : List (Tok Word)} {x : El Word c} → ReadBy b c X ts x rest → OfTokens ts → Of c x × OfTokens rest
  held (r_token {m = m} {t = t} e) s = (made (m t.symbol) t.word s.0, s.1)
  held (r_none {m = m}) s = (made m tt tt, s)
  held (r_both h k) s = let a = held h s in let b = held k a.1 in ((a.0, b.0), b.1)
  held (r_after e h) s = held h s.1
  held (r_end e) s = (tt, s)
  held (r_more e h k) s = let a = held h s in let b = held k a.1 in ((a.0, b.0), b.1)
  held (r_last e d) s = (tt, s)
  held (r_next e h k) s = let a = held h s in let b = held k a.1 in ((a.0.1, b.0), b.1)
  held (r_absent {m = m} e) s = (made m tt tt, s)
  held (r_present e h) s = held h s
  held (r_make {m = m} {x = x} h) s = let a = held h s in (made m x a.0, a.1)
  held (r_choice h) s = held h s
  held (r_loose h) s = held h s
  held (r_bracket e h k) s = let a = held h s.1 in (a.0, a.1.1)
  held (r_within h) s = held h s
