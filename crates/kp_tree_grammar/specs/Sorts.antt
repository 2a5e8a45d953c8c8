-- What forms give, and how trees are made of it.
use Rattle.std.specs.Prelude.{List, [], ◌∷◌, Bool}
use Rattle.std.specs.List.{flat_map}
use Rattle.kp_tree_grammar.specs.declared.symbol.Symbol.{Symbol}
use Rattle.kp_tree_grammar.specs.Trees.{Typed, Term, name, variable, Atom, Cond, conds_of, Eff, effs_of, Lit, Item, items_of, Pred, Schema, Domain, Problem, Section, section_types, section_constants, section_predicates, section_schemas, Given, given_objects, given_items, goal_of}

-- the sorts of what is read
pub data Sort : Type 0 where
  s_none : Sort
  s_word : Sort
  s_pair : Sort → Sort → Sort
  s_list : Sort → Sort
  s_typed : Sort
  s_term : Sort
  s_atom : Sort
  s_cond : Sort
  s_eff : Sort
  s_lit : Sort
  s_item : Sort
  s_pred : Sort
  s_schema : Sort
  s_section : Sort
  s_domain : Sort
  s_seen : Sort
  s_given : Sort
  s_problem : Sort

-- the keywords of those sections that have stood and restrict what may follow
abbrev pub Seen : Type 0
Seen = List Symbol

-- the values of a sort
abbrev pub El : Type 0 → Sort → Type 0
El W s_none = Unit {0}
El W s_word = W
El W (s_pair a b) = El W a × El W b
El W (s_list a) = List (El W a)
El W s_typed = Typed W
El W s_term = Term W
El W s_atom = Atom W
El W s_cond = Cond W
El W s_eff = Eff W
El W s_lit = Lit W
El W s_item = Item W
El W s_pred = Pred W
El W s_schema = Schema W
El W s_section = Section W
El W s_domain = Domain W
El W s_seen = Seen
El W s_given = Given W
El W s_problem = Problem W

-- the types of the words X+ that stand before one `- kind`
abbrev pub with_kinds : {W : Type 0} → List W → List W → List (Typed W)
with_kinds ks [] = []
with_kinds ks (w ∷ ws) = record { word = w; kinds = ks } ∷ with_kinds ks ws

-- what is made of what was read
pub data Maker : Sort → Sort → Type 0 where
  m_word : Maker s_word s_word
  m_drop : {a : Sort} → Maker a s_none
  m_name : Maker s_word s_term
  m_variable : Maker s_word s_term
  m_atom : Maker (s_pair s_word (s_list s_term)) s_atom
  m_untyped : Maker s_none (s_list s_word)
  m_kind : Maker s_word (s_list s_word)
  m_kinds : Maker (s_pair s_word (s_list s_word)) (s_list s_word)
  m_typed : Maker (s_pair (s_pair s_word (s_list s_word)) (s_list s_word)) (s_list s_typed)
  m_joined : Maker (s_list (s_list s_typed)) (s_list s_typed)
  m_all : Maker (s_list s_cond) s_cond
  m_true : Maker s_none s_cond
  m_holds : Bool → Maker s_atom s_cond
  m_same : Bool → Maker (s_pair s_term s_term) s_cond
  m_both : Maker (s_list s_eff) s_eff
  m_idle : Maker s_none s_eff
  m_when : Maker (s_pair s_cond s_eff) s_eff
  m_each : Maker (s_pair (s_list s_typed) s_eff) s_eff
  m_makes : Bool → Maker s_atom s_eff
  m_lit : Bool → Maker s_atom s_lit
  m_items : Maker (s_list s_item) s_item
  m_fact : Bool → Maker s_atom s_item
  m_one_of : Maker (s_pair s_word (s_list s_lit)) s_item
  m_any_of : Maker (s_pair s_word (s_list s_lit)) s_item
  m_unknown : Maker (s_pair s_word s_atom) s_item
  m_pred : Maker (s_pair s_word (s_list s_typed)) s_pred
  m_no_params : Maker s_none (s_list s_typed)
  m_schema : Maker (s_pair s_word (s_pair (s_list s_typed) (s_pair s_cond (s_pair s_eff s_none)))) s_schema
  m_requires : Maker s_none s_section
  m_types : Maker (s_list s_typed) s_section
  m_constants : Maker (s_list s_typed) s_section
  m_predicates : Maker (s_list s_pred) s_section
  m_action : Maker s_schema s_section
  m_domain : Maker (s_pair s_none (s_list s_section)) s_domain
  m_of_domain : Maker s_none s_given
  m_needs : Maker s_none s_given
  m_objects : Maker (s_list s_typed) s_given
  m_init : Maker (s_list s_item) s_given
  m_goal : Maker s_cond s_given
  m_saw : {a : Sort} → Seen → Maker a (s_pair s_seen a)
  m_problem : Maker (s_pair s_none (s_list s_given)) s_problem

-- what is made of a value
abbrev pub apply : (W : Type 0) {a b : Sort} → Maker a b → El W a → El W b
apply W m_word x = x
apply W m_drop x = tt
apply W m_name x = name x
apply W m_variable x = variable x
apply W m_atom x = record { head = x.0; terms = x.1 }
apply W m_untyped x = []
apply W m_kind x = x ∷ []
apply W m_kinds x = x.0 ∷ x.1
apply W m_typed x = with_kinds x.1 (x.0.0 ∷ x.0.1)
apply W m_joined x = flat_map (λ ts. ts) x
apply W m_all x = Cond.all (conds_of x)
apply W m_true x = Cond.all (conds_of [])
apply W (m_holds b) x = Cond.atom b x
apply W (m_same b) x = Cond.same b x.0 x.1
apply W m_both x = Eff.both (effs_of x)
apply W m_idle x = Eff.both (effs_of [])
apply W m_when x = Eff.when x.0 x.1
apply W m_each x = Eff.each x.0 x.1
apply W (m_makes b) x = Eff.makes b x
apply W (m_lit b) x = record { positive = b; atom = x }
apply W m_items x = Item.items (items_of x)
apply W (m_fact b) x = Item.fact b x
apply W m_one_of x = Item.one_of x.0 x.1
apply W m_any_of x = Item.any_of x.0 x.1
apply W m_unknown x = Item.unknown x.0 x.1
apply W m_pred x = record { head = x.0; params = x.1 }
apply W m_no_params x = []
apply W m_schema x = record { name = x.0; params = x.1.0; pre = x.1.1.0; effect = x.1.1.1.0 }
apply W m_requires x = Section.requires
apply W m_types x = Section.types x
apply W m_constants x = Section.constants x
apply W m_predicates x = Section.predicates x
apply W m_action x = Section.action x
apply W m_domain x = record { kinds = flat_map section_types x.1; constants = flat_map section_constants x.1; predicates = flat_map section_predicates x.1; schemas = flat_map section_schemas x.1 }
apply W m_of_domain x = Given.of_domain
apply W m_needs x = Given.requires
apply W m_objects x = Given.objects x
apply W m_init x = Given.init x
apply W m_goal x = Given.goal x
apply W (m_saw s) x = (s, x)
apply W m_problem x = record { objects = flat_map given_objects x.1; init = flat_map given_items x.1; goal = goal_of x.1 }
