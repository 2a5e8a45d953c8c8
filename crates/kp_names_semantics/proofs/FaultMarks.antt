-- Which faults there may be at the tokens of each part of a tree, and in what span of bytes they lie.
use Rattle.std.proofs.Common.{◌≡◌, ◌⊎◌, inl, inr, ℕ, not, List, [], ◌∷◌, ◌++◌, map}
use Rattle.std.specs.List.{flat_map}
use Rattle.kp_tree_grammar.specs.declared.tree.Word.{Word}
use Rattle.kp_tree_grammar.specs.Trees.{Typed, Term, name, variable, Atom, Cond, conds_of, Eff, effs_of, Lit, Item, items_of, Pred, Schema, Domain, Problem, Section, Given}
use Rattle.kp_tree_grammar.specs.Sorts.{Sort, s_none, s_word, s_pair, s_list, s_typed, s_term, s_atom, s_cond, s_eff, s_lit, s_item, s_pred, s_schema, s_section, s_domain, s_seen, s_given, s_problem, El}
use Rattle.kp_base.specs.Lists.{Member, only_if}
use Rattle.kp_base.proofs.Lists.{append_member}
use Rattle.kp_names_semantics.specs.Names.{Name, is_among}
use Rattle.kp_names_semantics.specs.Types.{declared, types, object_lines}
use Rattle.kp_names_semantics.specs.Faults.{Fault, unknown_name, declared_twice, unless_among, repeated, twice_in, words, type_faults, variable_faults, term_faults, atom_faults, cond_faults, conds_faults, eff_faults, effs_faults, schema_faults, lit_faults, item_faults, items_faults, predicate_faults}
use Rattle.kp_names_semantics.proofs.FaultSpans.{Apart, joined, AnyOf, any_more, any_member, only_member}

-- the name that stands there is unknown
abbrev pub Unknown : Word → Fault → Type 0
Unknown w f = unknown_name w.byte ≡ f

-- the name that stands there is declared twice
abbrev pub Twice : Word → Fault → Type 0
Twice w f = declared_twice w.byte ≡ f

-- a name that is declared, with its types
abbrev pub OfTyped : Typed Word → Fault → Type 0
OfTyped x f = Twice x.word f ⊎ AnyOf Unknown x.kinds f

-- the declaration of a predicate
abbrev pub OfPred : Pred Word → Fault → Type 0
OfPred q f = Twice q.head f ⊎ AnyOf OfTyped q.params f

-- a term
abbrev pub OfTerm : Term Word → Fault → Type 0
OfTerm (name w) f = Unknown w f
OfTerm (variable w) f = Unknown w f

module _ (d : Domain Word) (p : Problem Word) where
  -- the others, some under any variables
  abbrev pub OfAtom : Atom Word → Fault → Type 0
  OfAtom a f = (scope : List Name) × Member (atom_faults d p scope a) f

  abbrev pub OfCond : Cond Word → Fault → Type 0
  OfCond c f = (scope : List Name) × Member (cond_faults d p scope c) f

  abbrev pub OfEff : Eff Word → Fault → Type 0
  OfEff e f = (scope : List Name) × Member (eff_faults d p scope e) f

  abbrev pub OfItem : Item Word → Fault → Type 0
  OfItem i f = Member (item_faults d p i) f

  abbrev pub OfSchema : Schema Word → Fault → Type 0
  OfSchema a f = Twice a.name f ⊎ Member (schema_faults d p a) f

  abbrev pub OfSection : Section Word → Fault → Type 0
  OfSection Section.requires f = ⊥
  OfSection (Section.types xs) f = ⊥
  OfSection (Section.constants xs) f = AnyOf OfTyped xs f
  OfSection (Section.predicates qs) f = AnyOf OfPred qs f
  OfSection (Section.action a) f = OfSchema a f

  abbrev pub OfGiven : Given Word → Fault → Type 0
  OfGiven Given.of_domain f = ⊥
  OfGiven Given.requires f = ⊥
  OfGiven (Given.objects xs) f = AnyOf OfTyped xs f
  OfGiven (Given.init is) f = AnyOf OfItem is f
  OfGiven (Given.goal c) f = OfCond c f

  -- a domain's faults as those of this one
  abbrev pub in_domain : Domain Word → List Fault
  in_domain x = type_faults d x.constants ++ (predicate_faults x.predicates ++ (twice_in (map (λ a. a.name) x.schemas) ++ flat_map (schema_faults d p) x.schemas))

  -- a problem's faults as those of this one
  abbrev pub in_problem : Problem Word → List Fault
  in_problem x = type_faults d x.objects ++ (flat_map (item_faults d p) x.init ++ cond_faults d p [] x.goal)

  -- what may be wrong in a value of this sort
  abbrev pub May : (c : Sort) → El Word c → Fault → Type 0
  May s_none x f = ⊥
  May s_word w f = Unknown w f
  May (s_pair a b) x f = May a x.0 f ⊎ May b x.1 f
  May (s_list a) xs f = AnyOf (May a) xs f
  May s_typed x f = OfTyped x f
  May s_term t f = OfTerm t f
  May s_atom a f = OfAtom a f
  May s_cond c f = OfCond c f
  May s_eff e f = OfEff e f
  May s_lit l f = OfAtom l.atom f
  May s_item i f = OfItem i f
  May s_pred q f = OfPred q f
  May s_schema a f = OfSchema a f
  May s_section x f = OfSection x f
  May s_domain x f = Member (in_domain x) f
  May s_seen x f = ⊥
  May s_given x f = OfGiven x f
  May s_problem x f = Member (in_problem x) f

  -- it lies in the span; of two parts the second lies behind the first
  abbrev pub Lies : (c : Sort) → ℕ → ℕ → El Word c → Type 0
  Lies (s_pair a b) lo hi x = (mid : ℕ) × Lies a lo mid x.0 × Lies b mid hi x.1
  Lies c lo hi x = Apart lo hi (May c x)

  pub apart : (c : Sort) (lo hi : ℕ) (x : El Word c) → Lies c lo hi x → Apart lo hi (May c x)
  apart (s_pair a b) lo hi x h = joined (apart a lo h.0 x.0 h.1) (apart b h.0 hi x.1 h.2)
  apart _ lo hi x h = h

  -- ---- in which part a fault is

  pub of_term : (scope : List Name) (f : Fault) (t : Term Word) → Member (term_faults d p scope t) f → OfTerm t f
  of_term scope f (name w) m = only_member (not (is_among (declared (object_lines d p)) w.text)) f m
  of_term scope f (variable w) m = only_member (not (is_among scope w.text)) f m

  pub of_types : (f : Fault) (xs : List (Typed Word)) → Member (type_faults d xs) f → AnyOf OfTyped xs f
  of_types f xs m =
      any_member OfTyped (λ x. flat_map (unless_among (types d)) x.kinds) f
      (λ x k. inr (any_member Unknown (unless_among (types d)) f (λ w. only_member (not (is_among (types d) w.text)) f) x.kinds k)) xs m

  pub of_twice : {X : Type 0} (word : X → Word) (f : Fault) (ns : List Name) (xs : List X) → Member (repeated ns (map word xs)) f → AnyOf (λ x. Twice (word x)) xs f
  of_twice word f ns [] m = absurd m
  of_twice word f ns (x ∷ xs) m =
      elim (append_member (only_if (is_among ns (word x).text) (declared_twice (word x).byte ∷ [])) (repeated ((word x).text ∷ ns) (map word xs)) f m) [
        | inl a ↦ inl (only_member (is_among ns (word x).text) f a)
        | inr b ↦ inr (of_twice word f ((word x).text ∷ ns) xs b)
      ]

  pub of_words : (f : Fault) (xs : List (Typed Word)) → Member (twice_in (words xs)) f → AnyOf OfTyped xs f
  of_words f xs m = any_more (λ x. Twice x.word) OfTyped f (λ x k. inl k) xs (of_twice (λ x. x.word) f [] xs m)

  pub of_variables : (f : Fault) (xs : List (Typed Word)) → Member (variable_faults d xs) f → AnyOf OfTyped xs f
  of_variables f xs m = elim (append_member (type_faults d xs) (twice_in (words xs)) f m) [ inl a ↦ of_types f xs a | inr b ↦ of_words f xs b ]

  pub of_conds : (scope : List Name) (f : Fault) (cs : List (Cond Word)) → Member (conds_faults d p scope (conds_of cs)) f → AnyOf OfCond cs f
  of_conds scope f [] m = absurd m
  of_conds scope f (c ∷ cs) m = elim (append_member (cond_faults d p scope c) (conds_faults d p scope (conds_of cs)) f m) [ inl a ↦ inl (scope, a) | inr b ↦ inr (of_conds scope f cs b) ]

  pub of_effs : (scope : List Name) (f : Fault) (es : List (Eff Word)) → Member (effs_faults d p scope (effs_of es)) f → AnyOf OfEff es f
  of_effs scope f [] m = absurd m
  of_effs scope f (e ∷ es) m = elim (append_member (eff_faults d p scope e) (effs_faults d p scope (effs_of es)) f m) [ inl a ↦ inl (scope, a) | inr b ↦ inr (of_effs scope f es b) ]

  pub of_items : (f : Fault) (is : List (Item Word)) → Member (items_faults d p (items_of is)) f → AnyOf OfItem is f
  of_items f [] m = absurd m
  of_items f (i ∷ is) m = elim (append_member (item_faults d p i) (items_faults d p (items_of is)) f m) [ inl a ↦ inl a | inr b ↦ inr (of_items f is b) ]

  pub of_lits : (f : Fault) (ls : List (Lit Word)) → Member (flat_map (lit_faults d p) ls) f → AnyOf (λ l. OfAtom l.atom) ls f
  of_lits f ls m = any_member (λ l. OfAtom l.atom) (lit_faults d p) f (λ l k. ([], k)) ls m

  pub of_predicates : (f : Fault) (qs : List (Pred Word)) → Member (predicate_faults qs) f → AnyOf OfPred qs f
  of_predicates f qs m = elim (append_member (twice_in (map (λ q. q.head) qs)) (flat_map (λ q. twice_in (words q.params)) qs) f m) [
    | inl a ↦ any_more (λ q. Twice q.head) OfPred f (λ q k. inl k) qs (of_twice (λ q. q.head) f [] qs a)
    | inr b ↦ any_member OfPred (λ q. twice_in (words q.params)) f (λ q k. inr (of_words f q.params k)) qs b
  ]

  pub of_schemas : (f : Fault) (xs : List (Schema Word)) → Member (twice_in (map (λ a. a.name) xs) ++ flat_map (schema_faults d p) xs) f → AnyOf OfSchema xs f
  of_schemas f xs m = elim (append_member (twice_in (map (λ a. a.name) xs)) (flat_map (schema_faults d p) xs) f m) [
    | inl a ↦ any_more (λ a. Twice a.name) OfSchema f (λ a k. inl k) xs (of_twice (λ a. a.name) f [] xs a)
    | inr b ↦ any_member OfSchema (schema_faults d p) f (λ a k. inr k) xs b
  ]
