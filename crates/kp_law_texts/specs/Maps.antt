-- What a form reads with another word in the place of each, and that reading doesn't depend on places.
use Rattle.std.specs.Prelude.{◌≡◌, ℕ, List, map, Bool}
use Rattle.kp_tree_grammar.specs.declared.tree.Word.{Word}
use Rattle.kp_tree_grammar.specs.Language.{Section, Given, Tok, Sort, s_none, s_word, s_pair, s_list, s_typed, s_term, s_atom, s_cond, s_eff, s_lit, s_item, s_pred, s_schema, s_section, s_domain, s_seen, s_given, s_problem, El, Form, ReadsWhole, typed_map, term_map, atom_map, cond_map, eff_map, lit_map, item_map, pred_map, schema_map, domain_map, problem_map}
use Rattle.kp_law_texts.specs.Tokens.{text_of, bare}

module _ {V W : Type 0} where
  -- a section with f of each word in its place
  abbrev pub section_map : (V → W) → Section V → Section W
  section_map f Section.requires = Section.requires
  section_map f (Section.types xs) = Section.types (map (typed_map f) xs)
  section_map f (Section.constants xs) = Section.constants (map (typed_map f) xs)
  section_map f (Section.predicates ps) = Section.predicates (map (pred_map f) ps)
  section_map f (Section.action a) = Section.action (schema_map f a)

  -- of a problem
  abbrev pub given_map : (V → W) → Given V → Given W
  given_map f Given.of_domain = Given.of_domain
  given_map f Given.requires = Given.requires
  given_map f (Given.objects xs) = Given.objects (map (typed_map f) xs)
  given_map f (Given.init is) = Given.init (map (item_map f) is)
  given_map f (Given.goal c) = Given.goal (cond_map f c)

-- a value of any sort
abbrev pub el_map : (V W : Type 0) → (V → W) → (c : Sort) → El V c → El W c
el_map V W f s_none x = tt
el_map V W f s_word x = f x
el_map V W f (s_pair a b) x = (el_map V W f a x.0, el_map V W f b x.1)
el_map V W f (s_list a) x = map (el_map V W f a) x
el_map V W f s_typed x = typed_map f x
el_map V W f s_term x = term_map f x
el_map V W f s_atom x = atom_map f x
el_map V W f s_cond x = cond_map f x
el_map V W f s_eff x = eff_map f x
el_map V W f s_lit x = lit_map f x
el_map V W f s_item x = item_map f x
el_map V W f s_pred x = pred_map f x
el_map V W f s_schema x = schema_map f x
el_map V W f s_section x = section_map f x
el_map V W f s_domain x = domain_map f x
el_map V W f s_seen x = x
el_map V W f s_given x = given_map f x
el_map V W f s_problem x = problem_map f x

-- a value without places
abbrev pub without_places : (c : Sort) → El Word c → El (List ℕ) c
without_places c x = el_map Word (List ℕ) text_of c x

-- the tokens read as a value that becomes y when its places are dropped
pub record ReadsWithPlaces {b : Bool} {c : Sort} (X : Form b c) (ts : List (Tok Word)) (y : El (List ℕ) c) : Type 0 where
  pub tree : El Word c
  pub is : without_places c tree ≡ y
  pub reads : ReadsWhole X ts tree

-- ---- a law

-- what tokens read as without their places, they read as with them
abbrev pub PlacesDontMatter : Type 0
PlacesDontMatter = (b : Bool) (c : Sort) (X : Form b c) (ts : List (Tok Word)) (y : El (List ℕ) c) → ReadsWhole X (map bare ts) y → ReadsWithPlaces X ts y
