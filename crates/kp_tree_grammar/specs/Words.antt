-- Which words are names, and that the names in the trees of files are.
use Rattle.std.specs.Prelude.{◌≡◌, ℕ, List, true}
use Rattle.std.specs.List.{AllByRecursion}
use Rattle.std.specs.Str.{str_to_ascii_lowercase}
use Rattle.kp_lex.specs.declared.token.TokenKind.TheVariants as kinds
use Rattle.kp_lex.specs.Cutting.{IsToken}
use Rattle.kp_tree_grammar.specs.declared.tree.Word.{Word}
use Rattle.kp_tree_grammar.specs.Trees.{Typed, Term, Atom, Cond, Conds, no_cond, more_conds, Eff, Effs, no_eff, more_effs, Lit, Item, Items, no_item, more_items, Pred, Schema, Domain, Problem}
use Rattle.kp_tree_grammar.specs.Symbols.{symbol_of, is_head}
use Rattle.kp_tree_grammar.specs.Grammar.{domain, problem}
use Rattle.kp_tree_grammar.specs.Texts.{ReadsAs}

-- ---- words

-- the word is in lower case
abbrev pub IsLow : List ℕ → Type 0
IsLow w = str_to_ascii_lowercase w ≡ w

-- a Name in lower case
pub record IsName (n : List ℕ) : Type 0 where
  pub token : IsToken kinds.Name n
  pub low : IsLow n

-- a Name in lower case that may be the head of an atom
pub record IsHead (n : List ℕ) : Type 0 where
  pub token : IsToken kinds.Name n
  pub low : IsLow n
  pub head : is_head (symbol_of kinds.Name n) ≡ true

-- ---- trees: the words that they keep as names are names, and those that stand before terms or parameters are heads

-- the types of a variable; of its own name nothing is said
abbrev pub HasNamedTypes : Typed Word → Type 0
HasNamedTypes x = AllByRecursion (λ k. IsName k.text) x.kinds

-- a type, constant or object, and its types
pub record IsNamed (x : Typed Word) : Type 0 where
  pub name : IsName x.word.text
  pub types : HasNamedTypes x

-- an object; of a variable nothing is said
abbrev pub IsNamedTerm : Term Word → Type 0
IsNamedTerm (Term.name w) = IsName w.text
IsNamedTerm (Term.variable w) = Unit {0}

-- an atom
pub record IsNamedAtom (a : Atom Word) : Type 0 where
  pub head : IsHead a.head.text
  pub terms : AllByRecursion IsNamedTerm a.terms

-- a condition
abbrev mutual
  pub IsNamedCond : Cond Word → Type 0
  IsNamedCond (Cond.all cs) = AreNamedConds cs
  IsNamedCond (Cond.atom positive a) = IsNamedAtom a
  IsNamedCond (Cond.same positive left right) = IsNamedTerm left × IsNamedTerm right

  pub AreNamedConds : Conds Word → Type 0
  AreNamedConds no_cond = Unit {0}
  AreNamedConds (more_conds c cs) = IsNamedCond c × AreNamedConds cs

-- an effect
abbrev mutual
  pub IsNamedEff : Eff Word → Type 0
  IsNamedEff (Eff.both es) = AreNamedEffs es
  IsNamedEff (Eff.when c e) = IsNamedCond c × IsNamedEff e
  IsNamedEff (Eff.each xs e) = AllByRecursion HasNamedTypes xs × IsNamedEff e
  IsNamedEff (Eff.makes positive a) = IsNamedAtom a

  pub AreNamedEffs : Effs Word → Type 0
  AreNamedEffs no_eff = Unit {0}
  AreNamedEffs (more_effs e es) = IsNamedEff e × AreNamedEffs es

-- a literal of `oneof` or `or`
abbrev pub IsNamedLit : Lit Word → Type 0
IsNamedLit l = IsNamedAtom l.atom

-- an item of `:init`
abbrev mutual
  pub IsNamedItem : Item Word → Type 0
  IsNamedItem (Item.items is) = AreNamedItems is
  IsNamedItem (Item.fact positive a) = IsNamedAtom a
  IsNamedItem (Item.one_of w ls) = AllByRecursion IsNamedLit ls
  IsNamedItem (Item.any_of w ls) = AllByRecursion IsNamedLit ls
  IsNamedItem (Item.unknown w a) = IsNamedAtom a

  pub AreNamedItems : Items Word → Type 0
  AreNamedItems no_item = Unit {0}
  AreNamedItems (more_items i is) = IsNamedItem i × AreNamedItems is

-- the declaration of a predicate
pub record IsNamedPred (q : Pred Word) : Type 0 where
  pub head : IsHead q.head.text
  pub params : AllByRecursion HasNamedTypes q.params

-- an action schema
pub record IsNamedSchema (s : Schema Word) : Type 0 where
  pub name : IsName s.name.text
  pub params : AllByRecursion HasNamedTypes s.params
  pub pre : IsNamedCond s.pre
  pub effect : IsNamedEff s.effect

-- a domain
pub record IsNamedDomain (d : Domain Word) : Type 0 where
  pub kinds : AllByRecursion IsNamed d.kinds
  pub constants : AllByRecursion IsNamed d.constants
  pub predicates : AllByRecursion IsNamedPred d.predicates
  pub schemas : AllByRecursion IsNamedSchema d.schemas

-- a problem
pub record IsNamedProblem (p : Problem Word) : Type 0 where
  pub objects : AllByRecursion IsNamed p.objects
  pub init : AllByRecursion IsNamedItem p.init
  pub goal : IsNamedCond p.goal

-- ---- laws: the trees of files are so

-- the names in the tree of a domain file are names
abbrev pub DomainsAreNamed : Type 0
DomainsAreNamed = (text : List ℕ) (d : Domain Word) → ReadsAs domain text d → IsNamedDomain d

-- the names in the tree of a problem file are names
abbrev pub ProblemsAreNamed : Type 0
ProblemsAreNamed = (text : List ℕ) (p : Problem Word) → ReadsAs problem text p → IsNamedProblem p
