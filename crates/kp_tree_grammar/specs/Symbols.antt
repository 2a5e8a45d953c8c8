-- Tokens as the grammar sees them: what each is, and its word.
use Rattle.std.specs.Prelude.{ℕ, List, [], ◌∷◌, Bool, true, false, ◌||◌, bytes_eq, codes, map, if◌then◌else◌}
use Rattle.kp_lex.specs.declared.token.TokenKind.{TokenKind}
use Rattle.kp_lex.specs.declared.token.TokenKind.TheVariants as kinds
use Rattle.kp_lex.specs.declared.token.Token.{Token}
use Rattle.kp_lex.specs.Words.{folded}
use Rattle.kp_tree_grammar.specs.declared.symbol.Symbol.{Symbol}
use Rattle.kp_tree_grammar.specs.declared.symbol.Symbol.TheVariants as symbols
use Rattle.kp_tree_grammar.specs.declared.tree.Word.{Word}

-- a token: what it is, and its word
pub record Tok (W : Type 0) : Type 0 where
  pub symbol : Symbol
  pub word : W

-- ---- words that the grammar knows

-- each word with its symbol
abbrev pub Table : Type 0
Table = List (List ℕ × Symbol)

-- the names that the grammar knows
abbrev pub known_words : Table
known_words =
    (codes "and", symbols.And) ∷ (codes "or", symbols.Or) ∷ (codes "not", symbols.Not) ∷ (codes "imply", symbols.Imply) ∷ (codes "exists", symbols.Exists)
    ∷ (codes "forall", symbols.Forall) ∷ (codes "when", symbols.When) ∷ (codes "oneof", symbols.OneOf) ∷ (codes "unknown", symbols.Unknown)
    ∷ (codes "preference", symbols.Preference) ∷ (codes "probabilistic", symbols.Probabilistic) ∷ (codes "increase", symbols.Increase) ∷ (codes "decrease", symbols.Decrease)
    ∷ (codes "assign", symbols.Assign) ∷ (codes "scale-up", symbols.ScaleUp) ∷ (codes "scale-down", symbols.ScaleDown)
    ∷ (codes "define", symbols.Define) ∷ (codes "domain", symbols.Domain) ∷ (codes "problem", symbols.Problem) ∷ (codes "either", symbols.Either) ∷ (codes "merge", symbols.Merge) ∷ []

-- the keywords of the language
abbrev pub keywords : Table
keywords =
    (codes ":requirements", symbols.Requirements) ∷ (codes ":types", symbols.Types) ∷ (codes ":constants", symbols.Constants) ∷ (codes ":predicates", symbols.Predicates)
    ∷ (codes ":action", symbols.Action) ∷ (codes ":parameters", symbols.Parameters) ∷ (codes ":precondition", symbols.Precondition) ∷ (codes ":effect", symbols.Effect)
    ∷ (codes ":domain", symbols.OfDomain) ∷ (codes ":objects", symbols.Objects) ∷ (codes ":init", symbols.Init) ∷ (codes ":goal", symbols.Goal) ∷ []

-- keywords that are known and not supported
abbrev pub refused_keywords : Table
refused_keywords =
    (codes ":functions", symbols.Functions) ∷ (codes ":derived", symbols.Derived) ∷ (codes ":axiom", symbols.Axiom) ∷ (codes ":durative-action", symbols.DurativeAction)
    ∷ (codes ":constraints", symbols.Constraints) ∷ (codes ":process", symbols.Process) ∷ (codes ":event", symbols.Event)
    ∷ (codes ":observe", symbols.Observe) ∷ (codes ":vars", symbols.Vars) ∷ (codes ":metric", symbols.Metric) ∷ (codes ":length", symbols.Length) ∷ []

-- what the table says of a word, or the other symbol where it says nothing
abbrev pub look_up : Table → Symbol → List ℕ → Symbol
look_up [] other w = other
look_up (e ∷ es) other w = if bytes_eq w e.0 then e.1 else look_up es other w

-- what a token with this folded text is
unfoldable pub symbol_of : TokenKind → List ℕ → Symbol
symbol_of kinds.Left w = symbols.Left
symbol_of kinds.Right w = symbols.Right
symbol_of kinds.Dash w = symbols.Dash
symbol_of kinds.Equal w = symbols.Equal
symbol_of kinds.Variable w = symbols.Variable
symbol_of kinds.Name w = look_up known_words symbols.Name w
symbol_of kinds.Keyword w = look_up keywords (look_up refused_keywords symbols.Keyword w) w

-- a token of a text, with its folded text and its place
abbrev pub seen_in : List ℕ → Token → Tok Word
seen_in text t = record { symbol = symbol_of t.kind (folded text t); word = record { text = folded text t; byte = t.from } }

-- the tokens of a text
abbrev pub all_seen_in : List ℕ → List Token → List (Tok Word)
all_seen_in text ts = map (seen_in text) ts

-- ---- tests on symbols

-- a token for which the test holds stands first
abbrev pub first_is : {W : Type 0} → (Symbol → Bool) → List (Tok W) → Bool
first_is p [] = false
first_is p (t ∷ ts) = p t.symbol

-- no token
abbrev pub no_symbol : Symbol → Bool
no_symbol _ = false

-- `(`
abbrev pub is_left : Symbol → Bool
is_left symbols.Left = true
is_left _ = false

-- `)`
abbrev pub is_right : Symbol → Bool
is_right symbols.Right = true
is_right _ = false

-- `-`
abbrev pub is_dash : Symbol → Bool
is_dash symbols.Dash = true
is_dash _ = false

-- `=`
abbrev pub is_equal : Symbol → Bool
is_equal symbols.Equal = true
is_equal _ = false

-- a variable
abbrev pub is_variable : Symbol → Bool
is_variable symbols.Variable = true
is_variable _ = false

-- `and`
abbrev pub is_and : Symbol → Bool
is_and symbols.And = true
is_and _ = false

-- `or`
abbrev pub is_or : Symbol → Bool
is_or symbols.Or = true
is_or _ = false

-- `not`
abbrev pub is_not : Symbol → Bool
is_not symbols.Not = true
is_not _ = false

-- `when`
abbrev pub is_when : Symbol → Bool
is_when symbols.When = true
is_when _ = false

-- `forall`
abbrev pub is_forall : Symbol → Bool
is_forall symbols.Forall = true
is_forall _ = false

-- `oneof`
abbrev pub is_one_of : Symbol → Bool
is_one_of symbols.OneOf = true
is_one_of _ = false

-- `unknown`
abbrev pub is_unknown : Symbol → Bool
is_unknown symbols.Unknown = true
is_unknown _ = false

-- `define`
abbrev pub is_define : Symbol → Bool
is_define symbols.Define = true
is_define _ = false

-- `domain`
abbrev pub is_domain : Symbol → Bool
is_domain symbols.Domain = true
is_domain _ = false

-- `problem`
abbrev pub is_problem : Symbol → Bool
is_problem symbols.Problem = true
is_problem _ = false

-- `either`
abbrev pub is_either : Symbol → Bool
is_either symbols.Either = true
is_either _ = false

-- `merge`
abbrev pub is_merge : Symbol → Bool
is_merge symbols.Merge = true
is_merge _ = false

-- `:requirements`
abbrev pub is_requirements : Symbol → Bool
is_requirements symbols.Requirements = true
is_requirements _ = false

-- `:types`
abbrev pub is_types : Symbol → Bool
is_types symbols.Types = true
is_types _ = false

-- `:constants`
abbrev pub is_constants : Symbol → Bool
is_constants symbols.Constants = true
is_constants _ = false

-- `:predicates`
abbrev pub is_predicates : Symbol → Bool
is_predicates symbols.Predicates = true
is_predicates _ = false

-- `:action`
abbrev pub is_action : Symbol → Bool
is_action symbols.Action = true
is_action _ = false

-- `:parameters`
abbrev pub is_parameters : Symbol → Bool
is_parameters symbols.Parameters = true
is_parameters _ = false

-- `:precondition`
abbrev pub is_precondition : Symbol → Bool
is_precondition symbols.Precondition = true
is_precondition _ = false

-- `:effect`
abbrev pub is_effect : Symbol → Bool
is_effect symbols.Effect = true
is_effect _ = false

-- `:domain`
abbrev pub is_of_domain : Symbol → Bool
is_of_domain symbols.OfDomain = true
is_of_domain _ = false

-- `:objects`
abbrev pub is_objects : Symbol → Bool
is_objects symbols.Objects = true
is_objects _ = false

-- `:init`
abbrev pub is_init : Symbol → Bool
is_init symbols.Init = true
is_init _ = false

-- `:goal`
abbrev pub is_goal : Symbol → Bool
is_goal symbols.Goal = true
is_goal _ = false

-- a name that may be the head of an atom
abbrev pub is_head : Symbol → Bool
is_head symbols.Define = true
is_head symbols.Domain = true
is_head symbols.Problem = true
is_head symbols.Either = true
is_head symbols.Merge = true
is_head symbols.Name = true
is_head _ = false

-- a name that is no head
abbrev pub is_reserved : Symbol → Bool
is_reserved symbols.And = true
is_reserved symbols.Or = true
is_reserved symbols.Not = true
is_reserved symbols.Imply = true
is_reserved symbols.Exists = true
is_reserved symbols.Forall = true
is_reserved symbols.When = true
is_reserved symbols.OneOf = true
is_reserved symbols.Unknown = true
is_reserved symbols.Preference = true
is_reserved symbols.Probabilistic = true
is_reserved symbols.Increase = true
is_reserved symbols.Decrease = true
is_reserved symbols.Assign = true
is_reserved symbols.ScaleUp = true
is_reserved symbols.ScaleDown = true
is_reserved _ = false

-- any name
abbrev pub is_name : Symbol → Bool
is_name s = is_head s || is_reserved s

-- what a term begins with
abbrev pub is_term : Symbol → Bool
is_term s = is_variable s || is_name s

-- any keyword
abbrev pub is_keyword : Symbol → Bool
is_keyword symbols.Requirements = true
is_keyword symbols.Types = true
is_keyword symbols.Constants = true
is_keyword symbols.Predicates = true
is_keyword symbols.Action = true
is_keyword symbols.Parameters = true
is_keyword symbols.Precondition = true
is_keyword symbols.Effect = true
is_keyword symbols.OfDomain = true
is_keyword symbols.Objects = true
is_keyword symbols.Init = true
is_keyword symbols.Goal = true
is_keyword symbols.Functions = true
is_keyword symbols.Derived = true
is_keyword symbols.Axiom = true
is_keyword symbols.DurativeAction = true
is_keyword symbols.Constraints = true
is_keyword symbols.Process = true
is_keyword symbols.Event = true
is_keyword symbols.Observe = true
is_keyword symbols.Vars = true
is_keyword symbols.Metric = true
is_keyword symbols.Length = true
is_keyword symbols.Keyword = true
is_keyword _ = false

-- a token of the kind
abbrev pub kind_test : TokenKind → Symbol → Bool
kind_test kinds.Left = is_left
kind_test kinds.Right = is_right
kind_test kinds.Dash = is_dash
kind_test kinds.Equal = is_equal
kind_test kinds.Name = is_name
kind_test kinds.Variable = is_variable
kind_test kinds.Keyword = is_keyword
